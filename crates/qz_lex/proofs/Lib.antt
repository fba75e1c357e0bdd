pub mod LexLemmas
mod ValueLemmas
mod ChainLemmas
pub mod LongestLemmas
mod FrontLemmas
pub mod CutLemmas
