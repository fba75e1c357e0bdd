pub mod Lowered
pub mod IndexLemmas
pub mod WholeChains
pub mod PartLemmas
pub mod Descending
pub mod RankChains
