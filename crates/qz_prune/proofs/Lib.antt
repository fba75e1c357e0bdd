pub mod Identity
pub mod Covered
pub mod PairChains
pub mod GivenPairs
pub mod Steps
pub mod PermutationLemmas
