pub mod Permutations
pub mod Seen
