pub mod Counts
mod Rising
pub mod Rounds
pub mod Interleavings
pub mod Vectors
mod HeldRounds
