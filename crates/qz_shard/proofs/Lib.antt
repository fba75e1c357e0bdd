pub mod Zipped
pub mod Partitions
mod Insertion
mod Walk
mod ClassParts
mod HeldShards
mod ShardSteps
pub mod Crossing
