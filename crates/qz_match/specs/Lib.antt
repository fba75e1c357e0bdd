pub mod Kinds
pub mod Neighbours
pub mod Walks
pub mod Starts
pub mod Flags
pub mod Occurring
pub mod Words
pub mod Rows
