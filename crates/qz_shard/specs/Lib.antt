pub mod Journals
pub mod Shards
pub mod Held
