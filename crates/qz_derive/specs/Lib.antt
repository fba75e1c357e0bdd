pub mod Indexes
pub mod Descents
pub mod Answers
