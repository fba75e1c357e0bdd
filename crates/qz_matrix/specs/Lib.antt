pub mod Entries
pub mod AfterGate
