-- What workers gather. Reading order: Gathered.
pub mod Gathered
