pub mod Modulo
pub mod Weights
pub mod Fingerprint
pub mod Actions
pub mod Stands
pub mod Tables
