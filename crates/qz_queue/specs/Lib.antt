pub mod Circuits
pub mod HeldQueue
pub mod Bars
