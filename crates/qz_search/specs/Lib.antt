pub mod PlanFaults
pub mod Costs
pub mod Offers
pub mod Circuits
pub mod Classes
pub mod Renamings
pub mod Tables
pub mod Rounds
