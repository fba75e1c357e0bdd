mod Split
mod Placed
mod Turns
mod MovedWays
mod InstanceGates
pub mod EquivalentInstances
mod InstanceCosts
