pub mod DifferentOnes
pub mod Ranks
pub mod QueueLists
pub mod Costs
pub mod Fronts
pub mod LastOnes
pub mod FirstOnes
