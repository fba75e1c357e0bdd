mod Modular
mod WayValues
mod WeighedSums
mod Bases
mod Sixteenths
pub mod Law
mod Lists
mod PlaceLemmas
mod StepValues
mod StandsLemmas
mod ProbeTables
mod Powers
mod Worths
mod SumLemmas
