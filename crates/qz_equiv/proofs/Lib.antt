pub mod WorkedValues
mod RootLemmas
mod PhaseLemmas
mod DecisionLemmas
