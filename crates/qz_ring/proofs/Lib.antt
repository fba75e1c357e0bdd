pub mod Numbers
pub mod Order
pub mod Canonical
pub mod Sums
pub mod Counts
pub mod MergeSteps
pub mod Shifts
pub mod TermTests
