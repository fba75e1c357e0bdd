mod RankLaws
mod LowerLaws
mod RisingRuns
mod SortedLists
mod JournalClasses
mod LastGates
pub mod ShardLemmas
mod ClassMembers
mod FirstLemmas
mod ListingLemmas
pub mod RoundLemmas
mod CountLemmas
mod RankRows
mod CandidateRows
pub mod RoundSteps
mod FirstRanks
pub mod ReportLaws
