mod TextLemmas
mod SoundMembers
mod Exact
mod OneOf
mod Numbers
mod GateTables
mod Members
mod Files
mod Heads
mod HeadLaws
mod PartSteps
mod Folds
mod Places
mod RankedFiles
mod Layouts
mod WholeFiles
pub mod Unique
