pub mod ByteLists
pub mod FragmentSteps
pub mod HeapRoom
pub mod Images
pub mod KeepsWritten
pub mod KeptTargets
pub mod KnownLabels
pub mod NewCodeLaws
pub mod NewTables
pub mod NodeCount
pub mod NodeFragments
pub mod NodeItems
pub mod OkLaws
pub mod PartRoom
pub mod Parts
pub mod PartsFit
pub mod PlainNodes
pub mod Planned
pub mod RewriteLaws
pub mod SiteSums
pub mod Standing
pub mod StandingFragments
pub mod TargetRange
pub mod TrimmedLast
mod TablesPart
mod TargetsAscend
