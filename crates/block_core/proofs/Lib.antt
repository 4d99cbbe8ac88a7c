pub mod Steps
pub mod Runs
pub mod Ticking
pub mod Writes
pub mod MergedWants
pub mod OwnPlace
pub mod Unused
pub mod PlacesTold
pub mod LeaptRun
pub mod Firsts
pub mod LeaptSlot
pub mod LeaptPlaces
pub mod NextStirs
pub mod Beginning
pub mod LeaptTwin
pub mod TwinRuns
pub mod SimpleClocks
pub mod SimpleSteps
pub mod StirRows
pub mod TwinRows
pub mod InsideRows
pub mod Insides
pub mod Showing
pub mod TickNumbers
mod DelayEnds
mod ClocksOfNote
mod ConductRows
