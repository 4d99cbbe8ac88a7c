pub mod HeldPins
pub mod Distances
pub mod Counting
pub mod Telling
pub mod Pieces
mod WorkedRows
mod SpokenRows
mod EventRows
mod AssumedRows
mod SpokenTelling
mod SpokenPairs
pub mod SpokenEnds
pub mod SpokenTold
pub mod SpokenNames
pub mod SpokenTrace
pub mod ConductLists
pub mod PlainSpans
