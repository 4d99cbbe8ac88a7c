pub mod Effects
pub mod Placed
pub mod Written
pub mod Planned
pub mod SimpleTicks
pub mod WholeTicks
pub mod Fair
pub mod Calm
pub mod Words
pub mod Decoding
pub mod Taken
pub mod Ticks
pub mod Flow
pub mod Waits
pub mod Autopull
pub mod OwnPins
pub mod Stirs
pub mod StallFlags
mod RulesRows
mod SeenRows
