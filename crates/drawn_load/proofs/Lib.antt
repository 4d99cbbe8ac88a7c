mod DrawLaws
mod Schedules
mod OneSetup
mod Counting
mod Moves
mod Pieces
