mod LeftLaws
mod TickLaws
mod Counts
