pub mod Coming
pub mod Placing
pub mod Fitting
pub mod PlacedNexts
pub mod Passages
pub mod RowNexts
pub mod Grids
pub mod Reaching
pub mod Joins
pub mod Counts
pub mod Totals
pub mod Takes
pub mod Ends
pub mod Filled
pub mod Least
pub mod Firsts
pub mod Only
pub mod Members
pub mod Prefix
pub mod Pushed
pub mod Marked
pub mod Queues
pub mod Slack
pub mod Capped
pub mod Settling
mod BadRows
mod NumberRows
