mod Bounds
mod ReverseLaws
mod BitLaws
