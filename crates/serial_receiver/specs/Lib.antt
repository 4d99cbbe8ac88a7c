pub mod Frames
pub mod FrameText
pub mod Hearing
