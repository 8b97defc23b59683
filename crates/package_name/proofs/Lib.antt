pub mod Bare
pub mod Parts
pub mod Climb
