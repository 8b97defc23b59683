pub mod Values
pub mod Walks
pub mod Whole
pub mod Parts
