pub mod Objects
pub mod Selections
pub mod Resolutions
