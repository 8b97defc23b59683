pub mod Meaning
pub mod Walked
pub mod Left
