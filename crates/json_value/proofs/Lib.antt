pub mod Values
pub mod Loops
