pub mod Tapes
pub mod Checking
pub mod Walking
pub mod Lengths
