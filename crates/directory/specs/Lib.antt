pub mod Roots
pub mod Routines
pub mod Refusals
