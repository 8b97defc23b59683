pub mod Routines
