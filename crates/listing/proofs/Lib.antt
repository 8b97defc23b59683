mod Seek
mod Partings
mod Eights
pub mod Numbers
