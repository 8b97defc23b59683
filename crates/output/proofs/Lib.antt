pub mod Spreading
pub mod TextLengths
pub mod Endings
pub mod Filling
pub mod Delivering
