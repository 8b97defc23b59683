pub mod Places
pub mod Walks
pub mod Conditions
pub mod Gathering
pub mod Loops
