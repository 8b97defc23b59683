pub mod Places
pub mod Conditions
pub mod Answers
