pub mod Keys
pub mod Contexts
pub mod Answers
