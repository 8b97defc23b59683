pub mod Keys
pub mod Contexts
pub mod Targets
pub mod Parsing
