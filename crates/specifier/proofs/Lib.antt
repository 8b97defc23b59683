pub mod Fragment
pub mod Parsed
