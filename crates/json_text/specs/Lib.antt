pub mod Scanned
pub mod Decoded
pub mod Texts
