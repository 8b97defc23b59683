pub mod Laws
pub mod Strings
pub mod Buffer
pub mod Texts
pub mod Positions
