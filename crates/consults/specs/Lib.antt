pub mod Ends
pub mod Tape
pub mod Caught
pub mod Loop
pub mod Meaning
