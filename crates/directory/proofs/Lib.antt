pub mod Rooms
pub mod Manifests
