-- What is proved of the definition
pub mod Theorems
-- Laws that it cites, and that rest on a statement or a definition that an edit of must-fail/ makes false
pub mod ChosenKey
pub mod AppliedKey
pub mod Created
pub mod ListLength
pub mod RoomForTexts
