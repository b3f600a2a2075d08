mod Keeping
pub mod Counting
pub mod FromExtract
pub mod FromTouchedPlaces
pub mod Settling
pub mod Taken
