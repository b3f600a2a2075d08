pub mod Moved
pub mod Raised
pub mod Agreed
pub mod Priced
pub mod Numbers
pub mod Told
pub mod Looping
pub mod ByExample
