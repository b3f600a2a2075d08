pub mod Line
pub mod Words
pub mod Read
pub mod Given
