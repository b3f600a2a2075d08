pub mod Responses
pub mod Steps
pub mod OwnRows
pub mod Ended
pub mod Truths
pub mod Opened
