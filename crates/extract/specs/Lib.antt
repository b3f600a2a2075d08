pub mod Tables
pub mod Knowing
pub mod Unread
pub mod Places
