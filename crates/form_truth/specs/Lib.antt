pub mod Rows
pub mod Laws
pub mod Products
pub mod Answered
pub mod Bending
pub mod Table
pub mod Picks
