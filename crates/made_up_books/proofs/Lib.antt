pub mod Drawing
pub mod InTurn
pub mod NoFault
pub mod Opening
pub mod Room
pub mod Short
pub mod Whole
