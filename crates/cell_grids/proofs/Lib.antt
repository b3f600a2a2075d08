pub mod AreaCells
pub mod LookRows
pub mod AreaRows
