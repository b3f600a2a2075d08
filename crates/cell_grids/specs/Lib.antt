pub mod Full
pub mod AreaRows
