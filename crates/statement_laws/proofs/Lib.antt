pub mod OnceEach
pub mod ReadAreas
pub mod SaidKinds
pub mod SideNumbers
pub mod ReadNames
pub mod RowPlaces
pub mod Wholes
pub mod ToldCells
