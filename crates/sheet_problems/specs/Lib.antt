pub mod Examples
pub mod Forms
pub mod FromFormExtraction
pub mod FromSolverNames
pub mod Laws
pub mod Places
pub mod SheetProblem
