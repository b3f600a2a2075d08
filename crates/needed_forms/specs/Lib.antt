pub mod Firsts
pub mod FromExtract
pub mod FromFormExtraction
pub mod FromFormNeeds
pub mod FromNeededCells
pub mod FromSheetProblems
pub mod Stages
pub mod Told
