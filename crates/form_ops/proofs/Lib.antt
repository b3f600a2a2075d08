pub mod Answering
pub mod BestOfAll
pub mod FromFormTruth
pub mod Junctions
pub mod Pairwise
pub mod Truth
pub mod Trying
