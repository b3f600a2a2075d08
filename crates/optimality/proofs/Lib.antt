pub mod Answers
pub mod SameAnswers
pub mod Pigeons
pub mod Permutations
pub mod Examples
