pub mod Calculation
