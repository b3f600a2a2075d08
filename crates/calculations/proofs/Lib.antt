pub mod CalculationLaws
