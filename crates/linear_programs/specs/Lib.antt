pub mod Program
pub mod StandardFields
