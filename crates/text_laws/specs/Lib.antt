pub mod Examples
pub mod Areas
pub mod References
pub mod FrontTokens
pub mod TextKinds
pub mod Limits
