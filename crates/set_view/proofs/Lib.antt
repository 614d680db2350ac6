pub mod Agree
pub mod ConditionBytes
pub mod Walk
pub mod Left
