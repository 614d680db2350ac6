pub mod Agreeing
pub mod Faults
pub mod Keys
pub mod Numbers
pub mod Places
pub mod Strings
pub mod Words
