pub mod Compared
pub mod Forms
