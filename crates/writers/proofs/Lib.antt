pub mod Stores
pub mod Codes
pub mod Names
pub mod Sets
pub mod Writers
pub mod Made
