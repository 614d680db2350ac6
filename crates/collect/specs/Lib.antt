pub mod Groups
pub mod Raw
