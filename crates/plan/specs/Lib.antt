pub mod Calls
pub mod Rows
pub mod Notes
pub mod Laws
