pub mod Choosing
pub mod Shifting
