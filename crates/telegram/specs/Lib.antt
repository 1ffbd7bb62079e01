pub mod Modes
pub mod Faults
pub mod Kinds
pub mod Format
pub mod Reading
pub mod Laws
pub mod Whole
pub mod Examples
