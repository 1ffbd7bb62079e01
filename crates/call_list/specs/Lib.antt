pub mod Faults
pub mod Words
pub mod Hex
pub mod Numbers
pub mod Modes
pub mod Orders
pub mod Lines
pub mod Lists
