pub mod Lines
pub mod Refusals
pub mod Window
