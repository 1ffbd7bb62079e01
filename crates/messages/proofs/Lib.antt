pub mod Lines
pub mod Runs
pub mod Stretch
pub mod Held
