pub mod Backs
pub mod Standing
pub mod Readings
