pub mod Rows
pub mod Shown
pub mod Standing
pub mod Stretches
pub mod Texts
pub mod View
