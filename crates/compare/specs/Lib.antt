pub mod Asked
pub mod Account
pub mod Marks
pub mod Walked
pub mod Compared
pub mod Decided
pub mod Verdicts
pub mod Cabs
