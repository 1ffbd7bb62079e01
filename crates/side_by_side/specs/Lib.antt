pub mod Status
pub mod Findings
pub mod Cabs
pub mod Lists
