pub mod Sorting
pub mod Numbers
pub mod Requests
pub mod Needing
pub mod Records
pub mod Words
pub mod Answers
