pub mod Line
pub mod Speed
pub mod Bus
pub mod Pulse
