pub mod Framing
pub mod LineBytes
pub mod Performing
pub mod Refusing
pub mod Shown
pub mod Talking
