pub mod Finding
pub mod FontFaults
pub mod FontPlaces
pub mod Hints
pub mod Names
pub mod Rows
pub mod Shown
