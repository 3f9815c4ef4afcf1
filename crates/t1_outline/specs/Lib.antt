pub mod Counting
pub mod Laws
pub mod Shown
pub mod Text
