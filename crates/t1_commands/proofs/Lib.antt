pub mod Framed
pub mod Rows
