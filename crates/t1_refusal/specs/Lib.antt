pub mod Bodies
pub mod Entries
pub mod Met
pub mod Telling
