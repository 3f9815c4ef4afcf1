pub mod Joins
pub mod Reached
pub mod Sums
pub mod TreeFalls
pub mod Trees
