pub mod AppendLaws
mod Computed
pub mod Coordinates
pub mod Divisors
pub mod Exact
pub mod NumberLaws
pub mod OutcomeLaws
pub mod Primes
mod Quotients
pub mod Rounded
pub mod Rows
pub mod SameLowest
pub mod SmallPrimes
pub mod Sums
pub mod WholeSums
pub mod WordLaws
