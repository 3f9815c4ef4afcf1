pub mod Adding
mod AloneLaws
pub mod Batches
mod BesideLaws
pub mod ChangedLengths
pub mod Entered
pub mod Entering
pub mod Filed
pub mod Gathered
mod GlyphCounts
pub mod Inserting
mod KeySums
pub mod MadeItems
mod Parts
pub mod Readying
mod SectionFrontLaws
pub mod Texts
pub mod Totals
