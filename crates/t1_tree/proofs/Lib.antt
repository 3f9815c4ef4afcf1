pub mod HeightLaws
pub mod JoinLaws
pub mod MadeLaws
pub mod NodeLaws
pub mod ReachLaws
pub mod SumLaws
pub mod TreeLaws
