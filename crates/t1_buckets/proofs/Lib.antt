pub mod JoinLaws
pub mod OrderLaws
pub mod SharedLaws
