pub mod FailingLaws
pub mod FollowingLaws
pub mod LeadingLaws
mod ProductLaws
