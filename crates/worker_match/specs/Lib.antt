pub mod Seen
pub mod Items
pub mod Walk
pub mod Runs
pub mod WalkLaws
pub mod Feeds
