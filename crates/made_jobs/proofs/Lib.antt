pub mod HeaderRead
pub mod Jobs
pub mod ReadBack
