pub mod Behind
pub mod Named
pub mod Rising
