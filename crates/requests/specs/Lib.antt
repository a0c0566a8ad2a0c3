pub mod Queue
pub mod Order
pub mod Choice
pub mod Window
pub mod Owed
pub mod Page
pub mod Requested
pub mod PageWording
