pub mod Ending
pub mod Fault
pub mod Line
pub mod World
pub mod Message
pub mod Numeric
pub mod Program
pub mod Vocabulary
