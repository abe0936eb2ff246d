pub mod Text
pub mod Items
pub mod Decoding
pub mod Rows
pub mod Run
pub mod Next
pub mod Vocabulary
