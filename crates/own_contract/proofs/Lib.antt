pub mod Counting
pub mod Without
