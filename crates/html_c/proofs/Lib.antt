pub mod Names
pub mod Exports
pub mod Listing
pub mod Outcomes
pub mod Puts
pub mod Tables
pub mod Texts
pub mod Trees
