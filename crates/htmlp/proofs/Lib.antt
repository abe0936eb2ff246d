pub mod Names
mod Adding
mod AllParts
mod LineLemmas
mod Lists
mod Named
mod Outcomes
