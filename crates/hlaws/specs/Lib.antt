pub mod PlainTokens
pub mod Building
pub mod ComesBack
pub mod DocumentComesBack
pub mod OneAnswer
pub mod Unrefused
