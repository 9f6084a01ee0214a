pub mod Places
pub mod Ladder
pub mod Listed
pub mod Beside
pub mod Sounds
