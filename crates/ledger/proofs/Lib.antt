pub mod Nears
pub mod Writes
pub mod Places
pub mod FewLines
pub mod Drafting
pub mod Cuts
pub mod Told
pub mod LowestLevels
