pub mod Held
pub mod Nears
