pub mod Lines
pub mod Tables
pub mod Model
pub mod Places
pub mod Drafted
pub mod Answers
