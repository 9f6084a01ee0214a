pub mod KeptRows
pub mod Versions
pub mod FirstCheapest
pub mod RightAnswers
pub mod Counted
