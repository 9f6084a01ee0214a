pub mod Changes
pub mod Budgets
pub mod Comings
pub mod SheetLimits
pub mod FirstPlaces
pub mod Prices
pub mod Plays
