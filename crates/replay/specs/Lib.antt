pub mod Inputs
pub mod States
pub mod Outcomes
pub mod TimesFile
pub mod Progress
pub mod Survival
