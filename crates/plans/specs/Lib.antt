pub mod Plans
pub mod Moments
pub mod Named
pub mod Installs
pub mod Verdicts
pub mod Outcomes
