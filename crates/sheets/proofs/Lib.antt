pub mod Cliques
pub mod Comes
pub mod Fitting
pub mod Heaviest
pub mod Weights
