pub mod Targets
pub mod Halving
pub mod Trees
pub mod Laws
