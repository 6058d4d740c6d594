pub mod Fractions
pub mod Decimals
