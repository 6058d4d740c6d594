-- The slots after the rules hold the masses, and the outputs' bytes are the byte answers.
pub mod Answering
pub mod Masses
pub mod BlockMasses
