pub mod Cells
pub mod CellMasses
pub mod CellBounds
pub mod Claims
pub mod Walks
