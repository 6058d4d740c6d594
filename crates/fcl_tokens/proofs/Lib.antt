pub mod CutLists
pub mod Cutting
pub mod CutPieces
pub mod CutSpellings
pub mod CutTexts
pub mod Scale
pub mod Offsets
