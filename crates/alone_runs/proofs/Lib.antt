pub mod Algebra
pub mod AnsweredRows
pub mod Requests
pub mod StandAlone
pub mod UsedLaws
pub mod OpenBytes
pub mod SampleBytes
