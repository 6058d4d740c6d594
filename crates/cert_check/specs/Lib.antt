pub mod Trees
pub mod Acceptance
pub mod Faults
pub mod Walks
pub mod TextFaults
pub mod Laws
pub mod Examples
pub mod BoxLaws
