pub mod Forms
pub mod Hrun
pub mod Lrun
pub mod Mrun
pub mod Srun
pub mod Judged
