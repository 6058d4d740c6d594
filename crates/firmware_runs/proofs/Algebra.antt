-- What the crates above cite of the moments of requests.
pub use Rattle.firmware_runs.proofs.Moments.{at_moments}
