-- What the crates above cite of trees, and of lists and options.
pub use Rattle.cert_check.proofs.TreeLemmas.{one_of, some_leaf, whole_is}
pub use Rattle.cert_check.proofs.{LeafLemmas.IfSome-at, WalkLemmas.Any-left}
