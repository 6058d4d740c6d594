use Rattle.std.proofs.Common.{ℕ, List, Option, Some, None, refl}
use Rattle.std.specs.Prelude.{IfSome, IfNone}
use Rattle.fuzzy_meaning.specs.declared.block.Block.{Block}
use Rattle.error_bound.specs.Best.{IsBest, silent, strong, nothing, IsCandidate, IsFirstGreatest, silent_leaf}
use Rattle.error_bound.specs.{Leaves.Holds, Leaves.silent as holds_silent, declared.boxes.Interval.Interval}
use Rattle.error_bound.specs.declared.boxes.Leaf.{Leaf}
use Rattle.error_bound.proofs.LeafLemmas.{faulty_fail}
use Rattle.error_bound.proofs.tables.BoxTable.best.Goals as goal

pub returns-in-None : goal.returns-in-None
returns-in-None c = silent (holds_silent refl refl c.in-None.ensures.still)

strongest : (b : Block) (box : List Interval) (o : ℕ) (r : Option Leaf) → (Holds b box o silent_leaf → ⊥)
    → IfNone r ((n k : ℕ) → IsCandidate b box o n k → ⊥) → IfSome r (λ l. IsCandidate b box o l.rule l.k)
    → IfSome r (λ l. IsFirstGreatest (IsCandidate b box o) l.rule l.k) → IsBest b box o r
strongest b box o None loud none cand first = nothing loud none
strongest b box o (Some l) loud none cand first = strong l.rule l.k loud cand first

pub returns-in-Some : goal.returns-in-Some
returns-in-Some c =
    let b = c.args.self.now.table.now.block.now in
    let box = c.args.self.now.bytes.0.items in
    strongest b box c.args.out c.strongest.result
    (λ h. faulty_fail b box c.args.out silent_leaf _ c.in-Some.ensures.fault h) c.strongest.ensures.none
    c.strongest.ensures.candidate c.strongest.ensures.greatest
