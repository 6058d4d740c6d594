-- One target for all outputs.
use Rattle.std.proofs.Common.{◌≡◌, ℕ, zero, suc, ◌<◌, ◌≤◌, List, length, replicate, get_or, arith}
use Rattle.std.proofs.lemmas.{List.length-replicate, Option.slice_get-get_or}
use Rattle.std.specs.Prelude.{All, slice_index}
use Rattle.std.proofs.Common.{⊎_elim, ◌≢◌, sym, ◌∙◌, subst}
use Rattle.std.proofs.{lemmas.List.get_or_past, lemmas.Bool.cases_lt}
use Rattle.fuzzy_meaning.specs.{declared.block.Block.Block, Blocks.IsValid}
use Rattle.error_bound.specs.declared.boxes.Interval.{Interval}
use Rattle.box_tree.specs.declared.cert.CertKind.{CertKind}
use Rattle.cert_check.specs.Trees.{whole}
use Rattle.error_certifier.specs.{Targets.AreTargets, Laws.AreWithin, Laws.CellsAreOutOfReach, Laws.SaysOutOfReachFor}
use Rattle.error_certifier.specs.{declared.certifier.NotReached.NotReached, Halving.Stops, Halving.StopsFor}
use Rattle.error_certifier.specs.Halving.{halving, outputs}
use Rattle.error_certifier.specs.declared.certifier.NotReached.TheVariants.{Cell, LeafLimit, Memory, Outputs}

each_is : (n t k d : ℕ) → k < length (replicate n t) → get_or (replicate n t) k d ≤ t
each_is zero t k d l = absurd (omega arith)
each_is (suc n) t zero d l = omega arith
each_is (suc n) t (suc k) d l = each_is n t k d (omega arith)

at_most : (n t k : ℕ) → slice_index (replicate n t) k ≤ t
at_most zero t k = omega arith
at_most (suc n) t zero = omega arith
at_most (suc n) t (suc k) = at_most n t k

pub one_target : (b : Block) (t : ℕ) → t ≤ 1000000 → AreTargets b (replicate (length b.outputs) t)
one_target b t small = record {
  count = length-replicate (length b.outputs) t;
  millionths = λ k d l. (let e = each_is (length b.outputs) t k d l in omega arith);
}

pub within_one : (n t : ℕ) (errors : List ℕ) → AreWithin (replicate n t) errors → All (λ e. e ≤ t) errors
within_one n t errors within k d l =
    let w = within k (get_or errors k d) (slice_get-get_or errors k d l) in
    let m = at_most n t k in
    omega arith

-- each target is a number of millionths
pub small_each : (targets : List ℕ) → All (λ n. n ≤ 1000000) targets → (k : ℕ) → slice_index targets k ≤ 1000000
small_each targets all k = ⊎_elim
    (λ (l : k < length targets). all k 0 l)
    (λ (l : length targets ≤ k). let e : slice_index targets k ≡ 0 = get_or_past targets k 0 l in omega arith)
    (cases_lt k (length targets))

-- ---- why there is no certificate

pub other_count : (k : CertKind) (b : Block) (h : ℕ) (targets : List ℕ) (given wanted : ℕ)
    → given ≡ length targets → wanted ≡ length b.outputs → (given ≡ wanted → ⊥)
    → StopsFor k b h targets (Outputs given wanted)
other_count k b h targets given wanted g w other =
    subst (λ i. StopsFor k b h targets (Outputs i wanted)) (sym g)
    (subst (λ j. StopsFor k b h targets (Outputs (length targets) j)) (sym w) (outputs (λ e. other (g ∙ e ∙ sym w))))

pub stops_for : (j k : CertKind) (a b : Block) (g h : ℕ) (s t : List ℕ) (box : List Interval) (n : ℕ)
    (stop : NotReached) → j ≡ k → a ≡ b → g ≡ h → s ≡ t → box ≡ whole b → n ≡ 0 → AreTargets b t
    → Stops j a g s box n stop → StopsFor k b h t stop
stops_for j k a b g h s t box n stop ek ea eg es ebox en are stops = halving stop are.count
    (subst (λ (i : CertKind). Stops i b h t (whole b) 0 stop) ek
    (subst (λ m. Stops j b h t (whole b) m stop) en
    (subst (λ (x : List Interval). Stops j b h t x n stop) ebox
    (subst (λ (y : Block). Stops j y h t box n stop) ea
    (subst (λ m. Stops j a m t box n stop) eg
    (subst (λ (ts : List ℕ). Stops j a g ts box n stop) es stops))))))

pub says : (k : CertKind) (b : Block) (h : ℕ) (targets : List ℕ) (stop : NotReached) → CellsAreOutOfReach → IsValid b
    → 1 ≤ h → (stop ≢ Memory → StopsFor k b h targets stop) → SaysOutOfReachFor k b h targets stop
says k b h targets (Cell bytes o n) law valid parts stops =
    law k b h targets (Cell bytes o n) valid parts (stops (λ e. absurd (let z : ⊥ = cc in z)))
says k b h targets LeafLimit law valid parts stops = tt
says k b h targets (Outputs g w) law valid parts stops = tt
says k b h targets Memory law valid parts stops = tt
