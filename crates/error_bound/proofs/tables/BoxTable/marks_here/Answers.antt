use Rattle.std.proofs.Common.{◌≡◌, ◌≢◌, ℕ, ◌<◌, ◌≤◌, List, Bool, false, true, replicate, length, get_or, ⊎_elim, ◌⊎◌, refl, sym, ap}
use Rattle.std.proofs.Common.{◌∙◌, subst, arith, get_or-set_other, get_or-set_same, Some}
use Rattle.std.specs.Prelude.{slice_get, slice_set}
use Rattle.std.proofs.lemmas.{List.get_or-replicate, List.get_or_past, List.length-replicate, List.length-set}
use Rattle.std.proofs.{lemmas.Bool.cases_lt, lemmas.Bool.cases_eq}
use Rattle.fuzzy_meaning.specs.declared.block.Rule.{Rule}
use Rattle.fuzzy_meaning.specs.declared.block.Block.{Block}
use Rattle.error_bound.specs.{Leaves.IsStill, Reaches.AreMarked, declared.boxes.Interval.Interval}
use Rattle.error_bound.proofs.{ListLemmas.slice_get-slice, TableLemmas.unmarked}
use Rattle.error_bound.proofs.tables.BoxTable.marks_here.Goals.{then-n-lt256, else-n-lt256}
use Rattle.error_bound.proofs.tables.BoxTable.marks_here.Goals as goal

-- one more mark
AreMarked-set : (b : Block) (box : List Interval) (marks : List Bool) (k : ℕ) (r : Rule) (v : Bool) → k < length marks
    → slice_get b.rules k ≡ Some r → (v ≡ true → IsStill b box r) → AreMarked b box marks
    → AreMarked b box (slice_set marks k v)
AreMarked-set b box marks k r v few there still before n q one at =
    ⊎_elim
    (λ (same : n ≡ k).
    let yes : v ≡ true = sym (get_or-set_same marks k v false few)
    ∙ subst (λ i. get_or (slice_set marks k v) i false ≡ true) same one in
    let both = sym there ∙ subst (λ i. slice_get b.rules i ≡ Some q) same at in
    let rule : r ≡ q = cc in
    subst (IsStill b box) rule (still yes))
    (λ (other : n ≢ k). before n q (sym (get_or-set_other marks k n v false other) ∙ one) at)
    (cases_eq n k)

pub loop-n-init : goal.loop-n-init
loop-n-init c = (refl, λ n r one e. absurd (let none = unmarked 256 n in let z : ⊥ = cc in z))

pub loop-n-preserved : goal.loop-n-preserved
loop-n-preserved c =
    let b = c.args.self.now.table.now.block.now in
    let box = c.args.self.now.bytes.0.items in
    let rules = c.as_slice-rules.result.now in
    let k = c.loop-n.n in
    let old = c.loop-n.marks in
    let before = c.loop-n.invariant in
    elim c.if-n-lt256.branch [
      | then-n-lt256 w ↦
          let v = w.is_still.result in
          let count = before.0 in
          let few = w.if-n-lt256.true in
          let there = slice_get-slice rules b.rules k w.index-rules-n.result c.as_slice-rules.ensures c.loop-n-test.true
          w.index-rules-n.is in
          subst (λ marks. (length marks ≡ 256) × AreMarked b box marks) (sym w.marks-is) (
            length-set old k v ∙ count,
            AreMarked-set b box old k w.index-rules-n.result v (omega arith) there w.is_still.ensures before.1,
          )
      | else-n-lt256 w ↦ subst (λ marks. (length marks ≡ 256) × AreMarked b box marks) (sym w.marks-is) before
    ]

pub returns : goal.returns
returns c = c.loop-n.invariant.1
