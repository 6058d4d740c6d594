-- What a leaf says of outputs has a Bound or a fault.
use Rattle.std.proofs.Common.{◌≡◌, ◌⊎◌, inl, inr, ℕ, zero, suc, ◌+◌, ◌-◌, ◌<◌, ◌≤◌, Bool, true, false, List, length}
use Rattle.std.proofs.Common.{Option, Some, None, refl, sym, ap, subst, arith}
use Rattle.std.proofs.{lemmas.Bool.cases_lt}
use Rattle.std.specs.Prelude.{IfSome, IsTrue, IsSomeAnd, slice_get}
use Rattle.std.specs.Option.{option_map}
use Rattle.fz_list.proofs.Algebra.{some_at, IsSomeAnd-at, IsSomeAnd-some, All-slice_get}
use Rattle.fuzzy_meaning.specs.{declared.block.Output.Output, declared.block.Block.Block, declared.block.Rule.Rule}
use Rattle.fuzzy_meaning.specs.Blocks.{IsValid, output_at}
use Rattle.error_bound.specs.declared.{boxes.Interval.Interval, boxes.Leaf.Leaf}
use Rattle.error_bound.specs.{Boxes.IsBoxOf, Faults.EachLeafIsJudged, Laws.TermErrorsAre, CellErrors.term_errors}
use Rattle.error_bound.specs.Leaves.{IsPairFor, rule_at, concludes_some}
use Rattle.error_bound.specs.{Bounds.bound, TightLaws.EachBoxHasATightCount, Matters.narrowed}
use Rattle.error_bound.specs.Tight.{IsTightBound, IsTightCount, of_bound, of_none, silent, sure}
use Rattle.box_tree.specs.declared.{cert.CertKind.CertKind, cert.LeafLine.LeafLine}
use Rattle.box_tree.specs.declared.cert.CertKind.TheVariants as kind
use Rattle.box_tree.specs.declared.cert.LeafLine.TheVariants as leaf_line
use Rattle.box_tree.specs.Certificates.{IsLeaf, IsPair}
use Rattle.cell_bounds.specs.CellBounds.{EachBoxHasACellsBound, cell_count}
use Rattle.cell_bounds.specs.{declared.claims.Claim.Claim, Claims.HasClaimBound}
use Rattle.cell_bounds.specs.declared.claims.Claim.TheVariants.{Pair, Tight, Cells}
use Rattle.cert_check.specs.declared.checker.CheckFault.{CheckFault}
use Rattle.cert_check.specs.declared.checker.CheckFault.TheVariants as fault
use Rattle.cert_check.specs.Faults.{AllHold, HoldBefore, IsClaimFault, HasPartFault, bad_rule, fails, too_many, unsure}
use Rattle.cert_check.specs.{Acceptance.claim_at, Acceptance.IsAllowed, Acceptance.HasBound, Trees.Part}
use Rattle.cert_check.proofs.LeafLemmas.{bound_holds}

-- a pair of a certificate: both numbers are 0 or neither
abbrev pub IsGood : Claim → Type 0
IsGood (Pair leaf) = IsPair (leaf.rule, leaf.k)
IsGood Tight = Unit {0}
IsGood Cells = Unit {0}

pair_or : (b : Block) (o : ℕ) (leaf : Leaf) → IsPair (leaf.rule, leaf.k) → IsPairFor b o leaf ⊎ (IsPairFor b o leaf → ⊥)
pair_or b o leaf good = by_part leaf.k refl
  where
    named : (k : ℕ) → leaf.k ≡ suc k → (r : Option Rule) → rule_at b leaf.rule ≡ r
        → IsPairFor b o leaf ⊎ (IsPairFor b o leaf → ⊥)
    named k some None e = inr (λ p. subst (λ q. IsSomeAnd q (λ r. IsTrue (concludes_some r o))) e
        (p.concludes_one (omega (arith, some))))
    named k some (Some r) e = by_rule (concludes_some r o) refl
      where
        by_rule : (c : Bool) → concludes_some r o ≡ c → IsPairFor b o leaf ⊎ (IsPairFor b o leaf → ⊥)
        by_rule true ends = inl (record {
          silent = λ none. absurd (omega (arith, none, some));
          strong = λ _. some_rule leaf.rule refl;
          part = good.part;
          concludes_one = λ _. IsSomeAnd-at (λ r. IsTrue (concludes_some r o)) (rule_at b leaf.rule) r e ends;
        })
          where
            some_rule : (n : ℕ) → leaf.rule ≡ n → 1 ≤ leaf.rule
            some_rule zero none = absurd (let z = good.both.0 none in omega (arith, z, some))
            some_rule (suc n) is = omega (arith, is)
        by_rule false never = inr not_named
          where
            not_named : IsPairFor b o leaf → ⊥
            not_named p =
                let ends : concludes_some r o ≡ true =
                IsSomeAnd-some (λ r. IsTrue (concludes_some r o)) (rule_at b leaf.rule) r e
                (p.concludes_one (omega (arith, some))) in
                cc

    by_part : (k : ℕ) → leaf.k ≡ k → IsPairFor b o leaf ⊎ (IsPairFor b o leaf → ⊥)
    by_part zero none = inl (record {
      silent = good.both.1;
      strong = λ some. absurd (omega (arith, none, some));
      part = good.part;
      concludes_one = λ some. absurd (omega (arith, none, some));
    })
    by_part (suc k) some = named k some (rule_at b leaf.rule) refl

module _ (b : Block) (h : ℕ) (box : List Interval) (valid : IsValid b) (is : IsBoxOf b box) (hh : 1 ≤ h)
    (leaves : EachLeafIsJudged) (errors : TermErrorsAre) (tight : EachBoxHasATightCount)
    (cells : EachBoxHasACellsBound) where
  abbrev IsBounded : ℕ → Output → Claim → Type 0
  IsBounded o x claim = (n : ℕ) × IsAllowed b claim box × HasClaimBound b box o x h claim n

  abbrev IsFaulty : ℕ → Claim → Type 0
  IsFaulty o claim = (line : ℕ) → (f : CheckFault) × IsClaimFault b h box o line claim f

  tight_judged : (o : ℕ) (x : Output) (n : ℕ) → output_at b o ≡ Some x → IsTightCount b box o x h n
      → IsBounded o x Tight ⊎ IsFaulty o Tight
  tight_judged o x n ex (of_bound bounds) = inl (n, tt, bounds)
  tight_judged o x n ex (of_none loud never is_none) = inr (λ line. (
    fault.Unsure line o,
    (refl, subst (λ r. IfSome r (λ x. (n : ℕ) → IsTightBound b box o x h n → ⊥)) (sym ex) none),
  ))
    where
      none : (n : ℕ) → IsTightBound b box o x h n → ⊥
      none n (silent quiet e) = loud quiet
      none n (sure es are some e) = never some

  claim_judged : (o : ℕ) (x : Output) (claim : Claim) → output_at b o ≡ Some x → IsGood claim
      → IsBounded o x claim ⊎ IsFaulty o claim
  claim_judged o x (Pair leaf) ex good = elim (pair_or b o leaf good) [
    | inr other ↦ inr (λ line. (fault.BadRule line, bad_rule other))
    | inl pair ↦ elim (leaves b box o leaf pair) [
      | inl holds ↦ inl (
        bound b (term_errors b box) o x h leaf,
        tt,
        (
          holds,
          record {
            errors = term_errors b box;
            are_errors = errors b box valid is.intervals;
            is = refl;
          },
        ),
      )
      | inr (f, fault_is) ↦ inr (λ line. (fault.Leaf line f, fails f pair fault_is))
    ]
  ]
  claim_judged o x Tight ex good =
      let t = tight b box o x h valid is.intervals ex hh in tight_judged o x t.0 ex t.1
  claim_judged o x Cells ex good = elim (cases_lt 64 (cell_count (narrowed b box))) [
    | inl many ↦ inr (λ line. (fault.TooManyCells line, too_many many))
    | inr few ↦ elim (cells b h box o x valid is hh ex) [
      | inl (n, bounds) ↦ inl (n, few, bounds)
      | inr never ↦ inr (λ line. (fault.Unsure line o, unsure few never))
    ]
  ]

-- ---- of a leaf's line

-- what the line says of an output
record IsSaid (stated : LeafLine) (k : ℕ) : Type 0 where
  claim : Claim
  claim_is : claim_at stated k ≡ Some claim
  good : IsGood claim

said : (kind : CertKind) (width k : ℕ) (f : LeafLine) → IsLeaf kind width f → k < width → IsSaid f k
said kind.Named width k (leaf_line.Pairs pairs) good few =
    let count = good.0 in
    let p = some_at pairs.items k (omega (arith, count, few)) in
    record {
      claim = Pair (record { rule = p.0.0; k = p.0.1 });
      claim_is = ap (option_map (λ (q : ℕ × ℕ). Pair (record { rule = q.0; k = q.1 }))) p.1;
      good = All-slice_get IsPair pairs.items k p.0 good.1 p.1;
    }
said kind.Tight width k leaf_line.Tight good few = record { claim = Tight; claim_is = refl; good = tt }
said kind.Tight width k leaf_line.Cells good few = record { claim = Cells; claim_is = refl; good = tt }
said k w n f good few = absurd good

module _ (b : Block) (h : ℕ) (kind : CertKind) (p : Part) (valid : IsValid b) (is : IsBoxOf b p.box) (hh : 1 ≤ h)
    (good : IsLeaf kind (length b.outputs) p.stated) (leaves : EachLeafIsJudged) (errors : TermErrorsAre)
    (tight : EachBoxHasATightCount) (cells : EachBoxHasACellsBound) where
  -- it has a Bound for each of the first outputs
  abbrev AreBounded : ℕ → Type 0
  AreBounded m = (o : ℕ) (x : Output) → 1 ≤ o → o ≤ m → output_at b o ≡ Some x → (n : ℕ) × HasBound b o x h p n

  abbrev HasFault : Type 0
  HasFault = (line : ℕ) → (f : CheckFault) × HasPartFault b h p line f

  hold_before : (m : ℕ) → m ≤ length b.outputs → AreBounded m → HoldBefore b h p (m + 1)
  hold_before m few bounds o claim from less at =
      let x = some_at b.outputs (o - 1) (omega (arith, from, less, few)) in
      let n = bounds o x.0 from (omega (arith, less)) x.1 in
      bound_holds b h p o x.0 n.0 claim x.1 at n.1

  at_output : (m : ℕ) → suc m ≤ length b.outputs → AreBounded m → AreBounded (suc m) ⊎ HasFault
  at_output m few bounds =
      let x = some_at b.outputs m (omega (arith, few)) in
      let back : m ≡ suc m - 1 = omega arith in
      let ex : output_at b (suc m) ≡ Some x.0 = subst (λ k. slice_get b.outputs k ≡ Some x.0) back x.1 in
      let s = said kind (length b.outputs) m p.stated good (omega (arith, few)) in
      let at : claim_at p.stated (suc m - 1) ≡ Some s.claim = subst (λ k. claim_at p.stated k ≡ Some s.claim) back s.claim_is in
      elim (claim_judged b h p.box valid is hh leaves errors tight cells (suc m) x.0 s.claim ex s.good) [
        | inl (n, allowed, is_bound) ↦
            let here : HasBound b (suc m) x.0 h p n =
            record { claim = s.claim; claim_is = at; allowed = allowed; bound_is = is_bound } in
            inl (λ o y from to ey. elim (cases_lt o (suc m)) [
              | inl less ↦ bounds o y from (omega (arith, less)) ey
              | inr last ↦
                  let same : suc m ≡ o = omega (arith, last, to) in
                  let one : output_at b (suc m) ≡ Some y = subst (λ k. output_at b k ≡ Some y) (sym same) ey in
                  let alike : x.0 ≡ y = cc in
                  (n, subst (λ k. HasBound b k y h p n) same (subst (λ z. HasBound b (suc m) z h p n) alike here))
            ])
        | inr faulty ↦ inr (λ line. (
          (faulty line).0,
          record {
            output = suc m;
            from = omega arith;
            to = few;
            claim = s.claim;
            claim_is = at;
            before = let next : m + 1 ≡ suc m = omega arith in
                subst (λ k. HoldBefore b h p k) next (hold_before m (omega (arith, few)) bounds);
            is = (faulty line).1;
          },
        ))
      ]

  outputs : (m : ℕ) → m ≤ length b.outputs → AreBounded m ⊎ HasFault
  outputs zero few = inl (λ o x from to. absurd (omega (arith, from, to)))
  outputs (suc m) few = elim (outputs m (omega (arith, few))) [
    | inl bounds ↦ at_output m few bounds
    | inr faulty ↦ inr faulty
  ]

  pub part_judged : (AllHold b h p × AreBounded (length b.outputs)) ⊎ HasFault
  part_judged = elim (outputs (length b.outputs) (omega arith)) [
    | inl bounds ↦ inl (hold_before (length b.outputs) (omega arith) bounds, bounds)
    | inr faulty ↦ inr faulty
  ]
