-- The steps of a turn that answers up to behind the copy, and where its posts are taken.
use Rattle.mailbox_runs.proofs.Words.{[], ◌+◌, ◌-◌, ◌<◌, ◌∙◌, ◌∷◌, ◌≡◌, ◌≤◌, ap, arith, Bool, cases_lt, counted}
use Rattle.mailbox_runs.proofs.Words.{Execution, false, Firmware, Free, image_memory, inl, inr, Instr, is_inside}
use Rattle.mailbox_runs.proofs.Words.{is_part, IsAnswerRun, IsMaskedStep, IsPlainStep, kind_by, length, List, max}
use Rattle.mailbox_runs.proofs.Words.{may_interrupt, MemoryMap, Next, not, one_if, Plain, PlainStepLaws, refl, Result}
use Rattle.mailbox_runs.proofs.Words.{State, state_by, stepped, subst, suc, sym, TakenAtFirstOpen, true}
use Rattle.mailbox_runs.proofs.Words.{uninterrupted, uninterrupted_add, zero, ℕ}
use Rattle.cpu12_emul.specs.{declared.ends.Stepped.Stepped}
use Rattle.run_law.specs.{Uninterrupted.kind_at}
use Rattle.run_law.specs.Uninterrupted.{first_open}
use Rattle.mailbox_runs.proofs.{TwoSteps.IsHere, TwoSteps.here_at}

-- a plain step
pub kind_plain : PlainStepLaws → (flags : ℕ) (i : Instr) (s t : State) → s.temps ≡ Free → IsPlainStep flags i s t
    → kind_at flags s ≡ Plain
kind_plain laws flags i s t free p = ap kind_by (laws.plain_is_one_step flags i s t free p)

to_plain : PlainStepLaws → (flags : ℕ) (i : Instr) (s t : State) → s.temps ≡ Free → IsPlainStep flags i s t
    → stepped flags s ≡ t
to_plain laws flags i s t free p =
    ap (λ (o : Result Next ℕ). state_by s o) (laws.plain_is_one_step flags i s t free p)

-- while I is 1
masked_at : PlainStepLaws → (l : MemoryMap) (image : List ℕ) (flags : ℕ) (ds : List ℕ) (s t : State)
    → Execution (IsMaskedStep l image flags) ds s t → (i : ℕ) → i < length ds
    → (may_interrupt (uninterrupted flags i s) ≡ false) × (kind_at flags (uninterrupted flags i s) ≡ Plain)
masked_at laws l image flags [] s t e i lt = absurd (omega arith)
masked_at laws l image flags (d ∷ ds) s t e zero lt =
    let h = e.1.0 in
    let steady = h.steady in
    let shown = h.shown in
    (ap not steady.mask, kind_plain laws flags h.instruction s e.0 steady.temps shown.step)
masked_at laws l image flags (d ∷ ds) s t e (suc i) lt =
    let h = e.1.0 in
    let steady = h.steady in
    let shown = h.shown in
    let there : stepped flags s ≡ e.0 = to_plain laws flags h.instruction s e.0 steady.temps shown.step in
    subst (λ (x : State). (may_interrupt (uninterrupted flags i x) ≡ false)
    × (kind_at flags (uninterrupted flags i x) ≡ Plain)) (sym there)
    (masked_at laws l image flags ds e.0 t e.1.1 i (omega arith))

-- plain steps count
plain_counts : (flags k : ℕ) (s : State) → ((j : ℕ) → j < k → kind_at flags (uninterrupted flags j s) ≡ Plain)
    → counted flags k s ≡ k
plain_counts flags zero s h = refl
plain_counts flags (suc k) s h =
    let one : one_if (not (is_part (kind_at flags s))) ≡ 1 =
    ap (λ (x : Stepped). one_if (not (is_part x))) (h 0 (omega arith)) in
    let rest = plain_counts flags k (stepped flags s) (λ j lt. h (suc j) (omega arith)) in
    omega (arith, one, rest)

plain_outside : (flags k : ℕ) (s : State) → ((j : ℕ) → j < k → kind_at flags (uninterrupted flags j s) ≡ Plain)
    → (j : ℕ) → j ≤ k → is_inside flags s j ≡ false
plain_outside flags k s h zero le = refl
plain_outside flags k s h (suc j) le = ap is_part (h j (omega arith))

-- the steps of a turn that answers: up to behind the copy they are plain, and I is 1 from the third to there
pub record IsCopyRun (flags n all : ℕ) (u : State) : Type 0 where
  pub plain : (j : ℕ) → j < n + 5 → kind_at flags (uninterrupted flags j u) ≡ Plain
  pub masked : (j : ℕ) → 3 ≤ j → j < n + 5 → may_interrupt (uninterrupted flags j u) ≡ false
  pub opens : (j : ℕ) → n + 5 ≤ j → j < all → may_interrupt (uninterrupted flags j u) ≡ true
  pub behind : n + 5 < all
  pub counts : counted flags (n + 5) u ≡ n + 5
  pub outside : (j : ℕ) → j ≤ n + 5 → is_inside flags u j ≡ false

module _ (laws : PlainStepLaws) (flags : ℕ) (f : Firmware) (n all : ℕ) (inputs : f.inputs ≡ n) (u : State)
    (here : IsHere u)
    (run : IsAnswerRun f flags all u) where
  later : (j : ℕ) → 3 ≤ j → j < n + 5
      → (may_interrupt (uninterrupted flags j u) ≡ false) × (kind_at flags (uninterrupted flags j u) ≡ Plain)
  later j lo hi =
      let copy = run.copy in
      let count = copy.count in
      let sum : j ≡ 3 + (j - 3) = omega arith in
      let at : uninterrupted flags j u ≡ uninterrupted flags (j - 3) copy.masked =
      ap (λ (k : ℕ). uninterrupted flags k u) sum ∙ uninterrupted_add flags 3 (j - 3) u
      ∙ ap (uninterrupted flags (j - 3)) run.third in
      subst (λ (x : State). (may_interrupt x ≡ false) × (kind_at flags x ≡ Plain)) (sym at)
      (masked_at laws f.memory_map (image_memory f.image.bytes) flags copy.ds copy.masked run.called copy.copies (j - 3)
      (omega arith))

  first_three : (j : ℕ) → j < 3 → kind_at flags (uninterrupted flags j u) ≡ Plain
  first_three zero lt =
      let look = run.look in
      let shown = look.step in
      let r = here.ready in
      kind_plain laws flags _ u run.looked r.temps shown.step
  first_three (suc zero) lt =
      let look = run.look in
      let there = here_at (image_memory f.image.bytes) (f.memory_map.wait + 3) run.looked look.at in
      let r = there.ready in
      let choice = run.choice in
      let shown = choice.step in
      ap (kind_at flags) run.first ∙ kind_plain laws flags _ run.looked run.chosen r.temps shown.step
  first_three (suc (suc zero)) lt =
      let there = here_at (image_memory f.image.bytes) (f.memory_map.wait + 5) run.chosen run.on in
      let r = there.ready in
      let copy = run.copy in
      let shown = copy.sets in
      ap (kind_at flags) run.second ∙ kind_plain laws flags _ run.chosen copy.masked r.temps shown.step
  first_three (suc (suc (suc j))) lt = absurd (omega arith)

  all_plain : (j : ℕ) → j < n + 5 → kind_at flags (uninterrupted flags j u) ≡ Plain
  all_plain j lt = elim (cases_lt j 3) [ inl few ↦ first_three j few | inr past ↦ (later j past lt).1 ]

  pub copy_run : IsCopyRun flags n all u
  copy_run = record {
    plain = all_plain;
    masked = λ j lo hi. (later j lo hi).0;
    opens = λ j lo hi. (let b = run.facts j (omega arith) hi in let facts = b.facts in ap not facts.unmasked);
    behind = (let b = run.behind in omega arith);
    counts = plain_counts flags (n + 5) u all_plain;
    outside = plain_outside flags (n + 5) u all_plain;
  }

-- ---- where a post that waits is taken

module _ (opens : TakenAtFirstOpen) (flags n all : ℕ) (u : State) (run : IsCopyRun flags n all u) where
  no_both : (b : Bool) → b ≡ true → b ≡ false → ⊥
  no_both b t f = cc

  pub first_is : (a : ℕ) → 3 ≤ a → max (n + 5) a < all → first_open flags u (all - a) a ≡ max (n + 5) a
  first_is a lo lt =
      let h = opens flags all u a in
      let t = first_open flags u (all - a) a in
      let from = h.from in
      let c = max (n + 5) a in
      elim (cases_lt c t) [
        | inl past ↦ absurd (no_both (may_interrupt (uninterrupted flags c u)) (run.opens c (omega arith) lt)
            (h.least c (omega arith) past lt))
        | inr upto ↦ elim (cases_lt t c) [
          | inl early ↦ absurd
              (no_both (may_interrupt (uninterrupted flags t u)) (h.opens (omega (arith, early, lt)))
              (run.masked t (omega (arith, from, lo)) (omega (arith, early, from))))
          | inr at ↦ omega (arith, upto, at)
        ]
      ]

  pub first_past : (a : ℕ) → all ≤ a → first_open flags u (all - a) a ≡ a
  first_past a le = (let e : all - a ≡ 0 = omega arith in ap (λ (k : ℕ). first_open flags u k a) e)
