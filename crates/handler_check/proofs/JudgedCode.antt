-- The instructions of a cut are accepted or have a first fault.
use Rattle.handler_check.proofs.Words.{[], ◌+◌, ◌<◌, ◌∙◌, ◌∷◌, ◌≡◌, ◌≤◌, ◌⊎◌, AreJudged, arith, Backward, Bool}
use Rattle.handler_check.proofs.Words.{Branches, branches_to, cases_eq, cases_lt, code_end, Dead, Falls, falls_to}
use Rattle.handler_check.proofs.Words.{false, false≢true, FitCode, Fits, get_or, HandlerFault, Height, height_after}
use Rattle.handler_check.proofs.Words.{inl, inr, Instr, is_allowed, is_free, IsAccepted, IsAt, IsFirst, IsFirstFault}
use Rattle.handler_check.proofs.Words.{IsForward, IsFrom, IsIn, IsSummary, Jumps, Kind, kind_of, LdaaImmediate, leads}
use Rattle.handler_check.proofs.Words.{led_all, length, List, None, NotFree, Option, Passes, PathSummary, Pulls}
use Rattle.handler_check.proofs.Words.{Pushes, refl, Refused, Returns, Rti, size_of, Some, subst, suc, sym, take}
use Rattle.handler_check.proofs.Words.{Target, Trap, true, written_by, zero, ℕ}
use Rattle.handler_check.proofs.Words.{FitsHeight, GoesForward, ◌==◌}
use Rattle.std.specs.Prelude.{MatchOption}
use Rattle.handler_check.specs.{Judging.Fails}
use Rattle.handler_check.proofs.{Marking.mark_on, Marking.mark_first, Marking.accepted_of, FirstFaults.fails_first}
use Rattle.handler_check.proofs.{Onward.dead_at, Onward.behind_first, Onward.some_code}
use Rattle.handler_check.proofs.Places.{stands_behind, code_end-all, is_at-here}

abbrev IsDecided : Type 0 → Type 0
IsDecided A = A ⊎ (A → ⊥)

-- ---- what an instruction does

forward_or : (k : Option Kind) → IsDecided (MatchOption k ⊥ IsForward)
forward_or None = inr (λ f. f)
forward_or (Some (Branches to)) = elim (cases_lt to 128) [ inl l ↦ inl l | inr l ↦ inr (λ k. omega (arith, l, k)) ]
forward_or (Some (Jumps to)) = elim (cases_lt to 128) [ inl l ↦ inl l | inr l ↦ inr (λ k. omega (arith, l, k)) ]
forward_or k = inl tt

height_or : (k : Option Kind) (h : ℕ) → IsDecided (MatchOption k ⊥ (λ kind. Fits kind h))
height_or None h = inr (λ f. f)
height_or (Some Pushes) h = elim (cases_lt h 15) [ inl l ↦ inl l | inr l ↦ inr (λ k. omega (arith, l, k)) ]
height_or (Some Pulls) h = elim (cases_lt 0 h) [ inl l ↦ inl l | inr l ↦ inr (λ k. omega (arith, l, k)) ]
height_or (Some Returns) h = cases_eq h 0
height_or k h = inl tt

rti_or : (i : Instr) → IsDecided (i ≡ Rti)
rti_or Rti = inl refl
rti_or i = inr (λ e. (let z : ⊥ = cc in z))

-- each of a list is so, or one is not
each_or_one : (P : ℕ → Type 0) → ((n : ℕ) → IsDecided (P n)) → (ns : List ℕ)
    → ((n : ℕ) → IsIn ns n → P n) ⊎ ((n : ℕ) × (IsIn ns n × (P n → ⊥)))
each_or_one P judge [] = inl (λ n k. absurd k)
each_or_one P judge (n ∷ ns) = elim (judge n) [
  | inr none ↦ inr (n, (inl refl, none))
  | inl one ↦ elim (each_or_one P judge ns) [
    | inr (m, (there, none)) ↦ inr (m, (inr there, none))
    | inl all ↦ inl (λ m k. elim k [ inl e ↦ subst P (sym e) one | inr r ↦ all m r ])
  ]
]

-- ---- where instructions begin

from_or : (start : ℕ) (is : List Instr) (at : ℕ) → IsDecided ((i : Instr) × IsFrom start is at i)
from_or start [] at = inr (λ found. found.1)
from_or start (j ∷ js) at = elim (cases_eq at start) [
  | inl here ↦ inl (j, inl (here, refl))
  | inr other ↦ elim (from_or (start + size_of j) js at) [
    | inl (i, there) ↦ inl (i, inr there)
    | inr none ↦ inr (λ found. elim found.1 [ inl e ↦ other e.0 | inr k ↦ none (found.0, k) ])
  ]
]

first_or : (is : List Instr) (trapped : Bool) (at : ℕ) → IsDecided (IsFirst is trapped at)
first_or is trapped at = elim (from_or 16384 is at) [
  | inl found ↦ inl (inl found)
  | inr none ↦ by_trap trapped refl none
]
  where
    by_trap : (t : Bool) → trapped ≡ t → ((i : Instr) × IsAt is at i → ⊥) → IsDecided (IsFirst is trapped at)
    by_trap false ends none =
        inr (λ f. elim f [ inl p ↦ none p | inr p ↦ false≢true (sym ends ∙ p.0) ])
    by_trap true traps none = elim (cases_eq at (code_end is)) [
      | inl here ↦ inl (inr (traps, here))
      | inr other ↦ inr (λ f. elim f [ inl p ↦ none p | inr p ↦ other p.1 ])
    ]

-- ---- one instruction

abbrev choose : Bool → Type 0 → Type 0 → Type 0
choose true A B = A
choose false A B = B

module _ (is : List Instr) (trapped : Bool) (at : ℕ) (i : Instr) (summary : PathSummary) (here : IsAt is at i)
    (told : IsSummary is at summary) where
  abbrev HasFailed : Type 0
  HasFailed = (f : HandlerFault) × Fails is trapped at i summary f

  -- no fault of a rank below
  abbrev PassesTo : ℕ → Type 0
  PassesTo = Passes is trapped at i summary

  -- what holds where no fault of a rank applies
  abbrev Fact : ℕ → Type 0
  Fact n =
      choose (n == 3) (is_allowed i ≡ true)
      (choose (n == 4) ((to : ℕ) → IsIn (written_by i) to → is_free to ≡ true)
      (choose (n == 5) (GoesForward i)
      (choose (n == 6) ((to : ℕ) → IsIn (branches_to at i) to → IsFirst is trapped to)
      (choose (n == 7) ((summary.meets ≡ false) × FitsHeight i summary.height)
      (choose (n == 8) ((to : ℕ) → IsIn (falls_to at i) to → IsFirst is trapped to) (Unit {0}))))))

  abbrev FactsTo : ℕ → Type 0
  FactsTo r = (n : ℕ) → 3 ≤ n → n < r → Fact n

  start : FactsTo 3
  start n from l = absurd (omega (arith, from, l))

  onward : (r : ℕ) → FactsTo r → Fact r → FactsTo (suc r)
  onward r facts next n from l = elim (cases_eq n r) [
    | inl here ↦ subst Fact (sym here) next
    | inr other ↦ facts n from (omega (arith, l, other))
  ]

  passes_to : (r : ℕ) → FactsTo r → PassesTo r
  passes_to r facts = record {
    allowed = facts 3 (omega arith);
    free = facts 4 (omega arith);
    forward = facts 5 (omega arith);
    branches = facts 6 (omega arith);
    meets = λ l. (facts 7 (omega arith) l).0;
    height = λ l. (facts 7 (omega arith) l).1;
    falls = facts 8 (omega arith);
  }

  judged_allowed : FactsTo 4 ⊎ HasFailed
  judged_allowed = by_bool (is_allowed i) refl
    where
      by_bool : (c : Bool) → is_allowed i ≡ c → FactsTo 4 ⊎ HasFailed
      by_bool false never = inr (
        Refused at,
        record { applies = (i, (here, never)); place = refl; passes = passes_to 3 start },
      )
      by_bool true may = inl (onward 3 start may)

  free_or : (to : ℕ) → IsDecided (is_free to ≡ true)
  free_or to = by_bool (is_free to) refl
    where
      by_bool : (c : Bool) → is_free to ≡ c → IsDecided (is_free to ≡ true)
      by_bool true e = inl e
      by_bool false e = inr (λ t. false≢true (sym e ∙ t))

  judged_free : FactsTo 4 → FactsTo 5 ⊎ HasFailed
  judged_free p = elim (each_or_one (λ to. is_free to ≡ true) free_or (written_by i)) [
    | inr (to, (writes, not_free)) ↦ inr (
      NotFree at to,
      record {
        applies = (i, (here, writes, other to (is_free to) refl not_free));
        place = refl;
        passes = passes_to 4 p;
      },
    )
    | inl free ↦ inl (onward 4 p free)
  ]
    where
      other : (to : ℕ) (c : Bool) → is_free to ≡ c → (is_free to ≡ true → ⊥) → is_free to ≡ false
      other to false e n = e
      other to true e n = absurd (n e)

  judged_forward : FactsTo 5 → FactsTo 6 ⊎ HasFailed
  judged_forward p = elim (forward_or (kind_of i)) [
    | inr back ↦ inr (Backward at, record { applies = (i, (here, back)); place = refl; passes = passes_to 5 p })
    | inl forward ↦ inl (onward 5 p forward)
  ]

  judged_branches : FactsTo 6 → FactsTo 7 ⊎ HasFailed
  judged_branches p = elim (each_or_one (IsFirst is trapped) (first_or is trapped) (branches_to at i)) [
    | inr (to, (there, none)) ↦
        inr (Target at to, record { applies = (i, (here, there, none)); place = refl; passes = passes_to 6 p })
    | inl all ↦ inl (onward 6 p all)
  ]

  judged_height : FactsTo 7 → FactsTo 8 ⊎ HasFailed
  judged_height p = by_bool summary.meets refl
    where
      by_bool : (c : Bool) → summary.meets ≡ c → FactsTo 8 ⊎ HasFailed
      by_bool true meets =
          inr (Height at, record { applies = (i, (here, inl (told.two meets))); place = refl; passes = passes_to 7 p })
      by_bool false apart = elim (height_or (kind_of i) summary.height) [
        | inr none ↦ inr (
          Height at,
          record {
            applies = (i, (here, inr (summary.most, summary.height, (told.one apart, none))));
            place = refl;
            passes = passes_to 7 p;
          },
        )
        | inl fits ↦ inl (onward 7 p (apart, fits))
      ]

  judged_falls : FactsTo 8 → FactsTo 9 ⊎ HasFailed
  judged_falls p = elim (each_or_one (IsFirst is trapped) (first_or is trapped) (falls_to at i)) [
    | inr (to, (there, none)) ↦
        inr (Falls at, record { applies = (i, to, (here, there, none)); place = refl; passes = passes_to 8 p })
    | inl all ↦ inl (onward 8 p all)
  ]

  after : {n m : ℕ} → (FactsTo n → FactsTo m ⊎ HasFailed) → FactsTo n ⊎ HasFailed → FactsTo m ⊎ HasFailed
  after {n} {m} next (inl p) = next p
  after {n} {m} next (inr failed) = inr failed

  judged_here : PassesTo 9 ⊎ HasFailed
  judged_here = elim (after judged_falls (after judged_height (after judged_branches (after judged_forward
      (after judged_free judged_allowed))))) [
        | inl facts ↦ inl (passes_to 9 facts)
        | inr failed ↦ inr failed
      ]

-- ---- one after the other

module _ (is : List Instr) (trapped : Bool) where
  abbrev IsFaulty : Type 0
  IsFaulty = (f : HandlerFault) × IsFirstFault is trapped f

  record IsReached (at : ℕ) : Type 0 where
    best : ℕ
    summaries : ℕ → Option PathSummary
    judged : AreJudged is trapped at best summaries

  longest : (i : Instr) (best most : ℕ) → (more : ℕ) × (best ≤ more) × (i ≡ Rti → most ≤ more)
      × ((more ≡ best) ⊎ ((i ≡ Rti) × (most ≡ more)))
  longest i best most = elim (rti_or i) [
    | inr other ↦ (best, omega arith, λ e. absurd (other e), inl refl)
    | inl rti ↦ elim (cases_lt best most) [
      | inl more ↦ (most, omega (arith, more), λ _. omega arith, inr (rti, refl))
      | inr few ↦ (best, omega arith, λ _. few, inl refl)
    ]
  ]

  one_judged : (at : ℕ) (i : Instr) → IsAt is at i → IsReached at → IsReached (at + size_of i) ⊎ IsFaulty
  one_judged at i here r = by_summary (r.summaries at) refl
    where
      by_summary : (o : Option PathSummary) → r.summaries at ≡ o → IsReached (at + size_of i) ⊎ IsFaulty
      by_summary None e = inr (Dead at, dead_at is trapped at r.best r.summaries i r.judged here e)
      by_summary (Some summary) e = elim (judged_here is trapped at i summary here (r.judged.tell at summary e)) [
        | inr (f, fails) ↦
            inr (f, fails_first is trapped at r.best r.summaries i summary f r.judged here e fails)
        | inl passes ↦
            let v : PathSummary =
            record { height = height_after i summary.height; most = suc summary.most; meets = false } in
            let l = longest i r.best v.most in
            inl (record {
              best = l.0;
              summaries = led_all r.summaries (leads at i) v;
              judged = mark_on is trapped at r.best l.0 r.summaries (led_all r.summaries (leads at i) v) i summary v
                  (record {
                    judged = r.judged;
                    here = here;
                    summary_is = e;
                    passes = passes;
                    height = refl;
                    most = refl;
                    meets = refl;
                    over = l.1;
                    few = l.2;
                    longest = l.3;
                  })
                  (λ q. refl);
            })
      ]

  first_reached : IsReached 16384
  first_reached =
      let first : PathSummary = record { height = 0; most = 0; meets = false } in
      record {
        best = 0;
        summaries = led_all (λ at. None) (16384 ∷ []) first;
        judged = mark_first is trapped (led_all (λ at. None) (16384 ∷ []) first) first refl (λ q. refl);
      }

  reached : (k : ℕ) → k ≤ length is → IsReached (code_end (take k is)) ⊎ IsFaulty
  reached zero few = inl (subst IsReached (let e : 16384 ≡ code_end (take 0 is) = omega arith in e) first_reached)
  reached (suc k) few = elim (reached k (omega (arith, few))) [
    | inr faulty ↦ inr faulty
    | inl r ↦
        let at = code_end (take k is) in
        let d = LdaaImmediate 0 in
        let s = stands_behind is is k at d refl (omega (arith, few)) refl in
        let same : at + size_of (get_or is k d) ≡ code_end (take (suc k) is) =
        s.next ∙ (let e : k + 1 ≡ suc k = omega arith in subst (λ n. code_end (take (k + 1) is) ≡ code_end (take n is)) e refl) in
        elim (one_judged at (get_or is k d) s.here r) [
          | inr faulty ↦ inr faulty
          | inl next ↦ inl (subst IsReached same next)
        ]
  ]

  abbrev IsJudged : Type 0
  IsJudged = ((trapped ≡ false) × ((instrs : ℕ) × IsAccepted is instrs)) ⊎ IsFaulty

  ended : FitCode is → code_end is ≤ 20480 → (trapped ≡ false → 16384 < code_end is) → IsReached (code_end is)
      → IsJudged
  ended fits few some r = by_trap trapped refl
    where
      by_summary : trapped ≡ true → (o : Option PathSummary) → r.summaries (code_end is) ≡ o → IsFaulty
      by_summary traps None e = (
        Dead (code_end is),
        behind_first is trapped r.best r.summaries (code_end is) (Dead (code_end is)) refl traps r.judged
            (subst (λ o. MatchOption o (Dead (code_end is) ≡ Dead (code_end is)) (λ w. Dead (code_end is) ≡ Trap (code_end is)))
            (sym e) refl),
      )
      by_summary traps (Some w) e = (
        Trap (code_end is),
        behind_first is trapped r.best r.summaries (code_end is) (Trap (code_end is)) refl traps r.judged
            (subst (λ o. MatchOption o (Trap (code_end is) ≡ Dead (code_end is)) (λ w. Trap (code_end is) ≡ Trap (code_end is)))
            (sym e) refl),
      )

      by_trap : (t : Bool) → trapped ≡ t → IsJudged
      by_trap true traps = inr (by_summary traps (r.summaries (code_end is)) refl)
      by_trap false ends =
          let d = LdaaImmediate 0 in
          inl (
            ends,
            (
              r.best,
              accepted_of is r.best r.summaries fits few
                  (get_or is 0 d, is_at-here is 0 d (some_code is (some ends)))
                  (subst (λ t. AreJudged is t (code_end is) r.best r.summaries) ends r.judged),
            ),
          )

  pub code_judged : FitCode is → code_end is ≤ 20480 → (trapped ≡ false → 16384 < code_end is) → IsJudged
  code_judged fits few some = elim (reached (length is) (omega arith)) [
    | inr faulty ↦ inr faulty
    | inl r ↦ ended fits few some
        (subst IsReached (code_end-all is is (length is) (code_end (take (length is) is)) refl refl refl) r)
  ]
