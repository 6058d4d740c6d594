-- The first fault of code; and that accepted code has none.
use Rattle.handler_check.proofs.Words.{◌<◌, ◌∙◌, ◌≡◌, ◌≤◌, ◌⊎◌, ap, Applies, AreJudged, arith, Backward, Bool}
use Rattle.handler_check.proofs.Words.{branches_to, cases_lt, code_end, Dead, Empty, Falls, falls_to, false}
use Rattle.handler_check.proofs.Words.{false≢true, FitsHeight, GoesForward, HandlerFault, Height, height_after, inl}
use Rattle.handler_check.proofs.Words.{inr, Instr, is_allowed, IsAccepted, IsAt, IsFirst, IsFirstFault, IsIn}
use Rattle.handler_check.proofs.Words.{IsSummary, leads, List, May, Meets, Memory, None, NotFree, Option, Outside}
use Rattle.handler_check.proofs.Words.{Passes, Path, PathSummary, place_of, rank, refl, Refused, Some, subst, suc}
use Rattle.handler_check.proofs.Words.{sym, Target, Trap, true, written_by, ℕ}
use Rattle.handler_check.specs.{Judging.Fails}
use Rattle.handler_check.proofs.{Places.below_end, Places.one_instr, Marking.below_of}
use Rattle.handler_check.proofs.Leading.{one_summary, in_left, in_right}

-- accepted code
led_there : (is : List Instr) (instrs at to : ℕ) (i : Instr) → IsAccepted is instrs → IsAt is at i
    → IsIn (leads at i) to → (j : Instr) × IsAt is to j
led_there is instrs at to i acc w k = let r = acc.reached at i w in
    acc.stands (suc r.0) to (height_after i r.1) (at, r.1, i, (r.2, w, k, refl))

may_there : (is : List Instr) (instrs at : ℕ) (i : Instr) → IsAccepted is instrs → IsAt is at i → (h : ℕ) × May i h
may_there is instrs at i acc w = let r = acc.reached at i w in (r.1, acc.may r.0 at r.1 i r.2 w)

meets_not : (is : List Instr) (instrs at : ℕ) → IsAccepted is instrs → Meets is at → ⊥
meets_not is instrs at acc m = m.4.2 (acc.one_height at m.0 m.1 m.2 m.3 m.4.0 m.4.1)

pub faultless : (is : List Instr) (instrs : ℕ) → IsAccepted is instrs → (f : HandlerFault) → Applies is false f → ⊥
faultless is instrs acc Empty a = a
faultless is instrs acc (Outside at) a = a
faultless is instrs acc (Dead at) a =
    elim a.0 [ inl p ↦ (let r = acc.reached at p.0 p.1 in a.1 r.0 r.1 r.2) | inr t ↦ false≢true t.0 ]
faultless is instrs acc (Trap at) a = false≢true a.0
faultless is instrs acc (Refused at) a =
    (let m = may_there is instrs at a.0 acc a.1.0 in false≢true (sym a.1.1 ∙ m.1.allowed))
faultless is instrs acc (NotFree at to) a =
    (let m = may_there is instrs at a.0 acc a.1.0 in false≢true (sym a.1.2 ∙ m.1.free to a.1.1))
faultless is instrs acc (Backward at) a = (let m = may_there is instrs at a.0 acc a.1.0 in a.1.1 m.1.forward)
faultless is instrs acc (Target at to) a =
    a.1.2 (inl (led_there is instrs at to a.0 acc a.1.0 (in_right (falls_to at a.0) (branches_to at a.0) to a.1.1)))
faultless is instrs acc (Height at) a = elim a.1.1 [
  | inl m ↦ meets_not is instrs at acc m
  | inr n ↦ n.2.1 (acc.may n.0 at n.1 a.0 n.2.0 a.1.0).height
]
faultless is instrs acc (Falls at) a =
    a.2.2 (inl (led_there is instrs at a.1 a.0 acc a.2.0 (in_left (falls_to at a.0) (branches_to at a.0) a.1 a.2.1)))
faultless is instrs acc Memory a = a

-- the height of every path to a place with a summary
one_height : (is : List Instr) (trapped : Bool) (below best : ℕ) (summaries : ℕ → Option PathSummary)
    → AreJudged is trapped below best summaries → (at : ℕ) (summary : PathSummary) → summaries at ≡ Some summary
    → summary.meets ≡ false → at ≤ below
    → (n h : ℕ) → Path is n at h → h ≡ summary.height
one_height is trapped below best summaries m at summary e apart l n h p =
    let a = m.complete n at h (below_of is below n at h l p) in
    let same : a.summary ≡ summary = one_summary a.summary summary (sym a.is ∙ e) in
    a.height (ap (λ (u : PathSummary). u.meets) same ∙ apart) ∙ ap (λ (u : PathSummary). u.height) same

no_meeting : (is : List Instr) (trapped : Bool) (below best : ℕ) (summaries : ℕ → Option PathSummary)
    → AreJudged is trapped below best summaries → (at : ℕ) (summary : PathSummary) → summaries at ≡ Some summary
    → summary.meets ≡ false → at ≤ below
    → Meets is at → ⊥
no_meeting is trapped below best summaries m at summary e apart l t =
    t.4.2 (one_height is trapped below best summaries m at summary e apart l t.0 t.2 t.4.0
    ∙ sym (one_height is trapped below best summaries m at summary e apart l t.1 t.3 t.4.1))

-- no fault of a rank that was passed applies at a place up to which all is judged
pub passed : (is : List Instr) (trapped : Bool) (below best : ℕ) (summaries : ℕ → Option PathSummary)
    → AreJudged is trapped below best summaries → (at : ℕ) (i : Instr) (summary : PathSummary) → IsAt is at i
    → summaries at ≡ Some summary
    → at ≤ below
    → (r : ℕ) → Passes is trapped at i summary r → (g : HandlerFault) → Applies is trapped g → place_of g ≡ at
    → rank g < r → ⊥
passed is trapped below best summaries m at i summary w e l r p Empty a s k = a
passed is trapped below best summaries m at i summary w e l r p (Outside q) a s k = a
passed is trapped below best summaries m at i summary w e l r p (Dead q) a s k =
    (let t = m.tell at summary e in let path = t.some in
    a.1 path.0 path.1 (subst (λ (x : ℕ). Path is path.0 x path.1) (sym s) path.2))
passed is trapped below best summaries m at i summary w e l r p (Trap q) a s k =
    (let b = below_end is at i w in omega (arith, b.1, a.1))
passed is trapped below best summaries m at i summary w e l r p (Refused q) a s k =
    let j : a.0 ≡ i = one_instr is at i a.0 w (subst (λ (x : ℕ). IsAt is x a.0) s a.1.0) in
    false≢true (sym a.1.1 ∙ ap is_allowed j ∙ p.allowed k)
passed is trapped below best summaries m at i summary w e l r p (NotFree q to) a s k =
    let j : a.0 ≡ i = one_instr is at i a.0 w (subst (λ (x : ℕ). IsAt is x a.0) s a.1.0) in
    false≢true (sym a.1.2 ∙ p.free k to (subst (λ (x : Instr). IsIn (written_by x) to) j a.1.1))
passed is trapped below best summaries m at i summary w e l r p (Backward q) a s k =
    let j : a.0 ≡ i = one_instr is at i a.0 w (subst (λ (x : ℕ). IsAt is x a.0) s a.1.0) in
    a.1.1 (subst GoesForward (sym j) (p.forward k))
passed is trapped below best summaries m at i summary w e l r p (Target q to) a s k =
    let j : a.0 ≡ i = one_instr is at i a.0 w (subst (λ (x : ℕ). IsAt is x a.0) s a.1.0) in
    a.1.2 (p.branches k to
    (subst (λ (x : Instr). IsIn (branches_to at x) to) j (subst (λ (x : ℕ). IsIn (branches_to x a.0) to) s a.1.1)))
passed is trapped below best summaries m at i summary w e l r p (Height q) a s k =
    let j : a.0 ≡ i = one_instr is at i a.0 w (subst (λ (x : ℕ). IsAt is x a.0) s a.1.0) in
    elim a.1.1 [
      | inl t ↦ no_meeting is trapped below best summaries m at summary e (p.meets k) l
          (subst (λ (x : ℕ). Meets is x) s t)
      | inr t ↦ (let path : Path is t.0 at t.1 = subst (λ (x : ℕ). Path is t.0 x t.1) s t.2.0 in
          let h = one_height is trapped below best summaries m at summary e (p.meets k) l t.0 t.1 path in
          t.2.1 (subst (λ (x : Instr). FitsHeight x t.1) (sym j)
          (subst (λ (x : ℕ). FitsHeight i x) (sym h) (p.height k))))
    ]
passed is trapped below best summaries m at i summary w e l r p (Falls q) a s k =
    let j : a.0 ≡ i = one_instr is at i a.0 w (subst (λ (x : ℕ). IsAt is x a.0) s a.2.0) in
    a.2.2 (p.falls k a.1
    (subst (λ (x : Instr). IsIn (falls_to at x) a.1) j (subst (λ (x : ℕ). IsIn (falls_to x a.0) a.1) s a.2.1)))
passed is trapped below best summaries m at i summary w e l r p Memory a s k = a

-- a fault stands at a first byte
pub first_byte_of : (is : List Instr) (trapped : Bool) (g : HandlerFault) → Applies is trapped g
    → IsFirst is trapped (place_of g)
first_byte_of is trapped Empty a = absurd a
first_byte_of is trapped (Outside q) a = absurd a
first_byte_of is trapped (Dead q) a = a.0
first_byte_of is trapped (Trap q) a = inr a
first_byte_of is trapped (Refused q) a = inl (a.0, a.1.0)
first_byte_of is trapped (NotFree q to) a = inl (a.0, a.1.0)
first_byte_of is trapped (Backward q) a = inl (a.0, a.1.0)
first_byte_of is trapped (Target q to) a = inl (a.0, a.1.0)
first_byte_of is trapped (Height q) a = inl (a.0, a.1.0)
first_byte_of is trapped (Falls q) a = inl (a.0, a.2.0)
first_byte_of is trapped Memory a = absurd a

low_rank : (is : List Instr) (trapped : Bool) (g : HandlerFault) → Applies is trapped g → (1 ≤ rank g) × (rank g < 9)
low_rank is trapped Empty a = absurd a
low_rank is trapped (Outside q) a = absurd a
low_rank is trapped (Dead q) a = (omega arith, omega arith)
low_rank is trapped (Trap q) a = (omega arith, omega arith)
low_rank is trapped (Refused q) a = (omega arith, omega arith)
low_rank is trapped (NotFree q to) a = (omega arith, omega arith)
low_rank is trapped (Backward q) a = (omega arith, omega arith)
low_rank is trapped (Target q to) a = (omega arith, omega arith)
low_rank is trapped (Height q) a = (omega arith, omega arith)
low_rank is trapped (Falls q) a = (omega arith, omega arith)
low_rank is trapped Memory a = absurd a

-- no fault applies below a place up to which all is judged
pub none_below : (is : List Instr) (trapped : Bool) (below best : ℕ) (summaries : ℕ → Option PathSummary)
    → below ≤ code_end is
    → AreJudged is trapped below best summaries → (g : HandlerFault) → Applies is trapped g → below ≤ place_of g
none_below is trapped below best summaries le m g a = elim (cases_lt (place_of g) below) [
  | inl l ↦ absurd (none l (first_byte_of is trapped g a))
  | inr l ↦ l
]
  where
    none : place_of g < below → IsFirst is trapped (place_of g) → ⊥
    none l f = elim f [
      | inl w ↦ (let b = m.each (place_of g) w.0 w.1 l in
          passed is trapped below best summaries m (place_of g) w.0 b.summary w.1 b.is_marked (omega arith) 9 b.passes
          g a refl
          (low_rank is trapped g a).1)
      | inr t ↦ omega (arith, t.1)
    ]

-- the first fault at the place up to which all is judged
pub first_by : (is : List Instr) (trapped : Bool) (below best : ℕ) (summaries : ℕ → Option PathSummary)
    → below ≤ code_end is
    → AreJudged is trapped below best summaries → (f : HandlerFault) → Applies is trapped f → place_of f ≡ below
    → ((g : HandlerFault) → Applies is trapped g → place_of g ≡ below → rank g < rank f → ⊥) → IsFirstFault is trapped f
first_by is trapped below best summaries le m f a s none = record { applies = a; first = first }
  where
    first : (g : HandlerFault) → Applies is trapped g
        → (place_of f < place_of g) ⊎ ((place_of f ≡ place_of g) × (rank f ≤ rank g))
    first g b =
        let low = none_below is trapped below best summaries le m g b in
        elim (cases_lt below (place_of g)) [
          | inl l ↦ inl (omega arith)
          | inr l ↦ (let here : place_of g ≡ below = omega arith in elim (cases_lt (rank g) (rank f)) [
            | inl k ↦ absurd (none g b here k)
            | inr k ↦ inr (s ∙ sym here, k)
          ])
        ]

-- an instruction fails
pub fails_first : (is : List Instr) (trapped : Bool) (at best : ℕ) (summaries : ℕ → Option PathSummary) (i : Instr)
    (summary : PathSummary)
    (f : HandlerFault) → AreJudged is trapped at best summaries → IsAt is at i → summaries at ≡ Some summary
    → Fails is trapped at i summary f
    → IsFirstFault is trapped f
fails_first is trapped at best summaries i summary f m w e x =
    let b = below_end is at i w in
    let le : at ≤ code_end is = omega (arith, b.1) in
    first_by is trapped at best summaries le m f x.applies x.place
    (λ g a s k. passed is trapped at best summaries m at i summary w e (omega arith) (rank f) x.passes g a s k)

-- nothing leads there
pub no_path : (is : List Instr) (trapped : Bool) (at best : ℕ) (summaries : ℕ → Option PathSummary)
    → AreJudged is trapped at best summaries → summaries at ≡ None → (n h : ℕ) → Path is n at h → ⊥
no_path is trapped at best summaries m e n h p = let a = m.complete n at h (below_of is at n at h (omega arith) p) in
    none_some a.summary (sym e ∙ a.is)
  where
    none_some : (w : PathSummary) → None ≡ Some w → ⊥
    none_some w e = cc

-- no path leads to a first byte
pub dead_first : (is : List Instr) (trapped : Bool) (at best : ℕ) (summaries : ℕ → Option PathSummary)
    → AreJudged is trapped at best summaries → at ≤ code_end is → IsFirst is trapped at → summaries at ≡ None
    → IsFirstFault is trapped (Dead at)
dead_first is trapped at best summaries m le first e =
    first_by is trapped at best summaries le m (Dead at) (first, no_path is trapped at best summaries m e) refl
    (λ g a s k. (let l = low_rank is trapped g a in omega (arith, l.0)))

not_dead : (is : List Instr) (trapped : Bool) (at : ℕ) (summary : PathSummary) → IsSummary is at summary
    → (g : HandlerFault)
    → Applies is trapped g → place_of g ≡ at → rank g < 2 → ⊥
not_dead is trapped at summary t Empty a s k = a
not_dead is trapped at summary t (Outside q) a s k = a
not_dead is trapped at summary t (Dead q) a s k =
    (let path = t.some in a.1 path.0 path.1 (subst (λ (x : ℕ). Path is path.0 x path.1) (sym s) path.2))
not_dead is trapped at summary t (Trap q) a s k = omega arith
not_dead is trapped at summary t (Refused q) a s k = omega arith
not_dead is trapped at summary t (NotFree q to) a s k = omega arith
not_dead is trapped at summary t (Backward q) a s k = omega arith
not_dead is trapped at summary t (Target q to) a s k = omega arith
not_dead is trapped at summary t (Height q) a s k = omega arith
not_dead is trapped at summary t (Falls q) a s k = omega arith
not_dead is trapped at summary t Memory a s k = a

pub trap_first : (is : List Instr) (trapped : Bool) (best : ℕ) (summaries : ℕ → Option PathSummary)
    (summary : PathSummary)
    → AreJudged is trapped (code_end is) best summaries → trapped ≡ true → summaries (code_end is) ≡ Some summary
    → IsFirstFault is trapped (Trap (code_end is))
trap_first is trapped best summaries summary m t e =
    first_by is trapped (code_end is) best summaries (omega arith) m (Trap (code_end is)) (t, refl) refl
    (not_dead is trapped (code_end is) summary (m.tell (code_end is) summary e))
