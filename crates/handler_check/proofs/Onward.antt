-- What is needed where one instruction is judged.
use Rattle.handler_check.proofs.Words.{[], ◌+◌, ◌-◌, ◌<◌, ◌∙◌, ◌∷◌, ◌≡◌, ◌≤◌, ap, AreFirsts, AreJudged, arith, Bool}
use Rattle.handler_check.proofs.Words.{branches_to, code_end, Dead, falls, falls_to, false, FitCode, get_or, given}
use Rattle.handler_check.proofs.Words.{HandlerFault, if◌then◌else◌, inl, inr, Instr, IsAccepted, IsAt, IsFirst}
use Rattle.handler_check.proofs.Words.{IsFirstFault, IsIn, Kind, kind_of, LdaaImmediate, leads, led_all, length, List}
use Rattle.handler_check.proofs.Words.{nat_le, nat_lt, nat_tests, None, Option, PathSummary, refl, replicate, Returns}
use Rattle.handler_check.proofs.Words.{Rti, size_of, slice_get, Some, subst, suc, summary_at, sym, targets, Trap, true}
use Rattle.handler_check.proofs.Words.{unwrap_or, zero, ℕ}
use Rattle.std.specs.{Prelude.IfSome, Prelude.MatchOption}
use Rattle.handler_check.specs.{PathSummaries.list_of}
use Rattle.handler_check.proofs.{Places.below_end, Places.is_at-here, Marking.accepted_of}
use Rattle.handler_check.proofs.{FirstFaults.dead_first, FirstFaults.trap_first, Leading.all_append, Leading.all_same}
use Rattle.handler_check.proofs.Tables.{first_within}

-- a place, if there is one, is one of the table's
pub to_within : (is : List Instr) (trapped : Bool) (firsts : List Bool) (o : Option ℕ) (tos : List ℕ) (n : ℕ)
    → AreFirsts is trapped firsts → list_of o ≡ tos → ((q : ℕ) → IsIn tos q → IsFirst is trapped q) → n ≡ length firsts
    → IfSome o (λ at. (16384 ≤ at) × (at < 16384 + n))
to_within is trapped firsts None tos n t e f l = tt
to_within is trapped firsts (Some at) tos n t e f l =
    let w = first_within is trapped firsts at t (f at (subst (λ (ts : List ℕ). IsIn ts at) e (inl refl))) in
    (w.0, omega (arith, w.1))

-- where an instruction of a kind leads
pub falls_of : (i : Instr) (kind : Kind) (at size : ℕ) (to : Option ℕ) → kind_of i ≡ Some kind → size ≡ size_of i
    → list_of to ≡ falls (at + size) kind → list_of to ≡ falls_to at i
falls_of i kind at size to k s e = e ∙ ap (λ (n : ℕ). falls (at + n) kind) s
    ∙ ap (λ (o : Option Kind). given [] (falls (at + size_of i)) o) (sym k)

pub branches_of : (i : Instr) (kind : Kind) (at : ℕ) (to : Option ℕ) → kind_of i ≡ Some kind
    → list_of to ≡ targets at kind → list_of to ≡ branches_to at i
branches_of i kind at to k e = e ∙ ap (λ (o : Option Kind). given [] (targets at) o) (sym k)

-- RTI alone is of its kind
pub rti_of : (i : Instr) → kind_of i ≡ Some Returns → i ≡ Rti
rti_of Rti e = refl
rti_of i e = absurd (let z : ⊥ = cc in z)

pub returns_of : (i : Instr) (kind : Kind) → kind_of i ≡ Some kind → i ≡ Rti → kind ≡ Returns
returns_of Rti kind k e = cc
returns_of i kind k e = absurd (let z : ⊥ = cc in z)

-- both summaries on
pub on_both : (summaries mid later : ℕ → Option PathSummary) (at : ℕ) (i : Instr) (falls branch : Option ℕ)
    (v : PathSummary)
    → list_of falls ≡ falls_to at i → list_of branch ≡ branches_to at i
    → ((q : ℕ) → mid q ≡ led_all summaries (list_of falls) v q) → ((q : ℕ) → later q ≡ led_all mid (list_of branch) v q)
    → (q : ℕ) → later q ≡ led_all summaries (leads at i) v q
on_both summaries mid later at i falls branch v e f a b q =
    b q
    ∙ all_same mid (led_all summaries (list_of falls) v) (list_of branch) v a q
    ∙ ap (λ (ts : List ℕ). led_all (led_all summaries (list_of falls) v) ts v q) f
    ∙ ap (λ (ts : List ℕ). led_all (led_all summaries ts v) (branches_to at i) v q) e
    ∙ sym (all_append summaries (falls_to at i) (branches_to at i) v q)

-- no summary leads anywhere at first
abbrev no_summary : Option PathSummary
no_summary = None

unwrapped : (n k : ℕ) → unwrap_or (slice_get (replicate n no_summary) k) no_summary ≡ no_summary
unwrapped zero k = refl
unwrapped (suc n) zero = refl
unwrapped (suc n) (suc k) = unwrapped n k

none_at : (xs : List (Option PathSummary)) (n : ℕ) → xs ≡ replicate n no_summary → (q : ℕ) → summary_at xs q
    ≡ no_summary
none_at xs n e q = subst (λ (ys : List (Option PathSummary)). summary_at ys q ≡ no_summary) (sym e)
    (cases (nat_le 16384 q))
  where
    cases : (b : Bool) → (if b then unwrap_or (slice_get (replicate n no_summary) (q - 16384)) no_summary else
        no_summary) ≡ no_summary
    cases true = unwrapped n (q - 16384)
    cases false = refl

pub first_on : (xs : List (Option PathSummary)) (n : ℕ) (later : ℕ → Option PathSummary) (first : PathSummary) → xs
    ≡ replicate n no_summary
    → ((q : ℕ) → later q ≡ led_all (summary_at xs) (16384 ∷ []) first q) → (q : ℕ)
    → later q ≡ led_all (λ at. None) (16384 ∷ []) first q
first_on xs n later first e on q = on q ∙ all_same (summary_at xs) (λ at. None) (16384 ∷ []) first (none_at xs n e) q

-- no path leads to an instruction
pub dead_at : (is : List Instr) (trapped : Bool) (at best : ℕ) (summaries : ℕ → Option PathSummary) (i : Instr)
    → AreJudged is trapped at best summaries → IsAt is at i → summaries at ≡ None → IsFirstFault is trapped (Dead at)
dead_at is trapped at best summaries i m here none =
    let b = below_end is at i here in
    dead_first is trapped at best summaries m (omega (arith, b.1)) (inl (i, here)) none

-- behind the last instruction
pub behind_first : (is : List Instr) (trapped : Bool) (best : ℕ) (summaries : ℕ → Option PathSummary) (at : ℕ)
    (f : HandlerFault) → at ≡ code_end is → trapped ≡ true → AreJudged is trapped at best summaries
    → MatchOption (summaries at) (f ≡ Dead at) (λ w. f ≡ Trap at) → IsFirstFault is trapped f
behind_first is trapped best summaries at f e t m told = by (summaries at) refl told
  where
    by : (o : Option PathSummary) → summaries at ≡ o → MatchOption o (f ≡ Dead at) (λ w. f ≡ Trap at)
        → IsFirstFault is trapped f
    by None w r = subst (λ (g : HandlerFault). IsFirstFault is trapped g) (sym r)
        (dead_first is trapped at best summaries m (omega arith) (inr (t, e)) w)
    by (Some summary) w r =
        subst (λ (g : HandlerFault). IsFirstFault is trapped g) (sym (r ∙ ap (λ (k : ℕ). Trap k) e))
        (trap_first is trapped best summaries summary (subst (λ (k : ℕ). AreJudged is trapped k best summaries) e m) t
        (ap summaries (sym e) ∙ w))

pub some_code : (is : List Instr) → 16384 < code_end is → 0 < length is
some_code [] l = absurd (omega arith)
some_code (i ∷ is) l = omega arith

pub accepted_end : (is : List Instr) (trapped : Bool) (firsts : List Bool) (best : ℕ)
    (summaries : ℕ → Option PathSummary) (at : ℕ)
    → AreFirsts is trapped firsts → 0 < length firsts → FitCode is → trapped ≡ false → at ≡ code_end is
    → AreJudged is trapped at best summaries
    → IsAccepted is best
accepted_end is trapped firsts best summaries at t some fits e here m =
    let u : nat_lt (code_end is) (16384 + length firsts) ≡ false = sym t.trap ∙ e in
    let v : 16384 + length firsts ≤ code_end is = grind (arith, nat_tests) in
    let ends = t.ends in
    let limit = t.limit in
    let n : 0 < length is = some_code is (omega arith) in
    accepted_of is best summaries fits (omega arith) (
      get_or is 0 (LdaaImmediate 0),
      is_at-here is 0 (LdaaImmediate 0)
          n,
    )
    (subst (λ (b : Bool). AreJudged is b (code_end is) best summaries) e
    (subst (λ (k : ℕ). AreJudged is trapped k best summaries) here m))
