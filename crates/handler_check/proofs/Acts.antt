-- Where an allowed instruction leads, and that it leaves the X flag.
use Rattle.handler_check.proofs.Words.{[], ◌+◌, ◌++◌, ◌<◌, ◌∙◌, ◌∷◌, ◌≡◌, ◌≤◌, arith, Bcc, Bcs, Beq, Bne, Bool, Bra}
use Rattle.handler_check.proofs.Words.{Branches, effect, falls, false, false≢true, FitsHeight, given, GoesForward}
use Rattle.handler_check.proofs.Words.{height_after, if◌then◌else◌, inl, inr, Instr, IsIn, Jumps, Kind, kind_of}
use Rattle.handler_check.proofs.Words.{LdaaImmediate, leads, List, nat_lt, nat_tests, None, Option, plus, Psha, Pula}
use Rattle.handler_check.proofs.Words.{refl, Regs, Returns, Rti, size_of, Some, subst, sym, target, targets, true, ℕ}
use Rattle.std.proofs.Common.{rules}
use Rattle.cpu12_isa.specs.{Registers.branched, Registers.offset}
use Rattle.cpu12_isa.specs.Plain.{PlainLeavesByTables, passes_on, keeps_x}
use Rattle.handler_check.proofs.Decoding.{is_stepping, plain_of, size_low}

-- at most 15 bytes are pushed
pub height_after-low : (i : Instr) (h : ℕ) → FitsHeight i h → h ≤ 15 → height_after i h ≤ 15
height_after-low (LdaaImmediate v) h f l = l
height_after-low Psha h f l = omega arith
height_after-low Pula h f l = omega arith
height_after-low i h f l = l

-- PC
abbrev straight : Kind → Bool
straight (Branches to) = false
straight (Jumps to) = false
straight Returns = false
straight kind = true

abbrev is_straight : Instr → Bool
is_straight i = given false straight (kind_of i)

goes_on : (i : Instr) → is_straight i ≡ true → passes_on i ≡ true
goes_on (LdaaImmediate v) p = refl
goes_on i p = search rules

-- a branch forward
pub target_is : (at to : ℕ) → to < 128 → target at to ≡ (at + 2 + to) ∷ []
target_is at to l = let e : nat_lt to 128 ≡ true = grind (arith, nat_tests) in rw e

far_of : (pc at to : ℕ) → pc ≡ at → at < 20480 → to < 128 → plus (plus pc 2) (offset to) ≡ at + 2 + to
far_of pc at to p lo l = let e : nat_lt to 128 ≡ true = grind (arith, nat_tests) in rw e (omega arith)

taken : (pc at to : ℕ) → pc ≡ at → at < 20480 → to < 128 → IsIn (target at to) (plus (plus pc 2) (offset to))
taken pc at to p lo l =
    subst (λ (ts : List ℕ). IsIn ts (plus (plus pc 2) (offset to))) (sym (target_is at to l))
    (inl (far_of pc at to p lo l))

branches : (r : Regs) (at to : ℕ) (go : Bool) → r.pc ≡ at → at < 20480 → to < 128
    → IsIn ((at + 2) ∷ target at to) (branched r to go).pc
branches r at to true p lo l = inr (taken r.pc at to p lo l)
branches r at to false p lo l = inl (omega arith)

passes : PlainLeavesByTables → (flags : ℕ) (i : Instr) (r : Regs) (m : List ℕ) (at : ℕ) → is_stepping i ≡ true
    → is_straight i ≡ true → r.pc ≡ at → at < 20480 → (effect flags i r m).regs.pc ≡ at + size_of i
passes leaves flags i r m at p a e lo =
    let k = leaves flags i r m (plain_of i p) in
    let s = size_low i in
    k.pc (goes_on i a) ∙ omega (arith, s.1)

straight_leads : (k : Option Kind) (at next : ℕ) → given false straight k ≡ true
    → IsIn (given [] (falls next) k ++ given [] (targets at) k) next
straight_leads None at next a = absurd (false≢true a)
straight_leads (Some (Branches to)) at next a = absurd (false≢true a)
straight_leads (Some (Jumps to)) at next a = absurd (false≢true a)
straight_leads (Some Returns) at next a = absurd (false≢true a)
straight_leads k at next a = inl refl

pub pc_leads : PlainLeavesByTables → (flags : ℕ) (i : Instr) (r : Regs) (m : List ℕ) (at : ℕ) → is_stepping i ≡ true
    → GoesForward i → r.pc ≡ at → at < 20480 → IsIn (leads at i) (effect flags i r m).regs.pc
pc_leads leaves flags (Beq to) r m at a f p lo = branches r at to _ p lo f
pc_leads leaves flags (Bne to) r m at a f p lo = branches r at to _ p lo f
pc_leads leaves flags (Bcc to) r m at a f p lo = branches r at to _ p lo f
pc_leads leaves flags (Bcs to) r m at a f p lo = branches r at to _ p lo f
pc_leads leaves flags (Bra to) r m at a f p lo = taken r.pc at to p lo f
pc_leads leaves flags Rti r m at a f p lo = absurd (false≢true a)
pc_leads leaves flags i r m at a f p lo = subst (IsIn (leads at i)) (sym (passes leaves flags i r m at a a p lo))
    (straight_leads (kind_of i) at (at + size_of i) a)

-- what an instruction leads to lies further on
target_on : (at to x : ℕ) → IsIn (target at to) x → at < x
target_on at to x w = cases (nat_lt to 128) w
  where
    cases : (b : Bool) → IsIn (if b then (at + 2 + to) ∷ [] else []) x → at < x
    cases true w = elim w [ inl e ↦ omega arith | inr k ↦ absurd k ]
    cases false w = absurd w

kind_on : (k : Option Kind) (at next x : ℕ) → at < next
    → IsIn (given [] (falls next) k ++ given [] (targets at) k) x → at < x
kind_on None at next x l w = absurd w
kind_on (Some (Branches to)) at next x l w = elim w [ inl e ↦ omega arith | inr k ↦ target_on at to x k ]
kind_on (Some (Jumps to)) at next x l w = target_on at to x w
kind_on (Some Returns) at next x l w = absurd w
kind_on k at next x l w = elim w [ inl e ↦ omega arith | inr k ↦ absurd k ]

pub leads_on : (i : Instr) (at x : ℕ) → 0 < size_of i → IsIn (leads at i) x → at < x
leads_on i at x s w = kind_on (kind_of i) at (at + size_of i) x (omega arith) w

-- the X flag stays
pub keeps_of : (i : Instr) → is_stepping i ≡ true → keeps_x i ≡ true
keeps_of (LdaaImmediate v) p = refl
keeps_of i p = search rules
