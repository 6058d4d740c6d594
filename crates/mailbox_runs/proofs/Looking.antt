-- What an idle turn changes is forgotten at the next look.
use Rattle.mailbox_runs.proofs.Words.{[], ◌<◌, ◌==◌, ◌^◌, ◌∙◌, ◌∷◌, ◌≡◌, ap, ap₂, arith, Beq, Bool, false, get_or}
use Rattle.mailbox_runs.proofs.Words.{given, has, IsChoice, IsLook, LdaaExtended, List, MemoryMap, nat_le, plus, refl}
use Rattle.mailbox_runs.proofs.Words.{Regs, set, State, sym, Temps, true, zero_result, ℕ}
use Rattle.cpu12_isa.specs.{declared.instr.Ccr.Ccr, Flags.put, Flags.tested, Registers.loaded_a, Registers.branched}
use Rattle.cpu12_parts.specs.{Whole.after_plain}
use Rattle.eval_code.specs.{Evaluation.put as put_bytes}
use Rattle.cpu12_isa.proofs.Algebra.{bit, bit_or_is, bit_and_is, same_ccr, fits_put}

-- N, Z and V put twice
abbrev three : Ccr → Bool → Bool → Ccr
three c n z = put (put (put c 3 n) 2 z) 1 false

three_fit : (c : Ccr) (n z : Bool) → c.0 < 2 ^ 8 → (three c n z).0 < 2 ^ 8
three_fit c n z f = fits_put (put (put c 3 n) 2 z) 1 false (omega arith)
    (fits_put (put c 3 n) 2 z (omega arith) (fits_put c 3 n (omega arith) f))

abbrev bits : ℕ → List Bool
bits n = bit n 7 ∷ bit n 6 ∷ bit n 5 ∷ bit n 4 ∷ bit n 3 ∷ bit n 2 ∷ bit n 1 ∷ bit n 0 ∷ []

three_bits : (c : Ccr) (n z : Bool) → bits (three c n z).0 ≡ bit c.0 7 ∷ bit c.0 6 ∷ bit c.0 5 ∷ bit c.0 4 ∷ n ∷ z
    ∷ false ∷ bit c.0 0 ∷ []
three_bits c true true = simp (bit_or_is, bit_and_is)
three_bits c true false = simp (bit_or_is, bit_and_is)
three_bits c false true = simp (bit_or_is, bit_and_is)
three_bits c false false = simp bit_and_is

three_again : (c : Ccr) (m y n z : Bool) → c.0 < 2 ^ 8 → three (three c m y) n z ≡ three c n z
three_again c m y n z f =
    same_ccr (three (three c m y) n z) (three c n z) (three_fit (three c m y) n z (three_fit c m y f))
    (three_fit c n z f)
    (three_bits (three c m y) n z ∙ ap kept (three_bits c m y) ∙ sym (three_bits c n z))
  where
    kept : List Bool → List Bool
    kept bs = get_or bs 0 false ∷ get_or bs 1 false ∷ get_or bs 2 false ∷ get_or bs 3 false ∷ n ∷ z ∷ false
        ∷ get_or bs 7 false ∷ []

-- states that LDAA makes the same: but for A, N, Z and V they are
pub record AreAlike (s u : State) : Type 0 where
  pub mem : s.mem ≡ u.mem
  pub temps : s.temps ≡ u.temps
  pub loads : (v : ℕ) → loaded_a s.regs v 3 ≡ loaded_a u.regs v 3

pub alike_self : (s : State) → AreAlike s s
alike_self s = record { mem = refl; temps = refl; loads = λ v. refl }

-- an idle turn
pub idle_alike : (l : MemoryMap) (image : List ℕ) (flags : ℕ) (s looked chosen u : State)
    → IsLook l image flags s looked
    → IsChoice l image flags looked chosen
    → s.regs.ccr.0 < 2 ^ 8 → chosen.regs.pc ≡ s.regs.pc → AreAlike s u → AreAlike chosen u
idle_alike l image flags s looked chosen u look choice fits back same =
    let v0 = get_or s.mem l.sample_flag 0 in
    let first : looked ≡ after_plain flags (LdaaExtended l.sample_flag) s =
    (let shown = look.step in let step = shown.step in step.after) in
    let second : chosen ≡ after_plain flags (Beq 0xFB) looked =
    (let shown = choice.step in let step = shown.step in step.after) in
    let whole : chosen ≡ after_plain flags (Beq 0xFB) (after_plain flags (LdaaExtended l.sample_flag) s) =
    second ∙ ap (after_plain flags (Beq 0xFB)) first in
    let z = has (tested s.regs.ccr v0) zero_result in
    let regs : chosen.regs ≡ branched (loaded_a s.regs v0 3) 0xFB z = ap (λ (w : State). w.regs) whole in
    let pc : (branched (loaded_a s.regs v0 3) 0xFB z).pc ≡ s.regs.pc = ap (λ (r : Regs). r.pc) (sym regs) ∙ back in
    record {
      mem = choice.mem ∙ look.mem ∙ same.mem;
      temps = ap (λ (w : State). w.temps) whole ∙ same.temps;
      loads = λ v.
          (ap (λ (r : Regs). loaded_a r v 3) regs
          ∙ ap₂ (made v) (three_again s.regs.ccr (nat_le 128 v0) (v0 == 0) (nat_le 128 v) (v == 0) fits) pc
          ∙ same.loads v);
    }
  where
    made : ℕ → Ccr → ℕ → Regs
    made v c pc = record { a = v; b = s.regs.b; x = s.regs.x; y = s.regs.y; sp = s.regs.sp; pc = plus pc 3; ccr = c }

-- the look at a sample that is given in either
pub same_look : (l : MemoryMap) (image : List ℕ) (flags : ℕ) (bytes : List ℕ) (s u a b : State)
    → IsLook l image flags (given l bytes s) a
    → IsLook l image flags (given l bytes u) b → AreAlike s u → a ≡ b
same_look l image flags bytes s u a b la lb same =
    let mem = ap (λ (m : List ℕ). set (put_bytes m l.samples bytes) l.sample_flag 1) same.mem in
    let first : a ≡ after_plain flags (LdaaExtended l.sample_flag) (given l bytes s) =
    (let shown = la.step in let step = shown.step in step.after) in
    let second : b ≡ after_plain flags (LdaaExtended l.sample_flag) (given l bytes u) =
    (let shown = lb.step in let step = shown.step in step.after) in
    let regs = same.loads (get_or (set (put_bytes s.mem l.samples bytes) l.sample_flag 1) l.sample_flag 0)
    ∙ ap (λ (m : List ℕ). loaded_a u.regs (get_or m l.sample_flag 0) 3) mem in
    first ∙ ap₂ (λ (r : Regs) (m : List ℕ). made r s.temps m) regs mem
    ∙ ap (λ (t : Temps). made (loaded_a u.regs (get_or (set (put_bytes u.mem l.samples bytes) l.sample_flag 1) l.sample_flag 0) 3) t
    (set (put_bytes u.mem l.samples bytes) l.sample_flag 1)) same.temps
    ∙ sym second
  where
    made : Regs → Temps → List ℕ → State
    made r t m = record { regs = r; temps = t; mem = m }
