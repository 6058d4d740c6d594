-- WAV's parts make the whole instruction.
use Rattle.std.proofs.Common.{◌≡◌, ℕ, zero, suc, ◌+◌, ◌-◌, ◌*◌, ◌/◌, ◌%◌, ◌^◌, ◌<◌, Bool, true, List, [], ◌∷◌, get_or}
use Rattle.std.proofs.Common.{refl, ap, sym, ◌∙◌, subst, arith, inl}
use Rattle.std.proofs.Common.{inr, add-zero, zero-add}
use Rattle.std.proofs.lemmas.Bool.{cases_eq, ne_eqb}
use Rattle.cpu12_isa.specs.declared.{instr.Regs.Regs, instr.Ccr.Ccr}
use Rattle.cpu12_isa.specs.Flags.{put, opened, zero_result, hnvc, hnzvc}
use Rattle.cpu12_isa.specs.{Act.read_by, Memory.plus, Memory.from, Memory.bytes_at, Agreement.AllShown}
use Rattle.cpu12_isa.proofs.Algebra.{shown_left, shown_right, bit_or_is, bit_and_is, same_ccr, fits_put, fits_opened}
use Rattle.cpu12_parts.specs.declared.temps.Temps.{Temps}
use Rattle.cpu12_parts.specs.declared.temps.Temps.TheVariants.{Free, Running}
use Rattle.cpu12_parts.specs.declared.temps.PartEnd.TheVariants.{More, Done}
use Rattle.cpu12_parts.specs.Parts.{wav, part_of, after_part}
use Rattle.cpu12_parts.specs.Averages.{dot, total, wav_whole}
use Rattle.cpu12_parts.specs.Laws.{PartsTo, addresses, state_of, IsOff, WavIsWhole}
use Rattle.cpu12_parts.specs.{State.State, State.Outcome, State.state_after, Parts.wav_act, Parts.wav_end}

abbrev pub at_sums : Regs → ℕ → ℕ → List ℕ → State
at_sums r p w mem = state_of r (Running p w) mem

-- the last part
pub last_part : (flags : ℕ) (r : Regs) (p w : ℕ) (mem : List ℕ) → r.b ≡ 1
    → part_of wav flags (at_sums r p w mem)
    ≡ record {
      regs = wav_end flags r ((p + get_or mem r.x 0 * get_or mem r.y 0) % 2 ^ 32)
          ((w + get_or mem r.y 0) % 2 ^ 16) r.pc;
      temps = Free;
      writes = [];
      end = Done;
    }
last_part flags r p w mem e = rw e

-- the registers after a part that is not the last
abbrev pub next_regs : ℕ → Regs → Regs
next_regs flags r = record r { x = plus r.x 1; y = plus r.y 1; b = r.b - 1; ccr = opened r.ccr hnzvc flags }

pub inner_part : (flags : ℕ) (r : Regs) (p w : ℕ) (mem : List ℕ) → (r.b ≡ 0 → ⊥) → (r.b ≡ 1 → ⊥)
    → part_of wav flags (at_sums r p w mem)
    ≡ record {
      regs = next_regs flags r;
      temps =
          Running ((p + get_or mem r.x 0 * get_or mem r.y 0) % 2 ^ 32) ((w + get_or mem r.y 0) % 2 ^ 16);
      writes =
          [];
      end = More;
    }
inner_part flags r p w mem h0 h1 = let e0 = ne_eqb r.b 0 h0 in let e1 = ne_eqb r.b 1 h1 in rw (e0, e1)

-- where there is none
pub empty_part : (flags : ℕ) (r : Regs) (p w : ℕ) (mem : List ℕ) → r.b ≡ 0
    → part_of wav flags (at_sums r p w mem)
    ≡ record { regs = wav_end flags r p w r.pc; temps = Free; writes = []; end = Done }
empty_part flags r p w mem e = rw e

-- what a part reads
empty_reads : (flags : ℕ) (r : Regs) (p w : ℕ) (mem : List ℕ) → r.b ≡ 0
    → read_by (wav_act flags r (Running p w)) mem ≡ []
empty_reads flags r p w mem e = rw e

last_reads : (flags : ℕ) (r : Regs) (p w : ℕ) (mem : List ℕ) → r.b ≡ 1
    → read_by (wav_act flags r (Running p w)) mem ≡ r.x ∷ r.y ∷ []
last_reads flags r p w mem e = rw e

inner_reads : (flags : ℕ) (r : Regs) (p w : ℕ) (mem : List ℕ) → (r.b ≡ 0 → ⊥) → (r.b ≡ 1 → ⊥)
    → read_by (wav_act flags r (Running p w)) mem ≡ r.x ∷ r.y ∷ []
inner_reads flags r p w mem h0 h1 = let e0 = ne_eqb r.b 0 h0 in let e1 = ne_eqb r.b 1 h1 in rw (e0, e1)

-- the flags of a part before the last do not show at the end
ends_again : (c : Ccr) (flags : ℕ) → c.0 < 2 ^ 8 → flags < 2 ^ 8
    → put (opened (opened c hnzvc flags) hnvc flags) zero_result true ≡ put (opened c hnvc flags) zero_result true
ends_again c flags f g =
    same_ccr (put (opened (opened c hnzvc flags) hnvc flags) zero_result true)
    (put (opened c hnvc flags) zero_result true)
    (fits_put (opened (opened c hnzvc flags) hnvc flags) zero_result true (omega arith)
    (fits_opened (opened c hnzvc flags) hnvc flags (fits_opened c hnzvc flags f g) g))
    (fits_put (opened c hnvc flags) zero_result true (omega arith) (fits_opened c hnvc flags f g))
    (simp (bit_or_is, bit_and_is))

end_again : (flags : ℕ) (r : Regs) (p w : ℕ) → r.ccr.0 < 2 ^ 8 → flags < 2 ^ 8
    → wav_end flags (next_regs flags r) p w r.pc ≡ wav_end flags r p w r.pc
end_again flags r p w c f =
    ap (λ (d : Ccr). let q : Regs =
    record r { y = p / 2 ^ 16; a = p / 2 ^ 8 % 2 ^ 8; b = p % 2 ^ 8; x = w; pc = plus r.pc 1; ccr = d } in q)
    (ends_again r.ccr flags c f)

-- n bytes from an address on, where there is one
bytes_more : (mem : List ℕ) (at n : ℕ) → (n ≡ 0 → ⊥)
    → bytes_at mem (from at n) ≡ get_or mem at 0 ∷ bytes_at mem (from (plus at 1) (n - 1))
bytes_more mem at zero h = absurd (h refl)
bytes_more mem at (suc n) h = let e : suc n - 1 ≡ n = omega arith in rw e

-- the end of a run from here on
abbrev pub end_state : ℕ → Regs → ℕ → ℕ → List ℕ → State
end_state flags r p w mem =
    let us = bytes_at mem (from r.x r.b) in
    let vs = bytes_at mem (from r.y r.b) in
    state_of (wav_end flags r ((p + dot us vs) % 2 ^ 32) ((w + total vs) % 2 ^ 16) r.pc) Free mem

-- one part more
one_more : (flags : ℕ) (r : Regs) (p w : ℕ) (mem : List ℕ) → (r.b ≡ 0 → ⊥) → r.ccr.0 < 2 ^ 8 → flags < 2 ^ 8
    → end_state flags (next_regs flags r) ((p + get_or mem r.x 0 * get_or mem r.y 0) % 2 ^ 32)
    ((w + get_or mem r.y 0) % 2 ^ 16) mem ≡ end_state flags r p w mem
one_more flags r p w mem h c f =
    let us = bytes_at mem (from (plus r.x 1) (r.b - 1)) in
    let vs = bytes_at mem (from (plus r.y 1) (r.b - 1)) in
    let u = get_or mem r.x 0 in
    let v = get_or mem r.y 0 in
    let ep : ((p + u * v) % 2 ^ 32 + dot us vs) % 2 ^ 32 ≡ (p + (u * v + dot us vs)) % 2 ^ 32 = omega arith in
    let ew : ((w + v) % 2 ^ 16 + total vs) % 2 ^ 16 ≡ (w + (v + total vs)) % 2 ^ 16 = omega arith in
    let there : ℕ → ℕ → State = λ P Q. state_of (wav_end flags r P Q r.pc) Free mem in
    let back : end_state flags r p w mem ≡ there ((p + (u * v + dot us vs)) % 2 ^ 32) ((w + (v + total vs)) % 2 ^ 16) =
    rw (bytes_more mem r.x r.b h, bytes_more mem r.y r.b h) in
    let make : Regs → State = λ g. state_of g Free mem in
    ap make (end_again flags r (((p + u * v) % 2 ^ 32 + dot us vs) % 2 ^ 32)
    (((w + v) % 2 ^ 16 + total vs) % 2 ^ 16) c f)
    ∙ ap (λ (P : ℕ). there P (((w + v) % 2 ^ 16 + total vs) % 2 ^ 16)) ep
    ∙ ap (λ (Q : ℕ). there ((p + (u * v + dot us vs)) % 2 ^ 32) Q) ew
    ∙ sym back

nothing_left : (flags : ℕ) (r : Regs) (p w : ℕ) (mem : List ℕ) → p < 2 ^ 32 → w < 2 ^ 16 → r.b ≡ 0
    → end_state flags r p w mem ≡ state_of (wav_end flags r p w r.pc) Free mem
nothing_left flags r p w mem pf wf e =
    let there : ℕ → ℕ → State = λ P Q. state_of (wav_end flags r P Q r.pc) Free mem in
    let ep : (p + 0) % 2 ^ 32 ≡ p = omega arith in
    let ew : (w + 0) % 2 ^ 16 ≡ w = omega arith in
    rw e (ap (λ (P : ℕ). there P ((w + 0) % 2 ^ 16)) ep ∙ ap (λ (Q : ℕ). there p Q) ew)

one_left : (flags : ℕ) (r : Regs) (p w : ℕ) (mem : List ℕ) → r.b ≡ 1
    → end_state flags r p w mem ≡ state_of
    (wav_end flags r ((p + get_or mem r.x 0 * get_or mem r.y 0) % 2 ^ 32) ((w + get_or mem r.y 0) % 2 ^ 16) r.pc)
    Free mem
one_left flags r p w mem e = rw e (simp add-zero)

-- the parts with sums running, d further ones
sums_parts : (flags : ℕ) (h g : ℕ → Bool) (d : ℕ) (r : Regs) (p w : ℕ) (mem : List ℕ) → p < 2 ^ 32 → w < 2 ^ 16
    → r.ccr.0 < 2 ^ 8 → flags < 2 ^ 8 → r.b ≡ suc d
    → AllShown h (from r.x (suc d)) → AllShown h (from r.y (suc d))
    → PartsTo wav flags h g d (at_sums r p w mem) (end_state flags r p w mem)
sums_parts flags h g zero r p w mem pf wf c f e xs ys =
    let one : r.b ≡ 1 = omega arith in
    let part = last_part flags r p w mem one in (
      (
        subst (λ (ats : List ℕ). AllShown h ats) (sym (last_reads flags r p w mem one)) (xs.0, (ys.0, tt)),
        subst (λ (o : Outcome). AllShown g (addresses o.writes)) (sym part) tt,
      ),
      ap (λ (o : Outcome). o.end) part,
      one_left flags r p w mem one ∙ sym (ap (λ (o : Outcome). state_after o mem) part),
    )
sums_parts flags h g (suc d) r p w mem pf wf c f e xs ys =
    let h0 : r.b ≡ 0 → ⊥ = λ z. omega arith in
    let h1 : r.b ≡ 1 → ⊥ = λ z. omega arith in
    let part = inner_part flags r p w mem h0 h1 in
    let P : ℕ = (p + get_or mem r.x 0 * get_or mem r.y 0) % 2 ^ 32 in
    let W : ℕ = (w + get_or mem r.y 0) % 2 ^ 16 in
    let next : after_part wav flags (at_sums r p w mem) ≡ at_sums (next_regs flags r)
    ((p + get_or mem r.x 0 * get_or mem r.y 0) % 2 ^ 32) ((w + get_or mem r.y 0) % 2 ^ 16) mem =
    ap (λ (o : Outcome). state_after o mem) part in
    let rest = sums_parts flags h g d (next_regs flags r) P W mem (omega arith) (omega arith)
    (fits_opened r.ccr hnzvc flags c f) f (omega arith) xs.1 ys.1 in (
      (
        subst (λ (ats : List ℕ). AllShown h ats) (sym (inner_reads flags r p w mem h0 h1)) (xs.0, (ys.0, tt)),
        subst (λ (o : Outcome). AllShown g (addresses o.writes)) (sym part) tt,
      ),
      ap (λ (o : Outcome). o.end) part,
      subst (λ (s : State). PartsTo wav flags h g d s (end_state flags r p w mem)) (sym next)
          (subst (λ (t : State). PartsTo wav flags h g d
          (at_sums (next_regs flags r) ((p + get_or mem r.x 0 * get_or mem r.y 0) % 2 ^ 32)
          ((w + get_or mem r.y 0) % 2 ^ 16) mem) t) (one_more flags r p w mem h0 c f) rest),
    )

-- no pair
no_parts : (flags : ℕ) (h g : ℕ → Bool) (r : Regs) (p w : ℕ) (mem : List ℕ) → p < 2 ^ 32 → w < 2 ^ 16 → r.b ≡ 0
    → PartsTo wav flags h g 0 (at_sums r p w mem) (end_state flags r p w mem)
no_parts flags h g r p w mem pf wf e =
    let part = empty_part flags r p w mem e in (
      (
        subst (λ (ats : List ℕ). AllShown h ats) (sym (empty_reads flags r p w mem e)) tt,
        subst (λ (o : Outcome). AllShown g (addresses o.writes)) (sym part) tt,
      ),
      ap (λ (o : Outcome). o.end) part,
      nothing_left flags r p w mem pf wf e ∙ sym (ap (λ (o : Outcome). state_after o mem) part),
    )

all_sums : (flags : ℕ) (h g : ℕ → Bool) (d : ℕ) (r : Regs) (p w : ℕ) (mem : List ℕ) → p < 2 ^ 32 → w < 2 ^ 16
    → r.ccr.0 < 2 ^ 8 → flags < 2 ^ 8 → d ≡ r.b - 1
    → AllShown h (from r.x r.b) → AllShown h (from r.y r.b)
    → PartsTo wav flags h g d (at_sums r p w mem) (end_state flags r p w mem)
all_sums flags h g d r p w mem pf wf c f e xs ys = elim (cases_eq r.b 0) [
  | inl z ↦ (let n : d ≡ 0 = omega arith in
      subst (λ (k : ℕ). PartsTo wav flags h g k (at_sums r p w mem) (end_state flags r p w mem)) (sym n)
      (no_parts flags h g r p w mem pf wf z))
  | inr z ↦ (let n : r.b ≡ suc d = omega arith in
      sums_parts flags h g d r p w mem pf wf c f n (subst (λ (k : ℕ). AllShown h (from r.x k)) n xs)
      (subst (λ (k : ℕ). AllShown h (from r.y k)) n ys))
]

-- the first part begins the sums
start_parts : (flags : ℕ) (h g : ℕ → Bool) (d : ℕ) (r : Regs) (t : Temps) (mem : List ℕ) (end : State) → IsOff t
    → PartsTo wav flags h g d (at_sums (record r { pc = plus r.pc 1 }) 0 0 mem) end
    → PartsTo wav flags h g d (state_of r t mem) end
start_parts flags h g zero r t mem end off p = elim off [
  | inl e ↦ subst (λ (u : Temps). PartsTo wav flags h g 0 (state_of r u mem) end) (sym e) p
  | inr e ↦ subst (λ (u : Temps). PartsTo wav flags h g 0 (state_of r u mem) end) (sym e) p
]
start_parts flags h g (suc d) r t mem end off p = elim off [
  | inl e ↦ subst (λ (u : Temps). PartsTo wav flags h g (suc d) (state_of r u mem) end) (sym e) p
  | inr e ↦ subst (λ (u : Temps). PartsTo wav flags h g (suc d) (state_of r u mem) end) (sym e) p
]

no_sums : (flags : ℕ) (r : Regs) (mem : List ℕ)
    → end_state flags (record r { pc = plus r.pc 1 }) 0 0 mem ≡ wav_whole flags r mem
no_sums flags r mem = simp zero-add

pub wav_is_whole : WavIsWhole
wav_is_whole flags r t mem h g f c off shown =
    let s : Regs = record r { pc = plus r.pc 1 } in
    let xs = shown_left h (from r.x r.b) (from r.y r.b) shown in
    let ys = shown_right h (from r.x r.b) (from r.y r.b) shown in
    let run = all_sums flags h g (r.b - 1) s 0 0 mem (omega arith) (omega arith) c f refl xs ys in
    start_parts flags h g (r.b - 1) r t mem (wav_whole flags r mem) off
    (subst (λ (u : State). PartsTo wav flags h g (r.b - 1) (at_sums (record r { pc = plus r.pc 1 }) 0 0 mem) u)
    (no_sums flags r mem) run)
