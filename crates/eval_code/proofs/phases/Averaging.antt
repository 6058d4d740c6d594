-- WAV over an output's singletons and masses.
use Rattle.eval_code.proofs.Words.{[], ◌%◌, ◌*◌, ◌++◌, ◌+◌, ◌-◌, ◌/◌, ◌<◌, ◌^◌, ◌∙◌, ◌∷◌, ◌≡◌, ◌≤◌, ap, ap₂, AreBytes}
use Rattle.eval_code.proofs.Words.{arith, decode_at, dot, Each, fits_opened, fits_put, FitsRegs, from, inl, inr}
use Rattle.eval_code.proofs.Words.{length, List, Ok, opened, plus, Reads, refl, Regs, State, subst, suc, sym, total}
use Rattle.eval_code.proofs.Words.{true, zero, ℕ}
use Rattle.cpu12_isa.specs.{declared.instr.Instr.TheVariants.Wav, Memory.bytes_at}
use Rattle.cpu12_parts.specs.{Parts.wav_end, Averages.wav_whole}
use Rattle.eval_code.proofs.steps.Memory.{HasBytes, same_bytes}
use Rattle.eval_code.proofs.{steps.Flags.masked_put, steps.Flags.masked_open_hnvc, steps.Decoding.decode_same}
use Rattle.eval_code.proofs.steps.Stepping.{Ctx, Here, Live, Goes, goes_part, between_of, code_in}

pub bytes_from : (m : List ℕ) (p : ℕ) (bs : List ℕ) → p + length bs < 65536 → HasBytes m p bs
    → bytes_at m (from p (length bs)) ≡ bs
bytes_from m p [] lt h = refl
bytes_from m p (b ∷ bs) lt h =
    let e : plus p 1 ≡ p + 1 = omega arith in
    ap₂ (λ (v : ℕ) (vs : List ℕ). v ∷ vs) h.0
    (ap (λ k. bytes_at m (from k (length bs))) e ∙ bytes_from m (p + 1) bs (omega arith) h.1)

-- a list of bytes
abbrev pub Bytes : List ℕ → Type 0
Bytes [] = Unit {0}
Bytes (b ∷ bs) = (b < 256) × Bytes bs

pub stand_bytes : (m : List ℕ) (p : ℕ) (bs : List ℕ) → AreBytes m → HasBytes m p bs → Bytes bs
stand_bytes m p [] a h = tt
stand_bytes m p (b ∷ bs) a h = ((let q = a p in let e = h.0 in omega arith), stand_bytes m (p + 1) bs a h.1)

product_le : (s m : ℕ) → s ≤ 255 → s * m ≤ 255 * m
product_le s m h = grind arith

pub dot_le : (us vs : List ℕ) → Bytes us → dot us vs ≤ 255 * total vs
dot_le [] vs h = omega arith
dot_le (u ∷ us) [] h = omega arith
dot_le (u ∷ us) (v ∷ vs) h = omega (arith, dot_le us vs h.1, product_le u v (omega (arith, h.0)))

pub total_le : (vs : List ℕ) → Bytes vs → total vs ≤ 255 * length vs
total_le [] h = omega arith
total_le (v ∷ vs) h = omega (arith, h.0, total_le vs h.1)

pub wav_fits : (flags : ℕ) (r : Regs) (p w pc : ℕ) → flags < 2 ^ 8 → FitsRegs r → p < 2 ^ 32 → w < 2 ^ 16
    → FitsRegs (wav_end flags r p w pc)
wav_fits flags r p w pc f h hp hw = record {
  a = omega arith;
  b = omega arith;
  x = hw;
  y = omega arith;
  sp = h.sp;
  pc = omega arith;
  ccr = fits_put (opened r.ccr 43 flags) 2 true (omega arith) (fits_opened r.ccr 43 flags h.ccr f);
}

pub each_append : (P : ℕ → Type 0) (xs ys : List ℕ) → Each P xs → Each P ys → Each P (xs ++ ys)
each_append P [] ys a b = b
each_append P (x ∷ xs) ys a b = (a.0, each_append P xs ys a.1 b)

-- n addresses from one on
pub each_from : (P : ℕ → Type 0) (p n : ℕ) → p + n < 65536 → ((k : ℕ) → p ≤ k → k < p + n → P k) → Each P (from p n)
each_from P p zero h e = tt
each_from P p (suc n) h e = let q : plus p 1 ≡ p + 1 = omega arith in (
  e p (omega arith) (omega arith),
  subst (λ k. Each P (from k n)) (sym q)
      (each_from P (p + 1) n (omega arith) (λ k lo hi. e k (omega arith) (omega arith))),
)

-- where WAV leads: the sum of the masses in X, that of the products in Y and D
pub record Averaged (c : Ctx) (k : ℕ) (s : State) (pc : ℕ) (us vs : List ℕ) : Type 0 where
  pub t : State
  pub goes : Goes c 1 k s t
  pub live : Live c t
  pub pc_is : t.regs.pc ≡ pc
  pub x_is : t.regs.x ≡ total vs
  pub n_is : t.regs.y * 2 ^ 16 + (t.regs.a * 2 ^ 8 + t.regs.b) ≡ dot us vs
  pub below : dot us vs ≤ 255 * total vs
  pub mem_is : t.mem ≡ s.mem
  pub sp_is : t.regs.sp ≡ s.regs.sp

pub wav_run : (c : Ctx) (s : State) (p sx sy : ℕ) (us vs : List ℕ) → Live c s → s.regs.pc ≡ p → Here c p Wav
    → s.regs.x ≡ sx → s.regs.y ≡ sy
    → s.regs.b ≡ length us → length vs ≡ length us → 1 ≤ length us → length us ≤ 15 → HasBytes c.image sx us
    → HasBytes s.mem sy vs → c.memory_map.singletons ≤ sx
    → sx + length us ≤ c.memory_map.singletons + 60 → c.memory_map.slots ≤ sy → sy + length us ≤ c.memory_map.slots
    + 300
    → Averaged c (length us - 1) s (p + 2) us vs
wav_run c s p sx sy us vs l ep h ex ey eb ev some few hu hv lo hi slo low =
    let a1 = c.apart.singletons in
    let a2 = c.apart.singletons_end in
    let a3 = c.apart.slots in
    let hu' : HasBytes s.mem sx us = same_bytes c.image s.mem sx us (λ k a b. l.same k (omega arith)) hu in
    let bu : bytes_at s.mem (from s.regs.x s.regs.b) ≡ us = ap₂ (λ k n. bytes_at s.mem (from k n)) ex eb
    ∙ bytes_from s.mem sx us (omega arith) hu' in
    let en : s.regs.b ≡ length vs = eb ∙ sym ev in
    let bv : bytes_at s.mem (from s.regs.y s.regs.b) ≡ vs = ap₂ (λ k n. bytes_at s.mem (from k n)) ey en
    ∙ bytes_from s.mem sy vs (omega arith) hv in
    let by = stand_bytes s.mem sx us l.bytes hu' in
    let dl = dot_le us vs by in
    let tl = total_le vs (stand_bytes s.mem sy vs l.bytes hv) in
    let P = dot (bytes_at s.mem (from s.regs.x s.regs.b)) (bytes_at s.mem (from s.regs.y s.regs.b)) % 2 ^ 32 in
    let W = total (bytes_at s.mem (from s.regs.y s.regs.b)) % 2 ^ 16 in
    let eP : P ≡ dot us vs = ap₂ (λ a b. dot a b % 2 ^ 32) bu bv ∙ omega arith in
    let eW : W ≡ total vs = ap (λ b. total b % 2 ^ 16) bv ∙ omega arith in
    let t : State = wav_whole c.flags s.regs s.mem in
    let d : decode_at s.mem s.regs.pc ≡ Ok Wav =
    ap (decode_at s.mem) ep ∙ decode_same c.image s.mem p h.low h.high l.same ∙ h.decoded in
    let r1 : Each (Reads c.memory_map) (from s.regs.x s.regs.b) =
    each_from (Reads c.memory_map) s.regs.x s.regs.b (omega arith)
    (λ k from to. inr (inr (inr (inl (omega arith, omega arith))))) in
    let r2 : Each (Reads c.memory_map) (from s.regs.y s.regs.b) =
    each_from (Reads c.memory_map) s.regs.y s.regs.b (omega arith) (λ k from to. inr (inl (omega arith, omega arith)))
    in
    let masks = masked_put (opened s.regs.ccr 43 c.flags) 2 true (omega arith) ∙ masked_open_hnvc s.regs.ccr c.flags in
    record {
      t = t;
      goes = goes_part c (length us - 1) s t (record {
        between = between_of c s l;
        code = code_in c s.regs.pc (omega (arith, h.above)) (omega (arith, h.below)) (omega (arith, h.high));
        instruction = inr (inr (inr (record {
          step = record { decoded = d; off = l.off; parts = ap (λ n. n - 1) (sym eb); after = refl };
          some = omega arith;
          reads = each_append (Reads c.memory_map) (from s.regs.x s.regs.b) (from s.regs.y s.regs.b) r1 r2;
        })));
        stack = refl;
        masks = masks;
      });
      live = record {
        off = inl refl;
        size = l.size;
        bytes = l.bytes;
        fits = wav_fits c.flags s.regs P W (plus s.regs.pc 1) c.fits l.fits (omega arith) (omega arith);
        stack = l.stack;
        masks = masks ∙ l.masks;
        same = l.same;
      };
      pc_is = omega (arith, h.high);
      x_is = eW;
      n_is = (let e : P / 2 ^ 16 * 2 ^ 16 + (P / 2 ^ 8 % 2 ^ 8 * 2 ^ 8 + P % 2 ^ 8) ≡ P = omega arith in e) ∙ eP;
      below = dl;
      mem_is = refl;
      sp_is = refl;
    }
