-- The outputs, with answers of a byte or of a word.
use Rattle.eval_code.proofs.Words.{[], ◌*◌, ◌++◌, ◌+◌, ◌-◌, ◌<◌, ◌^◌, ◌∙◌, ◌∷◌, ◌≡◌, ◌≤◌, after_plain, All, ap, ap₂}
use Rattle.eval_code.proofs.Words.{arith, bytes_of, dot, drop, flat_map, get_or, inl, inr, IsValidOutput}
use Rattle.eval_code.proofs.Words.{LdabImmediate, LdxImmediate, LdyImmediate, length, length-append, length-drop}
use Rattle.eval_code.proofs.Words.{length-map, length-take, List, nearest_byte, Option, option_map, Output}
use Rattle.eval_code.proofs.Words.{output_code, outputs_code, places, put, quotient_code, refl, set}
use Rattle.eval_code.proofs.Words.{singleton_bytes_of, singleton_count, State, subst, subst₂, suc, sum_by}
use Rattle.eval_code.proofs.Words.{sum_by-cons, sym, take, take-append-drop, total, Width, Word, zero, ℕ}
use Rattle.byte_scaling.specs.{declared.width.Width.TheVariants.Byte}
use Rattle.eval_code.proofs.phases.Quotients.{quotient_of, quotient_most, output_most, output_parts, quotient_run}
use Rattle.eval_code.proofs.steps.Memory.{HasBytes, bytes_front, bytes_back, bytes_put_out, put_append}
use Rattle.eval_code.proofs.steps.Decoding.{stands_front, stands_back}
use Rattle.eval_code.proofs.steps.Stepping.{Ctx, Here, Live, Stands, goes_one, goes_on, Reaches}
use Rattle.eval_code.proofs.steps.Stepping.{reaches_none, reaches_after, reaches_at}
use Rattle.eval_code.proofs.steps.Instructions.{straight}
use Rattle.eval_code.proofs.{Sizes.code_size, Sizes.code_size-append, phases.Averaging.wav_run, phases.Words.word_run}

-- the bytes of four answers at most
pub places_few : (w : Width) (n : ℕ) → n ≤ 4 → places w * n ≤ 8
places_few Byte n h = omega arith
places_few Word n h = omega arith

pub length-bytes_of : (w : Width) (a : ℕ) → length (bytes_of w a) ≡ places w
length-bytes_of Byte a = refl
length-bytes_of Word a = refl

-- from CPX on
abbrev Quotient : Ctx → Width → Type 0
Quotient c w = (at p n m : ℕ) (d : Option ℕ) (before : ℕ) (s : State) → Live c s → s.regs.pc ≡ p
    → Stands c p (quotient_code w at d) → s.regs.x ≡ m → s.regs.y * 2 ^ 16 + (s.regs.a * 2 ^ 8 + s.regs.b) ≡ n
    → n ≤ 255 * m → HasBytes s.mem at (bytes_of w before) → c.memory_map.outputs ≤ at → at
    + places w ≤ c.memory_map.outputs + 8
    → Reaches c (quotient_most w d) 0 s (p + code_size (quotient_code w at d))
    (put s.mem at (bytes_of w (quotient_of w m n d before)))

quotient : (c : Ctx) (w : Width) → Quotient c w
quotient c Byte at p n m d before s l ep st ex en le hb lo hi =
    reaches_at c _ _ _ _ s _ _ _ _ (omega arith) (omega arith) refl
    (ap (λ k. set s.mem at (quotient_of Byte m n d k)) hb.0)
    (quotient_run c at p n m d s l ep st ex en le (inl (omega arith, omega arith)))
quotient c Word at p n m d before s l ep st ex en le hb lo hi =
    word_run c at p n m d before s l ep st ex en le hb (inl (omega arith, omega arith)) (inl (omega arith, omega arith))

-- one output's answer from its masses and the answer before
abbrev pub output_answer : Width → Output → List ℕ → ℕ → ℕ
output_answer w o vs before =
    quotient_of w (total vs) (dot (singleton_bytes_of o) vs) (option_map (nearest_byte o) o.default) before

-- one output: its singletons and masses are averaged, and its answer is stored
pub output_run : (c : Ctx) (w : Width) (o : Output) (sx sy at : ℕ) (vs : List ℕ) (before : ℕ) (s : State) (p : ℕ)
    → Live c s → s.regs.pc ≡ p → Stands c p (output_code w sx sy at o) → IsValidOutput o
    → HasBytes c.image sx (singleton_bytes_of o) → HasBytes s.mem sy vs → length vs ≡ length o.singletons
    → HasBytes s.mem at (bytes_of w before)
    → c.memory_map.singletons ≤ sx → sx + length vs ≤ c.memory_map.singletons + 60 → c.memory_map.slots ≤ sy
    → sy + length vs ≤ c.memory_map.slots + 300 → c.memory_map.outputs ≤ at → at + places w ≤ c.memory_map.outputs + 8
    → Reaches c (output_most w o) (length o.singletons - 1) s (p + code_size (output_code w sx sy at o))
    (put s.mem at (bytes_of w (output_answer w o vs before)))
output_run c w o sx sy at vs before s p l ep st valid hs hv ev hb lo hi slo low alo apart =
    let us = singleton_bytes_of o in
    let lu : length us ≡ length o.singletons = length-map o.singletons (nearest_byte o) in
    let s1 = after_plain c.flags (LdxImmediate sx) s in
    let s2 = after_plain c.flags (LdyImmediate sy) s1 in
    let s3 = after_plain c.flags (LdabImmediate (length o.singletons)) s2 in
    let n1 = straight c s p _ l ep st.0 refl tt tt in
    let n2 = straight c s1 (p + 3) _ n1.live n1.pc_is st.1.0 refl tt tt in
    let n3 = straight c s2 (p + 3 + 3) _ n2.live n2.pc_is st.1.1.0 refl tt tt in
    let v = wav_run c s3 (p + 3 + 3 + 2) sx sy us vs n3.live n3.pc_is st.1.1.1.0 refl refl (sym lu) (omega arith)
    (omega (arith, valid.some_term)) (omega (arith, valid.few_terms)) hs hv lo (omega arith) (omega arith)
    (omega arith) in
    let g = goes_on c 1 0 2 0 s s1 s3 (goes_one c s s1 (p + 3) n1)
    (goes_on c 1 0 1 0 s1 s2 s3 (goes_one c s1 s2 (p + 3 + 3) n2) (goes_one c s2 s3 (p + 3 + 3 + 2) n3)) in
    let q = quotient c w at (p + 3 + 3 + 2 + 2) (dot us vs) (total vs) (option_map (nearest_byte o) o.default) before
    v.t v.live v.pc_is st.1.1.1.1 v.x_is v.n_is v.below
    (subst (λ m. HasBytes m at (bytes_of w before)) (sym v.mem_is) hb) alo apart in
    reaches_at c _ _ _ _ s _ _ _ _ (omega arith) (omega arith) (omega arith)
    (ap (λ m. put m at (bytes_of w (output_answer w o vs before))) v.mem_is)
    (reaches_after c 3 0 _ _ s s3 _ _ g refl (reaches_after c 1 (length us - 1) _ _ s3 v.t _ _ v.goes v.sp_is q))

-- all answers
abbrev pub output_answers : Width → List Output → List ℕ → List ℕ → List ℕ
output_answers w [] vs bs = []
output_answers w (o ∷ os) vs [] = []
output_answers w (o ∷ os) vs (b ∷ bs) =
    output_answer w o (take (length o.singletons) vs) b ∷ output_answers w os (drop (length o.singletons) vs) bs

-- their bytes
abbrev pub all_bytes : Width → List ℕ → List ℕ
all_bytes w xs = flat_map (bytes_of w) xs

pub length-all_bytes : (w : Width) (xs : List ℕ) → length (all_bytes w xs) ≡ places w * length xs
length-all_bytes w [] = omega arith
length-all_bytes w (x ∷ xs) =
    omega (arith, length-append (bytes_of w x) (all_bytes w xs), length-bytes_of w x, length-all_bytes w xs)

pub length-output_answers : (w : Width) (os : List Output) (vs bs : List ℕ) → length bs ≡ length os
    → length (output_answers w os vs bs) ≡ length os
length-output_answers w [] vs bs h = refl
length-output_answers w (o ∷ os) vs [] h = absurd (omega arith)
length-output_answers w (o ∷ os) vs (b ∷ bs) h =
    let r = length-output_answers w os (drop (length o.singletons) vs) bs (omega arith) in omega arith

-- one of them
pub one_stands : (m : List ℕ) (w : Width) (p : ℕ) (xs : List ℕ) (k : ℕ) → HasBytes m p (all_bytes w xs) → k < length xs
    → HasBytes m (p + places w * k) (bytes_of w (get_or xs k 0))
one_stands m w p [] k h lt = absurd (omega arith)
one_stands m w p (x ∷ xs) zero h lt = let e : p ≡ p + places w * 0 = omega arith in
    subst (λ q. HasBytes m q (bytes_of w x)) e (bytes_front m p (bytes_of w x) (all_bytes w xs) h)
one_stands m w p (x ∷ xs) (suc k) h lt =
    let more : places w * suc k ≡ places w + places w * k = omega arith in
    let e : p + length (bytes_of w x) + places w * k ≡ p + places w * suc k = omega (arith, length-bytes_of w x) in
    subst (λ q. HasBytes m q (bytes_of w (get_or xs k 0))) e
    (one_stands m w (p + length (bytes_of w x)) xs k (bytes_back m p (bytes_of w x) (all_bytes w xs) h)
    (omega arith))

-- n answers from number i on
abbrev pub listed : (ℕ → ℕ) → ℕ → ℕ → List ℕ
listed f i zero = []
listed f i (suc n) = f i ∷ listed f (i + 1) n

pub length-listed : (f : ℕ → ℕ) (i n : ℕ) → length (listed f i n) ≡ n
length-listed f i zero = refl
length-listed f i (suc n) = omega (arith, length-listed f (i + 1) n)

pub listed_at : (f : ℕ → ℕ) (i n k : ℕ) → k < n → get_or (listed f i n) k 0 ≡ f (i + k)
listed_at f i zero k lt = absurd (omega arith)
listed_at f i (suc n) zero lt = let e : i ≡ i + 0 = omega arith in ap f e
listed_at f i (suc n) (suc k) lt = let e : i + 1 + k ≡ i + suc k = omega arith in
    listed_at f (i + 1) n k (omega arith) ∙ ap f e

pub bytes_join : (m : List ℕ) (p : ℕ) (a b : List ℕ) → HasBytes m p a → HasBytes m (p + length a) b
    → HasBytes m p (a ++ b)
bytes_join m p [] b h g = let e : p + 0 ≡ p = omega arith in subst (λ q. HasBytes m q b) e g
bytes_join m p (x ∷ a) b h g = let e : p + suc (length a) ≡ p + 1 + length a = omega arith in
    (h.0, bytes_join m (p + 1) a b h.1 (subst (λ q. HasBytes m q b) e g))

pub listed_stand : (m : List ℕ) (w : Width) (p : ℕ) (f : ℕ → ℕ) (i n : ℕ)
    → ((k : ℕ) → k < n → HasBytes m (p + places w * k) (bytes_of w (f (i + k))))
    → HasBytes m p (all_bytes w (listed f i n))
listed_stand m w p f i zero h = tt
listed_stand m w p f i (suc n) h =
    let e : p + places w * 0 ≡ p = omega arith in
    let z : i + 0 ≡ i = omega arith in
    let here = subst₂ (λ q j. HasBytes m q (bytes_of w (f j))) e z (h 0 (omega arith)) in
    let step : (k : ℕ) → p + places w * suc k ≡ p + length (bytes_of w (f i)) + places w * k =
    λ k. (let more : places w * suc k ≡ places w + places w * k = omega arith in
    omega (arith, length-bytes_of w (f i))) in
    let next : (k : ℕ) → i + suc k ≡ i + 1 + k = λ k. omega arith in
    bytes_join m p (bytes_of w (f i)) (all_bytes w (listed f (i + 1) n)) here
    (listed_stand m w (p + length (bytes_of w (f i))) f (i + 1) n
    (λ k lt. subst₂ (λ q j. HasBytes m q (bytes_of w (f j))) (step k) (next k) (h (suc k) (omega arith))))

-- what is known where the outputs from one on begin
pub record AtOutputs (c : Ctx) (w : Width) (sx sy at : ℕ) (vs bs : List ℕ) (os : List Output) (p : ℕ)
    (s : State) : Type 0 where
  pub live : Live c s
  pub pc_is : s.regs.pc ≡ p
  pub code : Stands c p (outputs_code w sx sy at os)
  pub singletons : HasBytes c.image sx (flat_map singleton_bytes_of os)
  pub masses : HasBytes s.mem sy vs
  pub before : HasBytes s.mem at (all_bytes w bs)

pub outputs_run : (c : Ctx) (w : Width) (os : List Output) (sx sy at : ℕ) (vs bs : List ℕ) (s : State) (p : ℕ)
    → AtOutputs c w sx sy at vs bs os p s → All IsValidOutput os → length vs ≡ sum_by singleton_count os
    → length bs ≡ length os
    → c.memory_map.singletons ≤ sx → sx + length vs ≤ c.memory_map.singletons + 60 → c.memory_map.slots ≤ sy
    → sy + length vs ≤ c.memory_map.slots + 300 → c.memory_map.outputs ≤ at
    → at + places w * length os ≤ c.memory_map.outputs + 8
    → Reaches c (sum_by (output_most w) os) (output_parts os) s (p + code_size (outputs_code w sx sy at os))
    (put s.mem at (all_bytes w (output_answers w os vs bs)))
outputs_run c w [] sx sy at vs bs s p h valid ev eb lo hi slo low alo apart =
    reaches_none c s _ _ h.live (h.pc_is ∙ omega arith) refl
outputs_run c w (o ∷ os) sx sy at vs [] s p h valid ev eb lo hi slo low alo apart = absurd (omega arith)
outputs_run c w (o ∷ os) sx sy at vs (b ∷ bs) s p h valid ev eb lo hi slo low alo apart =
    let n = length o.singletons in
    let et = sum_by-cons singleton_count o os in
    let lt = length-take n vs in
    let ld = length-drop n vs in
    let more : places w * length (o ∷ os) ≡ places w + places w * length os = omega arith in
    let rest = outputs_code w (sx + n) (sy + n) (at + places w) os in
    let hv : HasBytes s.mem sy (take n vs ++ drop n vs) =
    subst (HasBytes s.mem sy) (sym (take-append-drop n vs)) h.masses in
    let r = output_run c w o sx sy at (take n vs) b s p h.live h.pc_is
    (stands_front (Here c) p (output_code w sx sy at o) rest h.code) (valid 0 o (omega arith))
    (bytes_front c.image sx (singleton_bytes_of o) (flat_map singleton_bytes_of os) h.singletons)
    (bytes_front s.mem sy (take n vs) (drop n vs) hv) (omega arith)
    (bytes_front s.mem at (bytes_of w b) (all_bytes w bs) h.before) lo (omega arith) slo (omega arith) alo
    (omega arith) in
    then_rest r (λ u q d. outputs_run c w os (sx + n) (sy + n) (at + places w) (drop n vs) bs u q d
    (λ j x lt. valid (suc j) x (omega arith)) (omega arith) (omega arith) (omega arith) (omega arith) (omega arith)
    (omega arith) (omega arith) (omega arith))
  where
    then_rest : Reaches c (output_most w o) (length o.singletons - 1) s (p + code_size (output_code w sx sy at o))
        (put s.mem at (bytes_of w (output_answer w o (take (length o.singletons) vs) b)))
        → ((u : State) (q : ℕ)
        → AtOutputs c w (sx + length o.singletons) (sy + length o.singletons) (at + places w)
        (drop (length o.singletons) vs) bs os q u
        → Reaches c (sum_by (output_most w) os) (output_parts os) u
        (q + code_size (outputs_code w (sx + length o.singletons) (sy + length o.singletons) (at + places w) os))
        (put u.mem (at + places w) (all_bytes w (output_answers w os (drop (length o.singletons) vs) bs))))
        → Reaches c (sum_by (output_most w) (o ∷ os)) (output_parts (o ∷ os)) s
        (p + code_size (outputs_code w sx sy at (o ∷ os)))
        (put s.mem at (all_bytes w (output_answers w (o ∷ os) vs (b ∷ bs))))
    then_rest r go =
        let above = c.apart.outputs in
        let n = length o.singletons in
        let k = places w in
        let et = sum_by-cons singleton_count o os in
        let eo = sum_by-cons (output_most w) o os in
        let lt = length-take n vs in
        let ld = length-drop n vs in
        let more : places w * length (o ∷ os) ≡ places w + places w * length os = omega arith in
        let lu : length (singleton_bytes_of o) ≡ n = length-map o.singletons (nearest_byte o) in
        let c1 = output_code w sx sy at o in
        let rest = outputs_code w (sx + n) (sy + n) (at + k) os in
        let es = code_size-append c1 rest in
        let q = bytes_of w (output_answer w o (take n vs) b) in
        let lq : length q ≡ k = length-bytes_of w (output_answer w o (take n vs) b) in
        let later = all_bytes w (output_answers w os (drop n vs) bs) in
        let u = r.t in
        let hv : HasBytes s.mem sy (take n vs ++ drop n vs) =
        subst (HasBytes s.mem sy) (sym (take-append-drop n vs)) h.masses in
        let ly : sy + length (take n vs) ≡ sy + n = omega arith in
        let lz : at + length (bytes_of w b) ≡ at + k = ap (λ j. at + j) (length-bytes_of w b) in
        let lx : sx + length (singleton_bytes_of o) ≡ sx + n = omega arith in
        let kept : (place : ℕ) (xs : List ℕ) → at + k ≤ place → HasBytes s.mem place xs → HasBytes u.mem place xs =
        λ place xs le hx. subst (λ m. HasBytes m place xs) (sym r.mem_is)
        (bytes_put_out s.mem at q place xs (inr (omega arith)) hx) in
        let next = go u (p + code_size c1) (record {
          live = r.live;
          pc_is = r.pc_is;
          code = stands_back (Here c) p c1 rest h.code;
          singletons = subst (λ j. HasBytes c.image j (flat_map singleton_bytes_of os)) lx
              (bytes_back c.image sx (singleton_bytes_of o) (flat_map singleton_bytes_of os) h.singletons);
          masses = kept (sy + n) (drop n vs) (omega arith)
              (subst (λ j. HasBytes s.mem j (drop n vs)) ly (bytes_back s.mem sy (take n vs) (drop n vs) hv));
          before = kept (at + k) (all_bytes w bs) (omega arith)
              (subst (λ j. HasBytes s.mem j (all_bytes w bs)) lz
              (bytes_back s.mem at (bytes_of w b) (all_bytes w bs) h.before));
        }) in
        let em : put u.mem (at + k) later ≡ put s.mem at (q ++ later) =
        ap₂ (λ m j. put m (at + j) later) r.mem_is (sym lq) ∙ sym (put_append s.mem at q later) in
        reaches_at c _ _ _ _ s _ _ _ _ (omega arith) (omega arith) (omega arith) em
        (reaches_after c (output_most w o) (n - 1) _ _ s u _ _ r.goes r.sp_is next)
