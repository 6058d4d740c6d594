-- Bytes put into memory, and memories that keep what stands high.
use Rattle.eval_code.proofs.Words.{[], ◌++◌, ◌+◌, ◌<◌, ◌^◌, ◌∙◌, ◌∷◌, ◌≡◌, ◌≤◌, ◌⊎◌, AgreeFrom, All, ap, AreBytes}
use Rattle.eval_code.proofs.Words.{arith, cases_eq, get_or, get_or-set_other, get_or-set_same, inl, inr, length}
use Rattle.eval_code.proofs.Words.{length-set, List, put, refl, set, stack_end, subst, suc, sym, zero, ℕ, ⊎_elim}
use Rattle.cpu12_isa.specs.{Act.write_all, Agreement.AgreeBetween, Fits.FitsWrites}
use Rattle.std.proofs.lemmas.List.{set_comm, set-set}
pub use Rattle.eval_code.specs.Evaluation.{HasBytes}

pub length-put : (m : List ℕ) (p : ℕ) (bs : List ℕ) → length (put m p bs) ≡ length m
length-put m p [] = refl
length-put m p (b ∷ bs) = length-put (set m p b) (p + 1) bs ∙ length-set m p b

pub put_append : (m : List ℕ) (p : ℕ) (a b : List ℕ) → put m p (a ++ b) ≡ put (put m p a) (p + length a) b
put_append m p [] b = let e : p ≡ p + 0 = omega arith in ap (λ k. put m k b) e
put_append m p (x ∷ a) b =
    let e : p + 1 + length a ≡ p + length (x ∷ a) = omega arith in
    put_append (set m p x) (p + 1) a b ∙ ap (λ k. put (put (set m p x) (p + 1) a) k b) e

pub at_put_out : (m : List ℕ) (p : ℕ) (bs : List ℕ) (k : ℕ) → (k < p) ⊎ (p + length bs ≤ k)
    → get_or (put m p bs) k 0 ≡ get_or m k 0
at_put_out m p [] k h = refl
at_put_out m p (b ∷ bs) k h =
    at_put_out (set m p b) (p + 1) bs k (⊎_elim (λ l. inl (omega arith)) (λ r. inr (omega arith)) h)
    ∙ get_or-set_other m p k b 0 (⊎_elim (λ l. omega arith) (λ r. omega arith) h)

pub at_put_in : (m : List ℕ) (p : ℕ) (bs : List ℕ) (j : ℕ) → p + length bs ≤ length m → j < length bs
    → get_or (put m p bs) (p + j) 0 ≡ get_or bs j 0
at_put_in m p [] j le lt = absurd (omega arith)
at_put_in m p (b ∷ bs) zero le lt =
    let e : p + 0 ≡ p = omega arith in
    ap (λ k. get_or (put (set m p b) (p + 1) bs) k 0) e ∙ at_put_out (set m p b) (p + 1) bs p (inl (omega arith))
    ∙ get_or-set_same m p b 0 (omega arith)
at_put_in m p (b ∷ bs) (suc j) le lt =
    let e : p + suc j ≡ p + 1 + j = omega arith in
    ap (λ k. get_or (put (set m p b) (p + 1) bs) k 0) e
    ∙ at_put_in (set m p b) (p + 1) bs j (omega (arith, length-set m p b)) (omega arith)

pub set_put_out : (m : List ℕ) (p : ℕ) (bs : List ℕ) (k v : ℕ) → (k < p) ⊎ (p + length bs ≤ k)
    → set (put m p bs) k v ≡ put (set m k v) p bs
set_put_out m p [] k v h = refl
set_put_out m p (b ∷ bs) k v h =
    set_put_out (set m p b) (p + 1) bs k v (⊎_elim (λ l. inl (omega arith)) (λ r. inr (omega arith)) h)
    ∙ ap (λ l. put l (p + 1) bs) (set_comm m p k b v (⊎_elim (λ l. omega arith) (λ r. omega arith) h))

pub set_put_in : (m : List ℕ) (p : ℕ) (bs : List ℕ) (j v : ℕ) → j < length bs
    → set (put m p bs) (p + j) v ≡ put m p (set bs j v)
set_put_in m p [] j v lt = absurd (omega arith)
set_put_in m p (b ∷ bs) zero v lt =
    let e : p + 0 ≡ p = omega arith in
    ap (λ k. set (put (set m p b) (p + 1) bs) k v) e ∙ set_put_out (set m p b) (p + 1) bs p v (inl (omega arith))
    ∙ ap (λ l. put l (p + 1) bs) (set-set m p b v)
set_put_in m p (b ∷ bs) (suc j) v lt =
    let e : p + suc j ≡ p + 1 + j = omega arith in
    ap (λ k. set (put (set m p b) (p + 1) bs) k v) e ∙ set_put_in (set m p b) (p + 1) bs j v (omega arith)

-- one more byte behind those that were put
pub put_end : (m : List ℕ) (p : ℕ) (bs : List ℕ) (v : ℕ) → set (put m p bs) (p + length bs) v ≡ put m p (bs ++ v ∷ [])
put_end m p bs v = sym (put_append m p bs (v ∷ []))

pub bytes_front : (m : List ℕ) (p : ℕ) (a b : List ℕ) → HasBytes m p (a ++ b) → HasBytes m p a
bytes_front m p [] b h = tt
bytes_front m p (x ∷ a) b h = (h.0, bytes_front m (p + 1) a b h.1)

pub bytes_back : (m : List ℕ) (p : ℕ) (a b : List ℕ) → HasBytes m p (a ++ b) → HasBytes m (p + length a) b
bytes_back m p [] b h = let e : p ≡ p + 0 = omega arith in subst (λ n. HasBytes m n b) e h
bytes_back m p (x ∷ a) b h =
    let e : p + 1 + length a ≡ p + length (x ∷ a) = omega arith in
    subst (λ n. HasBytes m n b) e (bytes_back m (p + 1) a b h.1)

pub has_put : (m : List ℕ) (p : ℕ) (bs : List ℕ) → p + length bs ≤ length m → HasBytes (put m p bs) p bs
has_put m p [] h = tt
has_put m p (b ∷ bs) h =
    let a = at_put_in m p (b ∷ bs) 0 h (omega arith) in
    let e : p + 0 ≡ p = omega arith in (
      ap (λ k. get_or (put m p (b ∷ bs)) k 0) (sym e)
          ∙ a,
      has_put (set m p b) (p + 1) bs (omega (arith, length-set m p b)),
    )

-- memories that agree at a place have the same bytes there
pub same_bytes : (m n : List ℕ) (p : ℕ) (bs : List ℕ)
    → AgreeBetween p (p + length bs) m n → HasBytes m p bs → HasBytes n p bs
same_bytes m n p [] e h = tt
same_bytes m n p (b ∷ bs) e h =
    (e p (omega arith) (omega arith) ∙ h.0, same_bytes m n (p + 1) bs (λ k lo hi. e k (omega arith) (omega arith)) h.1)

pub bytes_put_out : (m : List ℕ) (p : ℕ) (bs : List ℕ) (k : ℕ) (vs : List ℕ) → (k + length vs ≤ p) ⊎ (p + length bs ≤ k)
    → HasBytes m k vs → HasBytes (put m p bs) k vs
bytes_put_out m p bs k vs h hb =
    same_bytes m (put m p bs) k vs
    (λ j lo hi. at_put_out m p bs j (⊎_elim (λ l. inl (omega arith)) (λ r. inr (omega arith)) h)) hb

pub bytes_set_out : (m : List ℕ) (p b k : ℕ) (vs : List ℕ) → (k + length vs ≤ p) ⊎ (p + 1 ≤ k) → HasBytes m k vs
    → HasBytes (set m p b) k vs
bytes_set_out m p b k vs h hb = bytes_put_out m p (b ∷ []) k vs (⊎_elim (λ l. inl l) (λ r. inr (omega arith)) h) hb

-- a memory of bytes stays one
pub bytes_after_set : (m : List ℕ) (p b : ℕ) → AreBytes m → b < 2 ^ 8 → p < length m → AreBytes (set m p b)
bytes_after_set m p b h lt le at = elim (cases_eq at p) [
  | inl e ↦ (let g : get_or (set m p b) at 0 ≡ b = ap (λ k. get_or (set m p b) k 0) e ∙ get_or-set_same m p b 0 le in
      omega arith)
  | inr n ↦ (let g : get_or (set m p b) at 0 ≡ get_or m at 0 = get_or-set_other m p at b 0 n in let k = h at in
      omega arith)
]

pub bytes_after_put : (m : List ℕ) (p : ℕ) (bs : List ℕ) → AreBytes m → All (λ b. b < 2 ^ 8) bs
    → p + length bs ≤ length m → AreBytes (put m p bs)
bytes_after_put m p [] h a le = h
bytes_after_put m p (b ∷ bs) h a le =
    bytes_after_put (set m p b) (p + 1) bs (bytes_after_set m p b h (a 0 0 (omega arith)) (omega arith))
    (λ k d lt. let q : get_or (b ∷ bs) (suc k) d < 2 ^ 8 = a (suc k) d (omega arith) in omega arith)
    (omega (arith, length-set m p b))

pub high_set : (m n : List ℕ) (p b : ℕ) → p < 0x2000 → AgreeFrom stack_end m n → AgreeFrom stack_end m (set n p b)
high_set m n p b lt h at le = get_or-set_other n p at b 0 (omega arith) ∙ h at le

pub high_put : (m n : List ℕ) (p : ℕ) (bs : List ℕ) → p + length bs ≤ 0x2000 → AgreeFrom stack_end m n
    → AgreeFrom stack_end m (put n p bs)
high_put m n p bs lt h at le = at_put_out n p bs at (inr (omega arith)) ∙ h at le

-- bytes as they are read one after another
pub bytes_by : (m : List ℕ) (p : ℕ) (bs : List ℕ) → ((k : ℕ) → k < length bs → get_or m (p + k) 0 ≡ get_or bs k 0)
    → HasBytes m p bs
bytes_by m p [] h = tt
bytes_by m p (b ∷ bs) h =
    let e : p + 0 ≡ p = omega arith in (
      ap (λ k. get_or m k 0) (sym e)
          ∙ h 0 (omega arith),
      bytes_by m (p + 1) bs
          (λ k lt. let f : p + 1 + k ≡ p + suc k = omega arith in ap (λ j. get_or m j 0) f ∙ h (suc k) (omega arith)),
    )

-- each of these writes is below an address
abbrev pub WriteBelow : ℕ → List (ℕ × ℕ) → Type 0
WriteBelow n [] = Unit {0}
WriteBelow n (w ∷ ws) = (w.0 < n) × WriteBelow n ws

pub high_writes : (m n : List ℕ) (ws : List (ℕ × ℕ)) → WriteBelow 0x2000 ws → AgreeFrom stack_end m n
    → AgreeFrom stack_end m (write_all ws n)
high_writes m n [] h e = e
high_writes m n (w ∷ ws) h e =
    high_writes m (set n w.0 w.1) ws h.1
    (λ at le. get_or-set_other n w.0 at w.1 0 (let q = h.0 in omega arith) ∙ e at le)

pub bytes_writes : (m : List ℕ) (ws : List (ℕ × ℕ)) → length m ≡ 65536 → FitsWrites ws → AreBytes m
    → AreBytes (write_all ws m)
bytes_writes m [] lm h b = b
bytes_writes m (w ∷ ws) lm h b =
    bytes_writes (set m w.0 w.1) ws (length-set m w.0 w.1 ∙ lm) h.2
    (bytes_after_set m w.0 w.1 b h.1 (omega (arith, h.0)))

pub below_more : (n k : ℕ) (ws : List (ℕ × ℕ)) → n ≤ k → WriteBelow n ws → WriteBelow k ws
below_more n k [] le h = tt
below_more n k (w ∷ ws) le h = (let q = h.0 in omega arith, below_more n k ws le h.1)
