-- Memories that agree but for hidden bytes.
use Rattle.std.proofs.Common.{◌≡◌, ℕ, Bool, false, List, [], ◌∷◌, ◌++◌, length, get_or, refl, ap, sym, ◌∙◌, subst}
use Rattle.std.proofs.Common.{arith, inl, inr, ◌⊎◌, get_or-set_other, get_or-set_same}
use Rattle.std.proofs.lemmas.Bool.{cases_eq, cases_lt}
use Rattle.std.proofs.lemmas.List.{get_or_past, length-set}
use Rattle.std.proofs.Math.ListN.{set}
use Rattle.cpu12_isa.specs.Act.{Act, Give, Get, outcome, read_by, write_all}
use Rattle.cpu12_isa.specs.Agreement.{Agree, AllShown, IsWritten, ReadsAlone, WritesAgree, WritesStay}

pub same_outcome : {A : Type 0} (hidden : ℕ → Bool) (m n : List ℕ) → Agree hidden m n → (act : Act A)
    → AllShown hidden (read_by act n) → outcome act m ≡ outcome act n
same_outcome hidden m n a (Give o) s = refl
same_outcome hidden m n a (Get at next) s = ap (λ (v : ℕ). outcome (next v) m) (a.bytes at s.0)
    ∙ same_outcome hidden m n a (next (get_or n at 0)) s.1

pub same_reads : {A : Type 0} (hidden : ℕ → Bool) (m n : List ℕ) → Agree hidden m n → (act : Act A)
    → AllShown hidden (read_by act n) → read_by act m ≡ read_by act n
same_reads hidden m n a (Give o) s = refl
same_reads hidden m n a (Get at next) s =
    ap (λ (ats : List ℕ). at ∷ ats)
    (ap (λ (v : ℕ). read_by (next v) m) (a.bytes at s.0) ∙ same_reads hidden m n a (next (get_or n at 0)) s.1)

pub reads_alone : (A : Type 0) → ReadsAlone A
reads_alone A act m n hidden a s = (same_outcome hidden m n a act s, same_reads hidden m n a act s)

-- one write in lists of one length
same_here : (m n : List ℕ) (i v : ℕ) → length m ≡ length n → get_or (set m i v) i 0 ≡ get_or (set n i v) i 0
same_here m n i v l = elim (cases_lt i (length m)) [
  | inl b ↦ get_or-set_same m i v 0 b ∙ sym (get_or-set_same n i v 0 (omega arith))
  | inr b ↦ get_or_past (set m i v) i 0 (omega (arith, length-set m i v))
      ∙ sym (get_or_past (set n i v) i 0 (omega (arith, length-set n i v)))
]

same_after : (m n : List ℕ) (i v at : ℕ) → length m ≡ length n → ((at ≡ i → ⊥) → get_or m at 0 ≡ get_or n at 0)
    → get_or (set m i v) at 0 ≡ get_or (set n i v) at 0
same_after m n i v at l h = elim (cases_eq at i) [
  | inl e ↦ subst (λ (k : ℕ). get_or (set m i v) k 0 ≡ get_or (set n i v) k 0) (sym e) (same_here m n i v l)
  | inr ne ↦ get_or-set_other m i at v 0 ne ∙ h ne ∙ sym (get_or-set_other n i at v 0 ne)
]

-- where two memories agree or a write stands, they agree after the writes
pub same_writes : (later : ℕ → Bool) (ws : List (ℕ × ℕ)) (m n : List ℕ) → length m ≡ length n
    → ((at : ℕ) → later at ≡ false → (get_or m at 0 ≡ get_or n at 0) ⊎ IsWritten ws at)
    → Agree later (write_all ws m) (write_all ws n)
same_writes later [] m n l u = record { size = l; bytes = λ at s. elim (u at s) [ inl e ↦ e | inr w ↦ absurd w ] }
same_writes later (w ∷ ws) m n l u =
    same_writes later ws (set m w.0 w.1) (set n w.0 w.1) (length-set m w.0 w.1 ∙ l ∙ sym (length-set n w.0 w.1))
    (λ at s. elim (u at s) [
      | inl e ↦ inl (same_after m n w.0 w.1 at l (λ _. e))
      | inr k ↦ elim k [ inl e ↦ inl (same_after m n w.0 w.1 at l (λ ne. absurd (ne e))) | inr k2 ↦ inr k2 ]
    ])

pub writes_agree : WritesAgree
writes_agree ws m n hidden later a u =
    same_writes later ws m n a.size (λ at s. elim (u at s) [ inl e ↦ inl (a.bytes at e) | inr k ↦ inr k ])

-- where nothing is written the byte stays
pub unwritten : (ws : List (ℕ × ℕ)) (m : List ℕ) (at : ℕ) → (IsWritten ws at → ⊥)
    → get_or (write_all ws m) at 0 ≡ get_or m at 0
unwritten [] m at h = refl
unwritten (w ∷ ws) m at h = unwritten ws (set m w.0 w.1) at (λ k. h (inr k))
    ∙ get_or-set_other m w.0 at w.1 0 (λ e. h (inl e))

pub length_writes : (ws : List (ℕ × ℕ)) (m : List ℕ) → length (write_all ws m) ≡ length m
length_writes [] m = refl
length_writes (w ∷ ws) m = length_writes ws (set m w.0 w.1) ∙ length-set m w.0 w.1

pub writes_stay : WritesStay
writes_stay ws m = (length_writes ws m, λ at h. unwritten ws m at h)

-- agreement goes on
pub agree_self : (hidden : ℕ → Bool) (m : List ℕ) → Agree hidden m m
agree_self hidden m = record { size = refl; bytes = λ at s. refl }

pub agree_with : (hidden : ℕ → Bool) (m n p : List ℕ) → Agree hidden m n → Agree hidden n p → Agree hidden m p
agree_with hidden m n p a b = record { size = a.size ∙ b.size; bytes = λ at s. a.bytes at s ∙ b.bytes at s }

-- of lists of addresses one after the other
pub shown_append : (hidden : ℕ → Bool) (xs ys : List ℕ) → AllShown hidden xs → AllShown hidden ys
    → AllShown hidden (xs ++ ys)
shown_append hidden [] ys a b = b
shown_append hidden (x ∷ xs) ys a b = (a.0, shown_append hidden xs ys a.1 b)

pub shown_left : (hidden : ℕ → Bool) (xs ys : List ℕ) → AllShown hidden (xs ++ ys) → AllShown hidden xs
shown_left hidden [] ys a = tt
shown_left hidden (x ∷ xs) ys a = (a.0, shown_left hidden xs ys a.1)

pub shown_right : (hidden : ℕ → Bool) (xs ys : List ℕ) → AllShown hidden (xs ++ ys) → AllShown hidden ys
shown_right hidden [] ys a = a
shown_right hidden (x ∷ xs) ys a = shown_right hidden xs ys a.1
