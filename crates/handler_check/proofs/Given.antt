-- An image's bytes, and the instructions that they are.
use Rattle.handler_check.proofs.Words.{[], ◌++◌, ◌+◌, ◌<◌, ◌∙◌, ◌∷◌, ◌≡◌, ◌≤◌, ap, arith, Begins, byte_at, bytes_at}
use Rattle.handler_check.proofs.Words.{code_bytes, code_end, decode_at, DecodesEncoded, encode_of, FitsOperands}
use Rattle.handler_check.proofs.Words.{get_or, Gives, HasCode, inl, inr, Instr, IsFrom, length, List, Ok, refl}
use Rattle.handler_check.proofs.Words.{six_from, size_of, Some, StandsAt, subst, suc, sym, zero, ℕ}
use Rattle.handler_check.proofs.{Decoding.size_low, Places.within}

-- bytes that an image gives, one by one
pub gives_get : (image : List (ℕ × ℕ)) (at : ℕ) (vs : List ℕ) (k : ℕ) → Gives image at vs → k < length vs
    → byte_at image (at + k) ≡ Some (get_or vs k 0)
gives_get image at [] k g l = absurd (omega arith)
gives_get image at (v ∷ vs) zero g l = (let e : at + 0 ≡ at = omega arith in rw e g.0)
gives_get image at (v ∷ vs) (suc k) g l =
    let e : at + 1 + k ≡ at + suc k = omega arith in
    subst (λ (n : ℕ). byte_at image n ≡ Some (get_or vs k 0)) e (gives_get image (at + 1) vs k g.1 (omega arith))

pub gives_by : (image : List (ℕ × ℕ)) (at : ℕ) (vs : List ℕ)
    → ((k : ℕ) → k < length vs → byte_at image (at + k) ≡ Some (get_or vs k 0)) → Gives image at vs
gives_by image at [] f = tt
gives_by image at (v ∷ vs) f =
    let e : at + 0 ≡ at = omega arith in (
      subst (λ (n : ℕ). byte_at image n ≡ Some v) e (f 0 (omega arith)),
      gives_by image (at + 1) vs (λ k l. (let s : at + suc k ≡ at + 1 + k = omega arith in
          subst (λ (n : ℕ). byte_at image n ≡ Some (get_or vs k 0)) s (f (suc k) (omega arith)))),
    )

pub gives_left : (image : List (ℕ × ℕ)) (at : ℕ) (xs ys : List ℕ) → Gives image at (xs ++ ys) → Gives image at xs
gives_left image at [] ys g = tt
gives_left image at (x ∷ xs) ys g = (g.0, gives_left image (at + 1) xs ys g.1)

pub gives_right : (image : List (ℕ × ℕ)) (at : ℕ) (xs ys : List ℕ) → Gives image at (xs ++ ys)
    → Gives image (at + length xs) ys
gives_right image at [] ys g = (let e : at + 0 ≡ at = omega arith in subst (λ (n : ℕ). Gives image n ys) (sym e) g)
gives_right image at (x ∷ xs) ys g =
    (let e : at + 1 + length xs ≡ at + suc (length xs) = omega arith in
    subst (λ (n : ℕ). Gives image n ys) e (gives_right image (at + 1) xs ys g.1))

pub gives_both : (image : List (ℕ × ℕ)) (at : ℕ) (xs ys : List ℕ) → Gives image at xs → Gives image (at + length xs) ys
    → Gives image at (xs ++ ys)
gives_both image at [] ys g h = (let e : at + 0 ≡ at = omega arith in subst (λ (n : ℕ). Gives image n ys) e h)
gives_both image at (x ∷ xs) ys g h =
    (let e : at + suc (length xs) ≡ at + 1 + length xs = omega arith in
    (g.0, gives_both image (at + 1) xs ys g.1 (subst (λ (n : ℕ). Gives image n ys) e h)))

-- the bytes of the instructions
pub gives_at : (image : List (ℕ × ℕ)) (start : ℕ) (is : List Instr) (at : ℕ) (i : Instr)
    → Gives image start (code_bytes is) → IsFrom start is at i → Gives image at (encode_of i)
gives_at image start [] at i g w = absurd w
gives_at image start (j ∷ js) at i g w = elim w [
  | inl e ↦ subst (λ (n : ℕ). Gives image n (encode_of i)) (sym e.0)
      (subst (λ (k : Instr). Gives image start (encode_of k)) (sym e.1)
      (gives_left image start (encode_of j) (code_bytes js) g))
  | inr k ↦ gives_at image (start + size_of j) js at i (gives_right image start (encode_of j) (code_bytes js) g) k
]

pub gives_all : (image : List (ℕ × ℕ)) (start : ℕ) (is : List Instr)
    → ((at : ℕ) (i : Instr) → IsFrom start is at i → Gives image at (encode_of i)) → Gives image start (code_bytes is)
gives_all image start [] f = tt
gives_all image start (j ∷ js) f =
    gives_both image start (encode_of j) (code_bytes js) (f start j (inl (refl, refl)))
    (gives_all image (start + size_of j) js (λ at i w. f at i (inr w)))

-- and the bytes of a memory
begins_by : (m ats vs : List ℕ) → length vs ≤ length ats
    → ((k : ℕ) → k < length vs → get_or m (get_or ats k 0) 0 ≡ get_or vs k 0) → Begins (bytes_at m ats) vs
begins_by m ats [] l h = tt
begins_by m [] (v ∷ vs) l h = absurd (omega arith)
begins_by m (at ∷ ats) (v ∷ vs) l h =
    (h 0 (omega arith), begins_by m ats vs (omega arith) (λ k l. h (suc k) (omega arith)))

begins_get : (m ats vs : List ℕ) (k : ℕ) → Begins (bytes_at m ats) vs → k < length vs
    → get_or m (get_or ats k 0) 0 ≡ get_or vs k 0
begins_get m ats [] k b l = absurd (omega arith)
begins_get m [] (v ∷ vs) k b l = absurd b
begins_get m (at ∷ ats) (v ∷ vs) zero b l = b.0
begins_get m (at ∷ ats) (v ∷ vs) (suc k) b l = begins_get m ats vs k b.1 (omega arith)

six_at : (at k : ℕ) → at < 20480 → k < 6 → get_or (six_from at) k 0 ≡ at + k
six_at at zero l h = omega arith
six_at at (suc zero) l h = omega arith
six_at at (suc (suc zero)) l h = omega arith
six_at at (suc (suc (suc zero))) l h = omega arith
six_at at (suc (suc (suc (suc zero)))) l h = omega arith
six_at at (suc (suc (suc (suc (suc zero))))) l h = omega arith
six_at at (suc (suc (suc (suc (suc (suc k)))))) l h = absurd (omega arith)

-- a memory with the bytes of an image
abbrev pub HasBytes : List (ℕ × ℕ) → List ℕ → Type 0
HasBytes image m = (at byte : ℕ) → byte_at image at ≡ Some byte → get_or m at 0 ≡ byte

pub stands_by : (image : List (ℕ × ℕ)) (m : List ℕ) (at : ℕ) (i : Instr) → HasBytes image m → at < 20480
    → Gives image at (encode_of i) → StandsAt m at i
stands_by image m at i h l g =
    let s = size_low i in
    let six = s.1 in
    begins_by m (six_from at) (encode_of i) six
    (λ k w. (let e : get_or (six_from at) k 0 ≡ at + k = six_at at k l (omega arith) in
    ap (λ (n : ℕ). get_or m n 0) e ∙ h (at + k) (get_or (encode_of i) k 0) (gives_get image at (encode_of i) k g w)))

pub code_by : (image : List (ℕ × ℕ)) (m : List ℕ) (is : List Instr) → HasBytes image m → code_end is ≤ 20480
    → Gives image 16384 (code_bytes is) → HasCode is m
code_by image m is h l g at i w =
    let r = within 16384 is at i w in
    let s = size_low i in
    let z = s.0 in
    let e = r.1 in
    stands_by image m at i h (omega arith) (gives_at image 16384 is at i g w)

-- what stands in memory is given, where the image has a byte at each of its places
pub given_by : (image : List (ℕ × ℕ)) (m : List ℕ) (at : ℕ) (i : Instr) → HasBytes image m → at < 20480
    → ((k : ℕ) → k < size_of i → (b : ℕ) × (byte_at image (at + k) ≡ Some b)) → StandsAt m at i
    → Gives image at (encode_of i)
given_by image m at i h l some st = gives_by image at (encode_of i) each
  where
    each : (k : ℕ) → k < length (encode_of i) → byte_at image (at + k) ≡ Some (get_or (encode_of i) k 0)
    each k w =
        let s = size_low i in
        let six = s.1 in
        let o = some k w in
        let e : get_or (six_from at) k 0 ≡ at + k = six_at at k l (omega arith) in
        let v : o.0 ≡ get_or (encode_of i) k 0 = sym (h (at + k) o.0 o.1) ∙ ap (λ (n : ℕ). get_or m n 0) (sym e)
        ∙ begins_get m (six_from at) (encode_of i) k st w in
        o.1 ∙ ap (λ (n : ℕ). Some n) v

-- an image gives one instruction at a place
pub one_given : DecodesEncoded → (image : List (ℕ × ℕ)) (m : List ℕ) (at : ℕ) (i : Instr) → HasBytes image m
    → at < 20480 → FitsOperands i → Gives image at (encode_of i) → decode_at m at ≡ Ok i
one_given decodes image m at i h l f g = decodes m at i f (stands_by image m at i h l g)
