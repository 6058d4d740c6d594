-- The memory of an image, byte by byte.
use Rattle.std.proofs.Common.{◌≡◌, ℕ, zero, suc, ◌^◌, ◌<◌, Option, Some, None, List, [], ◌∷◌, ◌++◌, length, get_or}
use Rattle.std.proofs.Common.{unwrap_or, refl, ap, sym, ◌∙◌, arith, inl, inr}
use Rattle.std.proofs.lemmas.Bool.{cases_lt}
use Rattle.std.proofs.lemmas.List.{length-append, ext_get_or, get_or_append_left, get_or_push}
use Rattle.cpu12_isa.specs.Memory.{zeros}
use Rattle.cpu12_isa.proofs.Algebra.{zero_at}
use Rattle.cpu12_asm.specs.Bytes.{byte_at}
use Rattle.cpu12_emul.specs.Image.{byte_or_zero, image_memory, loaded, HoldsImage}

pub length_loaded : (image : List (ℕ × ℕ)) (n : ℕ) → length (loaded image n) ≡ n
unfolding loaded
length_loaded image zero = refl
length_loaded image (suc n) = length-append (loaded image n) (byte_or_zero (byte_at image n) ∷ [])
    ∙ (let e = length_loaded image n in omega arith)

pub loaded_at : (image : List (ℕ × ℕ)) (n at : ℕ) → at < n
    → get_or (loaded image n) at 0 ≡ byte_or_zero (byte_at image at)
unfolding loaded
loaded_at image zero at l = absurd (omega arith)
loaded_at image (suc n) at l = elim (cases_lt at n) [
  | inl b ↦ get_or_append_left (loaded image n) (byte_or_zero (byte_at image n) ∷ []) 0 at
      (let e = length_loaded image n in omega arith) ∙ loaded_at image n at b
  | inr b ↦
      let here : at ≡ n = omega arith in
      get_or_push (loaded image n) (byte_or_zero (byte_at image n)) 0 at (length_loaded image n ∙ sym here)
      ∙ ap (λ (k : ℕ). byte_or_zero (byte_at image k)) (sym here)
]

or_zero : (o : Option ℕ) (z : ℕ) → z ≡ 0 → unwrap_or o z ≡ byte_or_zero o
or_zero None z e = e
or_zero (Some byte) z e = refl

loaded_by : (image : List (ℕ × ℕ)) (m : List ℕ) (n : ℕ) → length m ≡ n
    → ((at : ℕ) → at < n → get_or m at 0 ≡ unwrap_or (byte_at image at) (get_or (zeros n) at 0)) → m ≡ loaded image n
loaded_by image m n size bytes = ext_get_or 0 m (loaded image n) (size ∙ sym (length_loaded image n)) (λ at l.
    (let within : at < n = omega arith in
    bytes at within ∙ or_zero (byte_at image at) (get_or (zeros n) at 0) (zero_at n at)
    ∙ sym (loaded_at image n at within)))

-- a memory of zeros that an image was written to
pub image_memory-written : (image : List (ℕ × ℕ)) (old new : List ℕ) → old ≡ zeros 65536 → length new ≡ 65536
    → ((at : ℕ) → at < 2 ^ 16 → get_or new at 0 ≡ unwrap_or (byte_at image at) (get_or old at 0))
    → new ≡ image_memory image
image_memory-written image old new z size bytes =
    loaded_by image new 65536 size
    (λ at l. bytes at l ∙ ap (λ (m : List ℕ). unwrap_or (byte_at image at) (get_or m at 0)) z)

pub holds_image : HoldsImage
holds_image image = (length_loaded image 65536, λ at l. loaded_at image 65536 at l)

pub loaded_same : (a b : List (ℕ × ℕ)) → ((at : ℕ) → byte_at a at ≡ byte_at b at) → (n : ℕ) → loaded a n ≡ loaded b n
unfolding loaded
loaded_same a b same zero = refl
loaded_same a b same (suc n) =
    ap (λ (l : List ℕ). l ++ (byte_or_zero (byte_at a n) ∷ [])) (loaded_same a b same n)
    ∙ ap (λ (o : Option ℕ). loaded b n ++ (byte_or_zero o ∷ [])) (same n)
