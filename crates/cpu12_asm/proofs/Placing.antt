-- Bytes that are put behind others.
use Rattle.std.proofs.Common.{◌≡◌, ℕ, ◌+◌, ◌^◌, ◌<◌, ◌≤◌, Bool, true, false, cond, List, [], ◌∷◌, ◌++◌, length, take}
use Rattle.std.proofs.Common.{get_or, Option, Some, None, IsSome, is_some, refl, sym, ◌∙◌, ap, subst, arith}
use Rattle.std.proofs.Common.{append_assoc, add-one, nat_cmp}
use Rattle.std.proofs.lemmas.Bool.Decides.{nat_tests}
use Rattle.std.proofs.Math.Seq.{take-suc}
use Rattle.std.proofs.lemmas.List.{length-take-le}
use Rattle.std.specs.BTreeMap.{is_at}
use Rattle.cpu12_asm.specs.Bytes.{byte_at, IsGivenOnce, FitsMemory, placed, Holds}

-- whether an address is another
abbrev pub is_same : ℕ → ℕ → Bool
is_same p q = is_at (nat_cmp p) q

same_address : (p q : ℕ) → is_same p q ≡ true → p ≡ q
same_address p q h = grind (arith, nat_tests)

pub is_same-comm : (p q : ℕ) → is_same p q ≡ is_same q p
is_same-comm p q = grind (arith, nat_tests)

is_same-lt : (p q : ℕ) → p < q → is_same q p ≡ false
is_same-lt p q h = grind (arith, nat_tests)

-- the second where there is no first
abbrev pub or_else : Option ℕ → Option ℕ → Option ℕ
or_else None b = b
or_else (Some x) b = Some x

or_else-cond : (b : Bool) (x : ℕ) (o p : Option ℕ) → cond b (Some x) (or_else o p) ≡ or_else (cond b (Some x) o) p
or_else-cond true x o p = refl
or_else-cond false x o p = refl

or_else-none : (o : Option ℕ) → or_else o None ≡ o
or_else-none None = refl
or_else-none (Some x) = refl

pub none_in_cond : (b : Bool) (x : ℕ) (o : Option ℕ) → cond b (Some x) o ≡ None → (b ≡ false) × (o ≡ None)
none_in_cond true x o h = absurd (cc)
none_in_cond false x o h = (refl, h)

-- what the second list gives counts where the first gives nothing
pub byte_at-append : (at : ℕ) (xs ys : List (ℕ × ℕ)) → byte_at (xs ++ ys) at ≡ or_else (byte_at xs at) (byte_at ys at)
byte_at-append at [] ys = refl
byte_at-append at (x ∷ xs) ys = ap (cond (is_same at x.0) (Some x.1)) (byte_at-append at xs ys)
    ∙ or_else-cond (is_same at x.0) x.1 (byte_at xs at) (byte_at ys at)

pub FitsMemory-push : (xs : List (ℕ × ℕ)) (at byte : ℕ) → FitsMemory xs → at < 2 ^ 16
    → FitsMemory (xs ++ (at, byte) ∷ [])
FitsMemory-push [] at byte h k = (k, tt)
FitsMemory-push (x ∷ xs) at byte h k = (h.0, FitsMemory-push xs at byte h.1 k)

pub IsGivenOnce-push : (xs : List (ℕ × ℕ)) (at byte : ℕ) → IsGivenOnce xs → byte_at xs at ≡ None
    → IsGivenOnce (xs ++ (at, byte) ∷ [])
IsGivenOnce-push [] at byte h k = (refl, tt)
IsGivenOnce-push (x ∷ xs) at byte h k =
    let parts = none_in_cond (is_same at x.0) x.1 (byte_at xs at) k in
    let other : is_same x.0 at ≡ false = is_same-comm x.0 at ∙ parts.0 in (
      byte_at-append x.0 xs ((at, byte) ∷ []) ∙ ap (λ o. or_else o (cond (is_same x.0 at) (Some byte) None)) h.0
          ∙ ap (λ b. cond b (Some byte) None) other,
      IsGivenOnce-push xs at byte h.1 parts.1,
    )

last_byte : (b : Bool) (given put image : Option ℕ) (byte : ℕ) → (b ≡ true → given ≡ None) → image ≡ given
    → put ≡ cond b (Some byte) image → put ≡ or_else given (cond b (Some byte) None)
last_byte true given put image byte free same h = h ∙ ap (λ o. or_else o (Some byte)) (sym (free refl))
last_byte false given put image byte free same h = h ∙ same ∙ sym (or_else-none given)

-- a byte at an address where there was none
pub Holds-push : (image later given : List (ℕ × ℕ)) (at byte : ℕ) → Holds image given → byte_at image at ≡ None
    → at < 2 ^ 16 → ((q : ℕ) → byte_at later q ≡ cond (is_same at q) (Some byte) (byte_at image q))
    → Holds later (given ++ (at, byte) ∷ [])
Holds-push image later given at byte h free fits put = record {
  bytes = λ q.
      (let free_at : is_same at q ≡ true → byte_at given q ≡ None =
      λ e. subst (λ (x : ℕ). byte_at given x ≡ None) (same_address at q e) (sym (h.bytes at) ∙ free) in
      last_byte (is_same at q) (byte_at given q) (byte_at later q) (byte_at image q) byte free_at (h.bytes q) (put q)
      ∙ ap (λ b. or_else (byte_at given q) (cond b (Some byte) None)) (is_same-comm at q)
      ∙ sym (byte_at-append q given ((at, byte) ∷ [])));
  once = IsGivenOnce-push given at byte h.once (sym (h.bytes at) ∙ free);
  fits = FitsMemory-push given at byte h.fits fits;
}

pub placed-push : (p : ℕ) (xs : List ℕ) (y : ℕ) → placed p (xs ++ y ∷ []) ≡ placed p xs ++ (p + length xs, y) ∷ []
placed-push p [] y = ap (λ q. (q, y) ∷ []) (omega arith)
placed-push p (x ∷ xs) y =
    ap (λ bs. (p, x) ∷ bs) (placed-push (p + 1) xs y ∙ ap (λ q. placed (p + 1) xs ++ (q, y) ∷ []) (omega arith))

-- one byte more of those that are being put
pub placed-take : (p i : ℕ) (bytes : List ℕ) → i < length bytes
    → placed p (take (i + 1) bytes) ≡ placed p (take i bytes) ++ (p + i, get_or bytes i 0) ∷ []
placed-take p i bytes h =
    rw (add-one, take-suc bytes i 0)
    (placed-push p (take i bytes) (get_or bytes i 0)
    ∙ ap (λ n. placed p (take i bytes) ++ (p + n, get_or bytes i 0) ∷ []) (length-take-le i bytes (omega arith)))

-- no byte stands behind those that were put
pub byte_at-placed : (p q : ℕ) (xs : List ℕ) → p + length xs ≤ q → byte_at (placed p xs) q ≡ None
byte_at-placed p q [] h = refl
byte_at-placed p q (x ∷ xs) h = ap (λ b. cond b (Some x) (byte_at (placed (p + 1) xs) q)) (is_same-lt p q (omega arith))
    ∙ byte_at-placed (p + 1) q xs (omega arith)

-- a byte that stands where the next is to be put was given before them
pub given_before : (image given : List (ℕ × ℕ)) (at p i : ℕ) (bytes : List ℕ) → at ≡ p + i → i ≤ length bytes
    → Holds image (given ++ placed p (take i bytes)) → IsSome (byte_at image at) → IsSome (byte_at given (p + i))
given_before image given at p i bytes here few h found =
    let shorter : p + length (take i bytes) ≤ at = omega (arith, length-take-le i bytes few) in
    let e : byte_at image at ≡ byte_at given at =
    h.bytes at ∙ byte_at-append at given (placed p (take i bytes))
    ∙ ap (or_else (byte_at given at)) (byte_at-placed p at (take i bytes) shorter)
    ∙ or_else-none (byte_at given at) in
    subst (λ (o : Option ℕ). IsSome o) (e ∙ ap (byte_at given) here) found

pub none_from_test : (o : Option ℕ) → is_some o ≡ false → o ≡ None
none_from_test None h = refl
none_from_test (Some x) h = absurd (cc)

-- one byte more is put
pub Holds-placed : (image later given : List (ℕ × ℕ)) (at p i : ℕ) (bytes : List ℕ) → at ≡ p + i → i < length bytes
    → at < 2 ^ 16 → Holds image (given ++ placed p (take i bytes)) → byte_at image at ≡ None
    → ((q : ℕ) → byte_at later q ≡ cond (is_same at q) (Some (get_or bytes i 0)) (byte_at image q))
    → Holds later (given ++ placed p (take (i + 1) bytes))
Holds-placed image later given at p i bytes here few fits h free put =
    let pushed = Holds-push image later (given ++ placed p (take i bytes)) at (get_or bytes i 0) h free fits put in
    let e : (given ++ placed p (take i bytes)) ++ (at, get_or bytes i 0) ∷ [] ≡ given ++ placed p (take (i + 1) bytes) =
    append_assoc given (placed p (take i bytes)) ((at, get_or bytes i 0) ∷ [])
    ∙ ap (λ q. given ++ (placed p (take i bytes) ++ (q, get_or bytes i 0) ∷ [])) here
    ∙ ap (λ bs. given ++ bs) (sym (placed-take p i bytes few)) in
    subst (λ (bs : List (ℕ × ℕ)). Holds later bs) e pushed
