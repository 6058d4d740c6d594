-- The parts of items that go up stand in the memory of their image.
use Rattle.eval_code.proofs.Words.{[], ◌++◌, ◌+◌, ◌<◌, ◌∙◌, ◌∷◌, ◌≡◌, ◌≤◌, ap, append_assoc, arith, Byte, byte_at}
use Rattle.eval_code.proofs.Words.{byte_at-append, byte_at-placed, byte_or_zero, cond, encode_of, get_or, given_by}
use Rattle.eval_code.proofs.Words.{given_from, HoldsImage, image_memory, Instr, IsRising, IsRisingFrom, Item}
use Rattle.eval_code.proofs.Words.{item_bytes, length, length-append, List, map, None, Op, or_else, Place, place_after}
use Rattle.eval_code.proofs.Words.{place_behind, placed, refl, Some, subst, suc, sym, zero, ℕ}
use Rattle.cpu12_asm.specs.{Bytes.Holds}
use Rattle.cpu12_asm.proofs.Algebra.{is_at-other, is_at-refl}
use Rattle.cpu12_asm.specs.Rising.{RisesBehindFirst, EndsInMemory, RisesBehindPart}
use Rattle.eval_code.specs.Standing.{BytesStand, CodeStands, ZeroBelow}
use Rattle.eval_code.proofs.{steps.Memory.HasBytes, steps.Memory.bytes_by, steps.Decoding.code_bytes}

-- the laws of items that rise
pub record Rises : Type 0 where
  pub first : RisesBehindFirst
  pub end : EndsInMemory
  pub part : RisesBehindPart

-- a memory that has just the bytes that are given, and else 0
pub record HasGiven (mem : List ℕ) (given : List (ℕ × ℕ)) : Type 0 where
  pub size : length mem ≡ 65536
  pub bytes : (at : ℕ) → at < 65536 → get_or mem at 0 ≡ byte_or_zero (byte_at given at)

-- the memory of an image that holds what items give
pub image_given : HoldsImage → (image given : List (ℕ × ℕ)) → Holds image given → HasGiven (image_memory image) given
image_given holds_image image given h =
    let m = holds_image image in
    record { size = m.0; bytes = λ at lt. m.1 at lt ∙ ap byte_or_zero (h.bytes at) }

placed_append : (at : ℕ) (a b : List ℕ) → placed at (a ++ b) ≡ placed at a ++ placed (at + length a) b
placed_append at [] b = let e : at ≡ at + 0 = omega arith in ap (λ k. placed k b) e
placed_append at (x ∷ a) b =
    let e : at + 1 + length a ≡ at + suc (length a) = omega arith in
    ap (λ l. (at, x) ∷ l) (placed_append (at + 1) a b ∙ ap (λ k. placed (at + 1) a ++ placed k b) e)

-- bytes, and code, give their bytes one after another
pub given_bytes : (at : ℕ) (bs : List ℕ) (rest : List Item)
    → given_from at (map Byte bs ++ rest) ≡ placed at bs ++ given_from (at + length bs) rest
given_bytes at [] rest = let e : at ≡ at + 0 = omega arith in ap (λ k. given_from k rest) e
given_bytes at (b ∷ bs) rest =
    let e : at + 1 + length bs ≡ at + suc (length bs) = omega arith in
    ap (λ l. (at, b) ∷ l) (given_bytes (at + 1) bs rest ∙ ap (λ k. placed (at + 1) bs ++ given_from k rest) e)

pub given_code : (at : ℕ) (is : List Instr) (rest : List Item)
    → given_from at (map Op is ++ rest) ≡ placed at (code_bytes is) ++ given_from (at + length (code_bytes is)) rest
given_code at [] rest = let e : at ≡ at + 0 = omega arith in ap (λ k. given_from k rest) e
given_code at (i ∷ is) rest =
    let n = length (encode_of i) in
    let la = length-append (encode_of i) (code_bytes is) in
    let e : at + n + length (code_bytes is) ≡ at + length (encode_of i ++ code_bytes is) = omega arith in
    ap (λ l. placed at (encode_of i) ++ l)
    (given_code (at + n) is rest ∙ ap (λ k. placed (at + n) (code_bytes is) ++ given_from k rest) e)
    ∙ sym (append_assoc (placed at (encode_of i)) (placed (at + n) (code_bytes is))
    (given_from (at + length (encode_of i ++ code_bytes is)) rest))
    ∙ ap (λ l. l ++ given_from (at + length (encode_of i ++ code_bytes is)) rest)
    (sym (placed_append at (encode_of i) (code_bytes is)))

pub given_append : (at : ℕ) (xs ys : List Item)
    → given_from at (xs ++ ys) ≡ given_from at xs ++ given_from (place_behind at xs) ys
given_append at [] ys = refl
given_append at (x ∷ xs) ys =
    ap (λ l. placed at (item_bytes x) ++ l) (given_append (place_after at x) xs ys)
    ∙ sym (append_assoc (placed at (item_bytes x)) (given_from (place_after at x) xs)
    (given_from (place_behind (place_after at x) xs) ys))

-- going up
end_up : Rises → (at : ℕ) (xs ys : List Item) → IsRisingFrom at (xs ++ ys) → at ≤ place_behind at xs
end_up rises at [] ys h = omega arith
end_up rises at (x ∷ xs) ys h =
    let head = rises.first at x (xs ++ ys) h in
    let rest = end_up rises (place_after at x) xs ys head.1 in
    omega (arith, head.0, rest)

-- items give no byte from their end on
pub none_behind : Rises → (at q : ℕ) (xs ys : List Item) → IsRisingFrom at (xs ++ ys) → place_behind at xs ≤ q
    → byte_at (given_from at xs) q ≡ None
none_behind rises at q [] ys h low = refl
none_behind rises at q (x ∷ xs) ys h low =
    let head = rises.first at x (xs ++ ys) h in
    let rest : byte_at (given_from (place_after at x) xs) q ≡ None =
    none_behind rises (place_after at x) q xs ys head.1 low in
    let up = end_up rises (place_after at x) xs ys head.1 in
    byte_at-append q (placed at (item_bytes x)) (given_from (place_after at x) xs)
    ∙ ap (λ o. or_else o (byte_at (given_from (place_after at x) xs) q))
    (byte_at-placed at q (item_bytes x) (omega (arith, head.0, up)))
    ∙ rest

-- nor below their start
pub none_placed_below : (at q : ℕ) (bs : List ℕ) → q < at → byte_at (placed at bs) q ≡ None
none_placed_below at q [] h = refl
none_placed_below at q (b ∷ bs) h =
    ap (λ t. cond t (Some b) (byte_at (placed (at + 1) bs) q)) (is_at-other q at (λ e. omega arith))
    ∙ none_placed_below (at + 1) q bs (omega arith)

pub none_below : Rises → (at q : ℕ) (xs : List Item) → IsRisingFrom at xs → q < at → byte_at (given_from at xs) q ≡ None
none_below rises at q [] h low = refl
none_below rises at q (x ∷ xs) h low =
    let head = rises.first at x xs h in
    byte_at-append q (placed at (item_bytes x)) (given_from (place_after at x) xs)
    ∙ ap (λ o. or_else o (byte_at (given_from (place_after at x) xs) q)) (none_placed_below at q (item_bytes x) low)
    ∙ none_below rises (place_after at x) q xs head.1 (omega (arith, head.0))

-- a byte of those that are placed
found_placed : (p j : ℕ) (bs : List ℕ) → j < length bs → byte_at (placed p bs) (p + j) ≡ Some (get_or bs j 0)
found_placed p j [] lt = absurd (omega arith)
found_placed p zero (b ∷ bs) lt =
    let e : p + 0 ≡ p = omega arith in
    ap (byte_at (placed p (b ∷ bs))) e ∙ ap (λ t. cond t (Some b) (byte_at (placed (p + 1) bs) p)) (is_at-refl p)
found_placed p (suc j) (b ∷ bs) lt =
    let e : p + suc j ≡ p + 1 + j = omega arith in
    ap (byte_at (placed p (b ∷ bs))) e
    ∙ ap (λ t. cond t (Some b) (byte_at (placed (p + 1) bs) (p + 1 + j))) (is_at-other (p + 1 + j) p (λ e. omega arith))
    ∙ found_placed (p + 1) j bs (omega arith)

-- a part of rising items stands in memory
part_stands : Rises → (mem : List ℕ) (items front part rest : List Item) (p : ℕ) (bs : List ℕ)
    → HasGiven mem (given_by items) → IsRising items
    → items ≡ front ++ (Place p ∷ (part ++ rest))
    → given_from p (part ++ rest) ≡ placed p bs ++ given_from (p + length bs) rest
    → place_behind p part ≡ p + length bs
    → HasBytes mem p bs
part_stands rises mem items front part rest p bs h rise e eg ep =
    let whole : IsRisingFrom 0 (front ++ (Place p ∷ (part ++ rest))) =
    subst (λ (xs : List Item). IsRisingFrom 0 xs) e rise in
    let here = rises.part 0 front (Place p ∷ (part ++ rest)) whole in
    let behind = rises.part p part rest here.1 in
    let top = rises.end (place_behind p part) rest behind in
    bytes_by mem p bs (λ j lt.
    (let g : given_by items ≡ given_from 0 front ++ (placed p bs ++ given_from (p + length bs) rest) =
    ap given_by e ∙ given_append 0 front (Place p ∷ (part ++ rest)) ∙ ap (λ l. given_from 0 front ++ l) eg in
    let n : byte_at (given_from 0 front) (p + j) ≡ None =
    none_behind rises 0 (p + j) front (Place p ∷ (part ++ rest)) whole (omega (arith, here.0)) in
    let f : byte_at (given_by items) (p + j) ≡ Some (get_or bs j 0) =
    ap (λ l. byte_at l (p + j)) g
    ∙ byte_at-append (p + j) (given_from 0 front) (placed p bs ++ given_from (p + length bs) rest)
    ∙ ap (λ o. or_else o (byte_at (placed p bs ++ given_from (p + length bs) rest) (p + j))) n
    ∙ byte_at-append (p + j) (placed p bs) (given_from (p + length bs) rest)
    ∙ ap (λ o. or_else o (byte_at (given_from (p + length bs) rest) (p + j))) (found_placed p j bs lt) in
    h.bytes (p + j) (omega (arith, top.0, top.1)) ∙ ap byte_or_zero f))

behind_bytes : (at : ℕ) (bs : List ℕ) → place_behind at (map Byte bs) ≡ at + length bs
behind_bytes at [] = omega arith
behind_bytes at (b ∷ bs) = behind_bytes (at + 1) bs ∙ omega arith

behind_code : (at : ℕ) (is : List Instr) → place_behind at (map Op is) ≡ at + length (code_bytes is)
behind_code at [] = omega arith
behind_code at (i ∷ is) = behind_code (at + length (encode_of i)) is
    ∙ omega (arith, length-append (encode_of i) (code_bytes is))

pub bytes_stand : Rises → (mem : List ℕ) (items front rest : List Item) (p : ℕ) (bs : List ℕ)
    → HasGiven mem (given_by items) → IsRising items
    → items ≡ front ++ (Place p ∷ (map Byte bs ++ rest)) → HasBytes mem p bs
bytes_stand rises mem items front rest p bs h rise e =
    part_stands rises mem items front (map Byte bs) rest p bs h rise e (given_bytes p bs rest) (behind_bytes p bs)

pub code_stands : Rises → (mem : List ℕ) (items front rest : List Item) (p : ℕ) (is : List Instr)
    → HasGiven mem (given_by items) → IsRising items
    → items ≡ front ++ (Place p ∷ (map Op is ++ rest)) → HasBytes mem p (code_bytes is)
code_stands rises mem items front rest p is h rise e =
    part_stands rises mem items front (map Op is) rest p (code_bytes is) h rise e (given_code p is rest)
    (behind_code p is)

-- the same of the memory of an image
pub bytes_in_image : Rises → HoldsImage → BytesStand
bytes_in_image rises holds image items front rest p bs h rise e =
    bytes_stand rises (image_memory image) items front rest p bs (image_given holds image (given_by items) h) rise e

pub code_in_image : Rises → HoldsImage → CodeStands
code_in_image rises holds image items front rest p is h rise e =
    code_stands rises (image_memory image) items front rest p is (image_given holds image (given_by items) h) rise e

pub zero_below : Rises → HoldsImage → ZeroBelow
zero_below rises holds image items p at h rise low small =
    let given = image_given holds image (given_by (Place p ∷ items)) h in
    given.bytes at small ∙ ap byte_or_zero (none_below rises p at items rise.1 low)
