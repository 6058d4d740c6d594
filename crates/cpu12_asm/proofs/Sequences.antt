-- Items one after another.
use Rattle.std.proofs.Common.{◌≡◌, ℕ, ◌+◌, ◌<◌, ◌≤◌, ◌^◌, IsSome, List, [], ◌∷◌, ◌++◌, length, take, drop, get_or, refl}
use Rattle.std.proofs.Common.{sym, ◌∙◌, ap, subst, arith, append_assoc, append-nil, add-one}
use Rattle.std.proofs.Math.Seq.{take-suc, drop-cons}
use Rattle.std.proofs.lemmas.List.{length-take-le, take-append-drop}
use Rattle.cpu12_asm.specs.{declared.items.Item.Item, Bytes.byte_at, Bytes.placed, Bytes.Holds}
use Rattle.cpu12_asm.specs.Items.{item_bytes, place_after, place_behind, place_of, given_from, given_by, FailsFirst}
use Rattle.cpu12_asm.specs.Items.{WritesOver}

place_behind-push : (at : ℕ) (xs : List Item) (x : Item)
    → place_behind at (xs ++ x ∷ []) ≡ place_after (place_behind at xs) x
place_behind-push at [] x = refl
place_behind-push at (y ∷ xs) x = place_behind-push (place_after at y) xs x

given_from-push : (at : ℕ) (xs : List Item) (x : Item)
    → given_from at (xs ++ x ∷ []) ≡ given_from at xs ++ placed (place_behind at xs) (item_bytes x)
given_from-push at [] x = append-nil (placed at (item_bytes x))
given_from-push at (y ∷ xs) x =
    ap (λ bs. placed at (item_bytes y) ++ bs) (given_from-push (place_after at y) xs x)
    ∙ sym (append_assoc (placed at (item_bytes y)) (given_from (place_after at y) xs)
    (placed (place_behind (place_after at y) xs) (item_bytes x)))

take-more : (items : List Item) (i : ℕ) (d : Item) → i < length items
    → take (i + 1) items ≡ take i items ++ get_or items i d ∷ []
take-more items i d h = rw (add-one, take-suc items i d)

pub place_of-take : (items : List Item) (i : ℕ) (d : Item) → i < length items
    → place_of (take (i + 1) items) ≡ place_after (place_of (take i items)) (get_or items i d)
place_of-take items i d h = ap place_of (take-more items i d h) ∙ place_behind-push 0 (take i items) (get_or items i d)

pub given_by-take : (items : List Item) (i : ℕ) (d : Item) → i < length items
    → given_by (take (i + 1) items) ≡ given_by (take i items) ++ placed (place_of (take i items))
    (item_bytes (get_or items i d))
given_by-take items i d h = ap given_by (take-more items i d h) ∙ given_from-push 0 (take i items) (get_or items i d)

split_at : (items : List Item) (i : ℕ) (d : Item) → i < length items
    → items ≡ take i items ++ (get_or items i d ∷ drop (i + 1) items)
split_at items i d h =
    let e : drop i items ≡ get_or items i d ∷ drop (i + 1) items = rw add-one (drop-cons items i d h) in
    sym (take-append-drop i items) ∙ ap (λ xs. take i items ++ xs) e

-- the item behind those that an image holds, where it fails
pub FailsFirst-at : (Fails : List Item → Item → Type 0) (image : List (ℕ × ℕ)) (items : List Item) (i n : ℕ) (d : Item)
    → i < length items → n ≡ i + 1 → Holds image (given_by (take i items)) → Fails (take i items) (get_or items i d)
    → FailsFirst Fails items n
FailsFirst-at Fails image items i n d h number held fails = record {
  before = take i items;
  item = get_or items i d;
  behind = drop (i + 1) items;
  parts = split_at items i d h;
  number = omega (arith, length-take-le i items (omega arith));
  placed_before = record { once = held.once; fits = held.fits };
  fails = fails;
}

pub WritesOver-at : (before : List Item) (item : Item) (place : ℕ) → place ≡ place_of before
    → place + length (item_bytes item) ≤ 2 ^ 16
    → (k : ℕ) × (k < length (item_bytes item)) × IsSome (byte_at (given_by before) (place + k)) → WritesOver before item
WritesOver-at before item place here fits taken = record {
  fits = omega arith;
  k = taken.0;
  within = taken.1;
  given = subst (λ (p : ℕ). IsSome (byte_at (given_by before) (p + taken.0))) here taken.2;
}

-- an image that holds one item more
pub Holds-take : (image : List (ℕ × ℕ)) (items : List Item) (i place : ℕ) (d : Item) → i < length items
    → place ≡ place_of (take i items)
    → Holds image (given_by (take i items) ++ placed place (item_bytes (get_or items i d)))
    → Holds image (given_by (take (i + 1) items))
Holds-take image items i place d h here held =
    let e : given_by (take i items) ++ placed place (item_bytes (get_or items i d)) ≡ given_by (take (i + 1) items) =
    ap (λ p. given_by (take i items) ++ placed p (item_bytes (get_or items i d))) here
    ∙ sym (given_by-take items i d h) in
    subst (λ (bs : List (ℕ × ℕ)). Holds image bs) e held
