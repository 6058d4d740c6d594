-- What a slice reads at a place is what the list that it is of has there, and is valid where all its parts are.
use Rattle.std.proofs.Common.{◌≡◌, ℕ, ◌+◌, ◌-◌, ◌*◌, ◌<◌, ◌≤◌, ◌⊎◌, ⊎_elim, List, [], ◌∷◌, ◌++◌, length, length-append}
use Rattle.std.proofs.Common.{get_or, suc, drop, Some, refl, sym, ap, ap₂, ◌∙◌, subst, arith, Vec, Global}
use Rattle.std.proofs.Math.Seq.{drop-cons}
use Rattle.std.proofs.lemmas.Option.{slice_get_read, slice_get-get_or, get_or_from_slice_get}
use Rattle.std.specs.Prelude.{slice_get}
use Rattle.fz_list.proofs.Algebra.{AreFilled, AreFilled-push}
use denote.Param.Weighed.{most}
use Rattle.fuzzy_meaning.specs.declared.{condition.Condition.TheDeep.size-Condition, condition.Node.Node}
use Rattle.fuzzy_meaning.specs.declared.condition.Node.TheVariants.{And, Or}
use Rattle.fuzzy_meaning.specs.Trees.{tree}
use Rattle.fuzzy_meaning.proofs.Algebra.{part_falls, parts_fall, parts_tree}
use Rattle.fuzzy_meaning.specs.Blocks.{IsValidCondition, AreValidConditions, PartsAreValid}
use Rattle.fuzzy_meaning.specs.{Conditions.Condition, Conditions.conditions}
use Rattle.fuzzy_meaning.specs.declared.block.Block.{Block}

-- the list has what is read at a place of it
pub slice_get-read : {X : Type 0} (xs ys : List X) (n : ℕ) (x : X) → xs ≡ ys → n < length ys → x ≡ get_or xs n x
    → slice_get ys n ≡ Some x
slice_get-read xs ys n x same within is =
    slice_get_read ys (length ys) n x refl within (is ∙ ap (λ l. get_or l n x) same)

-- or at a place of the slice
pub slice_get-slice : {X : Type 0} (xs ys : List X) (n : ℕ) (x : X) → xs ≡ ys → n < length xs → x ≡ get_or xs n x
    → slice_get ys n ≡ Some x
slice_get-slice xs ys n x same within is = slice_get-read xs ys n x same (subst (λ l. n < length l) same within) is

-- or there where another element stands for none
pub slice_get-get_or_slice : {X : Type 0} (xs ys : List X) (n : ℕ) (d : X) → xs ≡ ys → n < length xs
    → slice_get ys n ≡ Some (get_or xs n d)
slice_get-get_or_slice xs ys n d same within =
    subst (λ l. slice_get l n ≡ Some (get_or xs n d)) same (slice_get-get_or xs n d within)

-- what is read is what the list has
pub get_or-slice : {X : Type 0} (xs ys : List X) (n : ℕ) (d y : X) → xs ≡ ys → slice_get ys n ≡ Some y
    → get_or xs n d ≡ y
get_or-slice xs ys n d y same found = ap (λ l. get_or l n d) same ∙ get_or_from_slice_get ys n y d found

-- a list is filled by what is read of another with one more
pub AreFilled-read : {X Y : Type 0} (P : ℕ → X → Y → Type 0) (xs read : List X) (t : ℕ) (x : X) → read ≡ xs
    → x ≡ get_or read t x → (ys new : List Y) (y : Y) → (length ys ≡ t) × AreFilled P xs ys t → new ≡ ys ++ y ∷ []
    → P t x y → (length new ≡ t + 1) × AreFilled P xs new (t + 1)
AreFilled-read P xs read t x same x_is ys new y before new_is here =
    let longer : length (ys ++ y ∷ []) ≡ t + 1 = omega (arith, length-append ys (y ∷ []), before.0) in (
      ap length new_is ∙ longer,
      subst (λ zs. AreFilled P xs zs (t + 1)) (sym new_is) (AreFilled-push P xs ys t y before.0 before.1
          (λ z e. subst (λ w. P t w y) (x_is ∙ get_or-slice read xs t x z same e) here)),
    )

-- where a loop goes down over a list, the element that it comes to and those behind
pub drop_back : {X : Type 0} (xs : List X) (k : ℕ) (x d : X) → 1 ≤ k → k ≤ length xs → x ≡ get_or xs (k - 1) d
    → drop (k - 1) xs ≡ x ∷ drop k xs
drop_back xs k x d some upto is =
    let back : suc (k - 1) ≡ k = omega arith in
    drop-cons xs (k - 1) d (omega arith) ∙ ap₂ (λ y n. y ∷ drop n xs) (sym is) back

-- and over what is read of a list, what the list has there
pub step_back : {X : Type 0} {xs ys : List X} {k : ℕ} {x : X} → xs ≡ ys → 1 ≤ k → k ≤ length xs
    → x ≡ get_or xs (k - 1) x → (drop (k - 1) xs ≡ x ∷ drop k xs) × (slice_get ys (k - 1) ≡ Some x)
step_back {xs = xs} {ys = ys} {k = k} {x = x} same some upto is =
    (drop_back xs k x x some upto is, slice_get-slice xs ys (k - 1) x same (omega arith) is)

-- ---- the parts of a valid AND or OR are valid

-- the part number k
pub part_is_valid : PartsAreValid → (b : Block) (parts : List Condition) {k : ℕ} {part : Condition}
    → part ≡ get_or parts (k - 1) part → AreValidConditions b (conditions parts) → (1 ≤ k) × (k ≤ length parts)
    → IsValidCondition b part
part_is_valid parts_are_valid b parts {k} {part} is valid (from, to) =
    parts_are_valid b parts (k - 1) part valid (slice_get-read parts parts (k - 1) part refl (omega arith) is)

-- so it may be called on, where t is what the calls fall below, and T what else they ask for
pub part_asks : PartsAreValid → (b : Block) (parts : List Condition) {k : ℕ} {part : Condition} {t : ℕ} {T : Type 0}
    → part ≡ get_or parts (k - 1) part → AreValidConditions b (conditions parts) → T
    → (1 ≤ k) × (k ≤ length parts) × (2 * most size-Condition parts + 1 ≤ t)
    → (2 * size-Condition part + 0 < t) × (IsValidCondition b part × T)
part_asks parts_are_valid b parts {k} {part} is valid rest (from, to, below) = (
  omega (arith, part_falls parts (k - 1) part (omega arith) is),
  (part_is_valid parts_are_valid b parts is valid (from, to), rest),
)

-- and so may all of them
pub parts_ask : (b : Block) {n : Node} {c : Condition} (seen : tree n ≡ c) {v : Vec Condition Global}
    (sort : (n ≡ And v) ⊎ (n ≡ Or v)) {read : List Condition} {t : ℕ} {T : Type 0}
    → (read ≡ v.items) × IsValidCondition b c × T × (2 * size-Condition c + 0 ≤ t)
    → (2 * most size-Condition read + 1 < t) × (AreValidConditions b (conditions read) × T)
parts_ask b seen sort (same, valid, rest, below) = (
  omega (arith, parts_fall seen sort same),
  (rw same (⊎_elim (λ e. rw e at valid) (λ e. rw e at valid) (parts_tree seen sort)), rest),
)
