-- Lists of slots, their terms and their complements.
use Rattle.rule_layout.proofs.Words.{[], ◌++◌, ◌+◌, ◌<◌, ◌||◌, ◌∙◌, ◌∷◌, ◌≡◌, ◌⊎◌, also, And, ap, append-nil}
use Rattle.rule_layout.proofs.Words.{append_assoc, arith, Bool, Condition, Conditions, conditions, end}
use Rattle.rule_layout.proofs.Words.{evaluate_pushed_parts-take, false, get_or, Global, has_complement, IsMonoid}
use Rattle.rule_layout.proofs.Words.{length, length-map, length-take, List, map, Node, not, Or, range_with_len, refl}
use Rattle.rule_layout.proofs.Words.{replicate, suc, sym, take, terms_from, tree, true, Vec, zero, ℕ, ⊎_elim}
use Rattle.std.proofs.{lemmas.List.map_more}
use Rattle.fuzzy_meaning.specs.{Conditions.evaluate_pushed_parts}
use Rattle.fuzzy_meaning.proofs.{Algebra.parts_tree}
use Rattle.rule_layout.specs.{Slots.in_some_part, Slots.is_complement}
use Rattle.std.proofs.lemmas.List.FromFn.{map-range_with_len_more}

pub terms_push : (v n j : ℕ) (front : List (ℕ × ℕ)) → 1 + n ≡ j →
    (front ++ map (λ t. (v, t)) (range_with_len 1 n)) ++ (v, j) ∷ [] ≡ front
    ++ map (λ t. (v, t)) (range_with_len 1 (n + 1))
terms_push v n j front e =
    append_assoc front (map (λ t. (v, t)) (range_with_len 1 n)) ((v, j) ∷ [])
    ∙ ap (λ (w : List (ℕ × ℕ)). front ++ w) (sym (map-range_with_len_more (λ (t : ℕ). (v, t)) 1 n j e))

terms_from-push_at : (i n : ℕ) (ns : List ℕ)
    → terms_from i (ns ++ n ∷ []) ≡ terms_from i ns ++ map (λ t. (i + length ns, t)) (range_with_len 1 n)
terms_from-push_at i n [] = append-nil (map (λ t. (i, t)) (range_with_len 1 n))
    ∙ ap (λ (k : ℕ). map (λ t. (k, t)) (range_with_len 1 n)) (omega arith)
terms_from-push_at i n (m ∷ ns) =
    ap (λ (w : List (ℕ × ℕ)). map (λ t. (i, t)) (range_with_len 1 m) ++ w)
    (terms_from-push_at (i + 1) n ns
    ∙ ap (λ (k : ℕ). terms_from (i + 1) ns ++ map (λ t. (k, t)) (range_with_len 1 n)) (omega arith))
    ∙ sym (append_assoc (map (λ t. (i, t)) (range_with_len 1 m)) (terms_from (i + 1) ns)
    (map (λ t. (i + suc (length ns), t)) (range_with_len 1 n)))

-- one variable's terms more
pub terms_from_more : {X : Type 0} (count : X → ℕ) (xs : List X) (i v : ℕ) (x : X) (front : List (ℕ × ℕ))
    → i < length xs → x ≡ get_or xs i x → v ≡ i →
    front ≡ terms_from 1 (map count (take i xs))
    → front ++ map (λ t. (v + 1, t)) (range_with_len 1 (count x)) ≡ terms_from 1 (map count (take (i + 1) xs))
terms_from_more count xs i v x front lt here same h =
    let more = map_more count xs i x lt ∙ ap (λ y. map count (take i xs) ++ count y ∷ []) (sym here) in
    let size : 1 + length (map count (take i xs)) ≡ v + 1 =
    omega (arith, length-map (take i xs) count, length-take i xs) in
    ap (λ (w : List (ℕ × ℕ)). w ++ map (λ t. (v + 1, t)) (range_with_len 1 (count x))) h
    ∙ (ap (λ (k : ℕ). terms_from 1 (map count (take i xs)) ++ map (λ t. (k, t)) (range_with_len 1 (count x)))
    (sym size) ∙ (sym (terms_from-push_at 1 (count x) (map count (take i xs)))
    ∙ ap (λ (w : List ℕ). terms_from 1 w) (sym more)))

or_assoc : (a b c : Bool) → ((a || b) || c) ≡ (a || (b || c))
or_assoc true b c = refl
or_assoc false b c = refl

or_false : (a : Bool) → (a || false) ≡ a
or_false true = refl
or_false false = refl

some_part_is_monoid : (any : Bool) → IsMonoid (in_some_part.none any) (in_some_part.join any)
some_part_is_monoid true = record { left = λ a. refl; right = or_false; assoc = or_assoc }
some_part_is_monoid false = record { left = λ a. refl; right = or_false; assoc = or_assoc }

-- some part of an OR, `any`, or of an AND does
abbrev pub some_has_complement : ℕ → ℕ → Bool → Bool → Conditions → Bool
some_has_complement i t = evaluate_pushed_parts in_some_part (is_complement i t)

some_has_complement-sort : (i t : ℕ) (odd any : Bool) (cs : Conditions)
    → some_has_complement i t odd any cs ≡ some_has_complement i t odd true cs
some_has_complement-sort i t odd true cs = refl
some_has_complement-sort i t odd false end = refl
some_has_complement-sort i t odd false (also c cs) =
    ap (λ (b : Bool). has_complement i t odd c || b) (some_has_complement-sort i t odd false cs)

-- of a condition with parts, whichever sort it is
pub has_complement-parts : {n : Node} {c : Condition} (seen : tree n ≡ c) {v : Vec Condition Global}
    (sort : (n ≡ And v) ⊎ (n ≡ Or v)) (i t : ℕ) (odd : Bool)
    → has_complement i t odd c ≡ some_has_complement i t odd true (conditions v.items)
has_complement-parts seen {v} sort i t odd =
    ⊎_elim (λ e. ap (has_complement i t odd) e ∙ some_has_complement-sort i t odd odd (conditions v.items))
    (λ e. ap (has_complement i t odd) e ∙ some_has_complement-sort i t odd (not odd) (conditions v.items))
    (parts_tree seen sort)

pub some_has_complement-take : (i t : ℕ) (odd : Bool) (cs : List Condition) (k : ℕ) (c : Condition) → k < length cs
    → c ≡ get_or cs k c → some_has_complement i t odd true (conditions (take (k + 1) cs))
    ≡ (some_has_complement i t odd true (conditions (take k cs)) || has_complement i t odd c)
some_has_complement-take i t odd = evaluate_pushed_parts-take some_part_is_monoid (is_complement i t) odd true

-- marks that hold those of some parts, after one part more
pub marks_more : (old now new front part : Bool) → now ≡ (old || front) → new ≡ (now || part)
    → new ≡ (old || (front || part))
marks_more old now new front part h k = k ∙ (ap (λ (b : Bool). b || part) h ∙ or_assoc old front part)

-- a table without marks
pub no_marks : (k n : ℕ) → get_or (replicate k false) n false ≡ false
no_marks zero n = refl
no_marks (suc k) zero = refl
no_marks (suc k) (suc n) = no_marks k n
