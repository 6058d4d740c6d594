-- The sizes of rules, one after another.
use Rattle.rule_layout.proofs.Words.{[], ◌*◌, ◌++◌, ◌+◌, ◌<◌, ◌∙◌, ◌∷◌, ◌≡◌, ◌≤◌, All, All-head, All-tail, ap, ap₂}
use Rattle.rule_layout.proofs.Words.{arith, Conjunction, conjunction_count, entry_count, false, flat_map, get_or}
use Rattle.rule_layout.proofs.Words.{IsCountable, IsSizeOfRules, IsSmall, length, length-take, List, Literal, map}
use Rattle.rule_layout.proofs.Words.{mul-le-mul_left, nodes, Ok, out_slot, refl, replicate, Rule, rule_entries}
use Rattle.rule_layout.proofs.Words.{rule_spread, Size, Some, subst, sum_by-cons, sym, table_conjunction}
use Rattle.rule_layout.proofs.Words.{table_conjunctions, table_literal, table_literals, table_number, take, take_more}
use Rattle.rule_layout.proofs.Words.{total_length, with_conclusions, ℕ}
use Rattle.std.proofs.{lemmas.List.get_or-take, lemmas.List.flat_map_more}
use Rattle.rule_layout.specs.{Sizes.IsSizeOfRule}
use Rattle.rule_layout.proofs.{SpreadLemmas.entries_le, SizeLemmas.small_from}

entries_bound : (e m n k : ℕ) → e ≤ m * n → n + k ≤ 1048576 → e + m * (k + 2) ≤ m * 2097152
entries_bound e m n k h few =
    let wide : m * (n + (k + 2)) ≤ m * 2097152 = mul-le-mul_left m (omega arith) in
    omega (arith, wide)

rule_entries_le : (r : Rule) → IsCountable r → rule_entries r ≤ length (rule_spread r) * 2097152
rule_entries_le r h =
    entries_bound (total_length (rule_spread r)) (length (rule_spread r)) (nodes r.cond) (length r.concl)
    (entries_le false r.cond) h.few

pub entry_count_le : (rules : List Rule) → All IsCountable rules → entry_count rules ≤ conjunction_count rules * 2097152
entry_count_le [] h = omega arith
entry_count_le (r ∷ rs) h =
    let here = rule_entries_le r (All-head IsCountable r rs h) in
    let later = entry_count_le rs (All-tail IsCountable r rs h) in
    let entries = sum_by-cons rule_entries r rs in
    let counts = sum_by-cons (λ (q : Rule). length (rule_spread q)) r rs in
    omega (arith, here, later, entries, counts)

All-take : {X : Type 0} (P : X → Type 0) (xs : List X) (i : ℕ) → All P xs → All P (take i xs)
All-take P xs i h = λ k d lt.
    let inside : k < i = omega (arith, lt, length-take i xs) in
    subst P (sym (get_or-take i xs k d inside)) (h k d (omega (arith, lt, length-take i xs)))

pub rules_small : (rules : List Rule) (i : ℕ) (t : Size) → All IsCountable rules → IsSizeOfRules (take i rules) (Ok t)
    → IsSmall t
rules_small rules i t h k =
    small_from _ _ t 2097152 (entry_count_le (take i rules) (All-take IsCountable rules i h)) (omega arith) k

pub rule_small : (r : Rule) (s : Size) → IsCountable r → IsSizeOfRule r (Some s) → IsSmall s
rule_small r s h k = small_from _ _ s 2097152 (rule_entries_le r h) (omega arith) k

pub replicate_as_map : {X : Type 0} (w n : ℕ) (xs : List X) → n ≡ length xs → replicate n w ≡ map (λ _. w) xs
replicate_as_map w n [] e = rw e refl
replicate_as_map w n (x ∷ xs) e = rw e (ap (λ (ws : List ℕ). w ∷ ws) (replicate_as_map w (length xs) xs refl))

-- one rule's part of a list more
pub flat_map_step : {X A : Type 0} (f : X → List A) (xs : List X) (i : ℕ) (x : X) (front back : List A) → i < length xs
    → x ≡ get_or xs i x →
    front ≡ flat_map f (take i xs) → back ≡ front ++ f x → back ≡ flat_map f (take (i + 1) xs)
flat_map_step f xs i x front back lt here before more =
    more ∙ (ap (λ w. w ++ f x) before
    ∙ (flat_map_more f [] (take i xs) x
    ∙ ap (flat_map f) (ap (λ y. take i xs ++ y ∷ []) here ∙ sym (take_more xs i x lt))))

with_conclusions-map : (table concl : List ℕ) (r : Rule) (cs : List (List Literal))
    → concl ≡ map (λ p. table_number table (out_slot p)) r.concl →
    map (with_conclusions concl) (table_literals table cs) ≡ map (table_conjunction table r) cs
with_conclusions-map table concl r [] e = refl
with_conclusions-map table concl r (c ∷ cs) e =
    ap₂ (λ (w : List ℕ) (v : List Conjunction). with_conclusions w (map (table_literal table) c) ∷ v) e
    (with_conclusions-map table concl r cs e)

pub table_conjunctions_made : (table : List ℕ) (r : Rule) (spread : List (List ℕ)) (concl : List ℕ)
    → spread ≡ table_literals table (rule_spread r) → concl ≡ map (λ p. table_number table (out_slot p)) r.concl →
    map (with_conclusions concl) spread ≡ table_conjunctions table r
table_conjunctions_made table r spread concl e k =
    ap (map (with_conclusions concl)) e ∙ with_conclusions-map table concl r (rule_spread r) k
