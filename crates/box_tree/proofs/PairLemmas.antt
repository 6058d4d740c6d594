-- The pairs of a leaf's numbers.
use Rattle.std.proofs.Common.{◌≡◌, ◌<◌, ◌+◌, ◌*◌, ℕ, zero, suc, List, [], ◌∷◌, ◌++◌, length, All, take, get_or, refl}
use Rattle.std.proofs.Common.{sym, ◌∙◌, ap, subst, arith, append_assoc, add-one}
use Rattle.std.proofs.Math.Seq.{take-suc}
use Rattle.std.proofs.lemmas.List.Elements.{All-append, All-cons, All-nil}
use Rattle.box_tree.specs.{Certificates.IsPair, Texts.pair_numbers}

pub pair_numbers-snoc : (pairs : List (ℕ × ℕ)) (rule part : ℕ)
    → pair_numbers (pairs ++ (rule, part) ∷ []) ≡ pair_numbers pairs ++ rule ∷ part ∷ []
pair_numbers-snoc [] rule part = refl
pair_numbers-snoc (p ∷ pairs) rule part = ap (λ (t : List ℕ). p.0 ∷ p.1 ∷ t) (pair_numbers-snoc pairs rule part)

pub length-pair_numbers : (pairs : List (ℕ × ℕ)) → length (pair_numbers pairs) ≡ 2 * length pairs
length-pair_numbers [] = refl
length-pair_numbers (p ∷ pairs) = omega (arith, length-pair_numbers pairs)

pub pairs_are_one : (pairs others : List (ℕ × ℕ)) → pair_numbers pairs ≡ pair_numbers others → pairs ≡ others
pairs_are_one [] [] same = refl
pairs_are_one [] (q ∷ others) same = cc
pairs_are_one (p ∷ pairs) [] same = cc
pairs_are_one (p ∷ pairs) (q ∷ others) same =
    let tail : pair_numbers pairs ≡ pair_numbers others = cc in
    let first : p.0 ≡ q.0 = cc in
    let second : p.1 ≡ q.1 = cc in
    let head : (p.0, p.1) ≡ (q.0, q.1) = cc in
    ap (λ (l : List (ℕ × ℕ)). p ∷ l) (pairs_are_one pairs others tail) ∙ ap (λ (x : ℕ × ℕ). x ∷ others) head

pub rule_at : (pairs : List (ℕ × ℕ)) (i j : ℕ) (d : ℕ × ℕ) → i < length pairs → j ≡ 2 * i
    → get_or (pair_numbers pairs) j 0 ≡ (get_or pairs i d).0
rule_at [] i j d lt is = absurd (omega arith)
rule_at (p ∷ pairs) zero j d lt is = let e : j ≡ 0 = omega arith in
    ap (λ (k : ℕ). get_or (pair_numbers (p ∷ pairs)) k 0) e
rule_at (p ∷ pairs) (suc i) j d lt is = let e : j ≡ suc (suc (2 * i)) = omega arith in
    ap (λ (k : ℕ). get_or (pair_numbers (p ∷ pairs)) k 0) e ∙ rule_at pairs i (2 * i) d (omega arith) refl

pub part_at : (pairs : List (ℕ × ℕ)) (i j : ℕ) (d : ℕ × ℕ) → i < length pairs → j ≡ 2 * i + 1
    → get_or (pair_numbers pairs) j 0 ≡ (get_or pairs i d).1
part_at [] i j d lt is = absurd (omega arith)
part_at (p ∷ pairs) zero j d lt is = let e : j ≡ 1 = omega arith in
    ap (λ (k : ℕ). get_or (pair_numbers (p ∷ pairs)) k 0) e
part_at (p ∷ pairs) (suc i) j d lt is = let e : j ≡ suc (suc (2 * i + 1)) = omega arith in
    ap (λ (k : ℕ). get_or (pair_numbers (p ∷ pairs)) k 0) e ∙ part_at pairs i (2 * i + 1) d (omega arith) refl

-- the pair at i is that of the numbers at 2i and behind it
pub pair_there : (numbers : List ℕ) (pairs : List (ℕ × ℕ)) (i rule part : ℕ) → numbers ≡ pair_numbers pairs
    → All IsPair pairs → i < length pairs → rule ≡ get_or numbers (2 * i) 0 → part ≡ get_or numbers (2 * i + 1) 0
    → IsPair (rule, part)
pair_there numbers pairs i rule part same all lt rule_is part_is =
    let d : ℕ × ℕ = (0, 0) in
    let first : rule ≡ (get_or pairs i d).0 = rule_is ∙ ap (λ (l : List ℕ). get_or l (2 * i) 0) same
    ∙ rule_at pairs i (2 * i) d lt refl in
    let second : part ≡ (get_or pairs i d).1 = part_is ∙ ap (λ (l : List ℕ). get_or l (2 * i + 1) 0) same
    ∙ part_at pairs i (2 * i + 1) d lt refl in
    rw (first, second) (all i d lt)

take_two : (xs : List ℕ) (n m : ℕ) → m ≡ n + 2 → n + 1 < length xs
    → take m xs ≡ take n xs ++ get_or xs n 0 ∷ get_or xs (n + 1) 0 ∷ []
take_two xs n m is lt =
    let twice : m ≡ suc (n + 1) = omega arith in
    ap (λ (k : ℕ). take k xs) twice ∙ take-suc xs (n + 1) 0 lt
    ∙ ap (λ (l : List ℕ). l ++ get_or xs (n + 1) 0 ∷ [])
    (ap (λ (k : ℕ). take k xs) (add-one n) ∙ take-suc xs n 0 (omega arith))
    ∙ append_assoc (take n xs) (get_or xs n 0 ∷ []) (get_or xs (n + 1) 0 ∷ [])

pub pairs_so_far : (numbers : List ℕ) (pairs pairs' : List (ℕ × ℕ)) (i rule part : ℕ) → 2 * i + 1 < length numbers
    → pair_numbers pairs ≡ take (2 * i) numbers → rule ≡ get_or numbers (2 * i) 0 → part ≡ get_or numbers (2 * i + 1) 0
    → pairs' ≡ pairs ++ (rule, part) ∷ [] → pair_numbers pairs' ≡ take (2 * (i + 1)) numbers
pairs_so_far numbers pairs pairs' i rule part lt so_far rule_is part_is added =
    ap pair_numbers added ∙ pair_numbers-snoc pairs rule part ∙ ap (λ (l : List ℕ). l ++ rule ∷ part ∷ []) so_far
    ∙ ap (λ (r : ℕ). take (2 * i) numbers ++ r ∷ part ∷ []) rule_is
    ∙ ap (λ (p : ℕ). take (2 * i) numbers ++ get_or numbers (2 * i) 0 ∷ p ∷ []) part_is
    ∙ sym (take_two numbers (2 * i) (2 * (i + 1)) (omega arith) lt)

pub pairs_more : (pairs pairs' : List (ℕ × ℕ)) (rule part : ℕ) → All IsPair pairs → IsPair (rule, part)
    → pairs' ≡ pairs ++ (rule, part) ∷ [] → All IsPair pairs'
pairs_more pairs pairs' rule part all here added =
    subst (All IsPair) (sym added)
    (All-append IsPair pairs ((rule, part) ∷ []) all (All-cons IsPair (rule, part) [] here (All-nil IsPair)))
