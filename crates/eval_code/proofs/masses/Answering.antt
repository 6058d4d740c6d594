-- The outputs' numbers are the answers.
use Rattle.eval_code.proofs.Words.{[], ◌*◌, ◌++◌, ◌+◌, ◌-◌, ◌<◌, ◌∙◌, ◌∷◌, ◌≡◌, answer, ap, append_assoc, ap₂, arith}
use Rattle.eval_code.proofs.Words.{Block, byte_mass, Dec, dot, drop, get_or, length, length-append, length-map}
use Rattle.eval_code.proofs.Words.{length-range_with_len, List, map, map-append, nearest_byte, None, Option}
use Rattle.eval_code.proofs.Words.{option_map, option_map_or, Output, output_terms, parts, range_with_len, refl}
use Rattle.eval_code.proofs.Words.{singleton_count, slice_get, Some, suc, sum_by-cons, sym, take, take_at, terms_from}
use Rattle.eval_code.proofs.Words.{total, Width, zero, ℕ}
use Rattle.point_slope.specs.Bytes.{ByteShare, byte_shares_from, total_mass, weighted_sum, byte_shares}
use Rattle.std.proofs.{Common.drop_at}
use Rattle.point_slope.specs.Bytes.{centre, resting_answer}
use Rattle.eval_code.proofs.{phases.SlotValues.slice_get_behind, phases.Quotients.quotient_of}
use Rattle.eval_code.proofs.phases.Outputs.{output_answer, output_answers}

-- the sums over an output's terms
abbrev masses_from : Block → List ℕ → ℕ → ℕ → List Dec → List ℕ
masses_from b bytes i t us = map (λ k. byte_mass b bytes i k) (range_with_len t (length us))

pub sums_are : (b : Block) (bytes : List ℕ) (i : ℕ) (x : Output) (t : ℕ) (us : List Dec)
    → (total (masses_from b bytes i t us) ≡ total_mass (byte_shares_from b bytes i x t us))
    × (dot (map (nearest_byte x) us) (masses_from b bytes i t us) ≡ weighted_sum (byte_shares_from b bytes i x t us))
sums_are b bytes i x t [] = (refl, refl)
sums_are b bytes i x t (u ∷ us) =
    let s : ByteShare = record { byte = nearest_byte x u; mass = byte_mass b bytes i t } in
    let rest = byte_shares_from b bytes i x (t + 1) us in
    let sums = sums_are b bytes i x (t + 1) us in (
      omega (arith, sums.0, sum_by-cons (λ (s : ByteShare). s.mass) s rest),
      omega (arith, sums.1, sum_by-cons (λ (s : ByteShare). s.byte * s.mass) s rest),
    )

-- one output's byte from the masses of its terms
abbrev pub own_masses : Block → List ℕ → ℕ → Output → List ℕ
own_masses b bytes i x = map (λ t. byte_mass b bytes i t) (range_with_len 1 (length x.singletons))

pub map_pairs : (f : ℕ × ℕ → ℕ) (i : ℕ) (ts : List ℕ) → map f (map (λ t. (i, t)) ts) ≡ map (λ t. f (i, t)) ts
map_pairs f i [] = refl
map_pairs f i (t ∷ ts) = ap (λ vs. f (i, t) ∷ vs) (map_pairs f i ts)

abbrev pub mass_of : Block → List ℕ → ℕ × ℕ → ℕ
mass_of b bytes p = byte_mass b bytes p.0 p.1

-- one output's answer from the masses of its terms
rests : (h : ℕ) (x : Output) (d : Option Dec) (before : ℕ)
    → option_map_or (λ k. h * k) (option_map (nearest_byte x) d) before ≡ option_map_or
    (λ k. h * nearest_byte x k) d before
rests h x None before = refl
rests h x (Some d) before = refl

answer_is : (w : Width) (b : Block) (bytes : List ℕ) (i : ℕ) (x : Output) (before : ℕ)
    → output_answer w x (own_masses b bytes i x) before ≡ centre (parts w) (byte_shares b bytes i x)
    (resting_answer (parts w) x before)
answer_is w b bytes i x before =
    let sums = sums_are b bytes i x 1 x.singletons in
    ap₂ (λ (m n : ℕ). quotient_of w m n (option_map (nearest_byte x) x.default) before) sums.0 sums.1
    ∙ ap (λ (k : ℕ). centre (parts w) (byte_shares b bytes i x) k) (rests (parts w) x x.default before)

-- output by output
answers_from : (w : Width) (b : Block) (bytes bs : List ℕ) (front os : List Output) (i : ℕ) → b.outputs ≡ front ++ os
    → i ≡ length front + 1 → length bs ≡ length os
    → (k : ℕ) → k < length os
    → get_or (output_answers w os (map (mass_of b bytes) (terms_from i (map singleton_count os))) bs) k 0
    ≡ answer w b (i + k) bytes (get_or bs k 0)
answers_from w b bytes bs front [] i e en el k lt = absurd (omega arith)
answers_from w b bytes [] front (x ∷ os) i e en el k lt = absurd (omega arith)
answers_from w b bytes (v ∷ bs) front (x ∷ os) i e en el k lt =
    by_place k lt (λ j lj. answers_from w b bytes bs (front ++ x ∷ []) os (i + 1)
    (e ∙ sym (append_assoc front (x ∷ []) os)) (omega (arith, length-append front (x ∷ []))) (omega arith) j lj)
  where
    rest : List ℕ
    rest = map (mass_of b bytes) (terms_from (i + 1) (map singleton_count os))

    own : List ℕ
    own = own_masses b bytes i x

    cut : map (mass_of b bytes) (terms_from i (map singleton_count (x ∷ os))) ≡ own_masses b bytes i x
        ++ map (mass_of b bytes) (terms_from (i + 1) (map singleton_count os))
    cut =
        map-append (mass_of b bytes) (map (λ t. (i, t)) (range_with_len 1 (length x.singletons)))
        (terms_from (i + 1) (map singleton_count os))
        ∙ ap (λ l. l ++ map (mass_of b bytes) (terms_from (i + 1) (map singleton_count os)))
        (map_pairs (mass_of b bytes) i (range_with_len 1 (length x.singletons)))

    size : length (own_masses b bytes i x) ≡ length x.singletons
    size = length-map (range_with_len 1 (length x.singletons)) (λ t. byte_mass b bytes i t)
        ∙ length-range_with_len 1 (length x.singletons)

    found : slice_get b.outputs (i - 1) ≡ Some x
    found = let k : i - 1 ≡ length front = omega arith in ap₂ (λ (l : List Output) (n : ℕ). slice_get l n) e k
        ∙ slice_get_behind front x os

    by_place : (k : ℕ) → k < length (x ∷ os)
        → ((j : ℕ) → j < length os
        → get_or (output_answers w os (map (mass_of b bytes) (terms_from (i + 1) (map singleton_count os))) bs) j 0
        ≡ answer w b (i + 1 + j) bytes (get_or bs j 0))
        → get_or (output_answers w (x ∷ os) (map (mass_of b bytes) (terms_from i (map singleton_count (x ∷ os))))
        (v ∷ bs)) k 0 ≡ answer w b (i + k) bytes (get_or (v ∷ bs) k 0)
    by_place zero lt go =
        let n = length x.singletons in
        let t : take n (map (mass_of b bytes) (terms_from i (map singleton_count (x ∷ os)))) ≡ own_masses b bytes i x =
        ap (take n) cut ∙ take_at (own_masses b bytes i x) _ n size in
        let z : i + 0 ≡ i = omega arith in
        ap (λ l. output_answer w x l v) t ∙ answer_is w b bytes i x v
        ∙ sym
        (ap (λ (o : Option Output). option_map_or
        (λ (y : Output). centre (parts w) (byte_shares b bytes i y) (resting_answer (parts w) y v)) o v) found)
        ∙ ap (λ o. answer w b o bytes v) (sym z)
    by_place (suc j) lt go =
        let n = length x.singletons in
        let d : drop n (map (mass_of b bytes) (terms_from i (map singleton_count (x ∷ os)))) ≡ map (mass_of b bytes)
        (terms_from (i + 1) (map singleton_count os)) =
        ap (drop n) cut ∙ drop_at (own_masses b bytes i x) _ n size in
        let z : i + 1 + j ≡ i + suc j = omega arith in
        ap (λ l. get_or (output_answers w os l bs) j 0) d ∙ go j (omega arith)
        ∙ ap (λ o. answer w b o bytes (get_or bs j 0)) z

-- the bytes of all outputs
pub answers_are : (w : Width) (b : Block) (bytes bs : List ℕ) → length bs ≡ length b.outputs → (k : ℕ)
    → k < length b.outputs
    → get_or (output_answers w b.outputs (map (mass_of b bytes) (output_terms b)) bs) k 0 ≡ answer w b (1 + k) bytes
    (get_or bs k 0)
answers_are w b bytes bs el k lt = answers_from w b bytes bs [] b.outputs 1 refl refl el k lt
