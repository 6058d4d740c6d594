-- Which pages have a place after writes.
use Rattle.std.proofs.Common.{arith, ◌≡◌, ◌<◌, ◌/◌, ℕ, Bool, true, false, cond, List, [], ◌∷◌, length, get_or, set}
use Rattle.std.proofs.Common.{replicate, refl, sym, ap, ◌∙◌, inl, inr}
use Rattle.std.specs.Prelude.{not, ◌==◌, ◌&&◌, ◌||◌, count_by, map, sum}
use Rattle.std.specs.List.{range_with_len}
use Rattle.std.proofs.Math.Bool.{or_assoc, or-false, or-true}
use Rattle.std.proofs.lemmas.Bool.{cases_eq, eq-eqb, ne_eqb}
use Rattle.std.proofs.lemmas.List.{get_or-replicate, get_or-set_same, get_or-set_other, length-set}
use Rattle.std.proofs.lemmas.List.FromFn.{fill_by_all}
use Rattle.std.proofs.lemmas.List.Sums.{sum-map}
use Rattle.std.proofs.lemmas.Simd.{map-map}
use Rattle.cpu12_isa.specs.Pages.{given_with, given_after, is_page_written, GivenAreWritten}

length_given_with : (given : List Bool) (at v : ℕ) → length (given_with given at v) ≡ length given
length_given_with given at v =
    elim (v == 0) as (λ b. length (cond b given (set given (at / 256) true)) ≡ length given) [
      | true ↦ refl
      | false ↦ length-set given (at / 256) true
    ]

length_given_after : (ws : List (ℕ × ℕ)) (given : List Bool) → length (given_after ws given) ≡ length given
length_given_after [] given = refl
length_given_after (w ∷ ws) given =
    length_given_after ws (given_with given w.0 w.1) ∙ length_given_with given w.0 w.1

at_given_with : (given : List Bool) (at v page : ℕ) → page < length given
    → get_or (given_with given at v) page false
    ≡ (get_or given page false || (not (v == 0) && (at / 256 == page)))
at_given_with given at v page l =
    elim (v == 0) as (λ b. get_or (cond b given (set given (at / 256) true)) page false
    ≡ (get_or given page false || (not b && (at / 256 == page)))) [
      | true ↦ sym (or-false (get_or given page false))
      | false ↦ elim (cases_eq (at / 256) page) [
        | inl e ↦
            rw (eq-eqb (at / 256) page e, or-true) (ap (λ (n : ℕ). get_or (set given n true) page false) e
            ∙ get_or-set_same given page true false l)
        | inr other ↦
            rw (ne_eqb (at / 256) page other, or-false)
            (get_or-set_other given (at / 256) page true false (λ e. other (sym e)))
      ]
    ]

at_given_after : (ws : List (ℕ × ℕ)) (given : List Bool) (page : ℕ) → page < length given
    → get_or (given_after ws given) page false ≡ (get_or given page false || is_page_written ws page)
at_given_after [] given page l = sym (or-false (get_or given page false))
at_given_after (w ∷ ws) given page l =
    at_given_after ws (given_with given w.0 w.1) page (omega (arith, length_given_with given w.0 w.1))
    ∙ ap (λ b. b || is_page_written ws page) (at_given_with given w.0 w.1 page l)
    ∙ or_assoc (get_or given page false) (not (w.1 == 0) && (w.0 / 256 == page)) (is_page_written ws page)

count_by-map : (f : ℕ → Bool) (ns : List ℕ) → count_by (λ b. b) (map f ns) ≡ count_by f ns
count_by-map f ns =
    sym (sum-map (λ (b : Bool). cond b 1 0) (map f ns)) ∙ ap sum (map-map (λ (b : Bool). cond b 1 0) f ns)
    ∙ sum-map (λ (n : ℕ). cond (f n) 1 0) ns

pub given_are_written : GivenAreWritten
given_are_written ws =
    let given = given_after ws (replicate 256 false) in
    let all : given ≡ map (is_page_written ws) (range_with_len 0 256) =
    fill_by_all (is_page_written ws) given 256 false (length_given_after ws (replicate 256 false))
    (λ page l.
    at_given_after ws (replicate 256 false) page l
    ∙ ap (λ b. b || is_page_written ws page) (get_or-replicate 256 page false false l)) in
    ap (count_by (λ (b : Bool). b)) all ∙ count_by-map (is_page_written ws) (range_with_len 0 256)
