-- The sizes of lists of conjunctions, part by part.
use Rattle.rule_layout.proofs.Words.{◌*◌, ◌+◌, ◌<◌, ◌≡◌, ◌≤◌, AllFitGrid, arith, Bool, Condition, conditions, false}
use Rattle.rule_layout.proofs.Words.{get_or, IsSizeOf, IsSmall, length, length-append, List, Literal, mul-le-mul_left}
use Rattle.rule_layout.proofs.Words.{None, Option, Size, Some, spread_of, spread_parts, spreads, subst, sym, take}
use Rattle.rule_layout.proofs.Words.{true, ℕ}
use Rattle.rule_layout.specs.{Sizes.IsSizeIfFew, Sizes.IsJoined}
use Rattle.rule_layout.proofs.ChoicesLemmas.{length-choices, total_length-append, total_length-choices}
use Rattle.rule_layout.proofs.SpreadLemmas.{spread_parts-take, take_le, part_le}

pub small_from : (conjunctions entries : ℕ) (s : Size) (n : ℕ) → entries ≤ conjunctions * n → n ≤ 2097152
    → IsSizeIfFew conjunctions entries (Some s) → IsSmall s
small_from conjunctions entries s n short few h = let wide = mul-le-mul_left conjunctions few in record {
  few = omega (arith, h.0, h.1);
  short = omega (arith, h.1, h.2, short, wide);
}

joined_size : (any : Bool) (xs ys : List (List Literal)) (s t : Size) (r : Option Size) → IsSizeOf xs (Some s)
    → IsSizeOf ys (Some t) → IsJoined any s t r → IsSizeOf (spreads.join any xs ys) r
joined_size true xs ys s t r h k sum =
    rw (length-append xs ys, total_length-append xs ys, ← h.1, ← h.2, ← k.1, ← k.2) sum
joined_size false xs ys s t r h k product =
    rw (length-choices xs ys, total_length-choices xs ys, ← h.1, ← h.2, ← k.1, ← k.2) product

module _ (cs : List Condition) (i : ℕ) (p : Condition) (lt : i < length cs) (same : p ≡ get_or cs i p)
    (odd any : Bool) where
  pub size_over_by_part : AllFitGrid (conditions cs) → IsSizeOf (spread_of odd p) None
      → IsSizeOf (spread_parts odd any (conditions cs)) None
  size_over_by_part fits over = omega (arith, over, part_le odd any cs i p fits lt same)

  module _ (s t : Size) (h : IsSizeOf (spread_parts odd any (conditions (take i cs))) (Some s))
      (k : IsSizeOf (spread_of odd p) (Some t)) where
    pub size_more : (r : Option Size) → IsJoined any s t r
        → IsSizeOf (spread_parts odd any (conditions (take (i + 1) cs))) r
    size_more r joined = subst (λ (xs : List (List Literal)). IsSizeOf xs r)
        (sym (spread_parts-take odd any cs i p lt same)) (joined_size any _ _ s t r h k joined)

    pub size_over_by_join : AllFitGrid (conditions cs) → IsJoined any s t None
        → IsSizeOf (spread_parts odd any (conditions cs)) None
    size_over_by_join fits over = omega (arith, size_more None over, take_le odd any cs (i + 1) fits)
