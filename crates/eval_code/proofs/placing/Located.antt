-- A block's items give bytes at their parts alone.
use Rattle.eval_code.proofs.Words.{◌++◌, ◌+◌, ◌∙◌, ◌∷◌, ◌≡◌, ◌≢◌, ◌⊎◌, ap, block_code, Byte, byte_at, byte_at-append}
use Rattle.eval_code.proofs.Words.{byte_at-placed, bytes_at, cases_lt, code_bytes, given_by, given_from, inl, inr}
use Rattle.eval_code.proofs.Words.{Instr, Item, length, List, map, None, Op, or_else, Place, placed, rule_bytes}
use Rattle.eval_code.proofs.Words.{singleton_bytes, table_bytes, weight_bytes, ℕ}
use Rattle.eval_code.specs.Placed.{IsWithin, BlockGivesAtParts}
use Rattle.eval_code.proofs.Joins.{block_then, block_items-then}
use Rattle.eval_code.proofs.placing.Standing.{given_bytes, given_code, none_placed_below}

-- a byte of those that are placed, or of those behind
placed_or_behind : (q p : ℕ) (bs : List ℕ) (rest : List (ℕ × ℕ)) → byte_at (placed p bs ++ rest) q ≢ None
    → IsWithin q p (length bs) ⊎ (byte_at rest q ≢ None)
placed_or_behind q p bs rest h = elim (cases_lt q p) [
  | inl below ↦ inr (behind (none_placed_below p q bs below))
  | inr from ↦ elim (cases_lt q (p + length bs)) [
    | inl lt ↦ inl (from, lt)
    | inr over ↦ inr (behind (byte_at-placed p q bs over))
  ]
]
  where
    behind : byte_at (placed p bs) q ≡ None → byte_at rest q ≢ None
    behind none e = h (byte_at-append q (placed p bs) rest ∙ ap (λ o. or_else o (byte_at rest q)) none ∙ e)

-- of a part in bytes, or of the items behind
found_in : (q p : ℕ) (bs : List ℕ) (rest : List Item) → byte_at (given_from p (map Byte bs ++ rest)) q ≢ None
    → IsWithin q p (length bs) ⊎ (byte_at (given_from (p + length bs) rest) q ≢ None)
found_in q p bs rest h =
    placed_or_behind q p bs (given_from (p + length bs) rest)
    (λ e. h (ap (λ (l : List (ℕ × ℕ)). byte_at l q) (given_bytes p bs rest) ∙ e))

-- of code, or of the items behind
found_in_code : (q p : ℕ) (code : List Instr) (rest : List Item)
    → byte_at (given_from p (map Op code ++ rest)) q ≢ None
    → IsWithin q p (length (code_bytes code)) ⊎ (byte_at (given_from (p + length (code_bytes code)) rest) q ≢ None)
found_in_code q p code rest h =
    placed_or_behind q p (code_bytes code) (given_from (p + length (code_bytes code)) rest)
    (λ e. h (ap (λ (l : List (ℕ × ℕ)). byte_at l q) (given_code p code rest) ∙ e))

pub gives_at_parts : BlockGivesAtParts
gives_at_parts l b w before behind more p q h =
    let V = Place p ∷ more in
    let R = bytes_at l.rules (rule_bytes l.slots b) ++ V in
    let W = bytes_at l.weights (weight_bytes b) ++ R in
    let S = bytes_at l.singletons (singleton_bytes b) ++ W in
    let T = bytes_at l.tables (table_bytes b) ++ S in
    let all : byte_at (given_by (block_then l b w before behind V)) q ≢ None =
    λ e. h (ap (λ (xs : List Item). byte_at (given_by xs) q) (block_items-then l b w before behind V) ∙ e) in
    elim (found_in_code q l.code (block_code l b w before behind) T all) [
      | inl i ↦ inl i
      | inr t ↦ elim (found_in q l.tables (table_bytes b) S t) [
        | inl i ↦ inr (inl i)
        | inr s ↦ elim (found_in q l.singletons (singleton_bytes b) W s) [
          | inl i ↦ inr (inr (inl i))
          | inr v ↦ elim (found_in q l.weights (weight_bytes b) R v) [
            | inl i ↦ inr (inr (inr (inl i)))
            | inr r ↦ inr (inr (inr (inr (found_in q l.rules (rule_bytes l.slots b) V r))))
          ]
        ]
      ]
    ]
