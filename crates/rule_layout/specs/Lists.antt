-- The rule list: per conjunction its literals, a separator, its conclusions, and a separator, or
-- the end mark after the last (CPU12 Reference Manual, REV and REVW).
-- Beside the promise.
use Rattle.std.specs.Prelude.{ℕ, ◌+◌, List, [], ◌∷◌, ◌++◌, map}
use Rattle.rule_layout.specs.declared.flat.Conjunction.{Conjunction}

abbrev pub marked : ℕ → ℕ → List Conjunction → List ℕ
marked separator end_mark [] = []
marked separator end_mark (c ∷ []) = c.literals ++ separator ∷ (c.conclusions ++ end_mark ∷ [])
marked separator end_mark (c ∷ d ∷ cs) =
    c.literals ++ separator ∷ (c.conclusions ++ separator ∷ marked separator end_mark (d ∷ cs))

-- REV's list: a slot is its number
abbrev pub list_bytes : List Conjunction → List ℕ
list_bytes cs = marked 0xFE 0xFF cs

-- with the slots from an address on
abbrev pub at_address : ℕ → Conjunction → Conjunction
at_address base c = record {
  literals = map (λ n. base + n) c.literals;
  conclusions = map (λ n. base + n) c.conclusions;
}

-- REVW's list: a slot is its address
abbrev pub list_words : ℕ → List Conjunction → List ℕ
list_words base cs = marked 0xFFFE 0xFFFF (map (at_address base) cs)
