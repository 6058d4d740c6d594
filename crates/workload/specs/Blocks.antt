-- The block that is drawn: nine terms over each of two inputs, and a rule for each pair of them.
-- Beside the promise.
use Rattle.std.specs.Prelude.{ℕ, ◌+◌, ◌-◌, ◌*◌, ◌/◌, ◌%◌, ◌==◌, if◌then◌else◌, List, [], ◌∷◌, map, Some, None, pos}
use Rattle.std.specs.List.{range_with_len}
use Rattle.fz_num.specs.declared.dec.Dec.{Dec}
use Rattle.fuzzy_meaning.specs.Conditions.{is, all, also, end}
use Rattle.fuzzy_meaning.specs.declared.{block.Block.Block, block.Input.Input, block.Output.Output, block.Rule.Rule}
use Rattle.fuzzy_meaning.specs.declared.block.Trapezoid.{Trapezoid}

-- a whole number
abbrev pub whole : ℕ → Dec
whole n = record { 0 = pos (n * 10000) }

-- the terms rise and fall over 32; the first and the last have one side
abbrev pub term_number : ℕ → Trapezoid
term_number j = record {
  a = if j == 0 then None else Some (whole (32 * j - 32));
  b = whole (32 * j);
  c = whole (32 * j);
  d = if j == 8 then None else Some (whole (32 * j + 32));
}

abbrev pub drawn_input : Input
drawn_input = record { lo = whole 0; hi = whole 256; terms = map term_number (0 ∷ 1 ∷ 2 ∷ 3 ∷ 4 ∷ 5 ∷ 6 ∷ 7 ∷ 8 ∷ []) }

abbrev pub drawn_output : Output
drawn_output = record {
  lo = whole 0;
  hi = whole 100;
  singletons = map whole (0 ∷ 25 ∷ 50 ∷ 75 ∷ 100 ∷ []);
  default = Some (whole 0);
}

-- rule number n, from 0, under a shift: where x is term n / 9 and y is term n % 9
abbrev pub drawn_rule : ℕ → ℕ → Rule
drawn_rule shift n = record {
  cond = all (also (is 1 (n / 9 + 1)) (also (is 2 (n % 9 + 1)) end));
  weight = None;
  concl = (1, (n / 9 + 2 * (n % 9) + shift) % 5 + 1) ∷ [];
}

unfoldable pub drawn_rules : ℕ → List Rule
drawn_rules shift = map (drawn_rule shift) (range_with_len 0 81)

abbrev pub drawn_block : ℕ → Block
drawn_block shift = record {
  inputs = drawn_input ∷ drawn_input ∷ [];
  outputs = drawn_output ∷ [];
  rules = drawn_rules shift;
}
