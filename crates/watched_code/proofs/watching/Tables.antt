-- The segments of a block's image: where they lie, and that they stand.
use Rattle.watched_code.proofs.Words.{[], ◌++◌, ◌+◌, ◌∷◌, ◌≡◌, ◌≤◌, AgreeFrom, ap₂, arith, Block, RuleInstruction, instruction_of}
use Rattle.watched_code.proofs.Words.{HasBytes, HasParts, length, List, main_map, refl, rule_bytes, Segment, segment}
use Rattle.watched_code.proofs.Words.{segment_bound, segments_of, singleton_bytes, stack_end, suc, sum_by}
use Rattle.watched_code.proofs.Words.{sum_by-cons, table_bytes, weight_bytes_by, weight_segments, weights_of, zero, ℕ}
use Rattle.eval_code.specs.{Data.weight_bytes}
use Rattle.rule_layout.specs.declared.flat.RuleInstruction.TheVariants as instruction
use Rattle.watched_code.proofs.watching.Adding.{AreSegments, sum_from, sum_in, count_in}
use Rattle.watched_code.proofs.watching.Segments.{Apart, Stand}

-- the segments behind the singletons
later_segments : (f : RuleInstruction) (ws rs : List ℕ) → 1 ≤ length ws → length ws ≤ 512 → 1 ≤ length rs → length rs ≤ 9984
    → AreSegments (weight_segments 0xD300 f ws ++ segment 0xD800 rs ∷ [])
later_segments instruction.Rev ws rs a b c d = ((omega arith, c, omega arith), tt)
later_segments instruction.Revw ws rs a b c d = ((omega arith, a, omega arith), ((omega arith, c, omega arith), tt))

later_apart : (f : RuleInstruction) (from : ℕ) (ws rs : List ℕ) → from ≤ 0xD300 → length ws ≤ 512
    → Apart from (weight_segments 0xD300 f ws ++ segment 0xD800 rs ∷ [])
later_apart instruction.Rev from ws rs le b = (omega arith, tt)
later_apart instruction.Revw from ws rs le b = (omega arith, (omega arith, tt))

later_stand : (m : List ℕ) (f : RuleInstruction) (ws rs : List ℕ) → HasBytes m 0xD300 (weight_bytes_by f ws) → HasBytes m 0xD800 rs
    → Stand m (weight_segments 0xD300 f ws ++ segment 0xD800 rs ∷ [])
later_stand m instruction.Rev ws rs h k = (k, tt)
later_stand m instruction.Revw ws rs h k = (h, (k, tt))

later_few : (f : RuleInstruction) (ws rs : List ℕ) → length (weight_segments 0xD300 f ws ++ segment 0xD800 rs ∷ []) ≤ 2
later_few instruction.Rev ws rs = omega arith
later_few instruction.Revw ws rs = omega arith

module _ (b : Block) (h : HasParts main_map b) where
  pub are_segments : AreSegments (segments_of main_map b)
  are_segments =
      let t = h.tables in
      let s = h.singletons in (
        (omega arith, t.0, omega arith),
        (
          (omega arith, s.0, omega arith),
          later_segments (instruction_of b) (weights_of b) (rule_bytes 0x1100 b) h.weights.0 h.weights.1 h.rules.0 h.rules.1,
        ),
      )

  pub are_apart : Apart 0x2000 (segments_of main_map b)
  are_apart = let t = h.tables in let s = h.singletons in (
    omega arith,
    (
      omega arith,
      later_apart (instruction_of b) (0xD200 + length (singleton_bytes b)) (weights_of b) (rule_bytes 0x1100 b)
          (omega arith) h.weights.1,
    ),
  )

pub are_few : (b : Block) → length (segments_of main_map b) ≤ 4
are_few b = let n = later_few (instruction_of b) (weights_of b) (rule_bytes 0x1100 b) in omega arith

pub stand : (m : List ℕ) (b : Block) → HasBytes m 0xD000 (table_bytes b) → HasBytes m 0xD200 (singleton_bytes b)
    → HasBytes m 0xD300 (weight_bytes b) → HasBytes m 0xD800 (rule_bytes 0x1100 b)
    → Stand m (segments_of main_map b)
stand m b t s w r = (t, (s, later_stand m (instruction_of b) (weights_of b) (rule_bytes 0x1100 b) w r))

-- what they take
pub counted : (gs : List Segment) → count_in gs ≡ sum_by segment_bound gs
counted [] = refl
counted (g ∷ gs) = let rest = counted gs in let more = sum_by-cons segment_bound g gs in omega arith

-- memories that agree from $2000 on have one sum
sum_from_high : (m n : List ℕ) (at k : ℕ) → AgreeFrom stack_end m n → 0x2000 ≤ at → sum_from n at k ≡ sum_from m at k
sum_from_high m n at zero h le = refl
sum_from_high m n at (suc k) h le = ap₂ (λ (x y : ℕ). x + y) (h at le) (sum_from_high m n (at + 1) k h (omega arith))

pub sum_high : (m n : List ℕ) (gs : List Segment) → AgreeFrom stack_end m n → AreSegments gs → sum_in n gs ≡ sum_in m gs
sum_high m n [] h are = refl
sum_high m n (g ∷ gs) h are =
    ap₂ (λ (x y : ℕ). x + y) (sum_from_high m n g.at (length g.bytes) h are.0.0) (sum_high m n gs h are.1)
