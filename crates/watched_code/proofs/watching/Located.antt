-- Where the bytes of an image lie from the tables on: in its segments.
use Rattle.watched_code.proofs.Words.{[], ◌++◌, ◌+◌, ◌<◌, ◌∷◌, ◌≡◌, ◌≢◌, ◌≤◌, arith, Block, block_code, block_items}
use Rattle.watched_code.proofs.Words.{BlockGivesAtParts, bytes_of_word, code_bytes, false, RuleInstruction, instruction_of, given_by}
use Rattle.watched_code.proofs.Words.{inl, inr, Instr, length, List, map, MemoryMap, nat_tests, refl, rule_bytes}
use Rattle.watched_code.proofs.Words.{Segment, segment, segments_of, vector_items, weight_bytes_by, weight_segments}
use Rattle.watched_code.proofs.Words.{weights_of, ℕ}
use Rattle.std.proofs.{Common.None}
use Rattle.cpu12_asm.specs.{declared.items.Item.TheVariants.Byte, Bytes.byte_at}
use Rattle.eval_code.specs.{Items.bytes_at}
use Rattle.std.proofs.Common.{nat_cmp}
use Rattle.std.specs.BTreeMap.{is_at}
use Rattle.rule_layout.specs.declared.flat.RuleInstruction.TheVariants as instruction
use Rattle.byte_scaling.specs.declared.width.Width.{Width}
use Rattle.watched_code.proofs.watching.Segments.{Within, In}

-- nothing below the vectors is one of their bytes
no_vector : (q : ℕ) (l : MemoryMap) → q < 0xFFF2 → byte_at (given_by (vector_items l)) q ≡ None
no_vector q l lt =
    let a : is_at (nat_cmp q) 0xFFF2 ≡ false = grind (arith, nat_tests) in
    let b : is_at (nat_cmp q) 0xFFF3 ≡ false = grind (arith, nat_tests) in
    let c : is_at (nat_cmp q) 0xFFFE ≡ false = grind (arith, nat_tests) in
    let d : is_at (nat_cmp q) 0xFFFF ≡ false = grind (arith, nat_tests) in
    rw (a, b, c, d) refl

-- the segments behind the singletons
abbrev later : MemoryMap → Block → RuleInstruction → List Segment
later l b f = weight_segments l.weights f (weights_of b) ++ segment l.rules (rule_bytes l.slots b) ∷ []

in_rules : (q : ℕ) (l : MemoryMap) (b : Block) (f : RuleInstruction) → Within q (segment l.rules (rule_bytes l.slots b))
    → In q (later l b f)
in_rules q l b instruction.Rev i = inl i
in_rules q l b instruction.Revw i = inr (inl i)

in_weights : (q : ℕ) (l : MemoryMap) (b : Block) (f : RuleInstruction) → l.weights ≤ q
    → q < l.weights + length (weight_bytes_by f (weights_of b)) → In q (later l b f)
in_weights q l b instruction.Rev lo hi = absurd (omega arith)
in_weights q l b instruction.Revw lo hi = inl (lo, hi)

pub located : BlockGivesAtParts → (q : ℕ) (l : MemoryMap) (b : Block) (w : Width) (before behind : List Instr)
    → l.code + length (code_bytes (block_code l b w before behind)) ≤ q → q < 0xFFF2
    → byte_at (given_by (block_items l b w before behind ++ vector_items l)) q ≢ None → In q (segments_of l b)
located at_parts q l b w before behind le lt h =
    let more = bytes_at 0xFFFE (bytes_of_word l.code) in
    elim (at_parts l b w before behind (map Byte (bytes_of_word l.interrupt) ++ more) 0xFFF2 q h) [
      | inl code ↦ absurd (omega (arith, code.1))
      | inr (inl i) ↦ inl i
      | inr (inr (inl i)) ↦ inr (inl i)
      | inr (inr (inr (inl i))) ↦ inr (inr (in_weights q l b (instruction_of b) i.0 i.1))
      | inr (inr (inr (inr (inl i)))) ↦ inr (inr (in_rules q l b (instruction_of b) i))
      | inr (inr (inr (inr (inr vector)))) ↦ absurd (vector (no_vector q l lt))
    ]
