-- What the calls that make the image rest on.
use Rattle.watched_code.proofs.Words.{[], ◌++◌, ◌+◌, ◌<◌, ◌∙◌, ◌∷◌, ◌≡◌, ◌≤◌, All, All-cons, All-nil, ap, ap₂}
use Rattle.watched_code.proofs.Words.{AreSegments, arith, Block, Byte, code_length, RuleInstruction, instruction_of, get_or, HasParts}
use Rattle.watched_code.proofs.Words.{Instr, instruction_bound, IsSegment, IsValid, length, List, main_map, MemoryMap}
use Rattle.watched_code.proofs.Words.{Output, rule_bytes, Segment, segment, segment_bound, segments_of}
use Rattle.watched_code.proofs.Words.{singleton_bytes, subst, suc, sum_by, sym, table_bytes, watched_bound}
use Rattle.watched_code.proofs.Words.{watched_front, watched_front_over, weight_segments, weights_of, zero, ℕ}
use Rattle.rule_layout.specs.{declared.flat.Flat.Flat, Layouts.flat_of, Layouts.FlatHasParts}
use Rattle.eval_code.specs.{Data.rule_bytes_by}
use Rattle.rule_layout.specs.declared.flat.RuleInstruction.TheVariants as instruction
use Rattle.watched_code.proofs.{watching.Answering.short_front, watching.Fronts.length-le}

segment_at : (gs : List Segment) (i : ℕ) (g : Segment) → i < length gs → AreSegments gs → IsSegment (get_or gs i g)
segment_at [] i g lt h = absurd (omega arith)
segment_at (x ∷ gs) zero g lt h = h.0
segment_at (x ∷ gs) (suc i) g lt h = segment_at gs i g (omega arith) h.1

-- one of the segments is one
pub is_segment : (gs : List Segment) (i : ℕ) (g : Segment) → i < length gs → g ≡ get_or gs i g → AreSegments gs
    → IsSegment g
is_segment gs i g lt e h = subst (λ (x : Segment). IsSegment x) (sym e) (segment_at gs i g lt h)

-- the segments, pushed one after another
pub segments_made : FlatHasParts → (l : MemoryMap) (b : Block) (flat : Flat) (i0 i1 i2 i3 i4 : List Segment)
    (t s r : List ℕ)
    → flat ≡ flat_of b → i0 ≡ [] → t ≡ table_bytes b → s ≡ singleton_bytes b
    → r ≡ rule_bytes_by l.slots flat.instruction flat.conjunctions → i1 ≡ i0 ++ segment l.tables t ∷ []
    → i2 ≡ i1 ++ segment l.singletons s ∷ []
    → i3 ≡ i2 ++ weight_segments l.weights flat.instruction flat.weights → i4 ≡ i3 ++ segment l.rules r ∷ []
    → i4 ≡ segments_of l b
segments_made law l b flat i0 i1 i2 i3 i4 t s r e h0 et es er h1 h2 h3 h4 =
    let has = law flat b e in
    let first : i2 ≡ segment l.tables (table_bytes b) ∷ segment l.singletons (singleton_bytes b) ∷ [] =
    h2 ∙ ap₂ (λ (x : List Segment) (y : List ℕ). x ++ segment l.singletons y ∷ [])
    (h1 ∙ ap₂ (λ (x : List Segment) (y : List ℕ). x ++ segment l.tables y ∷ []) h0 et) es in
    let weights : weight_segments l.weights flat.instruction flat.weights ≡ weight_segments l.weights (instruction_of b)
    (weights_of b) =
    ap₂ (λ (f : RuleInstruction) (ws : List ℕ). weight_segments l.weights f ws) has.instruction has.weights in
    let rules : r ≡ rule_bytes l.slots b =
    er ∙ ap₂ (λ f cs. rule_bytes_by l.slots f cs) has.instruction has.conjunctions in
    h4 ∙ ap₂ (λ (x : List Segment) (y : List ℕ). x ++ segment l.rules y ∷ [])
    (h3 ∙ ap₂ (λ (x y : List Segment). x ++ y) first weights) rules

-- none is longer than a rule list
abbrev IsShort : Segment → Type 0
IsShort g = length g.bytes ≤ 9984

later_short : (f : RuleInstruction) (at to : ℕ) (ws rs : List ℕ) → length ws ≤ 512 → length rs ≤ 9984
    → All IsShort (weight_segments at f ws ++ segment to rs ∷ [])
later_short instruction.Rev at to ws rs a b = All-cons IsShort (segment to rs) [] b (All-nil IsShort)
later_short instruction.Revw at to ws rs a b =
    All-cons IsShort (segment at ws) (segment to rs ∷ []) (omega arith)
    (All-cons IsShort (segment to rs) [] b (All-nil IsShort))

pub are_short : (b : Block) → HasParts main_map b → All (λ g. length g.bytes ≤ 9984) (segments_of main_map b)
are_short b h =
    let t = h.tables in
    let s = h.singletons in
    let later = weight_segments 0xD300 (instruction_of b) (weights_of b) ++ segment 0xD800 (rule_bytes 0x1100 b) ∷ [] in
    All-cons IsShort (segment 0xD000 (table_bytes b)) (segment 0xD200 (singleton_bytes b) ∷ later) (omega arith)
    (All-cons IsShort (segment 0xD200 (singleton_bytes b)) later (omega arith)
    (later_short (instruction_of b) 0xD300 0xD800 (weights_of b) (rule_bytes 0x1100 b) h.weights.1 h.rules.1))

-- the bound, from its parts
pub bound_made : (b : Block) (gs : List Segment) (n s : ℕ) → gs ≡ segments_of main_map b → n ≡ instruction_bound Byte b
    → s ≡ sum_by segment_bound gs → n + 4 + s ≡ watched_bound b
unfolding watched_bound
bound_made b gs n s is en es =
    ap₂ (λ (x y : ℕ). x + 4 + y) en (es ∙ ap (λ (x : List Segment). sum_by segment_bound x) is)

-- the code before EVAL as it was made: it is the block's, and short
pub record IsFront (b : Block) (front : List Instr) : Type 0 where
  pub same : front ≡ watched_front main_map b
  pub few : length front ≤ 97
  pub short : code_length front ≤ 97

pub front_made : (b : Block) (front : List Instr) (os : List Output) (gs : List Segment) → IsValid b
    → os ≡ b.outputs → gs ≡ segments_of main_map b → front ≡ watched_front_over main_map os gs → IsFront b front
front_made b front os gs valid outputs segments made =
    let same : front ≡ watched_front main_map b =
    made ∙ ap₂ (λ (os : List Output) (gs : List Segment). watched_front_over main_map os gs) outputs segments in
    let short : code_length front ≤ 97 = omega (arith, ap code_length same, short_front b valid) in
    record { same = same; few = omega (arith, length-le front, short); short = short }
