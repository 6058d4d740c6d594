-- A block's items at the addresses of any memory map.
use Rattle.eval_code.proofs.Words.{[], ◌++◌, ◌+◌, ◌<◌, ◌^◌, ◌∙◌, ◌∷◌, ◌≡◌, ◌≤◌, All-nil, ap, append-nil, arith, Block}
use Rattle.eval_code.proofs.Words.{block_code, block_items, Byte, byte_at, bytes_at, code_bytes, encode_of}
use Rattle.eval_code.proofs.Words.{EncodedAreBytes, eval_code, GiveBytes, given_by, HoldsImage, image_memory, Instr}
use Rattle.eval_code.proofs.Words.{IsRisingFrom, IsValid, IsWithinLimits, Item, LayoutLaw, length, List, map}
use Rattle.eval_code.proofs.Words.{MemoryMap, NearestIsByte, None, Op, Place, place_behind, rule_bytes}
use Rattle.eval_code.proofs.Words.{singleton_bytes, subst, table_bytes, weight_bytes, Width, ℕ, ⊎_elim}
use Rattle.eval_code.specs.Placed.{IsInOrder, BlockRises, BlockIsShort, BlockStaysInside, GivesBehind}
use Rattle.std.proofs.{lemmas.List.Elements.All-cons}
use Rattle.cpu12_isa.specs.Agreement.{AgreeBetween}
use Rattle.eval_code.specs.Placed.{BlockGivesBytes, BlockStands}
use Rattle.eval_code.proofs.{steps.Memory.same_bytes, phases.RuleFacts.BlockFacts, phases.RuleFacts.block_facts}
use Rattle.eval_code.proofs.Placement.{HasSizes, IsSpaced, HasPartSizes, part_sizes, block_rises, length-block_items}
use Rattle.eval_code.proofs.phases.RuleMemory.{Below, below_all}
use Rattle.eval_code.proofs.Sizes.{code_size-append, length-code_bytes}
use Rattle.eval_code.proofs.placing.Standing.{Rises, given_append, image_given, none_below, none_behind}
use Rattle.eval_code.proofs.placing.GivenBytes.{ItemsFit, block_fits_between, PairsFit, given_fit}
use Rattle.eval_code.proofs.placing.Founding.{Stood, stood, around_eval}

sizes_of : (b : Block) → BlockFacts b → IsWithinLimits b → HasSizes b
sizes_of b facts h =
    record { few_slots = facts.few_slots; few_conjunctions = h.few_conjunctions; short_list = h.short_list }

pub parts : LayoutLaw → (l : MemoryMap) (b : Block) (w : Width) (before behind : List Instr) → IsValid b
    → IsWithinLimits b
    → HasPartSizes l b w before behind
parts law l b w before behind v limits = part_sizes l b w before behind v (sizes_of b (block_facts law b v) limits)

-- what goes up from a place goes up from a lower one
falls : (low high : ℕ) (items : List Item) → low ≤ high → IsRisingFrom high items → IsRisingFrom low items
falls low high [] le h = omega arith
falls low high (Place to ∷ items) le h = (omega (arith, h.0), h.1)
falls low high (Byte b ∷ items) le h = falls (low + 1) (high + 1) items (omega arith) h
falls low high (Op i ∷ items) le h =
    falls (low + length (encode_of i)) (high + length (encode_of i)) items (omega arith) h

pub rises_between : LayoutLaw → BlockRises
rises_between law at l b w before behind rest o v limits low r =
    let h = parts law l b w before behind v limits in
    let spaced : IsSpaced l = record { tables = o.tables; singletons = o.singletons; weights = o.weights } in
    block_rises at l b w before behind rest spaced h low
    (omega (arith, o.eval, o.code, length-code_bytes before, length-code_bytes behind))
    (falls (l.rules + length (rule_bytes l.slots b)) (l.rules + 9984) rest (omega (arith, h.rules)) r)

pub is_short : LayoutLaw → BlockIsShort
is_short law l b w before behind v limits =
    omega (
      arith,
      length-block_items l b w before behind (parts law l b w before behind v limits),
      length-code_bytes before,
      length-code_bytes behind,
    )

-- no byte below the code
none_before : Rises → (l : MemoryMap) (b : Block) (w : Width) (before behind : List Instr) (at : ℕ)
    → IsRisingFrom 0 (block_items l b w before behind) → at < l.code
    → byte_at (given_by (block_items l b w before behind)) at ≡ None
unfolding block_items
none_before rises l b w before behind at rise lt =
    none_below rises l.code at
    (map Op (block_code l b w before behind)
    ++ (bytes_at l.tables (table_bytes b)
    ++ (bytes_at l.singletons (singleton_bytes b)
    ++ (bytes_at l.weights (weight_bytes b) ++ bytes_at l.rules (rule_bytes l.slots b)))))
    rise.1 lt

pub stays_inside : LayoutLaw → Rises → BlockStaysInside
stays_inside law rises l b w before behind at o v limits out =
    let items = block_items l b w before behind in
    let end = l.rules + 9984 in
    let top = o.rules in
    let alone : IsRisingFrom 0 (items ++ []) =
    rises_between law 0 l b w before behind [] o v limits (omega arith) (omega arith) in
    let whole : IsRisingFrom 0 (items ++ (Place end ∷ [])) =
    rises_between law 0 l b w before behind (Place end ∷ []) o v limits (omega arith) (omega arith, omega arith) in
    let behind_all : IsRisingFrom (place_behind 0 items) (Place end ∷ []) = rises.part 0 items (Place end ∷ []) whole in
    ⊎_elim
    (λ lt. none_before rises l b w before behind at
    (subst (λ (xs : List Item). IsRisingFrom 0 xs) (append-nil items) alone) lt)
    (λ le. none_behind rises 0 at items (Place end ∷ []) whole (omega (arith, behind_all.0)))
    out

pub gives_behind : GivesBehind
gives_behind items behind at = given_append 0 items (Place at ∷ behind)

-- bytes by code, and by pairs
split : (n : ℕ) (xs ys : List ℕ) → Below n (xs ++ ys) → Below n xs × Below n ys
split n [] ys h = (tt, h)
split n (x ∷ xs) ys h = let rest = split n xs ys h.1 in ((h.0, rest.0), rest.1)

code_fits : (code : List Instr) → Below 256 (code_bytes code) → ItemsFit (map Op code)
code_fits [] h = tt
code_fits (i ∷ code) h = let both = split 256 (encode_of i) (code_bytes code) h in (both.0, code_fits code both.1)

all_pairs : (given : List (ℕ × ℕ)) → PairsFit given → GiveBytes given
all_pairs [] h = All-nil (λ (p : ℕ × ℕ). p.1 < 2 ^ 8)
all_pairs (p ∷ given) h = All-cons (λ (p : ℕ × ℕ). p.1 < 2 ^ 8) p given h.0 (all_pairs given h.1)

pub gives_bytes : EncodedAreBytes → LayoutLaw → NearestIsByte → BlockGivesBytes
gives_bytes encoded law near l b w before behind apart v front back =
    let items = block_items l b w before behind in
    let fit : ItemsFit (items ++ []) =
    block_fits_between encoded near l b w before behind [] v (block_facts law b v) apart
    (code_fits before (below_all 256 (code_bytes before) front))
    (code_fits behind (below_all 256 (code_bytes behind) back)) tt in
    all_pairs (given_by items) (given_fit 0 items (subst ItemsFit (append-nil items) fit))

-- the parts stand where the same bytes do
there : (l : MemoryMap) (b : Block) (w : Width) (before behind : List Instr) (image : List (ℕ × ℕ)) (mem : List ℕ)
    → IsInOrder l before behind
    → HasPartSizes l b w before behind → AgreeBetween l.code (l.rules + 9984) (image_memory image) mem
    → Stood (image_memory image) l b w before behind → Stood mem l b w before behind
there l b w before behind image mem o size same h =
    let m = image_memory image in
    let code = code_bytes (block_code l b w before behind) in
    let few : l.code + length code ≤ l.tables =
    omega (
      arith,
      o.eval,
      o.code,
      size.code,
      length-code_bytes (block_code l b w before behind),
      length-code_bytes
          before,
      length-code_bytes behind,
    ) in
    let t = o.tables in
    let s = o.singletons in
    let x = o.weights in
    let from = o.eval in
    let to = o.code in
    record {
      code = same_bytes m mem l.code code (λ k lo hi. same k lo (omega arith)) h.code;
      tables = same_bytes m mem l.tables (table_bytes b)
          (λ k lo hi. same k (omega arith) (omega (arith, size.tables))) h.tables;
      singletons = same_bytes m mem l.singletons (singleton_bytes b)
          (λ k lo hi. same k (omega arith) (omega (arith, size.singletons))) h.singletons;
      weights = same_bytes m mem l.weights (weight_bytes b)
          (λ k lo hi. same k (omega arith) (omega (arith, size.weights))) h.weights;
      rules = same_bytes m mem l.rules (rule_bytes l.slots b)
          (λ k lo hi. same k (omega arith) (omega (arith, size.rules))) h.rules;
    }

pub stands_between : LayoutLaw → Rises → HoldsImage → BlockStands
stands_between law rises holds image mem front rest l b w before behind o v limits h rise same =
    let items = front ++ (block_items l b w before behind ++ rest) in
    let given = image_given holds image (given_by items) h in
    let size = parts law l b w before behind v limits in
    let at = o.eval ∙ ap (λ n. l.code + n) (length-code_bytes before) in
    let in_image = stood rises (image_memory image) front rest l b w before behind given rise in
    let around = around_eval mem l b w before behind at (there l b w before behind image mem o size same in_image) in
    let eval = eval_code l b w in
    record {
      front = around.front;
      eval = around.eval;
      back = around.back;
      room = omega (
        arith,
        size.code,
        code_size-append before (eval ++ behind),
        code_size-append eval behind,
        length-code_bytes eval,
      );
    }
