-- What a block's items give are bytes.
use Rattle.eval_code.proofs.Words.{[], ◌*◌, ◌++◌, ◌+◌, ◌-◌, ◌/◌, ◌<◌, ◌==◌, ◌^◌, ◌∷◌, ◌≡◌, ◌≤◌, All, All-nil, arith}
use Rattle.eval_code.proofs.Words.{at_address, Block, block_code, block_items, Bool, Byte, bytes_of_word, code_bytes}
use Rattle.eval_code.proofs.Words.{Conjunction, conjunctions_of, Dec, div-lt_iff_lt-mul, encode_of, EncodedAreBytes}
use Rattle.eval_code.proofs.Words.{eval_code, false, flat_map, RuleInstruction, instruction_of, given_from, if◌then◌else◌, Input, Instr}
use Rattle.eval_code.proofs.Words.{IsApart, IsBelow, IsValid, IsValidOutput, IsWithin, Item, item_bytes, length, List}
use Rattle.eval_code.proofs.Words.{list_bytes, list_words, map, map-append, marked, MemoryMap, nat_tests}
use Rattle.eval_code.proofs.Words.{nearest_byte, NearestIsByte, None, Op, Option, Output, place_after, placed, refl}
use Rattle.eval_code.proofs.Words.{row_of, rows_of, rule_bytes, rule_bytes_by, singleton_bytes, singleton_bytes_of}
use Rattle.eval_code.proofs.Words.{slots_of, Some, subst, suc, sym, table_bytes, Trapezoid, weight_bytes}
use Rattle.eval_code.proofs.Words.{weight_bytes_by, weights_of, Width, zero, ℕ}
use Rattle.point_slope.specs.Tables.{slope_of, left_point, left_slope, right_point, right_slope}
use Rattle.byte_scaling.specs.{Cells.byte_of}
use Rattle.eval_code.specs.{Standing.CodeIsBytes}
use Rattle.std.proofs.{lemmas.List.Elements.All-append}
use Rattle.eval_code.proofs.{Joins.block_then, Joins.block_items-then, steps.Decoding.FitCode}
use Rattle.eval_code.proofs.phases.RuleMemory.{Below, below_all, below_append}
use Rattle.eval_code.proofs.phases.RuleFacts.{BlockFacts, weights_below, rev_is_plain}
use Rattle.eval_code.proofs.phases.Operands.{fit_answer}
use Rattle.rule_layout.specs.declared.flat.RuleInstruction.TheVariants as instruction

-- items that give bytes
abbrev pub ItemsFit : List Item → Type 0
ItemsFit [] = Unit {0}
ItemsFit (x ∷ xs) = Below 256 (item_bytes x) × ItemsFit xs

fit_append : (xs ys : List Item) → ItemsFit xs → ItemsFit ys → ItemsFit (xs ++ ys)
fit_append [] ys a b = b
fit_append (x ∷ xs) ys a b = (a.0, fit_append xs ys a.1 b)

fit_bytes : (bs : List ℕ) → Below 256 bs → ItemsFit (map Byte bs)
fit_bytes [] h = tt
fit_bytes (b ∷ bs) h = ((h.0, tt), fit_bytes bs h.1)

-- code whose operands fit
pub fit_code : EncodedAreBytes → (is : List Instr) → FitCode is → ItemsFit (map Op is)
fit_code bytes [] h = tt
fit_code bytes (i ∷ is) h = (below_all 256 (encode_of i) (bytes i h.0), fit_code bytes is h.1)

pub code_is_bytes : EncodedAreBytes → CodeIsBytes
code_is_bytes bytes [] h = All-nil (λ v. v < 2 ^ 8)
code_is_bytes bytes (i ∷ is) h =
    All-append (λ v. v < 2 ^ 8) (encode_of i) (code_bytes is) (bytes i h.0) (code_is_bytes bytes is h.1)

-- tables
quotient_small : (w : ℕ) → (510 + suc w) / (2 * suc w) < 256
quotient_small w = small (510 + suc w) (2 * suc w) (omega arith) (omega arith)
  where
    small : (n d : ℕ) → 0 < d → n < 256 * d → n / d < 256
    small n d pos h = grind (arith, div-lt_iff_lt-mul)

slope_small : (w : ℕ) → slope_of w < 256
slope_small zero = omega arith
slope_small (suc w) = let a : (suc w == 0) ≡ false = grind (arith, nat_tests) in
    subst (λ (t : Bool). (if t then 0 else (510 + suc w) / (2 * suc w)) < 256) (sym a) (quotient_small w)

byte_small : (i : Input) (x : Dec) → byte_of i x < 256
byte_small i x = omega arith

left_small : (i : Input) (a : Option Dec) → left_point i a < 256
left_small i None = omega arith
left_small i (Some a) = byte_small i a

right_small : (i : Input) (d : Option Dec) → right_point i d < 256
right_small i None = omega arith
right_small i (Some d) = byte_small i d

left_slope_small : (i : Input) (a : Option Dec) (b : Dec) → left_slope i a b < 256
left_slope_small i None b = omega arith
left_slope_small i (Some a) b = slope_small (byte_of i b - byte_of i a)

right_slope_small : (i : Input) (c : Dec) (d : Option Dec) → right_slope i c d < 256
right_slope_small i c None = omega arith
right_slope_small i c (Some d) = slope_small (byte_of i d - byte_of i c)

rows_fit : (x : Input) (ts : List Trapezoid) (rest : List (List ℕ)) → Below 256 (flat_map (λ row. row) rest)
    → Below 256 (flat_map (λ row. row) (map (row_of x) ts ++ rest))
rows_fit x [] rest h = h
rows_fit x (t ∷ ts) rest h = (
  left_small x t.a,
  (
    right_small x t.d,
    (left_slope_small x t.a t.b, (right_slope_small x t.c t.d, rows_fit x ts rest h)),
  ),
)

tables_fit : (xs : List Input) → Below 256 (flat_map (λ row. row) (flat_map rows_of xs))
tables_fit [] = tt
tables_fit (x ∷ xs) = rows_fit x x.terms (flat_map rows_of xs) (tables_fit xs)

-- singletons
own_fit : NearestIsByte → (o : Output) (us : List Dec) → IsValidOutput o → All (IsWithin o.lo o.hi) us
    → Below 256 (map (nearest_byte o) us)
own_fit near o [] v h = tt
own_fit near o (u ∷ us) v h = (
  let q = near o u v.range (h 0 u (omega arith)) in
      omega arith,
  own_fit near o us v (λ k d lt. h (suc k) d (omega arith)),
)

singletons_fit : NearestIsByte → (os : List Output) → All IsValidOutput os → Below 256 (flat_map singleton_bytes_of os)
singletons_fit near [] v = tt
singletons_fit near (o ∷ os) v = let w = v 0 o (omega arith) in
    below_append 256 (singleton_bytes_of o) (flat_map singleton_bytes_of os)
    (own_fit near o o.singletons w w.singletons) (singletons_fit near os (λ k d lt. v (suc k) d (omega arith)))

-- weights and the rule list
weights_fit : (f : RuleInstruction) (ws : List ℕ) → Below 256 ws → Below 256 (weight_bytes_by f ws)
weights_fit instruction.Rev ws h = tt
weights_fit instruction.Revw ws h = h

words_fit : (ws : List ℕ) → Below 65536 ws → Below 256 (flat_map bytes_of_word ws)
words_fit [] h = tt
words_fit (w ∷ ws) h = (let q = h.0 in omega arith, (omega arith, words_fit ws h.1))

below_more : (n m : ℕ) (ks : List ℕ) → n ≤ m → Below n ks → Below m ks
below_more n m [] le h = tt
below_more n m (k ∷ ks) le h = (let q = h.0 in omega arith, below_more n m ks le h.1)

added_below : (base n m : ℕ) (ks : List ℕ) → base + n ≤ m → Below n ks → Below m (map (λ k. base + k) ks)
added_below base n m [] le h = tt
added_below base n m (k ∷ ks) le h = (let q = h.0 in omega arith, added_below base n m ks le h.1)

marked_fits : (s e m : ℕ) (c : Conjunction) (cs : List Conjunction) → s < m → e < m → Below m c.literals
    → Below m c.conclusions → Below m (marked s e cs)
    → Below m (marked s e (c ∷ cs))
marked_fits s e m c [] hs he a b r = below_append m c.literals _ a (hs, below_append m c.conclusions _ b (he, tt))
marked_fits s e m c (d ∷ cs) hs he a b r = below_append m c.literals _ a (hs, below_append m c.conclusions _ b (hs, r))

list_words_fit : (base n : ℕ) (cs : List Conjunction) → base + n ≤ 65534 → All (IsBelow n) cs
    → Below 65536 (list_words base cs)
list_words_fit base n [] le h = tt
list_words_fit base n (c ∷ cs) le h =
    let k = h 0 c (omega arith) in
    marked_fits 65534 65535 65536 (at_address base c) (map (at_address base) cs) (omega arith) (omega arith)
    (added_below base n 65536 c.literals (omega arith) (below_all n c.literals k.literals))
    (added_below base n 65536 c.conclusions (omega arith) (below_all n c.conclusions k.conclusions))
    (list_words_fit base n cs le (λ j d lt. h (suc j) d (omega arith)))

list_bytes_fit : (n : ℕ) (cs : List Conjunction) → n ≤ 254 → All (IsBelow n) cs → Below 256 (list_bytes cs)
list_bytes_fit n [] le h = tt
list_bytes_fit n (c ∷ cs) le h =
    let k = h 0 c (omega arith) in
    marked_fits 254 255 256 c cs (omega arith) (omega arith)
    (below_more n 256 c.literals (omega arith) (below_all n c.literals k.literals))
    (below_more n 256 c.conclusions (omega arith) (below_all n c.conclusions k.conclusions))
    (list_bytes_fit n cs le (λ j d lt. h (suc j) d (omega arith)))

rules_fit : (base n : ℕ) (f : RuleInstruction) (cs : List Conjunction) → (f ≡ instruction.Rev → n ≤ 254) → base + n ≤ 65534
    → All (IsBelow n) cs
    → Below 256 (rule_bytes_by base f cs)
rules_fit base n instruction.Rev cs small le h = list_bytes_fit n cs (let q = small refl in q) h
rules_fit base n instruction.Revw cs small le h = words_fit (list_words base cs) (list_words_fit base n cs le h)

joined : (xs ys : List Instr) → ItemsFit (map Op xs) → ItemsFit (map Op ys) → ItemsFit (map Op (xs ++ ys))
joined xs ys a b = subst ItemsFit (sym (map-append (λ i. Op i) xs ys)) (fit_append (map Op xs) (map Op ys) a b)

-- a block's items give bytes, with code before and behind that gives bytes
pub block_fits_between : EncodedAreBytes → NearestIsByte
    → (l : MemoryMap) (b : Block) (w : Width) (before behind : List Instr) (rest : List Item) → IsValid b → BlockFacts b
    → IsApart l
    → ItemsFit (map Op before) → ItemsFit (map Op behind) → ItemsFit rest
    → ItemsFit (block_items l b w before behind ++ rest)
block_fits_between encoded near l b w before behind rest v facts a front back others =
    let few = facts.few_slots in
    let top = a.slots in
    let small : instruction_of b ≡ instruction.Rev → length (slots_of b) ≤ 254 = λ e. (rev_is_plain b facts e).0 in
    let eval : ItemsFit (map Op (eval_code l b w)) =
    fit_code encoded (eval_code l b w) (fit_answer near l b w a v facts) in
    let code : ItemsFit (map Op (block_code l b w before behind)) =
    joined before (eval_code l b w ++ behind) front (joined (eval_code l b w) behind eval back) in
    let rules : Below 256 (rule_bytes l.slots b) =
    rules_fit l.slots (length (slots_of b)) (instruction_of b) (conjunctions_of b) small (omega arith) facts.in_range in
    let all : ItemsFit (block_then l b w before behind rest) = (
      tt,
      fit_append (map Op (block_code l b w before behind)) _ code (
        tt,
        fit_append (map Byte (table_bytes b)) _ (fit_bytes (table_bytes b) (tables_fit b.inputs)) (
          tt,
          fit_append (map Byte (singleton_bytes b)) _
              (fit_bytes (singleton_bytes b) (singletons_fit near b.outputs v.outputs)) (
                tt,
                fit_append (map Byte (weight_bytes b)) _
                    (fit_bytes (weight_bytes b) (weights_fit (instruction_of b) (weights_of b) (weights_below b facts))) (
                      tt,
                      fit_append (map Byte (rule_bytes l.slots b)) rest
                          (fit_bytes (rule_bytes l.slots b) rules) others,
                    ),
              ),
        ),
      ),
    ) in
    subst ItemsFit (sym (block_items-then l b w before behind rest)) all

-- pairs whose second is a byte
abbrev pub PairsFit : List (ℕ × ℕ) → Type 0
PairsFit [] = Unit {0}
PairsFit (p ∷ ps) = (p.1 < 256) × PairsFit ps

placed_fit : (at : ℕ) (bs : List ℕ) (ps : List (ℕ × ℕ)) → Below 256 bs → PairsFit ps → PairsFit (placed at bs ++ ps)
placed_fit at [] ps h k = k
placed_fit at (b ∷ bs) ps h k = (h.0, placed_fit (at + 1) bs ps h.1 k)

pub given_fit : (at : ℕ) (items : List Item) → ItemsFit items → PairsFit (given_from at items)
given_fit at [] h = tt
given_fit at (x ∷ xs) h =
    placed_fit at (item_bytes x) (given_from (place_after at x) xs) h.0 (given_fit (place_after at x) xs h.1)
