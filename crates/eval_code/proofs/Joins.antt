-- Parts of a firmware put one behind the other.
use Rattle.eval_code.proofs.Words.{[], ◌*◌, ◌++◌, ◌∙◌, ◌∷◌, ◌≡◌, ◌≤◌, All, All-get_or, ap, ap₂, append_assoc, arith}
use Rattle.eval_code.proofs.Words.{Block}
use Rattle.eval_code.proofs.Words.{block_code, block_items, bytes_at, code_at, eval_code, eval_code_over, Input}
use Rattle.eval_code.proofs.Words.{Instr, IsValidInput, Item, length, List, map, map-append, MemoryMap, Op, Output}
use Rattle.eval_code.proofs.Words.{Place, rule_bytes, rule_bytes_by, singleton_bytes, Slot, slots_of, sum_by}
use Rattle.eval_code.proofs.Words.{sum_by-le, sym, table_bytes, term_count, weight_bytes, weight_bytes_by, Width, ℕ}
use Rattle.rule_layout.specs.{declared.flat.Flat.Flat, Layouts.HasPartsOf}

-- a piece of code behind others
next_piece : (start later last : List Item) (a b : List Instr) → later ≡ start ++ map Op a → last ≡ later ++ map Op b
    → last ≡ start ++ map Op (a ++ b)
next_piece start later last a b h k =
    k ∙ ap (λ xs. xs ++ map Op b) h ∙ append_assoc start (map Op a) (map Op b)
    ∙ ap (λ xs. start ++ xs) (sym (map-append (λ i. Op i) a b))

-- five pieces of code
pub five_pieces : (start i1 i2 i3 i4 i5 : List Item) (a b c d e : List Instr) → i1 ≡ start ++ map Op a
    → i2 ≡ i1 ++ map Op b → i3 ≡ i2 ++ map Op c → i4 ≡ i3 ++ map Op d → i5 ≡ i4 ++ map Op e
    → i5 ≡ start ++ map Op (a ++ (b ++ (c ++ (d ++ e))))
five_pieces start i1 i2 i3 i4 i5 a b c d e h1 h2 h3 h4 h5 =
    let last = next_piece i3 i4 i5 d e h4 h5 in
    let last2 = next_piece i2 i3 i5 c (d ++ e) h3 last in
    let last3 = next_piece i1 i2 i5 b (c ++ (d ++ e)) h2 last2 in
    next_piece start i1 i5 a (b ++ (c ++ (d ++ e))) h1 last3

-- three of them
pub three_pieces : (start i1 i2 i3 : List Item) (a b c : List Instr) → i1 ≡ start ++ map Op a → i2 ≡ i1 ++ map Op b
    → i3 ≡ i2 ++ map Op c → i3 ≡ start ++ map Op (a ++ (b ++ c))
three_pieces start i1 i2 i3 a b c h1 h2 h3 = next_piece start i1 i3 a (b ++ c) h1 (next_piece i1 i2 i3 b c h2 h3)

-- of valid parts, each of at most so many
pub sum_by-valid : {X : Type 0} (IsValid : X → Type 0) (count : X → ℕ) (most : ℕ)
    → ((x : X) → IsValid x → count x ≤ most) → (xs : List X) → All IsValid xs → sum_by count xs ≤ length xs * most
sum_by-valid IsValid count most each xs valid =
    sum_by-le count most xs (λ i d h. each _ (All-get_or IsValid xs i d h valid))

-- of at most eight inputs with at most fifteen terms each
pub sum_by-term_count : (inputs : List Input) → length inputs ≤ 8 → All IsValidInput inputs
    → sum_by term_count inputs ≤ 120
sum_by-term_count inputs few valid =
    omega (arith, sum_by-valid IsValidInput term_count 15 (λ x v. v.few_terms) inputs valid)

-- the code over the parts of a block and its rules' layout
pub eval_code_over-flat : (l : MemoryMap) (b : Block) (w : Width) (flat : Flat) (inputs : List Input)
    (outputs : List Output) (slots : List Slot) → HasPartsOf flat b → inputs ≡ b.inputs → outputs ≡ b.outputs
    → slots ≡ flat.slots → eval_code_over l w inputs outputs slots flat.instruction ≡ eval_code l b w
eval_code_over-flat l b w flat inputs outputs slots h i o s =
    let f = h.instruction in
    let same_slots : slots ≡ slots_of b = s ∙ h.slots in
    rw (i, o, same_slots, f)

-- the weights and the rule list of a block's rules' layout
pub weights-flat : (b : Block) (flat : Flat) → HasPartsOf flat b
    → weight_bytes_by flat.instruction flat.weights ≡ weight_bytes b
weights-flat b flat h = ap₂ (λ f ws. weight_bytes_by f ws) h.instruction h.weights

pub rules-flat : (slots : ℕ) (b : Block) (flat : Flat) → HasPartsOf flat b
    → rule_bytes_by slots flat.instruction flat.conjunctions ≡ rule_bytes slots b
rules-flat slots b flat h = ap₂ (λ f cs. rule_bytes_by slots f cs) h.instruction h.conjunctions

-- the parts of a block, put one behind the other, are its items
pub block_items-parts : (l : MemoryMap) (b : Block) (w : Width) (before behind : List Instr) (t s ws rs : List ℕ)
    (start i1 i2 i3 i4 i5 i6 : List Item) → t ≡ table_bytes b → s ≡ singleton_bytes b → ws ≡ weight_bytes b
    → rs ≡ rule_bytes l.slots b → i1 ≡ start ++ Place l.code ∷ []
    → i2 ≡ i1 ++ map Op (block_code l b w before behind) → i3 ≡ i2 ++ bytes_at l.tables t
    → i4 ≡ i3 ++ bytes_at l.singletons s → i5 ≡ i4 ++ bytes_at l.weights ws → i6 ≡ i5 ++ bytes_at l.rules rs
    → i6 ≡ start ++ block_items l b w before behind
unfolding block_items
block_items-parts l b w before behind t s ws rs start i1 i2 i3 i4 i5 i6 et es ew er h1 h2 h3 h4 h5 h6 =
    rw (sym et, sym es, sym ew, sym er) (simp (h6, h5, h4, h3, h2, h1, append_assoc))

-- the same in their order, before other items
abbrev pub block_then : MemoryMap → Block → Width → List Instr → List Instr → List Item → List Item
block_then l b w before behind rest =
    code_at l.code (block_code l b w before behind)
    ++ (bytes_at l.tables (table_bytes b)
    ++ (bytes_at l.singletons (singleton_bytes b)
    ++ (bytes_at l.weights (weight_bytes b)
    ++ (bytes_at l.rules (rule_bytes l.slots b)
    ++ rest))))

pub block_items-then : (l : MemoryMap) (b : Block) (w : Width) (before behind : List Instr) (rest : List Item)
    → block_items l b w before behind ++ rest ≡ block_then l b w before behind rest
unfolding block_items
block_items-then l b w before behind rest =
    let A = code_at l.code (block_code l b w before behind) in
    let T = bytes_at l.tables (table_bytes b) in
    let S = bytes_at l.singletons (singleton_bytes b) in
    let W = bytes_at l.weights (weight_bytes b) in
    let R = bytes_at l.rules (rule_bytes l.slots b) in
    append_assoc A (T ++ (S ++ (W ++ R))) rest
    ∙ ap (λ (x : List Item). A ++ x)
    (append_assoc T (S ++ (W ++ R)) rest
    ∙ ap (λ (x : List Item). T ++ x)
    (append_assoc S (W ++ R) rest ∙ ap (λ (x : List Item). S ++ x) (append_assoc W R rest)))
