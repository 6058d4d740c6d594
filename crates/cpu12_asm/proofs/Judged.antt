-- Each source gives an image or has a fault, which is no want of memory.
use Rattle.std.proofs.Common.{◌≡◌, ◌≢◌, ◌∙◌, inl, inr, ℕ, zero, suc, ◌+◌, ◌^◌, ◌<◌, ◌≤◌, Bool, true, false, List}
use Rattle.std.proofs.Common.{[], ◌∷◌, ◌++◌, length, Option, Some, None, is_some, refl, sym, ap, subst, arith, cond}
use Rattle.std.proofs.Common.{nat_cmp, drop}
use Rattle.std.proofs.lemmas.Bool.{cases_eq, cases_lt, cond_both}
use Rattle.std.proofs.lemmas.Bool.Decides.{nat_tests}
use Rattle.std.specs.Prelude.{Result, Ok, Err, if◌then◌else◌, nat_lt, ◌||◌}
use Rattle.std.specs.{List.AllByRecursion, List.Sorted.IsStrictlySortedBy, List.list_any, Map.keys_of}
use Rattle.std.specs.Str.{str_to_ascii_uppercase}
use Rattle.std.specs.declared.cmp.Ordering.TheVariants.{Less}
use Rattle.cpu12_asm.specs.Bytes.{FitsMemory, Holds, IsAscending, IsGivenOnce, byte_at, placed}
use Rattle.cpu12_asm.specs.{Expressions.sum_of, Faults.at_line, Faults.on_line, Faults.through, Lines.lines_of, Lines.pieces}
use Rattle.cpu12_asm.specs.Giving.{Given, any_unknown, before, branches_far, bytes_with, given, given_with, limits_of, moved}
use Rattle.cpu12_asm.specs.Giving.{overlaps, put, put_values, values_from, values_of, values_within}
use Rattle.cpu12_asm.specs.Sources.{assembled, defined_by, empty, given_by_line, names_of, start, value_known}
use Rattle.cpu12_asm.specs.Sources.{with_names}
use Rattle.cpu12_asm.specs.Laws.{EachSourceIsJudged, IsSourceAnswer}
use Rattle.cpu12_asm.specs.Statements.{Statement, statement_of}
use Rattle.cpu12_asm.specs.Values.{Known, behind_of, defined, equal_to, fits, is_given, moved_to, with_line, within}
use Rattle.cpu12_asm.specs.declared.{expressions.Sum.Sum, faults.LineFault.LineFault, items.AsmFault.AsmFault}
use Rattle.cpu12_asm.specs.declared.{operands.Limits.Limits, statements.Action.Action, values.Behind.Behind}
use Rattle.cpu12_asm.specs.declared.statements.Action.TheVariants.{Nothing, Origin, Equate, Bytes, Words, Operate}
use Rattle.cpu12_asm.specs.declared.faults.LineFault.TheVariants as line
use Rattle.cpu12_asm.specs.declared.items.AsmFault.TheVariants as fault
use Rattle.cpu12_asm.proofs.Writing.{highest}
use Rattle.cpu12_asm.proofs.Placing.{byte_at-append, is_same, is_same-comm, none_from_test, none_in_cond, or_else}

-- ---- what a line leaves keeps a property that what is put keeps, and its fault is no want of memory

abbrev Keeps : {A : Type 0} → (A → Type 0) → Result A LineFault → Type 0
Keeps P (Ok a) = P a
Keeps P (Err f) = f ≢ line.Memory

abbrev KeepsAll : {A : Type 0} → (A → Type 0) → Result A AsmFault → Type 0
KeepsAll P (Ok a) = P a
KeepsAll P (Err f) = f ≢ fault.Memory

no_memory_at : (f : LineFault) (n : ℕ) → f ≢ line.Memory → at_line f n ≢ fault.Memory
no_memory_at line.BadLine n other = λ e. (let z : ⊥ = cc in z)
no_memory_at line.UnknownName n other = λ e. (let z : ⊥ = cc in z)
no_memory_at line.Twice n other = λ e. (let z : ⊥ = cc in z)
no_memory_at line.BranchFar n other = λ e. (let z : ⊥ = cc in z)
no_memory_at line.Range n other = λ e. (let z : ⊥ = cc in z)
no_memory_at line.Overlap n other = λ e. (let z : ⊥ = cc in z)
no_memory_at line.Memory n other = absurd (other refl)

module _ {A : Type 0} (P : A → Type 0) (step : A → List ℕ → Result A LineFault)
    (keeps : (a : A) (l : List ℕ) → P a → Keeps P (step a l)) where
  on_line_keeps : (n : ℕ) (r : Result A LineFault) (rest : A → Result A AsmFault) → Keeps P r
      → ((a : A) → P a → KeepsAll P (rest a)) → KeepsAll P (on_line n r rest)
  on_line_keeps n (Ok a) rest kept goes_on = goes_on a kept
  on_line_keeps n (Err f) rest other goes_on = no_memory_at f n other

  through_keeps : (a : A) (n : ℕ) (lines : List (List ℕ)) → P a → KeepsAll P (through step a n lines)
  through_keeps a n [] has = has
  through_keeps a n (l ∷ lines) has =
      on_line_keeps n (step a l) (λ t. through step t (n + 1) lines) (keeps a l has)
      (λ t kept. through_keeps t (n + 1) lines kept)

abbrev Any : {A : Type 0} → A → Type 0
Any a = Unit {0}

-- ---- the values of names

within_keeps : (limit : ℕ) (s : Sum) → Keeps Any (within limit s)
within_keeps limit s =
    let fit : Result ℕ LineFault = if fits limit s then Ok _ else Err line.Range in
    cond_both s.unknown (Err line.UnknownName) fit (Keeps Any) (λ is. λ e. (let z : ⊥ = cc in z))
    (λ is. cond_both (fits limit s) (Ok _) (Err line.Range) (Keeps Any) (λ is. tt) (λ is. λ e. (let z : ⊥ = cc in z)))

moved_keeps : (place : ℕ) (r : Result ℕ LineFault) → Keeps Any r → Keeps Any (moved_to place r)
moved_keeps place (Ok v) kept = tt
moved_keeps place (Err f) kept = kept

equal_keeps : (place : ℕ) (r : Result ℕ LineFault) → Keeps Any r → Keeps Any (equal_to place r)
equal_keeps place (Ok v) kept = tt
equal_keeps place (Err f) kept = kept

behind_keeps : (k : Known) (a : Action) (text : List ℕ) → Keeps Any (behind_of k a text)
behind_keeps k Origin text = moved_keeps k.place _ (within_keeps 65535 (sum_of k.value text))
behind_keeps k Equate text = equal_keeps k.place _ (within_keeps 65535 (sum_of k.value text))
behind_keeps k a text = tt

line_keeps : (k : Known) (name : List ℕ) (r : Result Behind LineFault) → Keeps Any r → Keeps Any (with_line k name r)
line_keeps k name (Ok b) kept = tt
line_keeps k name (Err f) kept = kept

defined_keeps : (k : Known) (s : Option Statement) → Keeps Any (defined k s)
defined_keeps k None = λ e. (let z : ⊥ = cc in z)
defined_keeps k (Some s) =
    cond_both (is_given k.value s.name) (Err line.Twice) (with_line k s.name (behind_of k s.action s.operand))
    (Keeps Any) (λ is. λ e. (let z : ⊥ = cc in z))
    (λ is. line_keeps k s.name _ (behind_keeps k s.action s.operand))

known_keeps : (r : Result Known AsmFault) → KeepsAll Any r → KeepsAll Any (value_known r)
known_keeps (Ok k) kept = tt
known_keeps (Err f) kept = kept

names_keep : (text : List ℕ) → KeepsAll Any (names_of text)
names_keep text = known_keeps (through defined_by start 1 (lines_of text))
    (through_keeps Any defined_by (λ k l kept. defined_keeps k (statement_of l)) start 1 (lines_of text) tt)

-- ---- bytes: each stands in the memory, and once

abbrev AreOnce : List (ℕ × ℕ) → Type 0
AreOnce bytes = IsGivenOnce bytes × FitsMemory bytes

both_false : (a b : Bool) → (a || b) ≡ false → (a ≡ false) × (b ≡ false)
both_false false b is = (refl, is)
both_false true b is = absurd (let z : ⊥ = cc in z)

lower : (p q : ℕ) → q < p → is_same q p ≡ false
lower p q l = grind (arith, nat_tests)

below_placed : (p q : ℕ) (xs : List ℕ) → q < p → byte_at (placed p xs) q ≡ None
below_placed p q [] l = refl
below_placed p q (x ∷ xs) l =
    ap (λ b. cond b (Some x) (byte_at (placed (p + 1) xs) q)) (lower p q l)
    ∙ below_placed (p + 1) q xs (omega (arith, l))

placed_once : (p : ℕ) (xs : List ℕ) → IsGivenOnce (placed p xs)
placed_once p [] = tt
placed_once p (x ∷ xs) = (below_placed (p + 1) p xs (omega arith), placed_once (p + 1) xs)

placed_fit : (p : ℕ) (xs : List ℕ) → p + length xs ≤ 2 ^ 16 → FitsMemory (placed p xs)
placed_fit p [] l = tt
placed_fit p (x ∷ xs) l = (omega (arith, l), placed_fit (p + 1) xs (omega (arith, l)))

both_fit : (xs ys : List (ℕ × ℕ)) → FitsMemory xs → FitsMemory ys → FitsMemory (xs ++ ys)
both_fit [] ys fit fits = fits
both_fit (x ∷ xs) ys fit fits = (fit.0, both_fit xs ys fit.1 fits)

free_of : (x : ℕ × ℕ) (xs ys : List (ℕ × ℕ)) → list_any (λ b. is_some (byte_at (x ∷ xs) b.0)) ys ≡ false
    → (byte_at ys x.0 ≡ None) × (list_any (λ b. is_some (byte_at xs b.0)) ys ≡ false)
free_of x xs [] is = (refl, refl)
free_of x xs (b ∷ ys) is =
    let parts = both_false (is_some (byte_at (x ∷ xs) b.0)) (list_any (λ c. is_some (byte_at (x ∷ xs) c.0)) ys) is in
    let none = none_in_cond (is_same b.0 x.0) x.1 (byte_at xs b.0)
    (none_from_test (byte_at (x ∷ xs) b.0) parts.0) in
    let rest = free_of x xs ys parts.1 in
    let other : is_same x.0 b.0 ≡ false = is_same-comm x.0 b.0 ∙ none.0 in
    let there : is_some (byte_at xs b.0) ≡ false = ap is_some none.1 in (
      ap (λ t. cond t (Some b.1) (byte_at ys x.0)) other ∙ rest.0,
      ap (λ t. t || list_any (λ c. is_some (byte_at xs c.0)) ys) there ∙ rest.1,
    )

both_once : (xs ys : List (ℕ × ℕ)) → IsGivenOnce xs → IsGivenOnce ys
    → list_any (λ b. is_some (byte_at xs b.0)) ys ≡ false → IsGivenOnce (xs ++ ys)
both_once [] ys once others apart = others
both_once (x ∷ xs) ys once others apart =
    let free = free_of x xs ys apart in (
      byte_at-append x.0 xs ys ∙ ap (λ o. or_else o (byte_at ys x.0)) once.0 ∙ free.0,
      both_once xs ys once.1 others free.1,
    )

-- ---- what lines give

abbrev StandOnce : Given → Type 0
StandOnce g = AreOnce g.bytes

put_keeps : (g : Given) (far : Bool) (bytes : List ℕ) → StandOnce g → Keeps StandOnce (put g far bytes)
put_keeps g far bytes (once, fit) =
    let after : Given = record { place = g.place + length bytes; bytes = g.bytes ++ placed g.place bytes } in
    let free : Result Given LineFault = if overlaps g bytes then Err line.Overlap else Ok after in
    let near : Result Given LineFault = if far then Err line.BranchFar else free in
    cond_both (nat_lt (2 ^ 16) (g.place + length bytes)) (Err line.Range) near (Keeps StandOnce)
    (λ is. λ e. (let z : ⊥ = cc in z))
    (λ inside. cond_both far (Err line.BranchFar) free (Keeps StandOnce) (λ is. λ e. (let z : ⊥ = cc in z))
    (λ is. cond_both (overlaps g bytes) (Err line.Overlap) (Ok after) (Keeps StandOnce)
    (λ is. λ e. (let z : ⊥ = cc in z))
    (λ apart. (
      both_once g.bytes (placed g.place bytes) once (placed_once g.place bytes) apart,
      both_fit g.bytes (placed g.place bytes) fit (placed_fit g.place bytes (low inside)),
    ))))
  where
    low : nat_lt (2 ^ 16) (g.place + length bytes) ≡ false → g.place + length bytes ≤ 2 ^ 16
    low is = grind (arith, nat_tests)

before_keeps : (v : ℕ) (r : Result (List ℕ) LineFault) → Keeps Any r → Keeps Any (before v r)
before_keeps v (Ok vs) kept = tt
before_keeps v (Err f) kept = kept

values_keep : (value : List ℕ → Option ℕ) (first other : ℕ) (es : List (List ℕ))
    → Keeps Any (values_from value first other es)
values_keep value first other [] = tt
values_keep value first other (e ∷ es) =
    cond_both (fits first (sum_of value e)) (before _ (values_from value other other es)) (Err line.Range) (Keeps Any)
    (λ is. before_keeps _ (values_from value other other es) (values_keep value other other es))
    (λ is. λ e. (let z : ⊥ = cc in z))

limited_keep : (value : List ℕ → Option ℕ) (text : List ℕ) (l : Option Limits) → Keeps Any (values_within value text l)
limited_keep value text None = tt
limited_keep value text (Some l) = of_text (if l.immediate then drop 1 text else text)
  where
    of_text : (text : List ℕ) → Keeps Any (values_of value l.first l.other text)
    of_text text =
        cond_both (any_unknown value (pieces 0x2C text)) (Err line.UnknownName)
        (values_from value l.first l.other (pieces 0x2C text)) (Keeps Any) (λ is. λ e. (let z : ⊥ = cc in z))
        (λ is. values_keep value l.first l.other (pieces 0x2C text))

put_values_keep : (g : Given) (a : Action) (r : Result (List ℕ) LineFault) → StandOnce g → Keeps Any r
    → Keeps StandOnce (put_values g a r)
put_values_keep g a (Ok vs) has kept = put_keeps g (branches_far g.place a vs) (bytes_with g.place a vs) has
put_values_keep g a (Err f) has kept = kept

origin_keeps : (g : Given) (r : Result ℕ LineFault) → StandOnce g → Keeps Any r → Keeps StandOnce (moved g r)
origin_keeps g (Ok place) has kept = has
origin_keeps g (Err f) has kept = kept

action_keeps : (value : List ℕ → Option ℕ) (g : Given) (a : Action) (text : List ℕ) → StandOnce g
    → Keeps StandOnce (given_with value g a text)
action_keeps value g Origin text has = origin_keeps g _ has (within_keeps 65535 (sum_of value text))
action_keeps value g Nothing text has = put_values_keep g Nothing (values_within value text (limits_of Nothing)) has
    (limited_keep value text (limits_of Nothing))
action_keeps value g Equate text has = put_values_keep g Equate (values_within value text (limits_of Equate)) has
    (limited_keep value text (limits_of Equate))
action_keeps value g Bytes text has = put_values_keep g Bytes (values_within value text (limits_of Bytes)) has
    (limited_keep value text (limits_of Bytes))
action_keeps value g Words text has = put_values_keep g Words (values_within value text (limits_of Words)) has
    (limited_keep value text (limits_of Words))
action_keeps value g (Operate encoding) text has =
    put_values_keep g (Operate encoding) (values_within value text (limits_of (Operate encoding))) has
    (limited_keep value text (limits_of (Operate encoding)))

given_keeps : (value : List ℕ → Option ℕ) (g : Given) (s : Option Statement) → StandOnce g
    → Keeps StandOnce (given value g s)
given_keeps value g None has = λ e. (let z : ⊥ = cc in z)
given_keeps value g (Some s) has = action_keeps value g s.action s.operand has

bytes_keep : (text : List ℕ) (r : Result (List ℕ → Option ℕ) AsmFault) → KeepsAll Any r
    → KeepsAll StandOnce (with_names text r)
bytes_keep text (Ok value) kept =
    through_keeps StandOnce (given_by_line value) (λ g l has. given_keeps value g (statement_of l) has) empty 1
    (lines_of text) (tt, tt)
bytes_keep text (Err f) kept = kept

source_keeps : (source : List ℕ) → KeepsAll StandOnce (assembled source)
source_keeps source =
    let text = str_to_ascii_uppercase source in bytes_keep text (names_of text) (names_keep text)

-- ---- an image of them: from each address the byte there

module _ (f : ℕ → Option ℕ) where
  abbrev with_byte : ℕ → Option ℕ → List (ℕ × ℕ) → List (ℕ × ℕ)
  with_byte at None bytes = bytes
  with_byte at (Some v) bytes = (at, v) ∷ bytes

  abbrev bytes_from : ℕ → ℕ → List (ℕ × ℕ)
  bytes_from at zero = []
  bytes_from at (suc n) = with_byte at (f at) (bytes_from (at + 1) n)

  elsewhere : (at n q : ℕ) → is_same q at ≡ false → (o : Option ℕ) → byte_at (bytes_from (at + 1) n) q ≡ None
      → byte_at (with_byte at o (bytes_from (at + 1) n)) q ≡ None
  elsewhere at n q other None rest = rest
  elsewhere at n q other (Some v) rest =
      ap (λ b. cond b (Some v) (byte_at (bytes_from (at + 1) n) q)) other ∙ rest

  below_bytes : (at n q : ℕ) → q < at → byte_at (bytes_from at n) q ≡ None
  below_bytes at zero q l = refl
  below_bytes at (suc n) q l = elsewhere at n q (lower at q l) (f at) (below_bytes (at + 1) n q (omega (arith, l)))

  same : (q : ℕ) → is_same q q ≡ true
  same q = grind (arith, nat_tests)

  apart : (p q : ℕ) → p ≢ q → is_same q p ≡ false
  apart p q other = grind (arith, nat_tests)

  byte_of : (at n q : ℕ) → at ≤ q → q < at + n → byte_at (bytes_from at n) q ≡ f q
  byte_of at zero q low high = absurd (omega (arith, low, high))
  byte_of at (suc n) q low high = elim (cases_eq at q) [
    | inl here ↦ subst (λ k. byte_at (bytes_from at (suc n)) k ≡ f k) here (at_first (f at))
    | inr other ↦
        past other (f at) (byte_of (at + 1) n q (omega (arith, low, other)) (omega (arith, high)))
  ]
    where
      at_first : (o : Option ℕ) → byte_at (with_byte at o (bytes_from (at + 1) n)) at ≡ o
      at_first None = below_bytes (at + 1) n at (omega arith)
      at_first (Some v) = ap (λ b. cond b (Some v) (byte_at (bytes_from (at + 1) n) at)) (same at)

      past : at ≢ q → (o : Option ℕ) → byte_at (bytes_from (at + 1) n) q ≡ f q
          → byte_at (with_byte at o (bytes_from (at + 1) n)) q ≡ f q
      past other None rest = rest
      past other (Some v) rest =
          ap (λ b. cond b (Some v) (byte_at (bytes_from (at + 1) n) q)) (apart at q other) ∙ rest

  behind_bytes : (at n q : ℕ) → at + n ≤ q → byte_at (bytes_from at n) q ≡ None
  behind_bytes at zero q high = refl
  behind_bytes at (suc n) q high =
      elsewhere at n q (apart at q (λ e. omega (arith, e, high))) (f at)
      (behind_bytes (at + 1) n q (omega (arith, high)))

  less : (p q : ℕ) → p < q → nat_cmp p q ≡ Less
  less p q h = grind (arith, nat_tests)

  keys_above : (p at n : ℕ) → p < at → AllByRecursion (λ q. nat_cmp p q ≡ Less) (keys_of (bytes_from at n))
  keys_above p at zero l = tt
  keys_above p at (suc n) l = by_first (f at) (keys_above p (at + 1) n (omega (arith, l)))
    where
      by_first : (o : Option ℕ) → AllByRecursion (λ q. nat_cmp p q ≡ Less) (keys_of (bytes_from (at + 1) n))
          → AllByRecursion (λ q. nat_cmp p q ≡ Less) (keys_of (with_byte at o (bytes_from (at + 1) n)))
      by_first None rest = rest
      by_first (Some v) rest = (less p at l, rest)

  ascend : (at n : ℕ) → IsAscending (bytes_from at n)
  unfolding IsStrictlySortedBy
  ascend at zero = tt
  ascend at (suc n) = by_first (f at) (ascend (at + 1) n)
    where
      by_first : (o : Option ℕ) → IsAscending (bytes_from (at + 1) n)
          → IsAscending (with_byte at o (bytes_from (at + 1) n))
      by_first None rest = rest
      by_first (Some v) rest = (keys_above at (at + 1) n (omega arith), rest)

image_of : (given : List (ℕ × ℕ)) → AreOnce given
    → (image : List (ℕ × ℕ)) × IsAscending image × Holds image given
image_of given (once, fit) =
    let top = highest given in
    let image = bytes_from (byte_at given) 0 top.0 in (
      image,
      ascend (byte_at given) 0 top.0,
      record {
        bytes = λ q. elim (cases_lt q top.0) [
          | inl inside ↦ byte_of (byte_at given) 0 top.0 q (omega arith) (omega (arith, inside))
          | inr past ↦ behind_bytes (byte_at given) 0 top.0 q (omega (arith, past)) ∙ sym (top.1 q past)
        ];
        once = once;
        fits = fit;
      },
    )

-- ---- sources

pub source_answers : EachSourceIsJudged
source_answers source = of_result (assembled source) (source_keeps source)
  where
    of_result : (r : Result Given AsmFault) → KeepsAll StandOnce r → IsSourceAnswer r
    of_result (Ok g) kept = image_of g.bytes kept
    of_result (Err f) kept = kept
