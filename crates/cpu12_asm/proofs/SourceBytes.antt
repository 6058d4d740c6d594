-- What a source gives are bytes.
use Rattle.std.proofs.Common.{◌≡◌, ℕ, zero, suc, ◌+◌, ◌-◌, ◌^◌, ◌<◌, Bool, true, false, List, [], ◌∷◌}
use Rattle.std.proofs.Common.{◌++◌, length, map, drop, Option, Some, None, Result, Ok, Err, refl, subst, sym, ap}
use Rattle.std.proofs.Common.{arith}
use Rattle.std.specs.Prelude.{◌&&◌, ◌||◌, ◌==◌, nat_lt, slice_index, if◌then◌else◌, IfOk, IfSome, codes}
use Rattle.std.specs.{List.AllByRecursion, List.find, List.flat_map, Str.bytes_eq, Str.str_to_ascii_uppercase}
use Rattle.std.proofs.lemmas.Bool.{cond_both}
use Rattle.std.proofs.lemmas.Bool.Decides.{nat_tests}
use Rattle.std.proofs.lemmas.List.Elements.{All-append, All-from_recursion}
use Rattle.cpu12_isa.specs.declared.instr.Instr.{Instr}
use Rattle.cpu12_isa.specs.declared.encodings.{Encoding.Encoding, Operand.Operand, Page.Page, Page.TheVariants.One}
use Rattle.cpu12_isa.specs.declared.encodings.Operand.TheVariants.{Byte, Word, Address, Offset, ByteToAddress}
use Rattle.cpu12_isa.specs.declared.encodings.Operand.TheVariants.{AddressToAddress}
use Rattle.cpu12_isa.specs.{Encodings.every, Encodings.encoding_of, Encodings.operand_bytes, Encodings.prebytes}
use Rattle.cpu12_isa.specs.Memory.{low_of}
use Rattle.cpu12_isa.proofs.Algebra.{opcode_is_byte}
use Rattle.cpu12_asm.specs.declared.{expressions.Sum.Sum, faults.LineFault.LineFault, items.AsmFault.AsmFault}
use Rattle.cpu12_asm.specs.declared.{operands.Limits.Limits, statements.Action.Action}
use Rattle.cpu12_asm.specs.declared.statements.Action.TheVariants.{Nothing, Origin, Equate, Bytes, Words, Operate}
use Rattle.cpu12_asm.specs.{Bytes.placed, Expressions.sum_of, Expressions.is_name, Faults.on_line, Faults.through}
use Rattle.cpu12_asm.specs.Giving.{Given, before, branches_far, bytes_with, given, given_with, limits_of, moved}
use Rattle.cpu12_asm.specs.Giving.{operand_limits, operand_with, overlaps, put, put_values, values_from, values_of}
use Rattle.cpu12_asm.specs.Giving.{any_unknown, values_within, word_bytes}
use Rattle.cpu12_asm.specs.{Lines.behind_word, Lines.code_of, Lines.first_word, Lines.lines_of, Lines.pieces}
use Rattle.cpu12_asm.specs.Sources.{assembled, empty, given_by_line, names_of, with_names}
use Rattle.cpu12_asm.specs.Statements.{Statement, action_of, allowed, are_expressions, is_expression, is_named_by}
use Rattle.cpu12_asm.specs.Statements.{operate}
use Rattle.cpu12_asm.specs.Statements.{stated, statement_of, statement_with}
use Rattle.cpu12_asm.specs.Values.{fits, within}
use Rattle.cpu12_asm.specs.Laws.{GiveBytes}
use Rattle.cpu12_asm.specs.declared.faults.LineFault.TheVariants as fault

abbrev AreBytes : List ℕ → Type 0
AreBytes bytes = AllByRecursion (λ v. v < 2 ^ 8) bytes

abbrev AreWords : List ℕ → Type 0
AreWords vs = AllByRecursion (λ v. v < 2 ^ 16) vs

-- ---- the values of operands

fits_below : (limit : ℕ) (s : Sum) → limit < 2 ^ 16 → fits limit s ≡ true → s.added - s.taken < 2 ^ 16
fits_below limit s small is = grind (arith, nat_tests)

before_words : (v : ℕ) (r : Result (List ℕ) LineFault) → v < 2 ^ 16 → IfOk r AreWords → IfOk (before v r) AreWords
before_words v (Ok vs) word words = (word, words)
before_words v (Err f) word words = tt

values_are_words : (value : List ℕ → Option ℕ) (first other : ℕ) (es : List (List ℕ)) → first < 2 ^ 16
    → other < 2 ^ 16 → IfOk (values_from value first other es) AreWords
values_are_words value first other [] first_to other_to = tt
values_are_words value first other (e ∷ es) first_to other_to =
    let v = (sum_of value e).added - (sum_of value e).taken in
    let rest = values_from value other other es in
    cond_both (fits first (sum_of value e)) (before v rest) (Err fault.Range) (λ r. IfOk r AreWords)
    (λ is. before_words v rest (fits_below first (sum_of value e) first_to is)
    (values_are_words value other other es other_to other_to))
    (λ is. tt)

abbrev AreLimits : Limits → Type 0
AreLimits l = (l.first < 2 ^ 16) × (l.other < 2 ^ 16)

operand_limits_are : (o : Operand) → IfSome (operand_limits o) AreLimits
operand_limits_are (Byte v) = (omega arith, omega arith)
operand_limits_are (Word v) = (omega arith, omega arith)
operand_limits_are (Address v) = (omega arith, omega arith)
operand_limits_are (Offset v) = (omega arith, omega arith)
operand_limits_are (ByteToAddress v at) = (omega arith, omega arith)
operand_limits_are (AddressToAddress source at) = (omega arith, omega arith)
operand_limits_are o = tt

limits_are : (a : Action) → IfSome (limits_of a) AreLimits
limits_are Bytes = (omega arith, omega arith)
limits_are Words = (omega arith, omega arith)
limits_are (Operate encoding) = operand_limits_are encoding.operand
limits_are a = tt

within_are_words : (value : List ℕ → Option ℕ) (text : List ℕ) (o : Option Limits) → IfSome o AreLimits
    → IfOk (values_within value text o) AreWords
within_are_words value text None are = tt
within_are_words value text (Some l) are = of_text (if l.immediate then drop 1 text else text)
  where
    of_text : (text : List ℕ) → IfOk (values_of value l.first l.other text) AreWords
    of_text text =
        let parts = pieces 0x2C text in
        cond_both (any_unknown value parts) (Err fault.UnknownName) (values_from value l.first l.other parts)
        (λ r. IfOk r AreWords) (λ is. tt) (λ is. values_are_words value l.first l.other parts are.0 are.1)

-- ---- the bytes of an instruction

value_at : (vs : List ℕ) (k : ℕ) → AreWords vs → slice_index vs k < 2 ^ 16
value_at [] k words = omega arith
value_at (v ∷ vs) zero words = words.0
value_at (v ∷ vs) (suc k) words = value_at vs k words.1

with_word : (v : ℕ) (bytes : List ℕ) → v < 2 ^ 16 → AreBytes bytes → AreBytes (word_bytes v ++ bytes)
with_word v bytes word are = (omega (arith, word), (omega arith, are))

operand_are_bytes : (place : ℕ) (vs : List ℕ) (o : Operand) → AreWords vs
    → AreBytes (operand_bytes (operand_with place vs o))
operand_are_bytes place vs (Byte v) words = (omega arith, tt)
operand_are_bytes place vs (Offset v) words = (omega arith, tt)
operand_are_bytes place vs (Word v) words = with_word (slice_index vs 0) [] (value_at vs 0 words) tt
operand_are_bytes place vs (Address v) words = with_word (slice_index vs 0) [] (value_at vs 0 words) tt
operand_are_bytes place vs (ByteToAddress v at) words =
    (omega arith, with_word (slice_index vs 1) [] (value_at vs 1 words) tt)
operand_are_bytes place vs (AddressToAddress source at) words =
    with_word (slice_index vs 0) (word_bytes (slice_index vs 1)) (value_at vs 0 words)
    (with_word (slice_index vs 1) [] (value_at vs 1 words) tt)
operand_are_bytes place vs o words = tt

page_are_bytes : (page : Page) (bytes : List ℕ) → AreBytes bytes → AreBytes (prebytes page ++ bytes)
page_are_bytes One bytes are = are
page_are_bytes page bytes are = (omega arith, are)

-- ---- what a line says

-- an operation is that of an instruction
abbrev IsInstruction : Action → Type 0
IsInstruction (Operate encoding) = (i : Instr) × (encoding ≡ encoding_of i)
IsInstruction a = Unit {0}

abbrev Says : Option Action → Type 0
Says o = IfSome o IsInstruction

operate_says : (o : Option Instr) → Says (operate o)
operate_says None = tt
operate_says (Some i) = (i, refl)

allowed_says : (b : Bool) (a : Action) → IsInstruction a → Says (allowed b a)
allowed_says true a is = is
allowed_says false a is = tt

action_says : (is_named : Bool) (word text : List ℕ) → Says (action_of is_named word text)
action_says is_named word text =
    let parts = are_expressions text in
    let o5 = operate (find (is_named_by word text) every) in
    let o4 = if bytes_eq word (codes "FDB") then allowed parts Words else o5 in
    let o3 = if bytes_eq word (codes "FCB") then allowed parts Bytes else o4 in
    let o2 = if bytes_eq word (codes "EQU") then allowed (is_named && is_expression text) Equate else o3 in
    let o1 = if bytes_eq word (codes "ORG") then allowed (is_expression text) Origin else o2 in
    cond_both (length word == 0) (Some Nothing) o1 Says (λ is. tt)
    (λ is. cond_both (bytes_eq word (codes "ORG")) (allowed (is_expression text) Origin) o2 Says
    (λ is. allowed_says (is_expression text) Origin tt)
    (λ is. cond_both (bytes_eq word (codes "EQU")) (allowed (is_named && is_expression text) Equate) o3 Says
    (λ is. allowed_says (is_named && is_expression text) Equate tt)
    (λ is. cond_both (bytes_eq word (codes "FCB")) (allowed parts Bytes) o4 Says
    (λ is. allowed_says parts Bytes tt)
    (λ is. cond_both (bytes_eq word (codes "FDB")) (allowed parts Words) o5 Says
    (λ is. allowed_says parts Words tt) (λ is. operate_says (find (is_named_by word text) every))))))

abbrev States : Option Statement → Type 0
States o = IfSome o (λ s. IsInstruction s.action)

stated_says : (name operand : List ℕ) (o : Option Action) → Says o → States (stated name operand o)
stated_says name operand None says = tt
stated_says name operand (Some a) says = says

statement_says : (line : List ℕ) → States (statement_of line)
statement_says line =
    let name = first_word (code_of line) in
    let text = behind_word (code_of line) in
    let operand = first_word (behind_word text) in
    let action = action_of (nat_lt 0 (length name)) (first_word text) operand in
    let says = stated_says name operand action (action_says (nat_lt 0 (length name)) (first_word text) operand) in
    cond_both ((length name == 0) || is_name name) (statement_with name text) None States
    (λ is. cond_both (length (behind_word (behind_word text)) == 0) (stated name operand action) None States
    (λ is. says) (λ is. tt)) (λ is. tt)

-- ---- what it gives

low_bytes : (vs : List ℕ) → AreBytes (map low_of vs)
low_bytes [] = tt
low_bytes (v ∷ vs) = (omega arith, low_bytes vs)

words_are_bytes : (vs : List ℕ) → AreWords vs → AreBytes (flat_map word_bytes vs)
words_are_bytes [] words = tt
words_are_bytes (v ∷ vs) words = with_word v (flat_map word_bytes vs) words.0 (words_are_bytes vs words.1)

with_are_bytes : (place : ℕ) (a : Action) (vs : List ℕ) → IsInstruction a → AreWords vs
    → AreBytes (bytes_with place a vs)
with_are_bytes place Bytes vs is words = low_bytes vs
with_are_bytes place Words vs is words = words_are_bytes vs words
with_are_bytes place (Operate encoding) vs is words =
    let operand = operand_bytes (operand_with place vs encoding.operand) in
    page_are_bytes encoding.page (encoding.opcode ∷ operand) (
      subst (λ (n : ℕ). n < 2 ^ 8) (sym (ap (λ (f : Encoding). f.opcode) is.1)) (opcode_is_byte is.0),
      operand_are_bytes place vs encoding.operand words,
    )
with_are_bytes place a vs is words = tt

placed_bytes : (at : ℕ) (bytes : List ℕ) → AreBytes bytes
    → AllByRecursion (λ (p : ℕ × ℕ). p.1 < 2 ^ 8) (placed at bytes)
placed_bytes at [] are = tt
placed_bytes at (b ∷ bytes) are = (are.0, placed_bytes (at + 1) bytes are.1)

abbrev Fits : Result Given LineFault → Type 0
Fits r = IfOk r (λ g. GiveBytes g.bytes)

put_fits : (g : Given) (far : Bool) (bytes : List ℕ) → GiveBytes g.bytes → AreBytes bytes → Fits (put g far bytes)
put_fits g far bytes have are =
    let after : Given = record { place = g.place + length bytes; bytes = g.bytes ++ placed g.place bytes } in
    let free : Result Given LineFault = if overlaps g bytes then Err fault.Overlap else Ok after in
    let near : Result Given LineFault = if far then Err fault.BranchFar else free in
    cond_both (nat_lt (2 ^ 16) (g.place + length bytes)) (Err fault.Range) near Fits (λ is. tt)
    (λ is. cond_both far (Err fault.BranchFar) free Fits (λ is. tt)
    (λ is. cond_both (overlaps g bytes) (Err fault.Overlap) (Ok after) Fits (λ is. tt)
    (λ is. All-append (λ (p : ℕ × ℕ). p.1 < 2 ^ 8) g.bytes (placed g.place bytes) have
    (All-from_recursion (λ (p : ℕ × ℕ). p.1 < 2 ^ 8) (placed g.place bytes) (placed_bytes g.place bytes are)))))

values_fit : (g : Given) (a : Action) (r : Result (List ℕ) LineFault) → IsInstruction a → GiveBytes g.bytes
    → IfOk r AreWords → Fits (put_values g a r)
values_fit g a (Ok vs) is have words =
    put_fits g (branches_far g.place a vs) (bytes_with g.place a vs) have (with_are_bytes g.place a vs is words)
values_fit g a (Err f) is have words = tt

moved_fits : (g : Given) (r : Result ℕ LineFault) → GiveBytes g.bytes → Fits (moved g r)
moved_fits g (Ok place) have = have
moved_fits g (Err f) have = tt

with_fits : (value : List ℕ → Option ℕ) (g : Given) (a : Action) (text : List ℕ) → IsInstruction a
    → GiveBytes g.bytes → Fits (given_with value g a text)
with_fits value g Origin text is have = moved_fits g (within 0xFFFF (sum_of value text)) have
with_fits value g a text is have =
    values_fit g a (values_within value text (limits_of a)) is have
    (within_are_words value text (limits_of a) (limits_are a))

given_fits : (value : List ℕ → Option ℕ) (g : Given) (o : Option Statement) → States o → GiveBytes g.bytes
    → Fits (given value g o)
given_fits value g None says have = tt
given_fits value g (Some s) says have = with_fits value g s.action s.operand says have

-- ---- all lines

abbrev AllFit : Result Given AsmFault → Type 0
AllFit r = IfOk r (λ g. GiveBytes g.bytes)

on_line_fits : (n : ℕ) (r : Result Given LineFault) (on : Given → Result Given AsmFault) → Fits r
    → ((g : Given) → GiveBytes g.bytes → AllFit (on g)) → AllFit (on_line n r on)
on_line_fits n (Ok g) on fit goes_on = goes_on g fit
on_line_fits n (Err f) on fit goes_on = tt

through_fits : (value : List ℕ → Option ℕ) (g : Given) (n : ℕ) (lines : List (List ℕ)) → GiveBytes g.bytes
    → AllFit (through (given_by_line value) g n lines)
through_fits value g n [] have = have
through_fits value g n (line ∷ lines) have =
    on_line_fits n (given_by_line value g line) (λ t. through (given_by_line value) t (n + 1) lines)
    (given_fits value g (statement_of line) (statement_says line) have)
    (λ t fits. through_fits value t (n + 1) lines fits)

names_fit : (text : List ℕ) (r : Result (List ℕ → Option ℕ) AsmFault) → AllFit (with_names text r)
names_fit text (Ok value) =
    through_fits value empty 1 (lines_of text) (All-from_recursion (λ (p : ℕ × ℕ). p.1 < 2 ^ 8) [] tt)
names_fit text (Err f) = tt

pub given_bytes : (source : List ℕ) (g : Given) → assembled source ≡ Ok g → GiveBytes g.bytes
given_bytes source g is =
    let text = str_to_ascii_uppercase source in
    subst AllFit is (names_fit text (names_of text))
