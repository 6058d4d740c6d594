-- Words that are no number, lists of numbers, and targets.
use Rattle.std.proofs.Common.{◌≡◌, ◌∙◌, ℕ, ◌+◌, ◌<◌, ◌≤◌, ◌^◌, ◌++◌, true, List, [], ◌∷◌, length, get_or, drop}
use Rattle.std.proofs.Common.{Err, None, Option, Some, ap, append_assoc, arith, refl, rules, sym}
use Rattle.std.specs.Prelude.{All, nat_le, option_and_then, option_map}
use Rattle.std.proofs.lemmas.Bool.{cond_both}
use Rattle.std.proofs.lemmas.{List.append-nil, List.at_drop_all, List.at_drop_more, List.Elements.All-replicate}
use Rattle.std.specs.Char.{is_ascii_digit}
use Rattle.std.specs.List.{list_all}
use Rattle.std.specs.Str.Parse.{ParsesUnsigned, digits_value}
use Rattle.std.proofs.lemmas.Bool.Decides.{nat_tests}
use Rattle.std.proofs.lemmas.Str.Parse.{IsNumeralModel, numerals_by_value, parse_digits}
use Rattle.fuzzy_meaning.specs.declared.block.Block.{Block}
use Rattle.error_certifier.specs.{Targets.targets_of, declared.targets.Targets.Targets}
use Rattle.error_certifier.specs.declared.targets.Targets.TheVariants as targets
use Rattle.fz_status.specs.Words.{Text}
use Rattle.command_parts.specs.Words.{AreMillionths, each_number, number_of, number_up_to, numbers_in, parts_of}

own : IsNumeralModel (λ ds. list_all is_ascii_digit ds ≡ true) (digits_value 10)
own = numerals_by_value _ (search rules)

-- digits that are none, or of too large a number
pub no_number : {E : Type 0} (text : List ℕ) (e : E) → ParsesUnsigned {E = E} 32 10 text (Err e)
    → list_all is_ascii_digit text ≡ true → None ≡ number_up_to 4294967295 text
no_number text e parses digits =
    let never : (0 < length text) × (digits_value 10 text < 2 ^ 32) → ⊥ =
    parse_digits own 32 text (Err e) parses digits in
    let far : 0 < length text → digits_value 10 text ≤ 4294967295 → ⊥ = λ some few. never (some, omega (arith, few)) in
    grind (arith, nat_tests)

-- ---- numbers with a comma between

abbrev all_before : List ℕ → Option (List ℕ) → Option (List ℕ)
all_before ns more = option_map (λ ms. ns ++ ms) more

-- these are the numbers of the parts before place k, where those behind are numbers too
abbrev pub AreFirst : Text → ℕ → List ℕ → Type 0
AreFirst text k ns = all_before ns (each_number (drop k (parts_of text))) ≡ each_number (parts_of text)

-- the part is the one at place k
abbrev IsPart : Text → ℕ → Text → Type 0
IsPart text k part = (k < length (parts_of text)) × (part ≡ get_or (parts_of text) k part)

abbrev number_then : Option (List ℕ) → Option ℕ → Option (List ℕ)
number_then more number = option_and_then (λ n. option_map (λ ns. n ∷ ns) more) number

from_part : (text : Text) (k : ℕ) (part : Text) (o : Option ℕ) → IsPart text k part → number_of part ≡ o
    → each_number (drop k (parts_of text)) ≡ number_then (each_number (drop (k + 1) (parts_of text))) o
from_part text k part o is number = at_drop_more each_number (parts_of text) k part is.0
    ∙ ap (number_then (each_number (drop (k + 1) (parts_of text)))) (ap number_of (sym is.1) ∙ number)

pub no_numbers : (most : ℕ) (text : Text) (ns : List ℕ) (k : ℕ) (part : Text) → AreFirst text k ns
    → IsPart text k part → number_of part ≡ None → None ≡ numbers_in most text
no_numbers most text ns k part first is none =
    let each : each_number (parts_of text) ≡ None =
    sym first ∙ ap (all_before ns) (from_part text k part None is none) in
    rw each (cond_both (nat_le (length (parts_of text)) most) None None (λ o. None ≡ o) (λ t. refl) (λ f. refl))

pub many_numbers : (most : ℕ) (text : Text) → most < length (parts_of text) → None ≡ numbers_in most text
many_numbers most text more = grind (arith, nat_tests)

pub number_more : (text : Text) (ns : List ℕ) (k : ℕ) (part : Text) (n : ℕ) → AreFirst text k ns → IsPart text k part
    → number_of part ≡ Some n → AreFirst text (k + 1) (ns ++ n ∷ [])
number_more text ns k part n first is number =
    behind (each_number (drop (k + 1) (parts_of text)))
    ∙ ap (all_before ns) (sym (from_part text k part (Some n) is number)) ∙ first
  where
    behind : (more : Option (List ℕ)) → all_before (ns ++ n ∷ []) more ≡ all_before ns (number_then more (Some n))
    behind None = refl
    behind (Some ms) = ap (λ (l : List ℕ). Some l) (append_assoc ns (n ∷ []) ms)

pub all_numbers : (most : ℕ) (text : Text) (ns : List ℕ) (k : ℕ) → AreFirst text k ns → k ≡ length (parts_of text)
    → k ≤ most → Some ns ≡ numbers_in most text
all_numbers most text ns k first all few =
    let each : Some ns ≡ each_number (parts_of text) = ap (λ (l : List ℕ). Some l) (sym (append-nil ns))
    ∙ ap (all_before ns) (sym (at_drop_all each_number (parts_of text) k (omega (arith, all)))) ∙ first in
    let within : length (parts_of text) ≤ most = omega (arith, all, few) in
    grind (arith, nat_tests)

-- ---- targets

pub each_millionths : (b : Block) (t : Targets) → AreMillionths t → All (λ n. n ≤ 1000000) (targets_of b t)
each_millionths b (targets.All n) small = All-replicate (λ n. n ≤ 1000000) (length b.outputs) n small
each_millionths b (targets.Each ns) small = small
