-- The forms of words.
-- Beside the promise.
use Rattle.std.specs.Prelude.{ℕ, ◌==◌, ◌≤◌, ◌&&◌, nat_le, nat_lt, if◌then◌else◌, List, [], ◌∷◌, All, length}
use Rattle.std.specs.Prelude.{Option, Some, None, option_and_then, option_map, ◌≡◌, ◌<◌, ◌^◌}
use Rattle.std.specs.Char.{is_ascii_digit}
use Rattle.std.specs.List.{list_all, slice_split}
use Rattle.std.specs.Str.Parse.{digits_value}
use Rattle.box_tree.specs.declared.cert.CertKind.{CertKind}
use Rattle.box_tree.specs.declared.cert.CertKind.TheVariants as kind
use Rattle.error_certifier.specs.declared.targets.Targets.{Targets}
use Rattle.error_certifier.specs.declared.targets.Targets.TheVariants as targets
use Rattle.fz_status.specs.Words.{Text, flags_of}

-- one or more decimal digits, of a number up to the greatest
abbrev pub number_up_to : ℕ → Text → Option ℕ
number_up_to greatest text =
    if nat_lt 0 (length text) && (list_all is_ascii_digit text && nat_le (digits_value 10 text) greatest)
    then Some (digits_value 10 text)
    else None

-- STEPS, and each number of TARGET
abbrev pub number_of : Text → Option ℕ
number_of text = number_up_to 1000000 text

-- ---- TARGET

-- the parts of a text that stand between commas
abbrev pub parts_of : Text → List Text
parts_of text = slice_split (λ b. b == 0x2C) text

-- the number of each part, where each is one
abbrev pub each_number : List Text → Option (List ℕ)
each_number [] = Some []
each_number (part ∷ parts) = option_and_then (λ n. option_map (λ ns. n ∷ ns) (each_number parts)) (number_of part)

-- numbers with a comma between, at most so many
abbrev pub numbers_in : ℕ → Text → Option (List ℕ)
numbers_in most text = if nat_le (length (parts_of text)) most then each_number (parts_of text) else None

-- one number is for all outputs, and more are one for each
abbrev pub targets_with : List ℕ → Targets
targets_with [] = targets.Each (record { items = [] })
targets_with (n ∷ []) = targets.All n
targets_with (n ∷ m ∷ ns) = targets.Each (record { items = n ∷ m ∷ ns })

-- one number, or for a tight certificate as many as a block has outputs at most
abbrev pub targets_in : CertKind → Text → Option Targets
targets_in kind.Named text = option_map targets.All (number_of text)
targets_in kind.Tight text = option_map targets_with (numbers_in 4 text)

-- each number is one of millionths
abbrev pub AreMillionths : Targets → Type 0
AreMillionths (targets.All n) = n ≤ 1000000
AreMillionths (targets.Each ns) = All (λ n. n ≤ 1000000) ns.items

-- ---- FLAGS

abbrev pub FlagsAreBytes : Type 0
FlagsAreBytes = (text : Text) (n : ℕ) → flags_of text ≡ Some n → n < 2 ^ 8
