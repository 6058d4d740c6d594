-- What is written: the FCL text, and the fields of each row of the trace and of the plan.
-- Beside the promise.
use Rattle.std.specs.Prelude.{ℕ, ◌+◌, ◌*◌, ◌/◌, ◌%◌, List, [], ◌∷◌, ◌++◌, codes, flat_map}
use Rattle.std.specs.List.{range_with_len}
use Rattle.std.specs.Fmt.{decimal as digits}
use Rattle.hex.specs.Hex.{encode_upper}
use Rattle.trace_io.specs.FirstRows.{Fields}
use Rattle.cpu12_isa.specs.Regions.{free_start}
use Rattle.workload.specs.declared.texts.TheConstants.{VARIABLES}

-- rule number n, from 0, under a shift
abbrev pub rule_text : ℕ → ℕ → List ℕ
rule_text shift n =
    codes "RULE " ++ digits (n + 1) ++ codes " : IF x IS t" ++ digits (n / 9) ++ codes " AND y IS t" ++ digits (n % 9)
    ++ codes " THEN z IS s" ++ digits ((n / 9 + 2 * (n % 9) + shift) % 5) ++ codes ";\n"

-- the variables and their terms, and a rule for each pair of terms of the inputs
unfoldable pub fcl_text : ℕ → List ℕ
fcl_text shift =
    VARIABLES ++ (flat_map (rule_text shift) (range_with_len 0 81) ++ codes "END_RULEBLOCK\nEND_FUNCTION_BLOCK\n")

abbrev pub last_digit : ℕ → ℕ
last_digit n = 48 + n % 10

-- a number in 1/10000: its units, a point and four places
abbrev pub decimal_text : ℕ → List ℕ
decimal_text n = digits (n / 10000) ++
    (46 ∷ last_digit (n / 1000) ∷ last_digit (n / 100) ∷ last_digit (n / 10) ∷ last_digit n ∷ [])

-- the two numbers of a sample
abbrev pub sample_fields : ℕ × ℕ → Fields
sample_fields numbers = decimal_text numbers.0 ∷ decimal_text numbers.1 ∷ []

-- a sample, a moment in it, how far behind the first free byte is written, and what
abbrev pub request_fields : ℕ → ℕ × ℕ × ℕ → Fields
request_fields sample (moment, at, value) =
    digits sample ∷ digits moment ∷ encode_upper ((free_start + at) / 256 ∷ (free_start + at) % 256 ∷ [])
    ∷ encode_upper (value ∷ []) ∷ []
