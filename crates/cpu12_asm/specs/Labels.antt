-- The values of labels, in words of the lines before them.
-- Beside the promise.
use Rattle.std.specs.Prelude.{ℕ, ◌≡◌, ◌≢◌, ◌≤◌, ◌<◌, ◌+◌, List, [], ◌∷◌, ◌++◌, length, slice_index, Option, Some, None}
use Rattle.std.specs.Prelude.{Ok}
use Rattle.std.specs.List.{sum_by}
use Rattle.std.specs.Str.{str_to_ascii_uppercase}
use Rattle.cpu12_asm.specs.declared.statements.Action.{Action}
use Rattle.cpu12_asm.specs.declared.statements.Action.TheVariants.{Origin, Equate}
use Rattle.cpu12_asm.specs.{Bytes.byte_at, Expressions.sum_of, Lines.lines_of, Sources.Assembles, Sources.names_of}
use Rattle.cpu12_asm.specs.Giving.{bytes_with, limits_of, values_within}
use Rattle.cpu12_asm.specs.{Statements.Statement, Statements.statement_of, Values.size_of, Values.within}

-- how many bytes a line gives
abbrev pub statement_size : Option Statement → ℕ
statement_size None = 0
statement_size (Some s) = size_of s.action s.operand

abbrev pub line_size : List ℕ → ℕ
line_size line = statement_size (statement_of line)

-- a line says this
pub record Says (line name : List ℕ) (action : Action) (operand : List ℕ) : Type 0 where
  pub is : statement_of line ≡ Some (record { name = name; action = action; operand = operand })

-- none of these lines is an ORG
abbrev pub HasNoOrigin : List (List ℕ) → Type 0
HasNoOrigin [] = Unit {0}
HasNoOrigin (line ∷ lines) = ((name operand : List ℕ) → Says line name Origin operand → ⊥) × HasNoOrigin lines

-- the place behind lines: as many bytes behind the last ORG's value as the lines since then give, or behind 0 with no
-- ORG
pub data IsPlaceBehind (value : List ℕ → Option ℕ) : List (List ℕ) → ℕ → Type 0 where
  without_origin : (lines : List (List ℕ)) → HasNoOrigin lines → IsPlaceBehind value lines (sum_by line_size lines)
  behind_origin : (before since : List (List ℕ)) (line name operand : List ℕ) (to : ℕ) → Says line name Origin operand
      → within 65535 (sum_of value operand) ≡ Ok to → HasNoOrigin since
      → IsPlaceBehind value (before ++ line ∷ since) (to + sum_by line_size since)

-- the value of a label, the name of a line other than EQU, is the place of its line
abbrev pub LabelsArePlaces : Type 0
LabelsArePlaces = (text : List ℕ) (value : List ℕ → Option ℕ) → names_of text ≡ Ok value
    → (before after : List (List ℕ)) (line : List ℕ) → lines_of text ≡ before ++ line ∷ after
    → (name : List ℕ) (action : Action) (operand : List ℕ) → Says line name action operand → 1 ≤ length name
    → action ≢ Equate
    → (place : ℕ) × (value name ≡ Some place) × IsPlaceBehind value before place

-- the value of the name of an EQU is its expression's
abbrev pub EquatesAreValues : Type 0
EquatesAreValues = (text : List ℕ) (value : List ℕ → Option ℕ) → names_of text ≡ Ok value
    → (before after : List (List ℕ)) (line : List ℕ) → lines_of text ≡ before ++ line ∷ after
    → (name operand : List ℕ) → Says line name Equate operand → 1 ≤ length name
    → (to : ℕ) × (value name ≡ Some to) × (within 65535 (sum_of value operand) ≡ Ok to)

-- a line's bytes stand in an image from its place on, as many as it counts for
pub record Stands (value : List ℕ → Option ℕ) (image : List (ℕ × ℕ))
    (before : List (List ℕ)) (line : List ℕ) : Type 0 where
  pub place : ℕ
  pub is_place : IsPlaceBehind value before place
  pub name : List ℕ
  pub action : Action
  pub operand : List ℕ
  pub says : Says line name action operand
  pub values : List ℕ
  pub values_are : values_within value operand (limits_of action) ≡ Ok values
  pub size : length (bytes_with place action values) ≡ line_size line
  pub bytes : (k : ℕ) → k < line_size line
      → byte_at image (place + k) ≡ Some (slice_index (bytes_with place action values) k)

-- each line of a source that gives an image stands in it
abbrev pub LinesStand : Type 0
LinesStand = (source : List ℕ) (image : List (ℕ × ℕ)) → Assembles source image
    → (value : List ℕ → Option ℕ) → names_of (str_to_ascii_uppercase source) ≡ Ok value
    → (before after : List (List ℕ)) (line : List ℕ) → lines_of (str_to_ascii_uppercase source) ≡ before ++ line ∷ after
    → Stands value image before line
