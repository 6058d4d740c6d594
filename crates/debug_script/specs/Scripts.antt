-- What a script's text spells, and its first line that is of no form.
-- Beside the promise.
use Rattle.std.specs.Prelude.{◌≡◌, ◌⊎◌, ◌+◌, ◌==◌, ◌&&◌, nat_le, ℕ, Bool, List, [], ◌∷◌, codes}
use Rattle.std.specs.Prelude.{if◌then◌else◌, Option, Some, None, option_map, option_and_then, Result, Ok, Err}
use Rattle.std.specs.List.{after_first, before_first, slice_split}
use Rattle.std.specs.Str.{bytes_eq}
use Rattle.hex.specs.Hex.{decode_sized}
use Rattle.interrupt_plan.specs.Rows.{count_of, word_of}
use Rattle.debug_script.specs.declared.{order.Order.Order, order.ScriptFault.ScriptFault}
use Rattle.debug_script.specs.declared.order.Order.TheVariants.{Break, Unbreak, Watch, Unwatch, Step, Go, Registers}
use Rattle.debug_script.specs.declared.order.Order.TheVariants.{Memory}
use Rattle.debug_script.specs.declared.order.ScriptFault.TheVariants as fault

-- ---- a line

abbrev pub address_of : List ℕ → Option ℕ
address_of digits = word_of (decode_sized digits 2)

-- 1 to 1000000 positions, and 1 to 16 bytes
abbrev pub step_order : ℕ → Option Order
step_order n = if nat_le 1 n && nat_le n 1000000 then Some (Step n) else None

abbrev pub bytes_order : ℕ → ℕ → Option Order
bytes_order at n = if nat_le 1 n && nat_le n 16 then Some (Memory at n) else None

abbrev pub is_blank : ℕ → Bool
is_blank b = b == 0x20

-- an address, a blank and a number
abbrev pub memory_order : List ℕ → Option Order
memory_order text =
    option_and_then (λ at. option_and_then (bytes_order at) (count_of (after_first is_blank text)))
    (address_of (before_first is_blank text))

-- a word with these operands behind its blank
abbrev pub with_operands : List ℕ → List ℕ → Option Order
with_operands word text =
    if bytes_eq word (codes "break") then option_map Break (address_of text) else (
    if bytes_eq word (codes "unbreak") then option_map Unbreak (address_of text) else (
    if bytes_eq word (codes "watch") then option_map Watch (address_of text) else (
    if bytes_eq word (codes "unwatch") then option_map Unwatch (address_of text) else (
    if bytes_eq word (codes "step") then option_and_then step_order (count_of text) else (
    if bytes_eq word (codes "mem") then memory_order text else None)))))

-- the order of a line, without its end
abbrev pub order_of : List ℕ → Option Order
order_of line =
    if bytes_eq line (codes "go") then Some Go else (
    if bytes_eq line (codes "regs") then Some Registers else
    with_operands (before_first is_blank line) (after_first is_blank line))

-- ---- a text: its lines, each with a line feed behind it

-- what stands before, between and behind the line feeds
abbrev pub pieces : List ℕ → List (List ℕ)
pieces text = slice_split (λ b. b == 0x0A) text

-- the order of line number n before those behind it, or the first line that has none
abbrev pub with_order : ℕ → Option Order → Result (List Order) ℕ → Result (List Order) ℕ
with_order n None behind = Err n
with_order n (Some order) (Ok orders) = Ok (order ∷ orders)
with_order n (Some order) (Err k) = Err k

-- nothing stands behind the last line feed, or else that is a line without its end
abbrev pub at_end : ℕ → List ℕ → Result (List Order) ℕ
at_end n [] = Ok []
at_end n (b ∷ bs) = Err n

-- the orders of the lines from number n on
abbrev pub orders_from : ℕ → List (List ℕ) → Result (List Order) ℕ
orders_from n [] = Ok []
orders_from n (line ∷ []) = at_end n line
orders_from n (line ∷ next ∷ lines) = with_order n (order_of line) (orders_from (n + 1) (next ∷ lines))

-- the script that a text spells, or the number of its first line that is of no form
abbrev pub script_of : List ℕ → Result (List Order) ℕ
script_of text = orders_from 1 (pieces text)

abbrev pub IsFirstFault : List ℕ → ScriptFault → Type 0
IsFirstFault text (fault.Line n) = script_of text ≡ Err n
IsFirstFault text fault.Memory = ⊥

-- each text spells a script or has a first fault
abbrev pub EachTextIsJudged : Type 0
EachTextIsJudged = (text : List ℕ)
    → ((script : List Order) × (script_of text ≡ Ok script)) ⊎ ((f : ScriptFault) × IsFirstFault text f)
