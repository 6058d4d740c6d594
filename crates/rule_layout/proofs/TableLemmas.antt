-- Conjunctions by the numbers of a table.
use Rattle.rule_layout.proofs.Words.{◌+◌, ◌<◌, ◌∙◌, ◌≡◌, ap, ap₂, Bool, Condition, conditions, false, get_or, length}
use Rattle.rule_layout.proofs.Words.{List, Literal, map, map-append, spread_of, spread_parts, spreads, sym}
use Rattle.rule_layout.proofs.Words.{table_literal, table_literals, take, true, ℕ}
use Rattle.rule_layout.proofs.{ChoicesLemmas.map-choices, SpreadLemmas.spread_parts-take}

table_literals-join : (table : List ℕ) (any : Bool) (xs ys : List (List Literal))
    → table_literals table (spreads.join any xs ys)
    ≡ spreads.join any (table_literals table xs) (table_literals table ys)
table_literals-join table true = map-append (map (table_literal table))
table_literals-join table false = map-choices (table_literal table)

pub numbers_more : (cs : List Condition) (i : ℕ) (p : Condition) → i < length cs → p ≡ get_or cs i p
    → (odd any : Bool) (table : List ℕ) (front part : List (List ℕ))
    → front ≡ table_literals table (spread_parts odd any (conditions (take i cs)))
    → part ≡ table_literals table (spread_of odd p)
    → spreads.join any front part ≡ table_literals table (spread_parts odd any (conditions (take (i + 1) cs)))
numbers_more cs i p lt same odd any table front part h k =
    ap₂ (spreads.join any) h k
    ∙ (sym (table_literals-join table any (spread_parts odd any (conditions (take i cs))) (spread_of odd p))
    ∙ ap (table_literals table) (sym (spread_parts-take odd any cs i p lt same)))
