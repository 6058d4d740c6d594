-- What the conditions of the program are in the grammar, and how large they are.
-- Reached by the promise.
use Rattle.std.specs.Prelude.{ℕ, ◌+◌, List, [], ◌∷◌}
use Rattle.fcl_syntax.specs.declared.tree.Node.{Node}
use Rattle.fcl_syntax.specs.declared.tree.Node.TheVariants as node
use Rattle.fcl_syntax.specs.Grammar.{TNot, neg, group, is, lone, TNots, no_nots, more_nots, TAnd, and_of, TAnds}
use Rattle.fcl_syntax.specs.Grammar.{no_ands, more_ands, TOr, or_of}

abbrev pub nots_of : List (ℕ × TNot) → TNots
nots_of [] = no_nots
nots_of (t ∷ ts) = more_nots t.0 t.1 (nots_of ts)

abbrev pub ands_of : List (ℕ × TAnd) → TAnds
ands_of [] = no_ands
ands_of (a ∷ items) = more_ands a.0 a.1 (ands_of items)

abbrev pub not_of : Node → TNot
not_of (node.Not at t) = neg at t.value
not_of (node.Group at o) = group at o.value
not_of (node.Is o) = is o.variable o.is_at o.not_at o.term

-- how many parts a condition has, with those that hold others
abbrev mutual
  pub not_size : TNot → ℕ
  not_size (neg at t) = 1 + not_size t
  not_size (group at o) = 1 + or_size o
  not_size (is v i b t) = 1
  not_size (lone v f) = 1

  pub nots_size : TNots → ℕ
  nots_size no_nots = 0
  nots_size (more_nots at t ts) = not_size t + nots_size ts

  pub and_size : TAnd → ℕ
  and_size (and_of t ts) = 1 + not_size t + nots_size ts

  pub ands_size : TAnds → ℕ
  ands_size no_ands = 0
  ands_size (more_ands at a items) = and_size a + ands_size items

  pub or_size : TOr → ℕ
  or_size (or_of a items) = 1 + and_size a + ands_size items
