-- The conditions of the grammar as stored values. It serves the prover alone: a type that contracts see as a
-- condition owes a `Coded` of conditions.
-- Beside the promise.
use Rattle.std.specs.Prelude.{◌≡◌, ℕ, true, refl}
use Rattle.std.proofs.Common.{ap}
use Rattle.std.specs.Coded.{Coded, Coded-set, coded_bool}
use base.Stored.{Gv, gnil, gnum, gcons, num}
use mathlib.Core.HLevel.{is_prop→PathP}
use Rattle.fcl_tokens.specs.contracts.token.Token as token
use Rattle.fcl_syntax.specs.contracts.tree.Name as name
use Rattle.fcl_syntax.specs.contracts.tree.Operand as operand
use Rattle.fcl_syntax.specs.declared.tree.Operand.{Operand}
use Rattle.fcl_syntax.specs.Grammar.{TNot, neg, group, is, lone, TNots, no_nots, more_nots, TAnd, and_of, TAnds}
use Rattle.fcl_syntax.specs.Grammar.{no_ands, more_ands, TOr, or_of}
use Rattle.fcl_syntax.specs.TokenClasses.{Among, class_of, follow_classes, mem}

-- a constructor's number before its parts
abbrev mutual
  not_stored : TNot → Gv
  not_stored (neg at t) = gcons (gnum 0) (gcons (gnum at) (not_stored t))
  not_stored (group at o) = gcons (gnum 1) (gcons (gnum at) (or_stored o))
  not_stored (is v i b t) =
      gcons (gnum 2) (operand.the_row.coded.code (record { variable = v; is_at = i; not_at = b; term = t }))
  not_stored (lone v f) = gcons (gnum 3) (gcons (name.the_row.coded.code v) (token.the_row.coded.code f.token))

  nots_stored : TNots → Gv
  nots_stored no_nots = gnil
  nots_stored (more_nots at t ts) = gcons (gnum at) (gcons (not_stored t) (nots_stored ts))

  and_stored : TAnd → Gv
  and_stored (and_of t ts) = gcons (not_stored t) (nots_stored ts)

  ands_stored : TAnds → Gv
  ands_stored no_ands = gnil
  ands_stored (more_ands at a items) = gcons (gnum at) (gcons (and_stored a) (ands_stored items))

  or_stored : TOr → Gv
  or_stored (or_of a items) = gcons (and_stored a) (ands_stored items)

abbrev left : Gv → Gv
left gnil = gnil
left (gnum n) = gnil
left (gcons a b) = a

abbrev right : Gv → Gv
right gnil = gnil
right (gnum n) = gnil
right (gcons a b) = b

abbrev first : Gv → ℕ
first g = num (left g)

-- which of two constructors a stored list begins with
abbrev is_pair : Gv → ℕ
is_pair gnil = 0
is_pair (gnum n) = 0
is_pair (gcons a b) = 1

abbrev operand_not : Operand → TNot
operand_not o = is o.variable o.is_at o.not_at o.term

-- the proof beside a token is one
follow_one : (f g : Among follow_classes) → f.token ≡ g.token → f ≡ g
follow_one f g e = λ i. record {
  token = e i;
  is =
      is_prop→PathP (λ j. mem (class_of (e j)) follow_classes ≡ true)
      (λ j. Coded-set coded_bool (mem (class_of (e j)) follow_classes) true) f.is g.is i;
}

mutual
  pub not_one : (x y : TNot) → not_stored x ≡ not_stored y → x ≡ y
  not_one (neg a t) (neg b u) p =
      λ i. neg (first (right (p i))) (not_one t u (ap (λ g. right (right g)) p) i)
  not_one (group a t) (group b u) p =
      λ i. group (first (right (p i))) (or_one t u (ap (λ g. right (right g)) p) i)
  not_one (is v i b t) (is w j c u) p = ap operand_not (operand.the_row.coded.inj _ _ (ap right p))
  not_one (lone v f) (lone w g) p =
      λ i. lone (name.the_row.coded.inj v w (ap (λ g. left (right g)) p) i)
      (follow_one f g (token.the_row.coded.inj f.token g.token (ap (λ g. right (right g)) p)) i)
  not_one _ _ p = absurd (let e = ap first p in let x : ⊥ = cc in x)

  nots_one : (x y : TNots) → nots_stored x ≡ nots_stored y → x ≡ y
  nots_one no_nots no_nots p = refl
  nots_one (more_nots a t ts) (more_nots b u us) p =
      λ i. more_nots (first (p i)) (not_one t u (ap (λ g. left (right g)) p) i)
      (nots_one ts us (ap (λ g. right (right g)) p) i)
  nots_one _ _ p = absurd (let e = ap is_pair p in let x : ⊥ = cc in x)

  pub and_one : (x y : TAnd) → and_stored x ≡ and_stored y → x ≡ y
  and_one (and_of t ts) (and_of u us) p = λ i. and_of (not_one t u (ap left p) i) (nots_one ts us (ap right p) i)

  ands_one : (x y : TAnds) → ands_stored x ≡ ands_stored y → x ≡ y
  ands_one no_ands no_ands p = refl
  ands_one (more_ands a t ts) (more_ands b u us) p =
      λ i. more_ands (first (p i)) (and_one t u (ap (λ g. left (right g)) p) i)
      (ands_one ts us (ap (λ g. right (right g)) p) i)
  ands_one _ _ p = absurd (let e = ap is_pair p in let x : ⊥ = cc in x)

  pub or_one : (x y : TOr) → or_stored x ≡ or_stored y → x ≡ y
  or_one (or_of t ts) (or_of u us) p = λ i. or_of (and_one t u (ap left p) i) (ands_one ts us (ap right p) i)

abbrev pub not_code : Coded TNot
not_code = record { code = not_stored; inj = not_one }

abbrev pub and_code : Coded TAnd
and_code = record { code = and_stored; inj = and_one }

abbrev pub or_code : Coded TOr
or_code = record { code = or_stored; inj = or_one }
