use Rattle.std.proofs.Common.{◌≡◌, ◌∙◌, Option, None, Some, false, length, refl, sym, ap, subst, arith}
use Rattle.std.specs.Option.{is_some}
use Rattle.fz_num.specs.declared.dec.Dec.{Dec}
use Rattle.error_bound.specs.Masses.{IsRuleMass}
use Rattle.error_bound.proofs.{ListLemmas.slice_get-slice, MassLemmas.plain_mass}
use Rattle.fz_list.proofs.Algebra.{some_at}
use Rattle.error_bound.proofs.TightLawLemmas.{low_part-end, high_part-end}
use Rattle.error_bound.proofs.tables.BoxTable.mass_of_rule.Goals as goal

pub of-requires-clause-low : goal.of-requires-clause-low
of-requires-clause-low c =
    let r = some_at c.args.self.now.table.now.block.now.rules c.args.place c.requires.place in
    (c.ends_of_rule.ensures.low r.0 r.1).small

pub of-requires-clause-high : goal.of-requires-clause-high
of-requires-clause-high c =
    let r = some_at c.args.self.now.table.now.block.now.rules c.args.place c.requires.place in
    (c.ends_of_rule.ensures.high r.0 r.1).small

pub returns-then-is_some : goal.returns-then-is_some
returns-then-is_some c r found =
    let b = c.args.self.now.table.now.block.now in
    let box = c.args.self.now.bytes.0.items in
    let low = c.ends_of_rule.ensures.low r found in
    let high = c.ends_of_rule.ensures.high r found in
    let m = c.of.ensures in
    record {
      low = m.low ∙ low_part-end b box r c.ends_of_rule.result.low low;
      high = m.high ∙ high_part-end b box r c.ends_of_rule.result.high high;
      byte_low = m.byte_low ∙ low.byte;
      byte_high = m.byte_high ∙ high.byte;
      low_small = m.low_small;
      high_small = m.high_small;
      byte_low_small = m.byte_low_small;
      byte_high_small = m.byte_high_small;
    }

no_weight : (w : Option Dec) → is_some w ≡ false → w ≡ None
no_weight None e = refl
no_weight (Some w) e = absurd (let z : ⊥ = cc in z)

pub returns-else-is_some : goal.returns-else-is_some
returns-else-is_some c r found =
    let b = c.args.self.now.table.now.block.now in
    let box = c.args.self.now.bytes.0.items in
    let one = c.index-as_slice-place.result in
    let few = c.requires.place in
    let lens = ap length c.as_slice.ensures in
    let there = slice_get-slice c.as_slice.result.now b.rules c.args.place one c.as_slice.ensures (omega arith)
    c.index-as_slice-place.is in
    let both = sym there ∙ found in
    let same : one ≡ r = cc in
    let plain = no_weight one.weight (sym c.is_some.ensures ∙ c.if-is_some.false) in
    subst (λ q. IsRuleMass b box q c.mass_of.result) same
    (plain_mass b box one c.condition_of.result.now c.mass_of.result plain c.condition_of.ensures c.mass_of.ensures)
