use Rattle.rule_layout.proofs.Words.{◌-◌, arith}
use Rattle.std.proofs.lemmas.List.{length-set}
use Rattle.rule_layout.proofs.NumberLemmas.{NumbersFrom_more}
use Rattle.rule_layout.proofs.slots.SlotNumbers.new.Goals as goal

pub loop-number-preserved : goal.loop-number-preserved
loop-number-preserved c =
    let k = c.loop-number.number - 1 in (
      omega (arith, length-set c.loop-number.table c.place.result k, c.loop-number.invariant.0),
      NumbersFrom_more c.args.slots.now c.loop-number.number k c.place.result _ c.loop-number.table (omega arith)
          (omega arith) c.loop-number.invariant.0 c.requires.known c.place.ensures.value c.loop-number.invariant.1,
    )
