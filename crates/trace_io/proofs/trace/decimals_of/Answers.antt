use Rattle.std.proofs.Common.{arith, sym}
use Rattle.csv.specs.Records.{fields_of}
use Rattle.csv.proofs.RecordFacts.{field-get, field-there}
use Rattle.trace_io.proofs.TraceLemmas.{decimals_more, decimals_none}
use Rattle.trace_io.proofs.trace.decimals_of.Goals as goal

pub returns-in-Err : goal.returns-in-Err
returns-in-Err c =
    let fields = fields_of c.args.row.now in
    decimals_none fields c.loop-i.i c.in-Some.field.now c.read.result c.in-Err.field-0
    (omega (arith, c.len-i-end.ensures))
    (field-get fields c.loop-i.i c.in-Some.field.now (sym c.in-Some.ensures.value)) c.read.ensures c.in-Err.is

pub unreachable-requires : goal.unreachable-requires
unreachable-requires c =
    field-there (fields_of c.args.row.now) c.loop-i.i (omega (arith, c.len-i-end.ensures)) (sym c.in-None.ensures.value)

pub loop-i-preserved : goal.loop-i-preserved
loop-i-preserved c =
    let fields = fields_of c.args.row.now in
    decimals_more fields c.loop-i.i c.loop-i.values.items _ c.in-Some.field.now c.read.result c.in-Ok.value
    (omega (arith, c.len-i-end.ensures))
    (field-get fields c.loop-i.i c.in-Some.field.now (sym c.in-Some.ensures.value))
    c.loop-i.invariant c.read.ensures c.in-Ok.is c.in_ok-push-in-Ok.ensures.items
