use Rattle.std.proofs.Common.{◌≡◌, ◌+◌, ◌*◌, ◌<◌, ℕ, List, drop, length, sym, ap, ◌∙◌, arith, refl, add-one}
use Rattle.std.specs.Prelude.{Some}
use Rattle.csv.specs.Records.{fields_of}
use Rattle.cpu12_isa.specs.declared.instr.Write.{Write}
use Rattle.interrupt_plan.specs.Rows.{writes_of}
use Rattle.interrupt_plan.proofs.PairLemmas.{all_pairs, first_pairs, writes_more, writes_stop}
use Rattle.interrupt_plan.proofs.PlanLemmas.{behind_two, length-behind_two}
use Rattle.interrupt_plan.proofs.row.writes_in.Goals as goal

pub returns-in-None : goal.returns-in-None
returns-in-None c =
    let fields = fields_of c.args.row.now in
    let lt : 2 * c.loop-i.i + 1 < length (drop 2 fields) =
    omega (arith, length-behind_two fields c.requires.some, c.len.ensures) in
    writes_stop c.loop-i.i (drop 2 fields) c.field_at.result.now c.field_at-in-loop-i.result.now lt
    (behind_two fields (2 * c.loop-i.i) (2 * c.loop-i.i + 2) refl ∙ c.field_at.ensures)
    (behind_two fields (2 * c.loop-i.i + 1) (2 * c.loop-i.i + 3) (omega arith) ∙ c.field_at-in-loop-i.ensures)
    (sym c.in-None.ensures)

pub loop-i-preserved : goal.loop-i-preserved
loop-i-preserved c =
    let fields = fields_of c.args.row.now in
    let lt : 2 * c.loop-i.i + 1 < length (drop 2 fields) =
    omega (arith, length-behind_two fields c.requires.some, c.len.ensures) in
    ap (λ (k : ℕ). writes_of (first_pairs k (drop 2 fields))) (add-one c.loop-i.i)
    ∙ writes_more c.loop-i.i (drop 2 fields) c.field_at.result.now c.field_at-in-loop-i.result.now c.loop-i.writes.items
    c.in-Some.write lt
    (behind_two fields (2 * c.loop-i.i) (2 * c.loop-i.i + 2) refl ∙ c.field_at.ensures)
    (behind_two fields (2 * c.loop-i.i + 1) (2 * c.loop-i.i + 3) (omega arith) ∙ c.field_at-in-loop-i.ensures)
    c.loop-i.invariant (sym c.in-Some.ensures)
    ∙ ap (λ (l : List Write). Some l) (sym c.in_ok-push-in-Some.ensures.items)

pub returns : goal.returns
returns c =
    let fields = fields_of c.args.row.now in
    let count : length (drop 2 fields) ≡ 2 * c.loop-i.i =
    omega (arith, length-behind_two fields c.requires.some, c.len.ensures, c.requires.pairs) in
    ap writes_of (sym (all_pairs c.loop-i.i (drop 2 fields) count)) ∙ c.loop-i.invariant
