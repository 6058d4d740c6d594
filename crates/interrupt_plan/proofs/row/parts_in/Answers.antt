use Rattle.std.proofs.Common.{List, ap, sym, ◌∙◌, arith}
use Rattle.std.specs.Prelude.{Some}
use Rattle.csv.specs.Records.{fields_of}
use Rattle.cpu12_isa.specs.declared.instr.Write.{Write}
use Rattle.interrupt_plan.proofs.PlanLemmas.{few_writes, spelled_count}
use Rattle.interrupt_plan.proofs.row.parts_in.Goals as goal
use Rattle.interrupt_plan.proofs.row.parts_in.Goals.{then-len-lt2-via-then-len-lt2}
use Rattle.interrupt_plan.proofs.row.parts_in.Goals.{then-len-lt2-via-else-len-lt2+then-len-gt-MOST_FIELDS}
use Rattle.interrupt_plan.proofs.row.parts_in.Goals.{then-len-lt2-via-else-len-lt2+else-len-gt-MOST_FIELDS+then-len-eq1}

pub returns-then-len-lt2 : goal.returns-then-len-lt2
returns-then-len-lt2 c = λ a b ws spelled.
    let count = spelled_count (fields_of c.args.row.now) a b ws spelled in
    elim c.then-len-lt2.branch [
      | then-len-lt2-via-then-len-lt2 w ↦ absurd (omega (arith, count, c.len.ensures))
      | then-len-lt2-via-else-len-lt2+then-len-gt-MOST_FIELDS w ↦ absurd
          (omega (arith, count, spelled.few, w.len-else-len-lt2.ensures))
      | then-len-lt2-via-else-len-lt2+else-len-gt-MOST_FIELDS+then-len-eq1 w ↦ absurd
          (omega (arith, count, w.len-else-len-gt-MOST_FIELDS.ensures))
    ]

pub returns-in-Ok-Some : goal.returns-in-Ok-Some
returns-in-Ok-Some c =
    let writes = rw c.in-Ok-Some.field-0-is at c.in-Ok-Some.ensures in
    let here = writes ∙ ap (λ (l : List Write). Some l) (sym c.new.ensures) in
    record {
      numbers = c.in-Some.ensures;
      writes_are = here;
      few = few_writes (fields_of c.args.row.now) c.new.result here (omega (arith, c.len.ensures))
          (omega (arith, c.len-else-len-lt2.ensures));
    }

pub returns-in-None : goal.returns-in-None
returns-in-None c = λ a b ws spelled. c.in-None.ensures a b spelled.numbers
