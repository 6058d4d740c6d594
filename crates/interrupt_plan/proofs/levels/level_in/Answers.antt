use Rattle.std.proofs.Common.{◌≡◌, ◌≤◌, List, ℕ, arith, subst, sym}
use Rattle.std.specs.Prelude.{All, map, Some}
use Rattle.csv.specs.Records.{fields_of}
use Rattle.interrupt_plan.specs.{Levels.numbers_of, Rows.count_of}
use Rattle.interrupt_plan.proofs.LevelLemmas.{small_numbers, spelled_by}
use Rattle.interrupt_plan.proofs.levels.level_in.Goals as goal

pub returns-in_err-numbers : goal.returns-in_err-numbers
returns-in_err-numbers c = rw c.from_residual.ensures (λ l spelled.
    c.in_err-numbers.ensures (numbers_of l) spelled.numbers (omega (arith, spelled.good.few)))

pub level_of-requires : goal.level_of-requires
level_of-requires c =
    subst (λ (ns : List ℕ). All (λ n. n ≤ 999999999) ns) (sym c.as_slice.ensures.value)
    (small_numbers (fields_of c.args.row.now) c.in_ok-numbers.numbers.items c.in_ok-numbers.ensures)

pub returns : goal.returns
returns c =
    let are = subst (λ (ns : List ℕ). map count_of (fields_of c.args.row.now) ≡ map Some ns)
    (sym c.as_slice.ensures.value) c.in_ok-numbers.ensures in
    spelled_by (fields_of c.args.row.now) c.as_slice.result.now c.args.fast are c.level_of.result c.level_of.ensures
