use Rattle.std.proofs.Common.{◌≤◌, ◌∙◌, ap₂, sym, subst, arith}
use Rattle.error_bound.specs.{Errors.billion, Reaches.span_of}
use Rattle.error_bound.proofs.MassLemmas.{ends_opposite}
use Rattle.error_bound.proofs.CellErrors.{least_is, greatest_is, rise_is, fall_is, rise_small, fall_small}
use Rattle.error_bound.proofs.tables.reach_of_term.Goals as goal

pub returns : goal.returns
returns c =
    let x = c.args.input.now in
    let term = c.args.term.now in
    let v = c.args.bytes in
    let cells = c.args.cells.now in
    let o = c.over-grades.ensures in
    let d = c.degrees_of-degrees.ensures.truth in
    record {
      value = c.degrees_of-degrees.ensures.value;
      bytes = ap₂ (λ a b. record { low = a; high = b })
          (o.least ∙ least_is x term v v cells c.requires.cells (omega arith) (omega arith) c.requires.order)
          (o.greatest ∙ greatest_is x term v v cells c.requires.cells (omega arith) (omega arith) c.requires.order);
      deviation = ap₂ (λ a b. record { low = a; high = b })
          (c.from-2.ensures ∙ o.fall
          ∙ fall_is x term v v cells c.requires.cells (omega arith) (omega arith) c.requires.order)
          (c.from.ensures ∙ o.rise
          ∙ rise_is x term v v cells c.requires.cells (omega arith) (omega arith) c.requires.order);
      small = record {
        degrees = c.degrees_of-degrees.ensures.truth;
        deviation = record {
          rise = subst (λ e. e ≤ billion) (sym (c.from.ensures ∙ o.rise))
              (rise_small x term v v cells c.requires.cells (omega arith) (omega arith) c.requires.order);
          fall = subst (λ e. e ≤ billion) (sym (c.from-2.ensures ∙ o.fall))
              (fall_small x term v v cells c.requires.cells (omega arith) (omega arith) c.requires.order);
        };
      };
      masses = record {
        mass = c.of-mass.ensures;
        opposite = ends_opposite (span_of c.degrees_of-degrees.result) (record {
          low = c.over-grades.result.least;
          high = c.over-grades.result.greatest;
        }) c.of-mass.result c.opposite.result
            (record { pos = (let p = d.low.den_from in omega arith) })
            (record { pos = (let p = d.high.den_from in omega arith) }) d.low.num_to d.high.num_to c.of-mass.ensures
            c.opposite.ensures.low c.opposite.ensures.high c.opposite.ensures.byte_low c.opposite.ensures.byte_high;
      };
    }
