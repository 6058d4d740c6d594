use Rattle.std.proofs.Common.{refl}
use Rattle.error_bound.specs.{Best.silent_leaf, Leaves.silent as holds_silent, Tight.IsTightBound, Tight.silent}
use Rattle.error_bound.specs.Reaches.{parts_of}
use Rattle.error_bound.proofs.TightLawLemmas.{some_bound, none_sure, none_quiet, ends_are_ordered}
use Rattle.error_bound.proofs.{LeafLemmas.faulty_fail, Literals.term_errors-are}
use Rattle.error_bound.proofs.tables.BoxTable.tight_bound_by.Goals as goal

pub returns-in-None-clause-bound : goal.returns-in-None-clause-bound
returns-in-None-clause-bound c =
    let x = c.output_of-output in
    let bounds : IsTightBound c.args.self.now.table.now.block.now c.args.self.now.bytes.0.items c.args.out x.result.now
    (parts_of c.args.self.now) c.silent_bound.result = silent (holds_silent refl refl c.in-None.ensures.still) c.silent_bound.ensures in
    rw x.ensures.found bounds

pub bound-requires-clause-ordered : goal.bound-requires-clause-ordered
bound-requires-clause-ordered c =
    ends_are_ordered c.args.self.now.table.now.block.now c.args.self.now.bytes.0.items c.args.out c.args.masses.now c.requires.masses

pub returns-in-Some : goal.returns-in-Some
returns-in-Some c =
    let b = c.args.self.now.table.now.block.now in
    let box = c.args.self.now.bytes.0.items in
    let x = c.output_of-output.result.now in
    let found = c.output_of-output.ensures.found in
    let few = c.output_of-output.ensures.valid.few_terms in
    let n = c.bound.ensures in
    record {
      bound = some_bound b box c.args.out x (parts_of c.args.self.now) c.args.masses.now c.requires.masses few found
          c.deviations.result c.deviations.ensures
          (term_errors-are b box c.requires.table.table.valid c.requires.table.box_is.intervals) c.bound.result n.bound n.sum
          n.bytes;
      loud = none_quiet c.bound.result
          (λ h. faulty_fail b box c.args.out silent_leaf c.in-Some.field-0 c.in-Some.ensures.fault h);
      unsure = none_sure b box c.args.out x (parts_of c.args.self.now) c.args.masses.now c.requires.masses few found c.bound.result
          n.none;
    }
