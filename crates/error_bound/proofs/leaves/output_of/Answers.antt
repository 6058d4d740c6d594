use Rattle.std.proofs.Common.{◌-◌, arith}
use Rattle.fz_list.proofs.Algebra.{All-slice_get}
use Rattle.fuzzy_meaning.specs.Blocks.{IsValidOutput}
use Rattle.error_bound.proofs.ListLemmas.{slice_get-read}
use Rattle.error_bound.proofs.leaves.output_of.Goals as goal

pub returns : goal.returns
returns c =
    let outputs = c.args.block.now.outputs in
    let x = c.index-as_slice-out.result in
    let found = slice_get-read c.as_slice.result.now outputs (c.args.out - 1) x c.as_slice.ensures
    (omega (arith, c.requires.from, c.requires.to)) c.index-as_slice-out.is in
    record {
      found = found;
      valid = All-slice_get IsValidOutput outputs (c.args.out - 1) x
          c.requires.block.outputs found;
    }
