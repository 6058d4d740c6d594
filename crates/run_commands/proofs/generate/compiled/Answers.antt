use Rattle.std.proofs.Common.{◌≡◌, true, false, sym, ◌∙◌}
use Rattle.run_commands.proofs.generate.compiled.Goals as goal
use Rattle.run_commands.proofs.generate.compiled.Goals.{in-Memory, in_default}

pub prove-unreachable-requires : goal.prove-unreachable-requires
prove-unreachable-requires c = elim c.match-matches.branch [
  | in-Memory w ↦ absurd (let yes : true ≡ false = sym w.matches-is ∙ c.if-prove.true in cc)
  | in_default w ↦ absurd (c.limits_have_no_fault.ensures c.args.block.now c.in-Err.fault c.requires.limits
      w.in_default.not-Memory c.in-Err.ensures.fault)
]
