use Rattle.std.proofs.Common.{ℕ, List, Some, ap}
use Rattle.command_parts.specs.SeenOutputs.{SeenOutput}
use Rattle.build_commands.proofs.certify.Certify.work.Goals as goal

pub returns : goal.returns
returns c =
    let file = Some (4, c.in_ok-text.text.items) in
    let written : List (List ℕ) → SeenOutput = λ ls. record { lines = ls; file = file } in
    record {
      block = c.in_ok-block.block;
      gives = c.in_ok-block.ensures.gives;
      cert = c.in_ok-cert.cert;
      halving = rw c.get.ensures.value at c.in_ok-cert.ensures.halving;
      within = rw c.get.ensures.value at c.in_ok-cert.ensures.within;
      out = c.in_ok-text.text.items;
      spelled = c.in_ok-text.ensures;
      output_is = ap written c.in_ok-lines.ensures;
    }
