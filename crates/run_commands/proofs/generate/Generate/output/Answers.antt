use Rattle.run_commands.proofs.Words.{◌∙◌, ◌≡◌, Alone, ap, ap₂, Block, Byte, format_of, generate_lines, generated_target}
use Rattle.run_commands.proofs.Words.{GenerateMakes, GivesFirmware, List, map, Named, only_lines, refl, report_of}
use Rattle.run_commands.proofs.Words.{Row, row_seen, rules, Status, StopsHalving, subst, sym, target_refusals, ℕ}
use Rattle.fz_status.specs.{Refusals.IsRefusal}
use Rattle.command_parts.specs.{SeenOutputs.IsFaultOf}
use Rattle.run_commands.specs.{Generate.generate_with}
use Rattle.std.specs.Prelude.{Err}
use Rattle.rule_layout.specs.Layouts.{IsWithinLimits}
use Rattle.workload.specs.{Blocks.drawn_block, Draws.draw}
use Rattle.fz_status.specs.declared.status.Status.TheVariants as status
use Rattle.run_commands.proofs.generate.Generate.output.Goals as goal

pub compiled-requires-clause-limits : goal.compiled-requires-clause-limits
compiled-requires-clause-limits c =
    subst IsWithinLimits (sym c.requires.block_is)
    (c.drawn_blocks_are_within_limits.ensures (draw c.args.self.number 0 5))

-- where halving stops at the block, it stops at the one that is drawn
stopped : (number : ℕ) (block : Block) → block ≡ drawn_block (draw number 0 5) → (s : Status)
    → IsRefusal (target_refusals (format_of Named Byte) generated_target block) s
    → IsFaultOf (GenerateMakes (generate_with number)) s
stopped number block same status.Memory r = tt
stopped number block same (status.NotReached stop) r =
    (r.0, subst (λ (b : Block). StopsHalving (format_of Named Byte) generated_target b stop) same r.1)
stopped number block same s r = absurd r.1

pub returns-in_err-cert : goal.returns-in_err-cert
returns-in_err-cert c =
    let passed : c.from_residual-in_err-cert.result ≡ Err c.in_err-cert.field-0.0 = search rules in
    rw passed (stopped c.args.self.number c.args.workload.now.block c.requires.block_is
    c.in_err-cert.field-0.0 c.in_err-cert.ensures.stops)

pub returns : goal.returns
returns c =
    let number = c.args.self.number in
    let w = c.args.workload.now in
    let drawn = c.requires in
    let firmware = c.in_ok-firmware.firmware in
    let bound = firmware.instr_bound in
    let cert = c.in_ok-cert.cert in
    let halving = c.in_ok-cert.ensures.halving in
    let rows = map row_seen c.in_ok-rows.rows.items in
    let gives : GivesFirmware (Alone Byte) w.text.items w.block firmware = record {
      spelled = drawn.spelled;
      limits = subst IsWithinLimits (sym drawn.block_is) (c.drawn_blocks_are_within_limits.ensures (draw number 0 5));
      compiled = (c.in_ok-firmware.ensures.firmware, c.in_ok-firmware.ensures.width);
    } in
    let lines_of = λ (es : List ℕ) (rs : List Row). generate_lines number es bound (map row_seen rs) in
    record {
      text = w.text.items;
      trace = w.trace.items;
      plan = w.plan.items;
      block = w.block;
      samples = w.samples.items;
      requests = w.requests;
      workload = drawn;
      firmware = firmware;
      gives = gives;
      cert = cert;
      halving = halving;
      report = report_of cert.claims bound rows;
      errors = refl;
      reported = c.answers_are_reported.ensures Byte 0 w.text.items w.block firmware cert cert.claims w.trace.items
          w.samples.items w.requests rows gives halving.claims drawn.in_trace
          (rw c.as_slice-samples.ensures.value at c.in_ok-rows.ensures.answers);
      output_is = ap only_lines (c.in_ok-lines.ensures ∙ ap₂ lines_of c.as_slice-errors.ensures c.deref.ensures.value);
    }
