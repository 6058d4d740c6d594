-- What a number gives.
use Rattle.run_commands.proofs.Words.{◌∙◌, ◌≡◌, AnswersAreReported, AnswersUnderPlans, ap}
use Rattle.run_commands.proofs.Words.{arith, Byte, firmware_rows, generate_lines, input_bytes}
use Rattle.run_commands.proofs.Words.{map, refl, report_of, ℕ}
use Rattle.run_commands.proofs.Words.{Block, format_of, generated_target, Named, subst, sym}
use Rattle.alone_code.specs.Firmwares.{FirmwaresAreOne, IsFirmwareOf}
use Rattle.box_tree.specs.declared.cert.Cert.{Cert}
use Rattle.byte_scaling.specs.Widths.{parts}
use Rattle.command_parts.proofs.Algebra.{settled}
use Rattle.command_parts.specs.{Certs.HalvingsAreExact, Firmwares.GivenBlocksHaveFirmware}
use Rattle.command_parts.specs.{Readings.GivesSome, SeenOutputs.SeenOutput, SeenOutputs.only_lines}
use Rattle.command_parts.specs.declared.firmware.Form.TheVariants.{Alone}
use Rattle.error_certifier.specs.{Halving.IsHalvingFor, Targets.targets_of}
use Rattle.eval_code.specs.Bounds.{instruction_bound}
use Rattle.run_reports.proofs.Algebra.{rows_ran}
use Rattle.workload.specs.{Blocks.drawn_block, Draws.draw, Laws.DrawnBlocksAreWithinLimits, Laws.NumbersHaveWorkloads}
use Rattle.workload.specs.Laws.{WorkloadsAreOne}
use Rattle.run_commands.specs.Generate.{GenerateGives, GenerateIsSettled, generate_reading}
use Rattle.run_commands.specs.declared.generate.Generate.{Generate}

generate_made : AnswersAreReported → AnswersUnderPlans → NumbersHaveWorkloads → DrawnBlocksAreWithinLimits
    → GivenBlocksHaveFirmware → (generate : Generate) → GivesSome (generate_reading generate)
    → (output : SeenOutput) × GenerateGives generate.number output
generate_made reported under workloads limits firmwares generate (cert, halving) =
    let number = generate.number in
    let shift = draw number 0 5 in
    let block = drawn_block shift in
    let drawn = workloads number in
    let text = drawn.0 in
    let trace = drawn.1 in
    let plan = drawn.2 in
    let samples = drawn.3 in
    let requests = drawn.4 in
    let workload = drawn.5 in
    let (firmware, gives) =
    firmwares (Alone Byte) text block (record { spelled = workload.spelled; limits = limits shift }) in
    let bytes = map input_bytes samples in
    let rows = (firmware_rows firmware bytes requests 0).rows in (
      _,
      record {
        text = text;
        trace = trace;
        plan = plan;
        block = block;
        samples = samples;
        requests = requests;
        workload = workload;
        firmware = firmware;
        gives = gives;
        cert = cert;
        halving = halving;
        report = report_of cert.claims firmware.instr_bound rows;
        errors = refl;
        reported = reported Byte 0 text block firmware cert cert.claims trace samples requests rows gives
            halving.claims workload.in_trace
            (under firmware 0 bytes requests (omega arith) workload.in_plan.good);
        output_is = refl;
      },
    )

-- its output is one, where its certificate is
generate_one : WorkloadsAreOne → FirmwaresAreOne → (number : ℕ) (output other : SeenOutput)
    (a : GenerateGives number output) (b : GenerateGives number other) → a.cert ≡ b.cert → output ≡ other
generate_one workloads firmwares number output other a b cert =
    let one = workloads number a.text a.trace a.plan b.text b.trace b.plan a.block b.block a.samples b.samples
    a.requests b.requests a.workload b.workload in
    let firmware : a.firmware ≡ b.firmware =
    firmwares a.block a.firmware b.firmware (a.gives.compiled.1 ∙ sym b.gives.compiled.1) a.gives.compiled.0
    (subst (λ (c : Block). IsFirmwareOf c b.firmware) (sym one.0) b.gives.compiled.0) in
    let errors : a.report.errors ≡ b.report.errors = a.errors ∙ ap (λ (c : Cert). c.claims) cert ∙ sym b.errors in
    let rows : a.report.rows ≡ b.report.rows =
    rows_ran a.reported.follows ∙ (λ i. (firmware_rows (firmware i) (one.1 i) (one.2 i) 0).rows)
    ∙ sym (rows_ran b.reported.follows) in
    let bound : a.report.bound ≡ b.report.bound =
    a.reported.bound ∙ ap (instruction_bound Byte) one.0 ∙ sym b.reported.bound in
    a.output_is ∙ (λ i. only_lines (generate_lines number (errors i) (bound i) (rows i))) ∙ sym b.output_is

pub generate_settled : HalvingsAreExact → WorkloadsAreOne → FirmwaresAreOne → AnswersAreReported → AnswersUnderPlans
    → NumbersHaveWorkloads → DrawnBlocksAreWithinLimits → GivenBlocksHaveFirmware → GenerateIsSettled
generate_settled halvings once firmwares reported under workloads limits given generate =
    let number = generate.number in
    let drawn = workloads number in
    settled (generate_reading generate) (GenerateGives number) (GivesSome (generate_reading generate))
    (halvings (format_of Named Byte) generated_target (drawn_block (draw number 0 5)) drawn.5.spelled.valid)
    (λ output a. (
      a.cert,
      subst (λ (b : Block). IsHalvingFor Named b (parts Byte) (targets_of b generated_target) a.cert)
          a.workload.block_is a.halving,
    ))
    (λ output other a b same. generate_one once firmwares number output other a b same)
    (generate_made reported under workloads limits given generate)
