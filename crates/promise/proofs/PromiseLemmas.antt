-- A certified run keeps its promise.
use Rattle.std.specs.List.{concat}
use Rattle.std.proofs.Common.{◌≡◌, ◌<◌, ◌≤◌, ◌^◌, ◌∙◌, ℕ, List, [], refl, sym, ap, subst, arith}
use Rattle.std.specs.Prelude.{length, map, All, slice_index_or}
use Rattle.std.proofs.lemmas.Option.{slice_get-get_or}
use Rattle.box_tree.specs.{Certificates.AreClaims, declared.cert.Cert.Cert}
use Rattle.cert_check.specs.Acceptance.{IsAccepted}
use Rattle.byte_scaling.specs.Widths.{parts}
use Rattle.std.proofs.lemmas.List.Elements.{All-nil}
use Rattle.fuzzy_meaning.specs.{Blocks.IsValid, declared.block.Block.Block}
use Rattle.rule_layout.specs.Layouts.{IsWithinLimits}
use Rattle.cpu12_parts.specs.State.{State}
use Rattle.cpu12_emul.specs.{Image.image_memory, Step.reset_with}
use Rattle.firmware_code.specs.declared.firmware.Firmware.{Firmware}
use Rattle.alone_code.specs.{Answers.FirmwareAnswers, Firmwares.IsFirmwareOf}
use Rattle.eval_code.specs.Bounds.{BoundsAreFew}
use Rattle.eval_code.proofs.Algebra.{enough_steps}
use Rattle.eval_code.specs.declared.memory_map.MemoryMap.{MemoryMap}
use Rattle.byte_scaling.specs.declared.width.Width.{Width}
use Rattle.interrupt_plan.specs.declared.Request.{Request}
use Rattle.run_law.specs.Forms.{Form, RowSeen}
use Rattle.run_forms.specs.Arrival.{ArrivesPlainly, PlainIsOneStep}
use Rattle.alone_runs.specs.{Answering.AnswersUnder, Forms.with_writes}
use Rattle.alone_runs.specs.Rows.{firmware_rows, first_state}
use Rattle.trace_io.specs.Traces.{input_bytes}
use Rattle.run_reports.specs.RowLines.{run_lines}
use Rattle.promise.specs.Bench.{AreReadOff, IsFirstAtLoop, IsRunOf, bench, loop, requests_in}
use Rattle.promise.specs.{Laws.AnswersServe, Laws.CertifiedRunsKeepPromise, Promise.Serves}
use Rattle.promise.proofs.BenchLemmas.{bench_is, reaches, read_off}
use Rattle.run_reports.proofs.Algebra.{rows_ran}

module _ (answers : FirmwareAnswers) (one : PlainIsOneStep) (arrives : ArrivesPlainly) (width : Width) (flags : ℕ)
    (b : Block) (f : Firmware) (bytes : List (List ℕ)) (plan : List Request) (rows : List (RowSeen (List ℕ)))
    (byte : flags < 2 ^ 8) (valid : IsValid b) (limits : IsWithinLimits b) (compiled : IsFirmwareOf b f)
    (same : f.width ≡ width) (r : AnswersUnder b f flags bytes plan rows) where
  abbrev start : State
  start = reset_with (image_memory f.image.bytes)

  abbrev first : State
  first = first_state f flags

  form : with_writes flags f ≡ bench width (length b.outputs) flags
  form = bench_is flags f width (length b.outputs) compiled.memory_map same compiled.outputs

  waits : IsFirstAtLoop flags f.image first
  waits =
      let from_reset = answers b f valid limits compiled flags [] byte (All-nil _) in
      let arrived = from_reset.1.0 in
      let wait = f.memory_map.wait in
      let enough : 3 ≤ f.step_bound =
      subst (λ (n : ℕ). 3 ≤ n) (sym compiled.steps) (enough_steps f.width b valid.few_outputs) in
      let there : first ≡ from_reset.0 =
      arrives flags wait 3 f.step_bound start from_reset.0 refl arrived.execution arrived.wait enough in
      let at_loop : wait ≡ loop = ap (λ (m : MemoryMap). m.wait) compiled.memory_map in
      let reached = reaches one flags wait 3 start from_reset.0 refl arrived.execution in
      record {
        steps = 3;
        state = there ∙ reached.state;
        there = ap (λ (s : State). s.regs.pc) there ∙ (arrived.wait ∙ at_loop);
        before = λ j lt is. reached.before j lt (is ∙ sym at_loop);
      }

  abbrev last : State
  last = (firmware_rows f bytes plan flags).state

  ran : IsRunOf (bench width (length b.outputs) flags) (requests_in plan) bytes first rows last
  ran = subst (λ (g : Form (List ℕ) Request (Unit {0})). IsRunOf g (requests_in plan) bytes first rows last)
      form (record {
        most = f.step_bound;
        arrived = r.follows.arrived;
        rows_are = rows_ran r;
        last_is = refl;
      })

  without : AreReadOff (bench width (length b.outputs) flags) (requests_in plan) 1 bytes rows first
  without = subst (λ (g : Form (List ℕ) Request (Unit {0})). AreReadOff g (requests_in plan) 1 bytes rows first)
      form (subst (λ (rows : List (RowSeen (List ℕ))).
      AreReadOff (with_writes flags f) (requests_in plan) 1 bytes rows first) (sym r.rows_are)
      (read_off _ flags f plan 1 r.ns bytes first r.complete))

  pub served : Serves width (length b.outputs) flags f.image bytes plan rows
  served = record { first = first; waits = waits; last = last; ran = ran; without = without }

pub answers_serve : FirmwareAnswers → PlainIsOneStep → ArrivesPlainly → AnswersServe
answers_serve answers one arrives = λ width flags b f bytes plan rows byte valid limits compiled same r.
    served answers one arrives width flags b f bytes plan rows byte valid limits compiled same r

-- ---- the printed numbers are small

-- no error is above its claim, and a claim is at most the whole range
errors_capped : (b : Block) (h : ℕ) (cert : Cert) (errors : List ℕ) → AreClaims cert.claims → IsAccepted b h cert errors
    → All (λ e. e ≤ 1000000) errors
errors_capped b h cert errors claims a = λ k d lt.
    let within : k < length cert.claims = omega (arith, lt, a.errors_count, a.claims_count) in
    let under : slice_index_or errors k d ≤ slice_index_or cert.claims k d =
    a.claimed k (slice_index_or errors k d) (slice_index_or cert.claims k d) (slice_get-get_or errors k d lt)
    (slice_get-get_or cert.claims k d within) in
    omega (arith, under, claims.millionths k d within)

pub certified_keep : FirmwareAnswers → PlainIsOneStep → ArrivesPlainly → BoundsAreFew → CertifiedRunsKeepPromise
unfolding served
certified_keep answers one arrives few format flags files report r byte = record {
  block = r.block;
  spelled = r.accepts.0.spelled;
  image = r.firmware.image;
  records = r.accepts.1.0;
  samples = r.samples;
  in_range = r.accepts.1.1.1.0;
  plan = r.plan;
  free_writes = r.accepts.1.1.1.1;
  serves = served answers one arrives format.width flags r.block r.firmware (map input_bytes r.samples) r.plan report.rows byte
      r.accepts.0.spelled.valid r.accepts.0.limits r.accepts.0.compiled.0
      r.accepts.0.compiled.1 r.reported.follows;
  within = r.reported.within;
  instructions = r.reported.instructions;
  printable = record {
    count = r.accepts.1.1.0.accepted.errors_count;
    errors = errors_capped r.block (parts format.width) r.accepts.1.1.0.cert report.errors
        r.accepts.1.1.0.spelled.good.claims r.accepts.1.1.0.accepted;
    bound = subst (λ (n : ℕ). n ≤ 2000) (sym r.reported.bound)
        (few r.block format.width 0 r.accepts.0.spelled.valid r.accepts.0.limits).1;
  };
  printed = ap (λ left. concat (run_lines report left)) r.left_is;
}
