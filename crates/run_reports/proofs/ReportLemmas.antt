-- The rows of a trace are a block's answers, and a report.
use Rattle.std.proofs.Common.{◌≡◌, ◌<◌, ◌≤◌, ◌^◌, ℕ, suc, List, [], ◌∷◌, length, refl, ap, sym, ◌∙◌, subst, arith}
use Rattle.std.specs.Prelude.{All, map}
use Rattle.std.proofs.lemmas.List.Elements.{All-cons, All-nil}
use Rattle.fz_num.specs.declared.dec.Dec.{Dec}
use Rattle.fuzzy_meaning.specs.declared.{block.Block.Block, block.Input.Input}
use Rattle.box_tree.specs.declared.cert.Cert.{Cert}
use Rattle.byte_scaling.specs.{Cells.byte_of, Cells.bytes_of, Widths.parts}
use Rattle.byte_scaling.specs.declared.width.Width.{Width}
use Rattle.cert_check.specs.Acceptance.{IsAccepted}
use Rattle.eval_code.specs.{Bounds.instruction_bound, Firing.AreInputBytes}
use Rattle.eval_code.specs.Widths.{answer}
use Rattle.firmware_code.specs.{Uninterrupted.Answer, Uninterrupted.AreAnswersOf, declared.firmware.Firmware.Firmware}
use Rattle.interrupt_plan.specs.declared.Request.{Request}
use Rattle.trace_io.specs.Traces.{AreWithin, Fields, SpellSamples, Spells, input_bytes}
use Rattle.trace_io.specs.declared.sample.Sample.{Sample}
use Rattle.run_law.specs.Forms.{RowSeen}
use Rattle.alone_runs.specs.Answering.{AnswersItsBlock, AnswersUnder, answer_of_row}
use Rattle.run_reports.specs.Nearness.{AnswersAreWithinErrors, AreWithinErrors}
use Rattle.run_reports.specs.Reports.{IsReportOf, report_of}
use Rattle.command_parts.specs.{Firmwares.GivesFirmware, declared.firmware.Form.TheVariants.Alone}
use Rattle.command_parts.proofs.Algebra.{of_seen}

pub spelled_count : (is : List Input) (rows : List Fields) (samples : List Sample) → SpellSamples is rows samples
    → length samples ≡ length rows
spelled_count is [] [] spelled = refl
spelled_count is [] (s ∷ ss) spelled = absurd spelled
spelled_count is (r ∷ rs) [] spelled = absurd spelled
spelled_count is (r ∷ rs) (s ∷ ss) spelled = ap suc (spelled_count is rs ss spelled.1)

-- ---- the bytes of samples

byte_small : (i : Input) (x : Dec) → byte_of i x < 2 ^ 8
byte_small i x = omega arith

bytes_counted : (is : List Input) (ds : List Dec) → AreWithin is ds → length (bytes_of is ds) ≡ length is
bytes_counted [] [] h = refl
bytes_counted [] (d ∷ ds) h = absurd h
bytes_counted (i ∷ is) [] h = absurd h
bytes_counted (i ∷ is) (d ∷ ds) h = ap suc (bytes_counted is ds h.1)

bytes_small : (is : List Input) (ds : List Dec) → All (λ v. v < 2 ^ 8) (bytes_of is ds)
bytes_small [] ds = All-nil _
bytes_small (i ∷ is) [] = All-nil _
bytes_small (i ∷ is) (d ∷ ds) =
    All-cons (λ v. v < 2 ^ 8) (byte_of i d) (bytes_of is ds) (byte_small i d) (bytes_small is ds)

pub input_bytes_fit : (b : Block) (rows : List Fields) (values : List Sample) → SpellSamples b.inputs rows values
    → All (AreInputBytes b) (map input_bytes values)
input_bytes_fit b [] [] h = All-nil _
input_bytes_fit b [] (s ∷ ss) h = absurd h
input_bytes_fit b (r ∷ rs) [] h = absurd h
input_bytes_fit b (r ∷ rs) (s ∷ ss) h =
    let own : AreInputBytes b (bytes_of b.inputs s.values) =
    record { count = bytes_counted b.inputs s.values h.0.within; fit = bytes_small b.inputs s.values } in
    All-cons (AreInputBytes b) (input_bytes s) (map input_bytes ss) (subst (AreInputBytes b) (sym h.0.bytes) own)
    (input_bytes_fit b rs ss h.1)

-- ---- the answers of rows

pub instructions_within : (w : Width) (b : Block) (most : ℕ) (before : ℕ → ℕ) (samples : List (List ℕ))
    (answers : List Answer)
    → AreAnswersOf w b most before samples answers → All (λ a. a.instructions ≤ most) answers
instructions_within w b most before [] [] each = All-nil _
instructions_within w b most before [] (a ∷ answers) each = absurd each
instructions_within w b most before (bytes ∷ samples) [] each = All-nil _
instructions_within w b most before (bytes ∷ samples) (a ∷ answers) each =
    All-cons (λ q. q.instructions ≤ most) a answers each.0.instructions
    (instructions_within w b most (λ o. answer w b o bytes (before o)) samples answers each.1)

-- what a run answers of a block's samples is its report
module _ (near : AnswersAreWithinErrors) (w : Width) (flags : ℕ) (text : List ℕ) (block : Block) (firmware : Firmware)
    (cert : Cert) (errors trace : List ℕ) (samples : List Sample) (plan : List Request) (rows : List (RowSeen (List ℕ)))
    (gives : GivesFirmware (Alone w) text block firmware) (accepted : IsAccepted block (parts w) cert errors)
    (in_range : Spells block.inputs trace samples)
    (answers : AnswersItsBlock firmware flags (map input_bytes samples) plan rows) where
  width : firmware.width ≡ w
  width = gives.compiled.1

  under : AnswersUnder block firmware flags (map input_bytes samples) plan rows
  under = answers block gives.spelled.valid gives.limits gives.compiled.0
      (input_bytes_fit block in_range.rows samples in_range.spelled)

  within : AreWithinErrors (parts w) block errors samples rows
  within =
      let accepted_there = subst (λ (v : Width). IsAccepted block (parts v) cert errors) (sym width) accepted in
      subst (λ (v : Width). AreWithinErrors (parts v) block errors samples rows) width
      (near block firmware flags cert errors trace samples rows gives.spelled.valid in_range under.answers
      accepted_there)

  pub reports : IsReportOf w flags block firmware samples plan (report_of errors firmware.instr_bound rows)
  reports = record {
    within = within;
    bound = gives.compiled.0.instructions ∙ ap (λ (v : Width). instruction_bound v block) width;
    instructions = of_seen (λ a. a.instructions ≤ firmware.instr_bound) answer_of_row rows
        (instructions_within firmware.width block firmware.instr_bound (λ o. 0) (map input_bytes samples)
        (map answer_of_row rows) under.answers.answers);
    follows = under;
  }
