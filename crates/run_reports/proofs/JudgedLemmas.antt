-- Each file of a run gives something or is refused.
use Rattle.std.proofs.Common.{◌≢◌, ◌⊎◌, ◌+◌, inl, inr, ℕ, List, length}
use Rattle.box_tree.specs.declared.cert.CertFormat.{CertFormat}
use Rattle.box_tree.specs.Texts.{format_of}
use Rattle.byte_scaling.specs.declared.width.Width.TheVariants.{Byte}
use Rattle.fuzzy_meaning.specs.{Blocks.IsValid, declared.block.Block.Block, declared.block.Input.Input}
use Rattle.interrupt_plan.specs.OneReading.{EachLevelsTextIsJudged, EachPlanTextIsJudged, EachPostsTextIsJudged}
use Rattle.interrupt_plan.specs.OneReading.{EachUpsetsTextIsJudged}
use Rattle.interrupt_plan.specs.Rows.{FirstFault as FirstPlanFault, HasFirstFault, RowFails, at_row, more}
use Rattle.interrupt_plan.specs.Rows.{not_ascending, not_free, unread}
use Rattle.interrupt_plan.specs.UpsetTexts.{FirstUpsetFault, UpsetRowFails, at_row as upset_row, more as more_upsets, not_table}
use Rattle.interrupt_plan.specs.UpsetTexts.{not_ascending as upsets_fall, unread as unread_upset}
use Rattle.interrupt_plan.specs.declared.PlanFault.{PlanFault}
use Rattle.interrupt_plan.specs.declared.PlanFault.TheVariants as plan
use Rattle.interrupt_plan.specs.declared.{upsets.Upset.Upset, upsets.UpsetFault.UpsetFault}
use Rattle.interrupt_plan.specs.declared.upsets.UpsetFault.TheVariants as upset
use Rattle.interrupt_plan.specs.Plans.{NotAfter, Spells as SpellsPlan, SpellsRequest, writes_by}
use Rattle.interrupt_plan.specs.Posts.{NoLater, SpellsPost, SpellsPosts, writes_in}
use Rattle.interrupt_plan.specs.Levels.{LevelNotAfter, SpellsLevel, SpellsLevels, no_writes}
use Rattle.cpu12_isa.specs.declared.instr.Write.{Write}
use Rattle.command_parts.specs.Certs.{cert_in}
use Rattle.trace_io.specs.{OneReading.EachTextIsJudged, Traces.Fields, Traces.FirstFault}
use Rattle.trace_io.specs.Traces.{RowFails as TraceRowFails, at_row as trace_row, miscounted, more as more_rows, outside, unread as unread_row}
use Rattle.trace_io.specs.declared.sample.TraceFault.{TraceFault}
use Rattle.trace_io.specs.declared.sample.TraceFault.TheVariants as trace
use Rattle.fz_status.specs.declared.status.Status.TheVariants as status
use Rattle.command_parts.specs.Judged.{AreJudged, CertsAreJudged, FirmwaresAreJudged, HandlersAreJudged}
use Rattle.command_parts.specs.Judged.{ImagesAreJudged, IsJudged, TwosAreJudged}
use Rattle.command_parts.proofs.Algebra.{judged_fast}
use Rattle.command_parts.specs.declared.firmware.Form.TheVariants.{Alone, Mailbox, Watched}
use Rattle.run_reports.specs.Inputs.{inputs_reading, rows_in, trace_in}
use Rattle.run_reports.specs.{TwoLevelRun.levels_in, MailboxRun.posts_in, WatchedRun.upsets_in}
use Rattle.run_reports.specs.Judged.{HandledFilesAreJudged, TwoLevelFilesAreJudged, MailboxFilesAreJudged, RunFilesAreJudged}
use Rattle.run_reports.specs.Judged.{PlansAreJudged, TracesAreJudged, WatchedFilesAreJudged}
use Rattle.run_reports.specs.declared.files.InputFiles.{InputFiles}

-- ---- a fault is no want of memory

trace_row_carries : (inputs : List Input) (n : ℕ) (fields : Fields) (f : TraceFault) → TraceRowFails inputs n fields f
    → f ≢ trace.Memory
trace_row_carries inputs n fields _ (miscounted count) e = cc
trace_row_carries inputs n fields _ (unread_row count none) e = cc
trace_row_carries inputs n fields _ (outside values i count read first) e = cc

first_carries : (inputs : List Input) (rows : List Fields) (f : TraceFault) → FirstFault inputs rows f → f ≢ trace.Memory
first_carries inputs rows f (trace_row before row after samples _ is few spelled fails) e =
    trace_row_carries inputs (length before + 1) row f fails e
first_carries inputs rows _ (more_rows before row after samples is full spelled) e = cc

plan_row_carries : {E : Type 0} (Spells : Fields → E → Type 0) (writes : E → List Write) (After : E → E → Type 0)
    (before : List E) (n : ℕ) (fields : Fields) (f : PlanFault) → RowFails Spells writes After before n fields f
    → f ≢ plan.Memory
plan_row_carries {E} Spells writes After before n fields _ (unread none) e = cc
plan_row_carries {E} Spells writes After before n fields _ (not_free x at spells taken) e = cc
plan_row_carries {E} Spells writes After before n fields _ (not_ascending x spells free falls) e = cc

plan_first_carries : {E : Type 0} (Spells : Fields → E → Type 0) (writes : E → List Write) (After : E → E → Type 0)
    (rows : List Fields) (f : PlanFault) → FirstPlanFault Spells writes After rows f → f ≢ plan.Memory
plan_first_carries {E} Spells writes After rows f (at_row before row after es _ is few spelled order fails) e =
    plan_row_carries Spells writes After es (length before + 1) row f fails e
plan_first_carries {E} Spells writes After rows _ (more before row after es is full spelled order) e = cc

upset_row_carries : (bytes : List (ℕ × ℕ)) (before : List Upset) (n : ℕ) (fields : Fields) (f : UpsetFault)
    → UpsetRowFails bytes before n fields f → f ≢ upset.Memory
upset_row_carries bytes before n fields _ (unread_upset none) e = cc
upset_row_carries bytes before n fields _ (not_table u spells none) e = cc
upset_row_carries bytes before n fields _ (upsets_fall u spells table falls) e = cc

upset_first_carries : (bytes : List (ℕ × ℕ)) (rows : List Fields) (f : UpsetFault) → FirstUpsetFault bytes rows f
    → f ≢ upset.Memory
upset_first_carries bytes rows f (upset_row before row after us _ is few spelled good fails) e =
    upset_row_carries bytes us (length before + 1) row f fails e
upset_first_carries bytes rows _ (more_upsets before row after us is full spelled good) e = cc

-- ---- file by file

pub trace_judged : EachTextIsJudged → TracesAreJudged
trace_judged texts block text = elim (texts block.inputs text) [
  | inl (samples, spelled) ↦ inl (samples, spelled)
  | inr (f, has) ↦ inr (status.Trace f, (first_carries block.inputs has.rows f has.fault_is, has))
]

rows_judged : {E : Type 0} (Spells : Fields → E → Type 0) (writes : E → List Write) (After : E → E → Type 0)
    (SpellsAll : List E → Type 0) (text : List ℕ)
    → ((es : List E) × SpellsAll es) ⊎ ((f : PlanFault) × HasFirstFault Spells writes After text f)
    → IsJudged (rows_in SpellsAll (HasFirstFault Spells writes After text))
rows_judged {E} Spells writes After SpellsAll text (inl spelled) = inl spelled
rows_judged {E} Spells writes After SpellsAll text (inr (f, has)) =
    inr (status.Plan f, (plan_first_carries Spells writes After has.rows f has.fault_is, has))

pub plan_judged : EachPlanTextIsJudged → PlansAreJudged
plan_judged texts text = rows_judged SpellsRequest writes_by NotAfter (SpellsPlan text) text (texts text)

posts_judged : EachPostsTextIsJudged → (samples : ℕ) (text : List ℕ) → IsJudged (posts_in samples text)
posts_judged texts n text = rows_judged (SpellsPost n) writes_in NoLater (SpellsPosts n text) text (texts n text)

levels_judged : EachLevelsTextIsJudged → (fast : ℕ) (text : List ℕ) → IsJudged (levels_in fast text)
levels_judged texts n text =
    rows_judged (SpellsLevel n) no_writes LevelNotAfter (SpellsLevels n text) text (texts n text)

upsets_judged : EachUpsetsTextIsJudged → (bytes : List (ℕ × ℕ)) (text : List ℕ) → IsJudged (upsets_in bytes text)
upsets_judged texts bytes text = elim (texts bytes text) [
  | inl (upsets, spelled) ↦ inl (upsets, spelled)
  | inr (f, has) ↦ inr (status.Upset f, (upset_first_carries bytes has.rows f has.fault_is, has))
]

-- ---- run by run

inputs_judged : CertsAreJudged → EachTextIsJudged → EachPlanTextIsJudged → (format : CertFormat) (block : Block)
    (files : InputFiles) → IsValid block → AreJudged (inputs_reading format block files)
inputs_judged certs traces plans format block files valid = (
  certs format block files.cert valid,
  λ errors accepted. (
    trace_judged traces block files.trace,
    λ samples spelled. plan_judged plans files.plan,
  ),
)

pub runs_judged : FirmwaresAreJudged → ImagesAreJudged → CertsAreJudged → EachTextIsJudged → EachPlanTextIsJudged
    → RunFilesAreJudged
runs_judged firmwares images certs traces plans format files few = (
  firmwares (Alone format.width) files.fcl few,
  λ c gives. (
    images files.image c.firmware.image,
    λ held is. inputs_judged certs traces plans format c.block files.inputs gives.spelled.valid,
  ),
)

pub handled_judged : FirmwaresAreJudged → HandlersAreJudged → CertsAreJudged → EachTextIsJudged → EachPlanTextIsJudged
    → HandledFilesAreJudged
handled_judged firmwares handlers certs traces plans kind files few = (
  firmwares (Alone Byte) files.fcl few,
  λ c gives. (
    handlers files.handler,
    λ seen is. inputs_judged certs traces plans (format_of kind Byte) c.block files.inputs gives.spelled.valid,
  ),
)

pub mailbox_judged : FirmwaresAreJudged → ImagesAreJudged → CertsAreJudged → EachTextIsJudged → EachPostsTextIsJudged
    → MailboxFilesAreJudged
mailbox_judged firmwares images certs traces posts kind files few = (
  firmwares Mailbox files.fcl few,
  λ c gives. (
    images files.image c.firmware.image,
    λ held is. (
      certs (format_of kind Byte) c.block files.cert gives.spelled.valid,
      λ errors accepted. (
        trace_judged traces c.block files.trace,
        λ samples spelled. posts_judged posts (length samples) files.posts,
      ),
    ),
  ),
)

pub watched_judged : FirmwaresAreJudged → ImagesAreJudged → CertsAreJudged → EachTextIsJudged → EachPlanTextIsJudged
    → EachUpsetsTextIsJudged → WatchedFilesAreJudged
watched_judged firmwares images certs traces plans upsets kind files few = (
  firmwares Watched files.fcl few,
  λ c gives. (
    images files.image c.firmware.image,
    λ held is. (
      certs (format_of kind Byte) c.block files.inputs.cert gives.spelled.valid,
      λ errors accepted. (
        trace_judged traces c.block files.inputs.trace,
        λ samples spelled. (
          plan_judged plans files.inputs.plan,
          λ requests there. upsets_judged upsets c.firmware.image.bytes files.upsets,
        ),
      ),
    ),
  ),
)

pub level_judged : TwosAreJudged → ImagesAreJudged → CertsAreJudged → EachTextIsJudged → EachLevelsTextIsJudged
    → TwoLevelFilesAreJudged
level_judged twos images certs traces levels kind files slow_few fast_few = (
  twos files.slow files.fast slow_few fast_few,
  λ c gives. (
    images files.image c.two.firmware.image,
    λ held is. (
      certs (format_of kind Byte) c.slow files.slow_cert gives.slow_is.spelled.valid,
      λ errors accepted. (
        judged_fast (cert_in (format_of kind Byte) c.fast files.fast_cert)
            (certs (format_of kind Byte) c.fast files.fast_cert gives.fast_is.spelled.valid),
        λ fast_errors fast_accepted. (
          trace_judged traces c.slow files.slow_trace,
          λ samples spelled. (
            judged_fast (trace_in c.fast files.fast_trace) (trace_judged traces c.fast files.fast_trace),
            λ fast_samples fast_spelled. levels_judged levels (length fast_samples) files.levels,
          ),
        ),
      ),
    ),
  ),
)
