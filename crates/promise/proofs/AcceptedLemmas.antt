-- Accepted files give firmware, and keep the promise.
use Rattle.std.proofs.Common.{refl}
use Rattle.std.specs.List.{concat}
use Rattle.alone_code.proofs.Algebra.{alone_is, alone_with}
use Rattle.box_tree.specs.declared.cert.CertFormat.{CertFormat}
use Rattle.command_parts.specs.{Firmwares.GivesFirmware, declared.firmware.Form.TheVariants.Alone}
use Rattle.run_reports.specs.{CertifiedRun.AcceptsRun, RowLines.run_lines}
use Rattle.run_reports.specs.declared.files.RunFiles.{RunFiles}
use Rattle.run_commands.specs.Run.{AcceptedRunsMakeOutput, run_with}
use Rattle.promise.specs.Laws.{AcceptedFilesGiveFirmware, AcceptedFilesKeepPromise, AreAccepted}
use Rattle.promise.specs.Laws.{CertifiedRunsKeepPromise}

accepts : (format : CertFormat) (files : RunFiles) (a : AreAccepted format files)
    → AcceptsRun format files a.block (alone_with format.width a.block a.image) a.errors a.samples a.plan
accepts format files a =
    let compiled : GivesFirmware (Alone format.width) files.fcl a.block (alone_with format.width a.block a.image) = record {
      spelled = a.spelled;
      limits = a.limits;
      compiled = (alone_is format.width a.block a.image a.image_is, refl);
    } in
    (compiled, (a.records, (a.accepted, (a.in_range, a.good_plan))))

pub give_firmware : AcceptedFilesGiveFirmware
give_firmware format files a = (
  (
    record { block = a.block; firmware = alone_with format.width a.block a.image },
    (tt, (a.errors, (a.samples, a.plan))),
  ),
  accepts format files a,
)

pub accepted_keep : CertifiedRunsKeepPromise → AcceptedRunsMakeOutput → AcceptedFilesKeepPromise
accepted_keep keep made format flags files byte a =
    let gives = made (run_with format flags) files a.block (alone_with format.width a.block a.image) a.errors a.samples
    a.plan byte (accepts format files a) in
    let run = gives.1 in
    let report = run.report in (
      report,
      gives.2,
      concat (run_lines report run.certified.left),
      keep format flags files report run.certified byte,
    )
