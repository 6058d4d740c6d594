-- What contents make of each command: an output or a refusal.
-- Beside the promise.
use Rattle.std.specs.Prelude.{◌≤◌, ℕ, List, length}
use Rattle.command_parts.specs.{Judged.HasResult, Words.AreMillionths}
use Rattle.build_commands.specs.{Asm.AsmMakes, Certify.CertifyMakes, declared.certify.Certify.Certify}
use Rattle.build_commands.specs.{Check.CheckMakes, declared.check.Check.Check}
use Rattle.build_commands.specs.{Compile.CompileMakes, declared.compile.Compile.Compile}
use Rattle.build_commands.specs.{Exec.ExecMakes, declared.exec.Exec.Exec, Hcheck.HcheckMakes, Lcompile.LcompileMakes}

-- where FCL has at most 1048576 bytes, and each target is at most the whole range
abbrev pub CertifyIsJudged : Type 0
CertifyIsJudged =
    (certify : Certify) (text : List ℕ) → AreMillionths certify.targets → length text ≤ 1048576
    → HasResult (CertifyMakes certify text)

abbrev pub CheckIsJudged : Type 0
CheckIsJudged =
    (check : Check) (text cert : List ℕ) → length text ≤ 1048576 → HasResult (CheckMakes check text cert)

abbrev pub CompileIsJudged : Type 0
CompileIsJudged = (compile : Compile) (text : List ℕ) → length text ≤ 1048576 → HasResult (CompileMakes compile text)

abbrev pub LcompileIsJudged : Type 0
LcompileIsJudged =
    (slow fast : List ℕ) → length slow ≤ 1048576 → length fast ≤ 1048576 → HasResult (LcompileMakes slow fast)

-- for all sources
abbrev pub AsmIsJudged : Type 0
AsmIsJudged = (source : List ℕ) → HasResult (AsmMakes source)

-- for all records
abbrev pub HcheckIsJudged : Type 0
HcheckIsJudged = (text : List ℕ) → HasResult (HcheckMakes text)

abbrev pub ExecIsJudged : Type 0
ExecIsJudged = (exec : Exec) (text : List ℕ) → HasResult (ExecMakes exec text)
