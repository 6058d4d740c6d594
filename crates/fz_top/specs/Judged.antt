-- What contents make of every command: one output or one refusal.
-- Beside the promise.
use Rattle.std.specs.Prelude.{◌<◌, ◌≤◌, ◌^◌, ℕ, List, All, length}
use Rattle.command_parts.specs.{Judged.HasResult, Words.AreMillionths}
use Rattle.fz_top.specs.{Accepted.run_flags, Commands.Makes, Runs.HasOneResult, declared.command.Command.Command}
use Rattle.fz_top.specs.declared.command.Command.TheVariants.{Certify}

-- the targets of a certificate to find are at most the whole range, as those of words are
abbrev pub HasMillionths : Command → Type 0
HasMillionths (Certify certify) = AreMillionths certify.targets
HasMillionths _ = Unit {0}

-- where FLAGS are a byte, and each file has at most 1048576 bytes
abbrev pub ContentsAreJudged : Type 0
ContentsAreJudged = (command : Command) (contents : List (List ℕ)) → run_flags command < 2 ^ 8
    → HasMillionths command → All (λ text. length text ≤ 1048576) contents → HasResult (Makes command contents)

-- and all that they make is one: an output and the same output, or a refusal and the same status
abbrev pub ContentsHaveOneResult : Type 0
ContentsHaveOneResult = (command : Command) (contents : List (List ℕ)) → HasOneResult (Makes command contents)
