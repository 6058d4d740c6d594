use Rattle.std.proofs.Common.{◌≡◌, take}
use Rattle.fz_status.specs.Words.{texts_of}
use Rattle.test_program_calls.specs.Calls.{words_in}
use Rattle.test_program_calls.proofs.calls.words_of.Given as goal

abbrev pub invariant-loop-word : goal.invariant-loop-word
invariant-loop-word l = texts_of l.words.items ≡ words_in (take l.word-index l.line)
