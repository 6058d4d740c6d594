-- Answers of a mailbox firmware within the errors of a certificate.
-- Beside the promise.
use Rattle.std.specs.Prelude.{◌≡◌, ℕ, ◌+◌, ◌-◌, ◌≤◌, List, [], All, length, map, take, Some, slice_get}
use Rattle.std.specs.List.{slice_index_or}
use Rattle.fz_num.specs.declared.dec.Dec.{Dec}
use Rattle.fuzzy_meaning.specs.{declared.block.Block.Block, Blocks.IsValid}
use Rattle.box_tree.specs.declared.cert.Cert.{Cert}
use Rattle.cert_check.specs.Acceptance.{IsAccepted}
use Rattle.firmware_code.specs.Uninterrupted.{Answer, AreAnswersOf}
use Rattle.byte_scaling.specs.{Widths.parts, declared.width.Width.Width}
use Rattle.trace_io.specs.{Traces.Spells, declared.sample.Sample.Sample}
use Rattle.trace_io.specs.Traces.{input_bytes}
use Rattle.alone_runs.specs.Rows.{bytes_of}
use Rattle.run_reports.specs.Nearness.{numbers_of, IsWithinErrors}

-- the numbers of the inputs of sample k, counted from 1
abbrev pub numbers_at : List Sample → ℕ → List Dec
numbers_at samples k = slice_index_or (numbers_of samples) (k - 1) []

-- k is the number of one of so many samples
pub record IsOneOf (samples : ℕ) (k : ℕ) : Type 0 where
  pub from : 1 ≤ k
  pub to : k ≤ samples

-- the answers are those to the samples of these numbers, one by one: each is within the errors of the exact answer to
-- the samples up to its own
abbrev pub ArePostedWithinErrors : ℕ → Block → List ℕ → List Sample → List ℕ → List Answer → Type 0
ArePostedWithinErrors h b errors samples posted answers = (k : ℕ) (a : Answer) → slice_get answers k ≡ Some a
    → IsWithinErrors h b errors (take (k + 1) (map (numbers_at samples) posted)) a.values

-- So are a block's answers to samples of a trace, whichever are posted and how often, for each certificate that is
-- accepted for the block.
abbrev pub MailboxAnswersAreNear : Type 0
MailboxAnswersAreNear = (w : Width) (b : Block) (most : ℕ) (cert : Cert) (errors trace : List ℕ) (samples : List Sample)
    (posted : List ℕ) (answers : List Answer)
    → IsValid b → Spells b.inputs trace samples → All (IsOneOf (length samples)) posted
    → AreAnswersOf w b most (λ o. 0) (map (bytes_of (map input_bytes samples)) posted) answers
    → IsAccepted b (parts w) cert errors → ArePostedWithinErrors (parts w) b errors samples posted answers
