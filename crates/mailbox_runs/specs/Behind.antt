-- The part of a turn behind the copy as a sound form: the mailbox is open to its posts too.
-- Beside the promise.
use Rattle.std.specs.Prelude.{ℕ, ◌+◌, ◌*◌, ◌≤◌, not, Bool, List, [], ◌∷◌, length}
use Rattle.cpu12_isa.specs.Agreement.{Agree, WritesAgree}
use Rattle.cpu12_parts.specs.State.{State}
use Rattle.cpu12_emul.specs.Simulation.{OnStackOnly}
use Rattle.run_law.specs.{Soundness.Sound, Soundness.WritesAreQuiet, Following.RunFollows}
use Rattle.interrupt_plan.specs.{declared.Post.Post, Posts.IsGoodPost}
use Rattle.firmware_code.specs.declared.firmware.Firmware.{Firmware}
use Rattle.mailbox_code.specs.Mailboxes.{is_mail, is_postable}
use Rattle.eval_code.specs.declared.memory_map.MemoryMap.{MemoryMap}
use Rattle.byte_scaling.specs.Widths.{places}
use Rattle.firmware_runs.specs.Facts.{FactsBeside}
use Rattle.mailbox_runs.specs.{Runs.TurnForm, Runs.turn_form, Shifts.counted_from}
use Rattle.mailbox_runs.specs.Postings.{mailed, last_of, IsBox, AreOfSize}

-- a turn that begins at boundary g, with boundaries counted from there
abbrev pub part_form : ℕ → Firmware → List (List ℕ) → ℕ → TurnForm
part_form flags f samples g = counted_from g (turn_form flags f samples g)

-- the sample that was posted last, 0 for none; the last post comes first
abbrev pub posted_by : List (Post × Unit {0}) → ℕ
posted_by [] = 0
posted_by (t ∷ ts) = last_of (posted_by ts) (let p : Post = t.0 in p.sample)

-- outside the mailbox
abbrev pub not_mail : ℕ → Bool
not_mail at = not (is_mail at)

-- The mailbox holds what stood in it behind the copy, but for the sample that was posted last.
pub record HoldsMail (l : MemoryMap) (samples : List (List ℕ)) (copied : List ℕ) (done : List (Post × Unit {0}))
    (s : State)
    : Type 0 where
  pub within : posted_by done ≤ length samples
  pub mail : Agree not_mail s.mem (mailed l samples (posted_by done) copied)

-- a firmware, samples, the boundary where a turn begins, and memory behind the copy, where this form is sound
pub record Copied : Type 0 where
  pub flags : ℕ
  pub firmware : Firmware
  pub samples : List (List ℕ)
  pub begin : ℕ
  pub copied : List ℕ
  pub sound : WritesAgree → WritesAreQuiet
      → Sound OnStackOnly is_postable (part_form flags firmware samples begin)
      (FactsBeside is_postable flags firmware) (IsGoodPost (length samples))
      (HoldsMail firmware.memory_map samples copied)

-- So the runs of the part behind the copy follow the run without interrupts, where the outputs stand below the mailbox.
abbrev pub FollowsBehind : Type 0
FollowsBehind = (flags : ℕ) (f : Firmware) (samples : List (List ℕ)) (n begin : ℕ) (copied : List ℕ)
    → IsBox f.memory_map n
    → AreOfSize n samples → f.memory_map.outputs + places f.width * f.outputs ≤ 0x1020
    → RunFollows OnStackOnly is_postable (part_form flags f samples begin) (FactsBeside is_postable flags f)
    (IsGoodPost (length samples)) (HoldsMail f.memory_map samples copied)
