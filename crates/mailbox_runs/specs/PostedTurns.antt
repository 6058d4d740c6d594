-- A turn that answers, under posts, by the turn without interrupts of the sample that was posted last before the copy.
-- Beside the promise.
use Rattle.std.specs.Prelude.{◌≡◌, ℕ, ◌+◌, ◌-◌, ◌*◌, ◌≤◌, true, false, None, List, [], ◌∷◌, ◌++◌, drop, length, map}
use Rattle.cpu12_isa.specs.{declared.instr.Regs.Regs, Memory.plus, Registers.frame_bytes, Regions.is_free}
use Rattle.cpu12_parts.specs.State.{State}
use Rattle.cpu12_emul.specs.{Image.image_memory, Simulation.OnStackOnly, Simulation.Same, Take.FrameSeen}
use Rattle.run_law.specs.{Forms.Ran, Forms.run_from, Following.asked}
use Rattle.run_law.specs.Soundness.{AllSimulate, AllGood, Ascend}
use Rattle.run_law.specs.Uninterrupted.{uninterrupted, counted, taken_at, resumed_of, frames_after}
use Rattle.interrupt_plan.specs.{declared.Post.Post, Posts.IsGoodPost}
use Rattle.firmware_code.specs.declared.firmware.Firmware.{Firmware}
use Rattle.mailbox_code.specs.{Mailboxes.is_postable, Turns.IsAt}
use Rattle.byte_scaling.specs.Widths.{places}
use Rattle.mailbox_runs.specs.{Turns.up_to, Turns.behind, Turns.waiting, Runs.turn_form, Shifts.frames_from}
use Rattle.mailbox_runs.specs.Postings.{posted, IsBox, AreOfSize}
use Rattle.mailbox_runs.specs.UninterruptedTurns.{IsAnswerRun, IsIdleRun}

-- the frame at registers, where no sums run
abbrev pub plain_frame : Regs → FrameSeen
plain_frame r = record { pc = r.pc; sp = plus r.sp 65527; bytes = frame_bytes r }

-- where a run ends: its last state, and the states at its boundaries from this number of steps before its end on
pub record End : Type 0 where
  pub state : State
  pub steps : ℕ
  pub states : List State

-- a run comes to its end: its steps, its instructions, its resumed boundaries, its frames, what it takes, what it
-- leaves, and where it ends
pub record TurnEnds (r : Ran Post (Unit {0})) (n instrs resumed : ℕ) (frames : List (ℕ × FrameSeen))
    (told left : List Post) (e : End) : Type 0 where
  pub arrived : r.arrived ≡ true
  pub steps : r.steps ≡ n
  pub instrs_are : r.instrs ≡ instrs
  pub resumed_is : r.resumed ≡ resumed
  pub frames_are : r.frames ≡ frames
  pub told_is : asked r.told ≡ told
  pub left_is : r.left ≡ left
  pub state : r.state ≡ e.state
  pub late : e.steps ≤ n
  pub states_are : drop (n - e.steps) r.states ≡ e.states

-- the boundary of the turn at which a post is taken that waits behind the copy
abbrev pub part_taken : ℕ → ℕ → ℕ → State → Post → ℕ
part_taken flags g all u = taken_at flags (λ p. p.moment - g) all u

-- what is posted by the second boundary of a turn that begins at boundary g, by the third, and up to its end
abbrev pub second : ℕ → List Post → List Post
second g qs = up_to (g + 1) qs

abbrev pub third : ℕ → List Post → List Post
third g qs = up_to (g + 2) (behind (g + 1) qs)

abbrev pub behind_copy : ℕ → List Post → List Post
behind_copy g qs = behind (g + 2) (behind (g + 1) qs)

abbrev pub up_to_end : ℕ → ℕ → List Post → List Post
up_to_end g all qs = up_to (g + all - 1) (behind_copy g qs)

-- The turn r takes the steps and the instructions of the turn without interrupts from u, in which the last sample that
-- was posted before the copy is in the mailbox; posts that come behind that are taken behind the copy, from where on
-- its states simulate those of that turn; and it ends in the same state, but that the sample that came last is posted
-- there.
pub record FollowsTurn (flags : ℕ) (f : Firmware) (samples : List (List ℕ)) (g all : ℕ) (qs : List Post) (u : State)
    (run : IsAnswerRun f flags all u) (r : Ran Post (Unit {0})) : Type 0 where
  pub last : State
  pub late : List State
  pub ends : TurnEnds r all (counted flags all u)
      (resumed_of flags (part_taken flags g all u) u (behind_copy g qs) all)
      (map (λ p. (g + 1, plain_frame (let t : State = run.looked in t.regs))) (second g qs)
      ++ (map (λ p. (g + 2, plain_frame (let t : State = run.chosen in t.regs))) (third g qs)
      ++ frames_from g (frames_after flags (part_taken flags g all u) u None (up_to_end g all qs))))
      (second g qs ++ (third g qs ++ up_to_end g all qs)) (behind (g + all - 1) (behind_copy g qs))
      (record { state = last; steps = all - (f.inputs + 5); states = late })
  pub simulates : AllSimulate OnStackOnly is_postable flags late (uninterrupted flags (f.inputs + 5) u)
  pub mailed : Same is_free last
      (posted f.memory_map samples (waiting 0 (up_to_end g all qs)) (uninterrupted flags all u))
  pub same : Same is_postable last (uninterrupted flags all u)

-- So does each turn that begins with a sample in the mailbox, under good posts that come behind its begin.
abbrev pub PostedTurnsFollow : Type 0
PostedTurnsFollow =
    (flags : ℕ) (f : Firmware) (samples : List (List ℕ)) (n g most all w last : ℕ) (s v : State) (qs : List Post)
    → IsBox f.memory_map n → AreOfSize n samples → f.memory_map.outputs + places f.width * f.outputs ≤ 0x1020
    → f.inputs ≡ n → all ≤ most → IsAt (image_memory f.image.bytes) f.memory_map.wait s
    → 1 ≤ w → w ≤ length samples → 1 ≤ last → last ≤ length samples
    → last ≡ waiting (waiting w (second g qs)) (third g qs)
    → IsAt (image_memory f.image.bytes) f.memory_map.wait (uninterrupted flags all (posted f.memory_map samples last s))
    → AllGood (IsGoodPost (length samples)) qs → Ascend (λ p. p.moment) (g + 1) qs → up_to g qs ≡ []
    → Same is_free v (posted f.memory_map samples w s)
    → (run : IsAnswerRun f flags all (posted f.memory_map samples last s))
    → FollowsTurn flags f samples g all qs (posted f.memory_map samples last s) run
    (run_from (turn_form flags f samples g) most g false qs v)

-- An idle turn r takes two steps; what is posted by its second boundary is taken there; and it ends in the state of the
-- idle turn without interrupts, but that the sample that came last is posted there.
pub record FollowsIdle (flags : ℕ) (f : Firmware) (samples : List (List ℕ)) (g : ℕ) (qs : List Post) (s : State)
    (run : IsIdleRun f flags s) (r : Ran Post (Unit {0})) : Type 0 where
  pub last : State
  pub ends : TurnEnds r 2 2 0 (map (λ p. (g + 1, plain_frame (let t : State = run.looked in t.regs))) (second g qs))
      (second g qs) (behind (g + 1) qs) (record { state = last; steps = 0; states = last ∷ [] })
  pub mailed : Same is_free last (posted f.memory_map samples (waiting 0 (second g qs)) (uninterrupted flags 2 s))

-- So does each turn that begins with no sample in the mailbox.
abbrev pub IdleTurnsFollow : Type 0
IdleTurnsFollow =
    (flags : ℕ) (f : Firmware) (samples : List (List ℕ)) (n g most : ℕ) (s v : State) (qs : List Post)
    → IsBox f.memory_map n → AreOfSize n samples → 2 ≤ most → IsAt (image_memory f.image.bytes) f.memory_map.wait s
    → IsAt (image_memory f.image.bytes) f.memory_map.wait (uninterrupted flags 2 s)
    → AllGood (IsGoodPost (length samples)) qs → up_to g qs ≡ [] → Same is_free v s
    → (run : IsIdleRun f flags s)
    → FollowsIdle flags f samples g qs s run (run_from (turn_form flags f samples g) most g false qs v)
