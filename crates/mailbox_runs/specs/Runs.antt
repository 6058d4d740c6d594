-- The run of the mailbox form under posts, turn by turn.
-- Beside the promise.
use Rattle.std.specs.Prelude.{ℕ, zero, suc, ◌+◌, ◌-◌, ◌*◌, ◌==◌, ◌&&◌, nat_lt, min, Bool, true, false, if◌then◌else◌}
use Rattle.std.specs.Prelude.{List, [], ◌∷◌, ◌++◌, slice_index}
use Rattle.cpu12_isa.specs.{declared.instr.Write.Write, Memory.plus}
use Rattle.cpu12_parts.specs.State.{State}
use Rattle.cpu12_emul.specs.{Image.image_memory, Step.reset_with, Take.FrameSeen, Take.framed}
use Rattle.run_law.specs.Forms.{Form, Taking, takes, is_empty, Ran, run_from}
use Rattle.run_law.specs.Following.{asked}
use Rattle.run_forms.specs.declared.sample.Notes.{Notes}
use Rattle.run_forms.specs.{Rooms.seen_notes, Forms.FormParts, Forms.plan_form, Forms.Harness}
use Rattle.interrupt_plan.specs.declared.Post.{Post}
use Rattle.trace_io.specs.declared.sample.Sample.{Sample}
use Rattle.firmware_code.specs.declared.firmware.Firmware.{Firmware}
use Rattle.firmware_code.specs.{Arrivals.given, Uninterrupted.is_waiting, Uninterrupted.values_in}
use Rattle.eval_code.specs.declared.memory_map.MemoryMap.{MemoryMap}
use Rattle.alone_runs.specs.Rows.{bytes_of}
use Rattle.mailbox_runs.specs.declared.run.Answer as declared
use Rattle.mailbox_runs.specs.Turns.{up_to, behind, waiting}

-- bytes as writes, one after the other from an address on
abbrev pub writes_from : ℕ → List ℕ → List Write
writes_from at [] = []
writes_from at (v ∷ vs) = record { at = at; value = v } ∷ writes_from (plus at 1) vs

-- what the handler of a post writes: of a sample its bytes to MAIL and 1 to POSTED, and then the post's own writes
abbrev pub post_writes : MemoryMap → List (List ℕ) → Post → List Write
post_writes l samples p =
    if p.sample == 0 then p.writes
    else writes_from l.samples (bytes_of samples p.sample) ++ (record { at = l.sample_flag; value = 1 } ∷ p.writes)

abbrev pub TurnForm : Type 0
TurnForm = Form (Unit {0}) Post (Unit {0})

-- A turn that begins at boundary g ends at the next boundary at which PC is where the code waits. It is given nothing,
-- and its posts have no sample but the moment from which on they are due.
abbrev pub turn_parts : Firmware → List (List ℕ) → ℕ → FormParts (Unit {0}) Post (Unit {0})
turn_parts f samples g = record {
  give = λ x s. s;
  leave = λ x s. s;
  ends = λ m s. nat_lt g m && is_waiting f.memory_map s;
  answers = values_in f;
  place = λ p. (0, p.moment);
  handle = λ flags p. framed (post_writes f.memory_map samples p);
  tells = λ flags p s. tt;
}

abbrev pub turn_form : ℕ → Firmware → List (List ℕ) → ℕ → TurnForm
turn_form flags f samples g = plan_form flags (turn_parts f samples g)

-- the run of one turn alone, which has no row
abbrev pub turn_harness : Firmware → List (List ℕ) → ℕ
    → Harness Post (Notes (Unit {0})) (Unit {0}) (Unit {0}) (Unit {0}) (Unit {0})
turn_harness f samples g = record {
  samples = [];
  parts = turn_parts f samples g;
  notes = seen_notes (λ u. u);
  shows = λ row told. tt;
  seen = λ r. tt;
}

-- an answer: the sample, the boundary where its turn ends, its input bytes, the values of the outputs there, and the
-- number of the turn's instructions
pub record AnswerSeen : Type 0 where
  pub sample : ℕ
  pub at : ℕ
  pub bytes : List ℕ
  pub values : List ℕ
  pub instrs : ℕ

-- a run: whether it came to its end; its answers; the frames with their boundaries; and at how many boundaries inside
-- an instruction an interrupt was taken
pub record RunSeen : Type 0 where
  pub arrived : Bool
  pub answers : List AnswerSeen
  pub frames : List (ℕ × FrameSeen)
  pub resumed : ℕ

abbrev pub no_turn : Bool → List (ℕ × FrameSeen) → ℕ → RunSeen
no_turn arrived frames resumed = record { arrived = arrived; answers = []; frames = frames; resumed = resumed }

abbrev pub before_turns : List AnswerSeen → List (ℕ × FrameSeen) → ℕ → RunSeen → RunSeen
before_turns answers frames resumed run = record {
  arrived = run.arrived;
  answers = answers ++ run.answers;
  frames = frames ++ run.frames;
  resumed = resumed + run.resumed;
}

-- Where sample v waits, or none, when a turn begins at boundary g, and these posts are taken in it: it answers the
-- sample posted last up to boundary g + 2, or is idle; and then the one waits that was posted last behind that.
abbrev pub answers_by : Firmware → List (List ℕ) → ℕ → ℕ → List Post → ℕ → ℕ → State → List AnswerSeen
answers_by f samples g v taken at instrs s =
    if v == 0 then []
    else (let k = waiting v (up_to (g + 2) taken) in
    record { sample = k; at = at; bytes = bytes_of samples k; values = values_in f s; instrs = instrs } ∷ [])

abbrev pub waits_by : ℕ → ℕ → List Post → ℕ
waits_by g v taken = waiting 0 (if v == 0 then taken else behind (g + 2) taken)

-- a turn r, and then the rest; a run ends with a turn that comes to no end
abbrev pub then_turns : Firmware → List (List ℕ) → ℕ → ℕ → List (ℕ × FrameSeen) → Ran Post (Unit {0})
    → (ℕ → ℕ → List Post → State → RunSeen) → RunSeen
then_turns f samples g v frames r rest =
    if r.arrived
    then before_turns (answers_by f samples g v (asked r.told) (g + r.steps) r.instrs r.state)
    (frames ++ r.frames) r.resumed
    (rest (g + r.steps) (waits_by g v (asked r.told)) r.left r.state)
    else no_turn false (frames ++ r.frames) r.resumed

-- no sample is posted, and no post is left
abbrev pub is_over : MemoryMap → Taking Post (Unit {0}) → Bool
is_over l b = is_empty b.left && (slice_index b.state.mem l.sample_flag == 0)

-- The turn that begins at boundary g, where the code waits in state s and these posts are left: what is due is taken
-- first, and then it runs up to boundary `last` at the most.
abbrev pub turn_from : ℕ → Firmware → List (List ℕ) → ℕ → ℕ → List Post → State → Ran Post (Unit {0})
turn_from flags f samples last g posts s =
    let b = takes (turn_form flags f samples g) g posts s in
    run_from (turn_form flags f samples g) (last - g) g false b.left b.state

-- At most n turns up to boundary `last`, from boundary g on, where the code waits in state s, sample w waits and these
-- posts are left.
unfoldable pub turns_from : ℕ → Firmware → List (List ℕ) → ℕ → ℕ → ℕ → ℕ → List Post → State → RunSeen
turns_from flags f samples last zero g w posts s = no_turn false [] 0
turns_from flags f samples last (suc n) g w posts s =
    let b = takes (turn_form flags f samples g) g posts s in
    if is_over f.memory_map b then no_turn true b.frames 0
    else then_turns f samples g (waiting w (asked b.told)) b.frames (turn_from flags f samples last g posts s)
    (turns_from flags f samples last n)

-- Boundaries are counted from the first arrival where the code waits, which is a turn from reset without posts.
abbrev pub arrival : Firmware → List (List ℕ) → ℕ → Ran Post (Unit {0})
arrival f samples flags =
    run_from (turn_form flags f samples 0) f.step_bound 0 false [] (reset_with (image_memory f.image.bytes))

-- a turn without posts that answers sample k, from where the code waits in s
abbrev pub answered_alone : ℕ → Firmware → List (List ℕ) → ℕ → State → Ran Post (Unit {0})
answered_alone flags f samples k s =
    run_from (turn_form flags f samples 0) f.step_bound 0 false [] (given f.memory_map (bytes_of samples k) s)

-- how many steps the turn of the last of these samples takes, where each is answered from where the one before left
abbrev pub steps_from : ℕ → Firmware → List (List ℕ) → State → List ℕ → ℕ
steps_from flags f samples s [] = 0
steps_from flags f samples s (k ∷ []) = (answered_alone flags f samples k s).steps
steps_from flags f samples s (k ∷ j ∷ ks) =
    steps_from flags f samples (answered_alone flags f samples k s).state (j ∷ ks)

-- from the first arrival where the code waits
abbrev pub steps_of : ℕ → Firmware → List (List ℕ) → List ℕ → ℕ
steps_of flags f samples = steps_from flags f samples (arrival f samples flags).state

-- The last post comes by boundary 1000000, in a turn within the bound, and one more answers its sample. Each turn takes
-- a step at least.
abbrev pub last_boundary : Firmware → ℕ
last_boundary f = min (1000000 + 2 * f.step_bound) 4000000000

abbrev pub most_turns : ℕ
most_turns = 1000003

abbrev pub run_under_posts : Firmware → List (List ℕ) → List Post → ℕ → RunSeen
run_under_posts f samples posts flags =
    let r = arrival f samples flags in
    if r.arrived then turns_from flags f samples (last_boundary f) most_turns 0 0 posts r.state else no_turn false [] 0

abbrev pub input_bytes : Sample → List ℕ
input_bytes s = s.bytes.items

-- an answer of the code, as it is seen
abbrev pub answer_seen : declared.Answer → AnswerSeen
answer_seen a = record {
  sample = a.sample;
  at = a.at;
  bytes = a.bytes.items;
  values = a.answers.items;
  instrs = a.instrs;
}
