-- Fast runs inside the interrupts of a slow one, read off the machine's run without inner requests.
-- Beside the promise.
use Rattle.std.specs.Prelude.{◌≡◌, ℕ, max, true, List, [], ◌∷◌, length, Option, None, Some}
use Rattle.fuzzy_meaning.specs.declared.block.Block.{Block}
use Rattle.cpu12_parts.specs.State.{State}
use Rattle.alone_runs.specs.Rows.{bytes_of}
use Rattle.firmware_runs.specs.Ports.{given}
use Rattle.interrupt_plan.specs.declared.levels.Level.{Level}
use Rattle.run_law.specs.{Forms.Form, Forms.RowSeen, Soundness.Begins, Uninterrupted.uninterrupted}
use Rattle.two_level_code.specs.{MemoryMaps.is_open_to_fast, declared.two.Two.Two}
use Rattle.two_level_runs.specs.{Answering.run_of_level, Runs.FastSeen, Runs.entered, Runs.fast_form, Runs.seen_of}
use Rattle.promise.specs.Bench.{EndsAfter, row_without}

-- the form of a fast run, where an inner moment 0 counts as 1: I is 1 in the state in which the code is entered
abbrev pub inner_form : ℕ → ℕ → ℕ → Form (Unit {0}) ℕ (Unit {0})
inner_form flags outputs sp = record (fast_form flags outputs sp) { moment = λ m. max 1 m }

-- what is told of a fast run, without the number of its sample
abbrev pub row_of_fast : FastSeen → RowSeen (Unit {0})
row_of_fast f = record {
  sample = tt;
  answers = f.answers;
  instrs = f.instrs;
  steps = f.steps;
  resumed = f.resumed;
  frames = f.frames;
}

-- A level's interrupt began where the slow run without interrupts is in `slow`, and entered the fast code. What is told
-- is what is seen of the machine's run from there, under the inner requests; and it is read off the run without them,
-- which ends after just its steps.
pub record FastServes (b : Block) (two : Two) (flags : ℕ) (fast : List (List ℕ)) (slow : State) (l : Level)
    (f : FastSeen) : Type 0 where
  pub interrupted : State
  pub begins : Begins is_open_to_fast interrupted slow
  pub first : State
  pub enters : first ≡ entered (bytes_of fast l.fast) interrupted
  pub arrived : (run_of_level b two flags fast l interrupted).arrived ≡ true
  pub seen : f ≡ seen_of l.fast (length b.outputs) (run_of_level b two flags fast l interrupted)
  pub ends : EndsAfter (inner_form flags (length b.outputs) first.regs.sp) f.steps first
  pub without : row_of_fast f
      ≡ row_without (inner_form flags (length b.outputs) first.regs.sp) l.inner.items f.steps tt first

-- so does what a level told, where it has a fast sample
abbrev pub TwoLevelServes : Block → Two → ℕ → List (List ℕ) → State → Level → Option FastSeen → Type 0
TwoLevelServes b two flags fast slow l None = Unit {0}
TwoLevelServes b two flags fast slow l (Some f) = FastServes b two flags fast slow l f

-- each level in a slow sample that is given in s, at its moment
abbrev pub LevelsServe : Block → Two → ℕ → List (List ℕ) → State → List (Level × Option FastSeen) → Type 0
LevelsServe b two flags fast s [] = Unit {0}
LevelsServe b two flags fast s ((l, told) ∷ ts) =
    TwoLevelServes b two flags fast (uninterrupted flags l.moment s) l told × LevelsServe b two flags fast s ts

-- each in slow samples from s on, which take so many steps each
abbrev pub AllLevelsServe : Block → Two → ℕ → List (List ℕ) → List (List (Level × Option FastSeen)) → List ℕ
    → List (List ℕ) → State → Type 0
AllLevelsServe b two flags fast [] ns samples s = Unit {0}
AllLevelsServe b two flags fast (ts ∷ tss) [] samples s = ⊥
AllLevelsServe b two flags fast (ts ∷ tss) (n ∷ ns) [] s = ⊥
AllLevelsServe b two flags fast (ts ∷ tss) (n ∷ ns) (x ∷ rest) s =
    (let given_in = given two.firmware.memory_map x s in
    LevelsServe b two flags fast given_in ts
    × AllLevelsServe b two flags fast tss ns rest (uninterrupted flags n given_in))
