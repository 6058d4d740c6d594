-- A firmware whose tables are watched is a sound form. The proof stands here, where an impl can cite it.
-- Beside the promise.
use Rattle.std.proofs.Common.{ℕ, List, [], ◌∷◌, ◌++◌, ap₂, arith, inl}
use Rattle.std.specs.Prelude.{Option, Some, None, slice_index}
use Rattle.cpu12_isa.specs.{Agreement.WritesAgree, Regions.is_free, Regions.is_hidden}
use Rattle.cpu12_parts.specs.State.{State}
use Rattle.cpu12_emul.specs.{Image.image_memory, Simulation.OnStackOnly, Simulation.Same}
use Rattle.run_law.specs.Soundness.{Sound, WritesAreQuiet}
use Rattle.interrupt_plan.specs.Plans.{IsGoodRequest}
use Rattle.firmware_code.specs.declared.firmware.Firmware.{Firmware}
use Rattle.firmware_code.proofs.Algebra.{low_shown}
use Rattle.watched_code.specs.{Watched.Change, Watched.changed, Watched.restored, WatchedCode.fault_at}
use Rattle.alone_runs.specs.Following.{IsLow, Nothing}
use Rattle.firmware_runs.specs.Ports.{given}
use Rattle.alone_runs.specs.SoundAloneProof as alone
use Rattle.alone_runs.specs.SoundAloneProof.{leaves_stack, free_opens, all_open}
use Rattle.watched_runs.specs.Forms.{watched_form, FactsWatched}

-- one byte more is written alike
same_set : WritesAgree → (at v : ℕ) (w s : State) → Same is_free w s
    → Same is_free (record w { mem = changed (Some (at, v)) w.mem }) (record s { mem = changed (Some (at, v)) s.mem })
same_set agree at v w s l =
    let hidden = is_hidden is_free s.regs.sp in
    record { regs = l.regs; temps = l.temps; mem = agree ((at, v) ∷ []) w.mem s.mem hidden hidden l.mem (λ k h. inl h) }

same_changed : WritesAgree → (c : Option Change) (w s : State) → Same is_free w s
    → Same is_free (record w { mem = changed c w.mem }) (record s { mem = changed c s.mem })
same_changed agree None w s l = l
same_changed agree (Some c) w s l = same_set agree c.0 c.1 w s l

same_restored : WritesAgree → (image : List ℕ) (c : Option Change) (w s : State) → Same is_free w s
    → Same is_free (restored image c w) (restored image c s)
same_restored agree image None w s l = l
same_restored agree image (Some c) w s l = same_set agree c.0 (slice_index image c.0) w s l

pub sound : (flags : ℕ) (f : Firmware) → IsLow f → WritesAgree → WritesAreQuiet
    → Sound OnStackOnly is_free (watched_form flags f) (FactsWatched flags) IsGoodRequest Nothing
sound flags f low agree quiet =
    let beside = alone.sound is_free free_opens flags f low agree quiet in
    record {
      apart = leaves_stack;
      shown = λ s p. (let facts = p.facts in facts.shown);
      gives = λ x w s l.
          (let same = beside.gives x.bytes w s l in
          same_changed agree x.change (given f.memory_map x.bytes w) (given f.memory_map x.bytes s) same);
      leaves = λ x w s l. same_restored agree (image_memory f.image.bytes) x.change w s l;
      answers = λ w s l.
          (let shown = low_shown is_free s.regs.sp fault_at (free_opens.low fault_at (omega arith)) (omega arith) in
          ap₂ (λ (xs : List ℕ) (v : ℕ). xs ++ v ∷ []) (beside.answers w s l) (l.mem.bytes fault_at shown));
      ends = beside.ends;
      quiet = λ done a v s good p may begins own.
          (let facts = p.facts in
          let shown = facts.shown in (
            quiet OnStackOnly is_free a.writes v s leaves_stack (all_open is_free free_opens a.writes good.free)
                shown.room begins,
            tt,
          ));
      leaves_open = record {
        leaves = λ done x w o. tt;
        pushes = λ done w s p l o. tt;
        steps = λ done w s p l o. tt;
      };
    }
