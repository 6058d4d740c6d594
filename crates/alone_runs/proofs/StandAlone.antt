-- A firmware that stands alone is sound under requests that list writes, and so its runs follow those without
-- interrupts.
use Rattle.std.proofs.Common.{◌≡◌, ℕ, suc, List, [], ◌∷◌, refl, ap, ap₂, ◌∙◌}
use Rattle.cpu12_isa.specs.Regions.{is_free, is_hidden}
use Rattle.cpu12_isa.proofs.Algebra.{agree_self}
use Rattle.cpu12_parts.specs.State.{State}
use Rattle.run_law.specs.{Forms.RowSeen, Following.AllComplete, Following.expected_rows, Moments.TakenAtOnce}
use Rattle.run_law.specs.Uninterrupted.{uninterrupted, counted, resumed_of, frames_of}
use Rattle.interrupt_plan.specs.declared.Request.{Request}
use Rattle.firmware_code.specs.declared.firmware.Firmware.{Firmware}
use Rattle.firmware_runs.specs.Ports.{given, answers_in}
use Rattle.alone_runs.specs.{Forms.with_writes, Rows.requests_of, SoundAloneProof.free_opens, Given.RequestsAreGood}
use Rattle.alone_runs.specs.Following.{rows_of_samples, RunsFollowAlone, RunsFollowBeside}
use Rattle.firmware_runs.specs.Facts.{FactsAlone}
use Rattle.firmware_runs.proofs.Algebra.{at_moments}

same_rows : TakenAtOnce → (flags : ℕ) (f : Firmware) (plan : List Request) (k : ℕ) (ns : List ℕ)
    (samples : List (List ℕ)) (s : State)
    → AllComplete (FactsAlone flags f) (with_writes flags f) ns samples s
    → expected_rows (with_writes flags f) (λ j. requests_of j plan) k ns samples s ≡ rows_of_samples flags f plan k
    ns samples s
same_rows law flags f plan k [] samples s h = refl
same_rows law flags f plan k (n ∷ ns) [] s h = refl
same_rows law flags f plan k (n ∷ ns) (bytes ∷ rest) s h =
    let u : State = given f.memory_map bytes s in
    let at = at_moments law (FactsAlone flags f) (λ v p. (let facts = p.facts in facts.unmasked)) flags n u
    (λ (r : Request). r.moment) (let complete = h.0 in complete.holds) in
    ap₂ (λ (x : RowSeen (List ℕ)) (xs : List (RowSeen (List ℕ))). x ∷ xs) (ap (λ (moment : Request → ℕ). by moment) at)
    (same_rows law flags f plan (suc k) ns rest (uninterrupted flags n u) h.1)
  where
    by : (Request → ℕ) → RowSeen (List ℕ)
    by moment = record {
      sample = bytes;
      answers = answers_in f (uninterrupted flags n (given f.memory_map bytes s));
      instrs = counted flags n (given f.memory_map bytes s);
      steps = n;
      resumed = resumed_of flags moment (given f.memory_map bytes s) (requests_of k plan) n;
      frames = frames_of flags moment (given f.memory_map bytes s) (requests_of k plan) n;
    }

pub runs_follow_alone : RunsFollowBeside → RequestsAreGood → TakenAtOnce → RunsFollowAlone
runs_follow_alone law requests at_once flags f most plan ns samples s low good le h =
    let r = law is_free flags f free_opens low (λ j. requests_of j plan)
    (requests plan good) [] 1 most ns samples s s le (λ k d lt done u own. tt) h
    (record { regs = refl; temps = refl; mem = agree_self (is_hidden is_free s.regs.sp) s.mem }) tt in
    record {
      arrived = r.arrived;
      rows_are = r.rows_are ∙ same_rows at_once flags f plan 1 ns samples s h;
      simulates =
          r.simulates;
      last = r.last;
    }
