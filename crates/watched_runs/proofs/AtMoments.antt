-- Each request is taken at its moment.
use Rattle.std.proofs.Common.{◌≡◌, ℕ, suc, List, [], ◌∷◌, ◌++◌, refl, ap, ap₂, ◌∙◌, map}
use Rattle.std.specs.Prelude.{slice_index}
use Rattle.cpu12_emul.specs.Image.{image_memory}
use Rattle.cpu12_parts.specs.State.{State}
use Rattle.run_law.specs.Uninterrupted.{uninterrupted, counted, resumed_of, frames_of}
use Rattle.run_law.specs.{Following.AllComplete, Following.expected_rows, Moments.TakenAtOnce}
use Rattle.interrupt_plan.specs.declared.Request.{Request}
use Rattle.firmware_code.specs.declared.firmware.Firmware.{Firmware}
use Rattle.firmware_runs.{specs.Ports.answers_in, proofs.Moments.at_moments}
use Rattle.alone_runs.specs.{Following.row_of_sample, Rows.requests_of}
use Rattle.watched_code.specs.{Watched.Watched, Watched.restored, WatchedCode.fault_at}
use Rattle.watched_runs.specs.Forms.{given_changed, watched_form, FactsWatched}
use Rattle.watched_runs.specs.Rows.{FaultSeen, fault_seen, row_of_watched, rows_of_watched}
use Rattle.watched_runs.proofs.Answers.{take_answers, fault_behind}

-- a sample's row, by the boundary at which a request is taken
module _ (flags : ℕ) (f : Firmware) (qs : List Request) (n : ℕ) (x : Watched) (u : State) where
  end : State
  end = uninterrupted flags n u

  fault : ℕ
  fault = slice_index end.mem fault_at

  row_by : (Request → ℕ) → FaultSeen
  row_by moment = fault_seen f.outputs (record {
    sample = x;
    answers = answers_in f end ++ fault ∷ [];
    instrs = counted flags n u;
    steps = n;
    resumed = resumed_of flags moment u qs n;
    frames = frames_of flags moment u qs n;
  })

  seen_with : List ℕ → ℕ → FaultSeen
  seen_with answers fault =
      record { row = record (row_of_sample flags f qs n x.bytes u) { answers = answers }; fault = fault }

  row_is : row_by (λ r. r.moment) ≡ row_of_watched flags f qs n x u
  unfolding end fault row_by seen_with
  row_is = ap₂ seen_with (take_answers f.width f.outputs f.memory_map.outputs end.mem fault)
      (fault_behind f.width f.outputs f.memory_map.outputs end.mem fault)

pub same_rows : TakenAtOnce → (flags : ℕ) (f : Firmware) (plan : List Request) (k : ℕ) (ns : List ℕ)
    (xs : List Watched) (s : State) → AllComplete (FactsWatched flags) (watched_form flags f) ns xs s
    → map (fault_seen f.outputs) (expected_rows (watched_form flags f) (λ j. requests_of j plan) k ns xs s)
    ≡ rows_of_watched flags f plan k ns xs s
unfolding end fault row_by
same_rows law flags f plan k [] xs s h = refl
same_rows law flags f plan k (n ∷ ns) [] s h = refl
same_rows law flags f plan k (n ∷ ns) (x ∷ rest) s h =
    let u : State = given_changed f.memory_map x s in
    let at = at_moments law (FactsWatched flags) (λ v p. (let facts = p.facts in facts.unmasked)) flags n u
    (λ (r : Request). r.moment) (let complete = h.0 in complete.holds) in
    ap₂ (λ (row : FaultSeen) (rows : List FaultSeen). row ∷ rows)
    (ap (row_by flags f (requests_of k plan) n x u) at ∙ row_is flags f (requests_of k plan) n x u)
    (same_rows law flags f plan (suc k) ns rest
    (restored (image_memory f.image.bytes) x.change (uninterrupted flags n u)) h.1)
