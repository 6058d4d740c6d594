-- What a run shows of its samples.
use Rattle.std.proofs.Common.{◌≡◌, ℕ, suc, false, List, [], ◌∷◌, ◌++◌, take, refl, sym, ap, ◌∙◌}
use Rattle.std.specs.Prelude.{map, Option, slice_index}
use Rattle.cpu12_parts.specs.State.{State}
use Rattle.run_law.specs.Forms.{Form, RowSeen, row_of, rows_from, run_from}
use Rattle.firmware_code.specs.declared.firmware.Firmware.{Firmware}
use Rattle.eval_code.specs.declared.memory_map.MemoryMap.{MemoryMap}
use Rattle.watched_code.specs.{Watched.Change, Watched.Watched, Watched.changed, WatchedCode.fault_at}
use Rattle.run_forms.specs.declared.{sample.Notes.Notes, sample.Counts.Counts}
use Rattle.run_forms.specs.{Rooms.seen_notes, Rest.counted_at, Rest.shown_by, Rows.frames_seen, Rows.shown}
use Rattle.firmware_runs.specs.Ports.{given, answers_in}
use Rattle.watched_runs.specs.{Forms.given_changed, Forms.watched_parts, Rows.FaultSeen, Rows.fault_seen}
use Rattle.watched_runs.proofs.Answers.{take_answers, fault_behind}

-- where what handlers told is not shown, the rows alone are
pub shown_plainly : {S A B T : Type 0} (g : RowSeen S → T) (form : Form S A B) (most : ℕ) (asks : ℕ → List A) (k : ℕ)
    → (xs : List S) (s : State)
    → shown (λ (row : RowSeen S) (told : List B). g row) (rows_from form most asks k xs s)
    ≡ map g (rows_from form most asks k xs s).rows
unfolding rows_from
shown_plainly g form most asks k [] s = refl
shown_plainly {T = T} g form most asks k (x ∷ rest) s =
    let r = run_from form most 0 false (asks k) (form.give x s) in
    ap (λ (ys : List T). g (row_of form x r) ∷ ys)
    (shown_plainly g form most asks (suc k) rest (form.leave x r.state))

-- a sample is given with its change
pub given_is : (l : MemoryMap) (x : Watched) (c : Option Change) (bytes : List ℕ) (old mid : State)
    → mid ≡ given l bytes old → bytes ≡ x.bytes → c ≡ x.change
    → ◌≡◌ {A = State} (record mid { mem = changed c mid.mem }) (given_changed l x old)
given_is l x c bytes old mid by_bytes same_bytes same_change =
    let made : Option Change → State → State = λ d u. record u { mem = changed d u.mem } in
    ap (made c) (by_bytes ∙ ap (λ (vs : List ℕ). given l vs old) same_bytes)
    ∙ ap (λ (d : Option Change). made d (given l x.bytes old)) same_change

-- a row, by its parts
row_with : Counts (Notes (Unit {0})) → List ℕ → List ℕ → RowSeen (List ℕ)
row_with t bytes answers = record {
  sample = bytes;
  answers = answers;
  instrs = t.instrs;
  steps = t.moment;
  resumed = t.resumed;
  frames = frames_seen t.notes.frames.items;
}

-- a row with FAULT is what is shown
pub row_is : (f : Firmware) (x : Watched) (t : Counts (Notes (Unit {0}))) (end : State)
    (row : RowSeen (List ℕ)) (fault : ℕ)
    → (bytes answers : List ℕ) → row ≡ record {
      sample = bytes;
      answers = answers;
      instrs = t.instrs;
      steps = t.moment;
      resumed = t.resumed;
      frames = frames_seen t.notes.frames.items;
    } → answers ≡ answers_in f end → fault ≡ slice_index end.mem fault_at → bytes ≡ x.bytes
    → ◌≡◌ {A = FaultSeen} (record { row = row; fault = fault })
    (shown_by (λ (r : RowSeen Watched) (told : List (Unit {0})). fault_seen f.outputs r) (watched_parts f).answers
    (counted_at (seen_notes (λ (u : Unit {0}). u)) t end) x)
unfolding row_with
row_is f x t end row fault bytes answers by_row by_answers by_fault same_bytes =
    let made : RowSeen (List ℕ) → ℕ → FaultSeen = λ r v. record { row = r; fault = v } in
    let here = slice_index end.mem fault_at in
    let all = answers_in f end ++ here ∷ [] in
    let taken = take_answers f.width f.outputs f.memory_map.outputs end.mem here in
    let behind = fault_behind f.width f.outputs f.memory_map.outputs end.mem here in
    ap (λ (r : RowSeen (List ℕ)). made r fault) by_row
    ∙ ap (made (row_with t bytes answers)) (by_fault ∙ sym behind)
    ∙ ap (λ (ys : List ℕ). made (row_with t bytes ys) (slice_index all f.outputs)) (by_answers ∙ sym taken)
    ∙ ap (λ (vs : List ℕ). made (row_with t vs (take f.outputs all)) (slice_index all f.outputs)) same_bytes
