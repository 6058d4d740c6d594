-- What is seen of a fast run, by what was counted of it.
use Rattle.two_level_runs.proofs.Words.{[], ◌-◌, ◌<◌, ◌∙◌, ◌∷◌, ◌≡◌, ap, ap₂, arith, bytes_at, counted_at}
use Rattle.two_level_runs.proofs.Words.{fast_map, fast_run, FastSeen, from, get_or, inner_notes, input_bytes, length}
use Rattle.two_level_runs.proofs.Words.{length-map, List, map, None, Ran, sample_of, SampleSummary, seen_of}
use Rattle.two_level_runs.proofs.Words.{slice_get, Some, State}
use Rattle.two_level_runs.proofs.Words.{suc, sym, zero, ℕ}
use Rattle.std.proofs.{Common.Option, Common.Bor}
use Rattle.std.specs.{Prelude.MatchOption}
use Rattle.trace_io.specs.{declared.sample.Sample.Sample}
use Rattle.run_forms.specs.{declared.sample.Counts.Counts, Rest.summary}
use Rattle.two_level_runs.specs.{declared.fast_code.InnerFrame.InnerFrame, InnerNotes.inner_frames_seen}
use Rattle.std.specs.Slice.{IsItemAt}
use Rattle.std.proofs.lemmas.Option.{slice_get_past}
use Rattle.arrayvec.specs.ArrayVec.{ArrayVec}

-- what is seen of a run of which this was counted
abbrev pub seen : ℕ → List ℕ → Counts (ArrayVec InnerFrame) → FastSeen
seen number answers c = record {
  number = number;
  answers = answers;
  instrs = c.instrs;
  steps = c.moment;
  resumed = c.resumed;
  frames = inner_frames_seen c.notes.items;
}

pub seen_by_counts : (number outputs : ℕ) (c : Counts (ArrayVec InnerFrame)) (s : State) (r : Ran ℕ (Unit {0}))
    (answers : List ℕ)
    → counted_at inner_notes c s ≡ summary r
    → answers ≡ bytes_at s.mem (from fast_map.outputs outputs)
    → seen number answers c ≡ seen_of number outputs r
seen_by_counts number outputs c s r answers e are =
    let state : s ≡ r.state = ap (λ k. k.state) e in
    let instrs : c.instrs ≡ r.instrs = ap (λ k. k.instrs) e in
    let steps : c.moment ≡ r.steps = ap (λ k. k.steps) e in
    let resumed : c.resumed ≡ r.resumed = ap (λ k. k.resumed) e in
    let frames : inner_frames_seen c.notes.items ≡ r.frames = ap (λ k. k.frames) e in
    let read : answers ≡ bytes_at r.state.mem (from fast_map.outputs outputs) =
    are ∙ ap (λ (u : State). bytes_at u.mem (from fast_map.outputs outputs)) state in
    cc

-- the sample of a number that is not 0
sample_there : (fast : List (List ℕ)) (number : ℕ) → 0 < number → sample_of fast number ≡ slice_get fast (number - 1)
sample_there fast zero some = absurd (omega arith)
sample_there fast (suc j) some = ap (slice_get fast) (let e : j ≡ suc j - 1 = omega arith in e)

bytes_there : (xs : List Sample) (k : ℕ) (v : Sample) → k < length xs → v ≡ get_or xs k v
    → slice_get (map input_bytes xs) k ≡ Some (input_bytes v)
bytes_there [] k v l e = absurd (omega arith)
bytes_there (y ∷ ys) zero v l e = ap (λ (x : Sample). Some (input_bytes x)) (sym e)
bytes_there (y ∷ ys) (suc k) v l e = bytes_there ys k v (omega arith) e

pub sample_got : (samples : List Sample) (number : ℕ) (r : Option (Bor Sample)) → 0 < number
    → IsItemAt samples (number - 1) r
    → MatchOption r (sample_of (map input_bytes samples) number ≡ None)
    (λ s. sample_of (map input_bytes samples) number ≡ Some (input_bytes s.now))
sample_got samples number None some got =
    let count = length-map samples input_bytes in
    let past = got.3 in
    sample_there (map input_bytes samples) number some
    ∙ slice_get_past (map input_bytes samples) (number - 1) (omega (arith, count, past))
sample_got samples number (Some s) some got =
    sample_there (map input_bytes samples) number some ∙ bytes_there samples (number - 1) s.now got.3.0 (got.3.1 s.now)

-- a run by equal parts
pub same_run : (outputs k k2 most most2 : ℕ) (inner : List ℕ) (u u2 : State) (x : SampleSummary (Unit {0}))
    → x ≡ summary (fast_run k outputs most inner u)
    → k ≡ k2 → most ≡ most2 → u ≡ u2 → x ≡ summary (fast_run k2 outputs most2 inner u2)
same_run outputs k k2 most most2 inner u u2 x e flags bound state =
    e ∙ ap₂ (λ (j n : ℕ). summary (fast_run j outputs n inner u)) flags bound
    ∙ ap (λ (v : State). summary (fast_run k2 outputs most2 inner v)) state
