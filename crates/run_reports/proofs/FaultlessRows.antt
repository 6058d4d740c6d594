-- The rows of a trace with upsets, one after another.
use Rattle.std.proofs.Common.{◌≡◌, ◌≢◌, ◌⊎◌, inl, inr, ◌≤◌, ℕ, zero, suc, ◌+◌, ◌-◌, ◌*◌, Bool, true, false, List, []}
use Rattle.std.proofs.Common.{◌∷◌, ◌++◌}
use Rattle.std.proofs.Common.{length, take, refl, ap, sym, ◌∙◌, subst, arith, append_assoc}
use Rattle.std.specs.Prelude.{All, map, if◌then◌else◌, Option, Some, None, slice_get, slice_index}
use Rattle.std.specs.Option.{option_map_or}
use Rattle.std.proofs.lemmas.Option.{slice_get_within}
use Rattle.std.proofs.lemmas.List.Elements.{All-take}
use Rattle.fz_num.specs.{declared.dec.Dec.Dec, Decimals.distance, Fractions.IsClose}
use Rattle.fuzzy_meaning.specs.declared.{block.Block.Block, block.Output.Output}
use Rattle.fuzzy_meaning.specs.{Blocks.AreInputs, Blocks.output_at, Meaning.exact_answer}
use Rattle.byte_scaling.specs.Cells.{bytes_of, nearest_byte, value_in}
use Rattle.point_slope.specs.Bytes.{ByteShare, answer_in, byte_shares, centre, resting_answer}
use Rattle.cert_check.specs.Laws.{AcceptedAnswersAreNear, answer_to, HasDefaults}
use Rattle.cpu12_emul.specs.Image.{image_memory}
use Rattle.firmware_code.specs.declared.firmware.Firmware.{Firmware}
use Rattle.watched_code.specs.Watched.{Watched, is_upset, watched_answer, watched_fault}
use Rattle.interrupt_plan.specs.declared.upsets.Upset.{Upset}
use Rattle.trace_io.specs.Traces.{input_bytes}
use Rattle.watched_runs.specs.Samples.{change_of, changes_from, with_upsets}
use Rattle.watched_runs.specs.{Rows.FaultSeen, Answering.AreWatchedRows}
use Rattle.run_reports.specs.Nearness.{numbers_of}
use Rattle.run_reports.specs.Faultless.{NoFaultBefore, FaultlessAnswersAreNear}
use Rattle.run_reports.proofs.NearRows.{bytes_read, are_inputs, answer_to_next}

-- ---- an answer where FAULT is 0

not_upset : (u : Bool) → ◌≡◌ {A = ℕ} (if u then 1 else 0) 0 → u ≡ false
not_upset true e = absurd (omega (arith, e))
not_upset false e = refl

faultless_answer : (b : Block) (image : List ℕ) (x : Watched) (o before : ℕ) → watched_fault image x ≡ 0
    → watched_answer b image x o before ≡ answer_in 1 b o x.bytes before
faultless_answer b image x o before e = let n = not_upset (is_upset image x.change) e in rw n refl

-- where the output has a default the answer before does not matter
rests : (o : Option Dec) (g : Dec → ℕ) (p q : ℕ) → o ≢ None → option_map_or g o p ≡ option_map_or g o q
rests None g p q some = absurd (some refl)
rests (Some d) g p q some = refl

forgets_in : (shares : Output → List ByteShare) (out : Option Output) (x : Output) (p q : ℕ) → out ≡ Some x
    → x.default ≢ None
    → option_map_or (λ y. centre 1 (shares y) (resting_answer 1 y p)) out p
    ≡ option_map_or (λ y. centre 1 (shares y) (resting_answer 1 y q)) out q
forgets_in shares None x p q is some = absurd cc
forgets_in shares (Some y) x p q is some =
    let same : x ≡ y = cc in
    let own : y.default ≢ None = subst (λ (z : Output). z.default ≢ None) same some in
    ap (centre 1 (shares y)) (rests y.default (λ d. 1 * nearest_byte y d) p q own)

forgets : (b : Block) (o : ℕ) (bytes : List ℕ) (x : Output) (p q : ℕ) → output_at b o ≡ Some x → x.default ≢ None
    → answer_in 1 b o bytes p ≡ answer_in 1 b o bytes q
forgets b o bytes x p q is some = forgets_in (byte_shares b bytes o) (output_at b o) x p q is some

-- ---- the answers of a row are those to the samples up to it

-- no answer before matters, or the one given is that to the samples before, and FAULT was 0 in each row since
abbrev Follows : Block → ℕ → (ℕ → ℕ) → List (List Dec) → ℕ → List FaultSeen → Type 0
Follows b o given before k rows =
    ((bytes : List ℕ) (p q : ℕ) → answer_in 1 b o bytes p ≡ answer_in 1 b o bytes q)
    ⊎ ((given o ≡ answer_to 1 b o before) × NoFaultBefore k rows)

abbrev sample_at : Block → List Dec → ℕ → List Upset → Watched
sample_at b x m upsets = record { bytes = bytes_of b.inputs x; change = change_of m upsets }

-- the answers behind it
abbrev given_by : Block → Firmware → List Dec → ℕ → List Upset → (ℕ → ℕ) → ℕ → ℕ
given_by b f x m upsets given n =
    watched_answer b (image_memory f.image.bytes) (sample_at b x m upsets) n (given n)

rows_follow : (b : Block) (f : Firmware) (o : ℕ) → 1 ≤ o → o ≤ length b.outputs → (before : List (List Dec))
    → (given : ℕ → ℕ) (m : ℕ) (upsets : List Upset) (xs : List (List Dec)) (rows : List FaultSeen)
    → AreWatchedRows b f given (changes_from m upsets (map (bytes_of b.inputs) xs)) rows
    → (k : ℕ) (r : FaultSeen) → slice_get rows k ≡ Some r → r.fault ≡ 0 → Follows b o given before k rows
    → slice_index r.row.answers (o - 1) ≡ answer_to 1 b o (before ++ take (k + 1) xs)
rows_follow b f o from to before given m upsets xs [] h k r is zero_ follows =
    absurd (let e : slice_get [] k ≡ Some r = is in cc)
rows_follow b f o from to before given m upsets [] (q ∷ rs) h k r is zero_ follows = absurd h
rows_follow b f o from to before given m upsets (x ∷ xs) (q ∷ rs) h zero r is zero_ follows =
    let row_is : q ≡ r = cc in
    let image = image_memory f.image.bytes in
    let sample = sample_at b x m upsets in
    let own = h.0.values o from to in
    let fault : watched_fault image sample ≡ 0 = sym h.0.fault ∙ ap (λ (s : FaultSeen). s.fault) row_is ∙ zero_ in
    ap (λ (s : FaultSeen). slice_index s.row.answers (o - 1)) (sym row_is) ∙ own
    ∙ faultless_answer b image sample o (given o) fault
    ∙ alike follows ∙ sym (answer_to_next 1 b o before x)
  where
    alike : Follows b o given before zero (q ∷ rs)
        → answer_in 1 b o (bytes_of b.inputs x) (given o) ≡ answer_in 1 b o (bytes_of b.inputs x) (answer_to 1 b o before)
    alike (inl any) = any (bytes_of b.inputs x) (given o) (answer_to 1 b o before)
    alike (inr same) = ap (λ (n : ℕ). answer_in 1 b o (bytes_of b.inputs x) n) same.0
rows_follow b f o from to before given m upsets (x ∷ xs) (q ∷ rs) h (suc k) r is zero_ follows =
    let rest = rows_follow b f o from to (before ++ x ∷ [])
    (given_by b f x m upsets given) (suc m) upsets xs rs h.1 k r is zero_ (next follows) in
    let one_more : suc k + 1 ≡ suc (k + 1) = omega arith in
    rest ∙ ap (λ (l : List (List Dec)). answer_to 1 b o l) (append_assoc before (x ∷ []) (take (k + 1) xs)
    ∙ ap (λ (n : ℕ). before ++ take n (x ∷ xs)) (sym one_more))
  where
    next : Follows b o given before (suc k) (q ∷ rs)
        → Follows b o (given_by b f x m upsets given) (before ++ x ∷ []) k rs
    next (inl any) = inl any
    next (inr same) = inr (
      faultless_answer b (image_memory f.image.bytes) (sample_at b x m upsets) o (given o)
          (sym h.0.fault ∙ same.1 0 q (omega arith) refl)
          ∙ ap (λ (p : ℕ). answer_in 1 b o (bytes_of b.inputs x) p) same.0 ∙ sym (answer_to_next 1 b o before x),
      λ j s lt at. same.1 (suc j) s (omega (arith, lt)) at,
    )

-- ---- the law

pub faultless_near : AcceptedAnswersAreNear → FaultlessAnswersAreNear
faultless_near near b f cert errors trace samples upsets rows valid spells h accepted k r row_is fault either o x e from
    output error =
    let xs = numbers_of samples in
    let bytes : map input_bytes samples ≡ map (bytes_of b.inputs) xs =
    bytes_read b.inputs spells.rows samples spells.spelled in
    let own : AreWatchedRows b f (λ n. 0) (changes_from 1 upsets (map (bytes_of b.inputs) xs)) rows =
    subst (λ (l : List (List ℕ)). AreWatchedRows b f (λ n. 0) (with_upsets upsets l) rows) bytes h in
    let to : o ≤ length b.outputs =
    (let lt = slice_get_within b.outputs (o - 1) x output in omega (arith, lt, from)) in
    let is : slice_index r.row.answers (o - 1) ≡ answer_to 1 b o (take (k + 1) xs) =
    rows_follow b f o from to [] (λ n. 0) 1 upsets xs rows own k r row_is fault (follows either) in
    let inputs : All (AreInputs b) (take (k + 1) xs) =
    All-take (AreInputs b) (k + 1) xs (are_inputs b spells.rows samples spells.spelled) in
    let close = near b 1 cert errors o x e (take (k + 1) xs) valid (omega arith) accepted from output error inputs in
    subst (λ (q : ℕ). IsClose (distance x.lo x.hi) e (value_in 1 x q) (exact_answer b o (take (k + 1) xs)))
    (sym is) close
  where
    follows : HasDefaults b ⊎ NoFaultBefore k rows → Follows b o (λ n. 0) [] k rows
    follows (inl defaults) = inl (λ bytes p q. forgets b o bytes x p q output (defaults o x from output))
    follows (inr none) = inr (refl, none)
