-- The rows of a trace, one after another.
use Rattle.std.proofs.Common.{◌≡◌, ◌≤◌, ℕ, zero, suc, ◌+◌, ◌-◌, List, [], ◌∷◌, ◌++◌, length, take, refl, ap, ap₂, sym}
use Rattle.std.proofs.Common.{◌∙◌, subst, arith, append_assoc}
use Rattle.std.specs.Prelude.{All, map, option_map, Some, slice_get, slice_index}
use Rattle.std.proofs.lemmas.List.Sums.{fold-append}
use Rattle.std.proofs.lemmas.Option.{slice_get-map, slice_get_within}
use Rattle.std.proofs.lemmas.List.Elements.{All-cons, All-take}
use Rattle.fz_num.specs.{declared.dec.Dec.Dec, Decimals.distance, Fractions.IsClose}
use Rattle.fuzzy_meaning.specs.declared.{block.Block.Block, block.Input.Input}
use Rattle.fuzzy_meaning.specs.{Blocks.AreInputs, Blocks.IsValid, Blocks.IsWithin, Meaning.exact_answer}
use Rattle.byte_scaling.specs.{Cells.bytes_of, Cells.value_in, Widths.parts}
use Rattle.byte_scaling.specs.declared.{width.Width.Width, width.Width.TheVariants.Byte, width.Width.TheVariants.Word}
use Rattle.point_slope.specs.Bytes.{answer_in}
use Rattle.box_tree.specs.declared.cert.Cert.{Cert}
use Rattle.cert_check.specs.{Acceptance.IsAccepted, Laws.AcceptedAnswersAreNear, Laws.answer_to}
use Rattle.firmware_code.specs.Uninterrupted.{Answer, AreAnswersOf}
use Rattle.eval_code.specs.Widths.{answer}
use Rattle.trace_io.specs.{Traces.AreWithin, Traces.Fields, Traces.SpellSamples, declared.sample.Sample.Sample}
use Rattle.alone_runs.specs.Answering.{answer_of_row}
use Rattle.trace_io.specs.Traces.{input_bytes}
use Rattle.run_reports.specs.Nearness.{AnswersAreWithinErrors, IsWithinErrors, numbers_of}

-- ---- the samples

pub bytes_read : (is : List Input) (rows : List Fields) (samples : List Sample) → SpellSamples is rows samples
    → map input_bytes samples ≡ map (bytes_of is) (numbers_of samples)
bytes_read is [] [] spelled = refl
bytes_read is [] (s ∷ ss) spelled = absurd spelled
bytes_read is (r ∷ rs) [] spelled = absurd spelled
bytes_read is (r ∷ rs) (s ∷ ss) spelled =
    ap₂ (λ (x : List ℕ) (xs : List (List ℕ)). x ∷ xs) spelled.0.bytes (bytes_read is rs ss spelled.1)

count_within : (is : List Input) (ds : List Dec) → AreWithin is ds → length ds ≡ length is
count_within [] [] within = refl
count_within [] (d ∷ ds) within = absurd within
count_within (i ∷ is) [] within = absurd within
count_within (i ∷ is) (d ∷ ds) within = ap suc (count_within is ds within.1)

each_within : (is : List Input) (ds : List Dec) → AreWithin is ds → (k : ℕ) (i : Input) (x : Dec)
    → slice_get is k ≡ Some i → slice_get ds k ≡ Some x → IsWithin i.lo i.hi x
each_within [] ds within k i x is_at x_at = absurd (let e : slice_get [] k ≡ Some i = is_at in cc)
each_within (j ∷ is) [] within k i x is_at x_at = absurd within
each_within (j ∷ is) (d ∷ ds) within zero i x is_at x_at =
    let at : j ≡ i = cc in
    let num : d ≡ x = cc in
    subst (λ (y : Dec). IsWithin i.lo i.hi y) num (subst (λ (n : Input). IsWithin n.lo n.hi d) at within.0)
each_within (j ∷ is) (d ∷ ds) within (suc k) i x is_at x_at = each_within is ds within.1 k i x is_at x_at

pub are_inputs : (b : Block) (rows : List Fields) (samples : List Sample) → SpellSamples b.inputs rows samples
    → All (AreInputs b) (numbers_of samples)
are_inputs b [] [] spelled = λ d k lt. absurd (omega arith)
are_inputs b [] (s ∷ ss) spelled = absurd spelled
are_inputs b (r ∷ rs) [] spelled = absurd spelled
are_inputs b (r ∷ rs) (s ∷ ss) spelled =
    let own : AreInputs b s.values = record {
      count = count_within b.inputs s.values spelled.0.within;
      within = each_within b.inputs s.values spelled.0.within;
    } in
    All-cons (AreInputs b) s.values (numbers_of ss) own (are_inputs b rs ss spelled.1)

-- ---- the answers of a row are those to the samples up to it

pub answer_to_next : (h : ℕ) (b : Block) (o : ℕ) (before : List (List Dec)) (xs : List Dec)
    → answer_to h b o (before ++ xs ∷ []) ≡ answer_in h b o (bytes_of b.inputs xs) (answer_to h b o before)
answer_to_next h b o before xs =
    fold-append (λ (n : ℕ) (ds : List Dec). answer_in h b o (bytes_of b.inputs ds) n) 0 before (xs ∷ [])

-- the k-th answer is that to the samples up to it
answers_to : (w : Width) (b : Block) (most : ℕ) (before : List (List Dec)) (given : ℕ → ℕ)
    → ((o : ℕ) → given o ≡ answer_to (parts w) b o before)
    → (samples : List (List Dec)) (answers : List Answer)
    → AreAnswersOf w b most given (map (bytes_of b.inputs) samples) answers
    → (k : ℕ) (a : Answer) → slice_get answers k ≡ Some a → (o : ℕ) → 1 ≤ o → o ≤ length b.outputs
    → slice_index a.values (o - 1) ≡ answer_to (parts w) b o (before ++ take (k + 1) samples)
answers_to w b most before given same samples [] answers k a is o from to =
    absurd (let e : slice_get [] k ≡ Some a = is in cc)
answers_to w b most before given same [] (r ∷ rs) answers k a is o from to = absurd answers
answers_to w b most before given same (xs ∷ ss) (r ∷ rs) answers zero a is o from to =
    let own_is : r ≡ a = cc in
    let own : slice_index r.values (o - 1) ≡ answer w b o (bytes_of b.inputs xs) (given o) =
    answers.0.values o from to in
    ap (λ (q : Answer). slice_index q.values (o - 1)) (sym own_is) ∙ own
    ∙ ap (λ (n : ℕ). answer_in (parts w) b o (bytes_of b.inputs xs) n) (same o)
    ∙ sym (answer_to_next (parts w) b o before xs)
answers_to w b most before given same (xs ∷ ss) (r ∷ rs) answers (suc k) a is o from to =
    let next : (n : ℕ) → answer w b n (bytes_of b.inputs xs) (given n) ≡ answer_to (parts w) b n (before ++ xs ∷ []) =
    λ n. ap (λ (m : ℕ). answer_in (parts w) b n (bytes_of b.inputs xs) m) (same n)
    ∙ sym (answer_to_next (parts w) b n before xs) in
    let rest = answers_to w b most (before ++ xs ∷ []) (λ n. answer w b n (bytes_of b.inputs xs) (given n)) next ss rs
    answers.1 k a is o from to in
    let one_more : suc k + 1 ≡ suc (k + 1) = omega arith in
    rest ∙ ap (λ (l : List (List Dec)). answer_to (parts w) b o l) (append_assoc before (xs ∷ []) (take (k + 1) ss)
    ∙ ap (λ (n : ℕ). before ++ take n (xs ∷ ss)) (sym one_more))

-- ---- the law

parts_some : (w : Width) → 1 ≤ parts w
parts_some Byte = omega arith
parts_some Word = omega arith

-- a block's answers to numbers of its inputs are within the errors of an accepted certificate
pub near_answers : AcceptedAnswersAreNear → (w : Width) (b : Block) (most : ℕ) (cert : Cert) (errors : List ℕ)
    (xs : List (List Dec)) (answers : List Answer) → IsValid b → All (AreInputs b) xs
    → AreAnswersOf w b most (λ n. 0) (map (bytes_of b.inputs) xs) answers → IsAccepted b (parts w) cert errors
    → (k : ℕ) (a : Answer) → slice_get answers k ≡ Some a
    → IsWithinErrors (parts w) b errors (take (k + 1) xs) a.values
near_answers near w b most cert errors xs answers valid inputs are accepted k a a_is o x e from output error =
    let to : o ≤ length b.outputs = (let lt = slice_get_within b.outputs (o - 1) x output in omega (arith, lt, from)) in
    let is : slice_index a.values (o - 1) ≡ answer_to (parts w) b o (take (k + 1) xs) =
    answers_to w b most [] (λ n. 0) (λ n. refl) xs answers are k a a_is o from to in
    let close = near b (parts w) cert errors o x e (take (k + 1) xs) valid (parts_some w) accepted from output error
    (All-take (AreInputs b) (k + 1) xs inputs) in
    subst (λ (q : ℕ). IsClose (distance x.lo x.hi) e (value_in (parts w) x q) (exact_answer b o (take (k + 1) xs)))
    (sym is) close

-- the rows of a trace
pub within_errors : AcceptedAnswersAreNear → AnswersAreWithinErrors
within_errors near b f flags cert errors trace samples rows valid spells block accepted k row row_is =
    let w = f.width in
    let xs = numbers_of samples in
    let answers : AreAnswersOf w b f.instr_bound (λ n. 0) (map (bytes_of b.inputs) xs) (map answer_of_row rows) =
    subst (λ (l : List (List ℕ)). AreAnswersOf w b f.instr_bound (λ n. 0) l (map answer_of_row rows))
    (bytes_read b.inputs spells.rows samples spells.spelled) block.answers in
    near_answers near w b f.instr_bound cert errors xs (map answer_of_row rows) valid
    (are_inputs b spells.rows samples spells.spelled) answers accepted k (answer_of_row row)
    (slice_get-map answer_of_row rows k ∙ ap (option_map answer_of_row) row_is)
