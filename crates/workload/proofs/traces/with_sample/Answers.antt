use Rattle.std.proofs.Common.{◌≡◌, ◌<◌, ◌^◌, ◌++◌, ℕ, List, [], ◌∷◌, refl, ap, subst, ◌∙◌, rules}
use Rattle.std.specs.Prelude.{IfOk}
use Rattle.csv.specs.Writing.{default_writer, row_text}
use Rattle.workload.specs.Texts.{decimal_text, sample_fields}
use Rattle.workload.proofs.{NumberLemmas.decimal_is_plain, RowLemmas.pair_written}
use Rattle.workload.proofs.traces.with_sample.Goals as goal

pub returns : goal.returns
returns c =
    let x = c.args.x in
    let y = c.args.y in
    let text = c.args.text.items in
    let begun = c.in_ok-begun.begun.items in
    let small_x : x < 2 ^ 32 = search rules in
    let small_y : y < 2 ^ 32 = search rules in
    let one : begun ≡ text ++ (decimal_text x ++ (44 ∷ [])) =
    c.in_ok-begun.ensures
    ∙ ap (λ (f : List ℕ). text ++ (f ++ (44 ∷ []))) (c.deref.ensures.value ∙ c.in_ok-first.ensures) in
    let row : begun ++ (c.deref-2.result.now ++ (10 ∷ [])) ≡ text ++ row_text default_writer (sample_fields (x, y)) =
    ap (λ (g : List ℕ). begun ++ (g ++ (10 ∷ []))) (c.deref-2.ensures.value ∙ c.in_ok-second.ensures)
    ∙ pair_written (decimal_text x) (decimal_text y) text begun _ (decimal_is_plain x small_x)
    (decimal_is_plain y small_y) one refl in
    subst (λ (t : List ℕ). IfOk c.with_field-2.result (λ v. v.items ≡ t)) row c.with_field-2.ensures
