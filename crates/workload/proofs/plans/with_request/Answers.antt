use Rattle.std.proofs.Common.{◌≡◌, ◌<◌, ◌^◌, ◌+◌, ◌/◌, ◌%◌, ◌++◌, ℕ, List, [], ◌∷◌, arith, refl, ap, subst, ◌∙◌, rules}
use Rattle.std.specs.Fmt.{decimal as digits}
use Rattle.std.specs.Prelude.{IfOk}
use Rattle.cpu12_isa.specs.Regions.{free_start}
use Rattle.csv.specs.Writing.{default_writer, row_text}
use Rattle.hex.specs.Hex.{encode_upper}
use Rattle.workload.specs.Texts.{request_fields}
use Rattle.workload.proofs.NumberLemmas.{digits_are_plain, encoded_byte_is_plain, encoded_word_is_plain}
use Rattle.workload.proofs.RowLemmas.{four_written}
use Rattle.workload.proofs.plans.with_request.Goals as goal

pub returns : goal.returns
returns c =
    let a = c.args in
    let address = free_start + a.at in
    let word = encode_upper (address / 256 ∷ address % 256 ∷ []) in
    let value = encode_upper (a.value ∷ []) in
    let t1 = c.in_ok-with_sample.with_sample.items in
    let t2 = c.in_ok-with_moment.with_moment.items in
    let t3 = c.in_ok-with_address.with_address.items in
    let sample_is : c.as_bytes.result.now ≡ digits a.sample = search rules in
    let moment_is : c.as_bytes-2.result.now ≡ digits a.moment = search rules in
    let word_is : c.as_bytes-3.result.now ≡ word = search rules in
    let value_is : c.as_bytes-4.result.now ≡ value = search rules in
    let small_sample : a.sample < 2 ^ 32 = search rules in
    let small_moment : a.moment < 2 ^ 32 = search rules in
    let comma : (t : List ℕ) → List ℕ → List ℕ = λ t f. t ++ (f ++ (44 ∷ [])) in
    let row : t3 ++ (c.as_bytes-4.result.now ++ (10 ∷ []))
    ≡ a.text.items ++ row_text default_writer (request_fields a.sample (a.moment, a.at, a.value)) =
    ap (λ (k : List ℕ). t3 ++ (k ++ (10 ∷ []))) value_is
    ∙ four_written (digits a.sample) (digits a.moment) word value a.text.items t1 t2 t3 _
    (digits_are_plain a.sample small_sample) (digits_are_plain a.moment small_moment)
    (encoded_word_is_plain (address / 256) (address % 256) (omega (arith, c.requires.at)) (omega arith))
    (encoded_byte_is_plain a.value c.requires.value)
    (c.in_ok-with_sample.ensures ∙ ap (comma a.text.items) sample_is)
    (c.in_ok-with_moment.ensures ∙ ap (comma t1) moment_is)
    (c.in_ok-with_address.ensures ∙ ap (comma t2) word_is) refl in
    subst (λ (t : List ℕ). IfOk c.with_field-4.result (λ v. v.items ≡ t)) row c.with_field-4.ensures
