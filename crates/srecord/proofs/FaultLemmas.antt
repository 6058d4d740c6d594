-- A text has one first fault.
use Rattle.std.proofs.Common.{◌≡◌, ℕ, suc, ◌+◌, ◌-◌, ◌<◌, List, [], ◌∷◌, ◌++◌, length, take, drop, get_or, refl, sym}
use Rattle.std.proofs.Common.{ap, subst, ◌∙◌, arith, inl, inr}
use Rattle.std.proofs.Math.Seq.{take-append_seam, drop-append_seam}
use Rattle.std.proofs.lemmas.Bool.{cases_lt, cases_eq}
use Rattle.std.specs.Str.Lines.{lines}
use Rattle.srecord.specs.declared.{fault.SrecFault.SrecFault, fault.SrecFault.TheVariants.BadSum, fields.Kind.Kind}
use Rattle.srecord.specs.Lines.{body_of, checksum_of, FieldsFail, OpeningFails, bad_sum, unopened, unread, wide}
use Rattle.srecord.specs.Texts.{Give, Given, HasFault, LineFails, RecordFails, after_end, at_line, count_differs}
use Rattle.srecord.specs.Texts.{fields_fail, no_end, opening_fails, overlap, record_fails}
use Rattle.srecord.proofs.FieldLemmas.{same_body, same_sum}
use Rattle.srecord.proofs.LawLemmas.{fields_fail_too, first_lines, give_one, given_there, good_line, has_fields}
use Rattle.srecord.proofs.LawLemmas.{opens, record_fails_too}

opening_one : (line : List ℕ) (n : ℕ) (f h : SrecFault) → OpeningFails line n f → OpeningFails line n h → f ≡ h
opening_one line n _ _ (wide a) (wide b) = refl
opening_one line n _ _ (wide a) (unopened narrow never) = absurd (narrow a)
opening_one line n _ _ (unopened narrow never) (wide b) = absurd (narrow b)
opening_one line n _ _ (unopened narrow never) (unopened too nor) = refl

fields_one : (k : Kind) (bytes : List ℕ) (n : ℕ) (f h : SrecFault) → FieldsFail k bytes n f
    → FieldsFail k bytes n h → f ≡ h
fields_one k bytes n _ _ (unread never) (unread nor) = refl
fields_one k bytes n _ _ (unread never) (bad_sum a p s fields wrong) = absurd (never a p s fields)
fields_one k bytes n _ _ (bad_sum a p s fields wrong) (unread never) = absurd (never a p s fields)
fields_one k bytes n _ _ (bad_sum a p s fields wrong) (bad_sum b q t others bad) =
    let same : body_of a p ++ s ∷ [] ≡ body_of b q ++ t ∷ [] = sym fields.bytes_are ∙ others.bytes_are in
    ap (λ (x : ℕ). BadSum n x (checksum_of (body_of a p))) (same_sum a b p q s t same)
    ∙ ap (λ (x : List ℕ). BadSum n t (checksum_of x)) (same_body a b p q s t same)

record_one : (g : Given) (n : ℕ) (k : Kind) (at : ℕ) (payload : List ℕ) (f h : SrecFault)
    → RecordFails g n k at payload f → RecordFails g n k at payload h
    → f ≡ h
record_one g n _ _ _ _ _ (overlap at payload taken) (overlap a p too) = refl
record_one g n _ _ _ _ _ (count_differs at payload other) (count_differs a p too) = refl

line_one : (g : Given) (n : ℕ) (line : List ℕ) (f h : SrecFault) → LineFails g n line f → LineFails g n line h → f ≡ h
line_one g n line _ _ (after_end ended) (after_end too) = refl
line_one g n line _ _ (after_end ended) (opening_fails h start fails) = absurd (ended start)
line_one g n line _ _ (after_end ended) (fields_fail k bs h start other fails) = absurd (ended start)
line_one g n line _ _ (after_end ended) (record_fails k a p h start other fails) = absurd (ended start)
line_one g n line _ _ (opening_fails f start fails) (after_end ended) = absurd (ended start)
line_one g n line _ _ (opening_fails f start fails) (opening_fails h too more) = opening_one line n f h fails more
line_one g n line _ _ (opening_fails f start fails) (fields_fail k bs h too other more) =
    absurd (opens n line k bs f other fails)
line_one g n line _ _ (opening_fails f start fails) (record_fails k a p h too other more) =
    absurd (opens n line k other.bytes f other.opens fails)
line_one g n line _ _ (fields_fail j bs f start one fails) (after_end ended) = absurd (ended start)
line_one g n line _ _ (fields_fail j bs f start one fails) (opening_fails h too more) =
    absurd (opens n line j bs h one more)
line_one g n line _ _ (fields_fail j bs f start one fails) (fields_fail k cs h too other more) =
    fields_one k cs n f h (fields_fail_too line n f j k bs cs one other fails) more
line_one g n line _ _ (fields_fail j bs f start one fails) (record_fails k a p h too other more) =
    absurd (has_fields n k other.bytes a p f other.fields
    (fields_fail_too line n f j k bs other.bytes one other.opens fails))
line_one g n line _ _ (record_fails j a p f start one fails) (after_end ended) = absurd (ended start)
line_one g n line _ _ (record_fails j a p f start one fails) (opening_fails h too more) =
    absurd (opens n line j one.bytes h one.opens more)
line_one g n line _ _ (record_fails j a p f start one fails) (fields_fail k cs h too other more) =
    absurd (has_fields n j one.bytes a p h one.fields (fields_fail_too line n h k j cs one.bytes other one.opens more))
line_one g n line _ _ (record_fails j a p f start one fails) (record_fails k b q h too other more) =
    record_one g n k b q f h (record_fails_too line n f g g j k a b p q refl one other fails) more

-- a line that fails does not stand before another that does
not_before : (b c after rest : List (List ℕ)) (line : List ℕ) (g h : Given) (n : ℕ) (fault : SrecFault)
    → length b < length c → c ++ rest ≡ b ++ line ∷ after
    → Give c h → Give b g → LineFails g n line fault → ⊥
not_before b c after rest line g h n fault lt same give_c give_b fails =
    let m = length c - (length b + 1) in
    let long : length c ≡ length b + suc m = omega arith in
    let there = given_there c h give_c b line (take m after) (length (take m after)) refl
    (first_lines c rest b after line m long same) in
    good_line b line there.0 g n fault there.1 give_b fails

same_place : (b c after rest : List (List ℕ)) (line other : List ℕ) (g h : Given) (f e : SrecFault)
    → length b ≡ length c
    → b ++ line ∷ after ≡ c ++ other ∷ rest
    → Give b g → Give c h → LineFails g (length b + 1) line f → LineFails h (length c + 1) other e → f ≡ e
same_place b c after rest line other g h f e as_long same give_b give_c fails more =
    let fronts : b ≡ c = sym (take-append_seam b (line ∷ after)) ∙ ap (take (length b)) same
    ∙ ap (λ (n : ℕ). take n (c ++ other ∷ rest)) as_long
    ∙ take-append_seam c (other ∷ rest) in
    let backs : line ∷ after ≡ other ∷ rest =
    sym (drop-append_seam b (line ∷ after)) ∙ ap (drop (length b)) same
    ∙ ap (λ (n : ℕ). drop n (c ++ other ∷ rest)) as_long
    ∙ drop-append_seam c (other ∷ rest) in
    let lines_same : line ≡ other = ap (λ (l : List (List ℕ)). get_or l 0 []) backs in
    let given_same : g ≡ h = give_one c g h (subst (λ (l : List (List ℕ)). Give l g) fronts give_b) give_c in
    let there : LineFails h (length c + 1) other f =
    subst (λ (x : Given). LineFails x (length c + 1) other f) given_same
    (subst (λ (n : ℕ). LineFails g (n + 1) other f) as_long
    (subst (λ (l : List ℕ). LineFails g (length b + 1) l f) lines_same fails)) in
    line_one h (length c + 1) other f e there more

pub faults_one : (text : List ℕ) (f h : SrecFault) → HasFault text f → HasFault text h → f ≡ h
faults_one text _ _ (at_line b after line g f same give fails) (at_line c rest other h e too gives also) =
    elim (cases_lt (length b) (length c)) [
      | inl lt ↦ absurd (not_before b c after (other ∷ rest) line g h (length b + 1) f lt
          (sym too ∙ same) gives give fails)
      | inr ge ↦ elim (cases_eq (length b) (length c)) [
        | inl as_long ↦ same_place b c after rest line other g h f e as_long (sym same ∙ too) give gives fails also
        | inr longer ↦ absurd
            (not_before c b rest (line ∷ after) other h g (length c + 1) e (omega arith)
            (sym same ∙ too) give gives also)
      ]
    ]
faults_one text _ _ (at_line b after line g f same give fails) (no_end h all ended) =
    let there = given_there (lines text) h all b line after (length after) refl same in
    absurd (good_line b line there.0 g (length b + 1) f there.1 give fails)
faults_one text _ _ (no_end h all ended) (at_line b after line g f same give fails) =
    let there = given_there (lines text) h all b line after (length after) refl same in
    absurd (good_line b line there.0 g (length b + 1) f there.1 give fails)
faults_one text _ _ (no_end g give start) (no_end h all ended) = refl
