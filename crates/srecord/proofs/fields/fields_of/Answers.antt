use Rattle.std.proofs.Common.{◌≡◌, ◌++◌, ◌∷◌, [], ℕ, true, false, ◌∙◌, ap, refl}
use Rattle.srecord.specs.Lines.{body_of, unread}
use Rattle.srecord.proofs.FieldLemmas.{only_fields, wrong_sum}
use Rattle.srecord.proofs.fields.fields_of.Goals as goal

pub returns-in-None : goal.returns-in-None
returns-in-None c = unread (λ at payload sum h. c.in-None.ensures at payload sum h.bytes_are)

pub returns-then-not-fits : goal.returns-then-not-fits
returns-then-not-fits c =
    let f = c.in-Some.fields in
    only_fields c.args.kind f.address f.payload.now f.sum c.args.bytes.now c.in-Some.ensures.0
    (λ fit. (let bad : false ≡ true = c.if-not-fits.ensures.1 fit in cc)) c.args.number

pub returns-then-fields : goal.returns-then-fields
returns-then-fields c =
    let f = c.in-Some.fields in
    wrong_sum c.args.kind c.args.bytes.now f.address f.payload.now f.sum f.want c.args.number c.in-Some.ensures.0
    (c.if-not-fits.ensures.0 refl) c.in-Some.ensures.1 c.if-fields.true

pub returns : goal.returns
returns c =
    let f = c.in-Some.fields in
    record {
      bytes_are = c.in-Some.ensures.0
          ∙ ap (λ (s : ℕ). body_of f.address f.payload.now ++ s ∷ []) (c.if-fields.false ∙ c.in-Some.ensures.1);
      fits = c.if-not-fits.ensures.0 refl;
    }
