use Rattle.std.proofs.Common.{sym, inl, inr}
use Rattle.srecord.specs.Lines.{wide}
use Rattle.srecord.proofs.FieldLemmas.{no_bytes, no_kind, no_parts}
use Rattle.srecord.proofs.fields.opened.Goals as goal

pub returns-in-None : goal.returns-in-None
returns-in-None c = λ want. no_parts c.args.line.now c.args.number c.in-None.ensures

pub returns-then-is_wide : goal.returns-then-is_wide
returns-then-is_wide c =
    λ want. wide (record {
      digit = c.in-Some.parts.0;
      digits = c.in-Some.parts.1.now;
      parts = c.in-Some.ensures;
      wide =
          sym c.if-is_wide.ensures;
    })

pub returns-in-None-kind_of : goal.returns-in-None-kind_of
returns-in-None-kind_of c =
    λ want. no_kind c.args.line.now c.args.number c.in-Some.parts.0 c.in-Some.parts.1.now c.in-Some.ensures
    c.if-is_wide.ensures (sym c.in-None-kind_of.ensures)

pub returns-in-Err : goal.returns-in-Err
returns-in-Err c = λ want. elim c.in-Err.ensures.err [
  | inl none ↦ absurd (want (c.refusal.ensures.memory none))
  | inr spelled ↦ rw (c.refusal.ensures.bad want)
      (no_bytes c.args.line.now c.args.number c.in-Some.parts.0 c.in-Some.parts.1.now c.in-Some.ensures c.in-Err.error
      c.if-is_wide.ensures spelled)
]
