use Rattle.std.proofs.Common.{◌≡◌, ℕ, List, Option, Result, Ok, Err, IfOk, IfErr, ap, sym, ◌∙◌, subst, ◌≢◌}
use Rattle.cpu12_asm.specs.declared.{faults.LineFault.LineFault, faults.LineFault.TheVariants.Memory}
use Rattle.cpu12_asm.specs.{Bytes.Holds, Names.value_in, Statements.Statement, Statements.statement_of}
use Rattle.cpu12_asm.specs.Giving.{Given, given, put_values, values_within, limits_of}
use Rattle.cpu12_asm.proofs.Steps.{given_with-bytes}
use Rattle.cpu12_asm.proofs.sources.give.Goals as goal

pub returns-in_default-action : goal.returns-in_default-action
returns-in_default-action c =
    let value = value_in c.args.names.now in
    let a = c.in-Some.statement.action in
    let operand = c.in-Some.statement.operand.now in
    let start : List (ℕ × ℕ) → Given = λ before. record { place = c.args.place; bytes = before } in
    let same : (before : List (ℕ × ℕ))
    → put_values (start before) a (values_within value operand (limits_of a)) ≡ given value (start before)
    (statement_of c.args.line.now) = λ before.
    sym (ap (λ (s : Option Statement). given value (start before) s) (sym c.in-Some.ensures.value)
    ∙ given_with-bytes value (start before) a operand c.in_default-action.not-Origin) in
    record {
      ok = c.give_bytes.ensures.ok;
      held = λ before h.
          subst (λ (r : Result Given LineFault). IfOk c.give_bytes.result
          (λ behind. (after : List (ℕ × ℕ)) × (r ≡ Ok (record { place = behind; bytes = after }))
          × Holds c.give_bytes.new.bytes after))
          (same before) (c.give_bytes.ensures.held before h);
      err = λ before h.
          subst (λ (r : Result Given LineFault). IfErr c.give_bytes.result (λ fault. fault ≢ Memory → r ≡ Err fault))
          (same before) (c.give_bytes.ensures.err before h);
    }
