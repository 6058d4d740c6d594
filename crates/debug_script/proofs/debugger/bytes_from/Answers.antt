use Rattle.std.proofs.Common.{◌≡◌, ◌∙◌, ◌+◌, ◌-◌, ◌++◌, ◌∷◌, ℕ, [], append-nil, sym, ap, arith}
use Rattle.cpu12_isa.specs.Memory.{bytes_at, from}
use Rattle.debug_script.proofs.GoingLemmas.{byte_more}
use Rattle.debug_script.proofs.debugger.bytes_from.Goals as goal

pub loop-preserved : goal.loop-preserved
loop-preserved g c =
    let mem = c.args.session.now.rest.here.state.mem in
    let l = c.loop in
    byte_more mem l.bytes.items c.push.new.self.items (bytes_at mem (from c.args.at c.args.count)) l.next
    (c.args.count - (l.counter + 1)) (c.args.count - l.counter) l.invariant (omega (arith, c.loop-test.true))
    (c.in_ok-push.ensures.items ∙ ap (λ (b : ℕ). l.bytes.items ++ b ∷ []) c.byte.ensures)

pub returns : goal.returns
returns g c =
    let mem = c.args.session.now.rest.here.state.mem in
    let l = c.loop in
    let none : 0 ≡ c.args.count - l.counter = omega (arith, c.loop-test.false) in
    sym (append-nil l.bytes.items) ∙ ap (λ (k : ℕ). l.bytes.items ++ bytes_at mem (from l.next k)) none ∙ l.invariant
