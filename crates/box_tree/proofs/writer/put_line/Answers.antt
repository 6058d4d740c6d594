use Rattle.std.proofs.Common.{List, ℕ, ◌++◌, ap, ◌∙◌, refl, get_or}
use Rattle.box_tree.proofs.LineLemmas.{numbers_more}
use Rattle.box_tree.proofs.writer.put_line.Goals as goal

pub loop-number-preserved : goal.loop-number-preserved
loop-number-preserved c =
    let number = get_or c.args.numbers.now c.loop-number.number-index 0 in
    let added = rw c.in_ok-extend_from_slice-2.was at c.extend_from_slice-in-loop-number.ensures.items in
    numbers_more c.args.numbers.now c.loop-number.number-index number c.loop-number.text.items c.push.new.self.items
    c.extend_from_slice-in-loop-number.new.self.items c.args.text.now.items c.args.word.now
    c.loop-number-test.true refl c.loop-number.invariant c.in_ok-push.ensures.items
    (added ∙ ap (λ (t : List ℕ). c.push.new.self.items ++ t) (c.as_bytes.ensures.value ∙ c.format.ensures.text))
