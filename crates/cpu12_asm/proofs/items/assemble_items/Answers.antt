use Rattle.std.proofs.Common.{refl, ◌≡◌, ◌+◌, take, get_or, ap, sym, ◌∙◌, arith}
use Rattle.cpu12_asm.specs.declared.items.Item.TheVariants.{Place}
use Rattle.cpu12_asm.specs.Items.{place_after, given_by, PassesEnd, WritesOver}
use Rattle.cpu12_asm.proofs.Rising.{no_end_passed, nothing_written_over}
use Rattle.cpu12_asm.proofs.Sequences.{place_of-take, Holds-take, WritesOver-at, FailsFirst-at}
use Rattle.cpu12_asm.proofs.items.assemble_items.Goals as goal

pub returns-in-Err-PastEnd-clause-range : goal.returns-in-Err-PastEnd-clause-range
returns-in-Err-PastEnd-clause-range c = λ n e.
    let items = c.args.items.now in
    let i = c.loop-item.item-index in
    let past = c.in-Err-PastEnd.ensures.past (cc) in
    FailsFirst-at PassesEnd _ items i n (Place 0) (omega arith)
    (let same : c.loop-item.number + 1 ≡ n = cc in omega arith) c.loop-item.invariant.3 (omega arith)

pub returns-in-Err-Taken-clause-overlap : goal.returns-in-Err-Taken-clause-overlap
returns-in-Err-Taken-clause-overlap c = λ n e.
    let items = c.args.items.now in
    let i = c.loop-item.item-index in
    let taken = c.in-Err-Taken.ensures.taken (cc) in
    let over = WritesOver-at (take i items) (get_or items i (Place 0)) c.loop-item.place c.loop-item.invariant.1 taken.0
    (taken.1 (given_by (take i items)) c.loop-item.invariant.3) in
    FailsFirst-at WritesOver _ items i n (Place 0) (omega arith)
    (let same : c.loop-item.number + 1 ≡ n = cc in omega arith) c.loop-item.invariant.3 over

pub loop-item-preserved : goal.loop-item-preserved
loop-item-preserved c =
    let items = c.args.items.now in
    let i = c.loop-item.item-index in (
      omega arith,
      c.in-Ok.ensures.behind.0 ∙ ap (λ p. place_after p (get_or items i (Place 0))) c.loop-item.invariant.1
          ∙ sym (place_of-take items i (Place 0) (omega arith)),
      c.in-Ok.ensures.behind.1,
      Holds-take _ items i c.loop-item.place (Place 0) (omega arith) c.loop-item.invariant.1
          (c.in-Ok.ensures.held (given_by (take i items)) c.loop-item.invariant.3),
    )

pub returns-in-Err-PastEnd-clause-rising : goal.returns-in-Err-PastEnd-clause-rising
returns-in-Err-PastEnd-clause-rising c =
    λ rising. absurd (no_end_passed _ _ rising (returns-in-Err-PastEnd-clause-range c _ refl))

pub returns-in-Err-Taken-clause-rising : goal.returns-in-Err-Taken-clause-rising
returns-in-Err-Taken-clause-rising c =
    λ rising. absurd (nothing_written_over _ _ rising (returns-in-Err-Taken-clause-overlap c _ refl))
