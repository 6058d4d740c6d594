use Rattle.std.proofs.Common.{map}
use Rattle.fcl_syntax.proofs.Run.{is_done, pushed}
use Rattle.fcl_syntax.proofs.repeated.many.Goals as goal

pub each-smaller : goal.each-smaller
each-smaller g c = c.requires.shrinks _ _ _ (rw c.in-Some.is at c.in_ok-next.ensures.read)

pub each-preserved : goal.each-preserved
each-preserved g c =
    pushed g.R.Repeated.view g.R.Repeated.first g.R.Repeated.read_at c.each.items.items _ c.in-Some.next
    c.each.tokens.now c.next.new.tokens.now _
    c.in_ok-push.ensures.items (rw c.in-Some.is at c.in_ok-next.ensures.next)
    (rw c.in-Some.is at c.in_ok-next.ensures.read) (each-smaller g c) c.each.invariant

pub returns : goal.returns
returns g c =
    rw (c.new.ensures, rw c.in_default.is at c.in_ok-next.ensures.read)
    (is_done g.R.Repeated.first g.R.Repeated.read_at (map g.R.Repeated.view c.each.items.items) c.each.tokens.now _
    (rw c.in_default.is at c.in_ok-next.ensures.next) c.each.invariant)
