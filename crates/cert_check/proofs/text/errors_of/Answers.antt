use Rattle.std.proofs.Common.{[], ap, ◌∙◌}
use Rattle.byte_scaling.specs.Widths.{parts as parts_of}
use Rattle.cert_check.specs.TextFaults.{of_text}
use Rattle.cert_check.proofs.DriverLemmas.{HasTaken-some, AreFirst-some, IsWalkOverText-more, IsAcceptedText-read}
use Rattle.cert_check.proofs.DriverLemmas.{HasTextFault-read}
use Rattle.cert_check.proofs.text.errors_of.Goals as goal

pub loop-node-init : goal.loop-node-init
loop-node-init c =
    let i = c.in-Ok.ensures in
    record {
      over = record {
        block = i.block;
        claims_are = i.claims ∙ c.as_slice.ensures.value ∙ c.claims-claims.ensures;
        parts = ap parts_of i.width;
      };
      taken = λ format text read. ([], read, i.begun);
    }

pub take-requires : goal.take-requires
take-requires c =
    AreFirst-some c.loop-node.invariant c.next.new.self c.in-Ok-Some.node c.next.ensures.claims
    (λ f text nodes read. rw c.in-Ok-Some.field-0-is at (c.in-Ok-Some.ensures.node f text nodes read))
    c.requires.lines

pub loop-node-smaller : goal.loop-node-smaller
loop-node-smaller c = rw c.in-Ok-Some.field-0-is at c.in-Ok-Some.ensures.less

pub loop-node-preserved : goal.loop-node-preserved
loop-node-preserved c =
    IsWalkOverText-more c.loop-node.invariant c.next.new.self c.in-Ok-Some.node c.next.ensures.claims
    (λ f text nodes read. rw c.in-Ok-Some.field-0-is at (c.in-Ok-Some.ensures.node f text nodes read))
    c.take.new.self c.take.ensures.same c.take.ensures.taken

pub returns-in-Err-next-clause-refused : goal.returns-in-Err-next-clause-refused
returns-in-Err-next-clause-refused c = λ format text first real.
    let t = c.loop-node.invariant.taken format text first in
    of_text c.in-Err-next.fault (c.in-Err-next.ensures.fault format text t.0 t.1).0

pub finish-requires : goal.finish-requires
finish-requires c = HasTaken-some c.loop-node.invariant c.requires.lines

pub returns-in-Ok-finish-clause-accepted : goal.returns-in-Ok-finish-clause-accepted
returns-in-Ok-finish-clause-accepted c = λ format text first.
    IsAcceptedText-read c.loop-node.invariant
    (λ f read nodes r. (rw c.in-Ok-None.field-0-is at (c.in-Ok-None.ensures.node f read nodes r)).0)
    format text first
    _ c.in-Ok-finish.ensures.accepted

pub returns-in-Err-finish-clause-refused : goal.returns-in-Err-finish-clause-refused
returns-in-Err-finish-clause-refused c = λ format text first real.
    HasTextFault-read c.loop-node.invariant
    (λ f read nodes r. (rw c.in-Ok-None.field-0-is at (c.in-Ok-None.ensures.node f read nodes r)).0)
    format text first
    c.in-Err-finish.fault c.in-Err-finish.ensures.fault
