use Rattle.std.proofs.Common.{◌∙◌, ap}
use Rattle.std.specs.Prelude.{Ok}
use Rattle.cpu12_asm.specs.Bytes.{byte_at}
use Rattle.srecord.specs.Texts.{overlap}
use Rattle.srecord.proofs.ByteLemmas.{counted_otherwise, taken_too}
use Rattle.srecord.proofs.reader.Reader.take_record.Goals as goal

pub returns-then-not-branch-clause-fault : goal.returns-then-not-branch-clause-fault
returns-then-not-branch-clause-fault c = λ g h want.
    let taken = c.put_bytes.ensures.taken (c.in_ok-put_bytes-in-Bytes.was ∙ ap Ok c.if-not-branch.true) in
    rw c.in-Bytes.is (overlap c.args.fields.now.address c.args.fields.now.payload.now
    (taken_too (byte_at c.args.self.now.bytes) g.bytes h.bytes c.args.fields.now.address
    c.args.fields.now.payload.now taken))

pub returns-then-count-self-clause-fault : goal.returns-then-count-self-clause-fault
returns-then-count-self-clause-fault c = λ g h want.
    rw c.in-Count.is (counted_otherwise g c.args.number c.args.fields.now.address c.from-count.result
    c.args.self.now.records c.args.fields.now.payload.now c.from-count.ensures h.records c.if-count-self.true)
