use Rattle.std.proofs.Common.{arith, ◌≡◌, length, take, ap}
use Rattle.std.specs.Prelude.{IfSome, option_map}
use Rattle.fz_shelf.proofs.KnownBytes.{all_of_taken}
use Rattle.fz_shelf.proofs.file_shelf.read_whole.Goals as goal

pub returns-in-Ok-clause-whole : goal.returns-in-Ok-clause-whole
returns-in-Ok-clause-whole g c =
    let taken = c.take.result in
    let items = c.read_to_end.new.buf.items in
    let bytes : IfSome (option_map (take taken.limit) (g.R.Read.remaining taken.inner)) (λ xs. items ≡ xs) =
    rw c.requires at c.in-Ok.ensures.bytes in
    rw (← c.take.ensures.inner) (all_of_taken (g.R.Read.remaining taken.inner) taken.limit items bytes
    (omega (arith, c.in-Ok.ensures.ok, c.if-count-le-MOST_BYTES.true, c.take.ensures.limit, ap length c.requires)))
