use Rattle.std.proofs.Common.{◌≡◌, rules}
use Rattle.std.specs.Prelude.{decimal}
use Rattle.fz_shelf.proofs.Taking.{puts_behind, puts_no_more}
use Rattle.fz_shelf.proofs.parts.put_behind_blank.Goals as goal

pub returns-in_err-put_all : goal.returns-in_err-put_all
returns-in_err-put_all g c = puts_no_more c.in_err-put_all.ensures.puts _ _ c.from_residual.ensures.0

pub returns : goal.returns
returns g c =
    let digits : c.as_bytes.result.now ≡ decimal c.args.number = search rules in
    rw (← digits) (puts_behind c.in_ok-put_all.ensures.puts _ c.put_all-2.ensures.puts)
