use Rattle.std.proofs.Common.{◌≡◌, ◌*◌, ◌+◌, ◌++◌, length, ap, sym, ◌∙◌, arith}
use Rattle.srecord.specs.Lines.{body_of, checksum_of}
use Rattle.srecord.proofs.FieldLemmas.{are_fields, is_body, is_counted, payload_in, split_there}
use Rattle.srecord.proofs.fields.split.Goals as goal
use Rattle.srecord.proofs.fields.split.Goals.{then-bytes-lt4-via-then-bytes-lt4}
use Rattle.srecord.proofs.fields.split.Goals.{then-bytes-lt4-via-else-bytes-lt4+then-from-bytes}

pub returns-then-bytes-lt4 : goal.returns-then-bytes-lt4
returns-then-bytes-lt4 c = λ at payload sum is.
    let counted = is_counted c.args.bytes.now at payload sum is in
    elim c.then-bytes-lt4.branch [
      | then-bytes-lt4-via-then-bytes-lt4 w ↦ omega (arith, counted.0)
      | then-bytes-lt4-via-else-bytes-lt4+then-from-bytes w ↦ w.if-from-bytes.true
          (omega (arith, w.from.ensures, counted.1))
    ]

pub returns : goal.returns
returns c =
    let bytes = c.args.bytes.now in
    let body = c.split_at.result.0.now in
    let back = c.split_at.result.1.now in
    let whole : bytes ≡ body ++ back = split_there bytes body back _ c.split_at.ensures.front c.split_at.ensures.back in
    let count : length body + 1 ≡ length bytes = omega (arith, c.split_at.ensures.front_len) in
    let made : body_of (c.from-2.result * 256 + c.from-3.result) (payload_in body) ≡ body =
    is_body bytes body back c.from-2.result c.from-3.result whole (omega (arith, count))
    (omega (arith, count, c.from.ensures)) c.from-2.ensures c.from-3.ensures (omega (arith, c.type_inv.bytes 2)) in (
      are_fields bytes body back _ whole made (omega (arith, c.split_at.ensures.back_len)),
      c.checksum.ensures
          ∙ ap checksum_of (sym made),
    )
