use Rattle.std.proofs.Common.{◌≡◌, ℕ, arith, ap, subst, length, take, ◌∙◌}
use Rattle.std.proofs.Math.Seq.{take-length}
use Rattle.hex.specs.Hex.{IsBytes}
use Rattle.srecord.specs.Runs.{bytes_only}
use Rattle.srecord.proofs.pieces.put_piece.Goals as goal

pub returns-clause-bytes : goal.returns-clause-bytes
returns-clause-bytes c =
    let bytes = c.args.bytes.now in
    let ended : c.loop-byte.byte-index ≡ length bytes = omega arith in
    let all : c.as_slice.result.now ≡ bytes_only bytes =
    c.as_slice.ensures.value ∙ c.loop-byte.invariant.so_far ∙ ap (λ (n : ℕ). bytes_only (take n bytes)) ended
    ∙ ap bytes_only (take-length bytes) in
    subst IsBytes all c.put_record.ensures.bytes
