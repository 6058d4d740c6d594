use Rattle.std.proofs.Common.{◌≡◌, None, IsSome, is_some, arith, sym, ap, ◌∙◌}
use Rattle.cpu12_asm.specs.Bytes.{byte_at}
use Rattle.cpu12_asm.proofs.Placing.{given_before, none_from_test, Holds-placed}
use Rattle.cpu12_asm.proofs.image.ByteMap.put_all.Goals as goal

pub returns-then-is_some-clause-taken : goal.returns-then-is_some-clause-taken
returns-then-is_some-clause-taken c =
    let i = c.loop-byte.byte-index in
    let here : IsSome (byte_at c.loop-byte.self c.loop-byte.at) = ap is_some (sym c.get.ensures) ∙ sym c.is_some.ensures
    ∙ c.if-is_some.true in
    λ _. (
      omega arith,
      λ given h. (
        i,
        omega arith,
        given_before _ given _ c.args.place i c.args.bytes.now (omega arith) (omega arith)
            (c.loop-byte.invariant.1 given h) here,
      ),
    )

pub loop-byte-preserved : goal.loop-byte-preserved
loop-byte-preserved c =
    let free : byte_at c.loop-byte.self c.loop-byte.at ≡ None =
    sym c.get.ensures ∙ none_from_test _ (sym c.is_some.ensures ∙ c.if-is_some.false) in (
      omega arith,
      λ given h. Holds-placed _ _ given _ c.args.place c.loop-byte.byte-index c.args.bytes.now (omega arith)
          (omega arith) (omega arith) (c.loop-byte.invariant.1 given h) free c.in-Ok.ensures.put,
    )
