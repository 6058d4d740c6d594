use Rattle.std.proofs.Common.{[], ◌∷◌, length, arith, refl, sym, ap, ◌∙◌}
use Rattle.std.proofs.lemmas.List.{append-nil, length-drop}
use Rattle.srecord.proofs.RunLemmas.{cut_more, is_nothing, nothing_is_cut, piece_of, text_more}
use Rattle.srecord.proofs.pieces.put_pieces.Goals as goal

pub loop-rest-init : goal.loop-rest-init
loop-rest-init c = record { counted = omega arith; more = λ pieces cut. (pieces, cut, refl, omega arith) }

pub loop-rest-preserved : goal.loop-rest-preserved
loop-rest-preserved c =
    let rest = c.loop-rest.rest.now in
    let n = c.piece_len.result in
    let len = c.piece_len.ensures in
    let split = c.split_at.ensures in
    let put = c.in_ok-put_piece.ensures in
    record {
      counted = omega (
        arith,
        ap length split.back,
        length-drop n rest,
        len.some,
        len.within,
        c.loop-rest.invariant.counted,
      );
      more = λ pieces cut.
          let all = c.loop-rest.invariant.more (piece_of n rest ∷ pieces)
          (cut_more n rest _ _ pieces len.some len.few len.within len.run len.ends len.fits split.front split.back
          put.bytes cut) in (
            all.0,
            all.1,
            all.2 ∙ text_more _ _ n rest _ pieces len.some split.front put.record,
            omega (arith, all.3),
          );
    }

pub returns : goal.returns
returns c =
    let all = c.loop-rest.invariant.more []
    (nothing_is_cut c.loop-rest.rest.now (is_nothing c.loop-rest.rest.now c.loop-rest-test.ensures)) in
    (all.0, all.1, sym (all.2 ∙ append-nil c.loop-rest.text.items), omega (arith, all.3))
