-- The offsets of a tree's tokens ascend, and no number of theirs is beyond 100000, since a text's tokens are so.
use Rattle.std.proofs.Common.{◌≡◌, List, [], ◌∷◌, length, refl, ap, subst, sym, ◌∙◌}
use Rattle.std.proofs.lemmas.List.Elements.{All-same}
use Rattle.std.specs.List.{cons_option, filter_map}
use Rattle.fcl_tokens.specs.{Offsets.AscendWithin, Offsets.TokensAscend, Offsets.offset_of}
use Rattle.fcl_tokens.specs.{Scale.IsTokenInScale, Scale.TokensInScale}
use Rattle.fcl_syntax.specs.{Annotations.Sym, Annotations.tokens_of, Grammar.block_text, Offsets.OffsetsAscend}
use Rattle.fcl_syntax.specs.{Offsets.offsets, Scale.NumbersInScale}

offsets-tokens : (symbols : List Sym) → filter_map offset_of (tokens_of symbols) ≡ offsets symbols
offsets-tokens [] = refl
offsets-tokens (s ∷ symbols) = ap (cons_option (offset_of s.token)) (offsets-tokens symbols)

pub offsets_ascend_lem : TokensAscend → OffsetsAscend
offsets_ascend_lem ascend text t s =
    subst (AscendWithin 0 (length text)) (ap (filter_map offset_of) s.spells.parts ∙ offsets-tokens (block_text t))
    (ascend text s.tokens s.places s.cut)

pub numbers_in_scale_lem : TokensInScale → NumbersInScale
numbers_in_scale_lem scale text t s =
    All-same IsTokenInScale (tokens_of (block_text t)) s.tokens (sym s.spells.parts)
    (scale text s.tokens s.places s.cut)
