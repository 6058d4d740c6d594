-- Comparing keywords, and words, is comparing their classes.
use Rattle.std.proofs.Common.{◌≡◌, ℕ, Bool, true, false, cond, eqb, [], ◌∷◌, refl, sym, ap, ◌∙◌, ◌+◌, arith}
use denote.Enum.Bare.{sameb, tag_one}
use denote.Enum.Declared.{tag_of}
use Rattle.fcl_tokens.specs.{contracts.token.Keyword.the_type, contracts.token.Word.the_type as word_type}
use Rattle.fcl_tokens.specs.declared.token.Keyword.{Keyword}
use Rattle.fcl_tokens.specs.declared.token.Keyword.TheVariants as key
use Rattle.fcl_tokens.specs.declared.token.Word.{Word}
use Rattle.fcl_tokens.specs.declared.token.Word.TheVariants as word
use Rattle.fcl_syntax.specs.TokenClasses.{keyword_class, word_class, mem}

pub tag-key : (k : Keyword) → tag_of the_type k ≡ keyword_class k
tag-key key.FunctionBlock = refl
tag-key _ = refl

if_itself : (b : Bool) → b ≡ cond b true false
if_itself true = refl
if_itself false = refl

pub same_class : (r : Bool) (k j : Keyword) → r ≡ sameb the_type j k → r ≡ eqb (keyword_class j) (keyword_class k)
same_class r k j e =
    e ∙ ap (λ (n : ℕ). eqb n (tag_of the_type k)) (tag-key j) ∙ ap (λ (n : ℕ). eqb (keyword_class j) n) (tag-key k)

pub same_key : (r : Bool) (k j : Keyword) → r ≡ sameb the_type j k → r ≡ mem (keyword_class j) (keyword_class k ∷ [])
same_key r k j e = same_class r k j e ∙ if_itself (eqb (keyword_class j) (keyword_class k))

pub key_one : (j k : Keyword) → keyword_class j ≡ keyword_class k → j ≡ k
key_one j k e = tag_one the_type tt j k (tag-key j ∙ e ∙ sym (tag-key k))

pub tag-word : (w : Word) → tag_of word_type w + 30 ≡ word_class w
tag-word word.Real = refl
tag-word _ = refl

pub word_one : (v w : Word) → word_class v ≡ word_class w → v ≡ w
word_one v w e = tag_one word_type tt v w (omega (arith, tag-word v, tag-word w, e))
