-- The classes of single tokens.
use Rattle.std.proofs.Common.{◌≡◌, ℕ, Bool, true, false, eqb, eq-eqb, List, [], ◌∷◌, Option, Some, None, refl, sym}
use Rattle.std.proofs.Common.{ap, ◌∙◌}
use Rattle.std.proofs.lemmas.Bool.{eqb-true}
use Rattle.fcl_tokens.specs.declared.token.Amount.{Amount}
use Rattle.fcl_tokens.specs.declared.token.Amount.TheVariants as amount
use Rattle.fcl_tokens.specs.declared.token.Keyword.{Keyword}
use Rattle.fcl_tokens.specs.declared.token.Keyword.TheVariants as key
use Rattle.fcl_tokens.specs.declared.token.Token.{Token}
use Rattle.fcl_tokens.specs.declared.token.Token.TheVariants as tok
use Rattle.fcl_tokens.specs.declared.token.Word.{Word}
use Rattle.fcl_tokens.specs.declared.token.Word.TheVariants as word
use Rattle.fcl_syntax.specs.declared.{tree.Direction.Direction, tree.Label.Label, tree.Name.Name, tree.Number.Number}
use Rattle.fcl_syntax.specs.declared.tree.Direction.TheVariants.{Input, Output}
use Rattle.fcl_syntax.specs.declared.{tree.UnitNumber.UnitNumber, tree.ZeroNumber.ZeroNumber}
use Rattle.fcl_syntax.specs.TokenClasses.{class_of, mem, keyword_class, word_class, name_classes, number_classes}
use Rattle.fcl_syntax.specs.TokenClasses.{unit_classes, zero_classes, whole_classes, direction_classes, open_classes}
use Rattle.fcl_syntax.specs.Grammar.{name_token, number_token, unit_amount, unit_token, zero_token, label_token}
use Rattle.fcl_syntax.specs.Grammar.{direction_key}
use Rattle.fcl_syntax.specs.Reading.{IsBare, bare_of, bare_want, some_unit, at_if, key_want, word_want, open_want}
use Rattle.fcl_syntax.specs.Reading.{name_want, number_want, unit_want, zero_want, label_want, direction_want}
use Rattle.fcl_syntax.proofs.{Small.Single, Tags.key_one, Tags.word_one}

none_some : {A : Type 0} (x : A) → None ≡ Some x → ⊥
none_some x e = cc

-- what has the class of a bare token is bare
bare_is : (y x : Token) → bare_of (class_of y) ≡ Some x → bare_of (class_of y) ≡ Some y
bare_is tok.Close x e = refl
bare_is tok.Assign x e = refl
bare_is tok.To x e = refl
bare_is tok.Colon x e = refl
bare_is tok.Semicolon x e = refl
bare_is tok.Comma x e = refl
bare_is tok.Plus x e = refl
bare_is tok.Minus x e = refl
bare_is (tok.Open at) x e = absurd (none_some x e)
bare_is (tok.Word at key.Rule) x e = absurd (none_some x e)
bare_is (tok.Name at word.Real) x e = absurd (none_some x e)
bare_is (tok.Number at amount.Zero true) x e = absurd (none_some x e)
bare_is (tok.Number at amount.One true) x e = absurd (none_some x e)
bare_is (tok.Number at (amount.Other n) true) x e = absurd (none_some x e)
bare_is _ x e = absurd (none_some x e)

pub same_class : (x y : Token) → IsBare x → class_of y ≡ class_of x → x ≡ y
same_class x y b e =
    let one : bare_of (class_of y) ≡ Some x = ap bare_of e ∙ b in
    let two = bare_is y x one in
    cc

pub some_is : (b : Bool) → some_unit b ≡ Some tt → b ≡ true
some_is true e = refl
some_is false e = absurd cc

pub eqb-self : (n : ℕ) → eqb n n ≡ true
eqb-self n = eq-eqb n n refl

abbrev pub bare : (x : Token) → IsBare x → Single (Unit {0})
bare x b = record {
  want = bare_want x;
  make = λ _. x;
  among = class_of x ∷ [];
  example = tt;
  back = λ y _ e. same_class x y b (eqb-true _ _ (some_is (eqb (class_of y) (class_of x)) e));
  forth = λ _. rw (eqb-self (class_of x)) refl;
  classes = λ _. rw (eqb-self (class_of x)) refl;
}

some_of : {A : Type 0} (a b : A) → Some a ≡ Some b → a ≡ b
some_of a b e = cc

at_if-is : (b : Bool) (at a : ℕ) → at_if b at ≡ Some a → (b ≡ true) × (at ≡ a)
at_if-is true at a e = (refl, some_of at a e)
at_if-is false at a e = absurd cc

-- what is asked of a token, what makes it, the classes of those made, one, and that all agree
abbrev single : {A : Type 0} (want : Token → Option A) (make : A → Token) (among : List ℕ) → A
    → ((x : Token) (a : A) → want x ≡ Some a → make a ≡ x) → ((a : A) → want (make a) ≡ Some a)
    → ((a : A) → mem (class_of (make a)) among ≡ true) → Single A
single want make among example back forth classes = record {
  want = want;
  make = make;
  among = among;
  example = example;
  back = back;
  forth = forth;
  classes = classes;
}

-- ---- words of the grammar, and names in their places

made_is : {K : Type 0} (make : ℕ → K → Token) (class : K → ℕ) → ((j k : K) → class j ≡ class k → j ≡ k)
    → (j k : K) (at a : ℕ) → at_if (eqb (class j) (class k)) at ≡ Some a → make a k ≡ make at j
made_is make class one j k at a e =
    let h = at_if-is (eqb (class j) (class k)) at a e in
    let same : j ≡ k = one j k (eqb-true _ _ h.0) in
    ap (λ (n : ℕ). make n k) (sym h.1) ∙ ap (λ (i : _). make at i) (sym same)

pub key_back : (k : Keyword) (x : Token) (a : ℕ) → key_want k x ≡ Some a → tok.Word a k ≡ x
key_back k (tok.Word at j) a e = made_is (λ n i. tok.Word n i) keyword_class key_one j k at a e
key_back k _ a e = absurd cc

abbrev pub key_single : Keyword → Single ℕ
key_single k = single (key_want k) (λ n. tok.Word n k) (keyword_class k ∷ []) 0 (key_back k)
    (λ a. rw (eqb-self (keyword_class k)) refl) (λ a. rw (eqb-self (keyword_class k)) refl)

pub word_back : (w : Word) (x : Token) (a : ℕ) → word_want w x ≡ Some a → tok.Name a w ≡ x
word_back w (tok.Name at v) a e = made_is (λ n i. tok.Name n i) word_class word_one v w at a e
word_back w _ a e = absurd cc

abbrev pub word_single : Word → Single ℕ
word_single w = single (word_want w) (λ n. tok.Name n w) (word_class w ∷ []) 0 (word_back w)
    (λ a. rw (eqb-self (word_class w)) refl) (λ a. rw (eqb-self (word_class w)) refl)

-- ---- the others

pub open_back : (x : Token) (a : ℕ) → open_want x ≡ Some a → tok.Open a ≡ x
open_back (tok.Open at) a e = ap (λ (n : ℕ). tok.Open n) (sym (some_of at a e))
open_back _ a e = absurd cc

abbrev pub open_single : Single ℕ
open_single = single open_want (λ n. tok.Open n) open_classes 0 open_back (λ a. refl) (λ a. refl)

pub name_back : (x : Token) (a : Name) → name_want x ≡ Some a → name_token a ≡ x
name_back (tok.Name at w) a e = let is : record { at = at; word = w } ≡ a = cc in ap name_token (sym is)
name_back _ a e = absurd cc

pub name_among : (a : Name) → mem (class_of (name_token a)) name_classes ≡ true
name_among a =
    elim a.word as (λ w. mem (class_of (tok.Name a.at w)) name_classes ≡ true) [ word.Real ↦ refl | _ ↦ refl ]

abbrev pub name_single : Single Name
name_single = single name_want name_token name_classes
    (record { at = 0; word = word.Other }) name_back (λ a. refl) name_among

pub number_back : (x : Token) (a : Number) → number_want x ≡ Some a → number_token a ≡ x
number_back (tok.Number at n w) a e = let is : record { at = at; amount = n; whole = w } ≡ a = cc in
    ap number_token (sym is)
number_back _ a e = absurd cc

pub number_among : (a : Number) → mem (class_of (number_token a)) number_classes ≡ true
number_among a = go a.at a.amount a.whole
  where
    go : (at : ℕ) (n : Amount) (w : Bool) → mem (class_of (tok.Number at n w)) number_classes ≡ true
    go at amount.Zero true = refl
    go at amount.One true = refl
    go at (amount.Other n) true = refl
    go at _ _ = refl

abbrev pub number_single : Single Number
number_single = single number_want number_token number_classes
    (record { at = 0; amount = amount.Zero; whole = true }) number_back (λ a. refl) number_among

pub unit_back : (x : Token) (a : UnitNumber) → unit_want x ≡ Some a → unit_token a ≡ x
unit_back (tok.Number at amount.Zero w) a e = let is : record { at = at; is_one = false; whole = w } ≡ a = cc in
    ap unit_token (sym is)
unit_back (tok.Number at amount.One w) a e = let is : record { at = at; is_one = true; whole = w } ≡ a = cc in
    ap unit_token (sym is)
unit_back (tok.Number at (amount.Other n) w) a e = absurd cc
unit_back _ a e = absurd cc

pub unit_among : (a : UnitNumber) → mem (class_of (unit_token a)) unit_classes ≡ true
unit_among a = go a.at a.is_one a.whole
  where
    go : (at : ℕ) (b w : Bool) → mem (class_of (tok.Number at (unit_amount b) w)) unit_classes ≡ true
    go at true true = refl
    go at false true = refl
    go at _ _ = refl

pub unit_forth : (a : UnitNumber) → unit_want (unit_token a) ≡ Some a
unit_forth a =
    elim a.is_one as (λ b. unit_want (tok.Number a.at (unit_amount b) a.whole) ≡ Some (record a { is_one = b }))
    [ true ↦ refl | false ↦ refl ]

abbrev pub unit_single : Single UnitNumber
unit_single = single unit_want unit_token unit_classes
    (record { at = 0; is_one = false; whole = true }) unit_back unit_forth unit_among

pub zero_back : (x : Token) (a : ZeroNumber) → zero_want x ≡ Some a → zero_token a ≡ x
zero_back (tok.Number at amount.Zero w) a e = let is : record { at = at; whole = w } ≡ a = cc in ap zero_token (sym is)
zero_back (tok.Number at amount.One w) a e = absurd cc
zero_back _ a e = absurd cc

pub zero_among : (a : ZeroNumber) → mem (class_of (zero_token a)) zero_classes ≡ true
zero_among a =
    elim a.whole as (λ w. mem (class_of (tok.Number a.at amount.Zero w)) zero_classes ≡ true)
    [ true ↦ refl | false ↦ refl ]

abbrev pub zero_single : Single ZeroNumber
zero_single = single zero_want zero_token zero_classes
    (record { at = 0; whole = true }) zero_back (λ a. refl) zero_among

pub label_back : (x : Token) (a : Label) → label_want x ≡ Some a → label_token a ≡ x
label_back (tok.Number at n true) a e = let is : record { at = at; amount = n } ≡ a = cc in ap label_token (sym is)
label_back (tok.Number at n false) a e = absurd cc
label_back _ a e = absurd cc

pub label_among : (a : Label) → mem (class_of (label_token a)) whole_classes ≡ true
label_among a =
    elim a.amount as (λ n. mem (class_of (tok.Number a.at n true)) whole_classes ≡ true)
    [ amount.Zero ↦ refl | _ ↦ refl ]

abbrev pub label_single : Single Label
label_single = single label_want label_token whole_classes
    (record { at = 0; amount = amount.Zero }) label_back (λ a. refl) label_among

abbrev pub direction_token : ℕ × Direction → Token
direction_token a = tok.Word a.0 (direction_key a.1)

pub direction_back : (x : Token) (a : ℕ × Direction) → direction_want x ≡ Some a → direction_token a ≡ x
direction_back (tok.Word at key.VarInput) a e = ap direction_token (sym (some_of (at, Input) a e))
direction_back (tok.Word at key.VarOutput) a e = ap direction_token (sym (some_of (at, Output) a e))
direction_back (tok.Word at _) a e = absurd cc
direction_back _ a e = absurd cc

pub direction_forth : (a : ℕ × Direction) → direction_want (direction_token a) ≡ Some a
direction_forth (at, Input) = refl
direction_forth (at, Output) = refl

pub direction_among : (a : ℕ × Direction) → mem (class_of (direction_token a)) direction_classes ≡ true
direction_among (at, Input) = refl
direction_among (at, Output) = refl

abbrev pub direction_single : Single (ℕ × Direction)
direction_single = single direction_want direction_token direction_classes
    (0, Input) direction_back direction_forth direction_among
