-- The parsers of conditions, by how many more "(" and NOT may be open.
use Rattle.std.proofs.Common.{◌≡◌, ℕ, zero, suc, true, List, [], ◌∷◌, ◌++◌, Option, Some, None, Ok, refl}
use Rattle.std.proofs.Common.{sym, ap, ◌∙◌, inl, inr, ◌⊎◌}
use Rattle.fcl_tokens.specs.declared.token.Amount.TheVariants as amount
use Rattle.fcl_tokens.specs.declared.token.Keyword.{Keyword}
use Rattle.fcl_tokens.specs.declared.token.Keyword.TheVariants as key
use Rattle.fcl_tokens.specs.declared.token.Token.{Token}
use Rattle.fcl_tokens.specs.declared.token.Token.TheVariants as tok
use Rattle.fcl_tokens.specs.declared.token.Word.TheVariants as word
use Rattle.fcl_syntax.specs.declared.fault.Kind.TheVariants.{Deep}
use Rattle.fcl_syntax.specs.{declared.tree.Name.Name, Annotations.Sym, Annotations.plain, Annotations.annotated}
use Rattle.fcl_syntax.specs.TokenClasses.{class_of, mem, follow_classes, Among, keyword_class, opener_classes}
use Rattle.fcl_syntax.specs.{Readers.◌>>=◌, Readers.TakesSome, Conditions.nots_of, Conditions.ands_of}
use Rattle.fcl_syntax.specs.Grammar.{TNot, neg, group, is, lone, TNots, no_nots, more_nots, TAnd, and_of, TAnds}
use Rattle.fcl_syntax.specs.Grammar.{no_ands, more_ands, TOr, or_of, not_text, nots_text, and_text, ands_text, or_text}
use Rattle.fcl_syntax.specs.Reading.{token_at, not_word_at, operand_at, behind_key_in, joined_in, neg_in, group_in}
use Rattle.fcl_syntax.specs.Reading.{opened_in, not_at, and_in}
use Rattle.fcl_syntax.proofs.{Parser.disjoint, Parser.Parser, Ahead.Ahead, Ahead.ahead}
use Rattle.fcl_syntax.proofs.{Chains.bind_assoc, Chains.bind_cond, SingleTokens.name_single}
use Rattle.fcl_syntax.proofs.{Dead.via, Dead.Dead, Dead.dead_or, Loop.texts, Repeat.then_rep, Seq.seq}
use Rattle.fcl_syntax.proofs.Parsers.{bare_parser, key_parser, open_parser, name_parser}
use Rattle.fcl_syntax.proofs.Run.{parser_takes}
use Rattle.fcl_syntax.proofs.Named.{Reads, named, either, in_left, in_right}

-- ---- name IS [NOT] name

abbrev pub follow_ahead : Ahead (Among follow_classes)
follow_ahead = record {
  among = follow_classes;
  token = λ f. f.token;
  classes = λ f. f.is;
  cover =
      λ y h. (record { token = y; is = h }, refl);
}

abbrev pub TermRaw : Type 0
TermRaw = (ℕ × Name) ⊎ Name

abbrev pub term_parser : Parser TermRaw
term_parser = either (seq (key_parser key.Not) name_parser refl) name_parser refl refl

abbrev pub OperandRaw : Type 0
OperandRaw = (Name × (ℕ × TermRaw)) ⊎ (Name × Among follow_classes)

abbrev pub operand_raw : Parser OperandRaw
operand_raw = ahead name_single follow_ahead (seq (key_parser key.Is) term_parser refl) refl

abbrev pub to_is : Name → ℕ → TermRaw → TNot
to_is v i (inl t) = is v i (Some t.0) t.1
to_is v i (inr t) = is v i None t

abbrev pub to_operand : OperandRaw → TNot
to_operand (inl t) = to_is t.0 t.1.0 t.1.1
to_operand (inr t) = lone t.0 t.1

pub operand_is : (ts : List Token) → operand_at ts ≡ (operand_raw.read ts >>= λ a. Ok (to_operand a.0, a.1))
unfolding operand_at token_at not_word_at
operand_is ts = simp (bind_assoc, bind_cond)

-- ---- what is inside

-- the parser of a condition's part where n more may be open
pub record Part (n : ℕ) : Type 0 where
  pub parser : Parser TNot
  pub goes : parser.goes ≡ []
  pub text : (t : TNot) → parser.text t ≡ not_text t n
  pub read : parser.read ≡ not_at n

pub list_of_nots : TNots → List (ℕ × TNot)
list_of_nots no_nots = []
list_of_nots (more_nots at t ts) = (at, t) ∷ list_of_nots ts

pub nots_round : (ts : TNots) → nots_of (list_of_nots ts) ≡ ts
unfolding list_of_nots
nots_round no_nots = refl
nots_round (more_nots at t ts) = ap (λ (l : TNots). more_nots at t l) (nots_round ts)

pub list_of_ands : TAnds → List (ℕ × TAnd)
list_of_ands no_ands = []
list_of_ands (more_ands at t ts) = (at, t) ∷ list_of_ands ts

pub ands_round : (ts : TAnds) → ands_of (list_of_ands ts) ≡ ts
unfolding list_of_ands
ands_round no_ands = refl
ands_round (more_ands at t ts) = ap (λ (l : TAnds). more_ands at t l) (ands_round ts)

abbrev pub from_and : TAnd → TNot × List (ℕ × TNot)
from_and (and_of t ts) = (t, list_of_nots ts)

pub and_round : (a : TAnd) → and_of (from_and a).0 (nots_of (from_and a).1) ≡ a
and_round (and_of t ts) = ap (λ (l : TNots). and_of t l) (nots_round ts)

abbrev pub from_or : TOr → TAnd × List (ℕ × TAnd)
from_or (or_of t ts) = (t, list_of_ands ts)

pub or_round : (a : TOr) → or_of (from_or a).0 (ands_of (from_or a).1) ≡ a
or_round (or_of t ts) = ap (λ (l : TAnds). or_of t l) (ands_round ts)

-- parts with a keyword between them
module _ {A : Type 0} (k : Keyword) (p : Parser A) where
  pub behind_key_is : Reads (behind_key_in k p.read) (seq (key_parser k) p refl)
  unfolding behind_key_in
  behind_key_is = record { same = λ ts. refl }

  abbrev pub behind_key_parser : Parser (ℕ × A)
  behind_key_parser = named behind_key_is

  module _ (apart : disjoint p.goes (keyword_class k ∷ []) ≡ true) where
    abbrev pub joined_seq : Parser (A × List (ℕ × A))
    joined_seq = then_rep p behind_key_parser apart refl

    module _ {W : Type 0} (whole : A → List (ℕ × A) → W) (parts : W → A × List (ℕ × A))
        (round : (w : W) → whole (parts w).0 (parts w).1 ≡ w) (text : W → List Sym)
        (same : (t : A × List (ℕ × A)) → text (whole t.0 t.1) ≡ joined_seq.text t) where
      pub joined_is : Reads (joined_in k p.read whole) (via joined_seq (λ t. whole t.0 t.1) parts text round same)
      unfolding joined_in
      joined_is = record { same = λ ts. simp (bind_assoc) }

      abbrev pub joined_parser : Parser W
      joined_parser = named joined_is

module _ (n : ℕ) (p : Part n) where
  -- the part, read by the parser's own reader
  pub inner_is : Reads (not_at n) p.parser
  inner_is = record { same = λ ts. rw (← p.read) refl }

  abbrev pub inner : Parser TNot
  inner = named inner_is

  abbrev pub conjunct_parser : Parser (ℕ × TNot)
  conjunct_parser = behind_key_parser key.And inner

  pub and_apart : disjoint p.parser.goes (keyword_class key.And ∷ []) ≡ true
  and_apart = rw p.goes refl

  pub nots_same : (ts : List (ℕ × TNot)) → nots_text (nots_of ts) n ≡ texts conjunct_parser ts
  nots_same [] = refl
  nots_same (t ∷ ts) =
      ap (λ (l : List Sym). plain (tok.Word t.0 key.And) ∷ (l ++ nots_text (nots_of ts) n)) (sym (p.text t.1))
      ∙ ap (λ (l : List Sym). plain (tok.Word t.0 key.And) ∷ (p.parser.text t.1 ++ l)) (nots_same ts)

  pub and_same : (t : TNot × List (ℕ × TNot))
      → and_text (and_of t.0 (nots_of t.1)) n ≡ (joined_seq key.And inner and_apart).text t
  and_same t = ap (λ (l : List Sym). l ++ nots_text (nots_of t.1) n) (sym (p.text t.0))
      ∙ ap (λ (l : List Sym). p.parser.text t.0 ++ l) (nots_same t.1)

  abbrev pub and_parser : Parser TAnd
  and_parser = joined_parser key.And inner and_apart (λ t ts. and_of t (nots_of ts)) from_and and_round
      (λ a. and_text a n) and_same

  abbrev pub alternative_parser : Parser (ℕ × TAnd)
  alternative_parser = behind_key_parser key.Or and_parser

  pub or_apart : disjoint and_parser.goes (keyword_class key.Or ∷ []) ≡ true
  or_apart = rw p.goes refl

  pub ands_same : (ts : List (ℕ × TAnd)) → ands_text (ands_of ts) n ≡ texts alternative_parser ts
  ands_same [] = refl
  ands_same (t ∷ ts) = ap (λ (l : List Sym). plain (tok.Word t.0 key.Or) ∷ (and_text t.1 n ++ l)) (ands_same ts)

  pub or_same : (t : TAnd × List (ℕ × TAnd))
      → or_text (or_of t.0 (ands_of t.1)) n ≡ (joined_seq key.Or and_parser or_apart).text t
  or_same t = ap (λ (l : List Sym). and_text t.0 n ++ l) (ands_same t.1)

  abbrev pub or_parser : Parser TOr
  or_parser = joined_parser key.Or and_parser or_apart (λ a items. or_of a (ands_of items)) from_or or_round
      (λ o. or_text o n) or_same

  -- NOT not, and "(" or ")"
  abbrev pub OpenedRaw : Type 0
  OpenedRaw = (ℕ × TNot) ⊎ (ℕ × (TOr × Unit {0}))

  abbrev pub opened_parser : Parser OpenedRaw
  opened_parser = either (seq (key_parser key.Not) inner refl)
      (seq open_parser (seq or_parser (bare_parser tok.Close refl) (rw p.goes refl)) refl) refl p.goes

  abbrev pub part_raw : Parser (OpenedRaw ⊎ OperandRaw)
  part_raw = either opened_parser operand_raw refl refl

abbrev pub to_part : ((ℕ × TNot) ⊎ (ℕ × (TOr × Unit {0}))) ⊎ OperandRaw → TNot
to_part (inl (inl t)) = neg t.0 t.1
to_part (inl (inr t)) = group t.0 t.1.0
to_part (inr t) = to_operand t

abbrev pub from_is : Name → ℕ → Option ℕ → Name → OperandRaw
from_is v i (Some n) t = inl (v, (i, inl (n, t)))
from_is v i None t = inl (v, (i, inr t))

abbrev pub from_part : TNot → ((ℕ × TNot) ⊎ (ℕ × (TOr × Unit {0}))) ⊎ OperandRaw
from_part (neg at t) = inl (inl (at, t))
from_part (group at o) = inl (inr (at, (o, tt)))
from_part (is v i b t) = inr (from_is v i b t)
from_part (lone v f) = inr (inr (v, f))

pub part_round : (t : TNot) → to_part (from_part t) ≡ t
part_round (is v i (Some n) t) = refl
part_round _ = refl

pub operand_same : (n : ℕ) (t : OperandRaw) → not_text (to_operand t) n ≡ operand_raw.text t
operand_same n (inl (v, (i, inl t))) = refl
operand_same n _ = refl

module _ (n : ℕ) (p : Part n) where
  pub part_same : (t : ((ℕ × TNot) ⊎ (ℕ × (TOr × Unit {0}))) ⊎ OperandRaw)
      → not_text (to_part t) (suc n) ≡ (part_raw n p).text t
  part_same (inl (inl t)) = ap (λ (l : List Sym). plain (tok.Word t.0 key.Not) ∷ l) (sym (p.text t.1))
  part_same (inl (inr t)) = refl
  part_same (inr t) = operand_same (suc n) t

  abbrev pub part_parser : Parser TNot
  part_parser = via (part_raw n p) to_part from_part (λ t. not_text t (suc n)) part_round part_same

  pub part_is : (ts : List Token) → part_parser.read ts ≡ not_at (suc n) ts
  unfolding not_at opened_in neg_in group_in
  part_is ts = sym (rw operand_is (simp (bind_assoc, bind_cond)))

  pub next_part : Part (suc n)
  next_part = record { parser = part_parser; goes = refl; text = λ t. refl; read = λ i ts. part_is ts i }

-- ---- no more may be open

abbrev pub deep_text : (ℕ × TNot) ⊎ (ℕ × TOr) → List Sym
deep_text (inl t) = not_text (neg t.0 t.1) 0
deep_text (inr o) = not_text (group o.0 o.1) 0

abbrev pub deep_head : (ℕ × TNot) ⊎ (ℕ × TOr) → Token
deep_head (inl t) = tok.Word t.0 key.Not
deep_head (inr o) = tok.Open o.0

abbrev pub deep_tail : (ℕ × TNot) ⊎ (ℕ × TOr) → List Sym
deep_tail (inl t) = not_text t.1 0
deep_tail (inr o) = or_text o.1 0 ++ plain tok.Close ∷ []

pub deep_split : (x : (ℕ × TNot) ⊎ (ℕ × TOr)) → deep_text x ≡ annotated Deep (deep_head x) ∷ deep_tail x
deep_split (inl t) = refl
deep_split (inr o) = refl

pub deep_classes : (x : (ℕ × TNot) ⊎ (ℕ × TOr)) → mem (class_of (deep_head x)) opener_classes ≡ true
deep_classes (inl t) = refl
deep_classes (inr o) = refl

abbrev pub some_name : Name
some_name = record { at = 0; word = word.Other }

abbrev pub some_not : TNot
some_not = is some_name 0 None some_name

pub deep_cover : (y : Token) → mem (class_of y) opener_classes ≡ true → (x : (ℕ × TNot) ⊎ (ℕ × TOr)) ×
    (deep_head x ≡ y)
deep_cover (tok.Open at) h = (inr (at, or_of (and_of some_not no_nots) no_ands), refl)
deep_cover (tok.Word at key.Not) h = (inl (at, some_not), refl)
deep_cover (tok.Name at word.Real) h = absurd cc
deep_cover (tok.Number at amount.Zero true) h = absurd cc
deep_cover (tok.Number at amount.One true) h = absurd cc
deep_cover (tok.Number at (amount.Other n) true) h = absurd cc
deep_cover _ h = absurd cc

abbrev pub deep_dead : Dead ((ℕ × TNot) ⊎ (ℕ × TOr))
deep_dead = record {
  text = deep_text;
  kind = Deep;
  among = opener_classes;
  head = deep_head;
  tail = deep_tail;
  is = deep_split;
  classes = deep_classes;
  cover = deep_cover;
  here = refl;
}

abbrev pub last_raw : Parser (((ℕ × TNot) ⊎ (ℕ × TOr)) ⊎ OperandRaw)
last_raw = dead_or deep_dead operand_raw refl (keyword_class key.Not ∷ class_of (tok.Open 0) ∷ operand_raw.first)
    (in_left opener_classes operand_raw.first)
    (in_right opener_classes operand_raw.first)

abbrev pub to_last : ((ℕ × TNot) ⊎ (ℕ × TOr)) ⊎ OperandRaw → TNot
to_last (inl (inl t)) = neg t.0 t.1
to_last (inl (inr o)) = group o.0 o.1
to_last (inr t) = to_operand t

abbrev pub from_last : TNot → ((ℕ × TNot) ⊎ (ℕ × TOr)) ⊎ OperandRaw
from_last (neg at t) = inl (inl (at, t))
from_last (group at o) = inl (inr (at, o))
from_last (is v i b t) = inr (from_is v i b t)
from_last (lone v f) = inr (inr (v, f))

pub last_round : (t : TNot) → to_last (from_last t) ≡ t
last_round (is v i (Some n) t) = refl
last_round _ = refl

pub last_same : (t : ((ℕ × TNot) ⊎ (ℕ × TOr)) ⊎ OperandRaw) → not_text (to_last t) 0 ≡ last_raw.text t
last_same (inl (inl t)) = refl
last_same (inl (inr o)) = refl
last_same (inr t) = operand_same 0 t

abbrev pub last_parser : Parser TNot
last_parser = via last_raw to_last from_last (λ t. not_text t 0) last_round last_same

pub last_is : (ts : List Token) → last_parser.read ts ≡ not_at 0 ts
unfolding not_at
last_is ts = sym (rw operand_is (simp (bind_assoc, bind_cond)))

pub part : (n : ℕ) → Part n
part zero = record { parser = last_parser; goes = refl; text = λ t. refl; read = λ i ts. last_is ts i }
part (suc n) = next_part n (part n)

pub conjuncts_take : (n : ℕ) → TakesSome (behind_key_in key.And (not_at n))
conjuncts_take n = parser_takes (behind_key_parser key.And (inner n (part n)))

pub alternatives_take : (n : ℕ) → TakesSome (behind_key_in key.Or (and_in (not_at n)))
alternatives_take n = parser_takes (behind_key_parser key.Or (and_parser n (part n)))
