-- Rows and the entries that they spell, one for one, and entries that ascend.
use Rattle.std.proofs.Common.{arith, ◌≡◌, List, [], ◌∷◌, ◌++◌, length, refl, ◌∙◌, ap, ap₂, subst}
use Rattle.std.specs.Prelude.{All}
use Rattle.std.proofs.lemmas.List.Elements.{All-head, All-tail}
use Rattle.trace_io.specs.FirstRows.{Fields}
use Rattle.interrupt_plan.specs.Rows.{Ascend, SpellAll}

module _ {E : Type 0} (Follows : E → E → Type 0) where
  pub ascends-snoc : (es : List E) (e : E) → Ascend Follows es
      → ((front : List E) (last : E) → es ≡ front ++ last ∷ [] → Follows last e)
      → Ascend Follows (es ++ e ∷ [])
  ascends-snoc [] e ascends follows = tt
  ascends-snoc (a ∷ []) e ascends follows = (follows [] a refl, tt)
  ascends-snoc (a ∷ b ∷ rest) e ascends follows = (
    ascends.0,
    ascends-snoc (b ∷ rest) e ascends.1
        (λ front last is. follows (a ∷ front) last (ap (λ (l : List E). a ∷ l) is)),
  )

  rises : (front : List E) (last own : E) (behind : List E) → Ascend Follows ((front ++ last ∷ []) ++ own ∷ behind)
      → Follows last own
  rises [] last own behind ascends = ascends.0
  rises (r ∷ []) last own behind ascends = rises [] last own behind ascends.1
  rises (r ∷ q ∷ front) last own behind ascends = rises (q ∷ front) last own behind ascends.1

pub own_of : {E : Type 0} (P : E → Type 0) (front : List E) (own : E) (behind : List E)
    → All P (front ++ own ∷ behind) → P own
own_of P [] own behind each = All-head P own behind each
own_of P (r ∷ front) own behind each = own_of P front own behind (All-tail P r (front ++ own ∷ behind) each)

-- the entries before a row, its own, and those behind
pub record Split {E : Type 0} (Spells : Fields → E → Type 0) (before : List Fields) (row : Fields)
    (all : List E) : Type 0 where
  pub front : List E
  pub own : E
  pub behind : List E
  pub parts : all ≡ front ++ own ∷ behind
  pub spelled : SpellAll Spells before front
  pub own_is : Spells row own

module _ {E : Type 0} (Spells : Fields → E → Type 0) where
  pub spelled-length : (rows : List Fields) (es : List E) → SpellAll Spells rows es → length es ≡ length rows
  spelled-length [] [] spelled = refl
  spelled-length [] (e ∷ es) spelled = absurd spelled
  spelled-length (row ∷ rows) [] spelled = absurd spelled
  spelled-length (row ∷ rows) (e ∷ es) spelled = omega (arith, spelled-length rows es spelled.1)

  pub spell-snoc : (rows : List Fields) (es : List E) (row : Fields) (e : E) → SpellAll Spells rows es → Spells row e
      → SpellAll Spells (rows ++ row ∷ []) (es ++ e ∷ [])
  spell-snoc [] [] row e so_far here = (here, tt)
  spell-snoc [] (x ∷ es) row e so_far here = absurd so_far
  spell-snoc (x ∷ rows) [] row e so_far here = absurd so_far
  spell-snoc (x ∷ rows) (y ∷ es) row e so_far here = (so_far.0, spell-snoc rows es row e so_far.1 here)

  pub split_at : (before : List Fields) (row : Fields) (after : List Fields) (all : List E)
      → SpellAll Spells (before ++ row ∷ after) all → Split Spells before row all
  split_at [] row after [] spelled = absurd spelled
  split_at [] row after (r ∷ rs) spelled =
      record { front = []; own = r; behind = rs; parts = refl; spelled = tt; own_is = spelled.0 }
  split_at (b ∷ before) row after [] spelled = absurd spelled
  split_at (b ∷ before) row after (r ∷ rs) spelled =
      let rest = split_at before row after rs spelled.1 in
      record {
        front = r ∷ rest.front;
        own = rest.own;
        behind = rest.behind;
        parts = ap (λ (l : List E). r ∷ l) rest.parts;
        spelled = (spelled.0, rest.spelled);
        own_is = rest.own_is;
      }

  -- rows each of which spells at most one entry
  module _ (entry_one : (fields : Fields) (q r : E) → Spells fields q → Spells fields r → q ≡ r) where
    pub entries_one : (rows : List Fields) (ps qs : List E) → SpellAll Spells rows ps → SpellAll
        Spells rows qs → ps ≡ qs
    entries_one [] [] [] one other = refl
    entries_one [] [] (q ∷ qs) one other = absurd other
    entries_one [] (p ∷ ps) qs one other = absurd one
    entries_one (row ∷ rows) [] qs one other = absurd one
    entries_one (row ∷ rows) (p ∷ ps) [] one other = absurd other
    entries_one (row ∷ rows) (p ∷ ps) (q ∷ qs) one other =
        ap₂ (λ (r : E) (rs : List E). r ∷ rs) (entry_one row p q one.0 other.0) (entries_one rows ps qs one.1 other.1)

    -- a row's entry follows the last of those that the rows before it spell
    pub follows_last : (Follows : E → E → Type 0) (before : List Fields) (row : Fields) (others all : List E)
        (at : Split Spells before row all)
        → SpellAll Spells before others → Ascend Follows all → (front : List E) (last : E) → others ≡ front ++ last ∷ []
        → Follows last at.own
    follows_last Follows before row others all at spelled ascends front last is =
        let same : at.front ≡ front ++ last ∷ [] = entries_one before at.front others at.spelled spelled ∙ is in
        let parts : all ≡ (front ++ last ∷ []) ++ at.own ∷ at.behind =
        at.parts ∙ ap (λ (l : List E). l ++ at.own ∷ at.behind) same in
        rises Follows front last at.own at.behind (subst (λ (l : List E). Ascend Follows l) parts ascends)
