-- Labels have the places of their lines.
use Rattle.std.proofs.Common.{◌≡◌, ◌≢◌, ℕ, ◌+◌, ◌≤◌, Bool, true, false, cond, List, [], ◌∷◌, ◌++◌, length, Option, Some}
use Rattle.std.proofs.Common.{None, is_some, Result, Ok, Err, refl, sym, ap, subst, ◌∙◌, inl, inr, arith, append_assoc}
use Rattle.std.proofs.Common.{append-nil}
use Rattle.std.specs.List.{sum_by}
use Rattle.std.specs.Str.{bytes_eq}
use Rattle.std.proofs.lemmas.Bool.{cases_Bool}
use Rattle.std.proofs.lemmas.List.Sums.{sum_by_push}
use Rattle.std.proofs.lemmas.Slice.Eq.{bytes_eq-Decides}
use Rattle.cpu12_asm.specs.declared.{faults.LineFault.LineFault, faults.LineFault.TheVariants.Twice}
use Rattle.cpu12_asm.specs.declared.{items.AsmFault.AsmFault, statements.Action.Action, values.Behind.Behind}
use Rattle.cpu12_asm.specs.declared.statements.Action.TheVariants.{Nothing, Origin, Equate, Bytes, Words, Operate}
use Rattle.cpu12_asm.specs.{Expressions.sum_of, Faults.through, Lines.lines_of}
use Rattle.cpu12_asm.specs.Labels.{HasNoOrigin, IsPlaceBehind, Says, behind_origin, line_size, statement_size}
use Rattle.cpu12_asm.specs.Labels.{without_origin}
use Rattle.cpu12_asm.specs.Sources.{defined_by, names_of, start, value_known}
use Rattle.cpu12_asm.specs.Statements.{Statement, statement_of}
use Rattle.cpu12_asm.specs.Values.{Known, behind_of, defined, equal_to, is_given, moved_to, size_of, with_line}
use Rattle.cpu12_asm.specs.Values.{with_value, within}
use Rattle.cpu12_asm.proofs.{Known.AreKept, Known.within_kept, Passes.continues, Passes.ended, Passes.splits}

-- what is known behind a line
pub record Reads (k m : Known) (line : List ℕ) : Type 0 where
  pub name : List ℕ
  pub action : Action
  pub operand : List ℕ
  pub says : Says line name action operand
  pub next : Behind
  pub behind : behind_of k action operand ≡ Ok next
  pub fresh : is_given k.value name ≡ false
  pub is : m ≡ record { place = next.place; value = with_value k.value name next.value }

known_same : (k m : Known) → ◌≡◌ {A = Result Known LineFault} (Ok k) (Ok m) → k ≡ m
known_same k m same = cc

pub record Comes (k m : Known) (name : List ℕ) (given : Bool) (r : Result Behind LineFault) : Type 0 where
  pub next : Behind
  pub behind : r ≡ Ok next
  pub fresh : given ≡ false
  pub is : m ≡ record { place = next.place; value = with_value k.value name next.value }

comes : (k m : Known) (name : List ℕ) (given : Bool) (r : Result Behind LineFault)
    → cond given (Err Twice) (with_line k name r) ≡ Ok m → Comes k m name given r
comes k m name true r is = absurd (cc)
comes k m name false (Err f) is = absurd (cc)
comes k m name false (Ok next) is = record { next = next; behind = refl; fresh = refl; is = sym (known_same _ m is) }

reads_as : (k m : Known) (line : List ℕ) (o : Option Statement) → statement_of line ≡ o → defined k o ≡ Ok m
    → Reads k m line
reads_as k m line None says is = absurd (cc)
reads_as k m line (Some s) says is =
    let c = comes k m s.name (is_given k.value s.name) (behind_of k s.action s.operand) is in record {
      name = s.name;
      action = s.action;
      operand = s.operand;
      says = record { is = says };
      next = c.next;
      behind = c.behind;
      fresh = c.fresh;
      is = c.is;
    }

reads : (k m : Known) (line : List ℕ) → defined_by k line ≡ Ok m → Reads k m line
reads k m line is = reads_as k m line (statement_of line) refl is

value_kept : (value : List ℕ → Option ℕ) (name : List ℕ) (v : ℕ) → is_given value name ≡ false
    → AreKept value (with_value value name v)
value_kept value [] v fresh = λ n x is. is
value_kept value (b ∷ bs) v fresh = λ n x is. elim (cases_Bool (bytes_eq (b ∷ bs) n)) [
  | inl same ↦ (let here : value (b ∷ bs) ≡ Some x = ap value ((bytes_eq-Decides (b ∷ bs) n).0 same) ∙ is in
      let bad : true ≡ false = sym (ap is_some here) ∙ fresh in absurd (cc))
  | inr other ↦ rw other is
]

-- what a line leaves is kept by the lines after it
line_keeps : (k m : Known) (line : List ℕ) → Reads k m line → AreKept k.value m.value
line_keeps k m line r =
    subst (λ (x : Known). AreKept k.value x.value) (sym r.is) (value_kept k.value r.name r.next.value r.fresh)

pub lines_keep : (lines : List (List ℕ)) (k t : Known) (n : ℕ) → through defined_by k n lines ≡ Ok t
    → AreKept k.value t.value
lines_keep [] k t n all = subst (λ (x : Known). AreKept k.value x.value) (ended Known k t all) (λ name x is. is)
lines_keep (line ∷ lines) k t n all =
    let c = continues Known defined_by k t line lines n all in
    λ name x is. lines_keep lines c.m t (n + 1) c.rest name x
    (line_keeps k c.m line (reads k c.m line c.first) name x is)

some_same : (s t : Statement) → ◌≡◌ {A = Option Statement} (Some s) (Some t) → s ≡ t
some_same s t same = cc

module _ (line m n : List ℕ) (a b : Action) (o p : List ℕ) (one : Says line m a o) (other : Says line n b p) where
  statement_same : ◌≡◌ {A = Statement} (record { name = m; action = a; operand = o })
      (record { name = n; action = b; operand = p })
  statement_same = some_same _ _ (sym one.is ∙ other.is)

  action_same : a ≡ b
  action_same = ap (λ (x : Statement). x.action) statement_same

no_origin_push : (lines : List (List ℕ)) (line : List ℕ) → HasNoOrigin lines
    → ((name operand : List ℕ) → Says line name Origin operand → ⊥)
    → HasNoOrigin (lines ++ line ∷ [])
no_origin_push [] line none other = (other, tt)
no_origin_push (l ∷ lines) line none other = (none.0, no_origin_push lines line none.1 other)

place_push : (value : List ℕ → Option ℕ) (lines : List (List ℕ)) (place : ℕ) (line : List ℕ)
    → IsPlaceBehind value lines place
    → ((name operand : List ℕ) → Says line name Origin operand → ⊥)
    → IsPlaceBehind value (lines ++ line ∷ []) (place + line_size line)
place_push value _ _ line (without_origin lines none) other =
    subst (IsPlaceBehind value (lines ++ line ∷ [])) (sum_by_push line_size lines line)
    (without_origin (lines ++ line ∷ []) (no_origin_push lines line none other))
place_push value _ _ line (behind_origin before since at name operand to says is none) other =
    let count : to + sum_by line_size (since ++ line ∷ []) ≡ (to + sum_by line_size since) + line_size line =
    omega (arith, sum_by_push line_size since line) in
    let all = behind_origin before (since ++ line ∷ []) at name operand to says is
    (no_origin_push since line none other) in
    subst (λ (l : List (List ℕ)). IsPlaceBehind value l ((to + sum_by line_size since) + line_size line))
    (sym (append_assoc before (at ∷ since) (line ∷ [])))
    (subst (IsPlaceBehind value (before ++ at ∷ (since ++ line ∷ []))) count all)

next_same : (n m : Behind) → ◌≡◌ {A = Result Behind LineFault} (Ok n) (Ok m) → n ≡ m
next_same n m same = cc

moved_is : (place : ℕ) (r : Result ℕ LineFault) (next : Behind) → moved_to place r ≡ Ok next
    → (r ≡ Ok next.place) × (next.value ≡ place)
moved_is place (Err f) next is = absurd (cc)
moved_is place (Ok v) next is = let same = next_same _ next is in
    (ap (λ (n : Behind). Ok n.place) same, sym (ap (λ (n : Behind). n.value) same))

equal_is : (place : ℕ) (r : Result ℕ LineFault) (next : Behind) → equal_to place r ≡ Ok next
    → (r ≡ Ok next.value) × (next.place ≡ place)
equal_is place (Err f) next is = absurd (cc)
equal_is place (Ok v) next is = let same = next_same _ next is in
    (ap (λ (n : Behind). Ok n.value) same, sym (ap (λ (n : Behind). n.place) same))

plain_place : (k : Known) (size : ℕ) (next : Behind)
    → ◌≡◌ {A = Result Behind LineFault} (Ok (record { value = k.place; place = k.place + size })) (Ok next)
    → (next.place ≡ k.place + size) × (next.value ≡ k.place)
plain_place k size next is = let same = next_same _ next is in
    (sym (ap (λ (n : Behind). n.place) same), sym (ap (λ (n : Behind). n.value) same))

place_then : (k : Known) (action : Action) (operand : List ℕ) (next : Behind) → action ≢ Origin
    → behind_of k action operand ≡ Ok next
    → next.place ≡ k.place + size_of action operand
place_then k Nothing operand next other is = (plain_place k 0 next is).0
place_then k Origin operand next other is = absurd (other refl)
place_then k Equate operand next other is =
    omega (arith, (equal_is k.place (within 65535 (sum_of k.value operand)) next is).1)
place_then k Bytes operand next other is = (plain_place k (size_of Bytes operand) next is).0
place_then k Words operand next other is = (plain_place k (size_of Words operand) next is).0
place_then k (Operate encoding) operand next other is = (plain_place k (size_of (Operate encoding) operand) next is).0

value_then : (k : Known) (action : Action) (operand : List ℕ) (next : Behind) → action ≢ Equate
    → behind_of k action operand ≡ Ok next → next.value ≡ k.place
value_then k Nothing operand next other is = (plain_place k 0 next is).1
value_then k Origin operand next other is = (moved_is k.place (within 65535 (sum_of k.value operand)) next is).1
value_then k Equate operand next other is = absurd (other refl)
value_then k Bytes operand next other is = (plain_place k (size_of Bytes operand) next is).1
value_then k Words operand next other is = (plain_place k (size_of Words operand) next is).1
value_then k (Operate encoding) operand next other is = (plain_place k (size_of (Operate encoding) operand) next is).1

origin_then : (k : Known) (action : Action) (operand : List ℕ) (next : Behind) → action ≡ Origin
    → behind_of k action operand ≡ Ok next
    → within 65535 (sum_of k.value operand) ≡ Ok next.place
origin_then k action operand next origin is =
    (moved_is k.place (within 65535 (sum_of k.value operand)) next
    (subst (λ (a : Action). behind_of k a operand ≡ Ok next) origin is)).0

module _ (value : List ℕ → Option ℕ) (done : List (List ℕ)) (place next : ℕ) (line name operand : List ℕ)
    (here : IsPlaceBehind value done place) where
  plain_line : (action : Action) → Says line name action operand → action ≢ Origin
      → next ≡ place + size_of action operand
      → IsPlaceBehind value (done ++ line ∷ []) next
  plain_line action says other moves =
      let size : line_size line ≡ size_of action operand = ap statement_size says.is in
      let count : place + line_size line ≡ next = omega (arith, size, moves) in
      subst (IsPlaceBehind value (done ++ line ∷ [])) count (place_push value done place line here
      (λ m o org. other (action_same line name m action Origin operand o says org)))

  -- the place behind one line more
  pub place_behind_line : (action : Action) → Says line name action operand
      → (action ≡ Origin → within 65535 (sum_of value operand) ≡ Ok next)
      → (action ≢ Origin → next ≡ place + size_of action operand) → IsPlaceBehind value (done ++ line ∷ []) next
  place_behind_line Origin says origin moves =
      subst (IsPlaceBehind value (done ++ line ∷ [])) (omega arith)
      (behind_origin done [] line name operand next says (origin refl) tt)
  place_behind_line Nothing says origin moves = let other : Nothing ≢ Origin = λ e. (let bad = e in cc) in
      plain_line Nothing says other (moves other)
  place_behind_line Equate says origin moves = let other : Equate ≢ Origin = λ e. (let bad = e in cc) in
      plain_line Equate says other (moves other)
  place_behind_line Bytes says origin moves = let other : Bytes ≢ Origin = λ e. (let bad = e in cc) in
      plain_line Bytes says other (moves other)
  place_behind_line Words says origin moves = let other : Words ≢ Origin = λ e. (let bad = e in cc) in
      plain_line Words says other (moves other)
  place_behind_line (Operate encoding) says origin moves = let other : Operate encoding ≢ Origin = λ e. (let bad = e in cc) in
      plain_line (Operate encoding) says other (moves other)

places : (value : List ℕ → Option ℕ) (lines done : List (List ℕ)) (k t : Known) (n : ℕ) → AreKept t.value value
    → IsPlaceBehind value done k.place
    → through defined_by k n lines ≡ Ok t → IsPlaceBehind value (done ++ lines) t.place
places value [] done k t n kept here all =
    subst (λ (l : List (List ℕ)). IsPlaceBehind value l t.place) (sym (append-nil done))
    (subst (λ (x : Known). IsPlaceBehind value done x.place) (ended Known k t all) here)
places value (line ∷ lines) done k t n kept here all =
    let c = continues Known defined_by k t line lines n all in
    let r = reads k c.m line c.first in
    let known : AreKept k.value value = λ name x is. kept name x (lines_keep (line ∷ lines) k t n all name x is) in
    let next : IsPlaceBehind value (done ++ line ∷ []) c.m.place =
    subst (λ (x : Known). IsPlaceBehind value (done ++ line ∷ []) x.place) (sym r.is)
    (place_behind_line value done k.place r.next.place line r.name r.operand here r.action r.says
    (λ origin. within_kept k.value value known 65535 r.operand r.next.place
    (origin_then k r.action r.operand r.next origin r.behind))
    (λ other. place_then k r.action r.operand r.next other r.behind)) in
    subst (λ (l : List (List ℕ)). IsPlaceBehind value l t.place) (append_assoc done (line ∷ []) lines)
    (places value lines (done ++ line ∷ []) c.m t (n + 1) kept next c.rest)

named : (value : List ℕ → Option ℕ) (name : List ℕ) (v : ℕ) → 1 ≤ length name → with_value value name v name ≡ Some v
named value [] v some = absurd (omega arith)
named value (b ∷ bs) v some = let same : bytes_eq (b ∷ bs) (b ∷ bs) ≡ true =
    (bytes_eq-Decides (b ∷ bs) (b ∷ bs)).1 refl in rw same refl

values_same : (f g : List ℕ → Option ℕ) → ◌≡◌ {A = Result (List ℕ → Option ℕ) AsmFault} (Ok f) (Ok g) → f ≡ g
values_same f g same = cc

record Names (text : List ℕ) (value : List ℕ → Option ℕ) : Type 0 where
  t : Known
  all : through defined_by start 1 (lines_of text) ≡ Ok t
  is : t.value ≡ value

names_with : (text : List ℕ) (value : List ℕ → Option ℕ) (r : Result Known AsmFault)
    → through defined_by start 1 (lines_of text) ≡ r → value_known r ≡ Ok value
    → Names text value
names_with text value (Err f) all is = absurd (cc)
names_with text value (Ok t) all is = record { t = t; all = all; is = values_same t.value value is }

-- what is known before a line, and what it leaves, which the source's names keep
record Reaches (value : List ℕ → Option ℕ) (before : List (List ℕ)) (line : List ℕ) : Type 0 where
  k : Known
  m : Known
  read : Reads k m line
  before_kept : AreKept k.value value
  kept : AreKept m.value value
  place : IsPlaceBehind value before k.place

stands : (text : List ℕ) (value : List ℕ → Option ℕ) → names_of text ≡ Ok value
    → (before after : List (List ℕ)) (line : List ℕ)
    → lines_of text ≡ before ++ line ∷ after → Reaches value before line
stands text value names before after line lines =
    let n = names_with text value (through defined_by start 1 (lines_of text)) refl names in
    let s = splits Known defined_by before (line ∷ after) start n.t 1
    (ap (through defined_by start 1) (sym lines) ∙ n.all) in
    let c = continues Known defined_by s.m n.t line after s.number s.then in
    let last : AreKept n.t.value value = subst (AreKept n.t.value) n.is (λ name x is. is) in
    let kept : AreKept s.m.value value =
    λ name x is. last name x (lines_keep (line ∷ after) s.m n.t s.number s.then name x is) in
    record {
      k = s.m;
      m = c.m;
      read = reads s.m c.m line c.first;
      before_kept = kept;
      kept = λ name x is. last name x (lines_keep after c.m n.t (s.number + 1) c.rest name x is);
      place = places value before [] start s.m 1 kept (without_origin [] tt) s.first;
    }

-- the value of a line's name
name_value_is : (value : List ℕ → Option ℕ) (before : List (List ℕ)) (line name : List ℕ) (action : Action)
    (operand : List ℕ) → (s : Reaches value before line)
    → Says line name action operand → 1 ≤ length name
    → (next : Behind) × (behind_of s.k action operand ≡ Ok next) × (value name ≡ Some next.value)
name_value_is value before line name action operand s says some =
    let r = s.read in
    let same = statement_same line r.name name r.action action r.operand operand r.says says in
    let behind : behind_of s.k action operand ≡ Ok r.next =
    ap (λ (x : Statement). behind_of s.k x.action x.operand) (sym same) ∙ r.behind in
    let known : s.m.value name ≡ Some r.next.value =
    ap (λ (x : Known). x.value name) r.is ∙ ap (λ (x : Statement). with_value s.k.value x.name r.next.value name) same
    ∙ named s.k.value name r.next.value some in
    (r.next, behind, s.kept name r.next.value known)

pub labels_are_places : (text : List ℕ) (value : List ℕ → Option ℕ) → names_of text ≡ Ok value
    → (before after : List (List ℕ)) (line : List ℕ)
    → lines_of text ≡ before ++ line ∷ after
    → (name : List ℕ) (action : Action) (operand : List ℕ) → Says line name action operand → 1 ≤ length name
    → action ≢ Equate
    → (place : ℕ) × (value name ≡ Some place) × IsPlaceBehind value before place
labels_are_places text value names before after line lines name action operand says some other =
    let s = stands text value names before after line lines in
    let v = name_value_is value before line name action operand s says some in
    (s.k.place, v.2 ∙ ap (λ (x : ℕ). Some x) (value_then s.k action operand v.0 other v.1), s.place)

pub equates_are_values : (text : List ℕ) (value : List ℕ → Option ℕ) → names_of text ≡ Ok value
    → (before after : List (List ℕ)) (line : List ℕ)
    → lines_of text ≡ before ++ line ∷ after
    → (name operand : List ℕ) → Says line name Equate operand → 1 ≤ length name
    → (to : ℕ) × (value name ≡ Some to) × (within 65535 (sum_of value operand) ≡ Ok to)
equates_are_values text value names before after line lines name operand says some =
    let s = stands text value names before after line lines in
    let v = name_value_is value before line name Equate operand s says some in (
      v.0.value,
      v.2,
      within_kept s.k.value value s.before_kept 65535 operand v.0.value
          (equal_is s.k.place (within 65535 (sum_of s.k.value operand)) v.0 v.1).0,
    )
