-- The bytes of a line stand at its place.
use Rattle.std.proofs.Common.{◌≡◌, ◌≢◌, ℕ, zero, suc, ◌+◌, ◌*◌, ◌<◌, Bool, true, false, cond, List, [], ◌∷◌, ◌++◌}
use Rattle.std.proofs.Common.{length, get_or, Option, Some, None, Result, Ok, Err, refl, sym, ap, subst, ◌∙◌, inl, inr}
use Rattle.std.proofs.Common.{arith, append-nil, append_assoc, length-append}
use Rattle.std.specs.List.{flat_map}
use Rattle.std.specs.Str.{str_to_ascii_uppercase}
use Rattle.std.proofs.lemmas.Bool.{cases_Bool}
use Rattle.std.proofs.lemmas.Bool.Decides.{nat_tests}
use Rattle.std.proofs.lemmas.List.{length-map}
use Rattle.cpu12_isa.specs.{declared.encodings.Operand.Operand, Encodings.operand_bytes, Encodings.prebytes}
use Rattle.cpu12_isa.specs.declared.encodings.Operand.TheVariants.{Inherent, Byte, Word, Address, Offset, ByteToAddress}
use Rattle.cpu12_isa.specs.declared.encodings.Operand.TheVariants.{AddressToAddress, XToD, YToD, PostIncrementX}
use Rattle.cpu12_asm.specs.declared.faults.LineFault.{LineFault}
use Rattle.cpu12_asm.specs.declared.faults.LineFault.TheVariants as fault
use Rattle.cpu12_asm.specs.{declared.statements.Action.Action, Bytes.IsGivenOnce, Bytes.byte_at, Bytes.placed}
use Rattle.cpu12_asm.specs.declared.statements.Action.TheVariants.{Nothing, Origin, Equate, Bytes, Words, Operate}
use Rattle.cpu12_asm.specs.{Expressions.sum_of, Faults.through, Lines.lines_of, Lines.pieces}
use Rattle.cpu12_asm.specs.Giving.{Given, any_unknown, before as put_first, branches_far, bytes_with, given}
use Rattle.cpu12_asm.specs.Giving.{given_with, limits_of, moved, operand_with, overlaps, put_values, values_from}
use Rattle.cpu12_asm.specs.Giving.{values_of, values_within, word_bytes}
use Rattle.cpu12_asm.specs.Labels.{IsPlaceBehind, Says, Stands, line_size, statement_size, without_origin}
use Rattle.cpu12_asm.specs.Sources.{Assembles, empty, given_by_line, names_of, with_names}
use Rattle.cpu12_asm.specs.Statements.{Statement, part_count, statement_of}
use Rattle.cpu12_asm.specs.Values.{fits, size_of, within}
use Rattle.cpu12_asm.proofs.{Labelling.place_behind_line, Placing.is_same, Steps.given_with-bytes}
use Rattle.cpu12_asm.proofs.Passes.{continues, ended, splits}

-- ---- a line gives as many bytes as it counts for

unless : (b : Bool) (r : Result (List ℕ) LineFault) (vs : List ℕ) → cond b (Err fault.UnknownName) r ≡ Ok vs → r ≡ Ok vs
unless true r vs is = absurd (cc)
unless false r vs is = is

record Values (v : ℕ) (r : Result (List ℕ) LineFault) (vs : List ℕ) : Type 0 where
  rest : List ℕ
  is : r ≡ Ok rest
  all : vs ≡ v ∷ rest

ok_same : (vs ws : List ℕ) → ◌≡◌ {A = Result (List ℕ) LineFault} (Ok vs) (Ok ws) → vs ≡ ws
ok_same vs ws same = cc

first_value : (b : Bool) (v : ℕ) (r : Result (List ℕ) LineFault) (vs : List ℕ)
    → cond b (put_first v r) (Err fault.Range) ≡ Ok vs → Values v r vs
first_value false v r vs is = absurd (cc)
first_value true v (Err f) vs is = absurd (cc)
first_value true v (Ok ws) vs is = record { rest = ws; is = refl; all = sym (ok_same (v ∷ ws) vs is) }

as_many_from : (value : List ℕ → Option ℕ) (first other : ℕ) (es : List (List ℕ)) (vs : List ℕ)
    → values_from value first other es ≡ Ok vs
    → length vs ≡ length es
as_many_from value first other [] vs is = sym (ap length (ok_same [] vs is))
as_many_from value first other (e ∷ es) vs is =
    let v = first_value (fits first (sum_of value e)) _ (values_from value other other es) vs is in
    let rest : length v.rest ≡ length es = as_many_from value other other es v.rest v.is in
    omega (arith, ap length v.all, rest)

as_many : (value : List ℕ → Option ℕ) (first other : ℕ) (text vs : List ℕ) → values_of value first other text ≡ Ok vs
    → length vs ≡ part_count text
as_many value first other text vs is =
    as_many_from value first other (pieces 0x2C text) vs (unless (any_unknown value (pieces 0x2C text)) _ vs is)

two_each : (vs : List ℕ) → length (flat_map word_bytes vs) ≡ 2 * length vs
two_each [] = refl
two_each (v ∷ vs) = let rest = two_each vs in omega (arith, rest, length-append (word_bytes v) (flat_map word_bytes vs))

as_long : (place : ℕ) (vs : List ℕ) (o : Operand)
    → length (operand_bytes (operand_with place vs o)) ≡ length (operand_bytes o)
as_long place vs Inherent = refl
as_long place vs (Byte v) = refl
as_long place vs (Word v) = refl
as_long place vs (Address v) = refl
as_long place vs (Offset v) = refl
as_long place vs (ByteToAddress v w) = refl
as_long place vs (AddressToAddress v w) = refl
as_long place vs XToD = refl
as_long place vs YToD = refl
as_long place vs PostIncrementX = refl

size_is : (value : List ℕ → Option ℕ) (place : ℕ) (action : Action) (operand vs : List ℕ)
    → values_within value operand (limits_of action) ≡ Ok vs
    → length (bytes_with place action vs) ≡ size_of action operand
size_is value place Nothing operand vs is = refl
size_is value place Origin operand vs is = refl
size_is value place Equate operand vs is = refl
size_is value place Bytes operand vs is = rw length-map (as_many value 255 255 operand vs is)
size_is value place Words operand vs is = let count = as_many value 65535 65535 operand vs is in
    omega (arith, two_each vs, count)
size_is value place (Operate encoding) operand vs is =
    omega (
      arith,
      length-append (prebytes encoding.page) (encoding.opcode ∷ operand_bytes (operand_with place vs encoding.operand)),
      length-append (prebytes encoding.page) (encoding.opcode ∷ operand_bytes encoding.operand),
      as_long place vs encoding.operand,
    )

-- ---- a line of the second pass

pub record Gives (value : List ℕ → Option ℕ) (g t : Given) (line : List ℕ) : Type 0 where
  pub name : List ℕ
  pub action : Action
  pub operand : List ℕ
  pub says : Says line name action operand
  pub values : List ℕ
  pub values_are : values_within value operand (limits_of action) ≡ Ok values
  pub bytes : t.bytes ≡ g.bytes ++ placed g.place (bytes_with g.place action values)
  pub origin : action ≡ Origin → within 65535 (sum_of value operand) ≡ Ok t.place
  pub moves : action ≢ Origin → t.place ≡ g.place + length (bytes_with g.place action values)

given_same : (g t : Given) → ◌≡◌ {A = Result Given LineFault} (Ok g) (Ok t) → g ≡ t
given_same g t same = cc

moved_to_place : (g t : Given) (r : Result ℕ LineFault) → moved g r ≡ Ok t → (r ≡ Ok t.place) × (t.bytes ≡ g.bytes)
moved_to_place g t (Err f) is = absurd (cc)
moved_to_place g t (Ok place) is = let same = given_same _ t is in
    (ap (λ (x : Given). Ok x.place) same, sym (ap (λ (x : Given). x.bytes) same))

put_there : (g t : Given) (b c d : Bool) (bytes : List ℕ)
    → cond b (Err fault.Range) (cond c (Err fault.BranchFar) (cond d (Err fault.Overlap)
    (Ok (record { place = g.place + length bytes; bytes = g.bytes ++ placed g.place bytes })))) ≡ Ok t
    → (t.place ≡ g.place + length bytes) × (t.bytes ≡ g.bytes ++ placed g.place bytes)
put_there g t true c d bytes is = absurd (cc)
put_there g t false true d bytes is = absurd (cc)
put_there g t false false true bytes is = absurd (cc)
put_there g t false false false bytes is = let same = given_same _ t is in
    (sym (ap (λ (x : Given). x.place) same), sym (ap (λ (x : Given). x.bytes) same))

gives_values : (value : List ℕ → Option ℕ) (g t : Given) (line name : List ℕ) (action : Action) (operand : List ℕ)
    → Says line name action operand
    → action ≢ Origin
    → (r : Result (List ℕ) LineFault) → values_within value operand (limits_of action) ≡ r
    → put_values g action r ≡ Ok t → Gives value g t line
gives_values value g t line name action operand says other (Err f) values is = absurd (cc)
gives_values value g t line name action operand says other (Ok vs) values is =
    let there = put_there g t _ (branches_far g.place action vs) (overlaps g (bytes_with g.place action vs))
    (bytes_with g.place action vs) is in record {
      name = name;
      action = action;
      operand = operand;
      says = says;
      values = vs;
      values_are = values;
      bytes = there.1;
      origin = λ e. absurd (other e);
      moves = λ e. there.0;
    }

gives_plain : (value : List ℕ → Option ℕ) (g t : Given) (line name : List ℕ) (action : Action) (operand : List ℕ)
    → Says line name action operand
    → action ≢ Origin
    → given_with value g action operand ≡ Ok t → Gives value g t line
gives_plain value g t line name action operand says other is =
    gives_values value g t line name action operand says other (values_within value operand (limits_of action)) refl
    (sym (given_with-bytes value g action operand other) ∙ is)

gives_with : (value : List ℕ → Option ℕ) (g t : Given) (line name : List ℕ) (action : Action) (operand : List ℕ)
    → Says line name action operand
    → given_with value g action operand ≡ Ok t → Gives value g t line
gives_with value g t line name Origin operand says is =
    let there = moved_to_place g t (within 65535 (sum_of value operand)) is in record {
      name = name;
      action = Origin;
      operand = operand;
      says = says;
      values = [];
      values_are = refl;
      bytes = there.1 ∙ sym (append-nil g.bytes);
      origin = λ e. there.0;
      moves = λ other. absurd (other refl);
    }
gives_with value g t line name Nothing operand says is =
    gives_plain value g t line name Nothing operand says (λ e. (let bad = e in cc)) is
gives_with value g t line name Equate operand says is =
    gives_plain value g t line name Equate operand says (λ e. (let bad = e in cc)) is
gives_with value g t line name Bytes operand says is =
    gives_plain value g t line name Bytes operand says (λ e. (let bad = e in cc)) is
gives_with value g t line name Words operand says is =
    gives_plain value g t line name Words operand says (λ e. (let bad = e in cc)) is
gives_with value g t line name (Operate encoding) operand says is =
    gives_plain value g t line name (Operate encoding) operand says (λ e. (let bad = e in cc)) is

gives_as : (value : List ℕ → Option ℕ) (g t : Given) (line : List ℕ) (o : Option Statement) → statement_of line ≡ o
    → given value g o ≡ Ok t
    → Gives value g t line
gives_as value g t line None says is = absurd (cc)
gives_as value g t line (Some s) says is = gives_with value g t line s.name s.action s.operand (record { is = says }) is

gives : (value : List ℕ → Option ℕ) (g t : Given) (line : List ℕ) → given_by_line value g line ≡ Ok t
    → Gives value g t line
gives value g t line is = gives_as value g t line (statement_of line) refl is

-- ---- the bytes that stand in a list

data In (at v : ℕ) : List (ℕ × ℕ) → Type 0 where
  here : (bytes : List (ℕ × ℕ)) → In at v ((at, v) ∷ bytes)
  there : (b : ℕ × ℕ) (bytes : List (ℕ × ℕ)) → In at v bytes → In at v (b ∷ bytes)

in_front : (at v : ℕ) (xs ys : List (ℕ × ℕ)) → In at v xs → In at v (xs ++ ys)
in_front at v _ ys (here xs) = here (xs ++ ys)
in_front at v _ ys (there b xs i) = there b (xs ++ ys) (in_front at v xs ys i)

in_back : (at v : ℕ) (xs ys : List (ℕ × ℕ)) → In at v ys → In at v (xs ++ ys)
in_back at v [] ys i = i
in_back at v (x ∷ xs) ys i = there x (xs ++ ys) (in_back at v xs ys i)

in_placed : (place : ℕ) (bytes : List ℕ) (k : ℕ) → k < length bytes
    → In (place + k) (get_or bytes k 0) (placed place bytes)
in_placed place [] k lt = absurd (omega arith)
in_placed place (b ∷ bytes) zero lt =
    let first : place ≡ place + 0 = omega arith in
    subst (λ (p : ℕ). In p b (placed place (b ∷ bytes))) first (here (placed (place + 1) bytes))
in_placed place (b ∷ bytes) (suc k) lt =
    let next : place + 1 + k ≡ place + suc k = omega arith in
    subst (λ (p : ℕ). In p (get_or bytes k 0) (placed place (b ∷ bytes))) next
    (there (place, b) (placed (place + 1) bytes) (in_placed (place + 1) bytes k (omega arith)))

found : (at v : ℕ) (bytes : List (ℕ × ℕ)) → IsGivenOnce bytes → In at v bytes → byte_at bytes at ≡ Some v
found at v _ once (here bytes) = let same : is_same at at ≡ true = grind (arith, nat_tests) in rw same refl
found at v _ once (there b bytes i) = let rest = found at v bytes once.1 i in elim (cases_Bool (is_same at b.0)) [
  | inl same ↦ (let equal : at ≡ b.0 = grind (arith, nat_tests) in let none = ap (byte_at bytes) equal ∙ once.0 in
      absurd (cc))
  | inr other ↦ rw other rest
]

lines_keep_bytes : (value : List ℕ → Option ℕ) (lines : List (List ℕ)) (g t : Given) (n at v : ℕ)
    → through (given_by_line value) g n lines ≡ Ok t
    → In at v g.bytes → In at v t.bytes
lines_keep_bytes value [] g t n at v all i = subst (λ (x : Given). In at v x.bytes) (ended Given g t all) i
lines_keep_bytes value (line ∷ lines) g t n at v all i =
    let c = continues Given (given_by_line value) g t line lines n all in
    let l = gives value g c.m line c.first in
    lines_keep_bytes value lines c.m t (n + 1) at v c.rest
    (subst (In at v) (sym l.bytes) (in_front at v g.bytes (placed g.place (bytes_with g.place l.action l.values)) i))

-- ---- places of the second pass

places_given : (value : List ℕ → Option ℕ) (lines done : List (List ℕ)) (g t : Given) (n : ℕ)
    → IsPlaceBehind value done g.place
    → through (given_by_line value) g n lines ≡ Ok t
    → IsPlaceBehind value (done ++ lines) t.place
places_given value [] done g t n from all =
    subst (λ (l : List (List ℕ)). IsPlaceBehind value l t.place) (sym (append-nil done))
    (subst (λ (x : Given). IsPlaceBehind value done x.place) (ended Given g t all) from)
places_given value (line ∷ lines) done g t n from all =
    let c = continues Given (given_by_line value) g t line lines n all in
    let l = gives value g c.m line c.first in
    let next = place_behind_line value done g.place c.m.place line l.name l.operand from l.action l.says l.origin
    (λ other. l.moves other
    ∙ ap (λ (k : ℕ). g.place + k) (size_is value g.place l.action l.operand l.values l.values_are)) in
    subst (λ (x : List (List ℕ)). IsPlaceBehind value x t.place) (append_assoc done (line ∷ []) lines)
    (places_given value lines (done ++ line ∷ []) c.m t (n + 1) next c.rest)

-- what a source gives, where its names have these values
with_values : (text : List ℕ) (value : List ℕ → Option ℕ) (g : Given) → names_of text ≡ Ok value
    → with_names text (names_of text) ≡ Ok g
    → through (given_by_line value) empty 1 (lines_of text) ≡ Ok g
with_values text value g names is = sym (ap (with_names text) names) ∙ is

pub lines_stand : (source : List ℕ) (image : List (ℕ × ℕ)) → Assembles source image
    → (value : List ℕ → Option ℕ) → names_of (str_to_ascii_uppercase source) ≡ Ok value
    → (before after : List (List ℕ)) (line : List ℕ) → lines_of (str_to_ascii_uppercase source) ≡ before ++ line ∷ after
    → Stands value image before line
lines_stand source image a value names before after line lines =
    let step = given_by_line value in
    let all = with_values (str_to_ascii_uppercase source) value a.given names a.assembled in
    let s = splits Given step before (line ∷ after) empty a.given 1 (ap (through step empty 1) (sym lines) ∙ all) in
    let c = continues Given step s.m a.given line after s.number s.then in
    let l = gives value s.m c.m line c.first in
    let bytes = bytes_with s.m.place l.action l.values in
    let size : length bytes ≡ line_size line = size_is value s.m.place l.action l.operand l.values l.values_are
    ∙ sym (ap statement_size l.says.is) in
    record {
      place = s.m.place;
      is_place = places_given value before [] empty s.m 1 (without_origin [] tt) s.first;
      name = l.name;
      action = l.action;
      operand = l.operand;
      says = l.says;
      values = l.values;
      values_are = l.values_are;
      size = size;
      bytes = λ k lt.
          (let put = in_placed s.m.place bytes k (omega (arith, size, lt)) in
          let behind : In (s.m.place + k) (get_or bytes k 0) c.m.bytes =
          subst (In (s.m.place + k) (get_or bytes k 0)) (sym l.bytes)
          (in_back (s.m.place + k) (get_or bytes k 0) s.m.bytes (placed s.m.place bytes) put) in
          let last = lines_keep_bytes value after c.m a.given (s.number + 1) (s.m.place + k)
          (get_or bytes k 0) c.rest behind in
          a.holds.bytes (s.m.place + k) ∙ found (s.m.place + k) (get_or bytes k 0) a.given.bytes a.holds.once last);
    }
