-- Names: those that are gathered, maps by their letters, their numbers, and the sections that they have.
use Rattle.fcl_check.proofs.Words.{[], ◌++◌, ◌+◌, ◌<◌, ◌||◌, ◌∙◌, ◌∷◌, ◌≡◌, ◌≤◌, all_zipped_more, AllZip, ap}
use Rattle.fcl_check.proofs.Words.{append-nil, arith, at_letters, Bool, Bor, BTreeMap, bytes_eq-Decides, cases_Bool}
use Rattle.fcl_check.proofs.Words.{cond, cons_option, Declaration, Declared, DefuzzyLine, Direction, false}
use Rattle.fcl_check.proofs.Words.{filter_map, find, flat_map, FunctionBlock, FuzzyLine, get_or, Input, is_direction}
use Rattle.fcl_check.proofs.Words.{is_named, is_some_direction, length, letters, List, list_any, Name, names_of}
use Rattle.fcl_check.proofs.Words.{nat_tests, None, not, number_in, Option, option_and_then, option_map, option_or}
use Rattle.fcl_check.proofs.Words.{Output, Part, refl, sameb, section_of, Singleton, singleton_of, Some, suc, take}
use Rattle.fcl_check.proofs.Words.{Term, term_of, the_type, true, ℕ}
use Rattle.std.proofs.{lemmas.Cmp.nat_list_eq_equiv, lemmas.Map.Text.btree_map_updates_str, Common.nat_lt}
use Rattle.std.proofs.{Common.is_some, Common.if◌then◌else◌}
use Rattle.std.specs.{List.position, List.position_or_len, BTreeMap.UpdatesBy, Cmp.Lexicographic.slice_cmp}
use Rattle.std.specs.{Ordering.nat_cmp, Str.bytes_eq}
use Rattle.std.specs.Prelude.{map}
use Rattle.std.specs.List.{slice_get}
use Rattle.fcl_syntax.specs.declared.tree.DefuzzyLine.TheVariants as defuzzy
use Rattle.fcl_syntax.specs.declared.tree.FuzzyLine.TheVariants as fuzzy
use Rattle.fcl_check.proofs.Elements.{filter_map-next}

-- ---- The names that are gathered from declarations and lines.

-- the names that some declarations declare
abbrev pub names_declared : Direction → List Declaration → List Declared
names_declared side declarations =
    flat_map (λ (d : Declaration). map (λ (n : Name). (side, n)) (d.first ∷ d.more)) declarations

-- the names of the terms among some lines
abbrev pub names_of_terms : List FuzzyLine → List Name
names_of_terms lines = map (λ (t : Term). t.name) (filter_map term_of lines)

abbrev pub names_of_singletons : List DefuzzyLine → List Name
names_of_singletons lines = map (λ (t : Singleton). t.name) (filter_map singleton_of lines)

abbrev pub is_range : FuzzyLine → Bool
is_range (fuzzy.Term t) = false
is_range (fuzzy.Range r) = true

abbrev pub is_other : DefuzzyLine → Bool
is_other (defuzzy.Singleton s) = false
is_other _ = true

-- ---- Maps by letters, and numbers of names, as names are added.

pub no_value : {X : Type 0} (o : Option X) → is_some o ≡ false → o ≡ None
no_value None h = refl
no_value (Some x) h = cc

some_here : {X : Type 0} (b : Bool) (x : X) (o : Option X) → is_some (cond b (Some x) o) ≡ (b || is_some o)
some_here true x o = refl
some_here false x o = refl

pub found_any : {X : Type 0} (p : X → Bool) (xs : List X) → is_some (find p xs) ≡ list_any p xs
found_any p [] = refl
found_any p (x ∷ xs) = some_here (p x) x (find p xs) ∙ ap (λ b. p x || b) (found_any p xs)

pub letters_added : {X : Type 0} (m n : BTreeMap (Bor (List ℕ)) X) (text : List ℕ) (name : Name) (v : X)
    → at_letters m (letters text name) ≡ None
    → UpdatesBy (λ x y. slice_cmp nat_cmp x.now y.now) (λ k. slice_cmp nat_cmp (letters text name) k.now) m n (Some v)
    → (ls : List ℕ)
    → at_letters n ls ≡ option_or (at_letters m ls) (cond (is_named text ls name) (Some v) None)
letters_added m n text name v none updates ls =
    let whole = btree_map_updates_str (letters text name) m n (Some v) updates ls in
    let back : bytes_eq (letters text name) ls ≡ is_named text ls name =
    nat_list_eq_equiv.symm (letters text name) ls in
    grind (arith, whole, back, none, bytes_eq-Decides ls (letters text name), cases_Bool (is_named text ls name))

-- ---- numbers

at_head : (b : Bool) (n m : ℕ)
    → cond (nat_lt (cond (not b) (1 + n) 0) (suc m)) (Some (cond (not b) (1 + n) 0)) None ≡ cond b (Some 0)
    (option_map suc (cond (nat_lt n m) (Some n) None))
at_head true n m = grind (arith, nat_tests)
at_head false n m = grind (arith, nat_tests)

pub position-cons : {X : Type 0} (p : X → Bool) (x : X) (xs : List X)
    → position p (x ∷ xs) ≡ cond (p x) (Some 0) (option_map suc (position p xs))
position-cons p x xs = at_head (p x) (position_or_len p xs) (length xs)

past_head : (b c : Bool) (o : Option ℕ) (n : ℕ)
    → cond b (Some 0) (option_map suc (option_or o (cond c (Some n) None))) ≡ option_or
    (cond b (Some 0) (option_map suc o)) (cond c (Some (suc n)) None)
past_head true c o n = refl
past_head false c (Some k) n = refl
past_head false true None n = refl
past_head false false None n = refl

position_push : {X : Type 0} (p : X → Bool) (xs : List X) (y : X)
    → position p (xs ++ y ∷ []) ≡ option_or (position p xs) (cond (p y) (Some (length xs)) None)
position_push p [] y = position-cons p y []
position_push p (x ∷ xs) y =
    rw (position-cons p x (xs ++ y ∷ []), position_push p xs y, position-cons p x xs)
    (past_head (p x) (p y) (position p xs) (length xs))

one_more : (o : Option ℕ) (b : Bool) (n : ℕ)
    → option_map suc (option_or o (cond b (Some n) None)) ≡ option_or (option_map suc o) (cond b (Some (suc n)) None)
one_more (Some k) b n = refl
one_more None true n = refl
one_more None false n = refl

pub number_push : (text : List ℕ) (ns : List Name) (n : Name) (ls : List ℕ)
    → number_in text (ns ++ n ∷ []) ls ≡ option_or (number_in text ns ls)
    (cond (is_named text ls n) (Some (suc (length ns))) None)
number_push text ns n ls =
    rw (position_push (is_named text ls) ns n)
    (one_more (position (is_named text ls) ns) (is_named text ls n) (length ns))

pub is_some-map : {A B : Type 0} (f : A → B) (o : Option A) → is_some (option_map f o) ≡ is_some o
is_some-map f None = refl
is_some-map f (Some a) = refl

is_some-cons : (b : Bool) (o : Option ℕ) → is_some (cond b (Some 0) (option_map suc o)) ≡ (b || is_some o)
is_some-cons true o = refl
is_some-cons false o = is_some-map suc o

position_any : {X : Type 0} (p : X → Bool) (xs : List X) → is_some (position p xs) ≡ list_any p xs
position_any p [] = refl
position_any p (x ∷ xs) = rw (position-cons p x xs, is_some-cons (p x) (position p xs), position_any p xs) refl

pub number_any : (text : List ℕ) (ns : List Name) (ls : List ℕ)
    → is_some (number_in text ns ls) ≡ list_any (is_named text ls) ns
number_any text ns ls = is_some-map suc (position (is_named text ls) ns) ∙ position_any (is_named text ls) ns

-- ---- The number of a declared name, and what stands at it.

any_later : {X : Type 0} (test : X → Bool) (o : Option X) (xs : List X) → list_any test xs ≡ true
    → list_any test (cons_option o xs) ≡ true
any_later test None xs h = h
any_later test (Some x) xs h = elim (test x) as (λ b. (b || list_any test xs) ≡ true) [ true ↦ refl | false ↦ h ]

within : (k n m : ℕ) (test : Bool) → nat_lt n m ≡ test → option_map suc (cond test (Some n) None) ≡ Some k
    → (1 ≤ k) × (k ≤ m)
within k n m true less e =
    let same : suc n ≡ k = cc in
    let below : n < m = grind (arith, nat_tests) in
    (omega (arith, same), omega (arith, same, below))
within k n m false less e = absurd cc

pub number_within : (text : List ℕ) (names : List Name) (ls : List ℕ) (k : ℕ) → number_in text names ls ≡ Some k
    → (1 ≤ k) × (k ≤ length names)
number_within text names ls k e =
    let n = position_or_len (is_named text ls) names in
    within k n (length names) (nat_lt n (length names)) refl e

module _ (text ls : List ℕ) where
  -- a name that is declared first on a side is among the names of that side
  pub declared_any : (side : Direction) (ds : List Declared) → is_some_direction side
      (option_map (λ (d : Declared). d.0) (find (λ (d : Declared). is_named text ls d.1) ds)) ≡ true
      → list_any (is_named text ls) (names_of side ds) ≡ true
  declared_any side [] h = cc
  declared_any side (d ∷ ds) h =
      elim (is_named text ls d.1) as (λ b. is_named text ls d.1 ≡ b → is_some_direction side
      (option_map (λ (d : Declared). d.0) (cond b (Some d) (find (λ (d : Declared). is_named text ls d.1) ds))) ≡ true
      → list_any (is_named text ls)
      (cons_option (if is_direction side d.0 then Some d.1 else None) (names_of side ds)) ≡ true) [
        | true ↦ λ e k. rw (k, e) refl
        | false ↦ λ e k. any_later (is_named text ls) (if is_direction side d.0 then Some d.1 else None)
            (names_of side ds) (declared_any side ds k)
      ] refl h

  -- the first of some names with these letters, and what it is related to
  pub record IsNumbered {Y : Type 0} (R : Name → Y → Type 0) (names : List Name) (ys : List Y) : Type 0 where
    pub index : ℕ
    pub number : number_in text names ls ≡ Some (suc index)
    pub name : Name
    pub item : Y
    pub named : is_named text ls name ≡ true
    pub related : R name item
    pub here : slice_get ys index ≡ Some item

  pub numbered : {Y : Type 0} (R : Name → Y → Type 0) (names : List Name) (ys : List Y) → AllZip R names ys
      → list_any (is_named text ls) names ≡ true
      → IsNumbered R names ys
  numbered R [] [] all h = absurd cc
  numbered R [] (y ∷ ys) all h = absurd all
  numbered R (n ∷ names) [] all h = absurd all
  numbered R (n ∷ names) (y ∷ ys) all h =
      elim (is_named text ls n) as
      (λ b. is_named text ls n ≡ b → (b || list_any (is_named text ls) names) ≡ true
      → IsNumbered R (n ∷ names) (y ∷ ys)) [
        | true ↦ λ e k. record {
          index = 0;
          number = rw (position-cons (is_named text ls) n names, e) refl;
          name = n;
          item = y;
          named = e;
          related = all.0;
          here = refl;
        }
        | false ↦ λ e k.
            let rest = numbered R names ys all.1 k in
            record {
              index = suc rest.index;
              number = rw (position-cons (is_named text ls) n names, e) (ap (option_map suc) rest.number);
              name = rest.name;
              item = rest.item;
              named = rest.named;
              related = rest.related;
              here = rest.here;
            }
      ] refl h

-- ---- Sections by their names.

-- what the section of a name is, of one sort
pub section-at : {A : Type 0} (f : Part → Option A) (text : List ℕ) (b : FunctionBlock) (ls ms : List ℕ)
    (o : Option (Bor Part)) (p : Bor Part) → ls ≡ ms
    → option_map (λ (q : Bor Part). q.now) o ≡ section_of text b ls → o ≡ Some p
    → option_and_then f (section_of text b ms) ≡ f p.now
section-at f text b ls ms o p same found is = rw (← same, ← found, is) refl

-- the name of a variable, where it is declared so
abbrev pub named_as : Direction → Declared → Option Name
named_as direction d = if is_direction direction d.0 then Some d.1 else None

pub same-direction : (x side : Direction) → is_direction side x ≡ sameb the_type x side
same-direction Input Input = refl
same-direction Input Output = refl
same-direction Output Input = refl
same-direction Output Output = refl

module _ {Y : Type 0} (R : Name → Y → Type 0) (side : Direction) (declared read : List Declared) (i : ℕ) (d : Declared)
    (items : List Y) (same : read ≡ declared) (within : i < length declared) where
  -- one more that is declared so
  pub named-more : (y : Y) → sameb the_type (get_or read i d).0 side ≡ true
      → AllZip R (filter_map (named_as side) (take i declared)) items
      → R (get_or read i d).1 y → AllZip R (filter_map (named_as side) (take (i + 1) declared)) (items ++ y ∷ [])
  named-more y is all here =
      rw (filter_map-next (named_as side) declared read i d same within, same-direction (get_or read i d).0 side, is)
      (all_zipped_more R _ _ _ _ all here)

  -- one more that is not
  pub unnamed-more : sameb the_type (get_or read i d).0 side ≡ false
      → AllZip R (filter_map (named_as side) (take i declared)) items
      → AllZip R (filter_map (named_as side) (take (i + 1) declared)) items
  unnamed-more is all =
      rw (
        filter_map-next (named_as side) declared read i d same within,
        same-direction (get_or read i d).0 side,
        is,
        append-nil,
      ) all
