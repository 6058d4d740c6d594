-- The names that a tree declares, of variables, terms and sections, as one more is read.
use Rattle.fcl_check.proofs.Words.{[], ◌&&◌, ◌++◌, ◌+◌, ◌<◌, ◌||◌, ◌∙◌, ◌∷◌, ◌≡◌, ◌≤◌, ap, append-nil, arith, at_each}
use Rattle.fcl_check.proofs.Words.{at_if, at_letters, Bool, Bor, BTreeMap, cond, cons_option, count_of, Declaration}
use Rattle.fcl_check.proofs.Words.{Declared, DefuzzyLine, Direction, false, filter, filter-append, filter_map}
use Rattle.fcl_check.proofs.Words.{filter_map-append, find, first, FunctionBlock, FuzzyLine, get_or, HoldsSections}
use Rattle.fcl_check.proofs.Words.{if◌then◌else◌, Input, is_direction, is_named, length, letters, line_at, List}
use Rattle.fcl_check.proofs.Words.{list_any, LoadFault, map, map-append, Name, names_of, None, number_in, Option}
use Rattle.fcl_check.proofs.Words.{option_map, option_or, or-false, or_zero, Output, output_line_at, Part, Range}
use Rattle.fcl_check.proofs.Words.{refl, repeated, repeated_lines, repeated_section, same_declared, same_section}
use Rattle.fcl_check.proofs.Words.{section_name, Singleton, singleton_of, Some, suc, sym, take, take_more, Term}
use Rattle.fcl_check.proofs.Words.{term_of, true, Variable, variable_in, ℕ}
use Rattle.std.proofs.{Common.is_some, Common.length-append, Common.IfSome, lemmas.List.flat_map_more}
use Rattle.std.proofs.{lemmas.List.Folds.find-append, Math.Bool.or-true}
use Rattle.std.specs.{BTreeMap.btree_map_len, Option.option_map_or}
use Rattle.fcl_check.specs.{ByLetters.names_in, Faults.same_kind, Faults.same_line, Faults.same_output_line}
use Rattle.fcl_check.specs.{declared.names.Counts.Counts, declared.names.Section.Section}
use Rattle.std.proofs.lemmas.List.Folds.{list_any-append}
use Rattle.fcl_syntax.specs.declared.tree.DefuzzyLine.TheVariants as defuzzy
use Rattle.fcl_syntax.specs.declared.tree.FuzzyLine.TheVariants as fuzzy
use Rattle.fcl_check.specs.declared.fault.LoadFault.TheVariants as load
use Rattle.fcl_check.proofs.Naming.{names_declared, found_any, no_value, number_any, number_push, is_some-map}
use Rattle.fcl_check.proofs.Naming.{names_of_terms, names_of_singletons, is_range, is_other}
use Rattle.fcl_check.proofs.Places.{Says, passed_by, place_here, repeated_here, repeated_more, first_at_here}
use Rattle.fcl_check.proofs.Places.{first_at_more, list_any-all_walked, same_place}

-- ---- Declared variables with their numbers, as one more is declared.

same_direction : (side : Direction) → is_direction side side ≡ true
same_direction Input = refl
same_direction Output = refl

names_cons : (side : Direction) (d : Declared) (ds : List Declared)
    → names_of side (d ∷ ds) ≡ cond (is_direction side d.0) (d.1 ∷ names_of side ds) (names_of side ds)
names_cons Input (Input, n) ds = refl
names_cons Input (Output, n) ds = refl
names_cons Output (Input, n) ds = refl
names_cons Output (Output, n) ds = refl

pub names_push : (side : Direction) (ds : List Declared) (d : Declared)
    → names_of side (ds ++ d ∷ []) ≡ names_of side ds ++
    cond (is_direction side d.0) (d.1 ∷ []) []
names_push side ds d =
    filter_map-append (λ (e : Declared). if is_direction side e.0 then Some e.1 else None) ds (d ∷ [])
    ∙ ap (λ ns. names_of side ds ++ ns) (names_cons side d [])

-- the count of a direction, one declared name on
count_more : (b : Bool) (ns : List Name) (n : Name)
    → length (ns ++ cond b (n ∷ []) []) ≡ cond b (length ns + 1) (length ns)
count_more true ns n = length-append ns (n ∷ [])
count_more false ns n = omega (arith, length-append {A = Name} ns [])

pub count_push : (side : Direction) (ds : List Declared) (d : Declared)
    → length (names_of side (ds ++ d ∷ [])) ≡ cond (is_direction side d.0)
    (length (names_of side ds) + 1) (length (names_of side ds))
count_push side ds d = rw (names_push side ds d) (count_more (is_direction side d.0) (names_of side ds) d.1)

fewer : (b : Bool) (n : Name) (ns : List Name) → length (cond b (n ∷ ns) ns) ≤ suc (length ns)
fewer true n ns = omega arith
fewer false n ns = omega arith

pub count_bound : (side : Direction) (ds : List Declared) → length (names_of side ds) ≤ length ds
count_bound side [] = omega arith
count_bound side (d ∷ ds) =
    rw (names_cons side d ds) (omega (arith, fewer (is_direction side d.0) d.1 (names_of side ds), count_bound side ds))

module _ (text ls : List ℕ) where
  -- the first variable of these letters, among declared ones
  abbrev first_named : List Declared → Option Declared
  first_named ds = find (λ (d : Declared). is_named text ls d.1) ds

  any_more : (b c : Bool) (n : Name) (ns : List Name) → is_named text ls n ≡ c
      → list_any (is_named text ls) (cond b (n ∷ ns) ns) ≡ ((b && c) || list_any (is_named text ls) ns)
  any_more true c n ns h = rw h refl
  any_more false c n ns h = refl

  any_cons : (side : Direction) (d : Declared) (ds : List Declared)
      → list_any (is_named text ls) (names_of side (d ∷ ds)) ≡
      ((is_direction side d.0 && is_named text ls d.1) || list_any (is_named text ls) (names_of side ds))
  any_cons side d ds =
      rw (names_cons side d ds) (any_more (is_direction side d.0) (is_named text ls d.1) d.1 (names_of side ds) refl)

  -- the first variable has a number, and where there is none no number is found
  numbered : (b : Bool) (d : Declared) (ds : List Declared) (e : Declared) → is_named text ls d.1 ≡ b
      → first_named (d ∷ ds) ≡ Some e
      → (first_named ds ≡ Some e → list_any (is_named text ls) (names_of e.0 ds) ≡ true)
      → list_any (is_named text ls) (names_of e.0 (d ∷ ds)) ≡ true
  numbered true d ds e h found rest =
      let same : d ≡ e = (let some : Some d ≡ Some e = rw h at found in cc) in
      rw (any_cons e.0 d ds, h, ap (λ (x : Declared). is_direction e.0 x.0) same, same_direction e.0) refl
  numbered false d ds e h found rest =
      rw (any_cons e.0 d ds, rest (rw h at found)) (or-true (is_direction e.0 d.0 && is_named text ls d.1))

  found_number : (ds : List Declared) (e : Declared) → first_named ds ≡ Some e
      → list_any (is_named text ls) (names_of e.0 ds) ≡ true
  found_number [] e found = cc
  found_number (d ∷ ds) e found = numbered (is_named text ls d.1) d ds e refl found (found_number ds e)

  neither : (a b : Bool) → b ≡ false → (a && b) ≡ false
  neither true b h = h
  neither false b h = refl

  absent : (b : Bool) (side : Direction) (d : Declared) (ds : List Declared) → is_named text ls d.1 ≡ b
      → first_named (d ∷ ds) ≡ None
      → (first_named ds ≡ None → list_any (is_named text ls) (names_of side ds) ≡ false)
      → list_any (is_named text ls) (names_of side (d ∷ ds)) ≡ false
  absent true side d ds h none rest = let some : ◌≡◌ {A = Option Declared} (Some d) None = rw h at none in cc
  absent false side d ds h none rest =
      rw (any_cons side d ds, rest (rw h at none), neither (is_direction side d.0) (is_named text ls d.1) h) refl

  no_number : (side : Direction) (ds : List Declared) → first_named ds ≡ None
      → list_any (is_named text ls) (names_of side ds) ≡ false
  no_number side [] none = refl
  no_number side (d ∷ ds) none = absent (is_named text ls d.1) side d ds refl none (no_number side ds)

  -- a number that was found stays
  kept : (o p : Option ℕ) → is_some o ≡ true → option_or o p ≡ o
  kept None p h = cc
  kept (Some n) p h = refl

  number_kept : (b : Bool) (ns : List Name) (n : Name) → list_any (is_named text ls) ns ≡ true
      → number_in text (ns ++ cond b (n ∷ []) []) ls ≡ number_in text ns ls
  number_kept true ns n h =
      number_push text ns n ls
      ∙ kept (number_in text ns ls) (cond (is_named text ls n) (Some (suc (length ns))) None)
      (number_any text ns ls ∙ h)
  number_kept false ns n h = ap (λ ms. number_in text ms ls) (append-nil ns)

  abbrev as_variable : Direction → Option ℕ → Variable
  as_variable side number = record { direction = side; number = or_zero number }

  abbrev numbered_in : List Declared → Option Declared → Option Variable
  numbered_in ds first =
      option_map (λ (side : Direction). as_variable side (number_in text (names_of side ds) ls))
      (option_map (λ (d : Declared). d.0) first)

  -- the number of a new name of new letters
  new_number : (ds : List Declared) (d : Declared) → is_named text ls d.1 ≡ true → first_named ds ≡ None
      → number_in text (names_of d.0 (ds ++ d ∷ [])) ls ≡ Some (length (names_of d.0 ds) + 1)
  new_number ds d named none =
      let nothing : number_in text (names_of d.0 ds) ls ≡ None =
      no_value (number_in text (names_of d.0 ds) ls) (number_any text (names_of d.0 ds) ls ∙ no_number d.0 ds none) in
      rw (names_push d.0 ds d, same_direction d.0, number_push text (names_of d.0 ds) d.1 ls, nothing, named)
      (ap (λ n. Some n) (omega arith))

  declared_step : (o : Option Declared) (b : Bool) (ds : List Declared) (d : Declared) → first_named ds ≡ o
      → is_named text ls d.1 ≡ b
      → numbered_in (ds ++ d ∷ []) (option_or o (cond b (Some d) None)) ≡ option_or (numbered_in ds o)
      (cond b (Some (record { direction = d.0; number = length (names_of d.0 ds) + 1 })) None)
  declared_step (Some e) b ds d h named =
      rw (names_push e.0 ds d, number_kept (is_direction e.0 d.0) (names_of e.0 ds) d.1 (found_number ds e h)) refl
  declared_step None true ds d h named = rw (new_number ds d named h) refl
  declared_step None false ds d h named = refl

  first_push : (ds : List Declared) (d : Declared)
      → first_named (ds ++ d ∷ []) ≡ option_or (first_named ds) (cond (is_named text ls d.1) (Some d) None)
  first_push ds d = find-append (λ (e : Declared). is_named text ls e.1) ds (d ∷ [])

  -- a variable that is declared behind others
  pub variable_push : (ds : List Declared) (d : Declared)
      → variable_in text (ds ++ d ∷ []) ls ≡ option_or (variable_in text ds ls)
      (cond (is_named text ls d.1) (Some (record { direction = d.0; number = length (names_of d.0 ds) + 1 })) None)
  variable_push ds d = ap (numbered_in (ds ++ d ∷ [])) (first_push ds d)
      ∙ declared_step (first_named ds) (is_named text ls d.1) ds d refl refl

  -- whether letters are those of a declared variable
  some_variable : (o : Option Declared) (ds : List Declared) → is_some (numbered_in ds o) ≡ is_some o
  some_variable None ds = refl
  some_variable (Some d) ds = refl

  pub variable_any : (ds : List Declared)
      → is_some (variable_in text ds ls) ≡ list_any (λ (d : Declared). is_named text ls d.1) ds
  variable_any ds = some_variable (first_named ds) ds ∙ found_any (λ (d : Declared). is_named text ls d.1) ds

-- the step of the loop over the declarations of a section
pub names_declared_more : (side : Direction) (declarations : List Declaration) (i : ℕ) (declaration : Declaration)
    (before old new : List Declared)
    → i < length declarations
    → declaration ≡ get_or declarations i declaration
    → old ≡ before ++ names_declared side (take i declarations)
    → new ≡ old ++ map (λ (n : Name). (side, n)) (declaration.first ∷ declaration.more)
    → new ≡ before ++ names_declared side (take (i + 1) declarations)
names_declared_more side declarations i declaration before old new h is so_far pushed =
    let names = λ (d : Declaration). map (λ (n : Name). (side, n)) (d.first ∷ d.more) in
    let more = flat_map_more names before (take i declarations) declaration in
    rw (take_more declarations i declaration h, ← is) (pushed ∙ ap (λ ds. ds ++ names declaration) so_far ∙ more)

module _ (text : List ℕ) (b : FunctionBlock) (ds : List Declared) (i : ℕ) (d : Declared) where
  taken : (m : BTreeMap (Bor (List ℕ)) Variable) → ((ls : List ℕ) → at_letters m ls ≡ variable_in text (take i ds) ls)
      → is_some (at_letters m (letters text (get_or ds i d).1)) ≡ list_any (same_declared text b (get_or ds i d))
      (take i ds)
  taken m holds = ap is_some (holds (letters text (get_or ds i d).1))
      ∙ variable_any text (letters text (get_or ds i d).1) (take i ds)

  -- the steps of the loop over the declared names
  pub variables_more : (m n : BTreeMap (Bor (List ℕ)) Variable) (counts : Counts) (k : ℕ) → i < length ds
      → ((ls : List ℕ) → at_letters m ls ≡ variable_in text (take i ds) ls)
      → ((side : Direction) → count_of side counts ≡ length (names_of side (take i ds)))
      → k ≡ count_of (get_or ds i d).0 counts + 1
      → ((ls : List ℕ) → at_letters n ls ≡ option_or (at_letters m ls) (cond (is_named text ls (get_or ds i d).1)
      (Some (record { direction = (get_or ds i d).0; number = k })) None))
      → (ls : List ℕ) → at_letters n ls ≡ variable_in text (take (i + 1) ds) ls
  variables_more m n counts k h holds counted number added ls =
      rw (
        take_more ds i d h,
        variable_push text ls (take i ds) (get_or ds i d),
        ← counted (get_or ds i d).0,
        ← number,
        ← holds ls,
      ) (added ls)

  pub counts_more : (counts next : Counts) → i < length ds
      → ((side : Direction) → count_of side counts ≡ length (names_of side (take i ds)))
      → ((side : Direction)
      → count_of side next ≡ cond (is_direction side (get_or ds i d).0) (count_of side counts + 1)
      (count_of side counts))
      → (side : Direction) → count_of side next ≡ length (names_of side (take (i + 1) ds))
  counts_more counts next h counted stepped side =
      rw (take_more ds i d h, count_push side (take i ds) (get_or ds i d), ← counted side) (stepped side)

  pub variables_once : (m : BTreeMap (Bor (List ℕ)) Variable) → i < length ds
      → ((ls : List ℕ) → at_letters m ls ≡ variable_in text (take i ds) ls)
      → first (repeated (same_declared text b) (λ (e : Declared). e.1.at) (take i ds)) ≡ None
      → option_map load.Twice
      (first (at_if (is_some (at_letters m (letters text (get_or ds i d).1))) (get_or ds i d).1.at)) ≡ None
      → first (repeated (same_declared text b) (λ (e : Declared). e.1.at) (take (i + 1) ds)) ≡ None
  variables_once m h holds once nothing =
      passed_by (same_declared text b) (λ (e : Declared). e.1.at) ds i (get_or ds i d) (take_more ds i d h) once _
      (taken m holds) nothing

  pub variables_twice : (m : BTreeMap (Bor (List ℕ)) Variable) (e : LoadFault) → i < length ds
      → ((ls : List ℕ) → at_letters m ls ≡ variable_in text (take i ds) ls)
      → first (repeated (same_declared text b) (λ (e : Declared). e.1.at) (take i ds)) ≡ None
      → Says e (option_map load.Twice
      (first (at_if (is_some (at_letters m (letters text (get_or ds i d).1))) (get_or ds i d).1.at)))
      → Says e (option_map load.Twice (first (repeated (same_declared text b) (λ (e : Declared). e.1.at) ds)))
  variables_twice m e h holds once found =
      place_here (same_declared text b) (λ (e : Declared). e.1.at) ds i (get_or ds i d) (take_more ds i d h) once _ e
      (taken m holds) found

-- ---- Terms with their numbers, and what a section has twice, as one more line is read.

-- ---- numbers

-- a map that has the numbers of some names
pub record Numbers (text : List ℕ) (ns : List Name) (m : BTreeMap (Bor (List ℕ)) ℕ) : Type 0 where
  pub numbers : (ls : List ℕ) → at_letters m ls ≡ number_in text ns ls
  pub count : btree_map_len m ≡ length ns

pub numbers_more : (text : List ℕ) (ns : List Name) (name : Name) (m n : BTreeMap (Bor (List ℕ)) ℕ) → Numbers text ns m
    → ((ls : List ℕ) → at_letters n ls ≡ option_or (at_letters m ls)
    (cond (is_named text ls name) (Some (btree_map_len m + 1)) None))
    → btree_map_len n ≡ btree_map_len m + 1 → Numbers text (ns ++ name ∷ []) n
numbers_more text ns name m n holds added grown =
    let number : suc (length ns) ≡ btree_map_len m + 1 = omega (arith, holds.count) in
    record {
      numbers = λ ls. rw (number_push text ns name ls, number, ← holds.numbers ls) (added ls);
      count = omega (arith, length-append ns (name ∷ []), holds.count);
    }

pub number_taken : (text : List ℕ) (ns : List Name) (name : Name) (m : BTreeMap (Bor (List ℕ)) ℕ) → Numbers text ns m
    → is_some (at_letters m (letters text name)) ≡ list_any (is_named text (letters text name)) ns
number_taken text ns name m holds = ap is_some (holds.numbers (letters text name))
    ∙ number_any text ns (letters text name)

-- ---- lines

module _ (text : List ℕ) (b : FunctionBlock) where
  pub same_terms : (t : Term) (l : FuzzyLine) → same_line text b (fuzzy.Term t) l
      ≡ option_map_or (λ (s : Term). is_named text (letters text t.name) s.name) (term_of l) false
  same_terms t (fuzzy.Term s) = refl
  same_terms t (fuzzy.Range r) = refl

  any_ranges : (q : Range) (lines : List FuzzyLine)
      → list_any (same_line text b (fuzzy.Range q)) lines ≡ list_any is_range lines
  any_ranges q [] = refl
  any_ranges q (fuzzy.Term s ∷ lines) = any_ranges q lines
  any_ranges q (fuzzy.Range r ∷ lines) = refl

  pub same_singletons : (t : Singleton) (l : DefuzzyLine) → same_output_line text b (defuzzy.Singleton t) l
      ≡ option_map_or (λ (s : Singleton). is_named text (letters text t.name) s.name) (singleton_of l) false
  same_singletons t (defuzzy.Singleton s) = refl
  same_singletons t _ = refl

  -- lines that are no terms are the same where they are of one kind
  same_other : (x y : DefuzzyLine) → is_other x ≡ true → same_output_line text b x y ≡ same_kind x y
  same_other (defuzzy.Singleton s) y h = cc
  same_other _ y h = refl

  differ : (x : DefuzzyLine) (t : Singleton) → same_kind x (defuzzy.Singleton t) ≡ false
  differ (defuzzy.Singleton s) t = refl
  differ _ t = refl

  any_of_kind : (x : DefuzzyLine) (lines : List DefuzzyLine)
      → list_any (same_kind x) lines ≡ list_any (same_kind x) (filter is_other lines)
  any_of_kind x [] = refl
  any_of_kind x (defuzzy.Singleton s ∷ lines) = rw (differ x s) (any_of_kind x lines)
  any_of_kind x (y ∷ lines) = ap (λ a. same_kind x y || a) (any_of_kind x lines)

  any_same : (x : DefuzzyLine) (lines : List DefuzzyLine) → is_other x ≡ true
      → list_any (same_output_line text b x) lines ≡ list_any (same_kind x) lines
  any_same x [] h = refl
  any_same x (y ∷ lines) h = rw (same_other x y h, any_same x lines h) refl

other_sort : (x : DefuzzyLine) → is_other x ≡ true → singleton_of x ≡ None
other_sort (defuzzy.Singleton s) h = cc
other_sort _ h = refl

pub is_no_singleton : (x : DefuzzyLine) → ((t : Singleton) → x ≡ defuzzy.Singleton t → ⊥) → is_other x ≡ true
is_no_singleton (defuzzy.Singleton s) h = absurd (h s refl)
is_no_singleton _ h = refl

-- a name is added to a map, with the next number
pub record IsAdded (text : List ℕ) (name : Name) (m n : BTreeMap (Bor (List ℕ)) ℕ) : Type 0 where
  pub fault : option_map load.Twice (first (at_if (is_some (at_letters m (letters text name))) name.at)) ≡ None
  pub added : (ls : List ℕ) → at_letters n ls ≡ option_or (at_letters m ls)
      (cond (is_named text ls name) (Some (btree_map_len m + 1)) None)
  pub len : btree_map_len n ≡ btree_map_len m + 1

-- ---- steps over the lines of a section

-- the lines with a name among those of a section, of an input or of an output
pub record NamedLines (text : List ℕ) (L T : Type 0) : Type 0 where
  pub of : T → L
  pub sort : L → Option T
  pub name : T → Name
  pub same : L → L → Bool
  pub place : L → ℕ
  pub sorted : (t : T) → sort (of t) ≡ Some t
  pub same_of : (t : T) (l : L)
      → same (of t) l ≡ option_map_or (λ (s : T). is_named text (letters text (name t)) (name s)) (sort l) false

abbrev pub term_lines : (text : List ℕ) → FunctionBlock → NamedLines text FuzzyLine Term
term_lines text b = record {
  of = λ t. fuzzy.Term t;
  sort = term_of;
  name = λ t. t.name;
  same = same_line text b;
  place = line_at;
  sorted = λ t. refl;
  same_of = same_terms text b;
}

abbrev pub singleton_lines : (text : List ℕ) → FunctionBlock → NamedLines text DefuzzyLine Singleton
singleton_lines text b = record {
  of = λ t. defuzzy.Singleton t;
  sort = singleton_of;
  name = λ t. t.name;
  same = same_output_line text b;
  place = output_line_at;
  sorted = λ t. refl;
  same_of = same_singletons text b;
}

one_line : {L : Type 0} (lines : List L) (i : ℕ) {x y : L} → take (i + 1) lines ≡ take i lines ++ x ∷ [] → x ≡ y
    → take (i + 1) lines ≡ take i lines ++ y ∷ []
one_line lines i more is = more ∙ ap (λ y. take i lines ++ y ∷ []) is

module _ {text : List ℕ} {L T : Type 0} (k : NamedLines text L T) where
  abbrev names : List L → List Name
  names lines = map k.name (filter_map k.sort lines)

  any_named : (t : T) (lines : List L)
      → list_any (k.same (k.of t)) lines ≡ list_any (is_named text (letters text (k.name t))) (names lines)
  any_named t [] = refl
  any_named t (l ∷ lines) =
      let named : Name → Bool = is_named text (letters text (k.name t)) in
      rw (k.same_of t l) (
      elim (k.sort l) as (λ o. (option_map_or (λ (s : T). named (k.name s)) o false
      || list_any (k.same (k.of t)) lines) ≡ list_any named (map k.name (cons_option o (filter_map k.sort lines)))) [
        | None ↦ any_named t lines
        | Some s ↦ ap (λ a. named (k.name s) || a) (any_named t lines)
      ])

  names_with : (lines : List L) (x : L)
      → names (lines ++ x ∷ []) ≡ names lines ++ map k.name (cons_option (k.sort x) [])
  names_with lines x = ap (map k.name) (filter_map-append k.sort lines (x ∷ []))
      ∙ map-append k.name (filter_map k.sort lines) (cons_option (k.sort x) [])

  names_without : (lines : List L) (x : L) → k.sort x ≡ None → names (lines ++ x ∷ []) ≡ names lines
  names_without lines x none = rw (names_with lines x, none) (append-nil (names lines))

  module _ (lines : List L) (i : ℕ) (x : L) (more : take (i + 1) lines ≡ take i lines ++ x ∷ [])
      (once : first (repeated k.same k.place (take i lines)) ≡ None) (t : T) (is : x ≡ k.of t)
      (m : BTreeMap (Bor (List ℕ)) ℕ) (holds : Numbers text (names (take i lines)) m) where
    abbrev fault : Option LoadFault
    fault =
        option_map load.Twice (first (at_if (is_some (at_letters m (letters text (k.name t)))) (k.place (k.of t))))

    named_taken : is_some (at_letters m (letters text (k.name t))) ≡ list_any (k.same (k.of t)) (take i lines)
    named_taken = number_taken text (names (take i lines)) (k.name t) m holds ∙ sym (any_named t (take i lines))

    pub named_twice : (e : LoadFault) → Says e fault
        → Says e (option_map load.Twice (first (repeated k.same k.place lines)))
    named_twice e found =
        place_here k.same k.place lines i (k.of t) (one_line lines i more is) once _ e named_taken found

    named_once : fault ≡ None → first (repeated k.same k.place (take (i + 1) lines)) ≡ None
    named_once nothing =
        passed_by k.same k.place lines i (k.of t) (one_line lines i more is) once _ named_taken nothing

    named_numbers : (n : BTreeMap (Bor (List ℕ)) ℕ) → ((ls : List ℕ) → at_letters n ls ≡ option_or (at_letters m ls)
        (cond (is_named text ls (k.name t)) (Some (btree_map_len m + 1)) None))
        → btree_map_len n ≡ btree_map_len m + 1 → Numbers text (names (take (i + 1) lines)) n
    named_numbers n added grown =
        rw (one_line lines i more is, names_with (take i lines) (k.of t), k.sorted t)
        (numbers_more text (names (take i lines)) (k.name t) m n holds added grown)

-- ---- of an input's section

-- what is known of the lines of an input's section, as far as they are read
abbrev pub KnowsTerms : List ℕ → FunctionBlock → List FuzzyLine → BTreeMap (Bor (List ℕ)) ℕ → Bool → Type 0
KnowsTerms text b lines m has_range = record {
  numbers : Numbers text (names_of_terms lines) m;
  range : has_range ≡ list_any is_range lines;
  once : first (repeated (same_line text b) line_at lines) ≡ None;
}

module _ (text : List ℕ) (b : FunctionBlock) (lines : List FuzzyLine) (i : ℕ) (x : FuzzyLine)
    (more : take (i + 1) lines ≡ take i lines ++ x ∷ []) (m : BTreeMap (Bor (List ℕ)) ℕ) (has_range : Bool)
    (known : KnowsTerms text b (take i lines) m has_range) where
  pub KnowsTerms-term : (t : Term) (n : BTreeMap (Bor (List ℕ)) ℕ) → x ≡ fuzzy.Term t → IsAdded text t.name m n
      → KnowsTerms text b (take (i + 1) lines) n has_range
  KnowsTerms-term t n is added = record {
    numbers = named_numbers (term_lines text b) lines i x more known.once t is m known.numbers n added.added added.len;
    range = rw (one_line lines i more is, list_any-append is_range (take i lines) (fuzzy.Term t ∷ []))
        (known.range ∙ sym (or-false (list_any is_range (take i lines))));
    once = named_once (term_lines text b) lines i x more known.once t is m known.numbers added.fault;
  }

  module _ (q : Range) (is : x ≡ fuzzy.Range q) where
    range_same : list_any (same_line text b (fuzzy.Range q)) (take i lines) ≡ has_range
    range_same = any_ranges text b q (take i lines) ∙ sym known.range

    pub range_twice : has_range ≡ true → first (repeated (same_line text b) line_at lines) ≡ Some q.at
    range_twice found = repeated_here (same_line text b) line_at lines i (fuzzy.Range q) (one_line lines i more is)
        known.once (range_same ∙ found)

    pub KnowsTerms-range : has_range ≡ false → KnowsTerms text b (take (i + 1) lines) m true
    KnowsTerms-range none =
        let more_ranges = one_line lines i more is in
        record {
          numbers = rw (more_ranges, names_without (term_lines text b) (take i lines) (fuzzy.Range q) refl)
              known.numbers;
          range = rw (more_ranges, list_any-append is_range (take i lines) (fuzzy.Range q ∷ []))
              (sym (or-true (list_any is_range (take i lines))));
          once = repeated_more (same_line text b) line_at lines i (fuzzy.Range q) more_ranges known.once
              (range_same ∙ none);
        }

-- ---- of an output's section

-- what is known of the lines of an output's section, as far as they are read
abbrev pub KnowsSingletons : List ℕ → FunctionBlock → List DefuzzyLine → BTreeMap (Bor (List ℕ)) ℕ → List DefuzzyLine
    → Type 0
KnowsSingletons text b lines m others = record {
  numbers : Numbers text (names_of_singletons lines) m;
  others : others ≡ filter is_other lines;
  once : first (repeated (same_output_line text b) output_line_at lines) ≡ None;
}

module _ (text : List ℕ) (b : FunctionBlock) (lines : List DefuzzyLine) (i : ℕ) (x : DefuzzyLine)
    (more : take (i + 1) lines ≡ take i lines ++ x ∷ []) (m : BTreeMap (Bor (List ℕ)) ℕ) (others : List DefuzzyLine)
    (known : KnowsSingletons text b (take i lines) m others) where
  pub KnowsSingletons-singleton : (t : Singleton) (n : BTreeMap (Bor (List ℕ)) ℕ) → x ≡ defuzzy.Singleton t
      → IsAdded text t.name m n → KnowsSingletons text b (take (i + 1) lines) n others
  KnowsSingletons-singleton t n is added = record {
    numbers =
        named_numbers (singleton_lines text b) lines i x more known.once t is m known.numbers n added.added added.len;
    others = rw (one_line lines i more is, filter-append is_other (take i lines) (defuzzy.Singleton t ∷ []))
        (known.others ∙ sym (append-nil (filter is_other (take i lines))));
    once = named_once (singleton_lines text b) lines i x more known.once t is m known.numbers added.fault;
  }

  module _ (other : is_other x ≡ true) where
    other_same : list_any (same_output_line text b x) (take i lines) ≡ list_any (same_kind x) others
    other_same = rw known.others (any_same text b x (take i lines) other ∙ any_of_kind text b x (take i lines))

    pub other_twice : list_any (same_kind x) others ≡ true
        → first (repeated (same_output_line text b) output_line_at lines) ≡ Some (output_line_at x)
    other_twice found =
        repeated_here (same_output_line text b) output_line_at lines i x more known.once (other_same ∙ found)

    pub KnowsSingletons-other : list_any (same_kind x) others ≡ false
        → KnowsSingletons text b (take (i + 1) lines) m (others ++ x ∷ [])
    KnowsSingletons-other none = record {
      numbers = rw (more, names_without (singleton_lines text b) (take i lines) x (other_sort x other)) known.numbers;
      others = rw (more, filter-append is_other (take i lines) (x ∷ []), other, known.others) refl;
      once = repeated_more (same_output_line text b) output_line_at lines i x more known.once (other_same ∙ none);
    }

-- ---- Sections by their letters, and what a tree has twice, as one more section is read.

map_or : {A B : Type 0} (f : A → B) (o : Option A) (p : Option B) (b : Bool) (a : A) → option_map f o ≡ p
    → option_map f (option_or o (cond b (Some a) None)) ≡ option_or p (cond b (Some (f a)) None)
map_or f None p true a h = rw (← h) refl
map_or f None p false a h = rw (← h) refl
map_or f (Some c) p b a h = rw (← h) refl

if_or : {A : Type 0} (P : A → Type 0) (o : Option A) (b : Bool) (a : A) → IfSome o P → P a
    → IfSome (option_or o (cond b (Some a) None)) P
if_or P None true a h k = k
if_or P None false a h k = h
if_or P (Some c) b a h k = h

nowhere : (o : Option ℕ) → option_map load.Twice o ≡ None → o ≡ None
nowhere None h = refl
nowhere (Some n) h = cc

module _ (text : List ℕ) (b : FunctionBlock) (parts : List Part) (i : ℕ) (p : Part)
    (more : take (i + 1) parts ≡ take i parts ++ p ∷ [])
    (m : BTreeMap (Bor (List ℕ)) Section) (holds : HoldsSections text (take i parts) m) (name : Name)
    (named : name ≡ section_name p) where
  section_taken : is_some (at_letters m (letters text name)) ≡ list_any (same_section text b p) (take i parts)
  section_taken =
      rw named (sym (is_some-map (λ (s : Section). s.part.now) (at_letters m (letters text (section_name p))))
      ∙ ap is_some (holds.parts (letters text (section_name p)))
      ∙ found_any (λ (q : Part). is_named text (letters text (section_name p)) (section_name q)) (take i parts))

  module _ (once : first (at_each (repeated_section text b) [] (take i parts)) ≡ None) where
    pub section_twice : is_some (at_letters m (letters text name)) ≡ true
        → first (at_each (repeated_section text b) [] parts) ≡ Some name.at
    section_twice found =
        first_at_here (repeated_section text b) parts i p more once name.at (rw (
          list_any-all_walked (same_section text b p) (take i parts),
          ← section_taken,
          found,
          named,
        ) refl)

    module _ (free : is_some (at_letters m (letters text name)) ≡ false) where
      pub line_twice : (e : LoadFault) → Says e (option_map load.Twice (first (repeated_lines text b p)))
          → Says e (option_map load.Twice (first (at_each (repeated_section text b) [] parts)))
      line_twice e found =
          same_place e (first (repeated_lines text b p)) _
          (λ n at. first_at_here (repeated_section text b) parts i p more once n
          (rw (list_any-all_walked (same_section text b p) (take i parts), ← section_taken, free) at)) found

      pub section_once : option_map load.Twice (first (repeated_lines text b p)) ≡ None
          → first (at_each (repeated_section text b) [] (take (i + 1) parts)) ≡ None
      section_once none =
          first_at_more (repeated_section text b) parts i p more once
          (rw (list_any-all_walked (same_section text b p) (take i parts), ← section_taken, free)
          (nowhere (first (repeated_lines text b p)) none))

  pub sections_more : (n : BTreeMap (Bor (List ℕ)) Section) (s : Section) → s.part.now ≡ p
      → ((ts : List ℕ) → at_letters s.terms ts ≡ number_in text (names_in p) ts)
      → ((ls : List ℕ) → at_letters n ls ≡ option_or (at_letters m ls) (cond (is_named text ls name) (Some s) None))
      → HoldsSections text (take (i + 1) parts) n
  sections_more n s is terms added = record {
    parts = λ ls. rw (
      more,
      find-append (λ (q : Part). is_named text ls (section_name q)) (take i parts) (p ∷ []),
      added ls,
      ← named,
      ← is,
    )
        (map_or (λ (s : Section). s.part.now) (at_letters m ls) _ (is_named text ls name) s (holds.parts ls));
    terms = λ ls. rw (added ls)
        (if_or (λ (s : Section). (ts : List ℕ) → at_letters s.terms ts ≡ number_in text (names_in s.part.now) ts)
        (at_letters m ls)
        (is_named text ls name) s (holds.terms ls) (λ ts. rw is (terms ts)));
  }
