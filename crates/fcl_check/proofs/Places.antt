-- The first of some places, and of the lines of a sort.
use Rattle.fcl_check.proofs.Words.{[], ◌++◌, ◌+◌, ◌<◌, ◌||◌, ◌∙◌, ◌∷◌, ◌≡◌, ◌≤◌, ap, append-nil, arith, AscendWithin}
use Rattle.fcl_check.proofs.Words.{at_drop_more, at_each, at_if, at_some, behind, Bool, cons_option, drop, each}
use Rattle.fcl_check.proofs.Words.{false, filter_map, first, flat_map, get_or, is_some, length, List, list_any}
use Rattle.fcl_check.proofs.Words.{LoadFault, map, None, offset_of, offsets, Option, option_map, option_or, or-false}
use Rattle.fcl_check.proofs.Words.{refl, repeated, slice_get, Some, subst, suc, Sym, sym, take, take_more, Token}
use Rattle.fcl_check.proofs.Words.{true, zero, ℕ}
use Rattle.std.proofs.{lemmas.List.take-append-drop, lemmas.List.drop-map, Common.◌≢◌, Common.append_assoc}
use Rattle.std.proofs.lemmas.{Option.slice_get-map, List.Concat.flat_map_single}
use Rattle.fcl_check.specs.declared.fault.LoadFault.TheVariants as load

pub first-append : {A : Type 0} (xs ys : List A) → first (xs ++ ys) ≡ option_or (first xs) (first ys)
first-append [] ys = refl
first-append (x ∷ xs) ys = refl

-- the first behind a front that has none
pub first-append-append : {A : Type 0} (xs ys zs : List A) → first xs ≡ None
    → first (xs ++ (ys ++ zs)) ≡ option_or (first ys) (first zs)
first-append-append xs ys zs none = rw (first-append xs (ys ++ zs), none) (first-append ys zs)

pub first-map : {A B : Type 0} (f : A → B) (xs : List A) → first (map f xs) ≡ option_map f (first xs)
first-map f [] = refl
first-map f (x ∷ xs) = refl

pub first-drop : {A : Type 0} (n : ℕ) (xs : List A) → first (drop n xs) ≡ slice_get xs n
first-drop zero [] = refl
first-drop zero (x ∷ xs) = refl
first-drop (suc n) [] = refl
first-drop (suc n) (x ∷ xs) = first-drop n xs

pub first-map-drop : {A B : Type 0} (f : A → B) (n : ℕ) (xs : List A)
    → first (map f (drop n xs)) ≡ option_map f (slice_get xs n)
first-map-drop f n xs = first-map f (drop n xs) ∙ ap (option_map f) (first-drop n xs)

-- under a name that an attribute can cite
pub ruleset firsts = (first-append)

pub map-cons_option : {Y Z : Type 0} (f : Y → Z) (o : Option Y) (ys : List Y)
    → map f (cons_option o ys) ≡ cons_option (option_map f o) (map f ys)
map-cons_option f None ys = refl
map-cons_option f (Some y) ys = refl

map-filter_map : {X Y Z : Type 0} (f : Y → Z) (h : X → Option Y) (xs : List X)
    → map f (filter_map h xs) ≡ filter_map (λ x. option_map f (h x)) xs
map-filter_map f h [] = refl
map-filter_map f h (x ∷ xs) = map-cons_option f (h x) (filter_map h xs)
    ∙ ap (cons_option (option_map f (h x))) (map-filter_map f h xs)

-- the first behind n of the lines of a sort
pub first-map-drop-filter_map : {X Y Z : Type 0} (f : Y → Z) (h : X → Option Y) (n : ℕ) (xs : List X)
    → first (map f (drop n (filter_map h xs))) ≡ slice_get (filter_map (λ x. option_map f (h x)) xs) n
first-map-drop-filter_map f h n xs =
    first-map-drop f n (filter_map h xs) ∙ sym (slice_get-map f (filter_map h xs) n)
    ∙ ap (λ zs. slice_get zs n) (map-filter_map f h xs)

-- a walk over the items, in which none before this one has a place
module _ {A B : Type 0} (f : A → List B) (xs : List A) (i : ℕ) (x : A) (r : Option B) (h : i < length xs)
    (is : x ≡ get_or xs i x) (here : r ≡ first (f x)) {whole : Option B}
    (before : first (flat_map f (drop i xs)) ≡ whole) where
  abbrev after : List B
  after = flat_map f (drop (i + 1) xs)

  first-behind : first (flat_map f (drop i xs)) ≡ option_or r (first after)
  first-behind = at_drop_more (λ ys. first (flat_map f ys)) xs i x h
      ∙ ap (λ y. first (flat_map f (y ∷ drop (i + 1) xs))) (sym is) ∙ first-append (f x) after
      ∙ ap (λ o. option_or o (first after)) (sym here)

  pub found_here : (y : B) → r ≡ Some y → Some y ≡ whole
  found_here y found = sym (ap (λ o. option_or o (first after)) found) ∙ sym first-behind ∙ before

  pub none_here : r ≡ None → first (flat_map f (drop (i + 1) xs)) ≡ whole
  none_here none = sym (ap (λ o. option_or o (first after)) none) ∙ sym first-behind ∙ before

flat_map-cons_option : {X : Type 0} (f : X → List ℕ) (o : Option X) (xs : List X)
    → flat_map f (cons_option o xs) ≡ at_some f o ++ flat_map f xs
flat_map-cons_option f None xs = refl
flat_map-cons_option f (Some x) xs = refl

pub flat_map-filter_map : {X Y : Type 0} (f : Y → List ℕ) (h : X → Option Y) (xs : List X)
    → flat_map f (filter_map h xs) ≡ flat_map (λ x. at_some f (h x)) xs
flat_map-filter_map f h [] = refl
flat_map-filter_map f h (x ∷ xs) = flat_map-cons_option f (h x) (filter_map h xs)
    ∙ ap (λ ys. at_some f (h x) ++ ys) (flat_map-filter_map f h xs)

found_first : {X Y : Type 0} (h : X → Option Y) (xs : List X) (rest : Bool) (o : Option Y)
    → rest ≡ is_some (first (filter_map h xs))
    → (is_some o || rest) ≡ is_some (first (cons_option o (filter_map h xs)))
found_first h xs rest None e = e
found_first h xs rest (Some y) e = refl

-- some item has one exactly where there is a first
pub any_found : {X Y : Type 0} (h : X → Option Y) (xs : List X)
    → list_any (λ x. is_some (h x)) xs ≡ is_some (first (filter_map h xs))
any_found h [] = refl
any_found h (x ∷ xs) = found_first h xs (list_any (λ x. is_some (h x)) xs) (h x) (any_found h xs)

-- ---- The first of the places at the items of a list, as it is walked from its front.

-- the items walked so far, the nearest first
abbrev pub walked : {A : Type 0} → List A → List A → List A
walked before [] = before
walked before (x ∷ xs) = walked (x ∷ before) xs

pub at_each-append : {A : Type 0} (f : List A → A → List ℕ) (before xs ys : List A)
    → at_each f before (xs ++ ys) ≡ at_each f before xs ++
    at_each f (walked before xs) ys
at_each-append f before [] ys = refl
at_each-append f before (x ∷ xs) ys =
    rw (at_each-append f (x ∷ before) xs ys) (sym (append_assoc (f before x) (at_each f (x ∷ before) xs) _))

first-at_each-append : {A : Type 0} (f : List A → A → List ℕ) (before xs ys : List A)
    → first (at_each f before (xs ++ ys)) ≡ option_or (first (at_each f before xs))
    (first (at_each f (walked before xs) ys))
first-at_each-append f before xs ys = ap first (at_each-append f before xs ys)
    ∙ first-append (at_each f before xs) (at_each f (walked before xs) ys)

-- what is found up to an item and at it, where nothing is found before it
module _ {A : Type 0} (f : List A → A → List ℕ) (xs : List A) (i : ℕ) (x : A)
    (more : take (i + 1) xs ≡ take i xs ++ x ∷ []) (none : first (at_each f [] (take i xs)) ≡ None) where
  first-at_each-take : first (at_each f [] (take (i + 1) xs)) ≡ first (f (walked [] (take i xs)) x)
  first-at_each-take =
      rw (more, first-at_each-append f [] (take i xs) (x ∷ []), none, append-nil (f (walked [] (take i xs)) x)) refl

  -- nothing at it
  pub first_at_more : first (f (walked [] (take i xs)) x) ≡ None → first (at_each f [] (take (i + 1) xs)) ≡ None
  first_at_more here = first-at_each-take ∙ here

  -- a place at it
  pub first_at_here : (n : ℕ) → first (f (walked [] (take i xs)) x) ≡ Some n → first (at_each f [] xs) ≡ Some n
  first_at_here n here =
      let front : first (at_each f [] (take (i + 1) xs)) ≡ Some n = first-at_each-take ∙ here in
      let whole : first (at_each f [] (take (i + 1) xs ++ drop (i + 1) xs)) ≡ Some n =
      rw (first-at_each-append f [] (take (i + 1) xs) (drop (i + 1) xs), front) refl in
      rw (take-append-drop (i + 1) xs) at whole

-- what `Answers` says of an error
abbrev pub Says : LoadFault → Option LoadFault → Type 0
Says e fault = e ≢ load.Memory → fault ≡ Some e

-- a place that one definition finds is the other's
pub same_place : (e : LoadFault) (p q : Option ℕ) → ((n : ℕ) → p ≡ Some n → q ≡ Some n)
    → Says e (option_map load.Twice p) → Says e (option_map load.Twice q)
same_place e None q f h = λ k. let none : ◌≡◌ {A = Option LoadFault} None (Some e) = h k in cc
same_place e (Some n) q f h = rw (f n refl) h

swap : (a b c : Bool) → (a || (b || c)) ≡ ((b || a) || c)
swap true true c = refl
swap true false c = refl
swap false true c = refl
swap false false c = refl

pub list_any-walked : {A : Type 0} (p : A → Bool) (before xs : List A)
    → list_any p (walked before xs) ≡ (list_any p xs || list_any p before)
list_any-walked p before [] = refl
list_any-walked p before (x ∷ xs) =
    rw (list_any-walked p (x ∷ before) xs) (swap (list_any p xs) (p x) (list_any p before))

pub list_any-all_walked : {A : Type 0} (p : A → Bool) (xs : List A) → list_any p (walked [] xs) ≡ list_any p xs
list_any-all_walked p xs = list_any-walked p [] xs ∙ or-false (list_any p xs)

pub no_place : (taken : Bool) (n : ℕ) → option_map load.Twice (first (at_if taken n)) ≡ None → taken ≡ false
no_place true n h = cc
no_place false n h = refl

-- one more item, which is this one
pub one_further : {A : Type 0} (xs : List A) (i : ℕ) (x y : A) → i < length xs → x ≡ get_or xs i x → x ≡ y
    → take (i + 1) xs ≡ take i xs ++ y ∷ []
one_further xs i x y h here is = take_more xs i x h ∙ ap (λ z. take i xs ++ z ∷ []) (sym here ∙ is)

-- the same of an item that is read
pub read_further : {A : Type 0} (xs read : List A) (i : ℕ) (x : A) → read ≡ xs → i < length read → x ≡ get_or read i x
    → take (i + 1) xs ≡ take i xs ++ x ∷ []
read_further xs read i x same h here = one_further xs i x x (rw same at h) (rw same at here) refl

-- the same of what is repeated
module _ {A : Type 0} (same : A → A → Bool) (at : A → ℕ) (xs : List A) (i : ℕ) (x : A)
    (more : take (i + 1) xs ≡ take i xs ++ x ∷ []) (none : first (repeated same at (take i xs)) ≡ None) where
  pub repeated_here : list_any (same x) (take i xs) ≡ true → first (repeated same at xs) ≡ Some (at x)
  repeated_here found =
      first_at_here _ xs i x more none (at x) (rw (list_any-all_walked (same x) (take i xs), found) refl)

  pub repeated_more : list_any (same x) (take i xs) ≡ false → first (repeated same at (take (i + 1) xs)) ≡ None
  repeated_more found = first_at_more _ xs i x more none (rw (list_any-all_walked (same x) (take i xs), found) refl)

  -- where a place is found at an item, and what is known where none is
  pub place_here : (taken : Bool) (e : LoadFault) → taken ≡ list_any (same x) (take i xs)
      → Says e (option_map load.Twice (first (at_if taken (at x))))
      → Says e (option_map load.Twice (first (repeated same at xs)))
  place_here true e is found = rw (repeated_here (sym is)) found
  place_here false e is found = λ k. let nothing : ◌≡◌ {A = Option LoadFault} None (Some e) = found k in cc

  pub passed_by : (taken : Bool) → taken ≡ list_any (same x) (take i xs)
      → option_map load.Twice (first (at_if taken (at x))) ≡ None
      → first (repeated same at (take (i + 1) xs)) ≡ None
  passed_by taken is nothing = repeated_more (sym is ∙ no_place taken (at x) nothing)

-- ---- Places that stand in a text of the grammar, each at a token of its own and in the tokens' order.

pub data StandIn : List ℕ → List Sym → Type 0 where
  none : StandIn [] []
  passed : {s : Sym} {ns : List ℕ} {text : List Sym} → StandIn ns text → StandIn ns (s ∷ text)
  taken : {s : Sym} {n : ℕ} {ns : List ℕ} {text : List Sym} → offset_of s.token ≡ Some n → StandIn ns text
      → StandIn (n ∷ ns) (s ∷ text)

AscendWithin-lower : (low from end : ℕ) (ns : List ℕ) → low ≤ from → AscendWithin from end ns → AscendWithin low end ns
AscendWithin-lower low from end [] h up = tt
AscendWithin-lower low from end (n ∷ ns) h up = (omega (arith, h, up.0), up.1)

AscendWithin-rest : (low end : ℕ) (o : Option ℕ) (ns : List ℕ) → AscendWithin low end (cons_option o ns)
    → AscendWithin low end ns
AscendWithin-rest low end None ns up = up
AscendWithin-rest low end (Some n) ns up = AscendWithin-lower low (suc n) end ns (omega (arith, up.0)) up.1.1

-- they ascend where the offsets of the text do
pub AscendWithin-places : {ns : List ℕ} {text : List Sym} (low end : ℕ) → StandIn ns text
    → AscendWithin low end (offsets text) → AscendWithin low end ns
AscendWithin-places low end none up = tt
AscendWithin-places low end (passed {s} {ns} {text} d) up =
    AscendWithin-places low end d (AscendWithin-rest low end (offset_of s.token) (offsets text) up)
AscendWithin-places low end (taken {s} {n} at d) up =
    let here = rw at at up in
    (here.0, (here.1.0, AscendWithin-places (suc n) end d here.1.1))

-- ---- in two texts, one behind the other

pub no_places : (text : List Sym) → StandIn [] text
no_places [] = none
no_places (s ∷ text) = passed (no_places text)

pub join : {ms ns : List ℕ} {front back : List Sym} → StandIn ms front → StandIn ns back
    → StandIn (ms ++ ns) (front ++ back)
join none e = e
join (passed d) e = passed (join d e)
join (taken at d) e = taken at (join d e)

pub in_front : {ns : List ℕ} {front : List Sym} (back : List Sym) → StandIn ns front → StandIn ns (front ++ back)
in_front back none = no_places back
in_front back (passed d) = passed (in_front back d)
in_front back (taken at d) = taken at (in_front back d)

pub in_back : {ns : List ℕ} (front : List Sym) {back : List Sym} → StandIn ns back → StandIn ns (front ++ back)
in_back front e = join (no_places front) e

-- ---- some of the places

pub dropped : {ns : List ℕ} {text : List Sym} → StandIn ns text → (n : ℕ) → StandIn (drop n ns) text
dropped none zero = none
dropped none (suc n) = none
dropped (passed d) n = passed (dropped d n)
dropped (taken at d) zero = taken at d
dropped (taken at d) (suc n) = passed (dropped d n)

pub dropped_items : {X : Type 0} {text : List Sym} (f : X → ℕ) (n : ℕ) (xs : List X)
    → StandIn (flat_map (λ x. f x ∷ []) xs) text
    → StandIn (map f (drop n xs)) text
dropped_items {X} {text} f n xs d =
    subst (λ (ns : List ℕ). StandIn ns text) (ap (drop n) (flat_map_single f xs) ∙ drop-map f n xs) (dropped d n)

pub at_head : {s : Sym} {text : List Sym} (test : Bool) (n : ℕ) → offset_of s.token ≡ Some n
    → StandIn (at_if test n) (s ∷ text)
at_head {s} {text} true n at = taken at (no_places text)
at_head {s} {text} false n at = passed (no_places text)

pub at_head_and : {s : Sym} {ns : List ℕ} {text : List Sym} (test : Bool) (n : ℕ) → offset_of s.token ≡ Some n
    → StandIn ns text
    → StandIn (at_if test n ++ ns) (s ∷ text)
at_head_and true n at d = taken at d
at_head_and false n at d = passed d

pub in_some : {X : Type 0} {text : List Sym} (f : X → List ℕ) (o : Option X) → ((x : X) → StandIn (f x) text)
    → StandIn (at_some f o) text
in_some {X} {text} f None d = no_places text
in_some f (Some x) d = d x

-- ---- in the texts of some items

module _ {X Y : Type 0} (text : Y → List Sym) (view : X → Y) where
  pub in_each : (f : X → List ℕ) (xs : List X) → ((x : X) → StandIn (f x) (text (view x)))
      → StandIn (flat_map f xs) (each text (map view xs))
  in_each f [] d = none
  in_each f (x ∷ xs) d = join (d x) (in_each f xs d)

  pub in_each_after : (f : List X → X → List ℕ) (before xs : List X)
      → ((before : List X) (x : X) → StandIn (f before x) (text (view x)))
      → StandIn (at_each f before xs) (each text (map view xs))
  in_each_after f before [] d = none
  in_each_after f before (x ∷ xs) d = join (d before x) (in_each_after f (x ∷ before) xs d)

  -- the same where each item holds some of those that are looked at
  module _ {Z : Type 0} (f : List Z → Z → List ℕ) (g : X → List Z) where
    pub in_each_of_each : (before : List Z) (xs : List X)
        → ((before : List Z) (x : X) → StandIn (at_each f before (g x)) (text (view x)))
        → StandIn (at_each f before (flat_map g xs)) (each text (map view xs))
    in_each_of_each before [] d = none
    in_each_of_each before (x ∷ xs) d =
        rw (at_each-append f before (g x) (flat_map g xs))
        (join (d before x) (in_each_of_each (walked before (g x)) xs d))

  -- the items that are the same as one before them
  pub in_repeated : (same : X → X → Bool) (at : X → ℕ) (xs : List X)
      → ((test : Bool) (x : X) → StandIn (at_if test (at x)) (text (view x)))
      → StandIn (repeated same at xs) (each text (map view xs))
  in_repeated same at xs d = in_each_after _ [] xs (λ before x. d (list_any (same x) before) x)

  -- the items of one sort, and the first of them
  module _ {Z : Type 0} (h : X → Option Z) (f : Z → List ℕ) where
    kept_more : (x : X) (xs : List X) (o : Option Z) → StandIn (at_some f o) (text (view x))
        → StandIn (flat_map f (filter_map h xs)) (each text (map view xs))
        → StandIn (flat_map f (cons_option o (filter_map h xs))) (each text (map view (x ∷ xs)))
    kept_more x xs None here rest = in_back (text (view x)) rest
    kept_more x xs (Some z) here rest = join here rest

    pub in_each_kept : (xs : List X) → ((x : X) → StandIn (at_some f (h x)) (text (view x)))
        → StandIn (flat_map f (filter_map h xs)) (each text (map view xs))
    in_each_kept [] d = none
    in_each_kept (x ∷ xs) d = kept_more x xs (h x) (d x) (in_each_kept xs d)

    first_more : (x : X) (xs : List X) (o : Option Z) → StandIn (at_some f o) (text (view x))
        → StandIn (at_some f (first (filter_map h xs))) (each text (map view xs))
        → StandIn (at_some f (first (cons_option o (filter_map h xs)))) (each text (map view (x ∷ xs)))
    first_more x xs None here rest = in_back (text (view x)) rest
    first_more x xs (Some z) here rest = in_front (each text (map view xs)) here

    pub in_first_kept : (xs : List X) → ((x : X) → StandIn (at_some f (h x)) (text (view x)))
        → StandIn (at_some f (first (filter_map h xs))) (each text (map view xs))
    in_first_kept [] d = none
    in_first_kept (x ∷ xs) d = first_more x xs (h x) (d x) (in_first_kept xs d)

pub in_row : {X : Type 0} (sep : Token) (text : X → List Sym) (f : X → List ℕ) (xs : List X)
    → ((x : X) → StandIn (f x) (text x))
    → StandIn (flat_map f xs) (behind sep text xs)
in_row sep text f [] d = none
in_row sep text f (x ∷ xs) d = passed (join (d x) (in_row sep text f xs d))
