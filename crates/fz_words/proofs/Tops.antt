-- Which words clap takes, whatever the commands of the table are.
use Rattle.std.proofs.Common.{◌≡◌, ◌≢◌, inl, inr, ℕ, zero, suc, Bool, true, false, cond, List, [], ◌∷◌, ◌++◌, length}
use Rattle.std.proofs.Common.{refl, sym, ◌∙◌, ap, ap₂, append_assoc, subst}
use Rattle.std.specs.Prelude.{Option, Some, None, codes, find, fold, is_some, drop, map, option_map, option_and_then}
use Rattle.std.specs.Prelude.{◌==◌, ◌||◌, String, string_bytes, Err, Ok}
use Rattle.std.specs.List.{list_all, list_any}
use Rattle.std.specs.declared.alloc.Global.{Global}
use Rattle.std.specs.Str.{bytes_eq}
use Rattle.std.proofs.lemmas.Bool.{cases_Bool, eqb-true}
use Rattle.std.proofs.lemmas.List.{append-nil, nil_from_length}
use Rattle.std.proofs.lemmas.Slice.Eq.{bytes_eq-Decides}
use Rattle.clap.specs.Walk.{Text, Rule, Names, Held, Walk, idle, is_empty, walk_from, walked, nothing_held, settled}
use Rattle.clap.specs.Walk.{finished, subcommand_met, answers_to}
use Rattle.clap.specs.Simple.{App, Shape, built, entered, is_ready_leaf, is_simple_leaf, label_of, names_of}
use Rattle.clap.specs.Faults.{fault_of, has_free_rules, is_simple_and_free, entered_fault, walk_fault, turn_fault}
use Rattle.clap.specs.Faults.{other_fault, settle_fault, defaults_fault, check_fault, stray_fault}
use Rattle.clap.specs.{Kinds.FailsBy, Kinds.HasKind, Kinds.IsAmong, Kinds.Kinds, Kinds.or_else, Values.kind_of}
use Rattle.clap.specs.declared.error.Error.{Error}
use Rattle.clap.specs.declared.error.kind.ErrorKind.TheVariants as kind
use Rattle.clap.specs.declared.parser.matches.ArgMatches.{ArgMatches}
use Rattle.clap.proofs.OnLiterals.{clap_on_literals}
use Rattle.fz_words.specs.Table.{Row, any_hyphen, command_in, has_hyphen, row_by_form, row_with, with_count}
use Rattle.fz_words.specs.App.{IsRefused, app_with, rules_for}
use Rattle.fz_words.proofs.Plain.{ArePlain, fault_first, turn_plain}
use Rattle.fz_words.proofs.Counts.{count_taken, leaf_fault, leaf_of, ready}

or_else-nil : (k : Kinds) → or_else k [] ≡ k
or_else-nil [] = refl
or_else-nil (k ∷ ks) = refl

-- ---- a walk that met a subcommand

abbrev met : Held → Text → List Text → Walk
met h name seen = record (walk_from h) { stopped = Some (name, seen) }

walk_met : (c : List Rule) (names : Names) (h : Held) (name : Text) (seen ws : List Text)
    → fold (walked c names) (met h name seen) ws ≡ met h name (seen ++ ws)
unfolding walked
walk_met c names h name seen [] = ap (met h name) (sym (append-nil seen))
walk_met c names h name seen (w ∷ ws) = walk_met c names h name (seen ++ w ∷ []) ws
    ∙ ap (met h name) (append_assoc seen (w ∷ []) ws)

faults_met : (s : Shape) (names : Names) (h : Held) (name : Text) (seen ws : List Text)
    → walk_fault s names (met h name seen) ws ≡ []
unfolding walk_fault walked
faults_met s names h name seen [] = refl
faults_met s names h name seen (w ∷ ws) = faults_met s names h name (seen ++ w ∷ []) ws

first_named : (c : List Rule) (names : Names) (h : Held) (name w : Text) → subcommand_met names idle w ≡ Some name
    → walked c names (walk_from h) w ≡ met h name []
unfolding walked
first_named c names h name w is = rw is refl

walk_named : (c : List Rule) (names : Names) (h : Held) (name w : Text) (ws : List Text)
    → subcommand_met names idle w ≡ Some name → fold (walked c names) (walk_from h) (w ∷ ws) ≡ met h name ws
walk_named c names h name w ws is = ap (λ (k : Walk). fold (walked c names) k ws) (first_named c names h name w is)
    ∙ walk_met c names h name [] ws

faults_named : (s : Shape) (names : Names) (h : Held) (name w : Text) (ws : List Text)
    → subcommand_met names idle w ≡ Some name → other_fault s (Some name) w h ≡ []
    → walk_fault s names (walk_from h) (w ∷ ws) ≡ []
unfolding walk_fault
faults_named s names h name w ws is none =
    let turn : turn_fault s names (walk_from h) w ≡ [] = rw (is, none) refl in
    ap (λ (t : Kinds). or_else t (walk_fault s names (walked s.rules names (walk_from h) w) ws)) turn
    ∙ ap (λ (k : Walk). walk_fault s names k ws) (first_named s.rules names h name w is)
    ∙ faults_met s names h name [] ws

-- ---- the table

-- a row's subcommand as clap builds it
abbrev leaf : {T : Type 0} → Row T → Shape
leaf r = leaf_of r.word r.count

module _ {T : Type 0} (rows : List (Row T)) where
  abbrev B : App
  B = built (app_with rows)

-- clap's look-up of a name is the table's
found_shape : {T : Type 0} (rows : List (Row T)) (w : Text)
    → find (λ s. answers_to w (label_of s)) (B rows).subs ≡ option_map leaf (row_with rows w)
found_shape [] w = refl
found_shape (r ∷ rows) w = elim (cases_Bool (bytes_eq r.word w)) [
  | inl same ↦ rw same refl
  | inr apart ↦ rw apart (found_shape rows w)
]

met_name : {T : Type 0} (rows : List (Row T)) (w : Text)
    → subcommand_met (names_of (B rows)) idle w ≡ option_map (λ r. r.word) (row_with rows w)
met_name [] w = refl
met_name (r ∷ rows) w = elim (cases_Bool (bytes_eq r.word w)) [
  | inl same ↦ rw same refl
  | inr apart ↦ rw apart (met_name rows w)
]

-- a row that is found has the name
found_word : {T : Type 0} (rows : List (Row T)) (w : Text) (r : Row T) → row_with rows w ≡ Some r → r.word ≡ w
found_word [] w r is = cc
found_word (x ∷ rows) w r is = elim (cases_Bool (bytes_eq x.word w)) [
  | inl same ↦
      let e : Some x ≡ Some r = sym (ap (λ (b : Bool). cond b (Some x) (row_with rows w)) same) ∙ is in
      let k : x ≡ r = cc in ap (λ (y : Row _). y.word) (sym k) ∙ (bytes_eq-Decides x.word w).0 same
  | inr apart ↦ found_word rows w r (sym (ap (λ (b : Bool). cond b (Some x) (row_with rows w)) apart) ∙ is)
]

abbrev whole : {T : Type 0} → List (Row T) → Walk → Kinds → Kinds
whole rows w faults =
    or_else faults (or_else (entered_fault (B rows) w.stopped)
    (or_else (settle_fault (B rows).top.rules (B rows).top.args_override_self w.held)
    (or_else (defaults_fault (settled (B rows).top.rules w.held).rows (B rows).top.rules)
    (check_fault (B rows).top (finished (B rows).top.rules w.held) (is_some (entered (B rows) w.stopped))))))

by_walk : {T : Type 0} (rows : List (Row T)) (p : Text) (ws : List Text)
    → fault_of (app_with rows) (p ∷ ws) ≡ whole rows
    (fold (walked (B rows).top.rules (names_of (B rows))) (walk_from nothing_held) ws)
    (walk_fault (B rows).top (names_of (B rows)) (walk_from nothing_held) ws)
by_walk rows p ws = refl

no_help : (s : Shape) (name w : Text) (h : Held) → s.disable_help_subcommand ≡ true → other_fault s (Some name) w h ≡ []
no_help s name w h off = elim (cases_Bool (bytes_eq name (codes "help"))) [
  | inl same ↦ rw (same, off) refl
  | inr apart ↦ rw apart refl
]

-- a name that the table has: what the words after it come to
by_row : {T : Type 0} (rows : List (Row T)) (p w : Text) (ws : List Text) (r : Row T) → row_with rows w ≡ Some r
    → fault_of (app_with rows) (p ∷ w ∷ ws) ≡ leaf_fault r.word r.count ws
unfolding clap_on_literals
by_row rows p w ws r is =
    let word = found_word rows w r is in
    let named : subcommand_met (names_of (B rows)) idle w ≡ Some r.word =
    met_name rows w ∙ ap (option_map (λ (x : Row _). x.word)) is in
    let again : row_with rows r.word ≡ Some r = ap (row_with rows) word ∙ is in
    let shape : find (λ s. answers_to r.word (label_of s)) (B rows).subs ≡ Some (leaf r) =
    found_shape rows r.word ∙ ap (option_map leaf) again in
    let free : other_fault (B rows).top (Some r.word) w nothing_held ≡ [] =
    no_help (B rows).top r.word w nothing_held refl in
    by_walk rows p (w ∷ ws)
    ∙ ap₂ (whole rows) (walk_named (B rows).top.rules (names_of (B rows)) nothing_held r.word w ws named)
    (faults_named (B rows).top (names_of (B rows)) nothing_held r.word w ws named free)
    ∙ rw shape (or_else-nil (leaf_fault r.word r.count ws))

-- no such name
stray : {T : Type 0} (rows : List (Row T)) (p w : Text) (ws : List Text) → has_hyphen w ≡ false → row_with rows w ≡ None
    → is_empty (fault_of (app_with rows) (p ∷ w ∷ ws)) ≡ false
stray rows p w ws plain none =
    let unnamed : subcommand_met (names_of (B rows)) idle w ≡ None =
    met_name rows w ∙ ap (option_map (λ (x : Row _). x.word)) none in
    let turn = turn_plain (B rows).top (names_of (B rows)) idle nothing_held 1 w plain unnamed refl in
    ap is_empty (by_walk rows p (w ∷ ws)
    ∙ ap (whole rows (fold (walked (B rows).top.rules (names_of (B rows))) (walk_from nothing_held) (w ∷ ws)))
    (fault_first (B rows).top (names_of (B rows)) (walk_from nothing_held) w ws (stray_fault (B rows).top) turn))

-- ---- the command that the words name

list_dash : (words rest : List (String Global)) → rest ≡ drop 1 words
    → list_any (λ w. has_hyphen (string_bytes w)) rest ≡ any_hyphen (map string_bytes words)
list_dash [] rest is = ap (list_any (λ w. has_hyphen (string_bytes w))) is
list_dash (w ∷ words) rest is = ap (list_any (λ w. has_hyphen (string_bytes w))) is ∙ over words
  where
    over : (ws : List (String Global))
        → list_any (λ w. has_hyphen (string_bytes w)) ws ≡ list_any has_hyphen (map string_bytes ws)
    over [] = refl
    over (w ∷ ws) = ap (λ (b : Bool). has_hyphen (string_bytes w) || b) (over ws)

pub any_hyphen-drop : (words rest : List (String Global)) → rest ≡ drop 1 words
    → list_any (λ w. has_hyphen (string_bytes w)) rest ≡ any_hyphen (map string_bytes words)
any_hyphen-drop = list_dash

plain_all : (ws : List Text) → list_any has_hyphen ws ≡ false → ArePlain ws
plain_all [] none = tt
plain_all (w ∷ ws) none = elim (cases_Bool (has_hyphen w)) [
  | inl hyphen ↦ let e : true ≡ false = sym (ap (λ (b : Bool). b || list_any has_hyphen ws) hyphen) ∙ none in
      absurd (cc)
  | inr plain ↦ (plain, plain_all ws (sym (ap (λ (b : Bool). b || list_any has_hyphen ws) plain) ∙ none))
]

-- ---- the table is one of which clap says all

all_simple : {T : Type 0} (rows : List (Row T)) → (list_all is_simple_leaf (app_with rows).subs ≡ true)
    × (list_all is_ready_leaf (B rows).subs ≡ true) × (list_all has_free_rules (B rows).subs ≡ true)
all_simple [] = (refl, refl, refl)
all_simple (r ∷ rows) =
    let rest = all_simple rows in let each = simple_rules r.count in
    (rw (each.0, rest.0) refl, rw (ready r.word r.count, rest.1) refl, rw (each.1 r.word, rest.2) refl)
  where
    simple_rules : (n : ℕ) → (list_all (λ a. a.is_simple) (rules_for n) ≡ true)
        × ((w : Text) → has_free_rules (leaf_of w n) ≡ true)
    simple_rules zero = (refl, λ w. refl)
    simple_rules (suc n) = (refl, λ w. refl)

simple : {T : Type 0} (rows : List (Row T)) → is_simple_and_free (app_with rows) ≡ true
simple rows = let all = all_simple rows in rw (all.0, all.1, all.2) refl

-- ---- clap takes words exactly where they are of a row

some_where : {T : Type 0} (b : Bool) (r : Row T) → is_some (cond b (Some r) None) ≡ b
some_where true r = refl
some_where false r = refl

fits : {T : Type 0} (rows : List (Row T)) (words : List Text) → any_hyphen words ≡ false
    → is_empty (fault_of (app_with rows) words) ≡ is_some (row_by_form rows words)
unfolding clap_on_literals
fits rows [] plain = refl
fits rows (p ∷ []) plain = refl
fits {T} rows (p ∷ w ∷ ws) plain = go (row_with rows w) refl
  where
    all : ArePlain (w ∷ ws)
    all = plain_all (w ∷ ws) plain

    form : (o : Option (Row T)) → row_with rows w ≡ o
        → is_some (option_and_then (with_count (length ws)) o) ≡ is_some (row_by_form rows (p ∷ w ∷ ws))
    form o is = ap (λ (x : Option (Row T)). is_some (option_and_then (with_count (length ws)) x)) (sym is)

    go : (o : Option (Row T)) → row_with rows w ≡ o
        → is_empty (fault_of (app_with rows) (p ∷ w ∷ ws)) ≡ is_some (row_by_form rows (p ∷ w ∷ ws))
    go None absent = stray rows p w ws all.0 absent ∙ form None absent
    go (Some r) found = ap is_empty (by_row rows p w ws r found) ∙ count_taken r.word r.count ws all.1
        ∙ sym (some_where (r.count == length ws) r) ∙ form (Some r) found

no_fault : (k : Kinds) → is_empty k ≡ true → k ≡ []
no_fault k empty = nil_from_length k (eqb-true (length k) 0 empty)

abbrev command_at : {T : Type 0} → Option (Row T) → Option T
command_at = option_map (λ r. r.command)

nowhere_some : {T : Type 0} (o : Option (Row T)) → command_at o ≡ None → is_some o ≡ false
nowhere_some None none = refl
nowhere_some (Some r) none = cc

none_nowhere : {T : Type 0} (o : Option (Row T)) → is_some o ≡ false → command_at o ≡ None
none_nowhere None none = refl
none_nowhere (Some r) none = cc

module _ {T : Type 0} (rows : List (Row T)) (words : List Text) where
  by_hyphen : (b : Bool) → any_hyphen words ≡ b → command_in rows words ≡ command_at (cond b None (row_by_form rows words))
  by_hyphen b is = ap (λ (x : Bool). command_at (cond x None (row_by_form rows words))) is

  plain_refused : any_hyphen words ≡ false → command_at (row_by_form rows words) ≡ None
      → fault_of (app_with rows) words ≢ []
  plain_refused plain none free =
      let bad : true ≡ false = sym (ap is_empty free) ∙ fits rows words plain
      ∙ nowhere_some (row_by_form rows words) none in cc

  plain_none : any_hyphen words ≡ false → fault_of (app_with rows) words ≢ [] → command_at (row_by_form rows words) ≡ None
  plain_none plain fault = elim (cases_Bool (is_empty (fault_of (app_with rows) words))) [
    | inl empty ↦ absurd (fault (no_fault (fault_of (app_with rows) words) empty))
    | inr full ↦ none_nowhere (row_by_form rows words) (sym (fits rows words plain) ∙ full)
  ]

  pub law : (command_in rows words ≡ None → IsRefused rows words) × (IsRefused rows words → command_in rows words ≡ None)
  law = elim (cases_Bool (any_hyphen words)) [
    | inl hyphen ↦ (λ none. inl hyphen, λ refused. by_hyphen true hyphen)
    | inr plain ↦ (
      λ none. inr (plain_refused plain (sym (by_hyphen false plain) ∙ none)),
      λ refused. elim refused [
        | inl hyphen ↦ by_hyphen true hyphen
        | inr fault ↦ by_hyphen false plain ∙ plain_none plain fault
      ],
    )
  ]

  pub never_none : any_hyphen words ≡ false → fault_of (app_with rows) words ≡ []
      → command_at (row_by_form rows words) ≡ None → ⊥
  never_none plain free none = plain_refused plain none free

-- ---- what clap answers

module _ {T : Type 0} (rows : List (Row T)) where
  pub refusal : (app : App) (words : List Text) (e : Error) → app ≡ app_with rows
      → (is_simple_and_free app ≡ true → FailsBy {T = ArgMatches} (fault_of app words) (Err e))
      → (kind_of e ≡ kind.OutOfMemory → ⊥) → fault_of (app_with rows) words ≢ []
  refusal app words e is fails no_memory none =
      let has : HasKind (fault_of app words) e = fails (ap is_simple_and_free is ∙ simple rows) in
      let empty : fault_of app words ≡ [] = ap (λ (a : App). fault_of a words) is ∙ none in
      elim has [
        | inl memory ↦ absurd (no_memory memory)
        | inr among ↦ absurd (subst (λ (k : Kinds). IsAmong (kind_of e) k) empty among)
      ]

  pub acceptance : (app : App) (words : List Text) (m : ArgMatches) → app ≡ app_with rows
      → (is_simple_and_free app ≡ true → FailsBy (fault_of app words) (Ok m)) → fault_of (app_with rows) words ≡ []
  acceptance app words m is fails = ap (λ (a : App). fault_of a words) (sym is)
      ∙ fails (ap is_simple_and_free is ∙ simple rows)
