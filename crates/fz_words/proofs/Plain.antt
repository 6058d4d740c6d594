-- What clap makes of a word that does not begin with a hyphen and names no subcommand.
use Rattle.std.proofs.Common.{◌≡◌, ℕ, false, List, [], ◌∷◌, refl, ◌∙◌, ap, ap₂}
use Rattle.std.specs.Prelude.{Option, None, ◌==◌, fold}
use Rattle.std.specs.Option.{option_map_or}
use Rattle.clap.specs.{Lexer.short_of, Simple.Shape, Kinds.Kinds, Kinds.or_else, declared.error.ErrorKind.ErrorKind}
use Rattle.clap.specs.Walk.{Text, Names, Held, Step, Rule, Waiting, value, Walk, walked, subcommand_met}
use Rattle.clap.specs.Walk.{to_positional, arg_by_index, after_step, plain_word, subcommand_or_other, settled}
use Rattle.clap.specs.Walk.{finished}
use Rattle.clap.specs.Faults.{settle_fault, defaults_fault, check_fault, turn_fault, walk_fault, other_fault}
use Rattle.clap.specs.Faults.{step_fault, positional_fault, stray_fault}
use Rattle.fz_words.specs.Table.{has_hyphen}

-- no word begins with a hyphen
abbrev pub ArePlain : List Text → Type 0
ArePlain [] = Unit {0}
ArePlain (w ∷ ws) = (has_hyphen w ≡ false) × ArePlain ws

short_none : (x : ℕ) (xs : Text) → (x == 45) ≡ false → short_of (x ∷ xs) ≡ None
short_none x xs plain = rw plain refl

other_met : (c : List Rule) (waiting : Waiting) (position : ℕ) (word : Text) (h : Held) → has_hyphen word ≡ false
    → plain_word c waiting word h ≡ (h, value) → subcommand_or_other c None waiting position word h ≡ (h, value)
other_met c waiting position [] h plain unread = unread
other_met c waiting position (x ∷ xs) h plain unread =
    let short : short_of (x ∷ xs) ≡ None = short_none x xs plain in rw (plain, short) unread

unfaulted : (s : Shape) (word : Text) (h : Held) → has_hyphen word ≡ false → other_fault s None word h ≡ []
unfaulted s [] h plain = refl
unfaulted s (x ∷ xs) h plain = let short : short_of (x ∷ xs) ≡ None = short_none x xs plain in rw (plain, short) refl

abbrev pub at : Waiting → Held → ℕ → Walk
at waiting h position = record {
  held = h;
  waiting = waiting;
  position = position;
  is_trailing = false;
  stopped = None;
}

-- what a word does at this place, where it is no flag
abbrev pub fault_at : Shape → Held → ℕ → Kinds
fault_at s h position =
    option_map_or (λ a. positional_fault s.rules s.args_override_self a h) (arg_by_index s.rules position) (stray_fault s)

-- what a level makes of its walk
abbrev pub ends : Shape → Walk → Kinds → Kinds
ends s w faults = or_else faults (or_else [] (or_else (settle_fault s.rules s.args_override_self w.held)
    (or_else (defaults_fault (settled s.rules w.held).rows s.rules) (check_fault s (finished s.rules w.held) false))))

abbrev pub level_from : Shape → Walk → List Text → Kinds
level_from s w ws = ends s (fold (walked s.rules []) w ws) (walk_fault s [] w ws)

pub fault_first : (s : Shape) (names : Names) (w : Walk) (word : Text) (rest : List Text) (k : Kinds)
    → turn_fault s names w word ≡ k
    → walk_fault s names w (word ∷ rest) ≡ or_else k (walk_fault s names (walked s.rules names w word) rest)
unfolding walk_fault
fault_first s names w word rest k turn =
    ap (λ (t : Kinds). or_else t (walk_fault s names (walked s.rules names w word) rest)) turn

-- nothing waits for a value of an option
module _ (s : Shape) (names : Names) (waiting : Waiting) (h : Held) (position : ℕ) (word : Text)
    (plain : has_hyphen word ≡ false) (unnamed : subcommand_met names waiting word ≡ None)
    (unread : plain_word s.rules waiting word h ≡ (h, value)) where
  abbrev turn : Option Text → Kinds
  turn o = or_else (other_fault s o word h)
      (step_fault s position (subcommand_or_other s.rules o waiting position word h).0
      (subcommand_or_other s.rules o waiting position word h).1)

  met : subcommand_or_other s.rules None waiting position word h ≡ (h, value)
  met = other_met s.rules waiting position word h plain unread

  pub turn_plain : turn_fault s names (at waiting h position) word ≡ fault_at s h position
  turn_plain = ap turn unnamed
      ∙ ap₂ (λ (k : Kinds) (m : Held × Step). or_else k (step_fault s position m.0 m.1)) (unfaulted s word h plain) met

  walked_plain : walked s.rules names (at waiting h position) word
      ≡ to_positional s.rules (arg_by_index s.rules position) word (at waiting h position) h
  unfolding walked
  walked_plain =
      ap (λ (o : Option Text). after_step s.rules word (at waiting h position)
      (subcommand_or_other s.rules o waiting position word h).0
      (subcommand_or_other s.rules o waiting position word h).1) unnamed
      ∙ ap (λ (m : Held × Step). after_step s.rules word (at waiting h position) m.0 m.1) met

-- the first word of a level without subcommands
module _ (s : Shape) (waiting : Waiting) (h : Held) (position : ℕ) (word : Text) (rest : List Text)
    (plain : has_hyphen word ≡ false) (unnamed : subcommand_met [] waiting word ≡ None)
    (unread : plain_word s.rules waiting word h ≡ (h, value)) where
  faults : (k : Kinds) → fault_at s h position ≡ k → walk_fault s [] (at waiting h position) (word ∷ rest)
      ≡ or_else k (walk_fault s [] (walked s.rules [] (at waiting h position) word) rest)
  faults k is = fault_first s [] (at waiting h position) word rest k
      (turn_plain s [] waiting h position word plain unnamed unread ∙ is)

  pub takes_one : (after : Walk) → fault_at s h position ≡ []
      → to_positional s.rules (arg_by_index s.rules position) word (at waiting h position) h ≡ after
      → level_from s (at waiting h position) (word ∷ rest) ≡ level_from s after rest
  takes_one after none step =
      ap (ends s (fold (walked s.rules []) (at waiting h position) (word ∷ rest))) (faults [] none)
      ∙ ap (λ (w : Walk). level_from s w rest) (walked_plain s [] waiting h position word plain unnamed unread ∙ step)

  pub refuses_one : (k : ErrorKind) (ks : Kinds) → fault_at s h position ≡ k ∷ ks
      → level_from s (at waiting h position) (word ∷ rest) ≡ k ∷ ks
  refuses_one k ks is =
      ap (ends s (fold (walked s.rules []) (at waiting h position) (word ∷ rest))) (faults (k ∷ ks) is)
