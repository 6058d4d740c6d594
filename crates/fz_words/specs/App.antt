-- The command line, as clap sees it.
-- Beside the promise.
use Rattle.std.specs.Prelude.{◌≡◌, ◌≢◌, ◌⊎◌, ℕ, zero, suc, true, false, List, [], ◌∷◌, Some, map, codes}
use Rattle.clap.specs.Words.{App, Shape, Rule, Text, fault_of, new_rule}
use Rattle.clap.specs.{Simple.new_shape, declared.builder.action.ArgAction.TheVariants.Set}
use Rattle.fz_words.specs.Table.{Row, any_hyphen}

-- the argument that takes so many words
abbrev pub words_rule : ℕ → Rule
words_rule n = record (new_rule (codes "words")) {
  action = Some Set;
  range = Some (record { start_inclusive = n; end_inclusive = n });
  required = true;
}

-- a command that takes no words has no argument
abbrev pub rules_for : ℕ → List Rule
rules_for zero = []
rules_for (suc n) = words_rule (suc n) ∷ []

-- a command that takes so many words
abbrev pub leaf_app : Text → ℕ → App
leaf_app name n = record { top = record (new_shape name) { rules = rules_for n }; subs = [] }

abbrev pub sub_of : {T : Type 0} → Row T → Shape
sub_of r = (leaf_app r.word r.count).top

-- subcommands alone, one of them required, and no help
abbrev pub open_top : Shape
open_top = record (new_shape (codes "fuzz12")) {
  disable_help_flag = true;
  disable_help_subcommand = true;
  subcommand_required = true;
  is_leaf = false;
}

abbrev pub app_with : {T : Type 0} → List (Row T) → App
app_with rows = record { top = open_top; subs = map sub_of rows }

-- a word after the first begins with a hyphen, or clap does not take the words
abbrev pub IsRefused : {T : Type 0} → List (Row T) → List Text → Type 0
IsRefused rows words = (any_hyphen words ≡ true) ⊎ (fault_of (app_with rows) words ≢ [])
