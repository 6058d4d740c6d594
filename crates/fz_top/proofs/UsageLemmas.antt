-- When the words are of no command.
use Rattle.std.proofs.Common.{◌≡◌, inl, inr, List, refl, sym, ◌∙◌, ap}
use Rattle.std.specs.Prelude.{Option, Some, None, option_and_then}
use Rattle.fz_words.specs.App.{IsRefused}
use Rattle.fz_top.specs.Commands.{name_in, table, command_in, command_named, IsUsage}
use Rattle.fz_top.specs.declared.{command.Name.Name}
use Rattle.fz_status.specs.Words.{Text}

module _ (words : List Text)
    (law : (name_in words ≡ None → IsRefused table words) × (IsRefused table words → name_in words ≡ None)) where
  named : (o : Option Name) → name_in words ≡ o → command_in words ≡ option_and_then (λ n. command_named n words) o
  named o is = ap (option_and_then (λ n. command_named n words)) is

  none_usage : command_in words ≡ None → IsUsage words
  none_usage none = go (name_in words) refl
    where
      go : (o : Option Name) → name_in words ≡ o → IsUsage words
      go None is = inl (law.0 is)
      go (Some n) is = inr (n, is, sym (named (Some n) is) ∙ none)

  usage_none : IsUsage words → command_in words ≡ None
  usage_none (inl refused) = named None (law.1 refused)
  usage_none (inr bad) = named (Some bad.0) bad.1 ∙ bad.2

  pub usage_law : (command_in words ≡ None → IsUsage words) × (IsUsage words → command_in words ≡ None)
  usage_law = (none_usage, usage_none)
