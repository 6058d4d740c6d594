use Rattle.std.proofs.Common.{◌∙◌}
use Rattle.std.proofs.lemmas.List.{take_rest}
use Rattle.fz_words.proofs.Tops.{any_hyphen-drop}
use Rattle.fz_words.proofs.any_after_first.Goals as goal

pub returns-in-len1-up : goal.returns-in-len1-up
returns-in-len1-up c = c.has_a_hyphen.ensures ∙ any_hyphen-drop c.args.words.now _ (take_rest c.args.words.now 1)
