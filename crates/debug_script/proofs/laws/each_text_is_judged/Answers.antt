use Rattle.std.proofs.Common.{◌≡◌, ◌⊎◌, inl, inr, ℕ, List, refl}
use Rattle.std.specs.Prelude.{Result, Ok, Err}
use Rattle.debug_script.specs.declared.{order.Order.Order, order.ScriptFault.ScriptFault}
use Rattle.debug_script.specs.declared.order.ScriptFault.TheVariants as fault
use Rattle.debug_script.specs.Scripts.{EachTextIsJudged, IsFirstFault, script_of}
use Rattle.debug_script.proofs.laws.each_text_is_judged.Goals as goal

judged : EachTextIsJudged
judged text = by_result (script_of text) refl
  where
    by_result : (r : Result (List Order) ℕ) → script_of text ≡ r
        → ((script : List Order) × (script_of text ≡ Ok script)) ⊎ ((f : ScriptFault) × IsFirstFault text f)
    by_result (Ok script) is = inl (script, is)
    by_result (Err n) is = inr (fault.Line n, is)

pub returns : goal.returns
returns c = judged
