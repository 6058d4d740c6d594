-- The law over all cuts, for each instruction.
use Rattle.std.proofs.Common.{ℕ, ◌-◌, Bool, false, List, [], ◌∷◌, length, refl, sym, subst}
use Rattle.cpu12_isa.specs.Agreement.{AllShown, WritesAgree}
use Rattle.cpu12_parts.specs.{declared.temps.Temps.Temps, State.State, Averages.wav_read, Averages.wav_whole}
use Rattle.cpu12_parts.specs.Parts.{Kind, wav}
use Rattle.cpu12_parts.specs.Owed.{Whole, WholeAverage, WholeRules, MakesWhole, OverCuts}
use Rattle.cpu12_parts.specs.Rules.{RuleOperands, rules_read, rules_written, rules_whole}
use Rattle.cpu12_parts.specs.Laws.{PartsTo, below, state_of, GoesOn, IsSteady, CutsChangeNothing, RulesAreWhole}
use Rattle.cpu12_parts.specs.Laws.{RulesOverCuts, WavIsWhole, WavOverCuts}
use Rattle.cpu12_parts.proofs.Cutting.{cuts_change_nothing}

none : ℕ → Bool
none at = false

none_hidden : (ats : List ℕ) → AllShown none ats
unfolding none
none_hidden [] = tt
none_hidden (at ∷ ats) = (refl, none_hidden ats)

pub rules_over_cuts : (k : Kind) (f : State → RuleOperands) → CutsChangeNothing k → RulesAreWhole k f
    → RulesOverCuts k f
rules_over_cuts k f cuts whole flags r t mem p ps cs ff fc z sp ready shown len =
    let o = f (state_of r t mem) in
    let run = whole flags r t mem p ps (length cs) (below 6 r.sp) none ff fc ready len shown
    (none_hidden (rules_written o p ps)) in
    cuts flags none (length cs) (state_of r t mem) (rules_whole o flags r t mem p ps) z sp run cs refl

pub wav_over_cuts : CutsChangeNothing wav → WavIsWhole → WavOverCuts
wav_over_cuts cuts whole flags r t mem cs ff fc z sp off shown len =
    let run = whole flags r t mem (below 6 r.sp) none ff fc off shown in
    cuts flags none (r.b - 1) (state_of r t mem) (wav_whole flags r mem) z sp run cs len

-- and for every instruction in parts
pub over_cuts : WritesAgree → (k : Kind) (kept : Temps → Type 0) (W : Whole) → GoesOn k kept → IsSteady k kept
    → MakesWhole k W → OverCuts k W
over_cuts agree k kept W goes steady makes flags d reads writes s t cs whole z sp shown len =
    let run = makes flags d reads writes s t whole (below 6 s.regs.sp) none shown (none_hidden writes) in
    cuts_change_nothing agree k kept goes steady flags none d s t z sp run cs len

-- parts over rules, and WAV's, make the whole instruction
pub rules_make : (k : Kind) (f : State → RuleOperands) → RulesAreWhole k f → MakesWhole k (WholeRules f)
rules_make k f whole flags d reads writes s t w unread unwritten hr hw =
    let shown_r : AllShown unread (rules_read (f s) s.regs w.rule w.rules) =
    subst (λ (ats : List ℕ). AllShown unread ats) w.reads_are hr in
    let shown_w : AllShown unwritten (rules_written (f s) w.rule w.rules) =
    subst (λ (ats : List ℕ). AllShown unwritten ats) w.writes_are hw in
    subst (λ (u : State). PartsTo k flags unread unwritten d s u) (sym w.leads)
    (whole flags s.regs s.temps s.mem w.rule w.rules d unread unwritten w.flags_fit w.ccr_fits w.ready w.parts
    shown_r shown_w)

pub wav_makes : WavIsWhole → MakesWhole wav WholeAverage
wav_makes whole flags d reads writes s t w unread unwritten hr hw =
    let shown : AllShown unread (wav_read s.regs) = subst (λ (ats : List ℕ). AllShown unread ats) w.reads_are hr in
    subst (λ (u : State). PartsTo wav flags unread unwritten d s u) (sym w.leads)
    (subst (λ (k : ℕ). PartsTo wav flags unread unwritten k s (wav_whole flags s.regs s.mem)) (sym w.parts)
    (whole flags s.regs s.temps s.mem unread unwritten w.flags_fit w.ccr_fits w.off shown))
