-- What a run in a frame leaves.
use Rattle.std.proofs.Common.{◌≡◌, inl, inr, ℕ, max, List, [], ◌∷◌, get_or, set, refl, sym, ◌∙◌, subst}
use Rattle.std.proofs.Common.{get_or-set_other}
use Rattle.cpu12_isa.specs.{Agreement.WritesStay, Meaning.effect}
use Rattle.cpu12_parts.specs.{State.State, Touching.Each, Touching.IsInOne, Touching.IsInstructionOver}
use Rattle.cpu12_parts.specs.declared.temps.Temps.TheVariants.{Free}
use Rattle.cpu12_parts.specs.Rules.{Rule, RuleOperands, rev_operands, revw_operands, named, raised, rules_target, strength, concluded}
use Rattle.cpu12_parts.specs.Rules.{all_concluded}
use Rattle.eval_code.specs.Frames.{IsLeft, FramesLeave}
use Rattle.eval_code.proofs.steps.Addresses.{each_of_both, not_written}

raised_leaves : (W : ℕ → Type 0) (f : RuleOperands) (at t : ℕ) (mem es : List ℕ) → (W at → ⊥) → Each W (named f es)
    → get_or (raised f t mem es) at 0 ≡ get_or mem at 0
raised_leaves W f at t mem [] out e = refl
raised_leaves W f at t mem (x ∷ es) out e =
    let v = max (get_or mem (f.place x) 0) t in
    raised_leaves W f at t (set mem (f.place x) v) es out e.1
    ∙ get_or-set_other mem (f.place x) at v 0 (λ q. out (subst W (sym q) e.0))

rules_leave : (W : ℕ → Type 0) (f : RuleOperands) (at : ℕ) (mem : List ℕ) (p : Rule) (ps : List Rule) → (W at → ⊥)
    → Each W (rules_target f (p ∷ ps)) → get_or (all_concluded f mem p ps) at 0 ≡ get_or mem at 0
rules_leave W f at mem p [] out e =
    raised_leaves W f at (strength f mem p) mem p.conclusions out
    (each_of_both W (named f p.conclusions) (rules_target f []) e).0
rules_leave W f at mem p (q ∷ qs) out e =
    let both = each_of_both W (named f p.conclusions) (rules_target f (q ∷ qs)) e in
    rules_leave W f at (concluded f mem p) q qs out both.1
    ∙ raised_leaves W f at (strength f mem p) mem p.conclusions out both.0

-- what an instruction leaves that writes at addresses of one kind
record Leaves (W : ℕ → Type 0) (s t : State) : Type 0 where
  bytes : (at : ℕ) → (W at → ⊥) → get_or t.mem at 0 ≡ get_or s.mem at 0
  free : s.temps ≡ Free → t.temps ≡ Free

leaves : WritesStay → (R W : ℕ → Type 0) (flags d : ℕ) (s t : State) → IsInstructionOver R W flags d s t → Leaves W s t
leaves stay R W flags d s t (inl (i, (k, e))) =
    let ws = (effect flags i s.regs s.mem).writes in
    subst (Leaves W s) (sym k.step.after) (record {
      bytes = λ at out. (stay ws s.mem).1 at (not_written W ws at out k.writes);
      free = λ e. e;
    })
leaves stay R W flags d s t (inr (inl (p, ps, k))) =
    subst (Leaves W s) (sym k.step.after) (record {
      bytes = λ at out. rules_leave W (rev_operands s.regs.y) at s.mem p ps out k.writes;
      free = λ e. e;
    })
leaves stay R W flags d s t (inr (inr (inl (p, ps, k)))) =
    subst (Leaves W s) (sym k.step.after) (record {
      bytes = λ at out. rules_leave W revw_operands at s.mem p ps out k.writes;
      free = λ e. e;
    })
leaves stay R W flags d s t (inr (inr (inr k))) =
    subst (Leaves W s) (sym k.step.after) (record { bytes = λ at out. refl; free = λ e. refl })

pub runs_leave : WritesStay → FramesLeave
runs_leave stay f flags [] s t e =
    subst (IsLeft f s) e (record { stack = refl; masks = refl; bytes = λ at out. refl; free = λ e. e })
runs_leave stay f flags (d ∷ ds) s t (u, (h, e)) =
    let one = leaves stay (IsInOne f.reads) (IsInOne f.writes) flags d s u h.instruction in
    let rest = runs_leave stay f flags ds u t e in
    record {
      stack = rest.stack ∙ h.stack;
      masks = rest.masks ∙ h.masks;
      bytes = λ at out. rest.bytes at out ∙ one.bytes at out;
      free = λ e. rest.free (one.free e);
    }
