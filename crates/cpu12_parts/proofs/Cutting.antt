-- Parts cut at any boundaries come to the same end.
use Rattle.std.proofs.Common.{◌≡◌, ℕ, zero, suc, ◌^◌, ◌<◌, Bool, true, false, List, [], ◌∷◌, length, refl, ap, sym, ◌∙◌}
use Rattle.std.proofs.Common.{subst, arith, inl}
use Rattle.cpu12_isa.specs.{declared.instr.Regs.Regs, Act.outcome, Act.read_by, Act.write_all}
use Rattle.cpu12_isa.specs.Agreement.{Agree, AllShown, WritesAgree}
use Rattle.cpu12_isa.proofs.Algebra.{same_outcome, length_writes, agree_with, agree_self}
use Rattle.cpu12_parts.specs.{declared.temps.Temps.Temps, State.State, State.Outcome}
use Rattle.cpu12_parts.specs.Parts.{Kind, part_of, after_part, suspended, resumed, cut, cut_run, EndsWith}
use Rattle.cpu12_parts.specs.Laws.{PartsTo, below, IsLike, Any, GoesOn, KeepsNothing, IsSteady, CutsChangeNothing}

pub like_self : (s : State) → IsLike s s
like_self s = record { regs = refl; temps = refl; mem = agree_self (below 6 s.regs.sp) s.mem }

like_with : (s t u : State) → IsLike s t → IsLike t u → IsLike s u
like_with s t u a b = record {
  regs = a.regs ∙ b.regs;
  temps = a.temps ∙ b.temps;
  mem = agree_with (below 6 u.regs.sp) s.mem t.mem u.mem
      (subst (λ (r : Regs). Agree (below 6 r.sp) s.mem t.mem) b.regs a.mem) b.mem;
}

-- the outcomes of a part in like states
pub same_part : (k : Kind) (flags : ℕ) (s t : State) → IsLike s t
    → AllShown (below 6 t.regs.sp) (read_by (k.act flags t.regs t.temps) t.mem)
    → part_of k flags s ≡ part_of k flags t
same_part k flags s t l shown =
    ap (λ (r : Regs). outcome (k.act flags r s.temps) s.mem) l.regs
    ∙ ap (λ (u : Temps). outcome (k.act flags t.regs u) s.mem) l.temps
    ∙ same_outcome (below 6 t.regs.sp) s.mem t.mem l.mem (k.act flags t.regs t.temps) shown

like_part : WritesAgree → (k : Kind) (kept : Temps → Type 0) → IsSteady k kept → (flags : ℕ) (s t : State) → IsLike s t
    → AllShown (below 6 t.regs.sp) (read_by (k.act flags t.regs t.temps) t.mem)
    → IsLike (after_part k flags s) (after_part k flags t)
like_part agree k kept steady flags s t l shown =
    let e : part_of k flags s ≡ part_of k flags t = same_part k flags s t l shown in
    let ws : List (ℕ × ℕ) = (part_of k flags t).writes in
    let after : Agree (below 6 t.regs.sp) (write_all (part_of k flags t).writes s.mem)
    (write_all (part_of k flags t).writes t.mem) =
    agree ws s.mem t.mem (below 6 t.regs.sp) (below 6 t.regs.sp) l.mem (λ at h. inl h) in
    record {
      regs = ap (λ (o : Outcome). o.regs) e;
      temps = ap (λ (o : Outcome). o.temps) e;
      mem = subst (λ (sp : ℕ). Agree (below 6 sp) (after_part k flags s).mem (after_part k flags t).mem)
          (sym (steady.stack flags t))
          (subst (λ (o : Outcome). Agree (below 6 t.regs.sp) (write_all o.writes s.mem)
          (write_all (part_of k flags t).writes t.mem)) (sym e) after);
    }

like_cut : (k : Kind) (kept : Temps → Type 0) → GoesOn k kept → (c : Bool) (s t : State) → length s.mem ≡ 65536
    → s.regs.sp < 2 ^ 16 → kept s.temps → IsLike s t
    → IsLike (cut k c s) t
like_cut k kept goes false s t z f h l = l
like_cut k kept goes true s t z f h l = like_with (resumed k (suspended k s)) s t (goes s z f h) l

cuts : WritesAgree → (k : Kind) (kept : Temps → Type 0) → GoesOn k kept → IsSteady k kept
    → (flags : ℕ) (unwritten : ℕ → Bool) (sp d : ℕ) (w s t : State)
    → length s.mem ≡ 65536 → sp < 2 ^ 16 → s.regs.sp ≡ sp
    → IsLike w s → PartsTo k flags (below 6 sp) unwritten d s t → (cs : List Bool) → length cs ≡ d
    → EndsWith k flags cs w × IsLike (cut_run k flags cs w) t
cuts agree k kept goes steady flags g sp zero w s t z f e l p [] len =
    let shown = subst (λ (n : ℕ). AllShown (below 6 n) (read_by (k.act flags s.regs s.temps) s.mem)) (sym e) p.0.0 in (
      ap (λ (o : Outcome). o.end) (same_part k flags w s l shown) ∙ p.1,
      subst (λ (u : State). IsLike (after_part k flags w) u) (sym p.2)
          (like_part agree k kept steady flags w s l shown),
    )
cuts agree k kept goes steady flags g sp zero w s t z f e l p (c ∷ cs) len = absurd (omega arith)
cuts agree k kept goes steady flags g sp (suc d) w s t z f e l p [] len = absurd (omega arith)
cuts agree k kept goes steady flags g sp (suc d) w s t z f e l p (c ∷ cs) len =
    let shown = subst (λ (n : ℕ). AllShown (below 6 n) (read_by (k.act flags s.regs s.temps) s.mem)) (sym e) p.0.0 in
    let same : part_of k flags w ≡ part_of k flags s = same_part k flags w s l shown in
    let more = ap (λ (o : Outcome). o.end) same ∙ p.1 in
    let next : IsLike (after_part k flags w) (after_part k flags s) = like_part agree k kept steady flags w s l shown in
    let size : length (after_part k flags s).mem ≡ 65536 = length_writes (part_of k flags s).writes s.mem ∙ z in
    let stack : (after_part k flags s).regs.sp ≡ sp = steady.stack flags s ∙ e in
    let low : (after_part k flags w).regs.sp < 2 ^ 16 =
    subst (λ (n : ℕ). n < 2 ^ 16) (sym (ap (λ (r : Regs). r.sp) next.regs ∙ stack)) f in
    let cut_next : IsLike (cut k c (after_part k flags w)) (after_part k flags s) =
    like_cut k kept goes c (after_part k flags w) (after_part k flags s) (next.mem.size ∙ size) low
    (steady.temps flags w more) next in
    let rest =
    cuts agree k kept goes steady flags g sp d (cut k c (after_part k flags w)) (after_part k flags s) t size f stack
    cut_next p.2 cs (omega arith) in
    ((more, rest.0), rest.1)

pub cuts_change_nothing : WritesAgree → (k : Kind) (kept : Temps → Type 0) → GoesOn k kept → IsSteady k kept
    → CutsChangeNothing k
cuts_change_nothing agree k kept goes steady flags g d s t z f p cs len =
    cuts agree k kept goes steady flags g s.regs.sp d s s t z f refl (like_self s) p cs len

-- what keeps nothing goes on
pub goes_on_nothing : (k : Kind) → KeepsNothing k → GoesOn k Any
goes_on_nothing k h s z f a = subst (λ (u : State). IsLike u s) (sym (ap (resumed k) (h s).0 ∙ (h s).1)) (like_self s)
