-- Judged place by place, code is accepted.
use Rattle.handler_check.proofs.Words.{[], ◌++◌, ◌+◌, ◌<◌, ◌∙◌, ◌∷◌, ◌≡◌, ◌≤◌, ◌⊎◌, ap, AreJudged, arith, Bool}
use Rattle.handler_check.proofs.Words.{branches_to, code_bytes, code_end, falls, falls_to, false, false≢true, FitCode}
use Rattle.handler_check.proofs.Words.{given, Has, height_after, inl, inr, Instr, IsAccepted, IsAt, IsFirst, IsForward}
use Rattle.handler_check.proofs.Words.{IsIn, IsSummary, Jumps, Kind, kind_of, leads, led_all, length, List, May, None}
use Rattle.handler_check.proofs.Words.{Option, Passes, Path, PathSummary, refl, Returns, Rti, size_of, Some, subst}
use Rattle.handler_check.proofs.Words.{suc, sym, targets, true, zero, ℕ}
use Rattle.std.specs.Prelude.{MatchOption}
use Rattle.handler_check.specs.{Judging.PathBelow, Judging.Judged}
use Rattle.handler_check.proofs.Decoding.{size_low, steps, rti_or}
use Rattle.handler_check.proofs.Acts.{height_after-low, leads_on, target_is}
use Rattle.handler_check.proofs.Places.{within, below_end, apart_places}
use Rattle.handler_check.proofs.Leading.{one_summary, all_kept, all_has, all_new, all_is, in_either}

-- a path to a place at most this far has its last step from below it
pub below_of : (is : List Instr) (below n at h : ℕ) → at ≤ below → Path is n at h → PathBelow is below n at h
below_of is below zero at h l p = p
below_of is below (suc n) at h l p =
    let size = size_low p.2 in
    let further : p.0 < at = leads_on p.2 p.0 at size.0 p.3.2 in
    (p.0, p.1, p.2, (p.3.0, p.3.1, p.3.2, p.3.3, omega arith))

-- paths are short
short : (is : List Instr) (n at h : ℕ) → Path is n at h → n + 16384 ≤ at
short is zero at h p = omega (arith, p.0)
short is (suc n) at h p =
    let r = short is n p.0 p.1 p.3.0 in
    let z = size_low p.2 in
    let l = leads_on p.2 p.0 at z.0 p.3.2 in
    omega (arith, r, l)

-- a path that does not meet another is short
pub summary-short : (is : List Instr) (trapped : Bool) (at best : ℕ) (summaries : ℕ → Option PathSummary)
    (summary : PathSummary) → AreJudged is trapped at best summaries → summaries at ≡ Some summary
    → summary.meets ≡ false → summary.most + 16384 ≤ at
summary-short is trapped at best summaries summary m e apart =
    short is summary.most at summary.height ((m.tell at summary e).one apart)

-- what was seen of an instruction to which no fault applies, with its summary and the summary that it leads on
pub record Seen (is : List Instr) (trapped : Bool) (at best more : ℕ) (summaries : ℕ → Option PathSummary) (i : Instr)
    (summary v : PathSummary) : Type 0 where
  pub judged : AreJudged is trapped at best summaries
  pub here : IsAt is at i
  pub summary_is : summaries at ≡ Some summary
  pub passes : Passes is trapped at i summary 9
  pub height : v.height ≡ height_after i summary.height
  pub most : v.most ≡ suc summary.most
  pub meets : v.meets ≡ false
  pub over : best ≤ more
  pub few : i ≡ Rti → v.most ≤ more
  pub longest : (more ≡ best) ⊎ ((i ≡ Rti) × (v.most ≡ more))

here_path : (is : List Instr) (trapped : Bool) (at best more : ℕ) (summaries : ℕ → Option PathSummary) (i : Instr)
    (summary v : PathSummary)
    → Seen is trapped at best more summaries i summary v → Path is summary.most at summary.height
here_path is trapped at best more summaries i summary v s = (s.judged.tell at summary s.summary_is).one
    (s.passes.meets (omega arith))

leads_further : (is : List Instr) (at to : ℕ) (i : Instr) → IsIn (leads at i) to → at < to
leads_further is at to i k = let z = size_low i in leads_on i at to z.0 k

pub mark_on : (is : List Instr) (trapped : Bool) (at best more : ℕ) (summaries later : ℕ → Option PathSummary)
    (i : Instr)
    (summary v : PathSummary) → Seen is trapped at best more summaries i summary v
    → ((q : ℕ) → later q ≡ led_all summaries (leads at i) v q) → AreJudged is trapped (at + size_of i) more later
mark_on is trapped at best more summaries later i summary v s on = record {
  tell = λ q w e. tell q w (sym (on q) ∙ e);
  complete = λ n q h p.
      (let a = complete n q h p in record { summary = a.summary; is = on q ∙ a.is; height = a.height; few = a.few });
  each = each;
  longest = elim s.longest [
    | inl e ↦ subst (λ (m : ℕ). (m ≡ 0) ⊎ ((n : ℕ) × (q : ℕ) × (h : ℕ) × (Path is n q h × IsAt is q Rti × (suc n ≡ m))))
        (sym e) s.judged.longest
    | inr e ↦ inr (
      summary.most,
      at,
      summary.height,
      (path, subst (λ (j : Instr). IsAt is at j) e.0 s.here, sym s.most ∙ e.1),
    )
  ];
}
  where
    path : Path is summary.most at summary.height
    path = here_path is trapped at best more summaries i summary v s

    next_path : (q : ℕ) → IsIn (leads at i) q → Path is v.most q v.height
    next_path q k = subst (λ (n : ℕ). Path is n q v.height) (sym s.most)
        (at, summary.height, i, (path, s.here, k, s.height))

    low : v.height ≤ 15
    low = subst (λ (h : ℕ). h ≤ 15) (sym s.height)
        (height_after-low i summary.height (s.passes.height (omega arith)) (s.judged.tell at summary s.summary_is).low)

    next_summary : (q : ℕ) → IsIn (leads at i) q → IsSummary is q v
    next_summary q k = record {
      one = λ e. next_path q k;
      two = λ e. absurd (false≢true (sym s.meets ∙ e));
      some =
          (v.most, v.height, next_path q k);
      low = low;
    }

    tell : (q : ℕ) (w : PathSummary) → led_all summaries (leads at i) v q ≡ Some w → IsSummary is q w
    tell = all_is is summaries (leads at i) v s.meets s.judged.tell next_summary

    new_path : (n q h : ℕ) → Path is n at h → IsIn (leads at i) q
        → Has (led_all summaries (leads at i) v) q (height_after i h) (suc n)
    new_path n q h p k =
        let a = s.judged.complete n at h (below_of is at n at h (omega arith) p) in
        let same : a.summary ≡ summary = one_summary a.summary summary (sym a.is ∙ s.summary_is) in
        let apart : a.summary.meets ≡ false = ap (λ (w : PathSummary). w.meets) same ∙ s.passes.meets (omega arith) in
        let height : h ≡ summary.height = a.height apart ∙ ap (λ (w : PathSummary). w.height) same in
        let most : a.summary.most ≡ summary.most = ap (λ (w : PathSummary). w.most) same in
        let few = a.few apart in
        let v_most = s.most in
        let b = all_new summaries (leads at i) v q s.meets k in
        record {
          summary = b.summary;
          is = b.is;
          height = λ e. ap (height_after i) height ∙ sym s.height ∙ b.height e;
          few = λ e. (let f = b.few e in omega arith);
        }

    complete : (n q h : ℕ) → PathBelow is (at + size_of i) n q h → Has (led_all summaries (leads at i) v) q h n
    complete zero q h p = all_has summaries (leads at i) v q h 0 (s.judged.complete 0 q h p)
    complete (suc n) q h p = elim (apart_places 16384 is p.0 at p.2 i p.3.1 s.here) [
      | inl same ↦ subst (λ (k : ℕ). Has (led_all summaries (leads at i) v) q k (suc n))
          (sym (p.3.3 ∙ ap (λ (j : Instr). height_after j p.1) same.1))
          (new_path n q p.1 (subst (λ (k : ℕ). Path is n k p.1) same.0 p.3.0)
          (subst (λ (j : Instr). IsIn (leads at j) q) same.1
          (subst (λ (k : ℕ). IsIn (leads k p.2) q) same.0 p.3.2)))
      | inr apart ↦ elim apart [
        | inl under ↦ (let z = size_low p.2 in
            all_has summaries (leads at i) v q h (suc n)
            (s.judged.complete (suc n) q h (p.0, p.1, p.2, (p.3.0, p.3.1, p.3.2, p.3.3, omega (arith, z.0, under)))))
        | inr over ↦ absurd (let l = p.3.4 in omega arith)
      ]
    ]

    kept : (q : ℕ) → q ≤ at → later q ≡ summaries q
    kept q l = on q ∙ all_kept summaries (leads at i) v q (λ k. (let f = leads_further is at q i k in omega arith))

    judged_here : Judged is trapped more later at i
    judged_here = record {
      summary = summary;
      is_marked = kept at (omega arith) ∙ s.summary_is;
      passes = s.passes;
      few = λ e. (let f = s.few e in let most = s.most in omega arith);
    }

    each : (q : ℕ) (k : Instr) → IsAt is q k → q < at + size_of i → Judged is trapped more later q k
    each q k w l = elim (apart_places 16384 is q at k i w s.here) [
      | inl same ↦ subst (λ (p : ℕ). Judged is trapped more later p k) (sym same.0)
          (subst (λ (j : Instr). Judged is trapped more later at j) (sym same.1) judged_here)
      | inr apart ↦ elim apart [
        | inl under ↦ (let z = size_low k in
            let b = s.judged.each q k w (omega (arith, z.0, under)) in
            let over = s.over in
            record {
              summary = b.summary;
              is_marked = kept q (omega (arith, z.0, under)) ∙ b.is_marked;
              passes = b.passes;
              few =
                  λ e. (let f = b.few e in omega arith);
            })
        | inr over ↦ absurd (omega arith)
      ]
    ]

-- all instructions judged
record Knows (is : List Instr) (best : ℕ) (summaries : ℕ → Option PathSummary) (n at h : ℕ) (i : Instr) : Type 0 where
  summary : PathSummary
  is_marked : summaries at ≡ Some summary
  passes : Passes is false at i summary 9
  height : h ≡ summary.height
  few : n ≤ summary.most
  ends : i ≡ Rti → suc summary.most ≤ best

knows : (is : List Instr) (best : ℕ) (summaries : ℕ → Option PathSummary) → AreJudged is false (code_end is) best
    summaries
    → (n at h : ℕ) (i : Instr) → Path is n at h → IsAt is at i → Knows is best summaries n at h i
knows is best summaries m n at h i path w =
    let l = below_end is at i w in
    let below : at < code_end is = l.1 in
    let b = m.each at i w l.1 in
    let a = m.complete n at h (below_of is (code_end is) n at h (omega arith) path) in
    let same : a.summary ≡ b.summary = one_summary a.summary b.summary (sym a.is ∙ b.is_marked) in
    let apart : a.summary.meets ≡ false = ap (λ (u : PathSummary). u.meets) same ∙ b.passes.meets (omega arith) in
    let most : a.summary.most ≡ b.summary.most = ap (λ (u : PathSummary). u.most) same in
    let few = a.few apart in
    record {
      summary = b.summary;
      is_marked = b.is_marked;
      passes = b.passes;
      height =
          a.height apart ∙ ap (λ (u : PathSummary). u.height) same;
      few = omega arith;
      ends = b.few;
    }

first_stands : (is : List Instr) (at : ℕ) → IsFirst is false at → (i : Instr) × IsAt is at i
first_stands is at f = elim f [ inl p ↦ p | inr t ↦ absurd (false≢true t.0) ]

stands_at : (is : List Instr) (best : ℕ) (summaries : ℕ → Option PathSummary) → AreJudged is false (code_end is) best
    summaries
    → ((i : Instr) × IsAt is 16384 i) → (n at h : ℕ) → Path is n at h → (i : Instr) × IsAt is at i
stands_at is best summaries m start zero at h path = (
  start.0,
  subst (λ (k : ℕ). IsAt is k start.0) (sym path.0)
      start.1,
)
stands_at is best summaries m start (suc n) at h path =
    let k = knows is best summaries m n path.0 path.1 path.2 path.3.0 path.3.1 in
    elim (in_either (falls_to path.0 path.2) (branches_to path.0 path.2) at path.3.2) [
      | inl l ↦ first_stands is at (k.passes.falls (omega arith) at l)
      | inr l ↦ first_stands is at (k.passes.branches (omega arith) at l)
    ]

pub may_of : (is : List Instr) (trapped : Bool) (at : ℕ) (i : Instr) (summary : PathSummary)
    → Passes is trapped at i summary 9
    → May i summary.height
may_of is trapped at i summary p =
    record {
      allowed = p.allowed (omega arith);
      free = p.free (omega arith);
      forward = p.forward (omega arith);
      height =
          p.height (omega arith);
    }

-- where an instruction leads to
leads_to : (k : Option Kind) (at next : ℕ) → given false steps k ≡ true → MatchOption k ⊥ IsForward
    → (to : ℕ) × IsIn (given [] (falls next) k ++ given [] (targets at) k) to
leads_to None at next a f = absurd f
leads_to (Some (Jumps to)) at next a f =
    (at + 2 + to, subst (λ (ts : List ℕ). IsIn ts (at + 2 + to)) (sym (target_is at to f)) (inl refl))
leads_to (Some Returns) at next a f = absurd (false≢true a)
leads_to k at next a f = (next, inl refl)

-- some path has an end
ends_at : (is : List Instr) (best : ℕ) (summaries : ℕ → Option PathSummary) → AreJudged is false (code_end is) best
    summaries
    → ((i : Instr) × IsAt is 16384 i)
    → (left n at h : ℕ) → code_end is ≤ at + left → Path is n at h → 0 < best
ends_at is best summaries m start zero n at h l path =
    let f = stands_at is best summaries m start n at h path in
    let b = below_end is at f.0 f.1 in
    absurd (omega (arith, b.1))
ends_at is best summaries m start (suc left) n at h l path =
    let f = stands_at is best summaries m start n at h path in
    let k = knows is best summaries m n at h f.0 path f.1 in
    elim (rti_or f.0 (k.passes.allowed (omega arith))) [
      | inl rti ↦ (let few = k.ends rti in omega arith)
      | inr p ↦ (let to = leads_to (kind_of f.0) at (at + size_of f.0) p (k.passes.forward (omega arith)) in
          let s = size_low f.0 in
          let on = leads_on f.0 at to.0 s.0 to.1 in
          ends_at is best summaries m start left (suc n) to.0 (height_after f.0 h) (omega (arith, on))
          (at, h, f.0, (path, f.1, to.1, refl)))
    ]

longest_of : (is : List Instr) (best : ℕ) → 0 < best
    → ((best ≡ 0) ⊎ ((n : ℕ) × (at : ℕ) × (h : ℕ) × (Path is n at h × IsAt is at Rti × (suc n ≡ best))))
    → (n : ℕ) × (at : ℕ) × (h : ℕ) × (Path is n at h × IsAt is at Rti × (suc n ≡ best))
longest_of is best l (inl e) = absurd (omega arith)
longest_of is best l (inr r) = r

pub accepted_of : (is : List Instr) (best : ℕ) (summaries : ℕ → Option PathSummary) → FitCode is → code_end is ≤ 20480
    → ((i : Instr) × IsAt is 16384 i) → AreJudged is false (code_end is) best summaries → IsAccepted is best
accepted_of is best summaries fits ends start m = record {
  fits = fits;
  ends = ends;
  reached = λ at i w. (let l = below_end is at i w in let b = m.each at i w l.1
      in (m.tell at b.summary b.is_marked).some);
  one_height = λ at k n g h p q. (let f = stands_at is best summaries m start k at g p in
      let a = knows is best summaries m k at g f.0 p f.1 in
      let b = knows is best summaries m n at h f.0 q f.1 in
      a.height ∙ ap (λ (u : PathSummary). u.height) (one_summary a.summary b.summary (sym a.is_marked ∙ b.is_marked))
      ∙ sym b.height);
  stands = stands_at is best summaries m start;
  may = λ n at h i p w.
      (let k = knows is best summaries m n at h i p w in
      subst (λ (j : ℕ). May i j) (sym k.height) (may_of is false at i k.summary k.passes));
  most = λ n at h p w.
      (let k = knows is best summaries m n at h Rti p w in let f = k.ends refl in let few = k.few in omega arith);
  longest = longest_of is best
      (ends_at is best summaries m start (length (code_bytes is)) 0 16384 0 (omega arith) (refl, refl)) m.longest;
}

-- no instruction judged yet
pub mark_first : (is : List Instr) (trapped : Bool) (summaries : ℕ → Option PathSummary) (first : PathSummary)
    → first ≡ record { height = 0; most = 0; meets = false }
    → ((q : ℕ) → summaries q ≡ led_all (λ at. None) (16384 ∷ []) first q) → AreJudged is trapped 16384 0 summaries
mark_first is trapped summaries first one on = record {
  tell = λ q w e. all_is is (λ at. None) (16384 ∷ []) first (ap (λ (u : PathSummary). u.meets) one)
      (λ at summary k. absurd (none_some summary k)) start_summary q w (sym (on q) ∙ e);
  complete = complete;
  each = λ at i w l. absurd (let r = below_end is at i w in omega (arith, r.0));
  longest = inl refl;
}
  where
    none_some : (w : PathSummary) → None ≡ Some w → ⊥
    none_some w e = cc

    height : first.height ≡ 0
    height = ap (λ (u : PathSummary). u.height) one

    most : first.most ≡ 0
    most = ap (λ (u : PathSummary). u.most) one

    start_path : (q : ℕ) → IsIn (16384 ∷ []) q → Path is first.most q first.height
    start_path q k = subst (λ (n : ℕ). Path is n q first.height) (sym most)
        (elim k [ inl e ↦ (e, height) | inr n ↦ absurd n ])

    start_summary : (q : ℕ) → IsIn (16384 ∷ []) q → IsSummary is q first
    start_summary q k = record {
      one = λ e. start_path q k;
      two = λ e. absurd (false≢true (sym (ap (λ (u : PathSummary). u.meets) one) ∙ e));
      some = (first.most, first.height, start_path q k);
      low = omega (arith, height);
    }

    complete : (n at h : ℕ) → PathBelow is 16384 n at h → Has summaries at h n
    complete zero at h p =
        let b = all_new (λ at. None) (16384 ∷ []) first at (ap (λ (u : PathSummary). u.meets) one) (inl p.0) in
        record {
          summary = b.summary;
          is = on at ∙ b.is;
          height = λ e. p.1 ∙ sym height ∙ b.height e;
          few = λ e. omega
              arith;
        }
    complete (suc n) at h p = absurd (let r = within 16384 is p.0 p.2 p.3.1 in let l = p.3.4 in omega (arith, r.0, l))
