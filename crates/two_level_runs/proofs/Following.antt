-- A run of the fast code under inner requests follows the run without.
use Rattle.two_level_runs.proofs.Words.{[], ◌+◌, ◌-◌, ◌<◌, ◌^◌, ◌∙◌, ◌∷◌, ◌≡◌, ◌≤◌, Agree, AllGood, ap, ap₂, AreBelow}
use Rattle.two_level_runs.proofs.Words.{AreOnStack, arith, Ascend, Before, before_more, Bool, bytes_at, Completes}
use Rattle.two_level_runs.proofs.Words.{false, fast_map, fast_run, FastRunsFollow, FollowsInside, from, if◌then◌else◌}
use Rattle.two_level_runs.proofs.Words.{is_hidden, is_open_inside, IsFastState, LeavesStack, length, List, max}
use Rattle.two_level_runs.proofs.Words.{may_interrupt, nat_lt, nat_tests, None, plus, refl, Regs, Same, Sound, State}
use Rattle.two_level_runs.proofs.Words.{subst, suc, sym, taken_at, true, uninterrupted, WritesAgree, WritesAreQuiet}
use Rattle.two_level_runs.proofs.Words.{inl, inr, zero, ℕ, ◌⊎◌}
use Rattle.cpu12_emul.specs.{Simulation.OnStackOnly}
use Rattle.run_law.specs.{Uninterrupted.first_open, Following.RunFollows, Following.Follows}
use Rattle.two_level_runs.specs.{Runs.fast_form, Inside.AnyMoment, Inside.HoldsBytes, Inside.Inside}
use Rattle.two_level_runs.proofs.Frames.{HasFrameRoom, frames_fit, frames_below, low_all}
use Rattle.two_level_runs.proofs.Bytes.{BytesLaws, step_bytes, push_bytes, begins_fits, take_bytes}

-- the outputs are shown
outputs_same : (k at sp : ℕ) (m n : List ℕ) → at + k ≤ 0x1FE0 → Agree (is_hidden is_open_inside sp) m n
    → bytes_at m (from at k) ≡ bytes_at n (from at k)
outputs_same zero at sp m n l a = refl
outputs_same (suc k) at sp m n l a =
    let shown : is_hidden is_open_inside sp at ≡ false = grind (arith, nat_tests) in
    let next : plus at 1 + k ≤ 0x1FE0 = omega arith in
    ap₂ (λ (v : ℕ) (vs : List ℕ). v ∷ vs) (a.bytes at shown) (outputs_same k (plus at 1) sp m n next a)

same_self : (s : State) → Same is_open_inside s s
same_self s = record { regs = refl; temps = refl; mem = record { size = refl; bytes = λ at h. refl } }

pub sound : BytesLaws → (image : List ℕ) (flags outputs sp : ℕ) → flags < 2 ^ 8 → outputs ≤ 8 → WritesAgree
    → WritesAreQuiet
    → Sound OnStackOnly is_open_inside (fast_form flags outputs sp) (IsFastState image flags sp) AnyMoment HoldsBytes
sound laws image flags outputs sp hf few agree quiet = record {
  apart = apart;
  shown = λ s p. p.shown;
  gives = λ x w s l. l;
  leaves = λ x w s l. l;
  answers = λ w s l. outputs_same outputs fast_map.outputs s.regs.sp w.mem s.mem (omega arith) l.mem;
  ends = λ m w s l. ap (λ (r : Regs). nat_lt sp r.sp) l.regs;
  quiet = λ done a v s good p may begins own.
      (let shown = p.shown in (
        quiet OnStackOnly is_open_inside [] v s apart tt shown.room begins,
        take_bytes laws.bytes_stay v (begins_fits laws is_open_inside v s shown.room begins) own,
      ));
  leaves_open = record {
    leaves = λ done x w o. o;
    pushes = λ done w s p l o. push_bytes laws is_open_inside flags w s p.shown l o;
    steps = λ done w s p l o. step_bytes laws is_open_inside flags w s hf p.shown l o;
  };
}
  where
    none : true ≡ false → ⊥
    none e = cc

    apart : LeavesStack is_open_inside
    apart at h = absurd (none (sym h))

-- requests are taken at their moments, or at 1
opens_here : (flags : ℕ) (s : State) (k m : ℕ) → may_interrupt (uninterrupted flags m s) ≡ true
    → first_open flags s (suc k) m ≡ m
opens_here flags s k m e = ap (λ (b : Bool). if b then m else first_open flags s k (suc m)) e

waits_here : (flags : ℕ) (s : State) (k m : ℕ) → may_interrupt (uninterrupted flags m s) ≡ false
    → first_open flags s (suc k) m ≡ first_open flags s k (suc m)
waits_here flags s k m e = ap (λ (b : Bool). if b then m else first_open flags s k (suc m)) e

-- from boundary 1 on
from_one : (flags n : ℕ) (s : State) → ((j : ℕ) → 1 ≤ j → j < n → may_interrupt (uninterrupted flags j s) ≡ true)
    → (k m : ℕ) → 1 ≤ m → m + k ≤ max n m → first_open flags s k m ≡ m
from_one flags n s opens zero m l h = refl
from_one flags n s opens (suc k) m l h = opens_here flags s k m (opens m l (omega arith))

moments_at : (flags further : ℕ) (s : State) → may_interrupt s ≡ false
    → ((j : ℕ) → 1 ≤ j → j < suc further → may_interrupt (uninterrupted flags j s) ≡ true)
    → (q : ℕ) → taken_at flags (λ k. k) (suc further) s q ≡ max 1 q
moments_at flags further s masked opens zero =
    let all : suc further - 0 ≡ suc further = omega arith in
    let one = waits_here flags s further 0 masked
    ∙ from_one flags (suc further) s opens further 1 (omega arith) (omega arith) in
    ap (λ (k : ℕ). first_open flags s k 0) all ∙ one ∙ omega arith
moments_at flags further s masked opens (suc q) =
    from_one flags (suc further) s opens (suc further - suc q) (suc q) (omega arith) (omega arith) ∙ omega arith

ascend_at : (flags n : ℕ) (s : State) → ((q : ℕ) → taken_at flags (λ k. k) n s q ≡ max 1 q) → (qs : List ℕ) (m from : ℕ)
    → from ≤ max 1 m → Ascend (λ k. k) m qs → Ascend (taken_at flags (λ k. k) n s) from qs
ascend_at flags n s moments [] m from l h = tt
ascend_at flags n s moments (q ∷ qs) m from l h =
    let e = moments q in (
      omega (arith, e, h.0),
      ascend_at flags n s moments qs q (taken_at flags (λ k. k) n s q) (omega (arith, e)) h.1,
    )

all_good : (qs : List ℕ) → AllGood AnyMoment qs
all_good [] = tt
all_good (q ∷ qs) = (tt, all_good qs)

pub fast_runs_follow : BytesLaws
    → ((x : Inside) → RunFollows OnStackOnly is_open_inside (fast_form x.flags x.outputs x.sp)
    (IsFastState x.image x.flags x.sp) AnyMoment HoldsBytes)
    → FastRunsFollow
fast_runs_follow laws law b image flags most bytes before inner s t hf few fits ascend r le = by
  where
    inside : Inside
    inside = record {
      image = image;
      flags = flags;
      outputs = length b.outputs;
      sp = s.regs.sp;
      sound = sound laws image flags (length b.outputs) s.regs.sp hf few;
    }

    holds : Before (IsFastState image flags s.regs.sp) flags (suc r.further) s
    holds = before_more (IsFastState image flags s.regs.sp) flags r.further s r.first
        (λ j l. (let p = r.each j l in p.state))

    opens : (j : ℕ) → 1 ≤ j → j < suc r.further → may_interrupt (uninterrupted flags j s) ≡ true
    opens zero l h = absurd (omega arith)
    opens (suc j) l h =
        (let p = r.each j (omega arith) in p.unmasked)

    moments : (q : ℕ) → taken_at flags (λ k. k) (suc r.further) s q ≡ max 1 q
    moments = moments_at flags r.further s r.masked opens

    on : (j : ℕ) → 0 ≤ j → suc j ≤ suc r.further → nat_lt s.regs.sp (uninterrupted flags j s).regs.sp ≡ false
    on j z l =
        (let p : IsFastState image flags s.regs.sp (uninterrupted flags j s) = holds j l in
        let e = p.stack in grind (arith, nat_tests))

    up : (uninterrupted flags (suc r.further) s).regs.sp ≡ plus s.regs.sp 9
    up = ap (λ (u : State). u.regs.sp) r.goes ∙ ap (λ (k : Regs). k.sp) r.regs

    ended : nat_lt s.regs.sp (uninterrupted flags (suc r.further) s).regs.sp ≡ true
    ended =
        (let first = r.first in
        let room = first.room in
        let higher : s.regs.sp < (uninterrupted flags (suc r.further) s).regs.sp = omega (arith, up, room.1) in
        grind (arith, nat_tests))

    completes : Completes (IsFastState image flags s.regs.sp) (fast_form flags (length b.outputs) s.regs.sp) 0
        (suc r.further) (suc r.further) s
    completes = record { sum = omega arith; holds = holds; on = on; ended = ended }

    followed : Follows OnStackOnly is_open_inside (fast_form flags (length b.outputs) s.regs.sp) HoldsBytes [] 0
        (suc r.further) (suc r.further) inner s
        (fast_run flags (length b.outputs) most inner s)
    followed =
        law inside [] 0 (suc r.further) (suc r.further) most inner s s le (all_good inner)
        (ascend_at flags (suc r.further) s moments inner 0 0 (omega arith) ascend) (same_self s) fits completes

    room : (j : ℕ) → j < suc r.further → HasFrameRoom (uninterrupted flags j s)
    room j l =
        (let p : IsFastState image flags s.regs.sp (uninterrupted flags j s) = holds j l in
        let fast = p.room in
        (omega (arith, p.stack, fast.0), omega (arith, p.stack, fast.1)))

    -- so behind the return too
    room_at : (j : ℕ) → (j < suc r.further) ⊎ (j ≡ suc r.further) → HasFrameRoom (uninterrupted flags j s)
    room_at j (inl l) = room j l
    room_at j (inr e) =
        (let first = r.first in
        let fast = first.room in
        subst (λ (k : ℕ). HasFrameRoom (uninterrupted flags k s)) (sym e)
        (omega (arith, up, fast.0, fast.1), omega (arith, up, fast.1)))

    by : FollowsInside flags (length b.outputs) most inner (suc r.further) s
    by = record {
      follows = followed;
      low = low_all OnStackOnly is_open_inside flags
          (fast_run flags (length b.outputs) most inner s).states s followed.simulates
          (λ j l. room_at j (let n = followed.boundaries in grind arith));
      stack = subst AreOnStack (sym followed.frames)
          (frames_fit flags (suc r.further) s (taken_at flags (λ k. k) (suc r.further) s) room inner None);
      below = subst (AreBelow s.regs.sp) (sym followed.frames)
          (frames_below flags (suc r.further) s.regs.sp s (taken_at flags (λ k. k) (suc r.further) s) room
          (λ j l. (let p : IsFastState image flags s.regs.sp (uninterrupted flags j s) = holds j l in p.stack)) inner
          None);
      moments = moments;
    }
