-- An outer interrupt with a fast run leaves what it may.
use Rattle.two_level_runs.proofs.Words.{◌&&◌, ◌*◌, ◌+◌, ◌-◌, ◌<◌, ◌∙◌, ◌≡◌, ◌≤◌, ◌⊎◌, ap, arith, bit, Block, bytes_at}
use Rattle.two_level_runs.proofs.Words.{BytesStay, CanEnter, cases_lt, Ccr, entered, false, fast_map, fast_run}
use Rattle.two_level_runs.proofs.Words.{FastRunsFollow, FollowsInside, frame_bytes, from, inl, inr, interrupts_masked}
use Rattle.two_level_runs.proofs.Words.{is_fast_ram, is_hidden, is_open_inside, IsOff, length, List, nat_le, nat_lt}
use Rattle.two_level_runs.proofs.Words.{nat_tests, not, or_parts, OuterIsQuiet, plus, pulled, refl, Regs, Same}
use Rattle.two_level_runs.proofs.Words.{slice_index, State, subst, suc, sym, true, WritesStay, ℕ}
use Rattle.cpu12_isa.specs.{Flags.put, Interrupts.FrameComesBack}
use Rattle.cpu12_isa.proofs.Algebra.{pulled_alike}
use Rattle.two_level_runs.proofs.{Entering.bytes_stay}
use Rattle.two_level_runs.proofs.Pushing.{entered_mem, stays, size_stays, frame_read}

-- the laws on which it stands
pub record QuietLaws : Type 0 where
  pub writes_stay : WritesStay
  pub bytes_stay : BytesStay
  pub frame_comes_back : FrameComesBack
  pub follow : FastRunsFollow

-- the registers come back from the frame, over flags with the same X
comes_back : FrameComesBack → WritesStay → (b : Block) (image bytes : List ℕ) (before : ℕ → ℕ) (v : State) (c : Ccr)
    → length bytes ≤ 8 → CanEnter b image before v → bit c.0 6 ≡ bit (entered bytes v).regs.ccr.0 6
    → pulled (record ((entered bytes v).regs) { ccr = c })
    (bytes_at (entered bytes v).mem (from (entered bytes v).regs.sp 9)) ≡ v.regs
comes_back back stay b image bytes before v c few can x =
    let frame : bytes_at (entered_mem bytes v) (from (plus v.regs.sp 65527) 9) ≡ frame_bytes v.regs =
    frame_read stay bytes v can.size few can.low can.high in
    let fits = can.fits in
    let q : Regs = record (v.regs) { sp = plus v.regs.sp 65527; ccr = put v.regs.ccr interrupts_masked true } in
    pulled_alike (record ((entered bytes v).regs) { ccr = c }) q v.regs
    (bytes_at (entered_mem bytes v) (from (plus v.regs.sp 65527) 9))
    fits.ccr frame refl x
    ∙ ap (pulled q) frame ∙ back v.regs fits

-- a byte outside the fast block's RAM, and outside the stack below SP
outside : (at : ℕ) → is_fast_ram at ≡ false → (at < 0x1401) ⊎ (0x1409 ≤ at)
outside at h = elim (cases_lt at 0x1401) [
  | inl l ↦ inl l
  | inr lo ↦ elim (cases_lt at 0x1409) [
    | inl hi ↦ absurd (never at lo hi h)
    | inr ge ↦ inr ge
  ]
]
  where
    never : (at : ℕ) → 0x1401 ≤ at → at < 0x1409 → is_fast_ram at ≡ false → ⊥
    never at lo hi h = (let t : is_fast_ram at ≡ true = grind (arith, nat_tests) in cc)

away : (sp at : ℕ) → 0x1FF8 ≤ sp → sp ≤ 0x2000 → (nat_le 0x1FE0 at && nat_lt at sp) ≡ false
    → (at < plus sp 65527) ⊎ (sp ≤ at)
away sp at lo hi h = elim (cases_lt at 0x1FE0) [
  | inl l ↦ inl (omega arith)
  | inr ge ↦ elim (cases_lt at sp) [
    | inl l ↦ absurd (never ge l)
    | inr up ↦ inr up
  ]
]
  where
    never : 0x1FE0 ≤ at → at < sp → ⊥
    never ge l = (let t : (nat_le 0x1FE0 at && nat_lt at sp) ≡ true = grind (arith, nat_tests) in cc)

pub outer_is_quiet : QuietLaws → OuterIsQuiet
outer_is_quiet laws b image bytes flags most before inner v t hf few_in few_out input can ascend r le = record {
  arrived = ran.follows.arrived;
  regs = same.regs ∙ regs;
  off = subst IsOff (sym same.temps) r.off;
  free = λ e. same.temps ∙ r.free e;
  mem = record { size = same.mem.size ∙ r.size ∙ size_stays laws.writes_stay bytes v; bytes = bytes_same };
  bytes_fit = ran.follows.own;
  answers = λ o from to.
      (let a = r.answers o from to in
      (same.mem.bytes (fast_map.outputs + 1 * (o - 1)) (output_shown o from to) ∙ a.0, tt));
}
  where
    few : length bytes ≤ 8
    few = (let e = input.count in omega (arith, e))

    ran : FollowsInside flags (length b.outputs) most inner (suc r.further) (entered bytes v)
    ran =
        laws.follow b image flags most bytes before inner (entered bytes v) t hf few_out
        (bytes_stay laws.bytes_stay bytes v input.fit can.fits can.bytes) ascend r le

    same : Same is_open_inside (fast_run flags (length b.outputs) most inner (entered bytes v)).state t
    same = subst (λ (u : State). Same is_open_inside
        (fast_run flags (length b.outputs) most inner (entered bytes v)).state u) r.goes ran.follows.last

    regs : t.regs ≡ v.regs
    regs = r.regs ∙ comes_back laws.frame_comes_back laws.writes_stay b image bytes before v r.ccr few can r.x

    shown : (at : ℕ) → (nat_le 0x1FE0 at && nat_lt at v.regs.sp) ≡ false → is_hidden is_open_inside t.regs.sp at ≡ false
    shown at h = ap (λ (k : Regs). is_hidden is_open_inside k.sp at) regs ∙ h

    bytes_same : (at : ℕ) → is_hidden is_fast_ram v.regs.sp at ≡ false
        → slice_index (fast_run flags (length b.outputs) most inner (entered bytes v)).state.mem at
        ≡ slice_index v.mem at
    bytes_same at h =
        (let p = or_parts (is_fast_ram at) (nat_le 0x1FE0 at && nat_lt at v.regs.sp) h in
        same.mem.bytes at (shown at p.1) ∙ r.kept at (ap not p.0)
        ∙ stays laws.writes_stay bytes v at few can.low can.high (outside at p.0)
        (away v.regs.sp at can.low can.high p.1))

    output_shown : (o : ℕ) → 1 ≤ o → o ≤ length b.outputs
        → is_hidden is_open_inside t.regs.sp (fast_map.outputs + 1 * (o - 1)) ≡ false
    output_shown o from to =
        shown (fast_map.outputs + 1 * (o - 1)) (low (fast_map.outputs + 1 * (o - 1)) (omega arith))
      where
        low : (at : ℕ) → at < 0x1FE0 → (nat_le 0x1FE0 at && nat_lt at v.regs.sp) ≡ false
        low at l = grind (arith, nat_tests)
