-- A firmware whose interrupts run an accepted handler is a sound form. The proof stands here, where an impl can cite
-- it.
-- Beside the promise.
use Rattle.std.proofs.Common.{◌≡◌, ℕ, suc, ◌+◌, ◌<◌, ◌≤◌, ◌⊎◌, inl, inr, true, false, Some, List, [], ◌∷◌}
use Rattle.std.proofs.Common.{get_or, refl, ap, sym, ◌∙◌, subst, arith, nat_lt, nat_le}
use Rattle.std.specs.Prelude.{All, ◌&&◌, ◌||◌}
use Rattle.std.specs.Option.{is_some}
use Rattle.std.proofs.lemmas.Bool.{both_ways, or_parts, cases_lt}
use Rattle.std.proofs.lemmas.Bool.Decides.{nat_tests}
use Rattle.std.proofs.lemmas.List.Elements.{All-cons}
use Rattle.cpu12_isa.specs.declared.{instr.Regs.Regs, instr.Write.Write}
use Rattle.cpu12_isa.specs.Regions.{is_free, is_hidden, stack_end, vector, is_vector, LeavesStack}
use Rattle.cpu12_isa.specs.{Agreement.Agree, Agreement.WritesAgree, Fits.FitsRegs, Memory.word_of}
use Rattle.cpu12_asm.specs.Bytes.{byte_at}
use Rattle.cpu12_parts.specs.{State.State, Parts.suspended, Parts.wav}
use Rattle.cpu12_emul.specs.Simulation.{AreOpen, OnStackOnly}
use Rattle.run_law.specs.Uninterrupted.{stepped}
use Rattle.run_law.specs.Soundness.{Begins, Quiet, Sound, SumsFitBelow, WritesAreQuiet}
use Rattle.handler_check.specs.Images.{IsWhole, IsHandler}
use Rattle.handler_check.specs.Running.{HasImage, CanBegin, IsQuietCode, HandlersAreQuiet}
use Rattle.interrupt_plan.specs.{declared.Request.Request, Plans.IsGoodRequest}
use Rattle.firmware_code.specs.{declared.firmware.Firmware.Firmware}
use Rattle.firmware_code.proofs.Algebra.{hidden_less, sp_near}
use Rattle.firmware_runs.specs.Facts.{FactsBeside}
use Rattle.alone_runs.specs.Following.{IsLow, OpensFree}
use Rattle.alone_runs.specs.OpenBytes.{AreOpenAlike, StepsLeaveOpen}
use Rattle.alone_runs.specs.SoundAloneProof.{low_ports, given_alike, answered_alike, ended_alike}
use Rattle.handled_runs.specs.{Open.is_code, Open.is_open_to_code, Forms.served, Forms.end_of, Forms.with_code}
use Rattle.handled_runs.specs.{Answering.CameBack, Answering.AllCameBack, declared.back.HandlerEnd.HandlerEnd}

-- the laws of lower crates
pub record CodeLaws : Type 0 where
  pub steps_leave_open : StepsLeaveOpen
  pub handlers_are_quiet : HandlersAreQuiet
  pub sums_fit_below : SumsFitBelow

-- a firmware whose bytes stand low, and an accepted handler
pub record Handled : Type 0 where
  pub laws : CodeLaws
  pub flags : ℕ
  pub firmware : Firmware
  pub low : IsLow firmware
  pub handler : List (ℕ × ℕ)
  pub most : ℕ
  pub is_handler : IsHandler handler most

-- after interrupts the handler's bytes stand in memory, with its address in the vector, and each came back
pub record HandlerStands (handler : List (ℕ × ℕ)) (most : ℕ) (done : List (Request × HandlerEnd)) (w : State) : Type 0
  where
    pub image : HasImage handler w.mem
    pub back : AllCameBack most done

-- what is open
pub not_open : (at : ℕ)
    → (at < 0x1800) ⊎ (((0x1FE0 ≤ at) × (at < 0x4000)) ⊎ (((0x5000 ≤ at) × (at < vector)) ⊎ (vector + 2 ≤ at)))
    → is_open_to_code at ≡ false
not_open at (inl h) = grind (arith, nat_tests)
not_open at (inr (inl h)) = let lo = h.0 in let hi = h.1 in grind (arith, nat_tests)
not_open at (inr (inr (inl h))) = let lo = h.0 in let hi = h.1 in grind (arith, nat_tests)
not_open at (inr (inr (inr h))) = grind (arith, nat_tests)

pub opens_free : OpensFree is_open_to_code
opens_free = record { apart = leaves; free = λ at h. rw h refl; low = λ at h. not_open at (inl h) }
  where
    leaves : LeavesStack is_open_to_code
    leaves at h = elim (cases_lt at 0x1FE0) [
      | inl below ↦ inl below
      | inr from ↦ elim (cases_lt at stack_end) [
        | inl inside ↦ absurd (both_ways (is_open_to_code at) (not_open at (inr (inl (from, omega arith)))) h)
        | inr above ↦ inr above
      ]
    ]

pub code_open : (at : ℕ) → 0x4000 ≤ at → at < 0x5000 → is_open_to_code at ≡ true
code_open at lo hi =
    let f : is_free at ≡ false = grind (arith, nat_tests) in
    let c : is_code at ≡ true = grind (arith, nat_tests) in
    rw (f, c) refl

-- a handler's bytes stand where its code may
pub in_code : (image : List (ℕ × ℕ)) (at byte : ℕ) → IsWhole image → byte_at image at ≡ Some byte
    → (0x4000 ≤ at) × (at < 0x5000)
in_code image at byte w e = (not_low (λ l. w.inside at (has, inl l)), not_high (λ l. w.inside at (has, inr (inl l))))
  where
    has : is_some (byte_at image at) ≡ true
    has = ap is_some e

    not_low : (at < 0x4000 → ⊥) → 0x4000 ≤ at
    not_low n = omega arith

    not_high : (0x5000 ≤ at → ⊥) → at < 0x5000
    not_high n = omega arith

-- the code and the vector stay
abbrev Keeps : List ℕ → List ℕ → Type 0
Keeps m n = (at : ℕ) → 0x4000 ≤ at → is_open_to_code at ≡ true → get_or n at 0 ≡ get_or m at 0

image_stays : (image : List (ℕ × ℕ)) (m n : List ℕ) → IsWhole image → Keeps m n → HasImage image m → HasImage image n
image_stays image m n w keeps h = record {
  vector = ap (λ (k : ℕ). word_of k (get_or n 65523 0)) (keeps 65522 (omega arith) refl)
      ∙ ap (λ (k : ℕ). word_of (get_or m 65522 0) k) (keeps 65523 (omega arith) refl) ∙ h.vector;
  bytes = λ at byte e. (let r = in_code image at byte w e in keeps at r.0 (code_open at r.0 r.1) ∙ h.bytes at byte e);
}

pub stands : (image : List (ℕ × ℕ)) (most : ℕ) (done : List (Request × HandlerEnd)) (w u : State) → IsWhole image
    → AreOpenAlike is_open_to_code w.mem u.mem
    → HandlerStands image most done w → HandlerStands image most done u
stands image most done w u whole alike h = record {
  image = image_stays image w.mem u.mem whole (λ at from is. alike at is) h.image;
  back = h.back;
}

-- an interrupt
all_open : (ws : List Write) → All (λ (w : Write). is_free w.at ≡ true) ws → AreOpen is_free ws
all_open [] g = tt
all_open (w ∷ ws) g = (g 0 w (omega arith), all_open ws (λ k x l. g (suc k) x (omega arith)))

more_hidden : (sp : ℕ) (m n : List ℕ) → Agree (is_hidden is_free sp) m n → Agree (is_hidden is_open_to_code sp) m n
more_hidden sp m n = hidden_less is_free is_open_to_code sp m n
    (λ at h. (let f = or_parts (is_free at) (is_code at || is_vector at) h in f.0))

shown_high : (sp at : ℕ) → sp ≤ stack_end → 0x4000 ≤ at → is_hidden is_free sp at ≡ false
shown_high sp at l h =
    let a : is_free at ≡ false = grind (arith, nat_tests) in
    let b : (nat_le 0x1FE0 at && nat_lt at sp) ≡ false = grind (arith, nat_tests) in
    rw (a, b)

-- where an interrupt begins a handler can
pub can_begin : SumsFitBelow → (flags : ℕ) (f : Firmware) (v s : State) → FactsBeside is_open_to_code flags f s
    → Begins is_open_to_code v s → CanBegin v
can_begin sums_fit_below flags f v s p begins =
    let facts = p.facts in
    let shown = facts.shown in
    let room = shown.room in
    let near = sp_near s.regs.sp p.stack in
    let below = sums_fit_below s.regs s.temps room.fits room.low room.high in
    record {
      temps = begins.temps;
      size = begins.mem.size ∙ room.size;
      fits = subst (λ (r : Regs). FitsRegs r) (sym begins.regs) below.fits;
      low = subst (λ (r : Regs). 0x1FF8 ≤ r.sp) (sym begins.regs) (omega (arith, below.low, near.0));
      high = subst (λ (r : Regs). r.sp ≤ stack_end) (sym begins.regs) (omega (arith, below.high, near.1));
    }

serves : (x : Handled) (done : List (Request × HandlerEnd)) (a : Request) (v s : State) → IsGoodRequest a
    → FactsBeside is_open_to_code x.flags x.firmware s → Begins is_open_to_code v s
    → HandlerStands x.handler x.most done v
    → Quiet OnStackOnly is_open_to_code (served x.flags a v).state v s
    × HandlerStands x.handler x.most ((a, end_of (served x.flags a v)) ∷ done) (served x.flags a v).state
serves x done a v s good p begins own =
    let laws = x.laws in
    let can = can_begin laws.sums_fit_below x.flags x.firmware v s p begins in
    let q : IsQuietCode x.flags x.most a.writes v s =
    laws.handlers_are_quiet is_open_to_code x.handler x.most x.flags a.writes v s x.is_handler
    (all_open a.writes good.free) own.image can begins in
    let u = q.quiet in
    let whole = (let k = x.is_handler in k.whole) in (
      record {
        regs = u.regs;
        temps = u.temps;
        mem =
            more_hidden v.regs.sp (served x.flags a v).state.mem v.mem u.mem;
      },
      record {
        image = image_stays x.handler v.mem (served x.flags a v).state.mem whole
            (λ at from is. u.mem.bytes at (shown_high v.regs.sp at can.high from)) own.image;
        back = All-cons (CameBack x.most) (a, end_of (served x.flags a v)) done
            (record { done = q.back; few = q.steps }) own.back;
      },
    )

pub sound : (x : Handled) → WritesAgree → WritesAreQuiet
    → Sound OnStackOnly is_open_to_code (with_code x.flags x.firmware)
    (FactsBeside is_open_to_code x.flags x.firmware) IsGoodRequest (HandlerStands x.handler x.most)
sound x agree quiet =
    let whole = (let k = x.is_handler in k.whole) in
    let laws = x.laws in
    let ports = low_ports is_open_to_code opens_free x.firmware x.low in
    record {
      apart = opens_free.apart;
      shown = λ s p. (let facts = p.facts in facts.shown);
      gives = λ bytes w s l. given_alike agree is_open_to_code x.firmware bytes w s l;
      leaves = λ bytes w s l. l;
      answers = λ w s l. answered_alike is_open_to_code x.firmware ports x.low w s l;
      ends = λ m w s l. ended_alike is_open_to_code x.firmware ports x.low w s l;
      quiet = λ done a v s good p may begins own. serves x done a v s good p begins own;
      leaves_open = record {
        leaves = λ done bytes w o. o;
        pushes = λ done w s p l o.
            (let left = laws.steps_leave_open is_open_to_code x.flags x.firmware w s opens_free.apart p l in
            stands x.handler x.most done w (suspended wav w) whole left.pushes o);
        steps = λ done w s p l o.
            (let left = laws.steps_leave_open is_open_to_code x.flags x.firmware w s opens_free.apart p l in
            stands x.handler x.most done w (stepped x.flags w) whole left.steps o);
      };
    }
