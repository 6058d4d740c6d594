-- The interrupts of an accepted handler.
use Rattle.handler_check.proofs.Words.{◌&&◌, ◌<◌, ◌∙◌, ◌≡◌, ◌≤◌, AcceptedIsTake, Agree, ap, AreOpen, arith, at_code}
use Rattle.handler_check.proofs.Words.{byte_at, CanBegin, false, framed, get_or, HandlersRunAsTakes, HasHandler, inl}
use Rattle.handler_check.proofs.Words.{inr, is_free, is_hidden, IsHandler, IsOff, IsWhole, List, nat_le, nat_lt}
use Rattle.handler_check.proofs.Words.{or_parts, placed, plus, refl, Regs, Some, State, step_limit, subst, sym}
use Rattle.handler_check.proofs.Words.{TakesQuietly, Temps, true, until_rti, unwritten, word_of, Write, write_all, ℕ}
use Rattle.cpu12_isa.proofs.{Algebra.agree_with, Algebra.place_of}
use Rattle.cpu12_parts.specs.{Parts.sum_bytes, Parts.suspended, Parts.wav, Inside.PushesRunning, Inside.PushesNone}
use Rattle.handler_check.specs.{Running.HasImage, Running.IsTake, Running.HandlersAreQuiet}
use Rattle.std.specs.Option.{is_some}
use Rattle.cpu12_parts.specs.declared.temps.Temps.TheVariants.{Free, Running, OnStack}
use Rattle.handler_check.proofs.{Given.code_by, Good.leaves}

high_at : (image : List (ℕ × ℕ)) (at byte : ℕ) → IsWhole image → byte_at image at ≡ Some byte → 16384 ≤ at
high_at image at byte w e = not_low (λ l. w.inside at (has, inl l))
  where
    not_low : (at < 16384 → ⊥) → 16384 ≤ at
    not_low n = omega arith

    has : is_some (byte_at image at) ≡ true
    has = ap is_some e

-- what stands from $4000 on is kept
image_stays : (image : List (ℕ × ℕ)) (m n : List ℕ) → IsWhole image
    → ((at : ℕ) → 16384 ≤ at → get_or n at 0 ≡ get_or m at 0) → HasImage image m → HasImage image n
image_stays image m n w keeps h = record {
  vector = ap (λ (k : ℕ). word_of k (get_or n 65523 0)) (keeps 65522 (omega arith))
      ∙ ap (λ (k : ℕ). word_of (get_or m 65522 0) k) (keeps 65523 (omega arith)) ∙ h.vector;
  bytes = λ at byte e. keeps at (high_at image at byte w e) ∙ h.bytes at byte e;
}

has_handler : (image : List (ℕ × ℕ)) (instrs : ℕ) (m : List ℕ) (k : IsHandler image instrs) → HasImage image m
    → HasHandler k.code m
has_handler image instrs m k h =
    record { vector = h.vector; code = code_by image m k.code h.bytes k.accepted.ends k.cut.stands }

takes : AcceptedIsTake → (image : List (ℕ × ℕ)) (instrs flags : ℕ) (ws : List Write) (v : State)
    → IsHandler image instrs → AreOpen is_free ws → HasImage image v.mem → CanBegin v
    → IsTake flags instrs ws v
takes law image instrs flags ws v k free h can =
    law k.code instrs flags k.accepted ws v free (has_handler image instrs v.mem k h) can

hides_less : (sp : ℕ) (m n : List ℕ) → Agree (is_hidden (λ at. false) sp) m n → Agree (is_hidden is_free sp) m n
hides_less sp m n a =
    record { size = a.size; bytes = λ at h. a.bytes at (or_parts (is_free at) (nat_le 8160 at && nat_lt at sp) h).1 }

pub handlers_are_quiet : AcceptedIsTake → TakesQuietly → HandlersAreQuiet
handlers_are_quiet law quietly open_to image instrs flags ws v s k free h c b =
    let t = takes law image instrs flags ws v k free h c in
    let low = c.low in
    let u = quietly is_free t.writes v leaves t.free c.size c.fits (omega arith) c.high in
    let sp : (framed t.writes v).regs.sp ≡ v.regs.sp = ap (λ (r : Regs). r.sp) u.regs in
    let l = t.same in
    let after : State = (until_rti flags step_limit (at_code ws v)).state in
    record {
      quiet = record {
        regs = l.regs ∙ u.regs;
        temps = l.temps ∙ u.temps;
        mem = agree_with (is_hidden is_free v.regs.sp) (until_rti flags step_limit (at_code ws v)).state.mem
            (framed t.writes v).mem v.mem
            (subst (λ (n : ℕ). Agree (is_hidden is_free n) (until_rti flags step_limit (at_code ws v)).state.mem
            (framed t.writes v).mem) sp
            (hides_less (framed t.writes v).regs.sp (until_rti flags step_limit (at_code ws v)).state.mem
            (framed t.writes v).mem l.mem)) u.mem;
      };
      back = t.back;
      steps = t.steps;
    }

-- the push of sums that run leaves what stands from $4000 on
pushed_stays : (p w sp at : ℕ) (m : List ℕ) → sp ≤ 8192 → 16384 ≤ at
    → get_or (write_all (placed sp (sum_bytes p w)) m) at 0 ≡ get_or m at 0
pushed_stays p w sp at m high from = unwritten (placed sp (sum_bytes p w)) m at (λ written.
    (let there = place_of (sum_bytes p w) sp at (omega arith) written in omega (arith, there.1, there.2)))

image_pushed : PushesRunning → PushesNone → (image : List (ℕ × ℕ)) (s : State) → IsWhole image → HasImage image s.mem
    → CanBegin (suspended wav s) → HasImage image (suspended wav s).mem
image_pushed running none image s whole h can = cases s.temps refl
  where
    same : IsOff s.temps → HasImage image (suspended wav s).mem
    same off = subst (λ (v : State). HasImage image v.mem) (sym (none s off)) h

    cases : (t : Temps) → s.temps ≡ t → HasImage image (suspended wav s).mem
    cases Free e = same (inl e)
    cases OnStack e = same (inr e)
    cases (Running p w) e =
        let is = running s p w e in
        let high : plus s.regs.sp 65530 ≤ 8192 = subst (λ (v : State). v.regs.sp ≤ 8192) is can.high in
        subst (λ (v : State). HasImage image v.mem) (sym is) (image_stays image s.mem
        (write_all (placed (plus s.regs.sp 65530) (sum_bytes p w)) s.mem) whole
        (λ at from. pushed_stays p w (plus s.regs.sp 65530) at s.mem high from) h)

pub handlers_run_as_takes : AcceptedIsTake → PushesRunning → PushesNone → HandlersRunAsTakes
handlers_run_as_takes law running none image instrs k flags ws s free h can =
    let t = takes law image instrs flags ws (suspended wav s) k free (image_pushed running none image s k.whole h can)
    can in
    record { writes = t.writes; free = t.free; back = t.back; steps = t.steps; same = t.same }
