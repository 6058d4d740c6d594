-- The code looks at POSTED.
use Rattle.mailbox_code.proofs.Words.{ℕ, ◌+◌, ◌==◌, ◌∙◌, ◌≡◌, ◌≤◌, after_plain, ap, arith, Beq, Bool, false, get_or}
use Rattle.mailbox_code.proofs.Words.{has, if◌then◌else◌, is_free, is_postable, IsAt, IsChoice, IsLook, LdaaExtended}
use Rattle.mailbox_code.proofs.Words.{mailbox_map, nat_lt, plus, refl, State, true}
use Rattle.eval_code.proofs.Algebra.{masked_tested, zero_tested}
use Rattle.firmware_code.proofs.Algebra.{low_shown}
use Rattle.mailbox_code.proofs.turns.Posting.{Post, HasTurn, free_ctx, lives_of, at_of}

pub look_run : (p : Post) → HasTurn p → (s : State) → IsAt p.image 0xC008 s
    → (t : State) × IsLook (mailbox_map p.n) p.image p.flags s t
look_run p h s at =
    let l = lives_of is_postable false p.image s at.steady in
    let w =
    p.laws.masked (free_ctx p) false false s 0xC008 0xC00B (LdaaExtended 0x1028) l at.pc (omega arith)
    (omega arith) h.look refl (omega arith) (low_shown is_free s.regs.sp 0x1028 refl (omega arith), tt) tt tt refl (ap (λ (m : Bool × Bool). m.0) (masked_tested s.regs.ccr _ _) ∙ l.mask)
    (omega (arith, at.pc)) in (
      after_plain p.flags (LdaaExtended 0x1028) s,
      record {
        step = w.shown;
        at = at_of p 0xC00B _ w.lives w.pc_is (omega arith) (omega arith) at.sp;
        found = zero_tested s.regs.ccr _ (get_or s.mem 0x1028 0 == 0);
        mem = refl;
      },
    )

-- to where the code waits, or on
jump_to : (z : Bool) (pc : ℕ) → pc ≡ 0xC00B
    → (if z then plus (plus pc 2) (if nat_lt 0xFB 128 then 0xFB else 0xFB + 65280) else plus pc 2)
    ≡ (if z then 0xC008 else 0xC00D)
jump_to true pc e = omega arith
jump_to false pc e = omega arith

jump_low : (z : Bool) → 0xC000 ≤ (if z then 0xC008 else 0xC00D)
jump_low true = omega arith
jump_low false = omega arith

jump_high : (z : Bool) → (if z then 0xC008 else 0xC00D) + 6 ≤ 0xD000
jump_high true = omega arith
jump_high false = omega arith

pub choose_run : (p : Post) → HasTurn p → (s : State) → IsAt p.image 0xC00B s
    → (t : State) × IsChoice (mailbox_map p.n) p.image p.flags s t
choose_run p h s at =
    let l = lives_of is_postable false p.image s at.steady in
    let z = has s.regs.ccr 2 in
    let w =
    p.laws.masked (free_ctx p) false false s 0xC00B (if z then 0xC008 else 0xC00D) (Beq 0xFB) l at.pc (omega arith)
    (omega arith) h.rest.0.decoded refl (omega arith) tt tt tt refl l.mask
    (jump_to z s.regs.pc at.pc) in (
      after_plain p.flags (Beq 0xFB) s,
      record {
        step = w.shown;
        at =
            at_of p (if z then 0xC008 else 0xC00D) _ w.lives w.pc_is (jump_low z) (jump_high z) at.sp;
        mem = refl;
      },
    )
