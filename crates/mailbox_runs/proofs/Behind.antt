-- Behind the copy a turn is a sound form.
use Rattle.mailbox_runs.proofs.Words.{[], ◌&&◌, ◌*◌, ◌+◌, ◌<◌, ◌∷◌, ◌≡◌, ◌≤◌, Agree, agree_self, agree_with, ap}
use Rattle.mailbox_runs.proofs.Words.{applied, ap₂, AreOfSize, arith, Bool, Byte, Facts, FactsBeside, false, Firmware}
use Rattle.mailbox_runs.proofs.Words.{framed, Free, HasRoom, HoldsMail, if◌then◌else◌, inl, inr, is_free, is_hidden}
use Rattle.mailbox_runs.proofs.Words.{is_mail, is_postable, IsBox, IsGoodPost, IsWritten, last_of, Left, length, List}
use Rattle.mailbox_runs.proofs.Words.{mailed, min, nat_le, nat_lt, nat_tests, Next, next_of, not, not_mail, Ok}
use Rattle.mailbox_runs.proofs.Words.{OnStackOnly, or_parts, part_form, placed, places, plus, Post, post_writes}
use Rattle.mailbox_runs.proofs.Words.{posted_by, refl, Regs, Result, State, state_by, stepped, Stepping, subst, suc}
use Rattle.mailbox_runs.proofs.Words.{suspended, sym, Temps, true, wav, Width, Word, write_all, zero, ℕ}
use Rattle.std.specs.{Prelude.◌==◌}
use Rattle.std.proofs.{lemmas.Bool.and_parts}
use Rattle.cpu12_isa.specs.{Agreement.WritesAgree, Agreement.WritesStay, Memory.word_of}
use Rattle.cpu12_parts.specs.{declared.temps.Temps.TheVariants.Running, declared.temps.Temps.TheVariants.OnStack}
use Rattle.cpu12_parts.specs.{Parts.sum_bytes, Laws.IsOff}
use Rattle.cpu12_emul.specs.{Simulation.OnStackOrNone, Simulation.Simulates}
use Rattle.firmware_code.specs.Uninterrupted.{values_from}
use Rattle.run_law.specs.Soundness.{below_sums, Begins, Sound, WritesAreQuiet}
use Rattle.mailbox_runs.proofs.Mailing.{leaves_stack, open_post, post_mailed, mailed_over, clash}
use Rattle.eval_code.proofs.Algebra.{written_shown}
use Rattle.alone_runs.proofs.Algebra.{sp_of, step_left}

mail_true : (at : ℕ) → not_mail at ≡ false → is_mail at ≡ true
mail_true at h = cases (is_mail at) refl h
  where
    cases : (b : Bool) → is_mail at ≡ b → not b ≡ false → is_mail at ≡ true
    cases true e h = e
    cases false e h = cc

mail_low : (at : ℕ) → is_mail at ≡ true → (0x1020 ≤ at) × (at < 0x1029)
mail_low at h =
    let p = and_parts (nat_le 0x1020 at) (nat_lt at 0x1029) h in
    let a = p.0 in
    let b = p.1 in
    (grind (arith, nat_tests), grind (arith, nat_tests))

-- the mailbox is shown where only the free bytes are open
mail_shown : (sp at : ℕ) → is_mail at ≡ true → is_hidden is_free sp at ≡ false
mail_shown sp at h =
    let p = mail_low at h in
    let lo = p.0 in
    let hi = p.1 in
    let a : is_free at ≡ false = grind (arith, nat_tests) in
    let b : (nat_le 0x1FE0 at && nat_lt at sp) ≡ false = grind (arith, nat_tests) in
    rw (a, b) refl

mail_open : (at : ℕ) → is_mail at ≡ true → is_postable at ≡ true
mail_open at h = let p = mail_low at h in let lo = p.0 in let hi = p.1 in grind (arith, nat_tests)

pub to_mail : (sp : ℕ) (m k : List ℕ) → Agree (is_hidden is_free sp) m k → Agree not_mail m k
to_mail sp m k a = record { size = a.size; bytes = λ at h. a.bytes at (mail_shown sp at (mail_true at h)) }

-- writes elsewhere keep it
kept : WritesStay → (ws : List (ℕ × ℕ)) (m : List ℕ) → ((at : ℕ) → IsWritten ws at → is_mail at ≡ false)
    → Agree not_mail (write_all ws m) m
kept stay ws m away =
    let s = stay ws m in
    record { size = s.0; bytes = λ at h. s.1 at (λ w. clash (is_mail at) (mail_true at h) (away at w)) }

placed_high : (vs : List ℕ) (p at : ℕ) → 0x1FE0 ≤ p → p + length vs ≤ 0x2000 → IsWritten (placed p vs) at
    → is_mail at ≡ false
placed_high [] p at lo hi w = absurd w
placed_high (v ∷ vs) p at lo hi (inl e) = (let far : 0x1029 ≤ at = omega arith in grind (arith, nat_tests))
placed_high (v ∷ vs) p at lo hi (inr w) = placed_high vs (plus p 1) at (omega arith) (omega arith) w

-- the push of the sums
pushes_keep : Stepping → (w : State) → 0x1FF8 ≤ w.regs.sp → w.regs.sp ≤ 0x2000
    → Agree not_mail (suspended wav w).mem w.mem
pushes_keep laws w lo hi = cases w.temps refl
  where
    same : IsOff w.temps → Agree not_mail (suspended wav w).mem w.mem
    same off = subst (λ (v : State). Agree not_mail v.mem w.mem) (sym (laws.pushes_none w off))
        (agree_self not_mail w.mem)

    cases : (t : Temps) → w.temps ≡ t → Agree not_mail (suspended wav w).mem w.mem
    cases Free e = same (inl e)
    cases OnStack e = same (inr e)
    cases (Running p q) e =
        let at : 0x1FE0 ≤ plus w.regs.sp 65530 = omega arith in
        let sp : plus w.regs.sp 65530 + 6 ≤ 0x2000 = omega arith in
        let writing = laws.writing in
        subst (λ (v : State). Agree not_mail v.mem w.mem) (sym (laws.pushes_running w p q e))
        (kept writing.writes_stay (placed (plus w.regs.sp 65530) (sum_bytes p q)) w.mem
        (λ at2 h. placed_high (sum_bytes p q) (plus w.regs.sp 65530) at2 at (omega arith) h))

mail_unless : (sp at : ℕ) → is_hidden is_postable sp at ≡ false → is_mail at ≡ false
mail_unless sp at h = cases (is_mail at) refl
  where
    cases : (b : Bool) → is_mail at ≡ b → is_mail at ≡ false
    cases true e = absurd
        (clash (is_postable at) (mail_open at e) (or_parts (is_postable at) (nat_le 0x1FE0 at && nat_lt at sp) h).0)
    cases false e = e

pub steps_keep : Stepping → (flags : ℕ) (w s : State) → Facts is_postable flags s
    → Simulates OnStackOrNone is_postable w s
    → Agree not_mail (stepped flags w).mem w.mem
steps_keep laws flags w s facts l =
    let k = facts.shown in
    let writing = laws.writing in
    let e : next_of flags w ≡ applied (Ok k.left) w.mem =
    ap (λ (o : Result Left ℕ). applied o w.mem) (step_left laws.step_agrees laws.wavr_goes_on is_postable flags w s k l) in
    let low = min s.regs.sp k.left.regs.sp in
    subst (λ (o : Result Next ℕ). Agree not_mail (state_by w o).mem w.mem) (sym e)
    (kept writing.writes_stay k.left.writes w.mem
    (λ at h. mail_unless low at (written_shown (is_hidden is_postable low) k.left.writes at facts.writes h)))

-- answers stand below the mailbox
out_shown : (sp at : ℕ) → at < 0x1020 → is_hidden is_postable sp at ≡ false
out_shown sp at h =
    let a : is_postable at ≡ false = grind (arith, nat_tests) in
    let b : (nat_le 0x1FE0 at && nat_lt at sp) ≡ false = grind (arith, nat_tests) in
    rw (a, b) refl

pub values_alike : (w : Width) (m k : List ℕ) (sp at n : ℕ) → Agree (is_hidden is_postable sp) m k
    → at + places w * n ≤ 0x1020 → values_from w m at n ≡ values_from w k at n
values_alike w m k sp at zero a h = refl
values_alike Byte m k sp at (suc n) a h =
    ap₂ (λ (x : ℕ) (xs : List ℕ). x ∷ xs) (a.bytes at (out_shown sp at (omega arith)))
    (values_alike Byte m k sp (at + 1) n a (omega arith))
values_alike Word m k sp at (suc n) a h =
    ap₂ (λ (x : ℕ) (xs : List ℕ). x ∷ xs)
    (ap₂ word_of (a.bytes at (out_shown sp at (omega arith)))
    (a.bytes (at + 1) (out_shown sp (at + 1) (omega arith))))
    (values_alike Word m k sp (at + 2) n a (omega arith))

-- a handler begins with room for its frame
begun_room : (r : Regs) (t : Temps) → 0x1FEF ≤ r.sp → r.sp ≤ 0x2000
    → (0x1FE9 ≤ (below_sums r t).sp) × ((below_sums r t).sp ≤ 0x2000)
begun_room r Free lo hi = (omega arith, hi)
begun_room r OnStack lo hi = (omega arith, hi)
begun_room r (Running p w) lo hi = (omega arith, omega arith)

module _ (laws : Stepping) (flags : ℕ) (f : Firmware) (samples : List (List ℕ)) (n g : ℕ) (copied : List ℕ)
    (box : IsBox f.memory_map n) (size : AreOfSize n samples)
    (outputs : f.memory_map.outputs + places f.width * f.outputs ≤ 0x1020) where
  abbrev Holds : List (Post × Unit {0}) → State → Type 0
  Holds = HoldsMail f.memory_map samples copied

  holds_on : (done : List (Post × Unit {0})) (u w : State) → Agree not_mail u.mem w.mem → Holds done w → Holds done u
  holds_on done u w a o =
      record {
        within = o.within;
        mail =
            agree_with not_mail u.mem w.mem (mailed f.memory_map samples (posted_by done) copied) a o.mail;
      }

  one_more : (done : List (Post × Unit {0})) (p : Post) (v s : State) → IsGoodPost (length samples) p → HasRoom s
      → Begins is_postable v s → Holds done v
      → Holds ((p, tt) ∷ done) (framed (post_writes f.memory_map samples p) v)
  one_more done p v s good room begins o =
      let near = begun_room s.regs s.temps (omega (arith, room.low)) room.high in
      let lo : 0x1FE9 ≤ v.regs.sp = subst (λ (r : Regs). 0x1FE9 ≤ r.sp) (sym begins.regs) near.0 in
      let hi : v.regs.sp ≤ 0x2000 = subst (λ (r : Regs). r.sp ≤ 0x2000) (sym begins.regs) near.1 in
      let wrote = to_mail v.regs.sp _ _
      (post_mailed laws.writing f.memory_map n samples box size p v good.sample_to good.free lo hi) in
      let over = mailed_over laws.writing f.memory_map n samples box size not_mail (posted_by done) p.sample v.mem
      copied
      good.sample_to o.within o.mail in
      record {
        within = by (p.sample == 0) o.within good.sample_to;
        mail = agree_with not_mail _ (mailed f.memory_map samples p.sample v.mem)
            (mailed f.memory_map samples (last_of (posted_by done) p.sample) copied) wrote over;
      }
    where
      by : (b : Bool) → posted_by done ≤ length samples → p.sample ≤ length samples
          → (if b then posted_by done else p.sample) ≤ length samples
      by true h k = h
      by false h k = k

  pub sound_behind : WritesAgree → WritesAreQuiet
      → Sound OnStackOnly is_postable (part_form flags f samples g) (FactsBeside is_postable flags f)
      (IsGoodPost (length samples)) (HoldsMail f.memory_map samples copied)
  sound_behind agree quiet = record {
    apart = leaves_stack;
    shown = λ s p. (let facts = p.facts in facts.shown);
    gives = λ x w s l. l;
    leaves = λ x w s l. l;
    answers = λ w s l. values_alike f.width w.mem s.mem s.regs.sp f.memory_map.outputs f.outputs l.mem
        outputs;
    ends = λ m w s l. ap (λ (r : Regs). nat_lt g (g + m) && (r.pc == f.memory_map.wait)) l.regs;
    quiet = λ done a v s good p may begins own.
        (let facts = p.facts in
        let shown = facts.shown in (
          quiet OnStackOnly is_postable (post_writes f.memory_map samples a) v s leaves_stack
              (open_post laws.writing f.memory_map n samples box size a good.sample_to good.free) shown.room begins,
          one_more done a v s good shown.room begins own,
        ));
    leaves_open = record {
      leaves = λ done x w o. o;
      pushes = λ done w s p l o.
          (let near = sp_of is_postable w s p.stack l in holds_on done (suspended wav w) w (pushes_keep laws w near.0 near.1) o);
      steps = λ done w s p l o. holds_on done (stepped flags w) w (steps_keep laws flags w s p.facts l) o;
    };
  }
