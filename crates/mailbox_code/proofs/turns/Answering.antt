-- The turn of a sample, and the uninterrupted answers of the mailbox form.
use Rattle.mailbox_code.proofs.Words.{[], ℕ, ◌*◌, ◌++◌, ◌+◌, ◌-◌, ◌<◌, ◌==◌, ◌^◌, ◌∙◌, ◌∷◌, ◌≡◌, ◌≤◌, ap, AreInputBytes}
use Rattle.mailbox_code.proofs.Words.{arith, Beq, Block, Bool, bytes_of, Execution, execution_on, false, get_or}
use Rattle.mailbox_code.proofs.Words.{get_or-set_same, has, HasAnswers, HasBytes, if◌then◌else◌, image_memory, inl, inr}
use Rattle.mailbox_code.proofs.Words.{is_postable, IsAt, IsChoice, IsCopied, IsLook, IsMaskedStep, IsValid}
use Rattle.mailbox_code.proofs.Words.{LdaaExtended, length, length-append, List, LowerLaws, mailbox_map}
use Rattle.mailbox_code.proofs.Words.{MailboxTakesPosts, MemoryMap, nat_tests, Orcc, places, refl, State, subst, suc}
use Rattle.mailbox_code.proofs.Words.{sym, TakesTurns, Width, zero}
use Rattle.std.proofs.Common.{All}
use Rattle.firmware_code.specs.Uninterrupted.{Answer, AreAnswersOf, AreAnswersTo, values_in}
use Rattle.eval_code.specs.Widths.{answer}
use Rattle.eval_code.proofs.Algebra.{bytes_put_out, bytes_set_out, has_put, length-put, same_bytes, bytes_by}
use Rattle.firmware_code.specs.declared.firmware.Firmware.{Firmware}
use Rattle.firmware_code.specs.Arrivals.{given}
use Rattle.firmware_code.specs.Interruptible.{is_idle}
use Rattle.cpu12_parts.specs.Executions.{IsStepBefore}
use Rattle.eval_code.specs.Evaluation.{put}
use Rattle.cpu12_emul.specs.Step.{reset_with}
use Rattle.mailbox_code.specs.Turns.{MailboxIsUninterrupted, call_of}
use Rattle.mailbox_code.specs.SampleTurns.{IsSampleTurn, TakesSamples, MailboxTakesSamples}
use Rattle.firmware_code.proofs.Algebra.{answer_room, arrival, count_from, idles, not_at, not_ready, uninterrupted}
use Rattle.firmware_code.proofs.Algebra.{value_from, waits}
use Rattle.mailbox_code.proofs.turns.Posting.{Post, post_ctx, lives_of, at_of}

abbrev Before : Post → ℕ → State → State → Type 0
Before p = IsStepBefore (is_idle (mailbox_map p.n)) p.flags

-- masked steps are whole instructions of a code that does not wait
masked : (p : Post) (ds : List ℕ) (s t : State) → Execution (IsMaskedStep (mailbox_map p.n) p.image p.flags) ds s t
    → Execution (Before p) ds s t
masked p [] s t e = e
masked p (d ∷ ds) s t e = (
  e.0,
  (
    record {
      on = not_at (mailbox_map p.n) s s.regs.pc refl e.1.0.away;
      step =
          inl (e.1.0.instruction, (e.1.0.shown.step, e.1.0.single));
    },
    masked p ds e.0 t e.1.1,
  ),
)

-- the state in which a sample is posted
record Posted (p : Post) (b : Block) (w : Width) (bytes : List ℕ) (before : ℕ → ℕ) (g : State) : Type 0 where
  at : IsAt p.image 0xC008 g
  posted : get_or g.mem 0x1028 0 ≡ 1
  mail : HasBytes g.mem 0x1020 bytes
  outputs : HasAnswers (mailbox_map p.n) b w before g.mem

posted_in : (p : Post) (b : Block) (w : Width) (bytes : List ℕ) (before : ℕ → ℕ) (s : State) → length bytes ≤ 8
    → All (λ v. v < 2 ^ 8) bytes → length b.outputs ≤ 4
    → IsAt p.image 0xC008 s → HasAnswers (mailbox_map p.n) b w before s.mem
    → Posted p b w bytes before (given (mailbox_map p.n) bytes s)
posted_in p b w bytes before s few fit outs at answers =
    let g = given (mailbox_map p.n) bytes s in
    let m = put s.mem 0x1020 bytes in
    let size = at.steady.size in
    let lm : length m ≡ 65536 = length-put s.mem 0x1020 bytes ∙ size in
    let l = p.laws.given (post_ctx p) bytes s (lives_of is_postable false p.image s at.steady) fit (omega arith)
    (omega arith) in
    record {
      at = at_of p 0xC008 g l at.pc (omega arith) (omega arith) at.sp;
      posted = get_or-set_same m 0x1028 1 0 (omega arith);
      mail = bytes_set_out m 0x1028 1 0x1020 bytes (inl (omega arith)) (has_put s.mem 0x1020 bytes (omega arith));
      outputs = λ o lo hi.
          (let q = 0x1010 + places w * (o - 1) in
          let vs = bytes_of w (before o) in
          let room = answer_room w o (before o) lo (omega arith) in
          bytes_set_out m 0x1028 1 q vs (inl (omega arith))
          (bytes_put_out s.mem 0x1020 bytes q vs (inl (omega arith)) (answers o lo hi)));
    }

-- bytes copied one by one
copied_bytes : (m n : List ℕ) (from to : ℕ) (bytes : List ℕ) → HasBytes m from bytes
    → ((k : ℕ) → k < length bytes → get_or n (to + k) 0 ≡ get_or m (from + k) 0) → HasBytes n to bytes
copied_bytes m n from to bytes h e = bytes_by n to bytes (λ k lt. e k lt ∙ at_byte m from bytes k lt h)
  where
    at_byte : (m : List ℕ) (p : ℕ) (bs : List ℕ) (k : ℕ) → k < length bs → HasBytes m p bs
        → get_or m (p + k) 0 ≡ get_or bs k 0
    at_byte m p [] k lt h = absurd (omega arith)
    at_byte m p (b ∷ bs) zero lt h = let e : p + 0 ≡ p = omega arith in ap (λ (q : ℕ). get_or m q 0) e ∙ h.0
    at_byte m p (b ∷ bs) (suc k) lt h = let e : p + suc k ≡ p + 1 + k = omega arith in ap (λ (q : ℕ). get_or m q 0) e
        ∙ at_byte m (p + 1) bs k (omega arith) h.1

-- to the copy's end
record Fetched (p : Post) (b : Block) (w : Width) (bytes : List ℕ) (before : ℕ → ℕ) (ds : List ℕ)
    (g t : State) : Type 0 where
  execution : Execution (Before p) (0 ∷ 0 ∷ 0 ∷ ds) g t
  at : IsAt p.image (call_of (mailbox_map p.n) (length b.inputs)) t
  cleared : get_or t.mem 0x1028 0 ≡ 0
  inputs : HasBytes t.mem 0x1001 bytes
  outputs : HasAnswers (mailbox_map p.n) b w before t.mem

abbrev chosen : Bool → ℕ
chosen z = if z then 0xC008 else 0xC00D

fetched : (p : Post) (b : Block) (w : Width) (bytes : List ℕ) (before : ℕ → ℕ) (g s1 s2 s4 : State)
    → length b.inputs ≤ 8 → length b.outputs ≤ 4 → length bytes ≡ length b.inputs → Posted p b w bytes before g
    → IsLook (mailbox_map p.n) p.image p.flags g s1 → IsChoice (mailbox_map p.n) p.image p.flags s1 s2
    → s2.regs.pc ≡ 0xC00D
    → (copy : IsCopied (mailbox_map p.n) (length b.inputs) p.image p.flags s2 s4)
    → Fetched p b w bytes before copy.ds g s4
fetched p b w bytes before g s1 s2 s4 few outs count h look choice at2 copy =
    let l = mailbox_map p.n in
    let s3 = copy.masked in
    let mem2 : s2.mem ≡ g.mem = choice.mem ∙ look.mem in
    let on1 : Before p 0 g s1 =
    record { on = not_ready l g h.posted; step = inl (LdaaExtended 0x1028, (look.step.step, refl)) } in
    let on2 : Before p 0 s1 s2 =
    record {
      on = not_at l s1 0xC00B look.at.pc (λ e. omega arith);
      step =
          inl (Beq 0xFB, (choice.step.step, refl));
    } in
    let on3 : Before p 0 s2 s3 =
    record { on = not_at l s2 0xC00D at2 (λ e. omega arith); step = inl (Orcc 0x10, (copy.sets.step, refl)) } in
    record {
      execution = (s1, (on1, (s2, (on2, (s3, (on3, masked p copy.ds s3 s4 copy.copies))))));
      at = copy.at;
      cleared = copy.cleared;
      inputs = copied_bytes g.mem s4.mem 0x1020 0x1001 bytes h.mail
          (λ k lt. copy.inputs k (omega arith) ∙ ap (λ (m : List ℕ). get_or m (0x1020 + k) 0) mem2);
      outputs = λ o lo hi.
          (let q = 0x1010 + places w * (o - 1) in
          let vs = bytes_of w (before o) in
          let room = answer_room w o (before o) lo (omega arith) in
          same_bytes g.mem s4.mem q vs
          (λ k from to. copy.elsewhere k (inr (omega arith)) (λ e. omega arith)
          ∙ ap (λ (m : List ℕ). get_or m k 0) mem2) (h.outputs o lo hi));
    }

-- from where the code waits back to there
answered : (p : Post) (b : Block) (w : Width) (most : ℕ) (before : ℕ → ℕ) (bytes : List ℕ) (s : State)
    → TakesTurns (mailbox_map p.n) b w most p.image p.flags
    → length b.inputs ≤ 8 → length b.outputs ≤ 4 → AreInputBytes b bytes → IsAt p.image 0xC008 s
    → HasAnswers (mailbox_map p.n) b w before s.mem
    → (t : State) × IsSampleTurn (mailbox_map p.n) b w most p.image p.flags before bytes s t
answered p b w most before bytes s turns few outs i at answers =
    let l = mailbox_map p.n in
    let g = given l bytes s in
    let count = i.count in
    let h = posted_in p b w bytes before s (omega arith) i.fit outs at answers in
    let look = turns.looks g h.at in
    let choice = turns.chooses look.0 look.1.at in
    let some : (get_or g.mem 0x1028 0 == 0) ≡ false = (let e = h.posted in grind (arith, nat_tests)) in
    let z : has look.0.regs.ccr 2 ≡ false = look.1.found ∙ some in
    let at2 : IsAt p.image 0xC00D choice.0 = subst (λ (y : Bool). IsAt p.image (chosen y) choice.0) z choice.1.at in
    let copy = turns.copies choice.0 at2 in
    let f = fetched p b w bytes before g look.0 choice.0 copy.0 few outs count h look.1 choice.1 at2.pc copy.1 in
    let turn = turns.evaluates bytes before copy.0 i f.at f.inputs f.outputs in
    let back : get_or turn.0.mem 0x1028 0 ≡ 0 = turn.1.mail 0x1028 refl ∙ f.cleared in
    let ds : List ℕ = let c : IsCopied l (length b.inputs) p.image p.flags choice.0 copy.0 = copy.1 in c.ds in (
      turn.0,
      record {
        looked = look.0;
        look = look.1;
        chosen = choice.0;
        choice = choice.1;
        on = at2;
        called = copy.0;
        copy = copy.1;
        turned = turn.1;
        cleared = back;
        until = record {
          execution = execution_on (Before p) (0 ∷ 0 ∷ 0 ∷ ds) turn.1.ds g copy.0 turn.0 f.execution
              (uninterrupted is_postable l p.image p.flags turn.1.ds copy.0 turn.0 turn.1.execution);
          stopped = idles l turn.0 turn.1.at.pc back;
        };
      },
    )

-- from the first arrival
takes_samples : (p : Post) (b : Block) (w : Width) (most : ℕ) → TakesTurns (mailbox_map p.n) b w most p.image p.flags
    → IsValid b
    → TakesSamples (mailbox_map p.n) b w most p.image p.flags
takes_samples p b w most turns v =
    let r = turns.arrives in
    record {
      first = r.0;
      ready = r.1;
      arrived = record {
        execution = arrival (mailbox_map p.n) p.flags 3 (reset_with p.image) r.0 r.1.execution;
        stopped =
            waits (mailbox_map p.n) r.0 r.1.at.pc;
      };
      answers = λ before bytes s i at outs. answered p b w most before bytes s turns v.few_inputs
          v.few_outputs i at outs;
    }

pub mailbox_takes_samples : LowerLaws → MailboxTakesPosts → MailboxTakesSamples
mailbox_takes_samples laws law b f flags v limits h fits =
    let image = image_memory f.image.bytes in
    let w = f.width in
    let p : Post = record {
      laws = laws;
      n = length b.inputs;
      few = v.few_inputs;
      image = image;
      flags = flags;
      fits = fits;
    } in
    let turns : TakesTurns (mailbox_map (length b.inputs)) b w f.instr_bound image flags =
    subst (λ (k : MemoryMap). TakesTurns k b w f.instr_bound image flags) h.memory_map (law b f v limits h flags fits)
    in
    subst (λ (k : MemoryMap). TakesSamples k b w f.instr_bound image flags) (sym h.memory_map)
    (takes_samples p b w f.instr_bound turns v)

-- a list of samples
abbrev Both : Firmware → Block → ℕ → (ℕ → ℕ) → List (List ℕ) → State → List Answer → Type 0
Both f b flags before samples s answers =
    AreAnswersTo f flags samples answers s × AreAnswersOf f.width b f.instr_bound before samples answers

more : (f : Firmware) (b : Block) (flags : ℕ) (before : ℕ → ℕ) (bytes : List ℕ) (samples : List (List ℕ)) (s t : State)
    → f.outputs ≡ length b.outputs
    → IsSampleTurn f.memory_map b f.width f.instr_bound (image_memory f.image.bytes) flags before bytes s t
    → (rest : List Answer) → Both f b flags (λ o. answer f.width b o bytes (before o)) samples t rest
    → (answers : List Answer) × Both f b flags before (bytes ∷ samples) s answers
more f b flags before bytes samples s t e one rest both =
    let w = f.width in
    let copy = one.copy in
    let turned = one.turned in
    let ds : List ℕ = 0 ∷ 0 ∷ 0 ∷ (copy.ds ++ turned.ds) in (
      record { values = values_in f t; instructions = length ds } ∷ rest,
      (
        (t, (record { ds = ds; until = one.until; values = refl; instructions = refl }, both.0)),
        (
          record {
            values = λ o lo hi. value_from w t.mem f.memory_map.outputs f.outputs (o - 1)
                (answer w b o bytes (before o))
                (omega arith) (turned.answers o lo hi);
            count = count_from w t.mem f.memory_map.outputs f.outputs ∙ e;
            instructions = omega (arith, length-append copy.ds turned.ds, copy.count, turned.instructions);
          },
          both.1,
        ),
      ),
    )

all_answered : (f : Firmware) (b : Block) (flags : ℕ) (before : ℕ → ℕ) (samples : List (List ℕ)) (s : State)
    → f.outputs ≡ length b.outputs
    → TakesSamples f.memory_map b f.width f.instr_bound (image_memory f.image.bytes) flags
    → All (AreInputBytes b) samples
    → IsAt (image_memory f.image.bytes) f.memory_map.wait s → HasAnswers f.memory_map b f.width before s.mem
    → (answers : List Answer) × Both f b flags before samples s answers
all_answered f b flags before [] s e takes all at outs = ([], (tt, tt))
all_answered f b flags before (bytes ∷ samples) s e takes all at outs =
    let one = takes.answers before bytes s (all 0 bytes (omega arith)) at outs in
    let turned = one.1.turned in
    let rest = all_answered f b flags (λ o. answer f.width b o bytes (before o)) samples one.0 e takes
    (λ k d lt. all (suc k) d (omega arith)) turned.at turned.answers in
    more f b flags before bytes samples s one.0 e one.1 rest.0 rest.1

pub mailbox_is_uninterrupted : MailboxTakesSamples → MailboxIsUninterrupted
mailbox_is_uninterrupted law b f v limits h flags samples fits all =
    let takes = law b f flags v limits h fits in
    let ready = takes.ready in
    let rest = all_answered f b flags (λ o. 0) samples takes.first h.outputs takes all ready.at ready.outputs in
    (rest.0, (record { first = takes.first; ds = 0 ∷ 0 ∷ 0 ∷ []; arrived = takes.arrived; each = rest.1.0 }, rest.1.1))
