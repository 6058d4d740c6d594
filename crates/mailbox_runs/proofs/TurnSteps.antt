-- Turns from where the code waits.
use Rattle.mailbox_runs.proofs.Words.{◌+◌, ◌<◌, ◌==◌, ◌^◌, ◌∙◌, ◌∷◌, ◌≡◌, All, all_steps, answer, answered_alone, ap}
use Rattle.mailbox_runs.proofs.Words.{ap₂, AreInputBytes, arith, Beq, Block, Bool, bytes_of, counted, Firmware}
use Rattle.mailbox_runs.proofs.Words.{get_or, given, has, if◌then◌else◌, image_memory, InstructionsAreSteps, is_idle}
use Rattle.mailbox_runs.proofs.Words.{is_part, IsAnswerRun, IsAt, IsIdleRun, IsLook, IsMailboxOf, IsUntil, kind_by}
use Rattle.mailbox_runs.proofs.Words.{LdaaExtended, length, List, nat_tests, Next, next_of, not, Ok, one_if, Plain}
use Rattle.mailbox_runs.proofs.Words.{PlainIsOneStep, Result, State, state_by, subst, suc, sym, true, uninterrupted}
use Rattle.mailbox_runs.proofs.Words.{values_in, zero_result, ℕ}
use Rattle.firmware_code.specs.Uninterrupted.{IsAnswerTo}
use Rattle.mailbox_code.specs.SampleTurns.{TakesSamples}
use Rattle.eval_code.specs.{Evaluation.HasAnswers}
use Rattle.mailbox_code.specs.Turns.{TakesTurns}
use Rattle.mailbox_runs.proofs.{Looking.AreAlike, Looking.idle_alike, Looking.same_look, SampleRuns.sample_run}
use Rattle.mailbox_runs.proofs.Alone.{IsAlone, alone, same_alone}

-- what turns stand on
pub record Setting (b : Block) (f : Firmware) (flags : ℕ) (samples : List (List ℕ)) : Type 0 where
  pub plain_is_one_step : PlainIsOneStep
  pub instructions_are_steps : InstructionsAreSteps
  pub mailbox : IsMailboxOf b f
  pub fits : flags < 2 ^ 8
  pub turns : TakesTurns f.memory_map b f.width f.instr_bound (image_memory f.image.bytes) flags
  pub takes : TakesSamples f.memory_map b f.width f.instr_bound (image_memory f.image.bytes) flags
  pub bytes : All (AreInputBytes b) samples

-- the code waits, no sample is posted, and the outputs are the answers before
pub record Waits (b : Block) (f : Firmware) (before : ℕ → ℕ) (s : State) : Type 0 where
  pub at : IsAt (image_memory f.image.bytes) f.memory_map.wait s
  pub cleared : get_or s.mem f.memory_map.sample_flag 0 ≡ 0
  pub outputs : HasAnswers f.memory_map b f.width before s.mem

-- an idle turn
pub record Idled (b : Block) (f : Firmware) (flags : ℕ) (before : ℕ → ℕ) (s t : State) : Type 0 where
  pub run : IsIdleRun f flags s
  pub goes : uninterrupted flags 2 s ≡ t
  pub waits : Waits b f before t
  pub alike : (u : State) → AreAlike s u → AreAlike t u

abbrev chosen : ℕ → Bool → ℕ
chosen wait z = if z then wait else wait + 5

pub idled : (b : Block) (f : Firmware) (flags : ℕ) (samples : List (List ℕ)) (before : ℕ → ℕ) (s : State)
    → Setting b f flags samples → Waits b f before s
    → (t : State) × Idled b f flags before s t
idled b f flags samples before s x h =
    let l = f.memory_map in
    let image = image_memory f.image.bytes in
    let at = h.at in
    let state = at.steady in
    let turns = x.turns in
    let look = turns.looks s at in
    let looked = look.0 in
    let look_at = look.1.at in
    let state1 = look_at.steady in
    let choice = turns.chooses looked look_at in
    let t = choice.0 in
    let none : (get_or s.mem l.sample_flag 0 == 0) ≡ true = (let e = h.cleared in grind (arith, nat_tests)) in
    let z : has looked.regs.ccr zero_result ≡ true = look.1.found ∙ none in
    let back : IsAt image l.wait t = subst (λ (y : Bool). IsAt image (chosen l.wait y) t) z choice.1.at in
    let mem : t.mem ≡ s.mem = choice.1.mem ∙ look.1.mem in
    let next = x.plain_is_one_step flags (LdaaExtended l.sample_flag) s looked state.temps
    (let shown = look.1.step in shown.step) in
    let next2 = x.plain_is_one_step flags (Beq 0xFB) looked t state1.temps (let shown = choice.1.step in shown.step) in
    let first : uninterrupted flags 1 s ≡ looked = ap (state_by s) next in
    let second : uninterrupted flags 2 s ≡ t = ap (uninterrupted flags 1) first ∙ ap (state_by looked) next2 in
    let fit = state.fits in (
      t,
      record {
        run = record { looked = looked; chosen = t; look = look.1; choice = choice.1; first = first; second = second };
        goes = second;
        waits = record {
          at = back;
          cleared = ap (λ (m : List ℕ). get_or m l.sample_flag 0) mem ∙ h.cleared;
          outputs = subst (HasAnswers l b f.width before) (sym mem) h.outputs;
        };
        alike = λ u same. idle_alike l image flags s looked t u look.1 choice.1 fit.ccr (back.pc ∙ sym at.pc) same;
      },
    )

-- A turn that answers sample k from s, in n steps, where u is like s.
pub record Answered (b : Block) (f : Firmware) (flags : ℕ) (samples : List (List ℕ)) (before : ℕ → ℕ) (k : ℕ)
    (s u : State) (n : ℕ) : Type 0 where
  pub run : IsAnswerRun f flags n (given f.memory_map (bytes_of samples k) s)
  pub steps : (answered_alone flags f samples k u).steps ≡ n
  pub state : (answered_alone flags f samples k u).state
      ≡ uninterrupted flags n (given f.memory_map (bytes_of samples k) s)
  pub waits : Waits b f (λ o. answer f.width b o (bytes_of samples k) (before o))
      (uninterrupted flags n (given f.memory_map (bytes_of samples k) s))
  pub answer_is : IsAnswerTo f flags (bytes_of samples k) u (answered_alone flags f samples k u).state (record {
    values = values_in f (uninterrupted flags n (given f.memory_map (bytes_of samples k) s));
    instructions = counted flags n (given f.memory_map (bytes_of samples k) s);
  })

-- the turn from one state
record Single (b : Block) (f : Firmware) (flags : ℕ) (samples : List (List ℕ)) (before : ℕ → ℕ) (k : ℕ)
    (s : State) : Type 0 where
  t : State
  ds : List ℕ
  looked : State
  look : IsLook f.memory_map (image_memory f.image.bytes) flags (given f.memory_map (bytes_of samples k) s) looked
  next : next_of flags (given f.memory_map (bytes_of samples k) s) ≡ Ok (record { state = looked; kind = Plain })
  counts : counted flags (all_steps ds) looked ≡ length ds
  goes : uninterrupted flags (suc (all_steps ds)) (given f.memory_map (bytes_of samples k) s) ≡ t
  run : IsAnswerRun f flags (suc (all_steps ds)) (given f.memory_map (bytes_of samples k) s)
  until : IsUntil (is_idle f.memory_map) flags (0 ∷ ds) (given f.memory_map (bytes_of samples k) s) t
  waits : Waits b f (λ o. answer f.width b o (bytes_of samples k) (before o)) t
  ran : IsAlone flags (suc (all_steps ds)) (given f.memory_map (bytes_of samples k) s)
      (answered_alone flags f samples k s)

single : (b : Block) (f : Firmware) (flags : ℕ) (samples : List (List ℕ)) (before : ℕ → ℕ) (k : ℕ) (s : State)
    → Setting b f flags samples
    → AreInputBytes b (bytes_of samples k) → Waits b f before s → Single b f flags samples before k s
single b f flags samples before k s x i h =
    let bytes = bytes_of samples k in
    let g = given f.memory_map bytes s in
    let at = h.at in
    let state = at.steady in
    let takes = x.takes in
    let one = takes.answers before bytes s i at h.outputs in
    let turned = one.1.turned in
    let back = turned.at in
    let r = sample_run x.plain_is_one_step x.instructions_are_steps b f flags before bytes s one.0 x.mailbox x.fits
    state.temps one.1 in
    let steps = r.steps in
    let run = r.run in
    let looked = one.1.looked in
    let next : Next = record { state = looked; kind = Plain } in
    let there : uninterrupted flags 1 g ≡ looked = ap (state_by g) r.next in
    record {
      t = one.0;
      ds = r.ds;
      looked = looked;
      look = one.1.look;
      next = r.next;
      counts = steps.counts;
      goes = ap (uninterrupted flags (all_steps r.ds)) there ∙ steps.goes;
      run = run;
      until = r.until;
      waits = record { at = back; cleared = one.1.cleared; outputs = turned.answers };
      ran = alone flags f samples (all_steps r.ds) f.step_bound g next run.within r.next steps.each
          (ap (λ (v : State). v.regs.pc) steps.goes ∙ back.pc);
    }

-- the first step of a turn counts
counts_first : (flags n : ℕ) (g looked : State) → next_of flags g ≡ Ok (record { state = looked; kind = Plain })
    → counted flags (suc n) g ≡ suc (counted flags n looked)
counts_first flags n g looked e =
    ap (λ (o : Result Next ℕ). one_if (not (is_part (kind_by o))) + counted flags n (state_by g o)) e ∙ omega arith

-- two states that are alike have one turn
pub answered : (b : Block) (f : Firmware) (flags : ℕ) (samples : List (List ℕ)) (before : ℕ → ℕ) (k : ℕ) (s u : State)
    → Setting b f flags samples
    → AreInputBytes b (bytes_of samples k) → Waits b f before s → Waits b f before u → AreAlike s u
    → (n : ℕ) × Answered b f flags samples before k s u n
answered b f flags samples before k s u x i hs hu alike =
    let bytes = bytes_of samples k in
    let g = given f.memory_map bytes s in
    let a = single b f flags samples before k s x i hs in
    let c = single b f flags samples before k u x i hu in
    let looks : a.looked ≡ c.looked =
    same_look f.memory_map (image_memory f.image.bytes) flags bytes s u a.looked c.looked a.look c.look alike in
    let n = suc (all_steps a.ds) in
    let m = suc (all_steps c.ds) in
    let run = a.run in
    let ran = a.ran in
    let ran' = c.ran in
    let next : next_of flags (given f.memory_map bytes u) ≡ Ok (record { state = a.looked; kind = Plain }) =
    c.next ∙ ap plain (sym looks) in
    let same = same_alone flags f samples f.step_bound g (given f.memory_map bytes u)
    (record { state = a.looked; kind = Plain }) (let le = run.within in omega (arith, le)) a.next next in
    let steps : (answered_alone flags f samples k u).steps ≡ n = sym same.0 ∙ ran.steps in
    let state : (answered_alone flags f samples k u).state ≡ uninterrupted flags n g = sym same.1 ∙ ran.state in
    let counts : counted flags n g ≡ length (0 ∷ c.ds) =
    counts_first flags (all_steps a.ds) g a.looked a.next
    ∙ ap suc (ap₂ (λ (j : ℕ) (v : State). counted flags j v)
    (let e : suc (all_steps a.ds) ≡ suc (all_steps c.ds) = sym steps ∙ ran'.steps in omega (arith, e)) looks
    ∙ c.counts) in
    let end : c.t ≡ (answered_alone flags f samples k u).state = sym c.goes ∙ sym ran'.state in (
      n,
      record {
        run = run;
        steps = steps;
        state = state;
        waits = subst (Waits b f (λ o. answer f.width b o bytes (before o))) (sym a.goes) a.waits;
        answer_is = record {
          ds = 0 ∷ c.ds;
          until = subst (IsUntil (is_idle f.memory_map) flags (0 ∷ c.ds) (given f.memory_map bytes u)) end c.until;
          values = ap (values_in f) (sym state);
          instructions = counts;
        };
      },
    )
  where
    plain : State → Result Next ℕ
    plain v = Ok (record { state = v; kind = Plain })
