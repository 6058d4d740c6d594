-- The rows of a run whose interrupts run code.
use Rattle.std.proofs.Common.{◌≡◌, ℕ, suc, ◌<◌, ◌^◌, List, [], ◌∷◌, refl, ap, sym, ◌∙◌, subst}
use Rattle.std.specs.Prelude.{All, map}
use Rattle.std.proofs.lemmas.Simd.{map-map}
use Rattle.fuzzy_meaning.specs.{declared.block.Block.Block, Blocks.IsValid}
use Rattle.rule_layout.specs.Layouts.{IsWithinLimits}
use Rattle.cpu12_isa.specs.Regions.{is_hidden}
use Rattle.cpu12_isa.proofs.Algebra.{agree_self}
use Rattle.cpu12_parts.specs.State.{State}
use Rattle.cpu12_emul.specs.{Image.HoldsImage, Simulation.OnStackOnly}
use Rattle.run_law.specs.{Forms.RowSeen, Uninterrupted.uninterrupted}
use Rattle.run_law.specs.Following.{AllComplete, RunsFollow, expected_row, expected_rows}
use Rattle.handler_check.specs.Images.{IsHandler}
use Rattle.interrupt_plan.specs.{declared.Request.Request, Plans.IsGoodRequest, Plans.IsGood}
use Rattle.eval_code.specs.{declared.memory_map.MemoryMap.MemoryMap, Firing.AreInputBytes}
use Rattle.firmware_code.specs.{declared.firmware.Firmware.Firmware, Arrivals.LeavesMapped}
use Rattle.alone_code.specs.Firmwares.{IsFirmwareOf}
use Rattle.firmware_runs.specs.Ports.{given}
use Rattle.alone_runs.specs.{Forms.with_writes, Following.RunsFollowBeside, Given.RequestsAreGood}
use Rattle.alone_runs.specs.OpenBytes.{GivenLeavesOpen}
use Rattle.alone_runs.specs.Rows.{requests_of, first_state}
use Rattle.alone_runs.specs.Answering.{FirmwareRunsBeside, FirstAlike, FirstStatesAlike, FirstStatesAgree}
use Rattle.run_forms.specs.{Showing.RowsAreShown, Rows.tellings}
use Rattle.firmware_runs.specs.Facts.{FactsBeside}
use Rattle.run_forms.proofs.Algebra.{map-shown_rows, all_onto_all}
use Rattle.alone_runs.proofs.Algebra.{all_complete, given_leaves}
use Rattle.handled_runs.specs.{Open.is_open_to_code, Joint.joint_memory, declared.back.HandlerEnd.HandlerEnd}
use Rattle.handled_runs.specs.Forms.{code_parts, with_code, first_handled, handled_rows, steps_of, HandledSeen}
use Rattle.handled_runs.specs.Forms.{with_steps}
use Rattle.handled_runs.specs.Answering.{AnswersHandled, CameBack, HandledAnswers}
use Rattle.handled_runs.specs.SoundHandledProof.{CodeLaws, Handled, HandlerStands, opens_free, stands}
use Rattle.handled_runs.proofs.Beginnings.{code_leaves, joint_agrees, joint_has, first_stands}

-- the rows that are expected are those of listed writes
expected : (flags : ℕ) (f : Firmware) (asks : ℕ → List Request) (k : ℕ) (ns : List ℕ)
    (samples : List (List ℕ)) (s : State)
    → expected_rows (with_code flags f) asks k ns samples s ≡ expected_rows (with_writes flags f) asks k ns samples s
expected flags f asks k [] samples s = refl
expected flags f asks k (n ∷ ns) [] s = refl
expected flags f asks k (n ∷ ns) (x ∷ xs) s =
    let u = given f.memory_map x s in
    ap (λ (rows : List (RowSeen (List ℕ))). expected_row (with_writes flags f) (asks k) n x u ∷ rows)
    (expected flags f asks (suc k) ns xs (uninterrupted flags n u))

-- the laws of lower crates, and the law on runs
pub record Laws : Type 0 where
  pub code : CodeLaws
  pub given_leaves_open : GivenLeavesOpen
  pub holds_image : HoldsImage
  pub firmware_runs_beside : FirmwareRunsBeside
  pub first_states_alike : FirstStatesAlike
  pub first_states_agree : FirstStatesAgree
  pub runs_follow_beside : RunsFollowBeside
  pub requests_are_good : RequestsAreGood
  pub rows_are_shown : RowsAreShown (List ℕ) Request HandlerEnd
  pub runs_follow : (x : Handled)
      → RunsFollow OnStackOnly is_open_to_code (with_code x.flags x.firmware)
      (FactsBeside is_open_to_code x.flags x.firmware) IsGoodRequest (HandlerStands x.handler x.most)

comes_back : Laws → (b : Block) (f : Firmware) (handler : List (ℕ × ℕ)) (most flags : ℕ) (samples : List (List ℕ))
    (plan : List Request) → flags < 2 ^ 8 → IsGood plan → IsHandler handler most → IsValid b → IsWithinLimits b
    → IsFirmwareOf b f → All (AreInputBytes b) samples → AnswersHandled f handler most flags samples plan
comes_back laws b f handler most flags samples plan hf good is v limits h all =
    let leaves : LeavesMapped is_open_to_code f.memory_map =
    subst (λ (l : MemoryMap). LeavesMapped is_open_to_code l) (sym h.memory_map) code_leaves in
    let runs = laws.firmware_runs_beside is_open_to_code b f flags samples hf leaves v limits h all in
    let ns = runs.ns in
    let mem = joint_memory f.image.bytes handler in
    let w = first_handled f handler flags in
    let s = first_state f flags in
    let alike : FirstAlike is_open_to_code f flags mem w =
    laws.first_states_alike is_open_to_code b f flags mem hf leaves v limits h
    (joint_agrees laws.holds_image f.image.bytes handler is.whole) in
    let begins : HandlerStands handler most [] w =
    first_stands f flags handler most mem w is.whole alike
    (joint_has laws.holds_image f.image.bytes handler is.whole) in
    let x : Handled = record {
      laws = laws.code;
      flags = flags;
      firmware = f;
      low = runs.low;
      handler = handler;
      most = most;
      is_handler = is;
    } in
    let asks : ℕ → List Request = λ k. requests_of k plan in
    let completes : AllComplete (FactsBeside is_open_to_code flags f) (with_code flags f) ns samples s =
    all_complete (FactsBeside is_open_to_code flags f) flags f (code_parts f) ns samples s runs.complete in
    let code = laws.runs_follow x asks (laws.requests_are_good plan good) [] 1 f.step_bound ns samples w s runs.within
    (λ k d lt done u own. stands handler most done u _ is.whole
    (given_leaves laws.given_leaves_open is_open_to_code f.memory_map h.memory_map leaves b v _ (all k d lt) u) own)
    completes (laws.first_states_agree is_open_to_code f flags mem w alike) begins in
    let listed = laws.runs_follow_beside is_open_to_code flags f opens_free runs.low asks
    (laws.requests_are_good plan good) [] 1 f.step_bound ns samples s s runs.within
    (λ k d lt done u own. tt) runs.complete
    (record { regs = refl; temps = refl; mem = agree_self (is_hidden is_open_to_code s.regs.sp) s.mem }) tt in
    let own = code.own in
    record {
      arrived = code.arrived;
      rows_are = code.rows_are ∙ expected flags f asks 1 ns samples s ∙ sym listed.rows_are;
      ns = ns;
      complete = completes;
      simulates = code.simulates;
      code = λ k vs lt j v l. (let o = code.owns k vs lt j v l in let stands = o.1 in stands.image);
      back = (all_onto_all (CameBack most) (handled_rows f handler samples plan flags).told [] own.back).0;
    }

-- the rows as they are shown
pub handled_answers : Laws → HandledAnswers
handled_answers laws f handler most flags samples plan hf good is b v limits h all =
    let run = handled_rows f handler samples plan flags in
    let are = laws.rows_are_shown (with_code flags f) f.step_bound (λ k. requests_of k plan) 1 samples
    (first_handled f handler flags) in
    let under = comes_back laws b f handler most flags samples plan hf good is v limits h all in
    record {
      listed = map-shown_rows (λ (r : HandledSeen). r.row) with_steps run.rows run.told ∙ are.rows ∙ under.rows_are;
      run = under;
      steps = map-shown_rows (λ (r : HandledSeen). r.handler) with_steps run.rows run.told
          ∙ sym (map-shown_rows steps_of (λ (row : RowSeen (List ℕ)) (ends : List HandlerEnd). ends) run.rows run.told)
          ∙ ap (λ (ends : List (List HandlerEnd)). map steps_of ends) are.told
          ∙ map-map steps_of (λ (ts : List (Request × HandlerEnd)). tellings ts) run.told;
    }
