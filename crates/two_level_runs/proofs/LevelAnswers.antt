-- Runs at two levels answer.
use Rattle.two_level_runs.proofs.Words.{[], ◌∙◌, ◌≡◌, ◌≤◌, All, all_onto, ap, AreOnStack, AreTold, Byte, FactsBeside}
use Rattle.two_level_runs.proofs.Words.{fast_most, FastSeen, FastStands, first_two, FirstAlike, joint_memory}
use Rattle.two_level_runs.proofs.Words.{is_open_to_fast, IsGoodLevel, length, Level, two_level_form, levels_of, List, map}
use Rattle.two_level_runs.proofs.Words.{OnStackOrNone, Option, plan_of, RequestsAreGood, Rows, rows_of_samples}
use Rattle.two_level_runs.proofs.Words.{RowSeen, StandsBeside, State, step_bound, subst, sym, taken_by, TakenAtOnce}
use Rattle.two_level_runs.proofs.Words.{TwoStandBeside, ℕ, AllComplete, answer_of_fast, AreInputBytes, arith, bytes_of}
use Rattle.two_level_runs.proofs.Words.{slow_alone}
use Rattle.run_law.specs.{Following.AllFollow, Following.RunsFollow}
use Rattle.alone_runs.specs.{Rows.first_state, Rows.firmware_rows, Answering.FirstStatesAlike}
use Rattle.alone_runs.specs.{Answering.FirstStatesAgree}
use Rattle.firmware_runs.specs.{Facts.FactsAlone}
use Rattle.two_level_runs.specs.{Levels.Levels, Rows.two_level_parts, Rows.two_rows, Answering.fast_runs_of}
use Rattle.two_level_runs.specs.{Answering.AnswersUnderLevels, Answering.UninterruptedValues}
use Rattle.firmware_code.specs.Uninterrupted.{AreAnswersOf}
use Rattle.alone_code.specs.{Firmwares.IsFirmwareOf, Uninterrupted.FirmwareIsUninterrupted}
use Rattle.firmware_code.specs.Uninterrupted as whole
use Rattle.firmware_code.specs.declared.firmware.Firmware.{Firmware}
use Rattle.two_level_code.specs.Images.{IsAlone}
use Rattle.alone_runs.specs.Following.{AllWait}
use Rattle.byte_scaling.specs.declared.width.Width.{Width}
use Rattle.std.proofs.lemmas.List.Elements.{All-map}
use Rattle.std.proofs.lemmas.Simd.{map-map}
use Rattle.alone_runs.specs.Answering.{AnswerBlock, AnswersUnder, AnswersUnderPlans, RunsBeside, FirmwareRunsBeside}
use Rattle.run_forms.proofs.Algebra.{all_onto_all}
use Rattle.alone_runs.proofs.Algebra.{all_complete}
use Rattle.two_level_runs.proofs.{Arriving.first_stands, LevelPlans.plan_good, LevelPlans.levels_are_good}
use Rattle.two_level_runs.proofs.LevelSound.{level_gives, level_sound}
use Rattle.two_level_runs.proofs.LevelTelling.{steps_are, rows_told}
use Rattle.two_level_runs.proofs.FastRuns.{Answer, runs_in, runs_are, all_answers, all_told, few_steps}
use Rattle.two_level_runs.proofs.LevelRows.{SlowFacts, same_numbers, same_rows, same_taken, rows_low, on_stack}
use Rattle.two_level_runs.proofs.LevelServing.{LevelLaws, Given, code_is, few_outputs}
use Rattle.two_level_runs.proofs.Telling.{values_are_one}

-- the laws of lower crates, and the law on runs
pub record AnswerLaws : Type 0 where
  pub levels : LevelLaws
  pub two_stand_beside : TwoStandBeside
  pub firmware_runs_beside : FirmwareRunsBeside
  pub first_states_alike : FirstStatesAlike
  pub first_states_agree : FirstStatesAgree
  pub taken_at_once : TakenAtOnce
  pub answers_under_plans : AnswersUnderPlans
  pub requests_are_good : RequestsAreGood
  pub firmware_is_uninterrupted : FirmwareIsUninterrupted
  pub runs_follow : (x : Levels)
      → RunsFollow OnStackOrNone is_open_to_fast (two_level_form x.flags x.two x.samples)
      (FactsBeside is_open_to_fast x.flags (slow_alone x.slow x.two))
      (IsGoodLevel (length x.samples)) (FastStands x.fast x.two x.samples)

pub answers_under_levels : AnswerLaws → AnswersUnderLevels
answers_under_levels laws two flags slow_samples samples levels hf good slow fast vs ls vf lf is slow_inputs inputs =
    record {
      arrived = followed.arrived;
      rows_are = rows_are;
      slow_answers = subst (λ (rows : List (RowSeen (List ℕ))). AnswerBlock slow alone flags slow_samples rows)
          (sym rows_are) under.answers;
      taken = followed.taken
          ∙ same_taken laws.taken_at_once flags slow two samples levels 1 runs.ns slow_samples first runs.complete
          ∙ ap (λ (rows : List (RowSeen (List ℕ))). taken_by 1 levels (map (λ (r : RowSeen (List ℕ)). r.steps) rows))
          (sym rows_of);
      ns = runs.ns;
      complete = complete;
      simulates = followed.simulates;
      low = rows_low flags slow two samples runs.ns slow_samples all.states first runs.complete waits followed.simulates
          followed.boundaries;
      code = λ k ws lt j w l. (let o = followed.owns k ws lt j w l in let stands = o.1 in stands.code);
      fast_numbers = numbered;
      fast_answers = answers;
      fast_uninterrupted = uninterrupted;
      fast_steps = subst (λ (fs : List FastSeen). All (λ (f : FastSeen). f.steps ≤ fast_most two.fast.step_bound) fs)
          (sym fast_are)
          (subst (λ (n : ℕ). All (λ (f : FastSeen). f.steps ≤ fast_most n) (runs_in all.told)) (sym bound)
          (all_told fast two flags samples (λ f. f.steps ≤ fast_most (step_bound Byte fast))
          (few_steps fast two flags samples) [] all.told runs.ns slow_samples first told));
      told = subst (λ (ns : List ℕ). AreTold fast two flags samples [] all.told ns slow_samples first)
          (sym (ap (map (λ (r : RowSeen (List ℕ)). r.steps)) rows_of
          ∙ steps_are flags slow two (plan_of levels) 1 runs.ns slow_samples first runs.complete)) told;
      stack = subst (λ (rows : List (RowSeen (List ℕ))). All (λ (r : RowSeen (List ℕ)). AreOnStack r.frames) rows)
          (sym rows_of)
          (on_stack flags slow two (plan_of levels) 1 runs.ns slow_samples first runs.complete);
    }
  where
    x : Given
    x = record {
      laws = laws.levels;
      slow = slow;
      fast = fast;
      two = two;
      flags = flags;
      samples = samples;
      flags_fit = hf;
      slow_valid = vs;
      slow_limits = ls;
      fast_valid = vf;
      fast_limits = lf;
      is_two = is;
      inputs = inputs;
    }

    alone : Firmware
    alone = slow_alone slow two

    firmware : IsFirmwareOf slow alone
    firmware = (let its = is.alone in its.firmware)

    stand : StandsBeside slow fast two
    stand = (laws.two_stand_beside slow fast two vs ls vf lf is).0

    runs : RunsBeside is_open_to_fast alone flags slow_samples
    runs = laws.firmware_runs_beside is_open_to_fast slow alone flags slow_samples hf stand.leaves vs ls firmware
        slow_inputs

    first : State
    first = first_state alone flags

    alike : FirstAlike is_open_to_fast alone flags (joint_memory two) (first_two two flags)
    alike =
        laws.first_states_alike is_open_to_fast slow alone flags (joint_memory two) hf stand.leaves vs
        ls firmware
        stand.alike

    begins : FastStands fast two samples [] (first_two two flags)
    begins =
        (let level_laws = laws.levels in
        let bytes = level_laws.bytes in
        first_stands bytes.step_fits slow fast two flags samples hf (few_outputs x) stand alike)

    setting : Levels
    setting = record {
      two = two;
      slow = slow;
      fast = fast;
      flags = flags;
      samples = samples;
      sound =
          level_sound x stand.leaves runs.low;
    }

    all : Rows (List ℕ) Level (Option FastSeen)
    all = two_rows two slow_samples samples levels flags

    complete : AllComplete (SlowFacts flags slow two) (two_level_form flags two samples) runs.ns slow_samples first
    complete =
        all_complete (SlowFacts flags slow two) flags alone (two_level_parts two samples) runs.ns slow_samples first
        runs.complete

    followed : AllFollow OnStackOrNone is_open_to_fast (two_level_form flags two samples) (FastStands fast two samples) []
        (λ k. levels_of k levels) 1 runs.ns slow_samples first all
    followed =
        laws.runs_follow setting (λ k. levels_of k levels)
        (levels_are_good laws.requests_are_good (length samples) levels good) [] 1
        two.firmware.step_bound runs.ns slow_samples (first_two two flags) first runs.within
        (λ k d lt. level_gives x stand.leaves _ (slow_inputs k d lt))
        complete
        (laws.first_states_agree is_open_to_fast alone flags (joint_memory two)
        (first_two two flags) alike)
        begins

    own : FastStands fast two samples (all_onto all.told []) all.state
    own = followed.own

    under : AnswersUnder slow alone flags slow_samples (plan_of levels)
        (firmware_rows alone slow_samples (plan_of levels) flags).rows
    under =
        laws.answers_under_plans alone flags slow_samples (plan_of levels) hf
        (plan_good (length samples) levels good) slow vs ls
        firmware slow_inputs

    rows_of : all.rows ≡ rows_of_samples flags alone (plan_of levels) 1 runs.ns slow_samples first
    rows_of = followed.rows_are
        ∙ same_rows laws.taken_at_once flags slow two samples levels 1 runs.ns slow_samples first runs.complete

    numbers : runs.ns ≡ under.ns
    numbers =
        same_numbers (SlowFacts flags slow two) (FactsAlone flags alone) flags alone runs.ns under.ns slow_samples
        first runs.complete
        under.complete

    waits : AllWait flags alone runs.ns slow_samples first
    waits = subst (λ (ns : List ℕ). AllWait flags alone ns slow_samples first) (sym numbers) under.waits

    rows_are : all.rows ≡ (firmware_rows alone slow_samples (plan_of levels) flags).rows
    rows_are =
        rows_of ∙ ap (λ (ns : List ℕ). rows_of_samples flags alone (plan_of levels) 1 ns slow_samples first) numbers
        ∙ sym under.rows_are

    fast_are : fast_runs_of two slow_samples samples levels flags ≡ runs_in all.told
    fast_are = runs_are (two_level_form flags two samples) two.firmware.step_bound (λ k. levels_of k levels) 1
        slow_samples (first_two two flags)

    told : AreTold fast two flags samples [] all.told runs.ns slow_samples first
    told = rows_told x laws.taken_at_once [] all.told runs.ns slow_samples first runs.complete
        (all_onto_all (λ (t : Level × Option FastSeen). IsGoodLevel (length samples) t.0) all.told [] own.good).0
        followed.told

    bound : two.fast.step_bound ≡ step_bound Byte fast
    bound = (let of_fast = code_is x in of_fast.steps)

    fast_runs : List FastSeen
    fast_runs = fast_runs_of two slow_samples samples levels flags

    numbered : All (λ (f : FastSeen). (1 ≤ f.number) × (f.number ≤ length samples)) fast_runs
    numbered =
        subst (λ (fs : List FastSeen). All (λ (f : FastSeen). (1 ≤ f.number) × (f.number ≤ length samples)) fs)
        (sym fast_are)
        (all_told fast two flags samples (λ f. (1 ≤ f.number) × (f.number ≤ length samples))
        (λ before at l f h. (h.from, h.to)) [] all.told runs.ns slow_samples first told)

    answers : Answer fast two samples (λ o. 0) fast_runs
    answers = subst (λ (fs : List FastSeen). Answer fast two samples (λ o. 0) fs) (sym fast_are)
        (all_answers fast two samples all.told [] own.answers).0

    -- the samples of the fast runs
    given : List (List ℕ)
    given = map (λ (f : FastSeen). bytes_of samples f.number) fast_runs

    given_fit : All (AreInputBytes fast) given
    given_fit = All-map (AreInputBytes fast) (λ (f : FastSeen). bytes_of samples f.number) fast_runs
        (λ k f lt. (let n = numbered k f lt in inputs _ [] (omega (arith, n.0, n.1))))

    uninterrupted : (f : Firmware) → IsAlone fast f
        → UninterruptedValues f flags given (map (λ (f : FastSeen). f.answers) fast_runs)
    uninterrupted f alone =
        (let r = laws.firmware_is_uninterrupted fast f vf lf alone.firmware flags given hf given_fit in
        let byte = subst (λ (w : Width). AreAnswersOf w fast f.instr_bound (λ o. 0) given r.0) alone.width
        r.1.1 in (
          r.0,
          (
            r.1.0,
            values_are_one Byte fast f.instr_bound (fast_most two.fast.instr_bound) (λ o. 0) given r.0
                (map answer_of_fast fast_runs) byte answers
                ∙ map-map (λ (a : whole.Answer). a.values) answer_of_fast fast_runs,
          ),
        ))
