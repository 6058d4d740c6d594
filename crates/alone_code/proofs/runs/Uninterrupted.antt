-- The uninterrupted answers of a firmware that stands alone.
use Rattle.alone_code.proofs.Words.{[], ℕ, ◌-◌, ◌∙◌, ◌∷◌, ◌≡◌, answer, arith, Block, Firmware, FirmwareAnswers, given}
use Rattle.alone_code.proofs.Words.{image_memory, is_free, length, List, refl, State}
use Rattle.firmware_code.specs.Uninterrupted.{AreAnswersOf, AreAnswersTo, is_waiting}
use Rattle.firmware_code.specs.Interruptible.{is_idle}
use Rattle.cpu12_emul.specs.Step.{reset_with}
use Rattle.alone_code.specs.Uninterrupted.{answers_by, AnsweredAreUninterrupted, FirmwareIsUninterrupted}
use Rattle.cpu12_parts.specs.Executions.{IsUntil}
use Rattle.alone_code.specs.Answers.{AreAnswered}
use Rattle.firmware_code.proofs.Algebra.{arrival, count_from, uninterrupted, value_from, waits}

-- the answers of samples that are answered
seen : (b : Block) (f : Firmware) (image : List ℕ) (flags : ℕ) (before : ℕ → ℕ) (samples : List (List ℕ)) (s : State)
    → f.outputs ≡ length b.outputs
    → (h : AreAnswered f.memory_map b f.width f.instr_bound image flags before samples s)
    → AreAnswersTo f flags samples (answers_by b f image flags before samples s h) s
    × AreAnswersOf f.width b f.instr_bound before samples (answers_by b f image flags before samples s h)
seen b f image flags before [] s e h = (tt, tt)
seen b f image flags before (bytes ∷ samples) s e h =
    let w = f.width in
    let one = h.1.0 in
    let rest = seen b f image flags (λ o. answer w b o bytes (before o)) samples h.0 e h.1.1 in
    let until : IsUntil (is_idle f.memory_map) flags one.ds (given f.memory_map bytes s) h.0 =
    record {
      execution =
          uninterrupted is_free f.memory_map image flags one.ds (given f.memory_map bytes s) h.0 one.execution;
      stopped =
          one.idle;
    } in (
      (h.0, (record { ds = one.ds; until = until; values = refl; instructions = refl }, rest.0)),
      (
        record {
          values = λ o lo hi. value_from w h.0.mem f.memory_map.outputs f.outputs (o - 1)
              (answer w b o bytes (before o))
              (omega arith) (one.answers o lo hi);
          count = count_from w h.0.mem f.memory_map.outputs f.outputs ∙ e;
          instructions = one.instructions;
        },
        rest.1,
      ),
    )

pub answered_are_uninterrupted : AnsweredAreUninterrupted
answered_are_uninterrupted b f flags samples s e a h =
    let l = f.memory_map in
    let image = image_memory f.image.bytes in
    let both = seen b f image flags (λ o. 0) samples s e h in
    let arrived : IsUntil (is_waiting l) flags ((0 ∷ 0 ∷ 0 ∷ [])) (reset_with image) s =
    record { execution = arrival l flags 3 (reset_with image) s a.execution; stopped = waits l s a.wait } in
    (record { first = s; ds = 0 ∷ 0 ∷ 0 ∷ []; arrived = arrived; each = both.0 }, both.1)

pub firmware_is_uninterrupted : FirmwareAnswers → FirmwareIsUninterrupted
firmware_is_uninterrupted firmware_answers b f v limits h flags samples fits all =
    let r = firmware_answers b f v limits h flags samples fits all in (
      answers_by b f (image_memory f.image.bytes) flags (λ o. 0) samples r.0 r.1.1,
      answered_are_uninterrupted b f flags samples r.0 h.outputs r.1.0 r.1.1,
    )
