-- From the image of a firmware with watched tables to its answers.
use Rattle.watched_code.proofs.Words.{[], ◌++◌, ◌+◌, ◌<◌, ◌^◌, ◌∙◌, ◌∷◌, ◌≡◌, ◌≤◌, All, ap, AreWatchAnswered, arith}
use Rattle.watched_code.proofs.Words.{Block, block_code, block_items, Byte, Change, code_bytes, code_length, FitCode}
use Rattle.watched_code.proofs.Words.{FreeBytesLeave, given_by, HasParts, inl, inr, instruction_bound, is_free}
use Rattle.watched_code.proofs.Words.{IsApart, IsRising, IsValid, IsWithinLimits, length, length-append, List}
use Rattle.watched_code.proofs.Words.{main_map, MemoryMap, None, Option, refl, Rts, segments_of, Setting, Some, State}
use Rattle.watched_code.proofs.Words.{subst, sym, vector_items, Watched, watched_bound, watched_front, watched_items}
use Rattle.watched_code.proofs.Words.{ℕ}
use Rattle.cpu12_asm.specs.{Bytes.Holds}
use Rattle.eval_code.specs.{Code.eval_code, Placed.IsInOrder, Placed.BlockRises, Placed.BlockIsShort}
use Rattle.eval_code.specs.{Placed.BlockHasParts, Standing.CodeIsBytes}
use Rattle.byte_scaling.specs.Cells.{NearestIsByte}
use Rattle.firmware_code.specs.{Arrivals.IsArrived, Standing.HasFirmware, Frames.Arrived, Settings.IsShut}
use Rattle.firmware_code.specs.Standing.{ImageHasFirmware}
use Rattle.watched_code.specs.{WatchedCode.watched_map, Watched.IsTableChange, Watched.IsGoodSample}
use Rattle.watched_code.specs.{Watched.WatchedAnswers, Watched.WatchedIsBytes}
use Rattle.cpu12_emul.specs.Image.{image_memory}
use Rattle.firmware_code.proofs.Algebra.{not_free}
use Rattle.watched_code.proofs.{watching.Adding.count_in, watching.Laws.WatchingLaws, watching.Located.located}
use Rattle.watched_code.proofs.watching.Fronts.{IsWatchedMap, length-more, length-bad, length-front, fits_front}
use Rattle.watched_code.proofs.watching.Fronts.{fit_defaults, start_bytes}
use Rattle.watched_code.proofs.watching.Tables.{are_segments, are_apart, are_few, stand, counted}
use Rattle.watched_code.proofs.watching.Law.{Grounds, MayChange, AreGood, are_answered}

-- the code before EVAL is short
pub short_front : (b : Block) → IsValid b → code_length (watched_front main_map b) ≤ 97
short_front b v = omega (
  arith,
  length-front main_map b.outputs (segments_of main_map b),
  length-bad main_map b.outputs v.few_outputs,
  are_few b,
)

watched_apart : (b : Block) → IsValid b → IsApart (watched_map b)
watched_apart b v =
    let short = short_front b v in
    record {
      inputs = omega arith;
      outputs = omega arith;
      slots = omega arith;
      eval = omega arith;
      eval_end = omega arith;
      tables = omega arith;
      tables_end = omega arith;
      singletons = omega arith;
      singletons_end = omega arith;
      weights = omega arith;
      weights_end = omega arith;
      rules = omega arith;
      rules_end = omega arith;
    }

is_watched_map : (b : Block) → IsValid b → IsWatchedMap (watched_map b) b.outputs (segments_of main_map b)
is_watched_map b v = record {
  started = record {
    low = omega arith;
    high = omega arith;
    wait = refl;
    ready = omega arith;
    apart =
        inl (omega arith);
  };
  ready = omega arith;
  samples = refl;
  apart = watched_apart b v;
  eval = refl;
  few = v.few_outputs;
  few_segments = are_few b;
}

watched_in_order : (b : Block) → IsValid b → IsInOrder (watched_map b) (watched_front main_map b) (Rts ∷ [])
watched_in_order b v =
    let short = short_front b v in
    record {
      eval = refl;
      code = omega arith;
      tables = omega arith;
      singletons = omega arith;
      weights = omega arith;
      rules = omega arith;
    }

-- its items can be placed, and are few
pub watched_rise : BlockRises → (b : Block) → IsValid b → IsWithinLimits b → IsRising (watched_items b)
watched_rise rises b v limits =
    let l = watched_map b in
    rises 0 l b Byte (watched_front main_map b) (Rts ∷ []) (vector_items l) (watched_in_order b v) v limits
    (omega arith) (omega arith, (omega arith, omega arith))

pub length-watched_items : BlockIsShort → (b : Block) → IsValid b → IsWithinLimits b → length (watched_items b) < 2 ^ 32
length-watched_items brief b v limits =
    let short = short_front b v in
    let l = watched_map b in
    let front = watched_front main_map b in
    omega (
      arith,
      length-append (block_items l b Byte front (Rts ∷ [])) (vector_items l),
      brief l b Byte front (Rts ∷ []) v limits,
    )

-- the image of a firmware, and what is known of its block
record Founded (laws : WatchingLaws) (b : Block) (image : List (ℕ × ℕ)) : Type 0 where
  valid : IsValid b
  limits : IsWithinLimits b
  holds : Holds image (given_by (watched_items b))

parts : (laws : WatchingLaws) (b : Block) (image : List (ℕ × ℕ)) → Founded laws b image → HasParts main_map b
parts laws b image h = laws.parts main_map b h.valid h.limits

fits : NearestIsByte → BlockHasParts → (b : Block) → IsValid b → IsWithinLimits b → FitCode (watched_front main_map b)
fits nearest has_parts b v limits =
    let few = v.few_outputs in
    let bad = length-bad main_map b.outputs few in
    fits_front main_map b.outputs (segments_of main_map b) (omega arith) (omega arith)
    (fit_defaults nearest b.outputs v.outputs) (omega arith) (are_segments b (has_parts main_map b v limits))

-- what stands in its memory
module _ (nearest : NearestIsByte) (has_parts : BlockHasParts) (code_is_bytes : CodeIsBytes)
    (has_firmware : ImageHasFirmware) where
  in_memory : (b : Block) (image : List (ℕ × ℕ)) → IsValid b → IsWithinLimits b
      → Holds image (given_by (watched_items b))
      → HasFirmware (watched_map b) b Byte (watched_front main_map b) (image_memory image)
  in_memory b image v limits h =
      let short = short_front b v in
      let front = watched_front main_map b in
      has_firmware image (watched_map b) b Byte front (watched_in_order b v) (watched_apart b v)
      (record { from = omega arith; to = omega arith }) (omega arith)
      (code_is_bytes front (fits nearest has_parts b v limits)) (omega arith) (omega arith) v limits h

  pub watched_is_bytes : WatchedIsBytes
  watched_is_bytes b f v limits h = (in_memory b f.image.bytes v limits h.image.bytes).bytes

firmware : (laws : WatchingLaws) (b : Block) (image : List (ℕ × ℕ)) → Founded laws b image
    → HasFirmware (watched_map b) b Byte (watched_front main_map b) (image_memory image)
firmware laws b image h = in_memory laws.nearest_is_byte laws.parts laws.code_is_bytes laws.firmware b image h.valid
    h.limits h.holds

bound_is : (b : Block) → instruction_bound Byte b + 4 + count_in (segments_of main_map b) ≡ watched_bound b
unfolding watched_bound
bound_is b = ap (λ (n : ℕ). instruction_bound Byte b + 4 + n) (counted (segments_of main_map b))

shut : FreeBytesLeave → (b : Block) → IsShut is_free (watched_map b)
shut free b = record {
  reads = free.reads;
  writes = free.writes;
  stack = free.stack;
  code = λ at from to. free.code at from (omega arith);
  low = omega arith;
  high = omega arith;
}

-- the run of its image
abbrev over : WatchingLaws → Block → List ℕ → (flags : ℕ) → flags < 2 ^ 8 → Setting
over laws b image flags fits =
    record {
      stays_fit = laws.stays_fit;
      decodes = laws.decodes;
      open_to = is_free;
      memory_map = watched_map b;
      shut = shut laws.free b;
      image =
          image;
      flags = flags;
      fits = fits;
    }

grounds : (laws : WatchingLaws) (b : Block) (image : List (ℕ × ℕ)) (flags : ℕ) (fits : flags < 2 ^ 8)
    → Founded laws b image
    → Grounds (over laws b (image_memory image) flags fits) b (segments_of main_map b) (watched_bound b)
grounds laws b image flags fits h =
    let mem = image_memory image in
    let data_parts = parts laws b image h in
    let all = firmware laws b image h in
    let here = all.stands in
    let short = short_front b h.valid in
    record {
      valid = h.valid;
      limits = h.limits;
      laws = laws;
      memory_map = is_watched_map b h.valid;
      outputs_end = omega arith;
      slots_from = omega arith;
      free = refl;
      above = λ at from. not_free at (inr (omega arith));
      ready_shown = refl;
      fault_shown = refl;
      defaults = fit_defaults laws.nearest_is_byte b.outputs h.valid.outputs;
      are = are_segments b data_parts;
      apart = are_apart b data_parts;
      most_is = bound_is b;
      size = all.size;
      bytes = all.bytes;
      front = here.front;
      front_end = omega arith;
      routine = all.routine;
      stands = stand mem b here.eval.tables here.eval.singletons here.eval.weights here.eval.rules;
    }

arrived : (laws : WatchingLaws) (b : Block) (image : List (ℕ × ℕ)) (flags : ℕ) (fits : flags < 2 ^ 8)
    → Founded laws b image → Arrived (over laws b (image_memory image) flags fits) b Byte
arrived laws b image flags fits h =
    let l = watched_map b in
    let mem = image_memory image in
    let front = watched_front main_map b in
    let all = firmware laws b image h in
    laws.arrives (over laws b mem flags fits) b Byte front (is_watched_map b h.valid).started
    (watched_apart b h.valid) h.valid
    (start_bytes mem l b.outputs (segments_of main_map b) all.stands.front) all

-- the code ends below the tables
code_end : (laws : WatchingLaws) (b : Block) (image : List (ℕ × ℕ)) → Founded laws b image
    → (let l = watched_map b in
    l.code + length (code_bytes (block_code l b Byte (watched_front main_map b) (Rts ∷ []))) ≤ l.tables)
code_end laws b image h =
    let l = watched_map b in
    let front = watched_front main_map b in
    let eval = eval_code l b Byte in
    let room = (firmware laws b image h).stands.room in
    omega (arith, short_front b h.valid, length-more front (eval ++ Rts ∷ []), length-more eval (Rts ∷ []), room)

-- good samples of the definition
may_change : (laws : WatchingLaws) (b : Block) (image : List (ℕ × ℕ)) (flags : ℕ) (fits : flags < 2 ^ 8)
    (change : Option Change) → Founded laws b image
    → IsTableChange (watched_map b) image change
    → MayChange (over laws b (image_memory image) flags fits) (segments_of main_map b) change
may_change laws b image flags fits None h x = tt
may_change laws b image flags fits (Some c) h x =
    let l = watched_map b in
    let front = watched_front main_map b in
    let end = code_end laws b image h in
    let low = x.0 in
    let high = x.1 in
    record {
      low = x.0;
      high = omega arith;
      within = located laws.at_parts c.0 l b Byte front (Rts ∷ []) (omega arith) x.1 (λ e. x.2 (h.holds.bytes c.0 ∙ e));
      fits = x.3;
    }

-- from the first arrival on, the samples are answered within a bound
abbrev Answers : MemoryMap → Block → ℕ → List ℕ → ℕ → List Watched → Type 0
Answers l b most image flags samples =
    (s : State) × (IsArrived l image flags s × AreWatchAnswered l b most image flags (λ o. 0) samples s)

from_arrival : (laws : WatchingLaws) (b : Block) (image : List ℕ) (flags : ℕ) (fits : flags < 2 ^ 8)
    (samples : List Watched)
    → Grounds (over laws b image flags fits) b (segments_of main_map b) (watched_bound b)
    → AreGood (over laws b image flags fits) b (segments_of main_map b) samples
    → Arrived (over laws b image flags fits) b Byte → Answers (watched_map b) b (watched_bound b) image flags samples
from_arrival laws b image flags fits samples h all a =
    let c = over laws b image flags fits in
    let at = a.home.pc_is in (
      a.t,
      (
        record {
          execution = a.execution;
          wait = at;
          idle = laws.idle c a.t a.home.live at a.home.ready_is;
          interruptible =
              laws.interruptible c a.t a.home.live (omega arith) (omega arith);
        },
        are_answered c b (segments_of main_map b) (watched_bound b) samples (λ o. 0) a.t h a.home all,
      ),
    )

main_answers : (laws : WatchingLaws) (b : Block) (image : List (ℕ × ℕ)) (flags : ℕ) (samples : List Watched) → IsValid b
    → IsWithinLimits b
    → Holds image (given_by (watched_items b)) → flags < 2 ^ 8 → All (IsGoodSample b (watched_map b) image) samples
    → Answers (watched_map b) b (watched_bound b) (image_memory image) flags samples
main_answers laws b image flags samples v limits h fits all =
    let founded : Founded laws b image = record { valid = v; limits = limits; holds = h } in
    from_arrival laws b (image_memory image) flags fits samples (grounds laws b image flags fits founded)
    (λ k d lt. (let good = all k d lt in (good.bytes, may_change laws b image flags fits _ founded good.change)))
    (arrived laws b image flags fits founded)

pub watched_answers : WatchingLaws → WatchedAnswers
watched_answers laws b f v limits h flags samples fits all =
    let image = f.image.bytes in
    let good : All (IsGoodSample b (watched_map b) image) samples =
    subst (λ (l : MemoryMap). All (IsGoodSample b l image) samples) h.memory_map all in
    subst (λ (l : MemoryMap). Answers l b f.instr_bound (image_memory image) flags samples) (sym h.memory_map)
    (subst (λ (most : ℕ). Answers (watched_map b) b most (image_memory image) flags samples) (sym h.instructions)
    (main_answers laws b image flags samples v limits h.image.bytes fits good))
