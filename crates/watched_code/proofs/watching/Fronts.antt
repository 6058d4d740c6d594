-- The code before EVAL of a firmware with watched tables: its size, and where it stands.
use Rattle.watched_code.proofs.Words.{[], ◌*◌, ◌++◌, ◌+◌, ◌-◌, ◌<◌, ◌^◌, ◌∙◌, ◌∷◌, ◌≡◌, ◌≤◌, All, ap, arith, bad_code}
use Rattle.watched_code.proofs.Words.{check_byte, ClrExtended, code_bytes, code_length, Dec, default_code}
use Rattle.watched_code.proofs.Words.{defaults_code, encode_of, false, fault_at, FitCode, FrameCallsAndLeaves}
use Rattle.watched_code.proofs.Words.{HasBytes, Instr, InstructionsStand, IsApart, LdabImmediate, length}
use Rattle.watched_code.proofs.Words.{length-append, List, MemoryMap, nearest_byte, NearestIsByte, None, Option}
use Rattle.watched_code.proofs.Words.{option_map, Output, refl, Rts, Segment, segment_bytes, segment_code}
use Rattle.watched_code.proofs.Words.{segments_code, Setting, Some, Stands, subst, suc, watched_front_over, ℕ}
use Rattle.cpu12_isa.specs.declared.instr.Instr.TheVariants.{LdaaExtended, Beq, Bra, JsrExtended, Rti}
use Rattle.watched_code.specs.WatchedCode.{back_to_bad, check_code, bad_at, check_at}
use Rattle.std.specs.{Prelude.IfSome}
use Rattle.fuzzy_meaning.specs.{Blocks.IsValidOutput, Blocks.IsWithin}
use Rattle.firmware_code.specs.Frames.{IsStarted, start_code, IsFramed}
use Rattle.firmware_code.specs.{Code.frame_code}
use Rattle.std.proofs.lemmas.Grind.{flat_map-append}
use Rattle.eval_code.proofs.Algebra.{length-le-code_size, length-code_bytes, bytes_front, bytes_back, fit_append}
use Rattle.watched_code.proofs.watching.Adding.{IsShutAbove, AreSegments}
use Rattle.watched_code.proofs.watching.Checking.{HasCheck, decision}
use Rattle.watched_code.proofs.watching.Defaults.{FitDefault, FitDefaults, default_byte}
use Rattle.watched_code.proofs.watching.Sampling.{calling, HasFront}

-- lengths
pub length-more : (a b : List Instr) → code_length (a ++ b) ≡ code_length a + code_length b
length-more a b = ap length (flat_map-append encode_of a b) ∙ length-append (code_bytes a) (code_bytes b)

length-segments : (gs : List Segment) → code_length (segments_code gs) ≡ 10 * length gs
length-segments [] = refl
length-segments (g ∷ gs) = length-more (segment_code g) (segments_code gs) ∙ omega (arith, length-segments gs)

length-default : (at : ℕ) (byte : Option ℕ) → code_length (default_code at byte) ≤ 5
length-default at None = omega arith
length-default at (Some byte) = omega arith

length-defaults : (at : ℕ) (os : List Output) → code_length (defaults_code at os) ≤ 5 * length os
length-defaults at [] = omega arith
length-defaults at (o ∷ os) =
    omega (
      arith,
      length-more (default_code at (default_byte o)) (defaults_code (at + 1) os),
      length-default at (default_byte o),
      length-defaults (at + 1) os,
    )

pub length-bad : (l : MemoryMap) (os : List Output) → length os ≤ 4 → code_length (bad_code l os) ≤ 26
length-bad l os few =
    omega (arith, length-defaults l.outputs os, length-more (defaults_code l.outputs os) (Rts ∷ []))

length-sum : (gs : List Segment) → code_length (LdabImmediate 0 ∷ segments_code gs) ≡ 2 + 10 * length gs
length-sum gs = omega (arith, length-segments gs)

length-check : (l : MemoryMap) (os : List Output) (gs : List Segment)
    → code_length (check_code l os gs) ≡ 9 + 10 * length gs
length-check l os gs =
    let tail = decision (check_byte (segment_bytes gs)) (2 ^ 8 - back_to_bad l os gs) in
    omega (arith, length-segments gs, length-more (segments_code gs) tail)

pub length-front : (l : MemoryMap) (os : List Output) (gs : List Segment)
    → code_length (watched_front_over l os gs) ≡ 22 + (code_length (bad_code l os) + (9 + 10 * length gs))
length-front l os gs =
    let r : MemoryMap = record l { eval = check_at l os } in
    omega (
      arith,
      length-more (frame_code r) (bad_code l os ++ check_code l os gs),
      length-more (bad_code l os) (check_code l os gs),
      length-check l os gs,
    )

-- no instruction is without a byte
pub length-le : (code : List Instr) → length code ≤ code_length code
length-le code = omega (arith, length-le-code_size code, length-code_bytes code)

-- code that is BAD, or the sum of at most four segments, is short
pub short_bad : (code : List Instr) (l : MemoryMap) (os : List Output) → code ≡ bad_code l os → length os ≤ 4
    → code_length code ≤ 26
short_bad code l os is few = omega (arith, ap code_length is, length-bad l os few)

pub short_sum : (code : List Instr) (gs : List Segment) → code ≡ LdabImmediate 0 ∷ segments_code gs → length gs ≤ 4
    → code_length code ≤ 42
short_sum code gs is few = omega (arith, ap code_length is, length-sum gs)

pub short_both : (bad sum : List Instr) (l : MemoryMap) (os : List Output) (gs : List Segment) → bad ≡ bad_code l os
    → length os ≤ 4 → sum ≡ LdabImmediate 0 ∷ segments_code gs → length gs ≤ 4
    → code_length bad + code_length sum ≤ 68
short_both bad sum l os gs bad_is few sum_is few_segments =
    omega (arith, short_bad bad l os bad_is few, short_sum sum gs sum_is few_segments)

-- the operands fit
fits_default : (at : ℕ) (byte : Option ℕ) → FitDefault byte → at < 65536 → FitCode (default_code at byte)
fits_default at None fit lt = tt
fits_default at (Some byte) fit lt = (fit, (omega arith, tt))

fits_defaults : (at : ℕ) (os : List Output) → FitDefaults os → at + length os < 65536 → FitCode (defaults_code at os)
fits_defaults at [] fit lt = tt
fits_defaults at (o ∷ os) fit lt =
    fit_append (default_code at (default_byte o)) (defaults_code (at + 1) os)
    (fits_default at (default_byte o) fit.0 (omega arith)) (fits_defaults (at + 1) os fit.1 (omega arith))

pub fits_bad : (l : MemoryMap) (os : List Output) → FitDefaults os → l.outputs + length os < 65536
    → FitCode (bad_code l os)
fits_bad l os fit lt = (
  omega arith,
  (
    omega arith,
    fit_append (defaults_code l.outputs os) (Rts ∷ []) (fits_defaults l.outputs os fit lt) (tt, tt),
  ),
)

fits_segments : (gs : List Segment) → AreSegments gs → FitCode (segments_code gs)
fits_segments [] h = tt
fits_segments (g ∷ gs) h =
    let top = h.0.2 in
    (omega arith, (tt, (omega arith, (omega arith, fits_segments gs h.1))))

pub fits_check : (l : MemoryMap) (os : List Output) (gs : List Segment) → AreSegments gs → FitCode (check_code l os gs)
fits_check l os gs h =
    let some : 1 ≤ back_to_bad l os gs = omega arith in (
      omega arith,
      fit_append (segments_code gs)
          (decision (check_byte (segment_bytes gs)) (2 ^ 8 - back_to_bad l os gs)) (fits_segments gs h)
          (omega arith, (omega arith, (omega arith, tt))),
    )

fits_frame : (l : MemoryMap) → l.sample_flag < 65536 → l.eval < 65536 → FitCode (frame_code l)
fits_frame l ready eval = (
  omega arith,
  (
    ready,
    (omega arith, (ready, (omega arith, (eval, (ready, (omega arith, (tt, tt))))))),
  ),
)

pub fits_front : (l : MemoryMap) (os : List Output) (gs : List Segment) → l.sample_flag < 65536 → check_at l os < 65536
    → FitDefaults os → l.outputs + length os < 65536 → AreSegments gs
    → FitCode (watched_front_over l os gs)
fits_front l os gs ready at fit room h =
    let r : MemoryMap = record l { eval = check_at l os } in
    fit_append (frame_code r) (bad_code l os ++ check_code l os gs) (fits_frame r ready at)
    (fit_append (bad_code l os) (check_code l os gs) (fits_bad l os fit room) (fits_check l os gs h))

-- defaults are bytes
pub fit_defaults : NearestIsByte → (os : List Output) → All IsValidOutput os → FitDefaults os
fit_defaults near [] v = tt
fit_defaults near (o ∷ os) v = let w = v 0 o (omega arith) in
    (by_default o.default w.default_in, fit_defaults near os (λ k d lt. v (suc k) d (omega arith)))
  where
    by_default : (d : Option Dec) → IfSome d (IsWithin o.lo o.hi) → FitDefault (option_map (nearest_byte o) d)
    by_default None h = tt
    by_default (Some d) h = let q = near o d (v 0 o (omega arith)).range h in omega arith

-- what the code before EVAL asks of a memory map
pub record IsWatchedMap (l : MemoryMap) (os : List Output) (gs : List Segment) : Type 0 where
  pub started : IsStarted l
  pub ready : l.sample_flag < l.inputs
  pub samples : l.samples ≡ l.inputs
  pub apart : IsApart l
  pub eval : l.eval ≡ l.code + code_length (watched_front_over l os gs)
  pub few : length os ≤ 4
  pub few_segments : length gs ≤ 4

abbrev pub calls : MemoryMap → List Output → MemoryMap
calls l os = record l { eval = check_at l os }

called_apart : (l : MemoryMap) (os : List Output) (gs : List Segment) → IsWatchedMap l os gs → IsApart (calls l os)
called_apart l os gs h =
    let a = h.apart in
    let low = h.started.low in
    let high = h.started.high in
    let bad = length-bad l os h.few in
    record {
      inputs = a.inputs;
      outputs = a.outputs;
      slots = a.slots;
      eval = omega arith;
      eval_end = omega arith;
      tables = a.tables;
      tables_end = a.tables_end;
      singletons = a.singletons;
      singletons_end = a.singletons_end;
      weights = a.weights;
      weights_end = a.weights_end;
      rules = a.rules;
      rules_end = a.rules_end;
    }

called_framed : (l : MemoryMap) (os : List Output) (gs : List Segment) → IsWatchedMap l os gs → IsFramed (calls l os)
called_framed l os gs h =
    let high = h.started.high in
    let bad = length-bad l os h.few in
    record {
      started = record {
        low = h.started.low;
        high = h.started.high;
        wait = h.started.wait;
        ready =
            h.started.ready;
        apart = h.started.apart;
      };
      ready = h.ready;
      samples = h.samples;
      eval = omega arith;
    }

-- its three pieces
pub record FrontBytes (m : List ℕ) (l : MemoryMap) (os : List Output) (gs : List Segment) : Type 0 where
  pub frame : HasBytes m l.code (code_bytes (frame_code (calls l os)))
  pub bad : HasBytes m (bad_at l) (code_bytes (bad_code l os))
  pub check : HasBytes m (check_at l os) (code_bytes (check_code l os gs))

pub front_bytes : (m : List ℕ) (l : MemoryMap) (os : List Output) (gs : List Segment)
    → HasBytes m l.code (code_bytes (watched_front_over l os gs)) → FrontBytes m l os gs
front_bytes m l os gs h =
    let a = frame_code (calls l os) in
    let b = bad_code l os in
    let c = check_code l os gs in
    let split : code_bytes (watched_front_over l os gs) ≡ code_bytes a ++ (code_bytes b ++ code_bytes c) =
    flat_map-append encode_of a (b ++ c) ∙ ap (λ (x : List ℕ). code_bytes a ++ x) (flat_map-append encode_of b c) in
    let all : HasBytes m l.code (code_bytes a ++ (code_bytes b ++ code_bytes c)) = subst (HasBytes m l.code) split h in
    let later : HasBytes m (bad_at l) (code_bytes b ++ code_bytes c) =
    bytes_back m l.code (code_bytes a) (code_bytes b ++ code_bytes c) all in
    record {
      frame = bytes_front m l.code (code_bytes a) (code_bytes b ++ code_bytes c) all;
      bad = bytes_front m (bad_at l) (code_bytes b) (code_bytes c) later;
      check = bytes_back m (bad_at l) (code_bytes b) (code_bytes c) later;
    }

-- the frame starts as any does
pub start_bytes : (m : List ℕ) (l : MemoryMap) (os : List Output) (gs : List Segment)
    → HasBytes m l.code (code_bytes (watched_front_over l os gs)) → HasBytes m l.code (code_bytes (start_code l))
start_bytes m l os gs h =
    let rest = LdaaExtended l.sample_flag ∷ Beq 0xFB ∷ JsrExtended (check_at l os) ∷ ClrExtended l.sample_flag ∷ Bra 0xF3
    ∷ Rti ∷ [] in
    bytes_front m l.code (code_bytes (start_code l)) (code_bytes rest) (front_bytes m l os gs h).frame

bad_found : InstructionsStand → (c : Setting) (os : List Output) (gs : List Segment) → IsWatchedMap c.memory_map os gs
    → FitDefaults os
    → HasBytes c.image (bad_at c.memory_map) (code_bytes (bad_code c.memory_map os))
    → Stands c (bad_at c.memory_map) (bad_code c.memory_map os)
bad_found stand c os gs h fit bytes =
    let l = c.memory_map in
    let low = h.started.low in
    let high = h.started.high in
    let wait = h.started.wait in
    let few = h.few in
    let bad = length-bad l os h.few in
    let a1 = h.apart.outputs in
    let a2 = h.apart.slots in
    stand c (bad_at l) (bad_code l os) (fits_bad l os fit (omega arith)) bytes (omega arith) (omega arith)
    (omega arith)

check_found : InstructionsStand → (c : Setting) (os : List Output) (gs : List Segment) → IsWatchedMap c.memory_map os gs
    → c.open_to fault_at ≡ false → IsShutAbove c → AreSegments gs
    → HasBytes c.image (check_at c.memory_map os) (code_bytes (check_code c.memory_map os gs))
    → HasCheck c (check_at c.memory_map os) (bad_at c.memory_map) (check_byte (segment_bytes gs))
    (2 ^ 8 - back_to_bad c.memory_map os gs) gs
check_found stand c os gs h shown above are bytes =
    let l = c.memory_map in
    let low = h.started.low in
    let high = h.started.high in
    let wait = h.started.wait in
    let few = h.few_segments in
    let bad = length-bad l os h.few in
    let sum = length-sum gs in
    let all = length-check l os gs in
    record {
      code = stand c (check_at l os) (check_code l os gs) (fits_check l os gs are) bytes (omega arith) (omega arith)
          (omega arith);
      segments = are;
      back = omega arith;
      to_fits = omega arith;
      shown = shown;
      above = above;
      bad_is = omega arith;
    }

pub has_front : InstructionsStand → FrameCallsAndLeaves → (c : Setting) (os : List Output) (gs : List Segment)
    → IsWatchedMap c.memory_map os gs → c.open_to c.memory_map.sample_flag ≡ false → c.open_to fault_at ≡ false
    → IsShutAbove c
    → FitDefaults os → AreSegments gs
    → HasBytes c.image c.memory_map.code (code_bytes (watched_front_over c.memory_map os gs)) → HasFront c os gs
has_front stand turns c os gs h ready shown above fit are bytes =
    let l = c.memory_map in
    let at = check_at l os in
    let parts = front_bytes c.image l os gs bytes in
    let eval = h.eval in
    let size = length-front l os gs in
    record {
      at = at;
      bad = bad_at l;
      to = 2 ^ 8 - back_to_bad l os gs;
      frame = turns (calling c at) ready (called_framed l os gs h) (called_apart l os gs h) parts.frame;
      check = check_found stand c os gs h shown above are parts.check;
      bad_stands = bad_found stand c os gs h fit parts.bad;
      behind = omega arith;
    }
