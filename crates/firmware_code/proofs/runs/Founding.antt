-- A firmware's frame and its reset vector stand in its memory.
use Rattle.firmware_code.proofs.Words.{[], ℕ, ◌++◌, ◌+◌, ◌<◌, ◌∙◌, ◌∷◌, ◌≡◌, ◌≤◌, ap, arith, Beq, Block, Bra, bytes_at}
use Rattle.firmware_code.proofs.Words.{bytes_back, bytes_front, bytes_of_word, ClrExtended, code_bytes, decode_at}
use Rattle.firmware_code.proofs.Words.{encode_of, eval_bytes, false, given_by, HasBytes, HasRoutine, Holds}
use Rattle.firmware_code.proofs.Words.{image_memory, Instr, IsApart, IsInCode, IsRising, Item, JsrExtended}
use Rattle.firmware_code.proofs.Words.{LdaaExtended, length, List, MemoryMap, Rts, Setting, slots_of, Stands}
use Rattle.firmware_code.proofs.Words.{StandsBetween, start_code, subst, sym, vector_items, Width}
use Rattle.firmware_code.specs.Frames.{IsFramed}
use Rattle.firmware_code.specs.Code.{frame_code}
use Rattle.std.proofs.Common.{append_assoc}
use Rattle.std.proofs.{Common.append-nil}
use Rattle.eval_code.specs.{Standing.BytesStand}
use Rattle.firmware_code.specs.{Frames.FrameCallsAndLeaves}
use Rattle.cpu12_isa.specs.declared.instr.Instr.TheVariants.{Rti}
use Rattle.firmware_code.proofs.runs.Stepping.{stands_of}
use Rattle.firmware_code.proofs.runs.Framing.{HasFrame, call_run, leave_run}

-- the reset vector stands
pub start_stands : BytesStand → (image : List (ℕ × ℕ)) (front : List Item) (l : MemoryMap)
    → Holds image (given_by (front ++ vector_items l)) → IsRising (front ++ vector_items l)
    → HasBytes (image_memory image) 0xFFFE (bytes_of_word l.code)
start_stands stand image front l h rise =
    let V = bytes_at 0xFFF2 (bytes_of_word l.interrupt) in
    let E = bytes_at 0xFFFE (bytes_of_word l.code) in
    let e : front ++ (V ++ E) ≡ (front ++ V) ++ (E ++ []) = sym (append_assoc front V E)
    ∙ ap (λ (x : List Item). (front ++ V) ++ x) (sym (append-nil E)) in
    stand image (front ++ vector_items l) (front ++ V) [] 0xFFFE (bytes_of_word l.code) h rise e

-- its frame in three pieces
abbrev pub turn_code : MemoryMap → List Instr
turn_code l = Beq 0xFB ∷ JsrExtended l.eval ∷ ClrExtended l.sample_flag ∷ Bra 0xF3 ∷ []

pub record FrameBytes (image : List ℕ) (l : MemoryMap) : Type 0 where
  pub start : HasBytes image l.code (code_bytes (start_code l))
  pub load : HasBytes image (l.code + 8) (encode_of (LdaaExtended l.sample_flag))
  pub turn : HasBytes image (l.code + 8 + 3) (code_bytes (turn_code l))

pub frame_bytes : (image : List ℕ) (l : MemoryMap) → HasBytes image l.code (code_bytes (frame_code l))
    → FrameBytes image l
frame_bytes image l h =
    let rest = Rti ∷ [] in
    let h1 = bytes_back image l.code (code_bytes (start_code l))
    (code_bytes (LdaaExtended l.sample_flag ∷ (turn_code l ++ rest))) h in
    let h2 = bytes_back image (l.code + 8) (encode_of (LdaaExtended l.sample_flag)) (code_bytes (turn_code l ++ rest)) h1 in
    record {
      start = bytes_front image l.code (code_bytes (start_code l))
          (code_bytes (LdaaExtended l.sample_flag ∷ (turn_code l ++ rest))) h;
      load = bytes_front image (l.code + 8) (encode_of (LdaaExtended l.sample_flag)) (code_bytes (turn_code l ++ rest)) h1;
      turn = bytes_front image (l.code + 8 + 3) (code_bytes (turn_code l)) (code_bytes rest) h2;
    }

pub has_frame : (c : Setting) → c.open_to c.memory_map.sample_flag ≡ false → IsFramed c.memory_map → IsApart c.memory_map
    → FrameBytes c.image c.memory_map → HasFrame c
has_frame c shown f a h =
    let l = c.memory_map in
    let w = f.started.wait in
    let lo = f.started.low in
    let hi = f.started.high in
    let e = f.eval in
    let e3 : l.code + 8 + 3 ≡ l.wait + 3 = omega arith in
    let r = f.ready in
    let i = a.inputs in
    let o = a.outputs in
    let s = a.slots in
    record {
      ready = f.ready;
      samples = f.samples;
      shown = shown;
      from = omega arith;
      to = omega arith;
      load = ap (decode_at c.image) w ∙ c.decodes c.image (l.code + 8) (LdaaExtended l.sample_flag) (omega arith)
          (omega arith) h.load;
      rest = subst (λ p. Stands c p (turn_code l)) e3
          (stands_of c (l.code + 8 + 3) (turn_code l)
          (omega arith, (omega arith, (omega arith, (omega arith, tt)))) h.turn (omega arith)
          (omega arith) (omega arith));
    }

-- EVAL and a return behind it
pub has_routine : (l : MemoryMap) (b : Block) (w : Width) (before : List Instr) (image : List ℕ) → l.wait < l.eval
    → IsInCode l
    → length (slots_of b) ≤ 300 → StandsBetween l b w before (Rts ∷ []) image → HasRoutine l b w image
has_routine l b w before image above inside few h = record {
  above = above;
  inside = inside;
  eval = h.eval;
  back = bytes_front image (l.eval + length (eval_bytes l b w)) (encode_of Rts) [] h.back;
  room = h.room;
  few_slots = few;
}

-- the frame leads to what it calls, and back
pub frame_calls_and_leaves : FrameCallsAndLeaves
frame_calls_and_leaves c shown f a h =
    let frame = has_frame c shown f a (frame_bytes c.image c.memory_map h) in
    let low = f.started.ready in
    record {
      calls = λ s l pc sp ready. call_run c s frame low l pc sp ready;
      leaves =
          λ s l pc. leave_run c s frame low l pc;
    }
