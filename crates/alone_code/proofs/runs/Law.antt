-- The firmware of a block answers every list of samples by the byte answer.
use Rattle.alone_code.proofs.Words.{[], ℕ, ◌<◌, ◌^◌, ◌∙◌, ◌∷◌, ◌≡◌, ◌≤◌, All, ap, AreAnsweredBeside, AreInputBytes}
use Rattle.alone_code.proofs.Words.{arith, Block, false, firmware_items, FirmwareAnswers, HasBytes, image_memory}
use Rattle.alone_code.proofs.Words.{instruction_bound, is_free, IsApart, IsFramed, IsRising, IsValid, IsWithinLimits}
use Rattle.alone_code.proofs.Words.{length, List, main_map, refl, Setting, State, subst, sym, Width}
use Rattle.cpu12_isa.specs.Agreement.{Agree}
use Rattle.eval_code.specs.Placed.{BlockIsShort, BlockRises, IsInOrder}
use Rattle.std.proofs.Common.{Bool, inl}
use Rattle.cpu12_isa.specs.Code.{code_bytes, FitCode}
use Rattle.firmware_code.specs.Code.{frame_code}
use Rattle.cpu12_asm.specs.Items.{given_by}
use Rattle.firmware_code.specs.Standing.{HasFirmware}
use Rattle.cpu12_asm.specs.Bytes.{Holds}
use Rattle.firmware_code.specs.Calls.{IsInCode}
use Rattle.firmware_code.specs.Settings.{IsShut}
use Rattle.firmware_code.specs.Frames.{IsStarted, start_code, Arrived, StartArrivesAlike}
use Rattle.alone_code.specs.Laws.{LowerLaws}
use Rattle.eval_code.specs.declared.memory_map.MemoryMap.{MemoryMap}
use Rattle.cpu12_isa.specs.declared.instr.Instr.TheVariants.{Rts, LdaaExtended, Beq, JsrExtended, ClrExtended, Bra, Rti}
use Rattle.firmware_code.specs.Arrivals.{IsArrivedBeside, LeavesMapped, FreeBytesLeave}
use Rattle.alone_code.specs.Answers.{FirmwareAnswersBeside, ArrivesAlike, FirmwareArrivesAlike}
use Rattle.alone_code.specs.Firmwares.{FirmwareIsBytes, IsFirmwareOf}
use Rattle.firmware_code.specs.declared.firmware.Firmware.{Firmware}
use Rattle.eval_code.proofs.Algebra.{bytes_front}
use Rattle.cpu12_isa.specs.declared.instr.Instr.{Instr}
use Rattle.firmware_code.proofs.Algebra.{idles, steady_of, whole_is_short, whole_rises}
use Rattle.alone_code.proofs.runs.Framing.{Samples}
use Rattle.alone_code.proofs.runs.Sampling.{are_answered}

pub main_apart : IsApart main_map
main_apart = search arith

main_framed : IsFramed main_map
main_framed = record {
  started = record {
    low = omega arith;
    high = omega arith;
    wait = refl;
    ready = omega arith;
    apart =
        inl (omega arith);
  };
  ready = omega arith;
  samples = refl;
  eval = omega arith;
}

-- what leaves the memory map alone
pub main_shut : (open_to : ℕ → Bool) → LeavesMapped open_to main_map → IsShut open_to main_map
main_shut open_to h = record {
  reads = h.reads;
  writes = h.writes;
  stack = h.stack;
  code = λ at from to. h.code at from (omega arith);
  low = omega arith;
  high = omega arith;
}

main_inside : IsInCode main_map
main_inside = record { from = omega arith; to = omega arith }

-- the frame behind its start
abbrev turn_code : List Instr
turn_code = LdaaExtended main_map.sample_flag ∷ Beq 0xFB ∷ JsrExtended main_map.eval ∷ ClrExtended main_map.sample_flag
    ∷ Bra 0xF3 ∷ Rti ∷ []

main_frame_fits : FitCode (frame_code main_map)
main_frame_fits = (
  omega arith,
  (
    omega arith,
    (
      omega arith,
      (
        omega arith,
        (omega arith, (omega arith, (omega arith, (omega arith, (tt, tt))))),
      ),
    ),
  ),
)

-- what runs are under that are beside handlers to which these bytes are open
abbrev over_main : LowerLaws → (open_to : ℕ → Bool) → LeavesMapped open_to main_map → List ℕ → (flags : ℕ)
    → flags < 2 ^ 8 → Setting
over_main laws open_to leaves image flags fits =
    record {
      stays_fit = laws.stays_fit;
      decodes = laws.decodes;
      open_to = open_to;
      memory_map = main_map;
      shut =
          main_shut open_to leaves;
      image = image;
      flags = flags;
      fits = fits;
    }

-- what they stand on, and the first arrival
record Founded (c : Setting) (b : Block) (w : Width) : Type 0 where
  samples : Samples c b w
  firmware : HasFirmware c.memory_map b w (frame_code c.memory_map) c.image
  start : HasBytes c.image c.memory_map.code (code_bytes (start_code c.memory_map))
  arrived : Arrived c b w

-- its items are in order, can be placed, and are few
pub main_in_order : IsInOrder main_map (frame_code main_map) (Rts ∷ [])
main_in_order = search arith

pub main_rises : BlockRises → (b : Block) (w : Width) → IsValid b → IsWithinLimits b
    → IsRising (firmware_items main_map b w)
main_rises rises b w v limits =
    whole_rises rises main_map b w (frame_code main_map) (Rts ∷ []) main_in_order v limits (omega arith)

pub length-main_items : BlockIsShort → (b : Block) (w : Width) → IsValid b → IsWithinLimits b
    → length (firmware_items main_map b w) < 2 ^ 32
length-main_items short b w v limits =
    whole_is_short short main_map b w (frame_code main_map) (Rts ∷ []) v limits (omega arith)

-- the memory of its image
in_memory : LowerLaws → (b : Block) (w : Width) (image : List (ℕ × ℕ)) → IsValid b → IsWithinLimits b
    → Holds image (given_by (firmware_items main_map b w))
    → HasFirmware main_map b w (frame_code main_map) (image_memory image)
in_memory laws b w image v limits h =
    let frame = frame_code main_map in
    laws.firmware image main_map b w frame main_in_order main_apart main_inside (omega arith)
    (laws.code_is_bytes frame main_frame_fits) (omega arith) (omega arith) v limits h

pub firmware_is_bytes : LowerLaws → FirmwareIsBytes
firmware_is_bytes laws b f v limits h = (in_memory laws b _ f.image.bytes v limits h.image.bytes).bytes

founded : (laws : LowerLaws)
    → (open_to : ℕ → Bool) (leaves : LeavesMapped open_to main_map) (b : Block) (w : Width) (image : List (ℕ × ℕ))
    (flags : ℕ) (fits : flags < 2 ^ 8)
    → IsValid b → IsWithinLimits b → Holds image (given_by (firmware_items main_map b w))
    → Founded (over_main laws open_to leaves (image_memory image) flags fits) b w
founded laws open_to leaves b w image flags fits v limits h =
    let frame = frame_code main_map in
    let mem = image_memory image in
    let c : Setting = over_main laws open_to leaves mem flags fits in
    let firmware : HasFirmware main_map b w frame mem = in_memory laws b w image v limits h in
    let start = bytes_front mem main_map.code (code_bytes (start_code main_map)) (code_bytes turn_code)
    firmware.stands.front in
    record {
      samples = record {
        apart = main_apart;
        valid = v;
        limits = limits;
        called = laws.called;
        routine = firmware.routine;
        framed = main_framed;
        shown = leaves.ready;
        turns = laws.turns c leaves.ready main_framed main_apart firmware.stands.front;
        given = laws.given;
      };
      firmware = firmware;
      start = start;
      arrived = laws.arrives c b w frame main_framed.started main_apart v start firmware;
    }

arrived_at : (c : Setting) (b : Block) (w : Width) → IsStarted c.memory_map → (a : Arrived c b w)
    → IsArrivedBeside c.open_to c.memory_map c.image c.flags a.t
arrived_at c b w h a =
    let lo = h.low in
    let hi = h.high in
    let wait = h.wait in
    let at = a.home.pc_is in
    record {
      execution = a.execution;
      wait = at;
      idle = idles c.memory_map a.t at a.home.ready_is;
      interruptible =
          steady_of c false a.t a.home.live (omega arith) (omega arith);
    }

-- from the first arrival on, the samples are answered within a bound
abbrev pub Answers : (ℕ → Bool) → MemoryMap → Block → Width → ℕ → List ℕ → ℕ → List (List ℕ) → Type 0
Answers open_to l b w most image flags samples =
    (s : State) × (IsArrivedBeside open_to l image flags s × AreAnsweredBeside open_to l b w most image flags
    (λ o. 0) samples s)

from_arrival : (c : Setting) (b : Block) (w : Width) (samples : List (List ℕ)) → Founded c b w
    → All (AreInputBytes b) samples
    → Answers c.open_to c.memory_map b w (instruction_bound w b) c.image c.flags samples
from_arrival c b w samples h all =
    let a = h.arrived in
    (a.t, (arrived_at c b w h.samples.framed.started a, are_answered c b w samples (λ o. 0) a.t h.samples a.home all))

-- what leaves a firmware's memory map leaves the main one, which is the same
pub leaves_main : (open_to : ℕ → Bool) (b : Block) (f : Firmware) → IsFirmwareOf b f
    → LeavesMapped open_to f.memory_map → LeavesMapped open_to main_map
leaves_main open_to b f h = subst (λ (l : MemoryMap). LeavesMapped open_to l) h.memory_map

pub firmware_answers_beside : LowerLaws → FirmwareAnswersBeside
firmware_answers_beside laws open_to b f leaves v limits h flags samples fits all =
    let w = f.width in
    let image = image_memory f.image.bytes in
    let mine = leaves_main open_to b f h leaves in
    let c = over_main laws open_to mine image flags fits in
    subst (λ (l : MemoryMap). Answers open_to l b w f.instr_bound image flags samples) (sym h.memory_map)
    (subst (λ (most : ℕ). Answers open_to main_map b w most image flags samples) (sym h.instructions)
    (from_arrival c b w samples (founded laws open_to mine b w f.image.bytes flags fits v limits h.image.bytes) all))

pub firmware_answers : FreeBytesLeave → FirmwareAnswersBeside → FirmwareAnswers
firmware_answers free beside b f v limits h =
    beside is_free b f (subst (λ (l : MemoryMap). LeavesMapped is_free l) (sym h.memory_map) free) v limits h

-- the arrival over a memory that agrees
alike : StartArrivesAlike → (c : Setting) (b : Block) (w : Width) (mem : List ℕ) → Founded c b w
    → ((at : ℕ) → 0xFFFE ≤ at → at < 2 ^ 16 → c.open_to at ≡ false)
    → Agree c.open_to mem c.image → ArrivesAlike c.open_to c.memory_map c.image mem c.flags
alike arrives c b w mem h reset agree =
    let a = h.arrived in
    let started = h.samples.framed.started in
    let r = arrives c mem started h.samples.shown reset h.firmware.reset h.start h.firmware.size agree in
    record {
      image_state = a.t;
      state = r.state;
      image_arrived = arrived_at c b w h.samples.framed.started a;
      execution = r.execution;
      regs = r.regs ∙ ap (λ (s : State). s.regs) (sym a.first);
      temps = r.temps ∙ ap (λ (s : State). s.temps) (sym a.first);
      bytes = subst (λ (s : State). Agree c.open_to r.state.mem s.mem) (sym a.first) r.bytes;
      open_bytes = r.open_bytes;
    }

pub firmware_arrives_alike : LowerLaws → FirmwareArrivesAlike
firmware_arrives_alike laws open_to b f mem flags fits leaves v limits h agree =
    let image = image_memory f.image.bytes in
    let mine = leaves_main open_to b f h leaves in
    let c = over_main laws open_to mine image flags fits in
    subst (λ (l : MemoryMap). ArrivesAlike open_to l image mem flags) (sym h.memory_map)
    (alike laws.alike c b f.width mem
    (founded laws open_to mine b f.width f.image.bytes flags fits v limits h.image.bytes) mine.reset agree)
