-- The mailbox firmware of a block takes its turns.
use Rattle.mailbox_code.proofs.Words.{ℕ, ◌<◌, ◌^◌, ◌≤◌, arith, Block, image_memory, IsValid, IsWithinLimits, length}
use Rattle.mailbox_code.proofs.Words.{List, LowerLaws, mailbox_bound, mailbox_code, mailbox_items, mailbox_map}
use Rattle.mailbox_code.proofs.Words.{MailboxTakesPosts, MemoryMap, refl, subst, sym, TakesTurns, Width}
use Rattle.cpu12_asm.specs.Items.{given_by}
use Rattle.firmware_code.specs.Standing.{HasFirmware}
use Rattle.cpu12_asm.specs.Bytes.{Holds}
use Rattle.mailbox_code.specs.Mailboxes.{MailboxIsBytes}
use Rattle.mailbox_code.proofs.turns.Copying.{copies_run}
use Rattle.mailbox_code.proofs.turns.Posting.{Post, post_ctx, at_of}
use Rattle.mailbox_code.proofs.turns.Looking.{look_run, choose_run}
use Rattle.mailbox_code.proofs.turns.Turning.{Turns, turn_run}
use Rattle.mailbox_code.proofs.turns.Founding.{mailbox_in_order, mailbox_apart, mailbox_started, mailbox_inside}
use Rattle.mailbox_code.proofs.turns.Founding.{fit_mailbox, start_bytes, has_turn, has_call}

-- what its runs are under
abbrev post_of : LowerLaws → (b : Block) → length b.inputs ≤ 8 → List ℕ → (flags : ℕ) → flags < 2 ^ 8 → Post
post_of laws b few image flags fits =
    record {
      laws = laws;
      n = length b.inputs;
      few = few;
      image = image;
      flags = flags;
      fits = fits;
    }

-- from what stands in memory
with_code : (laws : LowerLaws) → (b : Block) (w : Width) (image : List ℕ) (flags : ℕ) (fits : flags < 2 ^ 8)
    → (v : IsValid b) → IsWithinLimits b
    → (let l = mailbox_map (length b.inputs) in HasFirmware l b w (mailbox_code l (length b.inputs)) image)
    → TakesTurns (mailbox_map (length b.inputs)) b w (mailbox_bound w b) image flags
with_code laws b w image flags fits v limits firmware =
    let n = length b.inputs in
    let few = v.few_inputs in
    let l = mailbox_map n in
    let p = post_of laws b few image flags fits in
    let front = firmware.stands.front in
    let turn = has_turn p front in
    let call = has_call p turn in
    let turns : Turns p b w =
    record {
      apart = mailbox_apart n few;
      inputs = refl;
      valid = v;
      limits = limits;
      routine = firmware.routine;
      call = call.call;
      back = call.back;
    } in
    let arrived = laws.arrives (post_ctx p) b w (mailbox_code l n) (mailbox_started n) (mailbox_apart n few) v
    (start_bytes p front) firmware in
    let home = arrived.home in
    record {
      arrives = (
        arrived.t,
        record {
          execution = arrived.execution;
          at =
              at_of p 0xC008 arrived.t home.live home.pc_is (omega arith) (omega arith) home.sp_is;
          cleared =
              home.ready_is;
          outputs = home.outs;
        },
      );
      looks = look_run p turn;
      chooses = choose_run p turn;
      copies = copies_run p turn;
      evaluates = λ bytes before s i at hi ho. turn_run p b w bytes before s turns i at hi ho;
    }

-- the memory of its image
in_memory : LowerLaws → (b : Block) (w : Width) (image : List (ℕ × ℕ)) → IsValid b → IsWithinLimits b
    → Holds image (given_by (mailbox_items (mailbox_map (length b.inputs)) b w))
    → HasFirmware (mailbox_map (length b.inputs)) b w (mailbox_code (mailbox_map (length b.inputs)) (length b.inputs))
    (image_memory image)
in_memory laws b w image v limits h =
    let n = length b.inputs in
    let few = v.few_inputs in
    let l = mailbox_map n in
    let before = mailbox_code l n in
    laws.firmware image l b w before (mailbox_in_order n few) (mailbox_apart n few) (mailbox_inside n few)
    (omega arith) (laws.code_is_bytes before (fit_mailbox n few)) (omega arith) (omega arith) v limits h

pub mailbox_is_bytes : LowerLaws → MailboxIsBytes
mailbox_is_bytes laws b f v limits h = (in_memory laws b _ f.image.bytes v limits h.image.bytes).bytes

with_items : LowerLaws → (b : Block) (w : Width) (image : List (ℕ × ℕ)) (flags : ℕ) (fits : flags < 2 ^ 8) → IsValid b
    → IsWithinLimits b
    → Holds image (given_by (mailbox_items (mailbox_map (length b.inputs)) b w))
    → TakesTurns (mailbox_map (length b.inputs)) b w (mailbox_bound w b) (image_memory image) flags
with_items laws b w image flags fits v limits h =
    with_code laws b w (image_memory image) flags fits v limits (in_memory laws b w image v limits h)

pub mailbox_takes_posts : LowerLaws → MailboxTakesPosts
mailbox_takes_posts laws b f v limits h flags fits =
    let l = mailbox_map (length b.inputs) in
    let w = f.width in
    let image = image_memory f.image.bytes in
    let takes = with_items laws b w f.image.bytes flags fits v limits h.image.bytes in
    subst (λ (k : MemoryMap). TakesTurns k b w f.instr_bound image flags) (sym h.memory_map)
    (subst (λ (most : ℕ). TakesTurns l b w most image flags) (sym h.instructions) takes)
