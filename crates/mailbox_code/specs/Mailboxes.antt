-- The mailbox form of a firmware: an interrupt posts a sample whenever it comes, and the code copies it while I is 1.
-- Beside the promise.
use Rattle.std.specs.Prelude.{◌≡◌, ◌≤◌, ℕ, zero, suc, ◌+◌, ◌-◌, ◌*◌, nat_le, nat_lt, ◌&&◌, ◌||◌, Bool, List, [], ◌∷◌}
use Rattle.std.specs.Prelude.{◌++◌, length}
use Rattle.fuzzy_meaning.specs.{declared.block.Block.Block, Blocks.IsValid}
use Rattle.rule_layout.specs.Layouts.{IsWithinLimits}
use Rattle.cpu12_isa.specs.{declared.instr.Instr.Instr, Regions.is_free, Regions.stack_end}
use Rattle.cpu12_isa.specs.declared.instr.Instr.TheVariants.{LdaaExtended, LdsImmediate, ClrExtended, Beq, Bra}
use Rattle.cpu12_isa.specs.declared.instr.Instr.TheVariants.{JsrExtended, Rts, Andcc, Orcc, Rti, MovbExtended}
use Rattle.cpu12_asm.specs.declared.items.Item.{Item}
use Rattle.firmware_code.specs.{declared.firmware.Firmware.Firmware, Images.vector_items, Images.IsImageOf}
use Rattle.firmware_code.specs.Forms.{BlocksHave, BlocksHaveOne, ImagesAreBytes}
use Rattle.eval_code.specs.declared.memory_map.MemoryMap.{MemoryMap}
use Rattle.eval_code.specs.{MemoryMaps.main_map, Items.block_items, Bounds.instruction_bound, Bounds.steps_by}
use Rattle.byte_scaling.specs.declared.width.Width.{Width}

-- the mailbox: MAIL, $1020 to $1027, where a handler puts a sample's bytes, and POSTED, $1028, which it sets
abbrev pub is_mail : ℕ → Bool
is_mail at = nat_le 0x1020 at && nat_lt at 0x1029

-- what is open to a handler that posts samples
abbrev pub is_postable : ℕ → Bool
is_postable at = is_free at || is_mail at

-- the memory map of a block with n inputs: its code has a copy of six bytes for each
abbrev pub mailbox_map : ℕ → MemoryMap
mailbox_map n = record main_map {
  interrupt = 0xC019 + 6 * n;
  eval = 0xC01A + 6 * n;
  sample_flag = 0x1028;
  samples = 0x1020;
}

-- the copy of n bytes, from the one address on to the other
abbrev pub copy_code : ℕ → ℕ → ℕ → List Instr
copy_code from to zero = []
copy_code from to (suc n) = MovbExtended from to ∷ copy_code (from + 1) (to + 1) n

-- POSTED is cleared, interrupts are let in, EVAL is called, and the code waits again; an interrupt returns at once
abbrev pub call_code : MemoryMap → ℕ → List Instr
call_code l n = ClrExtended l.sample_flag ∷ Andcc 0xEF ∷ JsrExtended l.eval ∷ Bra (239 - 6 * n) ∷ Rti ∷ []

-- the code before EVAL: the stack is set up, POSTED cleared and interrupts let in; then, wherever POSTED is not 0,
-- interrupts are kept out, and MAIL is copied to the inputs
abbrev pub mailbox_code : MemoryMap → ℕ → List Instr
mailbox_code l n =
    LdsImmediate stack_end ∷ ClrExtended l.sample_flag ∷ Andcc 0xEF
    ∷ LdaaExtended l.sample_flag ∷ Beq 0xFB ∷ Orcc 0x10
    ∷ (copy_code l.samples l.inputs n ++ call_code l n)

-- code, tables, singletons, weights, rule list and vectors, and nothing else
abbrev pub mailbox_items : MemoryMap → Block → Width → List Item
mailbox_items l b w = block_items l b w (mailbox_code l (length b.inputs)) (Rts ∷ []) ++ vector_items l

-- ORCC and the copies take these instructions more than the frame of a firmware that stands alone
abbrev pub mailbox_bound : Width → Block → ℕ
mailbox_bound w b = instruction_bound w b + length b.inputs + 2

-- a firmware is a block's in the mailbox form
pub record IsMailboxOf (b : Block) (f : Firmware) : Type 0 where
  pub image : IsImageOf (mailbox_items (mailbox_map (length b.inputs)) b f.width) f.image
  pub memory_map : f.memory_map ≡ mailbox_map (length b.inputs)
  pub inputs : f.inputs ≡ length b.inputs
  pub outputs : f.outputs ≡ length b.outputs
  pub instructions : f.instr_bound ≡ mailbox_bound f.width b
  pub steps : f.step_bound ≡ steps_by b (mailbox_bound f.width b)

-- A valid block within the limits has one of each width.
abbrev pub BlocksHaveMailboxes : Type 0
BlocksHaveMailboxes = BlocksHave IsMailboxOf

-- In one width it has one.
abbrev pub MailboxesAreOne : Type 0
MailboxesAreOne = BlocksHaveOne IsMailboxOf

-- The memory of its image is one of bytes.
abbrev pub MailboxIsBytes : Type 0
MailboxIsBytes = ImagesAreBytes IsMailboxOf

-- A sample takes it a step at least, and at most 20000.
abbrev pub MailboxStepsAreFew : Type 0
MailboxStepsAreFew = (b : Block) (f : Firmware) → IsValid b → IsWithinLimits b → IsMailboxOf b f
    → (1 ≤ f.step_bound) × (f.step_bound ≤ 20000)
