use Rattle.mailbox_code.proofs.Words.{◌<◌, ◌^◌, ◌∙◌, ◌≡◌, ap, Block, IsRising, length, List, mailbox_items, mailbox_map}
use Rattle.mailbox_code.proofs.Words.{MemoryMap, subst, sym}
use Rattle.byte_scaling.specs.declared.width.Width.TheVariants.{Byte}
use Rattle.cpu12_asm.specs.declared.items.Item.{Item}
use Rattle.std.proofs.Common.{rules}
use Rattle.mailbox_code.proofs.turns.Founding.{length-mailbox_items, mailbox_rises}
use Rattle.mailbox_code.proofs.mailbox.compile_post_laid_out.Goals as goal

-- the items at the memory map of the block's inputs
same_items : (b : Block) (xs items : List Item) (l : MemoryMap) → xs ≡ items → items ≡ mailbox_items l b Byte
    → l ≡ mailbox_map (length b.inputs)
    → mailbox_items (mailbox_map (length b.inputs)) b Byte ≡ xs
same_items b xs items l e f g = sym (e ∙ f ∙ ap (λ (k : MemoryMap). mailbox_items k b Byte) g)

pub image_of-requires-clause-few : goal.image_of-requires-clause-few
image_of-requires-clause-few c =
    let laid = c.args.laid_out.now in
    let b = laid.block.now in
    let memory_map : c.mailbox_map-memory_map.result ≡ mailbox_map (length b.inputs) = search rules in
    subst (λ (xs : List Item). length xs < 2 ^ 32)
    (same_items b _ _ _ c.as_slice.ensures.value c.in_ok-items.ensures memory_map)
    (length-mailbox_items c.blocks_are_placed.ensures.short b Byte laid.valid laid.limits)

pub image_of-requires-clause-rising : goal.image_of-requires-clause-rising
image_of-requires-clause-rising c =
    let laid = c.args.laid_out.now in
    let b = laid.block.now in
    let memory_map : c.mailbox_map-memory_map.result ≡ mailbox_map (length b.inputs) = search rules in
    subst (λ (xs : List Item). IsRising xs)
    (same_items b _ _ _ c.as_slice.ensures.value c.in_ok-items.ensures memory_map)
    (mailbox_rises c.blocks_are_placed.ensures.rises b Byte laid.valid laid.limits)

pub returns-clause-firmware : goal.returns-clause-firmware
returns-clause-firmware c = search rules
