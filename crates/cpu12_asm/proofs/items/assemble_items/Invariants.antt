use Rattle.std.proofs.Common.{◌≡◌, ◌≤◌, ◌^◌, take}
use Rattle.cpu12_asm.specs.{Bytes.Holds, Items.given_by, Items.place_of}
use Rattle.cpu12_asm.proofs.items.assemble_items.Given as goal

abbrev pub invariant-loop-item : goal.invariant-loop-item
invariant-loop-item l =
    (l.number ≡ l.item-index) × (l.place ≡ place_of (take l.item-index l.items)) × (l.place ≤ 2 ^ 16)
    × Holds l.bytes (given_by (take l.item-index l.items))
