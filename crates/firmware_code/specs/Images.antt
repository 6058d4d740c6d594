-- Images of items, and the vectors in them.
-- Beside the promise.
use Rattle.std.specs.Prelude.{◌≡◌, List, ◌++◌}
use Rattle.cpu12_isa.specs.{Regions.vector}
use Rattle.cpu12_asm.specs.declared.{items.Item.Item, image.Image.Image}
use Rattle.cpu12_asm.specs.{Bytes.start_of, Bytes.Holds, Bytes.IsAscending, Items.given_by, Items.IsRising}
use Rattle.eval_code.specs.declared.memory_map.MemoryMap.{MemoryMap}
use Rattle.eval_code.specs.{Data.bytes_of_word, Items.bytes_at}

-- the interrupt's and the reset vector (CPU12 Reference Manual, section 7): the last instruction before EVAL, and the
-- first one
abbrev pub vector_items : MemoryMap → List Item
vector_items l = bytes_at vector (bytes_of_word l.interrupt) ++ bytes_at 0xFFFE (bytes_of_word l.code)

-- an image has just the bytes of these items, the lowest first, and starts where its reset vector says
pub record IsImageOf (items : List Item) (image : Image) : Type 0 where
  pub bytes : Holds image.bytes (given_by items)
  pub ascending : IsAscending image.bytes
  pub start : image.start ≡ start_of image.bytes

-- Items that never go back to a lower place have this one.
abbrev pub image_of : List Item → Image
image_of items = record { bytes = given_by items; start = start_of (given_by items) }

abbrev pub ItemsHaveImages : Type 0
ItemsHaveImages = (items : List Item) → IsRising items → IsImageOf items (image_of items)

-- They have only one.
abbrev pub ImagesAreOne : Type 0
ImagesAreOne = (items : List Item) (f g : Image) → IsImageOf items f → IsImageOf items g → f ≡ g
