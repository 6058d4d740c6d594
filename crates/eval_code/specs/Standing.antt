-- What stands in memory: instructions where their bytes do, and what items place in that of their image.
-- Beside the promise.
use Rattle.std.specs.Prelude.{◌≡◌, ℕ, ◌+◌, ◌^◌, ◌<◌, Ok, List, [], ◌∷◌, ◌++◌, map, length, All, slice_index}
use Rattle.cpu12_isa.specs.declared.instr.Instr.{Instr}
use Rattle.cpu12_isa.specs.{Code.code_bytes, Code.encode_of, Code.decode_at, Code.FitCode, Code.FitsOperands}
use Rattle.cpu12_isa.specs.Fits.{AreBytes}
use Rattle.cpu12_asm.specs.{declared.items.Item.Item, Bytes.Holds, Items.given_by, Items.IsRising, Laws.GiveBytes}
use Rattle.cpu12_asm.specs.declared.items.Item.TheVariants.{Place, Byte, Op}
use Rattle.cpu12_emul.specs.Image.{image_memory}
use Rattle.eval_code.specs.Evaluation.{HasBytes}

-- instructions one after another, each of which is there at its address
abbrev pub StandsWhere : (ℕ → Instr → Type 0) → ℕ → List Instr → Type 0
StandsWhere IsThere p [] = Unit {0}
StandsWhere IsThere p (i ∷ is) = IsThere p i × StandsWhere IsThere (p + length (encode_of i)) is

-- An instruction is decoded where its bytes stand.
abbrev pub DecodesWhereItStands : Type 0
DecodesWhereItStands =
    (mem : List ℕ) (p : ℕ) (i : Instr) → FitsOperands i → p + 6 < 65536 → HasBytes mem p (encode_of i)
    → decode_at mem p ≡ Ok i

-- Code whose operands fit is bytes.
abbrev pub CodeIsBytes : Type 0
CodeIsBytes = (code : List Instr) → FitCode code → All (λ v. v < 2 ^ 8) (code_bytes code)

-- In the memory of an image of items that go up, bytes behind a place stand from there on.
abbrev pub BytesStand : Type 0
BytesStand =
    (image : List (ℕ × ℕ)) (items front rest : List Item) (p : ℕ) (bytes : List ℕ) → Holds image (given_by items)
    → IsRising items → items ≡ front ++ (Place p ∷ (map Byte bytes ++ rest)) → HasBytes (image_memory image) p bytes

-- So does code.
abbrev pub CodeStands : Type 0
CodeStands =
    (image : List (ℕ × ℕ)) (items front rest : List Item) (p : ℕ) (code : List Instr) → Holds image (given_by items)
    → IsRising items → items ≡ front ++ (Place p ∷ (map Op code ++ rest))
    → HasBytes (image_memory image) p (code_bytes code)

-- Below the first place that memory is 0.
abbrev pub ZeroBelow : Type 0
ZeroBelow =
    (image : List (ℕ × ℕ)) (items : List Item) (p at : ℕ) → Holds image (given_by (Place p ∷ items))
    → IsRising (Place p ∷ items) → at < p → at < 65536 → slice_index (image_memory image) at ≡ 0

-- It has 65536 bytes, where what the items give are bytes.
abbrev pub ImageIsBytes : Type 0
ImageIsBytes =
    (image : List (ℕ × ℕ)) (items : List Item) → Holds image (given_by items) → GiveBytes (given_by items)
    → (length (image_memory image) ≡ 65536) × AreBytes (image_memory image)
