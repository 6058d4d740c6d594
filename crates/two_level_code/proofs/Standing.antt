-- Memory from the image of both blocks, beside that of the slow firmware alone.
use Rattle.std.proofs.Common.{◌≡◌, ◌⊎◌, inl, inr, ℕ, ◌+◌, ◌-◌, ◌*◌, ◌^◌, ◌<◌, ◌≤◌, nat_lt, nat_le, ◌&&◌, ◌||◌}
use Rattle.std.proofs.Common.{true, false, List, [], ◌∷◌, ◌++◌, All, get_or, Option, None, refl, sym, ap, ap₂, ◌∙◌}
use Rattle.std.proofs.Common.{subst, arith, nat_cmp}
use Rattle.std.specs.BTreeMap.{is_at}
use Rattle.std.specs.List.{list_all}
use Rattle.std.proofs.lemmas.Bool.{both_ways, cases_lt, and_parts, or_parts, ltb-true}
use Rattle.std.proofs.lemmas.Bool.Decides.{nat_tests}
use Rattle.std.proofs.lemmas.List.{get_or_past}
use Rattle.std.proofs.lemmas.List.Elements.{All-nil, All-cons, All-append}
use Rattle.fuzzy_meaning.specs.declared.block.Block.{Block}
use Rattle.cpu12_isa.specs.{declared.instr.Instr.TheVariants.Rts, Agreement.Agree, Code.code_bytes, Fits.AreBytes}
use Rattle.cpu12_isa.specs.{Memory.word_of}
use Rattle.cpu12_isa.specs.Regions.{is_free, vector, is_vector}
use Rattle.cpu12_asm.proofs.Algebra.{or_else, byte_at-append}
use Rattle.cpu12_asm.specs.declared.{items.Item.Item, items.Item.TheVariants.Place}
use Rattle.cpu12_asm.specs.{Bytes.byte_at, Items.given_by, Laws.GiveBytes}
use Rattle.cpu12_emul.specs.Image.{byte_or_zero, image_memory, HoldsImage}
use Rattle.eval_code.specs.declared.memory_map.MemoryMap.{MemoryMap}
use Rattle.eval_code.specs.{MemoryMaps.main_map, Items.block_items, Evaluation.HasAnswers}
use Rattle.eval_code.specs.{Evaluation.Reads, Evaluation.Writes, Standing.ImageIsBytes}
use Rattle.eval_code.specs.Placed.{BlockStaysInside, GivesBehind, BlockGivesBytes}
use Rattle.byte_scaling.specs.{declared.width.Width.Width, declared.width.Width.TheVariants.Byte}
use Rattle.firmware_code.specs.{Code.frame_code, Images.vector_items}
use Rattle.alone_code.specs.Firmwares.{firmware_items}
use Rattle.firmware_code.specs.Arrivals.{LeavesMapped}
use Rattle.alone_code.specs.Answers.{FirmwareAnswersBeside, FirmwareArrivesAlike}
use Rattle.two_level_code.specs.{declared.two.Two.Two, Standing.TwoStandBeside}
use Rattle.two_level_code.specs.MemoryMaps.{fast_front, fast_back, fast_map, slow_map, is_fast_ram, is_fast_rom}
use Rattle.two_level_code.specs.MemoryMaps.{is_open_to_fast}
use Rattle.two_level_code.specs.Images.{fast_items, joint_memory, slow_alone, slow_items, two_items, IsTwoOf}
use Rattle.two_level_code.proofs.FastRom.{CodeLaws, standing, first_decoded}
use Rattle.two_level_code.proofs.Places.{fast_in_order, fast_apart, AreAccepted}
use Rattle.alone_code.proofs.Algebra.{main_in_order, main_apart}

-- the laws of lower crates
pub record StandingLaws : Type 0 where
  pub code : CodeLaws
  pub inside : BlockStaysInside
  pub behind : GivesBehind
  pub bytes : BlockGivesBytes
  pub holds_image : HoldsImage
  pub image_is_bytes : ImageIsBytes
  pub answers : FirmwareAnswersBeside
  pub arrives : FirmwareArrivesAlike

-- what is not open
low : (at : ℕ) → at < 0x1400 → is_open_to_fast at ≡ false
low at h = grind (arith, nat_tests)

between : (at : ℕ) → 0x1FE0 ≤ at → at < 0x4000 → is_open_to_fast at ≡ false
between at from to = grind (arith, nat_tests)

high : (at : ℕ) → 0x7F00 ≤ at → at < vector → is_open_to_fast at ≡ false
high at from to = grind (arith, nat_tests)

top : (at : ℕ) → vector + 2 ≤ at → is_open_to_fast at ≡ false
top at from = grind (arith, nat_tests)

reads_not_open : (at : ℕ) → Reads main_map at → is_open_to_fast at ≡ false
reads_not_open at (inl o) = low at (omega (arith, o.1))
reads_not_open at (inr (inl o)) = low at (omega (arith, o.1))
reads_not_open at (inr (inr (inl o))) = high at (omega (arith, o.0)) (omega (arith, o.1))
reads_not_open at (inr (inr (inr (inl o)))) = high at (omega (arith, o.0)) (omega (arith, o.1))
reads_not_open at (inr (inr (inr (inr (inl o))))) = high at (omega (arith, o.0)) (omega (arith, o.1))
reads_not_open at (inr (inr (inr (inr (inr (inl o)))))) = high at (omega (arith, o.0)) (omega (arith, o.1))
reads_not_open at (inr (inr (inr (inr (inr (inr o)))))) = absurd o

writes_not_open : (at : ℕ) → Writes main_map at → is_open_to_fast at ≡ false
writes_not_open at (inl o) = low at (omega (arith, o.1))
writes_not_open at (inr (inl o)) = low at (omega (arith, o.1))
writes_not_open at (inr (inr o)) = absurd o

main_left : LeavesMapped is_open_to_fast main_map
main_left = record {
  ready = refl;
  reads = reads_not_open;
  writes = writes_not_open;
  stack = λ at from to. between at from (omega arith);
  code = λ at from to. high at (omega arith) (omega arith);
  reset = λ at from to. top at (omega arith);
}

-- the slow block's items with these vectors behind them
abbrev slow_block : Block → List Item
slow_block b = block_items main_map b Byte (frame_code main_map) (Rts ∷ [])

slow_starts : (b : Block) → (rest : List Item) × (slow_items b ≡ Place 0xC000 ∷ rest)
unfolding block_items
slow_starts b = (_, refl)

-- what the items give
given_slow : GivesBehind → (l : MemoryMap) (b : Block)
    → given_by (slow_block b ++ vector_items l) ≡ given_by (slow_block b) ++ given_by (vector_items l)
given_slow behind l b = behind (slow_block b) _ vector

given_two : GivesBehind → (slow fast : Block)
    → given_by (two_items slow fast) ≡ given_by (fast_items fast)
    ++ (given_by (slow_block slow) ++ given_by (vector_items slow_map))
given_two behind slow fast =
    let starts = slow_starts slow in
    ap (λ (xs : List Item). given_by (fast_items fast ++ xs)) starts.1
    ∙ behind (fast_items fast) starts.0 0xC000
    ∙ ap (λ (xs : List Item). given_by (fast_items fast) ++ given_by xs) (sym starts.1)
    ∙ ap (λ (xs : List (ℕ × ℕ)). given_by (fast_items fast) ++ xs) (given_slow behind slow_map slow)

-- the byte at an address, part by part
byte_of_slow : GivesBehind → (l : MemoryMap) (b : Block) (at : ℕ) → byte_at (given_by (slow_block b ++ vector_items l))
    at
    ≡ or_else (byte_at (given_by (slow_block b)) at) (byte_at (given_by (vector_items l)) at)
byte_of_slow behind l b at =
    ap (λ (xs : List (ℕ × ℕ)). byte_at xs at) (given_slow behind l b)
    ∙ byte_at-append at (given_by (slow_block b)) (given_by (vector_items l))

byte_of_two : StandingLaws → (slow fast : Block) (at : ℕ) → AreAccepted slow fast → (at < 0x4000) ⊎ (0x7F00 ≤ at)
    → byte_at (given_by (two_items slow fast)) at
    ≡ or_else (byte_at (given_by (slow_block slow)) at) (byte_at (given_by (vector_items slow_map)) at)
byte_of_two laws slow fast at h out =
    let rest = given_by (slow_block slow) ++ given_by (vector_items slow_map) in
    let none : byte_at (given_by (fast_items fast)) at ≡ None =
    laws.inside fast_map fast Byte fast_front fast_back at fast_in_order h.fast_valid h.fast_limits out in
    ap (λ (xs : List (ℕ × ℕ)). byte_at xs at) (given_two laws.behind slow fast)
    ∙ byte_at-append at (given_by (fast_items fast)) rest
    ∙ ap (λ (o : Option ℕ). or_else o (byte_at rest at)) none
    ∙ byte_at-append at (given_by (slow_block slow)) (given_by (vector_items slow_map))

none_of_slow : StandingLaws → (slow fast : Block) (at : ℕ) → AreAccepted slow fast → (at < 0xC000) ⊎ (0xFF00 ≤ at)
    → byte_at (given_by (slow_block slow)) at ≡ None
none_of_slow laws slow fast at h out =
    laws.inside main_map slow Byte (frame_code main_map) (Rts ∷ []) at main_in_order h.slow_valid
    h.slow_limits out

-- the vectors
other : (at p : ℕ) → (at < p) ⊎ (p < at) → is_at (nat_cmp at) p ≡ false
other at p (inl h) = grind (arith, nat_tests)
other at p (inr h) = grind (arith, nat_tests)

same_vectors : (at : ℕ) → (at < vector) ⊎ (vector + 2 ≤ at)
    → byte_at (given_by (vector_items slow_map)) at ≡ byte_at (given_by (vector_items main_map)) at
same_vectors at (inl h) =
    let a = other at vector (inl h) in
    let b = other at (vector + 1) (inl (omega arith)) in
    rw (a, b) refl
same_vectors at (inr h) =
    let a = other at vector (inr (omega arith)) in
    let b = other at (vector + 1) (inr (omega arith)) in
    rw (a, b) refl

no_vector : (at : ℕ) → at < vector → byte_at (given_by (vector_items slow_map)) at ≡ None
no_vector at h =
    let a = other at vector (inl h) in
    let b = other at (vector + 1) (inl (omega arith)) in
    let c = other at 0xFFFE (inl (omega arith)) in
    let d = other at 0xFFFF (inl (omega arith)) in
    rw (a, b, c, d) refl

-- memory from the image
byte_in : HoldsImage → (slow fast : Block) (two : Two) (at : ℕ) → IsTwoOf slow fast two → at < 65536
    → get_or (joint_memory two) at 0 ≡ byte_or_zero (byte_at (given_by (two_items slow fast)) at)
byte_in holds slow fast two at h lt =
    (holds two.firmware.image.bytes).1 at lt ∙ ap byte_or_zero (h.image.bytes.bytes at)

byte_alone : HoldsImage → (slow fast : Block) (two : Two) (at : ℕ) → IsTwoOf slow fast two → at < 65536
    → get_or (image_memory (slow_alone slow two).image.bytes) at 0 ≡ byte_or_zero
    (byte_at (given_by (slow_block slow ++ vector_items main_map)) at)
byte_alone holds slow fast two at h lt =
    let alone = h.alone in
    let image = alone.firmware.image in
    let items : firmware_items main_map slow two.firmware.width ≡ slow_block slow ++ vector_items main_map =
    ap (λ (w : Width). firmware_items main_map slow w) alone.width in
    (holds (slow_alone slow two).image.bytes).1 at lt
    ∙ ap byte_or_zero (image.bytes.bytes at ∙ ap (λ (xs : List Item). byte_at (given_by xs) at) items)

-- it has bytes
abbrev Fits : ℕ × ℕ → Type 0
Fits p = p.1 < 2 ^ 8

-- bytes by a test
bytes_by : (xs : List ℕ) → list_all (λ v. nat_lt v 256) xs ≡ true → All (λ v. v < 2 ^ 8) xs
bytes_by [] h = All-nil (λ v. v < 2 ^ 8)
bytes_by (x ∷ xs) h =
    let both = and_parts (nat_lt x 256) (list_all (λ v. nat_lt v 256) xs) h in
    All-cons (λ v. v < 2 ^ 8) x xs (ltb-true x 256 both.0) (bytes_by xs both.1)

vectors_fit : GiveBytes (given_by (vector_items slow_map))
vectors_fit = four (vector, 0x40) (vector + 1, 0) (0xFFFE, 0xC0) (0xFFFF, 0) (omega arith) (omega arith) (omega arith)
    (omega arith)
  where
    four : (a b c d : ℕ × ℕ) → Fits a → Fits b → Fits c → Fits d → All Fits (a ∷ b ∷ c ∷ d ∷ [])
    four a b c d p q r s =
        All-cons Fits a (b ∷ c ∷ d ∷ []) p
        (All-cons Fits b (c ∷ d ∷ []) q (All-cons Fits c (d ∷ []) r (All-cons Fits d [] s (All-nil Fits))))

two_give : StandingLaws → (slow fast : Block) → AreAccepted slow fast → GiveBytes (given_by (two_items slow fast))
two_give laws slow fast h =
    let frame = frame_code main_map in
    let f =
    laws.bytes fast_map fast Byte fast_front fast_back fast_apart h.fast_valid
    (bytes_by (code_bytes fast_front) refl) (bytes_by (code_bytes fast_back) refl) in
    let s =
    laws.bytes main_map slow Byte frame (Rts ∷ []) main_apart h.slow_valid (bytes_by (code_bytes frame) refl)
    (bytes_by (code_bytes (Rts ∷ [])) refl) in
    let slow_all = All-append Fits (given_by (slow_block slow)) (given_by (vector_items slow_map)) s vectors_fit in
    let rest = given_by (slow_block slow) ++ given_by (vector_items slow_map) in
    subst GiveBytes (sym (given_two laws.behind slow fast))
    (All-append Fits (given_by (fast_items fast)) rest f slow_all)

two_bytes : StandingLaws → (slow fast : Block) (two : Two) → AreAccepted slow fast → IsTwoOf slow fast two
    → AreBytes (joint_memory two)
two_bytes laws slow fast two h is =
    (laws.image_is_bytes two.firmware.image.bytes (two_items slow fast) is.image.bytes (two_give laws slow fast h)).1

-- an interrupt enters the fast code
vector_byte : StandingLaws → (slow fast : Block) (two : Two) (at : ℕ) → AreAccepted slow fast → IsTwoOf slow fast two
    → vector ≤ at → at < 65536
    → get_or (joint_memory two) at 0 ≡ byte_or_zero (byte_at (given_by (vector_items slow_map)) at)
vector_byte laws slow fast two at h is from to =
    let vectors = byte_at (given_by (vector_items slow_map)) at in
    byte_in laws.holds_image slow fast two at is to
    ∙ ap byte_or_zero (byte_of_two laws slow fast at h (inr (omega arith))
    ∙ ap (λ (o : Option ℕ). or_else o vectors) (none_of_slow laws slow fast at h (inr (omega arith))))

-- memory below its code is 0
zero_low : StandingLaws → (slow fast : Block) (two : Two) (at : ℕ) → AreAccepted slow fast → IsTwoOf slow fast two
    → at < 0x4000
    → get_or (joint_memory two) at 0 ≡ 0
zero_low laws slow fast two at h is lt =
    byte_in laws.holds_image slow fast two at is (omega arith)
    ∙ ap byte_or_zero (byte_of_two laws slow fast at h (inl lt)
    ∙ ap₂ or_else (none_of_slow laws slow fast at h (inl (omega arith))) (no_vector at (omega arith)))

no_outputs : StandingLaws → (slow fast : Block) (two : Two) → AreAccepted slow fast → IsTwoOf slow fast two
    → HasAnswers fast_map fast Byte (λ o. 0) (joint_memory two)
no_outputs laws slow fast two h is o lo hi =
    let few = (let v = h.fast_valid in v.few_outputs) in
    (zero_low laws slow fast two (0x1410 + 1 * (o - 1)) h is (omega arith), tt)

-- and elsewhere memory is as the slow firmware's alone
apart : (lo hi at : ℕ) → (nat_le lo at && nat_lt at hi) ≡ false → (at < lo) ⊎ (hi ≤ at)
apart lo hi at h = elim (cases_lt at lo) [
  | inl below ↦ inl below
  | inr from ↦ elim (cases_lt at hi) [
    | inl inside ↦ (let t : (nat_le lo at && nat_lt at hi) ≡ true = grind (arith, nat_tests) in
        absurd (both_ways (nat_le lo at && nat_lt at hi) h t))
    | inr above ↦ inr above
  ]
]

outside : (at : ℕ) → is_open_to_fast at ≡ false → ((at < 0x4000) ⊎ (0x7F00 ≤ at)) × ((at < vector) ⊎ (vector + 2 ≤ at))
outside at h =
    let a = or_parts (is_free at) (is_fast_ram at || (is_fast_rom at || is_vector at)) h in
    let b = or_parts (is_fast_ram at) (is_fast_rom at || is_vector at) a.1 in
    let c = or_parts (is_fast_rom at) (is_vector at) b.1 in
    (apart 0x4000 0x7F00 at c.0, apart vector (vector + 2) at c.1)

alike_in : StandingLaws → (slow fast : Block) (two : Two) (at : ℕ) → AreAccepted slow fast → IsTwoOf slow fast two
    → is_open_to_fast at ≡ false → at < 65536
    → get_or (joint_memory two) at 0 ≡ get_or (image_memory (slow_alone slow two).image.bytes) at 0
alike_in laws slow fast two at h is shown lt =
    let out = outside at shown in
    let block = byte_at (given_by (slow_block slow)) at in
    byte_in laws.holds_image slow fast two at is lt
    ∙ ap byte_or_zero (byte_of_two laws slow fast at h out.0 ∙ ap (or_else block) (same_vectors at out.1)
    ∙ sym (byte_of_slow laws.behind main_map slow at))
    ∙ sym (byte_alone laws.holds_image slow fast two at is lt)

alike : StandingLaws → (slow fast : Block) (two : Two) → AreAccepted slow fast → IsTwoOf slow fast two
    → Agree is_open_to_fast (joint_memory two) (image_memory (slow_alone slow two).image.bytes)
alike laws slow fast two h is =
    let m = laws.holds_image two.firmware.image.bytes in
    let n = laws.holds_image (slow_alone slow two).image.bytes in
    let past : (image : List (ℕ × ℕ)) (at : ℕ) → 65536 ≤ at → get_or (image_memory image) at 0 ≡ 0 = λ image at le.
    (let size = (laws.holds_image image).0 in get_or_past (image_memory image) at 0 (omega arith)) in
    record {
      size = m.0 ∙ sym n.0;
      bytes = λ at shown. elim (cases_lt at 65536) [
        | inl lt ↦ alike_in laws slow fast two at h is shown lt
        | inr le ↦ past two.firmware.image.bytes at le ∙ sym (past (slow_alone slow two).image.bytes at le)
      ];
    }

pub two_stand_beside : StandingLaws → TwoStandBeside
two_stand_beside laws slow fast two vs ls vf lf is =
    let h : AreAccepted slow fast = record { slow_valid = vs; slow_limits = ls; fast_valid = vf; fast_limits = lf } in
    let alone = is.alone in
    let firmware = alone.firmware in
    let left : LeavesMapped is_open_to_fast (slow_alone slow two).memory_map =
    subst (λ (l : MemoryMap). LeavesMapped is_open_to_fast l) (sym firmware.memory_map) main_left in
    let agree = alike laws slow fast two h is in
    let mem = joint_memory two in
    let first = vector_byte laws slow fast two vector h is (omega arith) (omega arith) in
    let second = vector_byte laws slow fast two (vector + 1) h is (omega arith) (omega arith) in (
      record {
        bytes = two_bytes laws slow fast two h is;
        enters = ap₂ word_of first second;
        lets_in = first_decoded laws.code fast mem (standing laws.code slow fast two mem h is (λ at from to. refl));
        outputs = no_outputs laws slow fast two h is;
        leaves = left;
        alike = agree;
      },
      record {
        answers = laws.answers is_open_to_fast slow (slow_alone slow two) left vs ls firmware;
        arrives = λ flags fits.
            laws.arrives is_open_to_fast slow (slow_alone slow two) mem flags fits left vs ls firmware agree;
      },
    )
