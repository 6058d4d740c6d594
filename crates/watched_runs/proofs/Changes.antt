-- Good upsets change bytes of the tables, and what they change is put back.
use Rattle.std.proofs.Common.{◌≡◌, ℕ, suc, ◌<◌, ◌≤◌, ◌&&◌, Bool, true, false, List, [], ◌∷◌, sym, ap, ◌∙◌}
use Rattle.std.proofs.Common.{nat_le, arith, inl, inr, ◌⊎◌}
use Rattle.std.specs.Prelude.{◌≢◌, ◌==◌, if◌then◌else◌, All, Option, Some, None, slice_index, slice_set}
use Rattle.std.proofs.lemmas.Bool.{and_parts}
use Rattle.std.proofs.lemmas.Bool.Decides.{nat_tests}
use Rattle.std.proofs.lemmas.List.{get_or-set_same, get_or-set_other}
use Rattle.cpu12_isa.specs.{Agreement.AgreeFrom, Regions.is_free, Regions.stack_end}
use Rattle.cpu12_asm.specs.Bytes.{byte_at}
use Rattle.cpu12_parts.specs.State.{State}
use Rattle.cpu12_emul.specs.Image.{image_memory}
use Rattle.interrupt_plan.specs.{declared.upsets.Upset.Upset, Upsets.is_there, Upsets.IsGoodUpset}
use Rattle.firmware_code.specs.{declared.firmware.Firmware.Firmware, Interruptible.IsInterruptible}
use Rattle.eval_code.specs.declared.memory_map.MemoryMap.{MemoryMap}
use Rattle.watched_code.specs.Watched.{Change, changed, restored, IsTableChange}
use Rattle.firmware_runs.specs.Facts.{WaitsAlone}
use Rattle.watched_runs.specs.Samples.{change_of}

not_none : (o : Option ℕ) → is_there o ≡ true → o ≢ None
not_none (Some v) h = λ e. cc
not_none None h = λ e. cc

from_table : (at : ℕ) → nat_le 0xD000 at ≡ true → 0xD000 ≤ at
from_table at h = grind (arith, nat_tests)

to_table : (at : ℕ) → nat_le at 0xFEFF ≡ true → at < 0xFFF2
to_table at h = grind (arith, nat_tests)

-- a good upset changes a byte of the tables
table_change : (l : MemoryMap) (image : List (ℕ × ℕ)) (u : Upset) → l.tables ≡ 0xD000 → IsGoodUpset image u
    → IsTableChange l image (Some (u.at, u.value))
table_change l image u tables good =
    let p = and_parts (nat_le 0xD000 u.at && nat_le u.at 0xFEFF) (is_there (byte_at image u.at)) good.table in
    let q = and_parts (nat_le 0xD000 u.at) (nat_le u.at 0xFEFF) p.0 in
    let from = from_table u.at q.0 in
    (omega (arith, tables, from), to_table u.at q.1, not_none (byte_at image u.at) p.1, good.value)

pub good_change : (l : MemoryMap) (image : List (ℕ × ℕ)) (k : ℕ) (us : List Upset) → l.tables ≡ 0xD000
    → All (IsGoodUpset image) us → IsTableChange l image (change_of k us)
good_change l image k [] tables good = tt
good_change l image k (u ∷ us) tables good =
    by (good_change l image k us tables (λ j d lt. good (suc j) d (omega arith))) (u.sample == k)
  where
    by : IsTableChange l image (change_of k us) → (b : Bool)
        → IsTableChange l image (if b then Some (u.at, u.value) else change_of k us)
    by rest true = table_change l image u tables (good 0 u (omega arith))
    by rest false = rest

-- a byte that is changed and put back, and the others, are the image's
put_back : (image : List ℕ) (c : Change) (s : State) → c.0 < 65536
    → IsInterruptible is_free (changed (Some c) image) s → AgreeFrom stack_end image (restored image (Some c) s).mem
put_back image c s lt h at from = by (is_it at c.0)
  where
    is_it : (i j : ℕ) → (i ≡ j) ⊎ (i ≢ j)
    is_it i j = grind arith

    by : (at ≡ c.0) ⊎ (at ≢ c.0) → slice_index (slice_set s.mem c.0 (slice_index image c.0)) at ≡ slice_index image at
    by (inl e) =
        let inside = h.size in
        ap (λ (i : ℕ). slice_index (slice_set s.mem c.0 (slice_index image c.0)) i) e
        ∙ get_or-set_same s.mem c.0 (slice_index image c.0) 0 (omega (arith, lt, inside))
        ∙ ap (λ (i : ℕ). slice_index image i) (sym e)
    by (inr ne) =
        get_or-set_other s.mem c.0 at (slice_index image c.0) 0 ne ∙ h.same at from
        ∙ get_or-set_other image c.0 at c.1 0 ne

-- so the firmware waits over the image
pub waits_restored : (f : Firmware) (c : Option Change) (s : State) → IsTableChange f.memory_map f.image.bytes c
    → IsInterruptible is_free (changed c (image_memory f.image.bytes)) s
    → WaitsAlone f (restored (image_memory f.image.bytes) c s)
waits_restored f None s table h =
    record { image = h.same; stack = h.stack; unmasked = h.mask; sums = h.temps }
waits_restored f (Some c) s table h = record {
  image = put_back (image_memory f.image.bytes) c s (let lt = table.1 in omega (arith, lt)) h;
  stack = h.stack;
  unmasked = h.mask;
  sums = h.temps;
}
