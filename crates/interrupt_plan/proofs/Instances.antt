-- A good plan with two requests, so that plans other than the empty one meet the definition.
use Rattle.std.proofs.Common.{◌≡◌, true, [], ◌∷◌, All, arith, inr, refl}
use Rattle.std.proofs.lemmas.List.Elements.{All-cons}
use Rattle.cpu12_isa.specs.{declared.instr.Write.Write, Regions.is_free}
use Rattle.interrupt_plan.specs.{declared.Request.Request, Plans.IsGood, Plans.IsGoodRequest}

abbrev lowest : Write
lowest = record { at = 0x1800; value = 255 }

abbrev highest : Write
highest = record { at = 0x1FDF; value = 1 }

abbrev early : Request
early = record { sample = 1; moment = 17; writes = lowest ∷ highest ∷ [] }

abbrev late : Request
late = record { sample = 1; moment = 26; writes = [] }

none : {X : Type 0} (P : X → Type 0) → All P []
none P = λ k d lt. absurd (omega arith)

abbrev IsFreeWrite : Write → Type 0
IsFreeWrite w = is_free w.at ≡ true

early_free : All IsFreeWrite (lowest ∷ highest ∷ [])
early_free = All-cons IsFreeWrite lowest (highest ∷ []) refl
    (All-cons IsFreeWrite highest [] refl (none IsFreeWrite))

early_good : IsGoodRequest early
early_good = record {
  sample_from = omega arith;
  sample_to = omega arith;
  moment_to = omega arith;
  few_writes = omega arith;
  free = early_free;
}

late_good : IsGoodRequest late
late_good = record {
  sample_from = omega arith;
  sample_to = omega arith;
  moment_to = omega arith;
  few_writes = omega arith;
  free = none IsFreeWrite;
}

pub two_good : IsGood (early ∷ late ∷ [])
two_good = record {
  few = omega arith;
  requests = All-cons IsGoodRequest early (late ∷ []) early_good
      (All-cons IsGoodRequest late [] late_good (none IsGoodRequest));
  ascends = (inr (refl, omega arith), tt);
}
