-- Blocks that are valid.
-- Beside the promise.
use Rattle.std.specs.Prelude.{ℕ, zero, suc, [], ◌∷◌, Some, None, ℤ, pos, neg_ℤ, replicate}
use Rattle.fz_num.specs.declared.dec.Dec.{Dec}
use Rattle.fuzzy_meaning.specs.declared.{block.Block.Block, block.Input.Input, block.Output.Output, block.Rule.Rule}
use Rattle.fuzzy_meaning.specs.declared.block.Trapezoid.{Trapezoid}
use Rattle.fuzzy_meaning.specs.{Conditions.Condition, Conditions.is, Conditions.negation, Blocks.IsValid}

abbrev pub dec : ℤ → Dec
dec z = record { 0 = z }

-- an input from 0 to 256 with a falling and a rising term, and a rule for each
abbrev pub cold : Trapezoid
cold = record { a = None; b = dec (pos 0); c = dec (pos 0); d = Some (dec (pos 2560000)) }

abbrev pub hot : Trapezoid
hot = record { a = Some (dec (pos 0)); b = dec (pos 2560000); c = dec (pos 2560000); d = None }

abbrev pub heater : Block
heater = record {
  inputs = record { lo = dec (pos 0); hi = dec (pos 2560000); terms = cold ∷ hot ∷ [] } ∷ [];
  outputs = record {
    lo = dec (pos 0);
    hi = dec (pos 1000000);
    singletons = dec (pos 0) ∷ dec (pos 1000000) ∷ [];
    default = Some (dec (pos 0));
  } ∷ [];
  rules =
      record { cond = is 1 1; weight = None; concl = (1, 1) ∷ [] } ∷
      record { cond = is 1 2; weight = None; concl = (1, 2) ∷ [] } ∷ [];
}

-- with vertical edges, a complement and DEFAULT := NC
abbrev pub step_at : ℕ → Trapezoid
step_at n = record { a = Some (dec (pos n)); b = dec (pos n); c = dec (pos n); d = None }

abbrev pub latch : Block
latch = record {
  inputs = record { lo = dec (pos 0); hi = dec (pos 2560000); terms = step_at 640000 ∷ step_at 1920000 ∷ [] } ∷ [];
  outputs = record {
    lo = dec (pos 0);
    hi = dec (pos 1000000);
    singletons = dec (pos 0) ∷ dec (pos 1000000) ∷ [];
    default = None;
  } ∷ [];
  rules =
      record { cond = negation (is 1 1); weight = None; concl = (1, 2) ∷ [] } ∷
      record { cond = is 1 2; weight = None; concl = (1, 1) ∷ [] } ∷ [];
}

-- every limit is met: counts, depth, size and magnitudes
unfoldable pub nots : ℕ → Condition → Condition
nots zero c = c
nots (suc n) c = negation (nots n c)

abbrev pub full_term : Trapezoid
full_term = record {
  a = Some (dec (neg_ℤ (pos 1000000000)));
  b = dec (pos 0);
  c = dec (pos 0);
  d = Some (dec (pos 1000000000));
}

abbrev pub full_input : Input
full_input = record { lo = dec (neg_ℤ (pos 1000000000)); hi = dec (pos 1000000000); terms = replicate 15 full_term }

abbrev pub full_output : Output
full_output = record {
  lo = dec (pos 1000000000);
  hi = dec (pos 1000010000);
  singletons = replicate 15 (dec (pos 1000000000));
  default = Some (dec (pos 1000000000));
}

unfoldable pub full_rule : Rule
full_rule = record { cond = nots 255 (is 8 15); weight = Some (dec (pos 10000)); concl = replicate 3840 (4, 15) }

abbrev pub full : Block
full = record {
  inputs = replicate 8 full_input;
  outputs = replicate 4 full_output;
  rules = replicate 256 full_rule;
}

abbrev pub ExamplesAreValid : Type 0
ExamplesAreValid = IsValid heater × IsValid latch × IsValid full
