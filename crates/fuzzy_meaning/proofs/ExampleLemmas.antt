-- The examples are valid.
use Rattle.std.proofs.Common.{◌≡◌, ℕ, zero, suc, ◌+◌, ◌≤◌, [], ◌∷◌, length, None, arith}
use Rattle.std.specs.Prelude.{All, IfSome, sum_by, pos}
use Rattle.std.proofs.lemmas.Int.{ints}
use Rattle.std.proofs.lemmas.List.{length-replicate}
use Rattle.std.proofs.lemmas.List.Elements.{All-replicate}
use Rattle.std.proofs.lemmas.List.Folds.{sum_by-replicate}
use Rattle.fz_num.specs.declared.dec.Dec.{Dec}
use Rattle.fuzzy_meaning.specs.declared.{block.Block.Block, block.Rule.Rule}
use Rattle.fuzzy_meaning.specs.Blocks.{IsValid, IsValidInput, IsValidOutput, IsValidTerm, IsValidRule}
use Rattle.fuzzy_meaning.specs.Blocks.{IsValidCondition, IsInScale, IsWithin, IsWeight, HasSingleton, rule_size}
use Rattle.fuzzy_meaning.specs.Conditions.{Condition, is, negation, depth, nodes}
use Rattle.fuzzy_meaning.specs.Examples.{dec, cold, hot, heater, step_at, latch, nots, full_term, full_input}
use Rattle.fuzzy_meaning.specs.Examples.{full_output, full_rule, full, ExamplesAreValid}
use Rattle.fz_list.proofs.Algebra.{All-cons, All-none}

scale : (n : ℕ) → n ≤ 1000000000 → IsInScale (pos n)
scale n h = record { low = omega (arith, ints); high = omega (arith, ints) }

cold_valid : IsValidTerm (dec (pos 0)) (dec (pos 2560000)) cold
cold_valid = record {
  a_in = tt;
  b_in = omega (arith, ints);
  peak = omega (arith, ints);
  c_in =
      omega (arith, ints);
  d_in = (omega (arith, ints), omega (arith, ints));
}

hot_valid : IsValidTerm (dec (pos 0)) (dec (pos 2560000)) hot
hot_valid = record {
  a_in = (omega (arith, ints), omega (arith, ints));
  b_in = omega (arith, ints);
  peak =
      omega (arith, ints);
  c_in = omega (arith, ints);
  d_in = tt;
}

step_valid : (n : ℕ) → n ≤ 2560000 → IsValidTerm (dec (pos 0)) (dec (pos 2560000)) (step_at n)
step_valid n h = record {
  a_in = (omega (arith, ints), omega (arith, ints));
  b_in = omega (arith, ints);
  peak = omega (arith, ints);
  c_in =
      omega (arith, ints);
  d_in = tt;
}

within : (lo hi x : ℕ) → lo ≤ x → x ≤ hi → IsWithin (dec (pos lo)) (dec (pos hi)) (dec (pos x))
within lo hi x l h = record { low = omega (arith, ints); high = omega (arith, ints) }

-- a rule with few conditions
plain_rule : (b : Block) (r : Rule) → IsValidCondition b r.cond → depth r.cond ≤ 256 → IfSome r.weight IsWeight
    → 1 ≤ length r.concl → All (λ (c : ℕ × ℕ). HasSingleton b c.0 c.1) r.concl → IsValidRule b r
plain_rule b r valid deep weight some conclusions = record {
  condition = valid;
  deep = deep;
  weight = weight;
  some_conclusion = some;
  conclusions = conclusions;
}

-- a conclusion alone
one_conclusion : (b : Block) (o t : ℕ) → HasSingleton b o t → All (λ (c : ℕ × ℕ). HasSingleton b c.0 c.1) ((o, t) ∷ [])
one_conclusion b o t h =
    All-cons (λ (c : ℕ × ℕ). HasSingleton b c.0 c.1) (o, t) [] h (All-none (λ (c : ℕ × ℕ). HasSingleton b c.0 c.1))

size_of_two : (r s : Rule) → rule_size r ≤ 10 → rule_size s ≤ 10 → sum_by rule_size (r ∷ s ∷ []) ≤ 1048576
size_of_two r s h k = omega arith

-- the singletons 0 and 100
ends_in_scale : All (λ (u : Dec). IsInScale u.0) (dec (pos 0) ∷ dec (pos 1000000) ∷ [])
ends_in_scale =
    let InScale = λ (u : Dec). IsInScale u.0 in
    All-cons InScale (dec (pos 0)) (dec (pos 1000000) ∷ []) (scale 0 (omega arith))
    (All-cons InScale (dec (pos 1000000)) [] (scale 1000000 (omega arith)) (All-none InScale))

pub heater_valid : IsValid heater
heater_valid =
    let cold_rule : Rule = record { cond = is 1 1; weight = None; concl = (1, 1) ∷ [] } in
    let hot_rule : Rule = record { cond = is 1 2; weight = None; concl = (1, 2) ∷ [] } in
    record {
      some_input = omega arith;
      few_inputs = omega arith;
      some_output = omega arith;
      few_outputs = omega arith;
      some_rule = omega arith;
      few_rules = omega arith;
      inputs = All-cons IsValidInput _ []
          (record {
            lo_in = scale 0 (omega arith);
            hi_in = scale 2560000 (omega arith);
            range =
                omega (arith, ints);
            some_term = omega arith;
            few_terms = omega arith;
            terms =
                All-cons (IsValidTerm (dec (pos 0)) (dec (pos 2560000))) cold (hot ∷ []) cold_valid
                (All-cons (IsValidTerm (dec (pos 0)) (dec (pos 2560000))) hot [] hot_valid
                (All-none (IsValidTerm (dec (pos 0)) (dec (pos 2560000)))));
          }) (All-none IsValidInput);
      outputs = All-cons IsValidOutput _ []
          (record {
            lo_in = scale 0 (omega arith);
            hi_in = omega (arith, ints);
            range = omega (arith, ints);
            some_term =
                omega arith;
            few_terms = omega arith;
            singletons =
                All-cons (IsWithin (dec (pos 0)) (dec (pos 1000000))) (dec (pos 0)) (dec (pos 1000000) ∷ [])
                (within 0 1000000 0 (omega arith) (omega arith))
                (All-cons (IsWithin (dec (pos 0)) (dec (pos 1000000))) (dec (pos 1000000)) []
                (within 0 1000000 1000000 (omega arith) (omega arith))
                (All-none (IsWithin (dec (pos 0)) (dec (pos 1000000)))));
            singletons_in_scale = ends_in_scale;
            default_in =
                within 0 1000000 0 (omega arith) (omega arith);
            default_in_scale = scale 0 (omega arith);
          })
          (All-none IsValidOutput);
      rules = All-cons (IsValidRule heater) cold_rule (hot_rule ∷ [])
          (plain_rule heater cold_rule
          (record { input_from = omega arith; term_from = omega arith; term_to = omega arith }) (omega arith) tt
          (omega arith) (one_conclusion heater 1 1
          (record { output_from = omega arith; term_from = omega arith; term_to = omega arith })))
          (All-cons (IsValidRule heater) hot_rule []
          (plain_rule heater hot_rule
          (record { input_from = omega arith; term_from = omega arith; term_to = omega arith }) (omega arith) tt
          (omega arith) (one_conclusion heater 1 2
          (record { output_from = omega arith; term_from = omega arith; term_to = omega arith })))
          (All-none (IsValidRule heater)));
      size = size_of_two cold_rule hot_rule (omega arith) (omega arith);
    }

pub latch_valid : IsValid latch
latch_valid =
    let b = latch in
    let on_rule : Rule = record { cond = negation (is 1 1); weight = None; concl = (1, 2) ∷ [] } in
    let off_rule : Rule = record { cond = is 1 2; weight = None; concl = (1, 1) ∷ [] } in
    let IsTerm = IsValidTerm (dec (pos 0)) (dec (pos 2560000)) in
    let IsPoint = IsWithin (dec (pos 0)) (dec (pos 1000000)) in
    record {
      some_input = omega arith;
      few_inputs = omega arith;
      some_output = omega arith;
      few_outputs = omega arith;
      some_rule = omega arith;
      few_rules = omega arith;
      inputs = All-cons IsValidInput _ []
          (record {
            lo_in = scale 0 (omega arith);
            hi_in = scale 2560000 (omega arith);
            range =
                omega (arith, ints);
            some_term = omega arith;
            few_terms = omega arith;
            terms =
                All-cons IsTerm (step_at 640000) (step_at 1920000 ∷ []) (step_valid 640000 (omega arith))
                (All-cons IsTerm (step_at 1920000) [] (step_valid 1920000 (omega arith)) (All-none IsTerm));
          })
          (All-none IsValidInput);
      outputs = All-cons IsValidOutput _ []
          (record {
            lo_in = scale 0 (omega arith);
            hi_in = omega (arith, ints);
            range = omega (arith, ints);
            some_term =
                omega arith;
            few_terms = omega arith;
            singletons =
                All-cons IsPoint (dec (pos 0)) (dec (pos 1000000) ∷ []) (within 0 1000000 0 (omega arith) (omega arith))
                (All-cons IsPoint (dec (pos 1000000)) [] (within 0 1000000 1000000 (omega arith) (omega arith))
                (All-none IsPoint));
            singletons_in_scale = ends_in_scale;
            default_in = tt;
            default_in_scale = tt;
          })
          (All-none IsValidOutput);
      rules = All-cons (IsValidRule b) on_rule (off_rule ∷ [])
          (plain_rule b on_rule
          (record { input_from = omega arith; term_from = omega arith; term_to = omega arith }) (omega arith) tt
          (omega arith) (one_conclusion b 1 2
          (record { output_from = omega arith; term_from = omega arith; term_to = omega arith })))
          (All-cons (IsValidRule b) off_rule []
          (plain_rule b off_rule
          (record { input_from = omega arith; term_from = omega arith; term_to = omega arith }) (omega arith) tt
          (omega arith) (one_conclusion b 1 1
          (record { output_from = omega arith; term_from = omega arith; term_to = omega arith })))
          (All-none (IsValidRule b)));
      size = size_of_two on_rule off_rule (omega arith) (omega arith);
    }

-- conditions one in another
depth-nots : (n : ℕ) (c : Condition) → depth (nots n c) ≡ n + depth c
unfolding nots
depth-nots zero c = omega arith
depth-nots (suc n) c = let h = depth-nots n c in omega (arith, h)

nodes-nots : (n : ℕ) (c : Condition) → nodes (nots n c) ≡ n + nodes c
unfolding nots
nodes-nots zero c = omega arith
nodes-nots (suc n) c = let h = nodes-nots n c in omega (arith, h)

nots_valid : (b : Block) (n : ℕ) (c : Condition) → IsValidCondition b c → IsValidCondition b (nots n c)
unfolding nots
nots_valid b zero c h = h
nots_valid b (suc n) c h = nots_valid b n c h

full_input_valid : IsValidInput full_input
full_input_valid = record {
  lo_in = record { low = omega (arith, ints); high = omega (arith, ints) };
  hi_in = scale 1000000000 (omega arith);
  range = omega (arith, ints);
  some_term = omega (arith, length-replicate 15 full_term);
  few_terms = omega (arith, length-replicate 15 full_term);
  terms = All-replicate (IsValidTerm full_input.lo full_input.hi) 15 full_term
      (record {
        a_in = (omega (arith, ints), omega (arith, ints));
        b_in = omega (arith, ints);
        peak =
            omega (arith, ints);
        c_in = omega (arith, ints);
        d_in = (omega (arith, ints), omega (arith, ints));
      });
}

full_output_valid : IsValidOutput full_output
full_output_valid = record {
  lo_in = scale 1000000000 (omega arith);
  hi_in = omega (arith, ints);
  range = omega (arith, ints);
  some_term = omega (arith, length-replicate 15 (dec (pos 1000000000)));
  few_terms = omega (arith, length-replicate 15 (dec (pos 1000000000)));
  singletons = All-replicate (IsWithin full_output.lo full_output.hi) 15 (dec (pos 1000000000))
      (within 1000000000 1000010000 1000000000 (omega arith) (omega arith));
  singletons_in_scale =
      All-replicate (λ (u : Dec). IsInScale u.0) 15 (dec (pos 1000000000)) (scale 1000000000 (omega arith));
  default_in = within 1000000000 1000010000 1000000000 (omega arith) (omega arith);
  default_in_scale = scale 1000000000 (omega arith);
}

full_rule_valid : IsValidRule full full_rule
unfolding full_rule
full_rule_valid =
    let literal : IsValidCondition full (is 8 15) =
    record { input_from = omega arith; term_from = omega arith; term_to = omega arith } in
    record {
      condition = nots_valid full 255 (is 8 15) literal;
      deep = let e = depth-nots 255 (is 8 15) in omega (arith, e);
      weight = record { low = omega (arith, ints); high = omega (arith, ints) };
      some_conclusion = let e = length-replicate {A = ℕ × ℕ} 3840 (4, 15) in omega (arith, e);
      conclusions = All-replicate (λ (c : ℕ × ℕ). HasSingleton full c.0 c.1) 3840 (4, 15)
          (record { output_from = omega arith; term_from = omega arith; term_to = omega arith });
    }

full_rule_size : rule_size full_rule ≡ 4096
unfolding full_rule
full_rule_size =
    let e = nodes-nots 255 (is 8 15) in
    let l = length-replicate {A = ℕ × ℕ} 3840 (4, 15) in
    omega (arith, e, l)

full_valid : IsValid full
full_valid =
    let inputs = length-replicate 8 full_input in
    let outputs = length-replicate 4 full_output in
    let rules = length-replicate 256 full_rule in
    record {
      some_input = omega (arith, inputs);
      few_inputs = omega (arith, inputs);
      some_output = omega (arith, outputs);
      few_outputs = omega (arith, outputs);
      some_rule = omega (arith, rules);
      few_rules = omega (arith, rules);
      inputs = All-replicate IsValidInput 8 full_input full_input_valid;
      outputs = All-replicate IsValidOutput 4 full_output full_output_valid;
      rules = All-replicate (IsValidRule full) 256 full_rule full_rule_valid;
      size = let e = sum_by-replicate rule_size 256 full_rule in let s = full_rule_size in omega (arith, e, s);
    }

pub examples_are_valid : ExamplesAreValid
examples_are_valid = (heater_valid, latch_valid, full_valid)
