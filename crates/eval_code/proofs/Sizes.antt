-- How many bytes the parts of a firmware have at most.
use Rattle.eval_code.proofs.Words.{[], ◌*◌, ◌++◌, ◌+◌, ◌∙◌, ◌∷◌, ◌≡◌, ◌≤◌, ap, arith, code_bytes, Complement}
use Rattle.eval_code.proofs.Words.{conjunction_count, encode_of, eval_code_over, flat_map, flat_map-append, RuleInstruction}
use Rattle.eval_code.proofs.Words.{fuzzify_code, Input, input_slots, Instr, LdaaImmediate, length, length-append}
use Rattle.eval_code.proofs.Words.{length-map, List, map, Mem, MemoryMap, nearest_byte, None, Option, option_map, Out}
use Rattle.eval_code.proofs.Words.{Output, output_code, outputs_code, places, quotient_code, refl, replicate, row_of}
use Rattle.eval_code.proofs.Words.{rows_of, Rule, rule_spread, rules_code, singleton_bytes_of, singleton_count, Slot}
use Rattle.eval_code.proofs.Words.{slots_code, Some, suc, sum_by, sum_by-cons, Term, term_count, Trapezoid, Width}
use Rattle.eval_code.proofs.Words.{Word, zero, ℕ}
use Rattle.byte_scaling.specs.{Weights.weight_byte_of, declared.width.Width.TheVariants.Byte}
use Rattle.rule_layout.specs.{Layouts.rule_weights}
use Rattle.eval_code.specs.{Code.slot_code}
use Rattle.rule_layout.specs.declared.flat.RuleInstruction.TheVariants as instruction

-- the bytes of instructions
abbrev pub code_size : List Instr → ℕ
code_size [] = 0
code_size (i ∷ is) = length (encode_of i) + code_size is

pub code_size-append : (xs ys : List Instr) → code_size (xs ++ ys) ≡ code_size xs + code_size ys
code_size-append [] ys = omega arith
code_size-append (x ∷ xs) ys = omega (arith, code_size-append xs ys)

pub length-code_bytes : (code : List Instr) → length (code_bytes code) ≡ code_size code
length-code_bytes [] = refl
length-code_bytes (i ∷ is) = omega (arith, length-append (encode_of i) (code_bytes is), length-code_bytes is)

encoding_has_bytes : (i : Instr) → 1 ≤ length (encode_of i)
encoding_has_bytes (LdaaImmediate v) = omega arith
encoding_has_bytes _ = omega arith

pub length-le-code_size : (code : List Instr) → length code ≤ code_size code
length-le-code_size [] = omega arith
length-le-code_size (i ∷ is) = omega (arith, encoding_has_bytes i, length-le-code_size is)

code_size-copies : (n : ℕ) → code_size (replicate n Mem) ≡ n
code_size-copies zero = refl
code_size-copies (suc n) = omega (arith, code_size-copies n)

pub code_size-fuzzify : (at : ℕ) (inputs : List Input)
    → code_size (fuzzify_code at inputs) ≡ 3 * length inputs + sum_by term_count inputs
code_size-fuzzify at [] = refl
code_size-fuzzify at (x ∷ xs) =
    omega (
      arith,
      code_size-append (replicate (length x.terms) Mem) (fuzzify_code (at + 1) xs),
      code_size-copies (length x.terms),
      code_size-fuzzify (at + 1) xs,
      sum_by-cons term_count x xs,
    )

code_size-slot : (base : ℕ) (inputs : List Input) (at : ℕ) (s : Slot) → code_size (slot_code base inputs at s) ≤ 7
code_size-slot base inputs at (Term i t) = omega arith
code_size-slot base inputs at (Complement i t) = omega arith
code_size-slot base inputs at (Out o t) = omega arith

pub code_size-slots : (base : ℕ) (inputs : List Input) (at : ℕ) (slots : List Slot)
    → code_size (slots_code base inputs at slots) ≤ 7 * length slots
code_size-slots base inputs at [] = omega arith
code_size-slots base inputs at (s ∷ ss) =
    omega (
      arith,
      code_size-append (slot_code base inputs at s) (slots_code base inputs (at + 1) ss),
      code_size-slot base inputs at s,
      code_size-slots base inputs (at + 1) ss,
    )

pub code_size-rules : (l : MemoryMap) (f : RuleInstruction) → code_size (rules_code l f) ≤ 14
code_size-rules l instruction.Rev = omega arith
code_size-rules l instruction.Revw = omega arith

code_size-quotient : (w : Width) (at : ℕ) (default : Option ℕ) → code_size (quotient_code w at default) ≤ 28
code_size-quotient Byte at None = omega arith
code_size-quotient Byte at (Some d) = omega arith
code_size-quotient Word at None = omega arith
code_size-quotient Word at (Some d) = omega arith

pub code_size-outputs : (w : Width) (singletons slots at : ℕ) (outputs : List Output)
    → code_size (outputs_code w singletons slots at outputs) ≤ 38 * length outputs
code_size-outputs w singletons slots at [] = omega arith
code_size-outputs w singletons slots at (o ∷ os) =
    let rest = code_size-outputs w (singletons + length o.singletons) (slots + length o.singletons)
    (at + places w) os in
    let here = code_size-append (output_code w singletons slots at o)
    (outputs_code w (singletons + length o.singletons) (slots + length o.singletons) (at + places w) os) in
    let own = code_size-quotient w at (option_map (nearest_byte o) o.default) in
    omega (arith, rest, here, own)

-- the code of a block within the limits
pub code_size-eval : (l : MemoryMap) (w : Width) (inputs : List Input) (outputs : List Output) (slots : List Slot)
    (f : RuleInstruction) → length inputs ≤ 8 → sum_by term_count inputs ≤ 120 → length outputs ≤ 4 → length slots ≤ 300
    → code_size (eval_code_over l w inputs outputs slots f) ≤ 2416
code_size-eval l w inputs outputs slots f few_inputs few_terms few_outputs few_slots =
    let a = fuzzify_code l.inputs inputs in
    let b = slots_code l.slots inputs l.slots slots in
    let c = rules_code l f in
    let d = outputs_code w l.singletons (l.slots + input_slots slots outputs) l.outputs outputs in
    omega (
      arith,
      code_size-append a (b ++ (c ++ d)),
      code_size-append b (c ++ d),
      code_size-append c d,
      code_size-fuzzify l.inputs inputs,
      code_size-slots l.slots inputs l.slots slots,
      code_size-rules l f,
      code_size-outputs w l.singletons (l.slots + input_slots slots outputs) l.outputs outputs,
    )

length-rows : (x : Input) (terms : List Trapezoid)
    → length (flat_map (λ row. row) (map (row_of x) terms)) ≡ 4 * length terms
length-rows x [] = refl
length-rows x (t ∷ ts) =
    omega (arith, length-append (row_of x t) (flat_map (λ row. row) (map (row_of x) ts)), length-rows x ts)

pub length-tables : (inputs : List Input)
    → length (flat_map (λ row. row) (flat_map rows_of inputs)) ≡ 4 * sum_by term_count inputs
length-tables [] = refl
length-tables (x ∷ xs) =
    ap length (flat_map-append (λ row. row) (rows_of x) (flat_map rows_of xs))
    ∙ omega (
      arith,
      length-append (flat_map (λ row. row) (rows_of x)) (flat_map (λ row. row) (flat_map rows_of xs)),
      length-rows x x.terms,
      length-tables xs,
      sum_by-cons term_count x xs,
    )

pub length-singletons : (outputs : List Output)
    → length (flat_map singleton_bytes_of outputs) ≡ sum_by singleton_count outputs
length-singletons [] = refl
length-singletons (o ∷ os) =
    omega (
      arith,
      length-append (singleton_bytes_of o) (flat_map singleton_bytes_of os),
      length-map o.singletons (nearest_byte o),
      length-singletons os,
      sum_by-cons singleton_count o os,
    )

pub length-rule_weights : (rules : List Rule) → length (flat_map rule_weights rules) ≡ conjunction_count rules
length-rule_weights [] = refl
length-rule_weights (r ∷ rs) =
    omega (
      arith,
      length-append (rule_weights r) (flat_map rule_weights rs),
      length-map (rule_spread r) (λ _. weight_byte_of r.weight),
      length-rule_weights rs,
      sum_by-cons (λ x. length (rule_spread x)) r rs,
    )
