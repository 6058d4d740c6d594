-- The operands of EVAL's code fit.
use Rattle.eval_code.proofs.Words.{[], ◌*◌, ◌+◌, ◌<◌, ◌^◌, ◌∷◌, ◌≡◌, ◌≤◌, All, ap, arith, Block, Complement, Dec}
use Rattle.eval_code.proofs.Words.{eval_code, RuleInstruction, instruction_of, fuzzify_code, Input, input_slots, input_terms, IsApart}
use Rattle.eval_code.proofs.Words.{IsValid, IsValidOutput, IsWithin, length, length-append, length-map, List, map}
use Rattle.eval_code.proofs.Words.{Mem, MemoryMap, nearest_byte, NearestIsByte, None, Option, option_map, Out, Output}
use Rattle.eval_code.proofs.Words.{output_code, outputs_code, places, quotient_code, replicate, rules_code}
use Rattle.eval_code.proofs.Words.{singleton_count, Slot, slots_code, slots_of, Some, subst, suc, sum_by, sum_by-cons}
use Rattle.eval_code.proofs.Words.{sym, Term, term_slot, Width, Word, zero, ℕ}
use Rattle.std.proofs.{lemmas.List.length-replicate}
use Rattle.byte_scaling.specs.{declared.width.Width.TheVariants.Byte}
use Rattle.cpu12_isa.specs.{Code.FitCode}
use Rattle.std.specs.Prelude.{IfSome}
use Rattle.eval_code.proofs.{phases.RuleFacts.BlockFacts, Joins.sum_by-term_count, Sizes.code_size}
use Rattle.eval_code.proofs.{Sizes.code_size-eval, steps.Decoding.fit_append, phases.Fuzzify.grades}
use Rattle.eval_code.proofs.{phases.Fuzzify.length-grades, phases.Filling.AllCanFill}
use Rattle.eval_code.proofs.phases.SlotValues.{further_slots, slots_are, further_fill, length-slots}
use Rattle.eval_code.proofs.phases.SlotValues.{length-input_terms}
use Rattle.eval_code.proofs.phases.Evaluating.{slots_code_is, outputs_few}
use Rattle.rule_layout.specs.declared.flat.RuleInstruction.TheVariants as instruction
use Rattle.eval_code.proofs.phases.Outputs.{places_few}

-- the operands of the code fit
fit_mems : (n : ℕ) → FitCode (replicate n Mem)
fit_mems zero = tt
fit_mems (suc n) = (tt, fit_mems n)

fit_fuzzify : (at : ℕ) (inputs : List Input) → at + length inputs < 2 ^ 16 → FitCode (fuzzify_code at inputs)
fit_fuzzify at [] h = tt
fit_fuzzify at (x ∷ xs) h = (
  omega arith,
  fit_append (replicate (length x.terms) Mem) (fuzzify_code (at + 1) xs)
      (fit_mems (length x.terms)) (fit_fuzzify (at + 1) xs (omega arith)),
)

fit_slots : (b : Block) (bytes : List ℕ) (inputs : List Input) (gs : List ℕ) (base at : ℕ) (ss : List Slot)
    → AllCanFill b bytes inputs gs ss
    → base + length gs < 2 ^ 16 → at + length ss < 2 ^ 16 → FitCode (slots_code base inputs at ss)
fit_slots b bytes inputs gs base at [] h lo hi = tt
fit_slots b bytes inputs gs base at (Term i t ∷ ss) h lo hi = absurd h.0
fit_slots b bytes inputs gs base at (Out o t ∷ ss) h lo hi =
    (omega arith, fit_slots b bytes inputs gs base (at + 1) ss h.1 lo (omega arith))
fit_slots b bytes inputs gs base at (Complement i t ∷ ss) h lo hi = let k = h.0.0 in
    (omega arith, (tt, (omega arith, fit_slots b bytes inputs gs base (at + 1) ss h.1 lo (omega arith))))

fit_rules : (l : MemoryMap) (f : RuleInstruction) → IsApart l → FitCode (rules_code l f)
fit_rules l instruction.Rev a = let s = a.slots in let r = a.rules_end in
    (omega arith, (omega arith, (omega arith, (omega arith, (tt, tt)))))
fit_rules l instruction.Revw a = let w = a.weights_end in let r = a.rules_end in
    (omega arith, (omega arith, (omega arith, (omega arith, (omega arith, (tt, tt))))))

fit_quotient : NearestIsByte → (w : Width) (at : ℕ) (o : Output) (d : Option Dec) → at + places w ≤ 2 ^ 16
    → IsValidOutput o → IfSome d (IsWithin o.lo o.hi)
    → FitCode (quotient_code w at (option_map (nearest_byte o) d))
fit_quotient near Byte at o None h v k =
    (omega arith, (omega arith, (tt, (tt, (omega arith, tt)))))
fit_quotient near Byte at o (Some d) h v k = let q = near o d v.range k in (
  omega arith,
  (
    omega arith,
    (tt, (tt, (omega arith, (omega arith, (omega arith, tt))))),
  ),
)
fit_quotient near Word at o None h v k = (
  omega arith,
  (
    omega arith,
    (tt, (tt, (tt, (omega arith, (tt, (omega arith, tt)))))),
  ),
)
fit_quotient near Word at o (Some d) h v k = let q = near o d v.range k in (
  omega arith,
  (
    omega arith,
    (
      tt,
      (
        tt,
        (
          tt,
          (
            omega arith,
            (tt, (omega arith, (omega arith, (omega arith, (omega arith, (omega arith, tt)))))),
          ),
        ),
      ),
    ),
  ),
)

fit_outputs : NearestIsByte → (w : Width) (sx sy at : ℕ) (os : List Output) → All IsValidOutput os
    → sx + sum_by singleton_count os < 2 ^ 16
    → sy + sum_by singleton_count os < 2 ^ 16 → at + places w * length os ≤ 2 ^ 16
    → FitCode (outputs_code w sx sy at os)
fit_outputs near w sx sy at [] v hx hy h = tt
fit_outputs near w sx sy at (o ∷ os) v hx hy h =
    let e = sum_by-cons singleton_count o os in
    let vo = v 0 o (omega arith) in
    let few = vo.few_terms in
    let more : places w * length (o ∷ os) ≡ places w + places w * length os = omega arith in
    fit_append (output_code w sx sy at o)
    (outputs_code w (sx + length o.singletons) (sy + length o.singletons) (at + places w) os) (
      omega arith,
      (
        omega arith,
        (omega arith, (tt, fit_quotient near w at o o.default (omega arith) vo vo.default_in)),
      ),
    )
    (fit_outputs near w (sx + length o.singletons) (sy + length o.singletons) (at + places w) os
    (λ k d lt. v (suc k) d (omega arith)) (omega arith) (omega arith) (omega arith))

pub fit_answer : NearestIsByte → (l : MemoryMap) (b : Block) (w : Width) → IsApart l → IsValid b → BlockFacts b
    → FitCode (eval_code l b w)
fit_answer near l b w a v facts =
    let zs = replicate (length b.inputs) 0 in
    let lz : length zs ≡ length b.inputs = length-replicate {A = ℕ} (length b.inputs) 0 in
    let gs = grades zs b.inputs in
    let lg = length-grades zs b.inputs lz in
    let terms = sum_by-term_count b.inputs v.few_inputs v.inputs in
    let few = facts.few_slots in
    let ls = length-slots b in
    let li = length-input_terms b in
    let lf : length (input_terms b) + length (further_slots b) ≡ length (slots_of b) =
    omega (
      arith,
      ap length (slots_are b),
      length-append (map term_slot (input_terms b)) (further_slots b),
      length-map (input_terms b) term_slot,
    ) in
    let i = a.inputs in
    let o = a.outputs in
    let s = a.slots in
    let singles = outputs_few b v in
    let fill : FitCode (slots_code l.slots b.inputs l.slots (slots_of b)) =
    subst FitCode (sym (slots_code_is l b))
    (fit_slots b zs b.inputs gs l.slots (l.slots + length (input_terms b)) (further_slots b) (further_fill b zs lz)
    (omega arith) (omega arith)) in
    let outs : FitCode (outputs_code w l.singletons (l.slots + input_slots (slots_of b) b.outputs) l.outputs
    b.outputs) = fit_outputs near w l.singletons (l.slots + input_slots (slots_of b) b.outputs) l.outputs b.outputs
    v.outputs (omega (arith, a.singletons_end)) (omega arith)
    (omega (arith, places_few w (length b.outputs) v.few_outputs)) in (
      omega (arith, a.tables_end),
      (
        omega arith,
        fit_append (fuzzify_code l.inputs b.inputs) _ (fit_fuzzify l.inputs b.inputs (omega (arith, v.few_inputs)))
            (fit_append (slots_code l.slots b.inputs l.slots (slots_of b)) _ fill
            (fit_append (rules_code l (instruction_of b)) _ (fit_rules l (instruction_of b) a) outs)),
      ),
    )

-- the code of a block, which leaves room for a fetch and a return
pub answer_size : (l : MemoryMap) (b : Block) (w : Width) → IsValid b → BlockFacts b → code_size (eval_code l b w) ≤
    2420
answer_size l b w v facts =
    omega (
      arith,
      code_size-eval l w b.inputs b.outputs (slots_of b) (instruction_of b) v.few_inputs
          (sum_by-term_count b.inputs v.few_inputs v.inputs) v.few_outputs facts.few_slots,
    )
