-- EVAL goes to its end over what it owns.
use Rattle.eval_code.proofs.Words.{[], ◌*◌, ◌+◌, ◌-◌, ◌<◌, ◌∙◌, ◌∷◌, ◌≡◌, ◌≤◌, ◌⊎◌, All, answer, ap, AreInputBytes}
use Rattle.eval_code.proofs.Words.{arith, Block, bytes_of, Conjunction, conjunctions_of, Dec, decode_at}
use Rattle.eval_code.proofs.Words.{DecodesWhereItStands, Ok}
use Rattle.eval_code.proofs.Words.{element_count, entry_count, eval_code, get_or, HasBytes, HasEval, inl}
use Rattle.eval_code.proofs.Words.{inr, Instr, instruction_bound, interrupt_masks, IsValid, IsValidOutput}
use Rattle.eval_code.proofs.Words.{IsWithinLimits, LayoutLaw, length, List, NearestIsByte, None, Option, Output}
use Rattle.eval_code.proofs.Words.{output_bound, places, put, refl, RulesGiveMasses, singleton_count, slots_after}
use Rattle.eval_code.proofs.Words.{slots_of, Some, State, StaysFit, steps_by, subst, suc, sum_by, sum_by-cons, sym}
use Rattle.eval_code.proofs.Words.{Width, Word, ℕ}
use Rattle.byte_scaling.specs.{declared.width.Width.TheVariants.Byte}
use Rattle.eval_code.specs.{Bounds.step_bound, Evaluation.IsAtEval, Evaluation.IsEvaluated, Evaluation.EvalAnswers}
use Rattle.cpu12_isa.specs.{Code.FitsOperands, Fits.EncodedIsShort, Plain.StraightGoesOn}
use Rattle.cpu12_parts.specs.{Executions.all_steps}
use Rattle.eval_code.proofs.{masses.Answering.answers_are, phases.Operands.fit_answer, phases.Operands.answer_size}
use Rattle.eval_code.proofs.steps.Memory.{has_put, at_put_out, length-put}
use Rattle.eval_code.proofs.Sizes.{code_size, length-code_bytes}
use Rattle.eval_code.proofs.steps.Decoding.{instructions_stand}
use Rattle.eval_code.proofs.phases.Quotients.{output_parts, output_most}
use Rattle.eval_code.proofs.phases.Evaluating.{masses, length-after, HasParts, Evals, evaluated, eval_most}
use Rattle.eval_code.proofs.phases.Evaluating.{eval_parts, eval_run}
use Rattle.eval_code.proofs.phases.Outputs.{output_answers, all_bytes, length-all_bytes, length-output_answers}
use Rattle.eval_code.proofs.phases.Outputs.{one_stands, listed, length-listed, listed_at, listed_stand, places_few}
use Rattle.eval_code.proofs.phases.RuleFacts.{BlockFacts, block_facts, HasRules, has_rules}
use Rattle.eval_code.proofs.steps.Stepping.{Ctx, Here, Live, Reaches, between_of}

-- an instruction that is decoded among EVAL's
here_of : (c : Ctx) (p : ℕ) (i : Instr) → c.memory_map.eval ≤ p → p + 6 ≤ c.memory_map.eval + 2432 → FitsOperands i
    → decode_at c.image p ≡ Ok i → Here c p i
here_of c p i lo hi fits decoded =
    let low = c.apart.eval in
    let high = c.apart.eval_end in
    record { low = omega arith; high = omega arith; above = lo; below = hi; fits = fits; decoded = decoded }

parts_of : DecodesWhereItStands → NearestIsByte → (c : Ctx) (b : Block) (w : Width) → IsValid b → BlockFacts b
    → HasEval c.memory_map b w c.image
    → HasParts c c.memory_map b w
parts_of decodes near c b w v facts h = record {
  tables = h.tables;
  singletons = h.singletons;
  weights = h.weights;
  rules = h.rules;
  code = (let code = eval_code c.memory_map b w in
      let size = answer_size c.memory_map b w v facts in
      instructions_stand decodes (Here c) c.image c.memory_map.eval (c.memory_map.eval + 2432) code c.apart.eval_end
      (here_of c) (fit_answer near c.memory_map b w c.apart v facts) h.code
      (omega (arith, length-code_bytes code)));
}

-- the bounds are those of the parts
bound_of : (w : Width) (o : Output) (d : Option Dec)
    → output_most w (record o { default = d }) ≡ output_bound w (record o { default = d })
bound_of Byte o None = refl
bound_of Byte o (Some d) = refl
bound_of Word o None = refl
bound_of Word o (Some d) = refl

all_bounds : (w : Width) (os : List Output) → sum_by (output_most w) os ≡ sum_by (output_bound w) os
all_bounds w [] = refl
all_bounds w (o ∷ os) =
    omega (
      arith,
      sum_by-cons (output_most w) o os,
      sum_by-cons (output_bound w) o os,
      bound_of w o o.default,
      all_bounds w os,
    )

count_bound : (w : Width) (b : Block) → 6 + eval_most w b ≡ instruction_bound w b
unfolding instruction_bound
count_bound w b = omega (arith, all_bounds w b.outputs)

parts_and_outputs : (os : List Output) → All IsValidOutput os → output_parts os + length os ≡ sum_by singleton_count os
parts_and_outputs [] v = refl
parts_and_outputs (o ∷ os) v =
    let some = (v 0 o (omega arith)).some_term in
    omega (arith, sum_by-cons singleton_count o os, parts_and_outputs os (λ k d lt. v (suc k) d (omega arith)))

some_entries : (cs : List Conjunction) (ws : List ℕ) → HasRules cs ws → 2 ≤ sum_by entry_count cs
some_entries cs ws h =
    subst (λ xs. 2 ≤ sum_by entry_count xs) (sym h.conjunctions_are) (omega (arith, sum_by-cons entry_count h.k h.ks))

steps_fit : (w : Width) (b : Block) → IsValid b → BlockFacts b → (n : ℕ) → n ≤ 6 + eval_most w b + eval_parts b
    → n ≤ step_bound w b
unfolding steps_by
steps_fit w b v facts n h =
    let some : 2 ≤ element_count b = some_entries (conjunctions_of b) _ (has_rules b facts) in
    omega (arith, count_bound w b, parts_and_outputs b.outputs v.outputs, v.few_outputs)

-- where EVAL leads
gone : RulesGiveMasses → (c : Ctx) (b : Block) (w : Width) (bytes : List ℕ) (before : ℕ → ℕ) (s : State)
    → Evals c c.memory_map b w bytes (listed before 1 (length b.outputs)) → Live c s
    → (r : Reaches c (eval_most w b) (eval_parts b) s (c.memory_map.eval + code_size (eval_code c.memory_map b w))
    (evaluated c.memory_map b w bytes (listed before 1 (length b.outputs)) s.mem))
    → IsEvaluated c.memory_map b w c.flags bytes before s r.t
gone masses_law c b w bytes before s h live r =
    let l = c.memory_map in
    let n = length b.outputs in
    let bs = listed before 1 n in
    let a3 = c.apart.outputs in
    let a4 = c.apart.slots in
    let room = places_few w n h.valid.few_outputs in
    let facts = h.facts in
    let slots = facts.few_slots in
    let la = length-after b bytes in
    let qs = output_answers w b.outputs (masses b bytes) bs in
    let lq : length qs ≡ n = length-output_answers w b.outputs (masses b bytes) bs h.count in
    let lb : length (all_bytes w qs) ≡ places w * n = length-all_bytes w qs ∙ ap (λ k. places w * k) lq in
    let m1 = put s.mem l.slots (slots_after b bytes) in
    let lm : length m1 ≡ 65536 = length-put s.mem l.slots (slots_after b bytes) ∙ live.size in
    let outs : HasBytes r.t.mem l.outputs (all_bytes w qs) =
    subst (λ x. HasBytes x l.outputs (all_bytes w qs)) (sym r.mem_is)
    (has_put m1 l.outputs (all_bytes w qs) (omega arith)) in
    record {
      ds = r.goes.ds;
      run = r.goes.execution;
      between = between_of c r.t r.live;
      pc = r.pc_is ∙ ap (λ n. l.eval + n) (sym (length-code_bytes (eval_code l b w)));
      answers = λ o from to.
          (let k : 1 + (o - 1) ≡ o = omega arith in
          let e : get_or qs (o - 1) 0 ≡ answer w b o bytes (before o) =
          ap (λ vs. get_or (output_answers w b.outputs vs bs) (o - 1) 0) (masses_law b bytes h.valid h.input)
          ∙ answers_are w b bytes bs h.count (o - 1) (omega arith)
          ∙ ap (answer w b (1 + (o - 1)) bytes) (listed_at before 1 n (o - 1) (omega arith))
          ∙ ap (λ j. answer w b j bytes (before j)) k in
          subst (λ v. HasBytes r.t.mem (l.outputs + places w * (o - 1)) (bytes_of w v)) e
          (one_stands r.t.mem w l.outputs qs (o - 1) outs (omega arith)));
      elsewhere = λ at x y. ap (λ m. get_or m at 0) r.mem_is
          ∙ at_put_out m1 l.outputs (all_bytes w qs) at
          (outside l.outputs (places w * n) at (length (all_bytes w qs)) lb x)
          ∙ at_put_out s.mem l.slots (slots_after b bytes) at
          (outside l.slots (length (slots_of b)) at (length (slots_after b bytes)) la y);
      instructions = omega (arith, r.goes.count, count_bound w b);
      steps = steps_fit w b h.valid h.facts (all_steps r.goes.ds + 6) (omega (arith, r.goes.parts));
    }
  where
    outside : (p n at k : ℕ) → k ≡ n → (at < p) ⊎ (p + n ≤ at) → (at < p) ⊎ (p + k ≤ at)
    outside p n at k e (inl x) = inl x
    outside p n at k e (inr x) = inr (omega arith)

begun : DecodesWhereItStands → RulesGiveMasses → NearestIsByte
    → (c : Ctx) (b : Block) (w : Width) (bytes : List ℕ) (before : ℕ → ℕ) (s : State) → IsValid b → BlockFacts b
    → IsWithinLimits b → AreInputBytes b bytes → HasEval c.memory_map b w c.image → Live c s
    → IsAtEval c.memory_map b w bytes before s
    → (t : State) × IsEvaluated c.memory_map b w c.flags bytes before s t
begun decodes masses_law near c b w bytes before s v facts lim i rom live k =
    let n = length b.outputs in
    let e : Evals c c.memory_map b w bytes (listed before 1 n) =
    record {
      valid = v;
      facts = facts;
      limits = lim;
      rom = parts_of decodes near c b w v facts rom;
      input = i;
      count =
          length-listed before 1 n;
    } in
    let z : (j : ℕ) → 1 + j - 1 ≡ j = λ j. omega arith in
    let was =
    listed_stand s.mem w c.memory_map.outputs before 1 n
    (λ j lt. subst (λ q. HasBytes s.mem (c.memory_map.outputs + places w * q) (bytes_of w (before (1 + j)))) (z j)
    (k.outputs (1 + j) (omega arith) (omega arith))) in
    let r = eval_run c b w bytes (listed before 1 n) s e live k.pc k.inputs was in
    (r.t, gone masses_law c b w bytes before s e live r)

-- the laws of other crates that EVAL's theorem stands on
pub record EvalLaws : Type 0 where
  pub layout_law : LayoutLaw
  pub nearest_is_byte : NearestIsByte
  pub stays_fit : StaysFit
  pub goes_straight : StraightGoesOn
  pub short : EncodedIsShort
  pub decodes : DecodesWhereItStands
  pub rules_give_masses : RulesGiveMasses

pub eval_answers : EvalLaws → EvalAnswers
eval_answers laws l b w flags bytes before s a v lim fits i k =
    let c : Ctx = record {
      stays_fit = laws.stays_fit;
      goes_straight = laws.goes_straight;
      short = laws.short;
      memory_map = l;
      apart = a;
      image = s.mem;
      flags = flags;
      fits = fits;
      sp = s.regs.sp;
      masks = interrupt_masks s.regs.ccr;
    } in
    let live : Live c s = record {
      off = k.between.off;
      size = k.between.size;
      bytes = k.between.bytes;
      fits = k.between.fits;
      stack = refl;
      masks = refl;
      same = λ at h. refl;
    } in
    begun laws.decodes laws.rules_give_masses laws.nearest_is_byte c b w bytes before s v
    (block_facts laws.layout_law b v) lim i
    k.eval live k
