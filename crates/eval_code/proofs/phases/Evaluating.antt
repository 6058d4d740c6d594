-- EVAL, from its first instruction to behind its last.
use Rattle.eval_code.proofs.Words.{[], ◌*◌, ◌++◌, ◌+◌, ◌-◌, ◌∙◌, ◌∷◌, ◌≡◌, ◌≤◌, after_plain, All, ap, append-nil}
use Rattle.eval_code.proofs.Words.{AreInputBytes, arith, Block, complement_count, Conjunction, conjunctions_of, drop}
use Rattle.eval_code.proofs.Words.{element_count, element_width, entry_count, eval_code, fired, RuleInstruction, revw_bound}
use Rattle.eval_code.proofs.Words.{instruction_of, fuzzify_code, get_or, inl, Input, input_slots, input_term_count}
use Rattle.eval_code.proofs.Words.{input_terms, Instr, IsValid, IsValidOutput, IsWithinLimits, LdxImmediate}
use Rattle.eval_code.proofs.Words.{LdyImmediate, length, length-append, length-drop, length-map, length-take, List}
use Rattle.eval_code.proofs.Words.{list_size, list_words, map, marked, MemoryMap, output_term_count, outputs_code}
use Rattle.eval_code.proofs.Words.{places, put, refl, rule_bytes, rule_bytes_by, rules_code, singleton_bytes}
use Rattle.eval_code.proofs.Words.{singleton_count, Slot, slot_before, slots_after, slots_before, slots_code}
use Rattle.eval_code.proofs.Words.{slots_of, State, subst, subst₂, suc, sum_by, sum_by-le, sym, table_bytes, take}
use Rattle.eval_code.proofs.Words.{take-append-drop, term_slot, weight_bytes, weight_bytes_by, weights_of, Width, ℕ}
use Rattle.eval_code.proofs.{Placement.length-weights_of, phases.Quotients.output_most, phases.Quotients.output_parts}
use Rattle.eval_code.proofs.{Joins.sum_by-term_count, Lists.length-marked, Sizes.code_size, Sizes.code_size-append}
use Rattle.eval_code.proofs.steps.Memory.{HasBytes, has_put, bytes_back, bytes_put_out}
use Rattle.eval_code.proofs.phases.RuleMemory.{length-fired, Below, AllBelow, length-renamed}
use Rattle.eval_code.proofs.phases.SlotValues.{further_slots, slots_are, further_fill, before_are, count_further}
use Rattle.eval_code.proofs.phases.SlotValues.{length-slots, length-input_terms}
use Rattle.eval_code.proofs.phases.Fuzzify.{grades, length-grades, fuzzify_run}
use Rattle.eval_code.proofs.phases.Filling.{fill_count, slots_run}
use Rattle.eval_code.proofs.phases.Ruling.{AreFull, address, AtRules, rev_run, revw_run}
use Rattle.eval_code.proofs.phases.RuleFacts.{BlockFacts, HasRules, has_rules, all_below, weights_below, rev_is_plain}
use Rattle.eval_code.proofs.steps.Decoding.{stands_front, stands_back}
use Rattle.eval_code.proofs.steps.Stepping.{Ctx, Here, Live, Stands, Goes, goes_one, goes_on, Reaches, reaches_at}
use Rattle.eval_code.proofs.steps.Stepping.{reaches_after}
use Rattle.eval_code.proofs.steps.Instructions.{straight}
use Rattle.eval_code.proofs.phases.Outputs.{outputs_run, output_answers, all_bytes, length-all_bytes, places_few}
use Rattle.rule_layout.specs.declared.flat.RuleInstruction.TheVariants as instruction

-- the masses as the slots hold them
abbrev pub masses : Block → List ℕ → List ℕ
masses b bytes = drop (input_slots (slots_of b) b.outputs) (slots_after b bytes)

pub length-after : (b : Block) (bytes : List ℕ) → length (slots_after b bytes) ≡ length (slots_of b)
length-after b bytes = length-fired (slots_before b bytes) (conjunctions_of b) (weights_of b)
    ∙ length-map (slots_of b) (slot_before b bytes)

pub has_put_from : (m : List ℕ) (p n : ℕ) (bs : List ℕ) → p + length bs ≤ length m → n ≤ length bs
    → HasBytes (put m p bs) (p + n) (drop n bs)
has_put_from m p n bs h le =
    let cut : bs ≡ take n bs ++ drop n bs = sym (take-append-drop n bs) in
    let q = subst (HasBytes (put m p bs) p) cut (has_put m p bs h) in
    let lt : length (take n bs) ≡ n = omega (arith, length-take n bs) in
    subst (λ k. HasBytes (put m p bs) (p + k) (drop n bs)) lt (bytes_back (put m p bs) p (take n bs) (drop n bs) q)

few_singletons : (b : Block) → IsValid b → All (λ x. singleton_count x ≤ 15) b.outputs
few_singletons b v = λ k d lt. (let o : IsValidOutput (get_or b.outputs k d) = v.outputs k d lt in o.few_terms)

pub outputs_few : (b : Block) → IsValid b → sum_by singleton_count b.outputs ≤ 60
outputs_few b v = omega (arith, sum_by-le singleton_count 15 b.outputs (few_singletons b v), v.few_outputs)

pub list_size-le : (b : Block) → IsWithinLimits b
    → element_width (instruction_of b) * length (marked 0xFE 0xFF (conjunctions_of b)) ≤ 9984
unfolding list_size
list_size-le b h = h.short_list

pub weights_few : (b : Block) → IsWithinLimits b → length (weights_of b) ≤ 512
weights_few b h = omega (arith, length-weights_of b, h.few_conjunctions)

-- the slots of input terms take no code
no_code : (base : ℕ) (inputs : List Input) (at : ℕ) (ps : List (ℕ × ℕ)) (rest : List Slot)
    → slots_code base inputs at (map term_slot ps ++ rest) ≡ slots_code base inputs (at + length ps) rest
no_code base inputs at [] rest = let e : at ≡ at + 0 = omega arith in ap (λ k. slots_code base inputs k rest) e
no_code base inputs at (p ∷ ps) rest = let e : at + 1 + length ps ≡ at + suc (length ps) = omega arith in
    no_code base inputs (at + 1) ps rest ∙ ap (λ k. slots_code base inputs k rest) e

pub slots_code_is : (l : MemoryMap) (b : Block)
    → slots_code l.slots b.inputs l.slots (slots_of b) ≡ slots_code l.slots b.inputs (l.slots + length (input_terms b))
    (further_slots b)
slots_code_is l b = ap (slots_code l.slots b.inputs l.slots) (slots_are b)
    ∙ no_code l.slots b.inputs l.slots (input_terms b) (further_slots b)

-- what stands in memory for EVAL
pub record HasParts (c : Ctx) (l : MemoryMap) (b : Block) (w : Width) : Type 0 where
  pub tables : HasBytes c.image l.tables (table_bytes b)
  pub singletons : HasBytes c.image l.singletons (singleton_bytes b)
  pub weights : HasBytes c.image l.weights (weight_bytes b)
  pub rules : HasBytes c.image l.rules (rule_bytes l.slots b)
  pub code : Stands c l.eval (eval_code l b w)

-- memory after EVAL
abbrev pub evaluated : MemoryMap → Block → Width → List ℕ → List ℕ → List ℕ → List ℕ
evaluated l b w bytes bs m =
    put (put m l.slots (slots_after b bytes)) l.outputs (all_bytes w (output_answers w b.outputs (masses b bytes) bs))

-- what EVAL's theorem stands on
pub record Evals (c : Ctx) (l : MemoryMap) (b : Block) (w : Width) (bytes bs : List ℕ) : Type 0 where
  pub valid : IsValid b
  pub facts : BlockFacts b
  pub limits : IsWithinLimits b
  pub rom : HasParts c l b w
  pub input : AreInputBytes b bytes
  pub count : length bs ≡ length b.outputs

-- code and what stands behind it
behind : (c : Ctx) (code rest : List Instr) (n k m j : ℕ) (s : State) (p : ℕ) (t : State) (mem : List ℕ)
    → Goes c n k s t → t.regs.sp ≡ s.regs.sp
    → Reaches c m j t (p + code_size code + code_size rest) mem
    → Reaches c (n + m) (k + j) s (p + code_size (code ++ rest)) mem
behind c code rest n k m j s p t mem g es r =
    let e = code_size-append code rest in
    reaches_at c _ _ _ _ s _ _ _ _ (omega arith) (omega arith) (omega arith) refl
    (reaches_after c n k m j s t _ mem g es r)

-- the outputs
abbrev outputs_part : MemoryMap → Block → Width → List Instr
outputs_part l b w = outputs_code w l.singletons (l.slots + input_slots (slots_of b) b.outputs) l.outputs b.outputs

outputs_on : (c : Ctx) (b : Block) (w : Width) (bytes bs m : List ℕ) (s : State) (p : ℕ) → Evals c c.memory_map b w
    bytes bs
    → Live c s → s.regs.pc ≡ p
    → Stands c p (outputs_part c.memory_map b w) → length m ≡ 65536 → s.mem ≡ put m c.memory_map.slots
    (slots_after b bytes)
    → HasBytes m c.memory_map.outputs (all_bytes w bs)
    → Reaches c (sum_by (output_most w) b.outputs) (output_parts b.outputs) s
    (p + code_size (outputs_part c.memory_map b w))
    (evaluated c.memory_map b w bytes bs m)
outputs_on c b w bytes bs m s p h live ep st lm em hb =
    let l = c.memory_map in
    let n = input_slots (slots_of b) b.outputs in
    let la = length-after b bytes in
    let ls = length-slots b in
    let few = h.facts.few_slots in
    let ld : length (masses b bytes) ≡ sum_by singleton_count b.outputs =
    omega (arith, length-drop n (slots_after b bytes)) in
    let lo = c.apart.slots in
    let lu = c.apart.outputs in
    let outs = h.valid.few_outputs in
    let hv : HasBytes s.mem (l.slots + n) (masses b bytes) =
    subst (λ x. HasBytes x (l.slots + n) (masses b bytes)) (sym em)
    (has_put_from m l.slots n (slots_after b bytes) (omega arith) (omega arith)) in
    let lb = length-all_bytes w bs in
    let room = places_few w (length b.outputs) outs in
    let eb : places w * length bs ≡ places w * length b.outputs = ap (λ k. places w * k) h.count in
    let hb' : HasBytes s.mem l.outputs (all_bytes w bs) =
    subst (λ x. HasBytes x l.outputs (all_bytes w bs)) (sym em)
    (bytes_put_out m l.slots (slots_after b bytes) l.outputs (all_bytes w bs) (inl (omega arith)) hb) in
    let few_out : sum_by singleton_count b.outputs ≤ length (slots_of b) = omega arith in
    let many : length (masses b bytes) ≤ 60 = omega (arith, outputs_few b h.valid) in
    let r =
    outputs_run c w b.outputs l.singletons (l.slots + n) l.outputs (masses b bytes) bs s p
    (record { live = live; pc_is = ep; code = st; singletons = h.rom.singletons; masses = hv; before = hb' })
    h.valid.outputs ld h.count (omega arith) (omega arith) (omega arith) (omega arith) (omega arith)
    (omega arith) in
    reaches_at c _ _ _ _ s _ _ _ _ (omega arith) (omega arith) refl
    (ap (λ x. put x l.outputs (all_bytes w (output_answers w b.outputs (masses b bytes) bs))) em) r

-- what the rules stand on, in either instruction
record RulesHere (c : Ctx) (m ss : List ℕ) (f : RuleInstruction) (s : State) (p : ℕ) (cs : List Conjunction)
    (ws : List ℕ) : Type 0 where
  live : Live c s
  pc_is : s.regs.pc ≡ p
  code : Stands c p (rules_code c.memory_map f)
  mem_is : s.mem ≡ put m c.memory_map.slots ss
  size : length m ≡ 65536
  below : AllBelow (length ss) cs
  light : Below 256 ws
  plain : f ≡ instruction.Rev → (length ss ≤ 254) × AreFull ws
  few : length ss ≤ 300
  rules : HasBytes c.image c.memory_map.rules (rule_bytes_by c.memory_map.slots f cs)
  weights : HasBytes c.image c.memory_map.weights (weight_bytes_by f ws)
  rules_few : element_width f * length (marked 0xFE 0xFF cs) ≤ 9984
  weights_few : length ws ≤ 512

rules_at : (c : Ctx) (m ss : List ℕ) (f : RuleInstruction) (s : State) (p : ℕ) (k : Conjunction) (ks : List Conjunction) (w : ℕ)
    (vs : List ℕ) → length vs ≡ length ks
    → RulesHere c m ss f s p (k ∷ ks) (w ∷ vs)
    → Reaches c (5 + revw_bound f) (sum_by entry_count (k ∷ ks) - 1) s (p + code_size (rules_code c.memory_map f))
    (put m c.memory_map.slots (fired ss (k ∷ ks) (w ∷ vs)))
rules_at c m ss instruction.Rev s p k ks w vs e h =
    let plain = h.plain refl in
    let at : AtRules c m ss k ks w vs s =
    record { live = h.live; mem_is = h.mem_is; size = h.size; below = h.below; weights = e; few = h.few } in
    reaches_at c _ _ _ _ s _ _ _ _ (omega arith) (omega arith) refl refl
    (rev_run c m ss k ks w vs s p at h.pc_is h.code plain.1 plain.0 h.rules (omega (arith, h.rules_few)))
rules_at c m ss instruction.Revw s p k ks w vs e h =
    let at : AtRules c m ss k ks w vs s =
    record { live = h.live; mem_is = h.mem_is; size = h.size; below = h.below; weights = e; few = h.few } in
    let n : length (list_words c.memory_map.slots (k ∷ ks)) ≡ length (marked 0xFE 0xFF (k ∷ ks)) =
    length-renamed 65534 65535 (address c.memory_map.slots) (k ∷ ks) ∙ sym (length-marked 0xFE 0xFF (k ∷ ks)) in
    reaches_at c _ _ _ _ s _ _ _ _ (omega arith) (omega arith) refl refl
    (revw_run c m ss k ks w vs s p at h.pc_is h.code h.light h.rules (omega (arith, h.rules_few)) h.weights
    h.weights_few)

abbrev RulesRun : Ctx → List ℕ → List ℕ → RuleInstruction → State → ℕ → List Conjunction → List ℕ → Type 0
RulesRun c m ss f s p cs ws =
    RulesHere c m ss f s p cs ws
    → Reaches c (5 + revw_bound f) (sum_by entry_count cs - 1) s (p + code_size (rules_code c.memory_map f))
    (put m c.memory_map.slots (fired ss cs ws))

rules_run : (c : Ctx) (m ss : List ℕ) (f : RuleInstruction) (s : State) (p : ℕ) (cs : List Conjunction) (ws : List ℕ)
    → HasRules cs ws → RulesRun c m ss f s p cs ws
rules_run c m ss f s p cs ws h =
    subst₂ (λ (a : List Conjunction) (b : List ℕ). RulesRun c m ss f s p a b) (sym h.conjunctions_are)
    (sym h.weights_are) (rules_at c m ss f s p h.k h.ks h.w h.vs h.same)

rules_here : (c : Ctx) (b : Block) (w : Width) (bytes bs m : List ℕ) (s : State) (p : ℕ) → Evals c c.memory_map b w
    bytes bs
    → Live c s → s.regs.pc ≡ p
    → Stands c p (rules_code c.memory_map (instruction_of b)) → length m ≡ 65536
    → s.mem ≡ put m c.memory_map.slots (slots_before b bytes)
    → RulesHere c m (slots_before b bytes) (instruction_of b) s p (conjunctions_of b) (weights_of b)
rules_here c b w bytes bs m s p h live ep st lm em =
    let lb : length (slots_before b bytes) ≡ length (slots_of b) = length-map (slots_of b) (slot_before b bytes) in
    let few = h.facts.few_slots in
    record {
      live = live;
      pc_is = ep;
      code = st;
      mem_is = em;
      size = lm;
      below = subst (λ n. AllBelow n (conjunctions_of b)) (sym lb) (all_below b h.facts);
      light = weights_below b h.facts;
      plain = λ e. (let q = rev_is_plain b h.facts e in ((let k = q.0 in omega arith), q.1));
      few = omega arith;
      rules = h.rom.rules;
      weights = h.rom.weights;
      rules_few = list_size-le b h.limits;
      weights_few = weights_few b h.limits;
    }

-- the rules and the outputs
abbrev rules_part : MemoryMap → Block → Width → List Instr
rules_part l b w = rules_code l (instruction_of b) ++ outputs_part l b w

rules_on : (c : Ctx) (b : Block) (w : Width) (bytes bs m : List ℕ) (s : State) (p : ℕ) → Evals c c.memory_map b w bytes
    bs
    → Live c s → s.regs.pc ≡ p
    → Stands c p (rules_part c.memory_map b w) → length m ≡ 65536 → s.mem ≡ put m c.memory_map.slots
    (slots_before b bytes)
    → HasBytes m c.memory_map.outputs (all_bytes w bs)
    → Reaches c (5 + revw_bound (instruction_of b) + sum_by (output_most w) b.outputs)
    (element_count b - 1 + output_parts b.outputs) s (p + code_size (rules_part c.memory_map b w))
    (evaluated c.memory_map b w bytes bs m)
rules_on c b w bytes bs m s p h live ep st lm em hb =
    let code = rules_code c.memory_map (instruction_of b) in
    let rest = outputs_part c.memory_map b w in
    let r =
    rules_run c m (slots_before b bytes) (instruction_of b) s p (conjunctions_of b) (weights_of b) (has_rules b h.facts)
    (rules_here c b w bytes bs m s p h live ep (stands_front (Here c) p code rest st) lm em) in
    let q = outputs_on c b w bytes bs m r.t (p + code_size code) h r.live r.pc_is
    (stands_back (Here c) p code rest st) lm r.mem_is hb in
    behind c code rest (5 + revw_bound (instruction_of b)) (element_count b - 1) (sum_by (output_most w) b.outputs)
    (output_parts b.outputs) s p r.t (evaluated c.memory_map b w bytes bs m) r.goes r.sp_is q

-- the complements and the cleared slots
fill_run : (c : Ctx) (b : Block) (w : Width) (bytes bs m : List ℕ) (s : State) (p : ℕ) → Evals c c.memory_map b w bytes
    bs
    → Live c s → s.regs.pc ≡ p
    → Stands c p (slots_code c.memory_map.slots b.inputs c.memory_map.slots (slots_of b)) → length m ≡ 65536
    → s.mem ≡ put m c.memory_map.slots (grades bytes b.inputs)
    → Reaches c (3 * complement_count b + output_term_count b) 0 s
    (p + code_size (slots_code c.memory_map.slots b.inputs c.memory_map.slots (slots_of b)))
    (put m c.memory_map.slots (slots_before b bytes))
fill_run c b w bytes bs m s p h live ep st lm em =
    let gs = grades bytes b.inputs in
    let code = slots_code_is c.memory_map b in
    let lg : length gs ≡ input_term_count b = length-grades bytes b.inputs h.input.count in
    let li = length-input_terms b in
    let ls = length-slots b in
    let few = h.facts.few_slots in
    let at : c.memory_map.slots + length (input_terms b) ≡ c.memory_map.slots + length (gs ++ []) =
    omega (arith, length-append gs []) in
    let lf : length (input_terms b) + length (further_slots b) ≡ length (slots_of b) =
    omega (
      arith,
      ap length (slots_are b),
      length-append (map term_slot (input_terms b)) (further_slots b),
      length-map (input_terms b) term_slot,
    ) in
    let r =
    slots_run c b bytes b.inputs gs m c.memory_map.slots (further_slots b) [] s p
    (c.memory_map.slots + length (input_terms b))
    live ep (subst (Stands c p) code st) (further_fill b bytes h.input.count) at
    (em ∙ ap (put m c.memory_map.slots) (sym (append-nil gs))) lm refl (omega arith) in
    reaches_at c (fill_count (further_slots b)) 0 _ _ s _ _ _ _ (omega (arith, count_further b)) (omega arith)
    (ap (λ k. p + code_size k) (sym code)) (ap (put m c.memory_map.slots) (sym (before_are b bytes h.input.count))) r

abbrev slots_part : MemoryMap → Block → Width → List Instr
slots_part l b w = slots_code l.slots b.inputs l.slots (slots_of b) ++ rules_part l b w

slots_on : (c : Ctx) (b : Block) (w : Width) (bytes bs m : List ℕ) (s : State) (p : ℕ) → Evals c c.memory_map b w bytes
    bs
    → Live c s → s.regs.pc ≡ p
    → Stands c p (slots_part c.memory_map b w) → length m ≡ 65536 → s.mem ≡ put m c.memory_map.slots
    (grades bytes b.inputs)
    → HasBytes m c.memory_map.outputs (all_bytes w bs)
    → Reaches c (3 * complement_count b + output_term_count
    b + (5 + revw_bound (instruction_of b) + sum_by (output_most w) b.outputs))
    (0 + (element_count b - 1 + output_parts b.outputs)) s (p + code_size (slots_part c.memory_map b w))
    (evaluated c.memory_map b w bytes bs m)
slots_on c b w bytes bs m s p h live ep st lm em hb =
    let code = slots_code c.memory_map.slots b.inputs c.memory_map.slots (slots_of b) in
    let rest = rules_part c.memory_map b w in
    let r = fill_run c b w bytes bs m s p h live ep (stands_front (Here c) p code rest st) lm em in
    let q = rules_on c b w bytes bs m r.t (p + code_size code) h r.live r.pc_is
    (stands_back (Here c) p code rest st) lm r.mem_is hb in
    behind c code rest (3 * complement_count b + output_term_count b) 0
    (5 + revw_bound (instruction_of b) + sum_by (output_most w) b.outputs) (element_count b - 1 + output_parts b.outputs) s
    p r.t (evaluated c.memory_map b w bytes bs m) r.goes r.sp_is q

-- the grades, and what follows
abbrev inputs_part : MemoryMap → Block → Width → List Instr
inputs_part l b w = fuzzify_code l.inputs b.inputs ++ slots_part l b w

inputs_on : (c : Ctx) (b : Block) (w : Width) (bytes bs : List ℕ) (s : State) (p : ℕ) → Evals c c.memory_map b w bytes
    bs
    → Live c s → s.regs.pc ≡ p
    → s.regs.x ≡ c.memory_map.tables → s.regs.y ≡ c.memory_map.slots → Stands c p (inputs_part c.memory_map b w)
    → HasBytes s.mem c.memory_map.inputs bytes
    → HasBytes s.mem c.memory_map.outputs (all_bytes w bs)
    → Reaches c (length b.inputs + input_term_count
    b + (3 * complement_count b + output_term_count
    b + (5 + revw_bound (instruction_of b) + sum_by (output_most w) b.outputs)))
    (0 + (0 + (element_count b - 1 + output_parts b.outputs))) s (p + code_size (inputs_part c.memory_map b w))
    (evaluated c.memory_map b w bytes bs s.mem)
inputs_on c b w bytes bs s p h live ep ex ey st hi hb =
    let code = fuzzify_code c.memory_map.inputs b.inputs in
    let rest = slots_part c.memory_map b w in
    let t = sum_by-term_count b.inputs h.valid.few_inputs h.valid.inputs in
    let r =
    fuzzify_run c b.inputs bytes c.memory_map.inputs s p c.memory_map.tables c.memory_map.slots live ep
    (stands_front (Here c) p code rest st) ex ey h.input.count hi h.rom.tables (omega arith) (omega arith) (omega arith)
    (omega (arith, h.input.count, h.valid.few_inputs)) (omega arith) (omega arith) in
    let q = slots_on c b w bytes bs s.mem r.t (p + code_size code) h r.live r.pc_is
    (stands_back (Here c) p code rest st) live.size
    r.mem_is hb in
    behind c code rest (length b.inputs + input_term_count b) 0 _ _ s p r.t (evaluated c.memory_map b w bytes bs s.mem)
    r.goes r.sp_is q

-- how many instructions EVAL takes at most, and how many parts beyond their first
abbrev pub eval_most : Width → Block → ℕ
eval_most w b =
    7 + length b.inputs + input_term_count b + 3 * complement_count b + output_term_count b + sum_by
    (output_most w) b.outputs + revw_bound (instruction_of b)

abbrev pub eval_parts : Block → ℕ
eval_parts b = element_count b - 1 + output_parts b.outputs

-- EVAL: the answers stand where the outputs are
pub eval_run : (c : Ctx) (b : Block) (w : Width) (bytes bs : List ℕ) (s : State) → Evals c c.memory_map b w bytes bs
    → Live c s → s.regs.pc ≡ c.memory_map.eval
    → HasBytes s.mem c.memory_map.inputs bytes → HasBytes s.mem c.memory_map.outputs (all_bytes w bs)
    → Reaches c (eval_most w b) (eval_parts b) s (c.memory_map.eval + code_size (eval_code c.memory_map b w))
    (evaluated c.memory_map b w bytes bs s.mem)
eval_run c b w bytes bs s h live ep hi hb =
    let st = h.rom.code in
    let s1 = after_plain c.flags (LdxImmediate c.memory_map.tables) s in
    let s2 = after_plain c.flags (LdyImmediate c.memory_map.slots) s1 in
    let n1 = straight c s c.memory_map.eval _ live ep st.0 refl tt tt in
    let n2 = straight c s1 (c.memory_map.eval + 3) _ n1.live n1.pc_is st.1.0 refl tt tt in
    let q = inputs_on c b w bytes bs s2 (c.memory_map.eval + 3 + 3) h n2.live n2.pc_is refl refl st.1.1 hi hb in
    let g = goes_on c 1 0 1 0 s s1 s2 (goes_one c s s1 (c.memory_map.eval + 3) n1)
    (goes_one c s1 s2 (c.memory_map.eval + 3 + 3) n2) in
    reaches_at c _ _ _ _ s _ _ _ _ (omega arith) (omega arith) (omega arith) refl
    (reaches_after c 2 0 _ _ s s2 _ (evaluated c.memory_map b w bytes bs s.mem) g refl q)
