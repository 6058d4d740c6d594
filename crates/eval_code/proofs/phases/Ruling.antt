-- The rules, by REV and by REVW.
use Rattle.eval_code.proofs.Words.{[], ◌*◌, ◌+◌, ◌-◌, ◌<◌, ◌^◌, ◌∙◌, ◌∷◌, ◌≡◌, ◌≤◌, after_plain, Andcc, ap, ap₂}
use Rattle.eval_code.proofs.Words.{arith, Bool, bytes_of_word, Conjunction, decode_at, Each, element_bytes}
use Rattle.eval_code.proofs.Words.{elements_of, entry_count, false, fired, fits_opened, fits_put, flat_map, from}
use Rattle.eval_code.proofs.Words.{get_or, has, inl, inr, Instr, interrupt_masks, LdaaImmediate, LdxImmediate}
use Rattle.eval_code.proofs.Words.{LdyImmediate, length, List, list_bytes, list_words, map, marked, named, Ok, opened}
use Rattle.eval_code.proofs.Words.{Orcc, plus, put, Reads, refl, rules_code, rules_target, State, subst, suc, sum_by}
use Rattle.eval_code.proofs.Words.{sum_by-cons, sym, true, Writes, ℕ}
use Rattle.cpu12_parts.specs.Rules.{rev_operands, revw_operands, Listed, AreWeights, Rule, RuleOperands, weight_bytes, rules_named}
use Rattle.cpu12_parts.specs.Rules.{AreReady, rules_whole}
use Rattle.cpu12_parts.specs.{Touching.IsRulesOver}
use Rattle.cpu12_isa.specs.declared.instr.Instr.TheVariants.{Rev, Revw}
use Rattle.eval_code.proofs.{steps.Memory.HasBytes, steps.Memory.same_bytes, Sizes.code_size}
use Rattle.eval_code.proofs.phases.RuleMemory.{NamesSlots, renamed, rules_by, Below, span, rule_by, AllBelow}
use Rattle.eval_code.proofs.phases.RuleMemory.{apart_by, rules_are, rules_target_low, element_bytes_high}
use Rattle.eval_code.proofs.phases.RuleMemory.{weight_bytes_high, behind_fits, behind_weights_fits, elements_are}
use Rattle.eval_code.proofs.phases.RuleMemory.{length-renamed, length-rules_by, all_is, LightRules, light_by}
use Rattle.eval_code.proofs.phases.RuleMemory.{last_strength_lt, all_keep}
use Rattle.eval_code.proofs.steps.Flags.{masked_put, masked_open_hnzc, masked_open_hnz, overflow_off, overflow_or}
use Rattle.eval_code.proofs.steps.Flags.{carry_or}
use Rattle.eval_code.proofs.{steps.Decoding.decode_same, phases.Averaging.each_append, phases.Averaging.each_from}
use Rattle.eval_code.proofs.steps.Stepping.{Ctx, Live, Stands, Goes, goes_one, goes_on, goes_part, Reaches}
use Rattle.eval_code.proofs.steps.Stepping.{reaches_at, between_of, code_in}
use Rattle.eval_code.proofs.steps.Instructions.{straight}
use Rattle.rule_layout.specs.declared.flat.RuleInstruction.TheVariants as instruction

-- REV's names are the slots' numbers, REVW's their addresses
abbrev pub number : ℕ → ℕ
number k = k

abbrev pub address : ℕ → ℕ → ℕ
address base k = base + k

pub rev_names : (base n : ℕ) → n ≤ 254 → base + n ≤ 0x1800 → NamesSlots (rev_operands base) base n number
rev_names base n le low = record { place = λ k lt. omega arith; small = λ k lt. omega arith; low = low }

pub revw_names : (base n : ℕ) → base + n ≤ 0x1800 → NamesSlots revw_operands base n (address base)
revw_names base n low = record { place = λ k lt. refl; small = λ k lt. omega arith; low = low }

map_number : (xs : List ℕ) → map number xs ≡ xs
map_number [] = refl
map_number (x ∷ xs) = ap (λ ys. x ∷ ys) (map_number xs)

pub renamed_number : (cs : List Conjunction) → map (renamed number) cs ≡ cs
renamed_number [] = refl
renamed_number (c ∷ cs) = ap₂ (λ (d : Conjunction) (ds : List Conjunction). d ∷ ds) (one c) (renamed_number cs)
  where
    one : (c : Conjunction) → renamed number c ≡ c
    one c = ap₂ (λ (a b : List ℕ). let d : Conjunction = record { literals = a; conclusions = b } in d)
        (map_number c.literals) (map_number c.conclusions)

-- the lists as they stand
pub rev_listed : (y : ℕ) (m : List ℕ) (x : ℕ) (es : List ℕ) → HasBytes m x es → x + length es < 65536
    → Listed (rev_operands y) m x es
rev_listed y m x [] h le = tt
rev_listed y m x (e ∷ es) h le = let p : plus x 1 ≡ x + 1 = omega arith in
    (h.0, subst (λ k. Listed (rev_operands y) m k es) (sym p) (rev_listed y m (x + 1) es h.1 (omega arith)))

pub revw_listed : (m : List ℕ) (x : ℕ) (es : List ℕ) → HasBytes m x (flat_map bytes_of_word es)
    → x + 2 * length es < 65536 → Listed revw_operands m x es
revw_listed m x [] h le = tt
revw_listed m x (e ∷ es) h le =
    let p : plus x 1 ≡ x + 1 = omega arith in
    let q : plus x 2 ≡ x + 1 + 1 = omega arith in
    let w : get_or m x 0 * 2 ^ 8 + get_or m (plus x 1) 0 ≡ e =
    ap₂ (λ a b. a * 2 ^ 8 + b) h.0 (ap (λ k. get_or m k 0) p ∙ h.1.0) ∙ omega arith in
    (w, subst (λ k. Listed revw_operands m k es) (sym q) (revw_listed m (x + 1 + 1) es h.1.1 (omega arith)))

pub rev_span : (y : ℕ) (es : List ℕ) → span (rev_operands y) es ≡ length es
rev_span y [] = refl
rev_span y (e ∷ es) = omega (arith, rev_span y es)

pub revw_span : (es : List ℕ) → span revw_operands es ≡ 2 * length es
revw_span [] = refl
revw_span (e ∷ es) = omega (arith, revw_span es)

-- each weight is 255
abbrev pub AreFull : List ℕ → Type 0
AreFull [] = Unit {0}
AreFull (w ∷ ws) = (w ≡ 255) × AreFull ws

pub full_below : (ws : List ℕ) → AreFull ws → Below 256 ws
full_below [] h = tt
full_below (w ∷ ws) h = ((let e = h.0 in omega arith), full_below ws h.1)

pub full_weights : (name : ℕ → ℕ) (m : List ℕ) (y : ℕ) (cs : List Conjunction) (ws : List ℕ) → AreFull ws
    → AreWeights false m y (rules_by name cs ws)
full_weights name m y [] ws h = tt
full_weights name m y (c ∷ cs) [] h = tt
full_weights name m y (c ∷ cs) (w ∷ ws) h = (h.0, full_weights name m y cs ws h.1)

pub read_weights : (name : ℕ → ℕ) (m : List ℕ) (y : ℕ) (cs : List Conjunction) (ws : List ℕ) → HasBytes m y ws
    → y + length ws < 65536
    → AreWeights true m y (rules_by name cs ws)
read_weights name m y [] ws h le = tt
read_weights name m y (c ∷ cs) [] h le = tt
read_weights name m y (c ∷ cs) (w ∷ ws) h le = let p : plus y 1 ≡ y + 1 = omega arith in (
  h.0,
  subst (λ k. AreWeights true m k (rules_by name cs ws)) (sym p)
      (read_weights name m (y + 1) cs ws h.1 (omega arith)),
)

pub entries_some : (c : Conjunction) (cs : List Conjunction) → 2 ≤ sum_by entry_count (c ∷ cs)
entries_some c cs = omega (arith, sum_by-cons entry_count c cs)

-- addresses of one kind
module _ (P : ℕ → Type 0) (f : RuleOperands) (base n : ℕ) (name : ℕ → ℕ) (h : NamesSlots f base n name)
    (e : (k : ℕ) → base ≤ k → k < base + n → P k) where
  each_below : (ks : List ℕ) → Below n ks → Each P (named f (map name ks))
  each_below [] b = tt
  each_below (k ∷ ks) b =
      (subst P (sym (h.place k b.0)) (e (base + k) (omega arith) (let q = b.0 in omega arith)), each_below ks b.1)

  named_each : (cs : List Conjunction) (ws : List ℕ) → AllBelow n cs → Each P (rules_named f (rules_by name cs ws))
  named_each [] ws b = tt
  named_each (c ∷ cs) [] b = tt
  named_each (c ∷ cs) (w ∷ ws) b =
      each_append P (named f (map name c.literals)) _ (each_below c.literals b.0)
      (each_append P (named f (map name c.conclusions)) _ (each_below c.conclusions b.1) (named_each cs ws b.2))

  target_each : (cs : List Conjunction) (ws : List ℕ) → AllBelow n cs → Each P (rules_target f (rules_by name cs ws))
  target_each [] ws b = tt
  target_each (c ∷ cs) [] b = tt
  target_each (c ∷ cs) (w ∷ ws) b =
      each_append P (named f (map name c.conclusions)) _ (each_below c.conclusions b.1) (target_each cs ws b.2)

elements_each : (P : ℕ → Type 0) (f : RuleOperands) (x : ℕ) (es : List ℕ) → x + span f es < 65536
    → ((k : ℕ) → x ≤ k → k < x + span f es → P k)
    → Each P (element_bytes f x es)
elements_each P f x [] hi h = tt
elements_each P f x (e ∷ es) hi h =
    let p : plus x f.size ≡ x + f.size = omega arith in
    each_append P (from x f.size) _ (each_from P x f.size (omega arith) (λ k a b. h k a (omega arith)))
    (subst (λ k. Each P (element_bytes f k es)) (sym p)
    (elements_each P f (x + f.size) es (omega arith) (λ k a b. h k (omega arith) (omega arith))))

weights_each : (P : ℕ → Type 0) (b : Bool) (y : ℕ) (ps : List Rule) → y + length ps < 65536
    → ((k : ℕ) → y ≤ k → k < y + length ps → P k)
    → Each P (weight_bytes b y ps)
weights_each P true y [] hi h = tt
weights_each P true y (p ∷ ps) hi h = let e : plus y 1 ≡ y + 1 = omega arith in (
  h y (omega arith) (omega arith),
  subst (λ k. Each P (weight_bytes true k ps)) (sym e)
      (weights_each P true (y + 1) ps (omega arith) (λ k a b. h k (omega arith) (omega arith))),
)
weights_each P false y [] hi h = tt
weights_each P false y (p ∷ ps) hi h = tt

-- the whole instruction, where it is ready, keeps what each state keeps
record Ruled (c : Ctx) (i : Instr) (f : RuleOperands) (d : ℕ) (p : Rule) (ps : List Rule) (s : State) : Type 0 where
  over : IsRulesOver (Reads c.memory_map) (Writes c.memory_map) i f c.flags d p ps s
      (rules_whole f c.flags s.regs s.temps s.mem p ps)
  live : Live c (rules_whole f c.flags s.regs s.temps s.mem p ps)
  masks : interrupt_masks (rules_whole f c.flags s.regs s.temps s.mem p ps).regs.ccr ≡ interrupt_masks s.regs.ccr

rules_next : (c : Ctx) (s : State) (i : Instr) (f : RuleOperands) (d : ℕ) (p : Rule) (ps : List Rule) → Live c s
    → decode_at s.mem s.regs.pc ≡ Ok i
    → AreReady f s.regs s.mem p ps → length (elements_of f p ps) ≡ suc d
    → LightRules (p ∷ ps) → Below 0x1800 (rules_target f (p ∷ ps)) → Each (Writes c.memory_map)
    (rules_target f (p ∷ ps))
    → Each (Reads c.memory_map) (rules_named f (p ∷ ps))
    → Each (Reads c.memory_map) (element_bytes f s.regs.x (elements_of f p ps))
    → Each (Reads c.memory_map) (weight_bytes (f.weighs s.regs.ccr) s.regs.y (p ∷ ps))
    → interrupt_masks (opened s.regs.ccr f.mask c.flags) ≡ interrupt_masks s.regs.ccr
    → Ruled c i f d p ps s
rules_next c s i f d p ps l de ready el light target writes names elements weights masks =
    let k = all_keep f c.image s.mem p ps light target l.size l.bytes l.same in
    let same = masked_put (opened s.regs.ccr f.mask c.flags) 1 true (omega arith) ∙ masks in
    record {
      over = record {
        step = record { decoded = de; ready = ready; parts = el; after = refl };
        reads = each_append (Reads c.memory_map) (element_bytes f s.regs.x (elements_of f p ps)) _ elements
            (each_append (Reads c.memory_map) (rules_named f (p ∷ ps))
            (weight_bytes (f.weighs s.regs.ccr) s.regs.y (p ∷ ps)) names weights);
        writes = writes;
      };
      masks = same;
      live = record {
        off = l.off;
        size = k.0;
        bytes = k.1;
        fits = record {
          a = last_strength_lt f s.mem p ps light;
          b = l.fits.b;
          x = behind_fits f s.regs.x (elements_of f p ps) l.fits.x;
          y = behind_weights_fits (f.weighs s.regs.ccr) s.regs.y (p ∷ ps) l.fits.y;
          sp = l.fits.sp;
          pc = omega arith;
          ccr = fits_put (opened s.regs.ccr f.mask c.flags) 1 true (omega arith)
              (fits_opened s.regs.ccr f.mask c.flags l.fits.ccr c.fits);
        };
        stack = l.stack;
        masks = same ∙ l.masks;
        same = k.2;
      };
    }

-- what is known where the rules begin
pub record AtRules (c : Ctx) (m ss : List ℕ) (k : Conjunction) (ks : List Conjunction) (w : ℕ) (ws : List ℕ)
    (s : State) : Type 0 where
  pub live : Live c s
  pub mem_is : s.mem ≡ put m c.memory_map.slots ss
  pub size : length m ≡ 65536
  pub below : AllBelow (length ss) (k ∷ ks)
  pub weights : length ws ≡ length ks
  pub few : length ss ≤ 300

at_rules_later : (c : Ctx) (m ss : List ℕ) (k : Conjunction) (ks : List Conjunction) (w : ℕ) (ws : List ℕ)
    (s t : State) → AtRules c m ss k ks w ws s → Live c t → t.mem ≡ s.mem → AtRules c m ss k ks w ws t
at_rules_later c m ss k ks w ws s t h live same = record {
  live = live;
  mem_is = same ∙ h.mem_is;
  size = h.size;
  below = h.below;
  weights = h.weights;
  few = h.few;
}

-- REV itself
rev_step : (c : Ctx) (m ss : List ℕ) (k : Conjunction) (ks : List Conjunction) (w : ℕ) (ws : List ℕ) (s : State)
    → AtRules c m ss k ks w ws s
    → decode_at s.mem s.regs.pc ≡ Ok Rev → s.regs.x ≡ c.memory_map.rules → s.regs.y ≡ c.memory_map.slots → s.regs.a
    ≡ 255
    → has s.regs.ccr 1 ≡ false
    → AreFull (w ∷ ws) → length ss ≤ 254 → HasBytes c.image c.memory_map.rules (list_bytes (k ∷ ks))
    → length (list_bytes (k ∷ ks)) ≤ 9984
    → Ruled c Rev (rev_operands s.regs.y) (sum_by entry_count (k ∷ ks) - 1) (rule_by number k w) (rules_by number ks ws) s
rev_step c m ss k ks w ws s h de ex ey ea ev full few hl le =
    let low = c.apart.slots in
    let list_low = c.apart.rules in
    let list_end = c.apart.rules_end in
    let most = h.few in
    let slot : (P : ℕ → Type 0) → ((k : ℕ) → c.memory_map.slots ≤ k → k < c.memory_map.slots + 300 → P k) → (k : ℕ)
    → s.regs.y ≤ k → k < s.regs.y + length ss → P k =
    λ P e k a b. e k (omega arith) (omega arith) in
    let read : (k : ℕ) → s.regs.y ≤ k → k < s.regs.y + length ss → Reads c.memory_map k =
    slot (Reads c.memory_map) (λ k a b. inr (inl (a, b))) in
    let write : (k : ℕ) → s.regs.y ≤ k → k < s.regs.y + length ss → Writes c.memory_map k =
    slot (Writes c.memory_map) (λ k a b. inr (inl (a, b))) in
    let f = rev_operands s.regs.y in
    let n = length ss in
    let names : NamesSlots f s.regs.y n number = rev_names s.regs.y n few (omega arith) in
    let some = entries_some k ks in
    let lr : length (list_bytes (k ∷ ks)) ≡ sum_by entry_count (k ∷ ks) =
    ap (λ xs. length (marked 254 255 xs)) (sym (renamed_number (k ∷ ks))) ∙ length-renamed 254 255 number (k ∷ ks) in
    let ee : list_bytes (k ∷ ks) ≡ elements_of f (rule_by number k w) (rules_by number ks ws) =
    ap (marked 254 255) (sym (renamed_number (k ∷ ks))) ∙ sym (elements_are f number k ks w ws h.weights) in
    let hm : HasBytes s.mem s.regs.x (list_bytes (k ∷ ks)) =
    subst (λ x. HasBytes s.mem x (list_bytes (k ∷ ks))) (sym ex)
    (same_bytes c.image s.mem c.memory_map.rules (list_bytes (k ∷ ks)) (λ at a b. h.live.same at (omega arith)) hl) in
    let listed : Listed f s.mem s.regs.x (elements_of f (rule_by number k w) (rules_by number ks ws)) =
    subst (Listed f s.mem s.regs.x) ee (rev_listed s.regs.y s.mem s.regs.x (list_bytes (k ∷ ks)) hm (omega arith)) in
    let len : length (elements_of f (rule_by number k w) (rules_by number ks ws)) ≡ length (list_bytes (k ∷ ks)) =
    ap length (sym ee) in
    let elements =
    element_bytes_high f s.regs.x (elements_of f (rule_by number k w) (rules_by number ks ws)) (omega arith)
    (omega (arith, rev_span s.regs.y (elements_of f (rule_by number k w) (rules_by number ks ws)))) in
    let span_is = rev_span s.regs.y (elements_of f (rule_by number k w) (rules_by number ks ws)) in
    let elements_in : Each (Reads c.memory_map)
    (element_bytes f s.regs.x (elements_of f (rule_by number k w) (rules_by number ks ws))) =
    elements_each (Reads c.memory_map) f s.regs.x (elements_of f (rule_by number k w) (rules_by number ks ws))
    (omega arith)
    (λ j a b. inr (inr (inr (inr (inr (inl (omega arith, omega arith))))))) in
    let target = rules_target_low f s.regs.y n number names (k ∷ ks) (w ∷ ws) h.below in
    rules_next c s Rev f (sum_by entry_count (k ∷ ks) - 1) (rule_by number k w)
    (rules_by number ks ws) h.live de (record {
      a = ea;
      v = ev;
      rules = rules_are f s.regs.y n number names (k ∷ ks) (w ∷ ws) h.below;
      listed = listed;
      weights = full_weights number s.mem s.regs.y (k ∷ ks) (w ∷ ws) full;
      list_stays = apart_by (rules_target f (rules_by number (k ∷ ks) (w ∷ ws))) _ target elements;
      weights_stay = apart_by (rules_target f (rules_by number (k ∷ ks) (w ∷ ws))) [] target tt;
    }) (omega arith) (light_by number (k ∷ ks) (w ∷ ws) (full_below (w ∷ ws) full)) target
    (target_each (Writes c.memory_map) f s.regs.y n number names write (k ∷ ks) (w ∷ ws) h.below)
    (named_each (Reads c.memory_map) f s.regs.y n number names read (k ∷ ks) (w ∷ ws) h.below) elements_in tt
    (masked_open_hnzc s.regs.ccr c.flags)

-- REVW itself
revw_step : (c : Ctx) (m ss : List ℕ) (k : Conjunction) (ks : List Conjunction) (w : ℕ) (ws : List ℕ) (s : State)
    → AtRules c m ss k ks w ws s
    → decode_at s.mem s.regs.pc ≡ Ok Revw → s.regs.x ≡ c.memory_map.rules → s.regs.y ≡ c.memory_map.weights → s.regs.a
    ≡ 255
    → has s.regs.ccr 1 ≡ false
    → has s.regs.ccr 0 ≡ true
    → Below 256 (w ∷ ws) → HasBytes c.image c.memory_map.rules
    (flat_map bytes_of_word (list_words c.memory_map.slots (k ∷ ks)))
    → 2 * length (list_words c.memory_map.slots (k ∷ ks)) ≤ 9984 → HasBytes c.image c.memory_map.weights (w ∷ ws)
    → length (w ∷ ws) ≤ 512
    → Ruled c Revw revw_operands (sum_by entry_count (k ∷ ks) - 1) (rule_by (address c.memory_map.slots) k w)
    (rules_by (address c.memory_map.slots) ks ws) s
revw_step c m ss k ks w ws s h de ex ey ea ev ec light hl le hw whi =
    let low = c.apart.slots in
    let list_low = c.apart.rules in
    let list_end = c.apart.rules_end in
    let weights_low = c.apart.weights in
    let weights_end = c.apart.weights_end in
    let most = h.few in
    let read : (k : ℕ) → c.memory_map.slots ≤ k → k < c.memory_map.slots + length ss → Reads c.memory_map k =
    λ k a b. inr (inl (omega arith, omega arith)) in
    let write : (k : ℕ) → c.memory_map.slots ≤ k → k < c.memory_map.slots + length ss → Writes c.memory_map k =
    λ k a b. inr (inl (omega arith, omega arith)) in
    let f = revw_operands in
    let n = length ss in
    let name = address c.memory_map.slots in
    let names : NamesSlots f c.memory_map.slots n name = revw_names c.memory_map.slots n (omega arith) in
    let some = entries_some k ks in
    let lr : length (list_words c.memory_map.slots (k ∷ ks)) ≡ sum_by entry_count (k ∷ ks) =
    length-renamed 65534 65535 name (k ∷ ks) in
    let ee : list_words c.memory_map.slots (k ∷ ks) ≡ elements_of f (rule_by name k w) (rules_by name ks ws) =
    sym (elements_are f name k ks w ws h.weights) in
    let hm : HasBytes s.mem s.regs.x (flat_map bytes_of_word (list_words c.memory_map.slots (k ∷ ks))) =
    subst (λ x. HasBytes s.mem x (flat_map bytes_of_word (list_words c.memory_map.slots (k ∷ ks)))) (sym ex)
    (same_bytes c.image s.mem c.memory_map.rules (flat_map bytes_of_word (list_words c.memory_map.slots (k ∷ ks)))
    (λ at a b. h.live.same at (omega arith)) hl) in
    let listed : Listed f s.mem s.regs.x (elements_of f (rule_by name k w) (rules_by name ks ws)) =
    subst (Listed f s.mem s.regs.x) ee
    (revw_listed s.mem s.regs.x (list_words c.memory_map.slots (k ∷ ks)) hm (omega arith)) in
    let len : length (elements_of f (rule_by name k w) (rules_by name ks ws)) ≡ length
    (list_words c.memory_map.slots (k ∷ ks)) = ap length (sym ee) in
    let elements =
    element_bytes_high f s.regs.x (elements_of f (rule_by name k w) (rules_by name ks ws)) (omega arith)
    (omega (arith, revw_span (elements_of f (rule_by name k w) (rules_by name ks ws)))) in
    let span_is = revw_span (elements_of f (rule_by name k w) (rules_by name ks ws)) in
    let elements_in : Each (Reads c.memory_map)
    (element_bytes f s.regs.x (elements_of f (rule_by name k w) (rules_by name ks ws))) =
    elements_each (Reads c.memory_map) f s.regs.x (elements_of f (rule_by name k w) (rules_by name ks ws)) (omega arith)
    (λ j a b. inr (inr (inr (inr (inr (inl (omega arith, omega arith))))))) in
    let target = rules_target_low f c.memory_map.slots n name names (k ∷ ks) (w ∷ ws) h.below in
    let hv : HasBytes s.mem s.regs.y (w ∷ ws) =
    subst (λ y. HasBytes s.mem y (w ∷ ws)) (sym ey)
    (same_bytes c.image s.mem c.memory_map.weights (w ∷ ws) (λ at a b. h.live.same at (omega arith)) hw) in
    let lw = length-rules_by name (k ∷ ks) (w ∷ ws) (let e = h.weights in omega arith) in
    let high = weight_bytes_high (has s.regs.ccr 0) s.regs.y (rules_by name (k ∷ ks) (w ∷ ws)) (omega arith)
    (omega (arith, h.weights)) in
    let weights_in : Each (Reads c.memory_map)
    (weight_bytes (has s.regs.ccr 0) s.regs.y (rules_by name (k ∷ ks) (w ∷ ws))) =
    weights_each (Reads c.memory_map) (has s.regs.ccr 0) s.regs.y (rules_by name (k ∷ ks) (w ∷ ws))
    (omega (arith, h.weights)) (λ j a b. inr (inr (inr (inr (inl (omega arith, omega arith)))))) in
    rules_next c s Revw f (sum_by entry_count (k ∷ ks) - 1) (rule_by name k w) (rules_by name ks ws) h.live de (record {
      a = ea;
      v = ev;
      rules = rules_are f c.memory_map.slots n name names (k ∷ ks) (w ∷ ws) h.below;
      listed = listed;
      weights = subst (λ b. AreWeights b s.mem s.regs.y (rules_by name (k ∷ ks) (w ∷ ws))) (sym ec)
          (read_weights name s.mem s.regs.y (k ∷ ks) (w ∷ ws) hv (omega arith));
      list_stays = apart_by (rules_target f (rules_by name (k ∷ ks) (w ∷ ws))) _ target elements;
      weights_stay = apart_by (rules_target f (rules_by name (k ∷ ks) (w ∷ ws))) _ target high;
    }) (omega arith) (light_by name (k ∷ ks) (w ∷ ws) light) target
    (target_each (Writes c.memory_map) f c.memory_map.slots n name names write (k ∷ ks) (w ∷ ws) h.below)
    (named_each (Reads c.memory_map) f c.memory_map.slots n name names read (k ∷ ks) (w ∷ ws) h.below) elements_in
    weights_in (masked_open_hnz s.regs.ccr c.flags)

-- the rules by REV
pub rev_run : (c : Ctx) (m ss : List ℕ) (k : Conjunction) (ks : List Conjunction) (w : ℕ) (ws : List ℕ) (s : State)
    (p : ℕ) → AtRules c m ss k ks w ws s
    → s.regs.pc ≡ p → Stands c p (rules_code c.memory_map instruction.Rev)
    → AreFull (w ∷ ws) → length ss ≤ 254 → HasBytes c.image c.memory_map.rules (list_bytes (k ∷ ks))
    → length (list_bytes (k ∷ ks)) ≤ 9984
    → Reaches c 5 (sum_by entry_count (k ∷ ks) - 1) s (p + code_size (rules_code c.memory_map instruction.Rev))
    (put m c.memory_map.slots (fired ss (k ∷ ks) (w ∷ ws)))
rev_run c m ss k ks w ws s p h ep st full few hl le =
    let s1 = after_plain c.flags (LdxImmediate c.memory_map.rules) s in
    let s2 = after_plain c.flags (LdyImmediate c.memory_map.slots) s1 in
    let s3 = after_plain c.flags (LdaaImmediate 0xFF) s2 in
    let s4 = after_plain c.flags (Andcc 0xFD) s3 in
    let n1 = straight c s p _ h.live ep st.0 refl tt tt in
    let n2 = straight c s1 (p + 3) _ n1.live n1.pc_is st.1.0 refl tt tt in
    let n3 = straight c s2 (p + 3 + 3) _ n2.live n2.pc_is st.1.1.0 refl tt tt in
    let n4 = straight c s3 (p + 3 + 3 + 2) _ n3.live n3.pc_is st.1.1.1.0 refl tt tt in
    let h4 = at_rules_later c m ss k ks w ws s s4 h n4.live refl in
    let here = st.1.1.1.1.0 in
    let lo = here.low in
    let hi = here.high in
    let de : decode_at s4.mem s4.regs.pc ≡ Ok Rev =
    ap (decode_at s4.mem) n4.pc_is ∙ decode_same c.image s4.mem (p + 3 + 3 + 2 + 2) lo hi n4.live.same ∙ here.decoded in
    let r = rev_step c m ss k ks w ws s4 h4 de refl refl refl (overflow_off s3.regs.ccr.0) full few hl le in
    let t : State = rules_whole (rev_operands s4.regs.y) c.flags s4.regs s4.temps s4.mem (rule_by number k w)
    (rules_by number ks ws) in
    let g5 : Goes c 1 (sum_by entry_count (k ∷ ks) - 1) s4 t =
    goes_part c (sum_by entry_count (k ∷ ks) - 1) s4 t
    (record {
      between = between_of c s4 n4.live;
      code =
          code_in c s4.regs.pc (omega (arith, n4.pc_is, here.above)) (omega (arith, n4.pc_is, here.below))
          (omega (arith, n4.pc_is));
      instruction = inr (inl (rule_by number k w, rules_by number ks ws, r.over));
      stack =
          refl;
      masks = r.masks;
    }) in
    let g4 =
    goes_on c 1 0 3 0 s s1 s4 (goes_one c s s1 (p + 3) n1)
    (goes_on c 1 0 2 0 s1 s2 s4 (goes_one c s1 s2 (p + 3 + 3) n2)
    (goes_on c 1 0 1 0 s2 s3 s4 (goes_one c s2 s3 (p + 3 + 3 + 2) n3) (goes_one c s3 s4 (p + 3 + 3 + 2 + 2) n4))) in
    let g = goes_on c 4 0 1 (sum_by entry_count (k ∷ ks) - 1) s s4 t g4 g5 in
    let em : t.mem ≡ put m c.memory_map.slots (fired ss (k ∷ ks) (w ∷ ws)) =
    ap
    (λ (x : List ℕ). (rules_whole (rev_operands c.memory_map.slots) c.flags s4.regs s4.temps x (rule_by number k w)
    (rules_by number ks ws)).mem) h.mem_is
    ∙ all_is (rev_operands c.memory_map.slots) c.memory_map.slots (length ss) number m
    (rev_names c.memory_map.slots (length ss) few (omega (arith, c.apart.slots, h.few))) h.size ss k ks w ws refl
    h.below h.weights in
    reaches_at c 5 (0 + (sum_by entry_count (k ∷ ks) - 1)) 5 (sum_by entry_count (k ∷ ks) - 1) s _ _ _ _ (omega arith)
    (omega arith) refl refl
    (record { t = t; goes = g; live = r.live; pc_is = omega (arith, n4.pc_is); mem_is = em; sp_is = refl })

-- and by REVW
pub revw_run : (c : Ctx) (m ss : List ℕ) (k : Conjunction) (ks : List Conjunction) (w : ℕ) (ws : List ℕ) (s : State)
    (p : ℕ) → AtRules c m ss k ks w ws s
    → s.regs.pc ≡ p → Stands c p (rules_code c.memory_map instruction.Revw)
    → Below 256 (w ∷ ws) → HasBytes c.image c.memory_map.rules
    (flat_map bytes_of_word (list_words c.memory_map.slots (k ∷ ks)))
    → 2 * length (list_words c.memory_map.slots (k ∷ ks)) ≤ 9984 → HasBytes c.image c.memory_map.weights (w ∷ ws)
    → length (w ∷ ws) ≤ 512
    → Reaches c 6 (sum_by entry_count (k ∷ ks) - 1) s (p + code_size (rules_code c.memory_map instruction.Revw))
    (put m c.memory_map.slots (fired ss (k ∷ ks) (w ∷ ws)))
revw_run c m ss k ks w ws s p h ep st light hl le hw whi =
    let j = sum_by entry_count (k ∷ ks) - 1 in
    let name = address c.memory_map.slots in
    let s1 = after_plain c.flags (LdxImmediate c.memory_map.rules) s in
    let s2 = after_plain c.flags (LdyImmediate c.memory_map.weights) s1 in
    let s3 = after_plain c.flags (LdaaImmediate 0xFF) s2 in
    let s4 = after_plain c.flags (Andcc 0xFD) s3 in
    let s5 = after_plain c.flags (Orcc 0x01) s4 in
    let n1 = straight c s p _ h.live ep st.0 refl tt tt in
    let n2 = straight c s1 (p + 3) _ n1.live n1.pc_is st.1.0 refl tt tt in
    let n3 = straight c s2 (p + 3 + 3) _ n2.live n2.pc_is st.1.1.0 refl tt tt in
    let n4 = straight c s3 (p + 3 + 3 + 2) _ n3.live n3.pc_is st.1.1.1.0 refl tt tt in
    let n5 = straight c s4 (p + 3 + 3 + 2 + 2) _ n4.live n4.pc_is st.1.1.1.1.0 refl tt tt in
    let h5 = at_rules_later c m ss k ks w ws s s5 h n5.live refl in
    let here = st.1.1.1.1.1.0 in
    let lo = here.low in
    let hi = here.high in
    let de : decode_at s5.mem s5.regs.pc ≡ Ok Revw =
    ap (decode_at s5.mem) n5.pc_is ∙ decode_same c.image s5.mem (p + 3 + 3 + 2 + 2 + 2) lo hi n5.live.same
    ∙ here.decoded in
    let r =
    revw_step c m ss k ks w ws s5 h5 de refl refl refl (overflow_or s4.regs.ccr.0 ∙ overflow_off s3.regs.ccr.0)
    (carry_or s4.regs.ccr.0) light hl le hw whi in
    let t : State = rules_whole revw_operands c.flags s5.regs s5.temps s5.mem (rule_by name k w) (rules_by name ks ws) in
    let g6 : Goes c 1 j s5 t =
    goes_part c j s5 t (record {
      between = between_of c s5 n5.live;
      code =
          code_in c s5.regs.pc (omega (arith, n5.pc_is, here.above)) (omega (arith, n5.pc_is, here.below))
          (omega (arith, n5.pc_is));
      instruction =
          inr (inr (inl (rule_by name k w, rules_by name ks ws, r.over)));
      stack = refl;
      masks = r.masks;
    }) in
    let g5 =
    goes_on c 1 0 4 0 s s1 s5 (goes_one c s s1 (p + 3) n1)
    (goes_on c 1 0 3 0 s1 s2 s5 (goes_one c s1 s2 (p + 3 + 3) n2)
    (goes_on c 1 0 2 0 s2 s3 s5 (goes_one c s2 s3 (p + 3 + 3 + 2) n3)
    (goes_on c 1 0 1 0 s3 s4 s5 (goes_one c s3 s4 (p + 3 + 3 + 2 + 2) n4)
    (goes_one c s4 s5 (p + 3 + 3 + 2 + 2 + 2) n5)))) in
    let g = goes_on c 5 0 1 j s s5 t g5 g6 in
    let em : t.mem ≡ put m c.memory_map.slots (fired ss (k ∷ ks) (w ∷ ws)) =
    ap (λ (x : List ℕ). (rules_whole revw_operands c.flags s5.regs s5.temps x (rule_by name k w) (rules_by name ks ws)).mem)
    h.mem_is
    ∙ all_is revw_operands c.memory_map.slots (length ss) name m
    (revw_names c.memory_map.slots (length ss) (omega (arith, c.apart.slots, h.few))) h.size ss k ks w ws refl h.below
    h.weights in
    reaches_at c 6 (0 + j) 6 j s _ _ _ _ (omega arith) (omega arith) refl refl
    (record { t = t; goes = g; live = r.live; pc_is = omega (arith, n5.pc_is); mem_is = em; sp_is = refl })
