-- A whole instruction leads to one state, by one number of parts.
use Rattle.std.proofs.Common.{◌≡◌, inl, inr, ℕ, ◌<◌, ◌≤◌, Bool, true, false, cond, Ok, Err, Result, List, [], ◌∷◌, ◌++◌}
use Rattle.std.proofs.Common.{length, refl, sym, ap, ap₂, ◌∙◌, subst}
use Rattle.std.proofs.Common.{arith}
use Rattle.cpu12_isa.specs.{declared.instr.Instr.Instr, Code.decode_at, Memory.plus, Meaning.is_plain}
use Rattle.cpu12_isa.specs.declared.instr.Instr.TheVariants.{Rev, Revw, Wav, Nop}
use Rattle.cpu12_parts.specs.{State.State, Whole.after_plain, Whole.IsRulesStep, Whole.IsWholeStep}
use Rattle.cpu12_parts.specs.Rules.{Rule, RuleOperands, rev_operands, revw_operands, elements_of, Listed, AreNames, AreRules}
use Rattle.cpu12_parts.specs.Rules.{AreWeights, rules_whole}
use Rattle.cpu12_parts.specs.Executions.{Execution, IsStepBefore, ExecutionsAreOne}

abbrev instr_of : Result Instr ℕ → Instr
instr_of (Ok i) = i
instr_of (Err e) = Nop

same_instr : (r : Result Instr ℕ) (i j : Instr) → r ≡ Ok i → r ≡ Ok j → i ≡ j
same_instr r i j a b = ap instr_of (sym a ∙ b)

-- which of the four
abbrev kind : Instr → ℕ
kind Rev = 1
kind Revw = 2
kind Wav = 3
kind i = 0

never : false ≡ true → ⊥
never h = subst (λ b. cond b ⊥ (Unit {0})) h tt

plain_kind : (i : Instr) → is_plain i ≡ true → kind i ≡ 0
plain_kind Rev h = absurd (never h)
plain_kind Revw h = absurd (never h)
plain_kind Wav h = absurd (never h)
plain_kind i h = refl

-- names up to a mark, and what follows
record Split (f : RuleOperands) (mem xs ys : List ℕ) (m n : ℕ) (rs ts : List ℕ) : Type 0 where
  names : xs ≡ ys
  marks : m ≡ n
  at : ℕ
  left : Listed f mem at rs
  right : Listed f mem at ts

split : (f : RuleOperands) (mem : List ℕ) (x : ℕ) (xs ys : List ℕ) (m n : ℕ) (rs ts : List ℕ) → f.separator ≤ m
    → f.separator ≤ n → AreNames f xs → AreNames f ys
    → Listed f mem x (xs ++ m ∷ rs) → Listed f mem x (ys ++ n ∷ ts) → Split f mem xs ys m n rs ts
split f mem x [] [] m n rs ts a b ns ks h g =
    record { names = refl; marks = sym h.0 ∙ g.0; at = plus x f.size; left = h.1; right = g.1 }
split f mem x [] (y ∷ ys) m n rs ts a b ns ks h g = absurd (omega (arith, sym h.0 ∙ g.0, ks.0))
split f mem x (z ∷ xs) [] m n rs ts a b ns ks h g = absurd (omega (arith, sym h.0 ∙ g.0, ns.0))
split f mem x (z ∷ xs) (y ∷ ys) m n rs ts a b ns ks h g =
    let r = split f mem (plus x f.size) xs ys m n rs ts a b ns.1 ks.1 h.1 g.1 in
    record {
      names = ap₂ (λ (k : ℕ) (ks : List ℕ). k ∷ ks) (sym h.0 ∙ g.0) r.names;
      marks = r.marks;
      at = r.at;
      left =
          r.left;
      right = r.right;
    }

weight_is : (b : Bool) (mem : List ℕ) (y : ℕ) (p q : Rule) (ps qs : List Rule) → AreWeights b mem y (p ∷ ps)
    → AreWeights b mem y (q ∷ qs) → p.weight ≡ q.weight
weight_is true mem y p q ps qs h g = sym h.0 ∙ g.0
weight_is false mem y p q ps qs h g = h.0 ∙ sym g.0

abbrev later : Bool → ℕ → ℕ
later true y = plus y 1
later false y = y

weights_on : (b : Bool) (mem : List ℕ) (y : ℕ) (p : Rule) (ps : List Rule) → AreWeights b mem y (p ∷ ps)
    → AreWeights b mem (later b y) ps
weights_on true mem y p ps h = h.1
weights_on false mem y p ps h = h.1

rule_is : (p q : Rule) → p.antecedents ≡ q.antecedents → p.conclusions ≡ q.conclusions → p.weight ≡ q.weight → p ≡ q
rule_is p q a c w =
    let one : p ≡ record { antecedents = q.antecedents; conclusions = q.conclusions; weight = p.weight } =
    ap₂ (λ (x y : List ℕ). let r : Rule = record { antecedents = x; conclusions = y; weight = p.weight } in r) a c in
    one ∙ ap (λ (k : ℕ). let r : Rule =
    record { antecedents = q.antecedents; conclusions = q.conclusions; weight = k } in r) w

-- the rules that stand there are one list
rules_are : (f : RuleOperands) (b : Bool) (mem : List ℕ) (x y : ℕ) (p q : Rule) (ps qs : List Rule) → f.separator < f.stop
    → AreRules f (p ∷ ps) → AreRules f (q ∷ qs)
    → Listed f mem x (elements_of f p ps) → Listed f mem x (elements_of f q qs) → AreWeights b mem y (p ∷ ps)
    → AreWeights b mem y (q ∷ qs)
    → (p ≡ q) × (ps ≡ qs)
rules_are f b mem x y p q [] [] lt rp rq h g v w =
    let r = split f mem x p.antecedents q.antecedents f.separator f.separator _ _ (omega arith)
    (omega arith) rp.0 rq.0 h g in
    let k = split f mem r.at p.conclusions q.conclusions f.stop f.stop [] [] (omega arith)
    (omega arith) rp.1 rq.1 r.left r.right in
    (rule_is p q r.names k.names (weight_is b mem y p q [] [] v w), refl)
rules_are f b mem x y p q [] (q' ∷ qs) lt rp rq h g v w =
    let r = split f mem x p.antecedents q.antecedents f.separator f.separator _ _ (omega arith)
    (omega arith) rp.0 rq.0 h g in
    let k = split f mem r.at p.conclusions q.conclusions f.stop f.separator [] (elements_of f q' qs) (omega arith)
    (omega arith) rp.1 rq.1 r.left r.right in
    absurd (omega (arith, k.marks))
rules_are f b mem x y p q (p' ∷ ps) [] lt rp rq h g v w =
    let r = split f mem x p.antecedents q.antecedents f.separator f.separator _ _ (omega arith)
    (omega arith) rp.0 rq.0 h g in
    let k = split f mem r.at p.conclusions q.conclusions f.separator f.stop (elements_of f p' ps) [] (omega arith)
    (omega arith) rp.1 rq.1 r.left r.right in
    absurd (omega (arith, k.marks))
rules_are f b mem x y p q (p' ∷ ps) (q' ∷ qs) lt rp rq h g v w =
    let r = split f mem x p.antecedents q.antecedents f.separator f.separator _ _ (omega arith)
    (omega arith) rp.0 rq.0 h g in
    let k =
    split f mem r.at p.conclusions q.conclusions f.separator f.separator (elements_of f p' ps) (elements_of f q' qs)
    (omega arith) (omega arith) rp.1 rq.1 r.left r.right in
    let e = rules_are f b mem k.at (later b y) p' q' ps qs lt rp.2 rq.2 k.left k.right
    (weights_on b mem y p (p' ∷ ps) v) (weights_on b mem y q (q' ∷ qs) w) in (
      rule_is p q r.names k.names (weight_is b mem y p q (p' ∷ ps) (q' ∷ qs) v w),
      ap₂ (λ (m : Rule) (ms : List Rule). m ∷ ms) e.0 e.1,
    )

rules_one : (i : Instr) (f : RuleOperands) (flags d e : ℕ) (p q : Rule) (ps qs : List Rule) (s t u : State)
    → f.separator < f.stop → IsRulesStep i f flags d p ps s t
    → IsRulesStep i f flags e q qs s u → (d ≡ e) × (t ≡ u)
rules_one i f flags d e p q ps qs s t u lt h g =
    let r =
    rules_are f (f.weighs s.regs.ccr) s.mem s.regs.x s.regs.y p q ps qs lt h.ready.rules g.ready.rules h.ready.listed
    g.ready.listed h.ready.weights g.ready.weights in
    let n : length (elements_of f p ps) ≡ length (elements_of f q qs) =
    ap₂ (λ (m : Rule) (ms : List Rule). length (elements_of f m ms)) r.0 r.1 in (
      omega (arith, h.parts, g.parts),
      h.after
          ∙ ap₂ (λ (m : Rule) (ms : List Rule). rules_whole f flags s.regs s.temps s.mem m ms) r.0 r.1 ∙ sym g.after,
    )

other : (s : State) (i j : Instr) → decode_at s.mem s.regs.pc ≡ Ok i → decode_at s.mem s.regs.pc ≡ Ok j
    → kind i ≡ kind j
other s i j a b = ap kind (same_instr (decode_at s.mem s.regs.pc) i j a b)

pub one_step : (flags d e : ℕ) (s t u : State) → IsWholeStep flags d s t → IsWholeStep flags e s u → (d ≡ e) × (t ≡ u)
one_step flags d e s t u (inl p) (inl q) = (
  p.1.1 ∙ sym q.1.1,
  p.1.0.after
      ∙ ap (λ i. after_plain flags i s) (same_instr (decode_at s.mem s.regs.pc) p.0 q.0 p.1.0.decoded q.1.0.decoded)
      ∙ sym q.1.0.after,
)
one_step flags d e s t u (inr (inl p)) (inr (inl q)) =
    rules_one Rev (rev_operands s.regs.y) flags d e p.0 q.0 p.1 q.1 s t u (omega arith) p.2 q.2
one_step flags d e s t u (inr (inr (inl p))) (inr (inr (inl q))) =
    rules_one Revw revw_operands flags d e p.0 q.0 p.1 q.1 s t u (omega arith) p.2 q.2
one_step flags d e s t u (inr (inr (inr p))) (inr (inr (inr q))) = (p.parts ∙ sym q.parts, p.after ∙ sym q.after)
one_step flags d e s t u (inl p) (inr (inl q)) =
    absurd (omega (arith, plain_kind p.0 p.1.0.plain, other s p.0 Rev p.1.0.decoded q.2.decoded))
one_step flags d e s t u (inl p) (inr (inr (inl q))) =
    absurd (omega (arith, plain_kind p.0 p.1.0.plain, other s p.0 Revw p.1.0.decoded q.2.decoded))
one_step flags d e s t u (inl p) (inr (inr (inr q))) =
    absurd (omega (arith, plain_kind p.0 p.1.0.plain, other s p.0 Wav p.1.0.decoded q.decoded))
one_step flags d e s t u (inr (inl p)) (inl q) =
    absurd (omega (arith, plain_kind q.0 q.1.0.plain, other s q.0 Rev q.1.0.decoded p.2.decoded))
one_step flags d e s t u (inr (inr (inl p))) (inl q) =
    absurd (omega (arith, plain_kind q.0 q.1.0.plain, other s q.0 Revw q.1.0.decoded p.2.decoded))
one_step flags d e s t u (inr (inr (inr p))) (inl q) =
    absurd (omega (arith, plain_kind q.0 q.1.0.plain, other s q.0 Wav q.1.0.decoded p.decoded))
one_step flags d e s t u (inr (inl p)) (inr (inr (inl q))) =
    absurd (omega (arith, other s Rev Revw p.2.decoded q.2.decoded))
one_step flags d e s t u (inr (inl p)) (inr (inr (inr q))) =
    absurd (omega (arith, other s Rev Wav p.2.decoded q.decoded))
one_step flags d e s t u (inr (inr (inl p))) (inr (inl q)) =
    absurd (omega (arith, other s Revw Rev p.2.decoded q.2.decoded))
one_step flags d e s t u (inr (inr (inl p))) (inr (inr (inr q))) =
    absurd (omega (arith, other s Revw Wav p.2.decoded q.decoded))
one_step flags d e s t u (inr (inr (inr p))) (inr (inl q)) =
    absurd (omega (arith, other s Wav Rev p.decoded q.2.decoded))
one_step flags d e s t u (inr (inr (inr p))) (inr (inr (inl q))) =
    absurd (omega (arith, other s Wav Revw p.decoded q.2.decoded))

-- whole instructions up to where they stop
stays : (stops : State → Bool) (s t : State) → s ≡ t → stops t ≡ true → stops s ≡ false → ⊥
stays stops s t e on off = never (sym off ∙ ap stops e ∙ on)

stop_one : (stops : State → Bool) (flags : ℕ) (ds es : List ℕ) (s t u : State)
    → Execution (IsStepBefore stops flags) ds s t
    → Execution (IsStepBefore stops flags) es s u → stops t ≡ true → stops u ≡ true → (ds ≡ es) × (t ≡ u)
stop_one stops flags [] [] s t u a b ht hu = (refl, sym a ∙ b)
stop_one stops flags [] (e ∷ es) s t u a b ht hu = absurd (stays stops s t a ht b.1.0.on)
stop_one stops flags (d ∷ ds) [] s t u a b ht hu = absurd (stays stops s u b hu a.1.0.on)
stop_one stops flags (d ∷ ds) (e ∷ es) s t u a b ht hu =
    let one = one_step flags d e s a.0 b.0 a.1.0.step b.1.0.step in
    let rest = stop_one stops flags ds es a.0 t u a.1.1
    (subst (λ v. Execution (IsStepBefore stops flags) es v u) (sym one.1) b.1.1) ht hu in
    (ap₂ (λ (k : ℕ) (ks : List ℕ). k ∷ ks) one.0 rest.0, rest.1)

pub executions_are_one : ExecutionsAreOne
executions_are_one stops flags ds es s t u a b =
    stop_one stops flags ds es s t u a.execution b.execution a.stopped b.stopped
