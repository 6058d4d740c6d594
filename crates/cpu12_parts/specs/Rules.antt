-- Lists of rules, and what REV and REVW make of a whole list (CPU12 Reference Manual, section 9.5).
-- Beside the promise.
use Rattle.std.specs.Prelude.{◌≡◌, ◌≢◌, ℕ, ◌<◌, min, max, Bool, true, false, List, [], ◌∷◌, ◌++◌, slice_index}
use Rattle.std.specs.Prelude.{slice_set}
use Rattle.cpu12_isa.specs.declared.{instr.Regs.Regs, instr.Ccr.Ccr}
use Rattle.cpu12_isa.specs.Memory.{plus, from, word_of}
use Rattle.cpu12_isa.specs.Flags.{has, put, opened, carry, overflow, hnzc, hnz}
use Rattle.cpu12_parts.specs.{declared.temps.Temps.Temps, State.State, Parts.weighted}

-- a rule: the elements of its antecedents and conclusions, and its weight byte
pub record Rule : Type 0 where
  pub antecedents : List ℕ
  pub conclusions : List ℕ
  pub weight : ℕ

-- How a list lies in memory: the bytes of an element, the element that stands at an address, the element that parts
-- and that which ends, the byte that an element names, whether weights are read, and the flags that are left open.
pub record RuleOperands : Type 0 where
  pub size : ℕ
  pub element : List ℕ → ℕ → ℕ
  pub separator : ℕ
  pub stop : ℕ
  pub place : ℕ → ℕ
  pub weighs : Ccr → Bool
  pub mask : ℕ

-- REV's list has offsets from Y
abbrev pub rev_operands : ℕ → RuleOperands
rev_operands y = record {
  size = 1;
  element = slice_index;
  separator = 254;
  stop = 255;
  place = plus y;
  weighs = λ c. false;
  mask = hnzc;
}

-- REVW's has addresses
abbrev pub revw_operands : RuleOperands
revw_operands = record {
  size = 2;
  element = λ mem x. word_of (slice_index mem x) (slice_index mem (plus x 1));
  separator = 65534;
  stop = 65535;
  place = λ e. e;
  weighs = λ c. has c carry;
  mask = hnz;
}

-- the elements of rules, of which p is the first
abbrev pub further_elements : RuleOperands → List Rule → List ℕ
further_elements f [] = f.stop ∷ []
further_elements f (p ∷ ps) = f.separator ∷ (p.antecedents ++ (f.separator ∷ (p.conclusions ++ further_elements f ps)))

abbrev pub elements_of : RuleOperands → Rule → List Rule → List ℕ
elements_of f p ps = p.antecedents ++ (f.separator ∷ (p.conclusions ++ further_elements f ps))

-- these elements stand in memory from x on, also over its end
abbrev pub Listed : RuleOperands → List ℕ → ℕ → List ℕ → Type 0
Listed f mem x [] = Unit {0}
Listed f mem x (e ∷ es) = (f.element mem x ≡ e) × Listed f mem (plus x f.size) es

-- the address behind elements
abbrev pub behind : RuleOperands → ℕ → List ℕ → ℕ
behind f x [] = x
behind f x (e ∷ es) = behind f (plus x f.size) es

-- elements that name bytes
abbrev pub AreNames : RuleOperands → List ℕ → Type 0
AreNames f [] = Unit {0}
AreNames f (e ∷ es) = (e < f.separator) × AreNames f es

abbrev pub AreRules : RuleOperands → List Rule → Type 0
AreRules f [] = Unit {0}
AreRules f (p ∷ ps) = AreNames f p.antecedents × AreNames f p.conclusions × AreRules f ps

-- the weights of rules: where they are read, the bytes from y on, else 255 each
abbrev pub AreWeights : Bool → List ℕ → ℕ → List Rule → Type 0
AreWeights true mem y [] = Unit {0}
AreWeights true mem y (p ∷ ps) = (slice_index mem y ≡ p.weight) × AreWeights true mem (plus y 1) ps
AreWeights false mem y [] = Unit {0}
AreWeights false mem y (p ∷ ps) = (p.weight ≡ 255) × AreWeights false mem y ps

-- Y behind the weights
abbrev pub behind_weights : Bool → ℕ → List Rule → ℕ
behind_weights true y [] = y
behind_weights true y (p ∷ ps) = behind_weights true (plus y 1) ps
behind_weights false y ps = y

-- the least of t and the antecedents' bytes
abbrev pub least : RuleOperands → List ℕ → ℕ → List ℕ → ℕ
least f mem t [] = t
least f mem t (e ∷ es) = least f mem (min t (slice_index mem (f.place e))) es

-- the strength of a rule: the least of its antecedents' bytes and 255, cut by its weight
abbrev pub strength : RuleOperands → List ℕ → Rule → ℕ
strength f mem p = weighted (least f mem 255 p.antecedents) p.weight

-- each conclusion's byte is raised to t
abbrev pub raised : RuleOperands → ℕ → List ℕ → List ℕ → List ℕ
raised f t mem [] = mem
raised f t mem (e ∷ es) = raised f t (slice_set mem (f.place e) (max (slice_index mem (f.place e)) t)) es

-- the memory after one rule
abbrev pub concluded : RuleOperands → List ℕ → Rule → List ℕ
concluded f mem p = raised f (strength f mem p) mem p.conclusions

-- the memory after all rules, and the strength of the last
abbrev pub all_concluded : RuleOperands → List ℕ → Rule → List Rule → List ℕ
all_concluded f mem p [] = concluded f mem p
all_concluded f mem p (q ∷ qs) = all_concluded f (concluded f mem p) q qs

abbrev pub last_strength : RuleOperands → List ℕ → Rule → List Rule → ℕ
last_strength f mem p [] = strength f mem p
last_strength f mem p (q ∷ qs) = last_strength f (concluded f mem p) q qs

-- the bytes of elements from x on
abbrev pub element_bytes : RuleOperands → ℕ → List ℕ → List ℕ
element_bytes f x [] = []
element_bytes f x (e ∷ es) = from x f.size ++ element_bytes f (plus x f.size) es

-- the bytes of the weights
abbrev pub weight_bytes : Bool → ℕ → List Rule → List ℕ
weight_bytes true y [] = []
weight_bytes true y (p ∷ ps) = y ∷ weight_bytes true (plus y 1) ps
weight_bytes false y ps = []

-- the bytes that elements name
abbrev pub named : RuleOperands → List ℕ → List ℕ
named f [] = []
named f (e ∷ es) = f.place e ∷ named f es

abbrev pub rules_named : RuleOperands → List Rule → List ℕ
rules_named f [] = []
rules_named f (p ∷ ps) = named f p.antecedents ++ (named f p.conclusions ++ rules_named f ps)

abbrev pub rules_target : RuleOperands → List Rule → List ℕ
rules_target f [] = []
rules_target f (p ∷ ps) = named f p.conclusions ++ rules_target f ps

-- what the whole instruction reads and writes
abbrev pub rules_read : RuleOperands → Regs → Rule → List Rule → List ℕ
rules_read f r p ps =
    element_bytes f r.x (elements_of f p ps) ++ (rules_named f (p ∷ ps) ++ weight_bytes (f.weighs r.ccr) r.y (p ∷ ps))

abbrev pub rules_written : RuleOperands → Rule → List Rule → List ℕ
rules_written f p ps = rules_target f (p ∷ ps)

-- no address of one list is in the other
abbrev pub NotIn : ℕ → List ℕ → Type 0
NotIn k [] = Unit {0}
NotIn k (at ∷ ats) = (at ≢ k) × NotIn k ats

abbrev pub AreApart : List ℕ → List ℕ → Type 0
AreApart [] ats = Unit {0}
AreApart (k ∷ ks) ats = NotIn k ats × AreApart ks ats

-- where the whole instruction is defined: the rules stand at X, and no conclusion is a byte of the list or of a weight
pub record AreReady (f : RuleOperands) (r : Regs) (mem : List ℕ) (p : Rule) (ps : List Rule) : Type 0 where
  pub a : r.a ≡ 255
  pub v : has r.ccr overflow ≡ false
  pub rules : AreRules f (p ∷ ps)
  pub listed : Listed f mem r.x (elements_of f p ps)
  pub weights : AreWeights (f.weighs r.ccr) mem r.y (p ∷ ps)
  pub list_stays : AreApart (rules_written f p ps) (element_bytes f r.x (elements_of f p ps))
  pub weights_stay : AreApart (rules_written f p ps) (weight_bytes (f.weighs r.ccr) r.y (p ∷ ps))

-- the state after it
abbrev pub rules_whole : RuleOperands → ℕ → Regs → Temps → List ℕ → Rule → List Rule → State
rules_whole f flags r t mem p ps = record {
  regs = record r {
    a = last_strength f mem p ps;
    x = behind f r.x (elements_of f p ps);
    y = behind_weights (f.weighs r.ccr) r.y (p ∷ ps);
    pc = plus r.pc 2;
    ccr = put (opened r.ccr f.mask flags) overflow true;
  };
  temps = t;
  mem = all_concluded f mem p ps;
}
