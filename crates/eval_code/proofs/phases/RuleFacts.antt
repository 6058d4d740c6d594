-- The conjunctions of a valid block and their weights, by the law on its layout.
use Rattle.eval_code.proofs.Words.{[], ◌<◌, ◌∷◌, ◌≡◌, ◌≤◌, All, arith, Block, Conjunction, conjunctions_of, flat_of}
use Rattle.eval_code.proofs.Words.{instruction_of, get_or, IsBelow, IsValid, LayoutLaw, length, List, number_in, refl, Slot}
use Rattle.eval_code.proofs.Words.{slots_of, suc, weights_of, ℕ}
use Rattle.rule_layout.specs.{declared.flat.RuleInstruction.TheVariants.Rev}
use Rattle.eval_code.proofs.phases.RuleMemory.{Below, AllBelow, below_all}
use Rattle.eval_code.proofs.phases.Ruling.{AreFull}

-- what is known of a valid block's layout
pub record BlockFacts (b : Block) : Type 0 where
  pub few_slots : length (slots_of b) ≤ 300
  pub few_for_rev : instruction_of b ≡ Rev → length (slots_of b) ≤ 254
  pub apart : (k : ℕ) (s : Slot) → k < length (slots_of b) → number_in (slots_of b) (get_or (slots_of b) k s) ≡ k
  pub in_range : All (IsBelow (length (slots_of b))) (conjunctions_of b)
  pub some_conjunction : 1 ≤ length (conjunctions_of b)
  pub weighed : length (weights_of b) ≡ length (conjunctions_of b)
  pub weight_bytes : All (λ w. w ≤ 255) (weights_of b)
  pub unscaled : instruction_of b ≡ Rev → All (λ w. w ≡ 255) (weights_of b)

pub block_facts : LayoutLaw → (b : Block) → IsValid b → BlockFacts b
unfolding flat_of
block_facts law b v =
    let h = law b v in
    record {
      few_slots = h.few_slots;
      few_for_rev = h.few_for_rev;
      apart = h.apart;
      in_range = h.in_range;
      some_conjunction = h.some_conjunction;
      weighed = h.weighed;
      weight_bytes = h.weight_bytes;
      unscaled = h.unscaled;
    }

-- the first conjunction and the others, with their weights
pub record HasRules (cs : List Conjunction) (ws : List ℕ) : Type 0 where
  pub k : Conjunction
  pub ks : List Conjunction
  pub w : ℕ
  pub vs : List ℕ
  pub conjunctions_are : cs ≡ k ∷ ks
  pub weights_are : ws ≡ w ∷ vs
  pub same : length vs ≡ length ks

has_rules_by : (cs : List Conjunction) (ws : List ℕ) → 1 ≤ length cs → length ws ≡ length cs → HasRules cs ws
has_rules_by [] ws h e = absurd (omega arith)
has_rules_by (k ∷ ks) [] h e = absurd (omega arith)
has_rules_by (k ∷ ks) (w ∷ vs) h e =
    record { k = k; ks = ks; w = w; vs = vs; conjunctions_are = refl; weights_are = refl; same = omega arith }

pub has_rules : (b : Block) → BlockFacts b → HasRules (conjunctions_of b) (weights_of b)
has_rules b facts = has_rules_by (conjunctions_of b) (weights_of b) facts.some_conjunction facts.weighed

-- their numbers are those of slots
all_below_by : (n : ℕ) (cs : List Conjunction) → All (IsBelow n) cs → AllBelow n cs
all_below_by n [] h = tt
all_below_by n (c ∷ cs) h = (
  below_all n c.literals (h 0 c (omega arith)).literals,
  below_all n c.conclusions (h 0 c (omega arith)).conclusions,
  all_below_by n cs (λ k d lt. h (suc k) d (omega arith)),
)

pub all_below : (b : Block) → BlockFacts b → AllBelow (length (slots_of b)) (conjunctions_of b)
all_below b facts = all_below_by (length (slots_of b)) (conjunctions_of b) facts.in_range

-- weights are bytes, and with REV 255
bytes_below : (ws : List ℕ) → All (λ w. w ≤ 255) ws → Below 256 ws
bytes_below [] h = tt
bytes_below (w ∷ ws) h =
    ((let l : w ≤ 255 = h 0 w (omega arith) in omega arith), bytes_below ws (λ k d lt. h (suc k) d (omega arith)))

pub weights_below : (b : Block) → BlockFacts b → Below 256 (weights_of b)
weights_below b facts = bytes_below (weights_of b) facts.weight_bytes

are_full : (ws : List ℕ) → All (λ w. w ≡ 255) ws → AreFull ws
are_full [] h = tt
are_full (w ∷ ws) h = (h 0 w (omega arith), are_full ws (λ k d lt. h (suc k) d (omega arith)))

pub rev_is_plain : (b : Block) → BlockFacts b → instruction_of b ≡ Rev → (length (slots_of b) ≤ 254) × AreFull (weights_of b)
rev_is_plain b facts e = (facts.few_for_rev e, are_full (weights_of b) (facts.unscaled e))
