-- What REV and REVW leave in the slots.
use Rattle.eval_code.proofs.Words.{[], ◌*◌, ◌++◌, ◌+◌, ◌<◌, ◌^◌, ◌∙◌, ◌∷◌, ◌≡◌, ◌≤◌, AgreeFrom, All, ap, AreBytes}
use Rattle.eval_code.proofs.Words.{arith, Bool, Conjunction, element_bytes, elements_of, entry_count, false, fired}
use Rattle.eval_code.proofs.Words.{from, get_or, least_of, length, length-map, length-set, List, map, marked, max}
use Rattle.eval_code.proofs.Words.{min, named, plus, put, raised_to, refl, rules_target, set, stack_end, subst, suc}
use Rattle.eval_code.proofs.Words.{sum_by, sum_by-cons, sym, true, weighted, zero, ℕ}
use Rattle.cpu12_parts.specs.Rules.{Rule, RuleOperands, further_elements, behind, AreNames, AreRules, weight_bytes, NotIn}
use Rattle.cpu12_parts.specs.Rules.{AreApart}
use Rattle.cpu12_parts.specs.Rules.{behind_weights, least, strength, raised, concluded, all_concluded, last_strength}
use Rattle.eval_code.proofs.steps.Memory.{at_put_in, set_put_in, high_set, bytes_after_set}
use Rattle.eval_code.proofs.Lists.{length-marked}

-- operands name the slots from a base on
pub record NamesSlots (f : RuleOperands) (base n : ℕ) (name : ℕ → ℕ) : Type 0 where
  pub place : (k : ℕ) → k < n → f.place (name k) ≡ base + k
  pub small : (k : ℕ) → k < n → name k < f.separator
  pub low : base + n ≤ 0x1800

-- conjunctions by names, and with their weights as rules
abbrev pub renamed : (ℕ → ℕ) → Conjunction → Conjunction
renamed name c = record { literals = map name c.literals; conclusions = map name c.conclusions }

abbrev pub rule_by : (ℕ → ℕ) → Conjunction → ℕ → Rule
rule_by name c w = record { antecedents = map name c.literals; conclusions = map name c.conclusions; weight = w }

abbrev pub rules_by : (ℕ → ℕ) → List Conjunction → List ℕ → List Rule
rules_by name [] ws = []
rules_by name (c ∷ cs) [] = []
rules_by name (c ∷ cs) (w ∷ ws) = rule_by name c w ∷ rules_by name cs ws

-- slots below n
abbrev pub Below : ℕ → List ℕ → Type 0
Below n [] = Unit {0}
Below n (k ∷ ks) = (k < n) × Below n ks

pub below_all : (n : ℕ) (ks : List ℕ) → All (λ k. k < n) ks → Below n ks
below_all n [] h = tt
below_all n (k ∷ ks) h = (h 0 k (omega arith), below_all n ks (λ j d lt. h (suc j) d (omega arith)))

abbrev pub AllBelow : ℕ → List Conjunction → Type 0
AllBelow n [] = Unit {0}
AllBelow n (c ∷ cs) = Below n c.literals × Below n c.conclusions × AllBelow n cs

abbrev pub From : ℕ → List ℕ → Type 0
From n [] = Unit {0}
From n (k ∷ ks) = (n ≤ k) × From n ks

pub below_append : (n : ℕ) (xs ys : List ℕ) → Below n xs → Below n ys → Below n (xs ++ ys)
below_append n [] ys a b = b
below_append n (x ∷ xs) ys a b = (a.0, below_append n xs ys a.1 b)

from_append : (n : ℕ) (xs ys : List ℕ) → From n xs → From n ys → From n (xs ++ ys)
from_append n [] ys a b = b
from_append n (x ∷ xs) ys a b = (a.0, from_append n xs ys a.1 b)

not_in : (k n : ℕ) (xs : List ℕ) → k < n → From n xs → NotIn k xs
not_in k n [] lt h = tt
not_in k n (x ∷ xs) lt h = ((let q = h.0 in omega arith), not_in k n xs lt h.1)

pub apart_by : (ks xs : List ℕ) → Below 0x1800 ks → From 0x2000 xs → AreApart ks xs
apart_by [] xs a h = tt
apart_by (k ∷ ks) xs a h = (not_in k 0x2000 xs (let q = a.0 in omega arith) h, apart_by ks xs a.1 h)

-- the names of slots
names_are : (f : RuleOperands) (base n : ℕ) (name : ℕ → ℕ) → NamesSlots f base n name → (ks : List ℕ) → Below n ks
    → AreNames f (map name ks)
names_are f base n name h [] b = tt
names_are f base n name h (k ∷ ks) b = (h.small k b.0, names_are f base n name h ks b.1)

pub rules_are : (f : RuleOperands) (base n : ℕ) (name : ℕ → ℕ) → NamesSlots f base n name
    → (cs : List Conjunction) (ws : List ℕ) → AllBelow n cs → AreRules f (rules_by name cs ws)
rules_are f base n name h [] ws b = tt
rules_are f base n name h (c ∷ cs) [] b = tt
rules_are f base n name h (c ∷ cs) (w ∷ ws) b = (
  names_are f base n name h c.literals b.0,
  names_are f base n name h c.conclusions b.1,
  rules_are f base n name h cs ws b.2,
)

named_low : (f : RuleOperands) (base n : ℕ) (name : ℕ → ℕ) → NamesSlots f base n name → (ks : List ℕ) → Below n ks
    → Below 0x1800 (named f (map name ks))
named_low f base n name h [] b = tt
named_low f base n name h (k ∷ ks) b =
    ((let e = h.place k b.0 in let l = h.low in let q = b.0 in omega arith), named_low f base n name h ks b.1)

pub rules_target_low : (f : RuleOperands) (base n : ℕ) (name : ℕ → ℕ) → NamesSlots f base n name
    → (cs : List Conjunction) (ws : List ℕ) → AllBelow n cs → Below 0x1800 (rules_target f (rules_by name cs ws))
rules_target_low f base n name h [] ws b = tt
rules_target_low f base n name h (c ∷ cs) [] b = tt
rules_target_low f base n name h (c ∷ cs) (w ∷ ws) b =
    below_append 0x1800 (named f (map name c.conclusions)) _ (named_low f base n name h c.conclusions b.1)
    (rules_target_low f base n name h cs ws b.2)

-- how many bytes elements take
abbrev pub span : RuleOperands → List ℕ → ℕ
span f [] = 0
span f (e ∷ es) = f.size + span f es

pub from_high : (x n : ℕ) → 0x2000 ≤ x → x + n < 65536 → From 0x2000 (from x n)
from_high x zero lo hi = tt
from_high x (suc n) lo hi = let e : plus x 1 ≡ x + 1 = omega arith in
    (lo, subst (λ k. From 0x2000 (from k n)) (sym e) (from_high (x + 1) n (omega arith) (omega arith)))

pub element_bytes_high : (f : RuleOperands) (x : ℕ) (es : List ℕ) → 0x2000 ≤ x → x + span f es < 65536
    → From 0x2000 (element_bytes f x es)
element_bytes_high f x [] lo hi = tt
element_bytes_high f x (e ∷ es) lo hi =
    let p : plus x f.size ≡ x + f.size = omega arith in
    from_append 0x2000 (from x f.size) _ (from_high x f.size lo (omega arith))
    (subst (λ k. From 0x2000 (element_bytes f k es)) (sym p)
    (element_bytes_high f (x + f.size) es (omega arith) (omega arith)))

pub weight_bytes_high : (b : Bool) (y : ℕ) (ps : List Rule) → 0x2000 ≤ y → y + length ps < 65536
    → From 0x2000 (weight_bytes b y ps)
weight_bytes_high true y [] lo hi = tt
weight_bytes_high true y (p ∷ ps) lo hi = let e : plus y 1 ≡ y + 1 = omega arith in (
  lo,
  subst (λ k. From 0x2000 (weight_bytes true k ps)) (sym e)
      (weight_bytes_high true (y + 1) ps (omega arith) (omega arith)),
)
weight_bytes_high false y [] lo hi = tt
weight_bytes_high false y (p ∷ ps) lo hi = tt

pub behind_fits : (f : RuleOperands) (x : ℕ) (es : List ℕ) → x < 2 ^ 16 → behind f x es < 2 ^ 16
behind_fits f x [] h = h
behind_fits f x (e ∷ es) h = behind_fits f (plus x f.size) es (omega arith)

pub behind_weights_fits : (b : Bool) (y : ℕ) (ps : List Rule) → y < 2 ^ 16 → behind_weights b y ps < 2 ^ 16
behind_weights_fits true y [] h = h
behind_weights_fits true y (p ∷ ps) h = behind_weights_fits true (plus y 1) ps (omega arith)
behind_weights_fits false y [] h = h
behind_weights_fits false y (p ∷ ps) h = h

-- the elements of the rules are the marked list
further_are : (f : RuleOperands) (name : ℕ → ℕ) (cs : List Conjunction) (ws : List ℕ) (c : Conjunction) → length ws ≡ length cs
    → map name c.literals ++ f.separator ∷ (map name c.conclusions ++ further_elements f (rules_by name cs ws))
    ≡ marked f.separator f.stop (map (renamed name) (c ∷ cs))
further_are f name [] ws c e = refl
further_are f name (d ∷ cs) [] c e = absurd (omega arith)
further_are f name (d ∷ cs) (w ∷ ws) c e =
    ap (λ l. map name c.literals ++ f.separator ∷ (map name c.conclusions ++ f.separator ∷ l))
    (further_are f name cs ws d (omega arith))

pub elements_are : (f : RuleOperands) (name : ℕ → ℕ) (c : Conjunction) (cs : List Conjunction) (w : ℕ) (ws : List ℕ)
    → length ws ≡ length cs
    → elements_of f (rule_by name c w) (rules_by name cs ws) ≡ marked f.separator f.stop (map (renamed name) (c ∷ cs))
elements_are f name c cs w ws e = further_are f name cs ws c e

entries_renamed : (name : ℕ → ℕ) (cs : List Conjunction)
    → sum_by entry_count (map (renamed name) cs) ≡ sum_by entry_count cs
entries_renamed name [] = refl
entries_renamed name (c ∷ cs) =
    omega (
      arith,
      sum_by-cons entry_count (renamed name c) (map (renamed name) cs),
      sum_by-cons entry_count c cs,
      length-map c.literals name,
      length-map c.conclusions name,
      entries_renamed name cs,
    )

pub length-renamed : (separator stop : ℕ) (name : ℕ → ℕ) (cs : List Conjunction)
    → length (marked separator stop (map (renamed name) cs)) ≡ sum_by entry_count cs
length-renamed separator stop name cs = length-marked separator stop (map (renamed name) cs) ∙ entries_renamed name cs

pub length-rules_by : (name : ℕ → ℕ) (cs : List Conjunction) (ws : List ℕ) → length ws ≡ length cs
    → length (rules_by name cs ws) ≡ length cs
length-rules_by name [] ws e = refl
length-rules_by name (c ∷ cs) [] e = absurd (omega arith)
length-rules_by name (c ∷ cs) (w ∷ ws) e = let r = length-rules_by name cs ws (omega arith) in omega arith

-- on the memory as on the slots
least_is : (f : RuleOperands) (base : ℕ) (name : ℕ → ℕ) (m ss : List ℕ) → NamesSlots f base (length ss) name → length m ≡ 65536
    → (t : ℕ) (ks : List ℕ) → Below (length ss) ks → least f (put m base ss) t (map name ks) ≡ least_of ss t ks
least_is f base name m ss h lm t [] b = refl
least_is f base name m ss h lm t (k ∷ ks) b =
    let low = h.low in
    let v : get_or (put m base ss) (f.place (name k)) 0 ≡ get_or ss k 0 =
    ap (λ j. get_or (put m base ss) j 0) (h.place k b.0) ∙ at_put_in m base ss k (omega arith) b.0 in
    ap (λ j. least f (put m base ss) (min t j) (map name ks)) v
    ∙ least_is f base name m ss h lm (min t (get_or ss k 0)) ks b.1

pub length-raised_to : (t : ℕ) (ss ks : List ℕ) → length (raised_to t ss ks) ≡ length ss
length-raised_to t ss [] = refl
length-raised_to t ss (k ∷ ks) = length-raised_to t (set ss k (max (get_or ss k 0) t)) ks
    ∙ length-set ss k (max (get_or ss k 0) t)

raised_is : (f : RuleOperands) (base n : ℕ) (name : ℕ → ℕ) (m : List ℕ) → NamesSlots f base n name → length m ≡ 65536
    → (t : ℕ) (ss ks : List ℕ) → length ss ≡ n → Below n ks
    → raised f t (put m base ss) (map name ks) ≡ put m base (raised_to t ss ks)
raised_is f base n name m h lm t ss [] e b = refl
raised_is f base n name m h lm t ss (k ∷ ks) e b =
    let low = h.low in
    let bk = b.0 in
    let v = max (get_or ss k 0) t in
    let p = h.place k b.0 in
    let a : get_or (put m base ss) (base + k) 0 ≡ get_or ss k 0 = at_put_in m base ss k (omega arith) (omega arith) in
    ap (λ j. raised f t (set (put m base ss) j (max (get_or (put m base ss) j 0) t)) (map name ks)) p
    ∙ ap (λ x. raised f t (set (put m base ss) (base + k) (max x t)) (map name ks)) a
    ∙ ap (λ x. raised f t x (map name ks)) (set_put_in m base ss k v (omega arith))
    ∙ raised_is f base n name m h lm t (set ss k v) ks (length-set ss k v ∙ e) b.1

concluded_is : (f : RuleOperands) (base n : ℕ) (name : ℕ → ℕ) (m : List ℕ) → NamesSlots f base n name → length m ≡ 65536
    → (ss : List ℕ) (c : Conjunction) (w : ℕ) → length ss ≡ n → Below n c.literals → Below n c.conclusions
    → concluded f (put m base ss) (rule_by name c w) ≡ put m base
    (raised_to (weighted (least_of ss 255 c.literals) w) ss c.conclusions)
concluded_is f base n name m h lm ss c w e bl bc =
    let h' : NamesSlots f base (length ss) name = subst (λ k. NamesSlots f base k name) (sym e) h in
    let bl' : Below (length ss) c.literals = subst (λ k. Below k c.literals) (sym e) bl in
    ap (λ t. raised f (weighted t w) (put m base ss) (map name c.conclusions))
    (least_is f base name m ss h' lm 255 c.literals bl')
    ∙ raised_is f base n name m h lm (weighted (least_of ss 255 c.literals) w) ss c.conclusions e bc

pub all_is : (f : RuleOperands) (base n : ℕ) (name : ℕ → ℕ) (m : List ℕ) → NamesSlots f base n name → length m ≡ 65536
    → (ss : List ℕ) (c : Conjunction) (cs : List Conjunction) (w : ℕ) (ws : List ℕ) → length ss ≡ n
    → AllBelow n (c ∷ cs) → length ws ≡ length cs
    → all_concluded f (put m base ss) (rule_by name c w) (rules_by name cs ws) ≡ put m base (fired ss (c ∷ cs) (w ∷ ws))
all_is f base n name m h lm ss c [] w ws e b el = concluded_is f base n name m h lm ss c w e b.0 b.1
all_is f base n name m h lm ss c (d ∷ cs) w [] e b el = absurd (omega arith)
all_is f base n name m h lm ss c (d ∷ cs) w (v ∷ ws) e b el =
    let t = weighted (least_of ss 255 c.literals) w in
    ap (λ x. all_concluded f x (rule_by name d v) (rules_by name cs ws))
    (concluded_is f base n name m h lm ss c w e b.0 b.1)
    ∙ all_is f base n name m h lm (raised_to t ss c.conclusions) d cs v ws (length-raised_to t ss c.conclusions ∙ e) b.2
    (omega arith)

pub length-fired : (ss : List ℕ) (cs : List Conjunction) (ws : List ℕ) → length (fired ss cs ws) ≡ length ss
length-fired ss [] ws = refl
length-fired ss (c ∷ cs) [] = refl
length-fired ss (c ∷ cs) (w ∷ ws) = let t = weighted (least_of ss 255 c.literals) w in
    length-fired (raised_to t ss c.conclusions) cs ws ∙ length-raised_to t ss c.conclusions

-- bytes stay bytes, and what is high stays
least_le : (f : RuleOperands) (mem : List ℕ) (t : ℕ) (es : List ℕ) → least f mem t es ≤ t
least_le f mem t [] = omega arith
least_le f mem t (e ∷ es) = let r = least_le f mem (min t (get_or mem (f.place e) 0)) es in omega arith

weighted_le : (a w : ℕ) → a ≤ 255 → w < 256 → weighted a w < 256
weighted_le a w h lt = let p : a * (w + 1) ≤ 255 * (w + 1) = times a (w + 1) h in omega (arith, p)
  where
    times : (a k : ℕ) → a ≤ 255 → a * k ≤ 255 * k
    times a k h = grind arith

strength_lt : (f : RuleOperands) (mem : List ℕ) (p : Rule) → p.weight < 256 → strength f mem p < 256
strength_lt f mem p h = weighted_le (least f mem 255 p.antecedents) p.weight (least_le f mem 255 p.antecedents) h

abbrev pub LightRules : List Rule → Type 0
LightRules [] = Unit {0}
LightRules (p ∷ ps) = (p.weight < 256) × LightRules ps

pub light_by : (name : ℕ → ℕ) (cs : List Conjunction) (ws : List ℕ) → Below 256 ws → LightRules (rules_by name cs ws)
light_by name [] ws h = tt
light_by name (c ∷ cs) [] h = tt
light_by name (c ∷ cs) (w ∷ ws) h = (h.0, light_by name cs ws h.1)

pub last_strength_lt : (f : RuleOperands) (mem : List ℕ) (p : Rule) (ps : List Rule) → LightRules (p ∷ ps)
    → last_strength f mem p ps < 256
last_strength_lt f mem p [] h = strength_lt f mem p h.0
last_strength_lt f mem p (q ∷ qs) h = last_strength_lt f (concluded f mem p) q qs h.1

record Kept (m mem : List ℕ) : Type 0 where
  size : length mem ≡ 65536
  bytes : AreBytes mem
  same : AgreeFrom stack_end m mem

raised_keeps : (f : RuleOperands) (m mem : List ℕ) (t : ℕ) (es : List ℕ) → t < 256 → Below 0x1800 (named f es) → Kept m mem
    → Kept m (raised f t mem es)
raised_keeps f m mem t [] lt b k = k
raised_keeps f m mem t (e ∷ es) lt b k =
    let v = max (get_or mem (f.place e) 0) t in
    let low = b.0 in
    let s = k.size in
    let by = k.bytes (f.place e) in
    raised_keeps f m (set mem (f.place e) v) t es lt b.1 (record {
      size = length-set mem (f.place e) v ∙ k.size;
      bytes = bytes_after_set mem (f.place e) v k.bytes (omega arith) (omega arith);
      same = high_set m mem (f.place e) v (omega arith) k.same;
    })

pub below_front : (n : ℕ) (xs ys : List ℕ) → Below n (xs ++ ys) → Below n xs
below_front n [] ys h = tt
below_front n (x ∷ xs) ys h = (h.0, below_front n xs ys h.1)

pub below_back : (n : ℕ) (xs ys : List ℕ) → Below n (xs ++ ys) → Below n ys
below_back n [] ys h = h
below_back n (x ∷ xs) ys h = below_back n xs ys h.1

all_kept : (f : RuleOperands) (m mem : List ℕ) (p : Rule) (ps : List Rule) → LightRules (p ∷ ps)
    → Below 0x1800 (rules_target f (p ∷ ps)) → Kept m mem → Kept m (all_concluded f mem p ps)
all_kept f m mem p [] h b k =
    raised_keeps f m mem (strength f mem p) p.conclusions (strength_lt f mem p h.0)
    (below_front 0x1800 (named f p.conclusions) (rules_target f []) b) k
all_kept f m mem p (q ∷ qs) h b k =
    all_kept f m (concluded f mem p) q qs h.1 (below_back 0x1800 (named f p.conclusions) (rules_target f (q ∷ qs)) b)
    (raised_keeps f m mem (strength f mem p) p.conclusions (strength_lt f mem p h.0)
    (below_front 0x1800 (named f p.conclusions) (rules_target f (q ∷ qs)) b) k)

-- a memory of bytes that has an image's from $2000 on still has them after the rules
pub all_keep : (f : RuleOperands) (m mem : List ℕ) (p : Rule) (ps : List Rule) → LightRules (p ∷ ps)
    → Below 0x1800 (rules_target f (p ∷ ps)) → length mem ≡ 65536 → AreBytes mem → AgreeFrom stack_end m mem
    → (length (all_concluded f mem p ps) ≡ 65536) × AreBytes (all_concluded f mem p ps)
    × AgreeFrom stack_end m (all_concluded f mem p ps)
all_keep f m mem p ps h b size bytes same =
    let k = all_kept f m mem p ps h b (record { size = size; bytes = bytes; same = same }) in (k.size, k.bytes, k.same)
