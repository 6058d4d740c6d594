-- The parts of REV and of REVW make the whole instruction: one proof for both, over what one part does.
use Rattle.std.proofs.Common.{◌≡◌, ℕ, suc, ◌^◌, ◌<◌, min, max, Bool, true, false, List, [], ◌∷◌, ◌++◌, length, get_or}
use Rattle.std.proofs.Common.{refl, ap, sym, ◌∙◌, subst, arith}
use Rattle.std.proofs.Common.{get_or-set_other}
use Rattle.std.proofs.lemmas.Bool.{false≢true}
use Rattle.std.proofs.Math.ListN.{set}
use Rattle.cpu12_isa.specs.{declared.instr.Regs.Regs, declared.instr.Ccr.Ccr, Act.read_by, Memory.plus, Memory.from}
use Rattle.cpu12_isa.specs.{Flags.has, Flags.put, Flags.opened, Flags.overflow, Agreement.AllShown}
use Rattle.cpu12_isa.proofs.Algebra.{shown_append, shown_left, shown_right, fits_put, fits_opened, bit_or_is}
use Rattle.cpu12_isa.proofs.Algebra.{bit_and_is}
use Rattle.cpu12_parts.specs.declared.temps.Temps.{Temps}
use Rattle.cpu12_parts.specs.declared.temps.PartEnd.TheVariants.{More, Done}
use Rattle.cpu12_parts.specs.State.{State, Outcome, state_after}
use Rattle.cpu12_parts.specs.{Parts.weighted, Parts.Kind, Parts.part_of, Laws.PartsTo, Laws.addresses, Laws.state_of}
use Rattle.cpu12_parts.specs.Rules.{Rule, RuleOperands, elements_of, Listed, behind, AreNames, AreRules, AreWeights}
use Rattle.cpu12_parts.specs.Rules.{behind_weights, least, strength, raised, concluded, all_concluded, last_strength}
use Rattle.cpu12_parts.specs.Rules.{element_bytes, weight_bytes, named, rules_named, rules_target, rules_read}
use Rattle.cpu12_parts.specs.Rules.{rules_written, NotIn, AreApart, AreReady, rules_whole}

-- a state within the instruction
abbrev pub at_rules : Regs → Temps → ℕ → ℕ → ℕ → Ccr → List ℕ → State
at_rules r t a x y c mem = state_of (record r { a = a; x = x; y = y; ccr = c }) t mem

-- what a part leaves that isn't the last
abbrev pub gives : Regs → Temps → ℕ → ℕ → ℕ → Ccr → List (ℕ × ℕ) → Outcome
gives r t a x y c ws = record { regs = record r { a = a; x = x; y = y; ccr = c }; temps = t; writes = ws; end = More }

abbrev pub last_gives : Regs → Temps → ℕ → ℕ → ℕ → Ccr → Outcome
last_gives r t a x y c =
    record { regs = record r { a = a; x = x; y = y; ccr = c; pc = plus r.pc 2 }; temps = t; writes = []; end = Done }

-- the outcome of a part, and the addresses that it reads
pub record Does (k : Kind) (flags : ℕ) (s : State) (o : Outcome) (ats : List ℕ) : Type 0 where
  pub is : part_of k flags s ≡ o
  pub reads : read_by (k.act flags s.regs s.temps) s.mem ≡ ats

-- the flags at the end
abbrev pub last_flags : RuleOperands → ℕ → Ccr → Ccr
last_flags f flags c = put (opened c f.mask flags) overflow true

-- what the parts of an instruction do, by the element at X
pub record Walks (k : Kind) (flags : ℕ) (f : RuleOperands) (r : Regs) (t : Temps) : Type 0 where
  pub stops : (a x y : ℕ) (c : Ccr) (mem : List ℕ) → f.element mem x ≡ f.stop
      → Does k flags (at_rules r t a x y c mem) (last_gives r t a (plus x f.size) y (opened c f.mask flags))
      (from x f.size)
  pub turns : (a x y : ℕ) (c : Ccr) (mem : List ℕ) → f.element mem x ≡ f.separator → has c overflow ≡ true
      → Does k flags (at_rules r t a x y c mem)
      (gives r t 255 (plus x f.size) y (put (opened c f.mask flags) overflow false) []) (from x f.size)
  pub begins : (a x y : ℕ) (c : Ccr) (mem : List ℕ) → f.element mem x ≡ f.separator → has c overflow ≡ false
      → f.weighs c ≡ false
      → Does k flags (at_rules r t a x y c mem)
      (gives r t a (plus x f.size) y (put (opened c f.mask flags) overflow true) []) (from x f.size)
  pub weighs : (a x y : ℕ) (c : Ccr) (mem : List ℕ) → f.element mem x ≡ f.separator → has c overflow ≡ false
      → f.weighs c ≡ true
      → Does k flags (at_rules r t a x y c mem)
      (gives r t (weighted a (get_or mem y 0)) (plus x f.size) (plus y 1)
      (put (opened c f.mask flags) overflow true) []) (from x f.size ++ (y ∷ []))
  pub leasts : (e a x y : ℕ) (c : Ccr) (mem : List ℕ) → f.element mem x ≡ e → e < f.separator → has c overflow ≡ false
      → (f.weighs c ≡ false → y ≡ r.y)
      → Does k flags (at_rules r t a x y c mem)
      (gives r t (min a (get_or mem (f.place e) 0)) (plus x f.size) y (opened c f.mask flags) [])
      (from x f.size ++ (f.place e ∷ []))
  pub raises : (e a x y : ℕ) (c : Ccr) (mem : List ℕ) → f.element mem x ≡ e → e < f.separator → has c overflow ≡ true
      → (f.weighs c ≡ false → y ≡ r.y)
      → Does k flags (at_rules r t a x y c mem)
      (gives r t a (plus x f.size) y (opened c f.mask flags) ((f.place e, max (get_or mem (f.place e) 0) a) ∷ []))
      (from x f.size ++ (f.place e ∷ []))
  pub element_stays : (mem : List ℕ) (i v x : ℕ) → NotIn i (from x f.size) → f.element (set mem i v) x ≡ f.element mem x
  pub v_opened : (c : Ccr) → has (opened c f.mask flags) overflow ≡ has c overflow
  pub weighs_opened : (c : Ccr) → f.weighs (opened c f.mask flags) ≡ f.weighs c
  pub weighs_put : (c : Ccr) (b : Bool) → f.weighs (put c overflow b) ≡ f.weighs c
  pub ends_opened : (c : Ccr) → c.0 < 2 ^ 8 → flags < 2 ^ 8
      → last_flags f flags (opened c f.mask flags) ≡ last_flags f flags c
  pub ends_put : (c : Ccr) (b : Bool) → c.0 < 2 ^ 8 → flags < 2 ^ 8
      → last_flags f flags (put (opened c f.mask flags) overflow b) ≡ last_flags f flags c
  pub ends_set : (c : Ccr) → c.0 < 2 ^ 8 → flags < 2 ^ 8 → has c overflow ≡ true
      → opened c f.mask flags ≡ last_flags f flags c

-- one part before the rest
on_part : (k : Kind) (flags : ℕ) (h g : ℕ → Bool) (d : ℕ) (s : State) (o : Outcome) (ats : List ℕ) (end : State)
    → Does k flags s o ats → o.end ≡ More
    → AllShown h ats → AllShown g (addresses o.writes)
    → PartsTo k flags h g d (state_after o s.mem) end → PartsTo k flags h g (suc d) s end
on_part k flags h g d s o ats end does more shown kept rest = (
  (
    subst (λ (xs : List ℕ). AllShown h xs) (sym does.reads) shown,
    subst (λ (p : Outcome). AllShown g (addresses p.writes)) (sym does.is) kept,
  ),
  ap (λ (p : Outcome). p.end) does.is ∙ more,
  subst (λ (p : Outcome). PartsTo k flags h g d (state_after p s.mem) end) (sym does.is) rest,
)

-- what the parts keep of the flags
record Kept (f : RuleOperands) (flags : ℕ) (c0 c : Ccr) : Type 0 where
  fits : c.0 < 2 ^ 8
  ends : last_flags f flags c ≡ last_flags f flags c0
  weighing : f.weighs c ≡ f.weighs c0

kept_opened : (k : Kind) (flags : ℕ) (f : RuleOperands) (r : Regs) (t : Temps) (c0 c : Ccr) → Walks k flags f r t
    → flags < 2 ^ 8 → Kept f flags c0 c
    → Kept f flags c0 (opened c f.mask flags)
kept_opened k flags f r t c0 c w ff m = record {
  fits = fits_opened c f.mask flags m.fits ff;
  ends = w.ends_opened c m.fits ff ∙ m.ends;
  weighing = w.weighs_opened c ∙ m.weighing;
}

kept_put : (k : Kind) (flags : ℕ) (f : RuleOperands) (r : Regs) (t : Temps) (c0 c : Ccr) (b : Bool) → Walks k flags f r t
    → flags < 2 ^ 8 → Kept f flags c0 c
    → Kept f flags c0 (put (opened c f.mask flags) overflow b)
kept_put k flags f r t c0 c b w ff m = record {
  fits = fits_put (opened c f.mask flags) overflow b (omega arith) (fits_opened c f.mask flags m.fits ff);
  ends = w.ends_put c b m.fits ff ∙ m.ends;
  weighing = w.weighs_put (opened c f.mask flags) b ∙ w.weighs_opened c ∙ m.weighing;
}

-- V after it is put
put_v : (c : Ccr) (b : Bool) → has (put c overflow b) overflow ≡ b
put_v c true = simp bit_or_is
put_v c false = simp bit_and_is

-- lists one after the other
listed_tail : (f : RuleOperands) (mem : List ℕ) (x : ℕ) (es rest : List ℕ) → Listed f mem x (es ++ rest)
    → Listed f mem (behind f x es) rest
listed_tail f mem x [] rest l = l
listed_tail f mem x (e ∷ es) rest l = listed_tail f mem (plus x f.size) es rest l.1

shown_tail : (h : ℕ → Bool) (f : RuleOperands) (x : ℕ) (es rest : List ℕ) → AllShown h (element_bytes f x (es ++ rest))
    → AllShown h (element_bytes f (behind f x es) rest)
shown_tail h f x [] rest s = s
shown_tail h f x (e ∷ es) rest s =
    shown_tail h f (plus x f.size) es rest
    (shown_right h (from x f.size) (element_bytes f (plus x f.size) (es ++ rest)) s)

not_left : (i : ℕ) (xs ys : List ℕ) → NotIn i (xs ++ ys) → NotIn i xs
not_left i [] ys n = tt
not_left i (x ∷ xs) ys n = (n.0, not_left i xs ys n.1)

not_right : (i : ℕ) (xs ys : List ℕ) → NotIn i (xs ++ ys) → NotIn i ys
not_right i [] ys n = n
not_right i (x ∷ xs) ys n = not_right i xs ys n.1

not_tail : (i : ℕ) (f : RuleOperands) (x : ℕ) (es rest : List ℕ) → NotIn i (element_bytes f x (es ++ rest))
    → NotIn i (element_bytes f (behind f x es) rest)
not_tail i f x [] rest n = n
not_tail i f x (e ∷ es) rest n =
    not_tail i f (plus x f.size) es rest (not_right i (from x f.size) (element_bytes f (plus x f.size) (es ++ rest)) n)

apart_left : (is js ats : List ℕ) → AreApart (is ++ js) ats → AreApart is ats
apart_left [] js ats a = tt
apart_left (i ∷ is) js ats a = (a.0, apart_left is js ats a.1)

apart_right : (is js ats : List ℕ) → AreApart (is ++ js) ats → AreApart js ats
apart_right [] js ats a = a
apart_right (i ∷ is) js ats a = apart_right is js ats a.1

apart_behind : (is xs ys : List ℕ) → AreApart is (xs ++ ys) → AreApart is ys
apart_behind [] xs ys a = tt
apart_behind (i ∷ is) xs ys a = (not_right i xs ys a.0, apart_behind is xs ys a.1)

apart_tail : (f : RuleOperands) (x : ℕ) (is es rest : List ℕ) → AreApart is (element_bytes f x (es ++ rest))
    → AreApart is (element_bytes f (behind f x es) rest)
apart_tail f x [] es rest a = tt
apart_tail f x (i ∷ is) es rest a = (not_tail i f x es rest a.0, apart_tail f x is es rest a.1)

behind_append : (f : RuleOperands) (x : ℕ) (es fs : List ℕ) → behind f x (es ++ fs) ≡ behind f (behind f x es) fs
behind_append f x [] fs = refl
behind_append f x (e ∷ es) fs = behind_append f (plus x f.size) es fs

-- what is written elsewhere leaves the list and the weights
listed_set : (k : Kind) (flags : ℕ) (f : RuleOperands) (r : Regs) (t : Temps) → Walks k flags f r t
    → (mem : List ℕ) (i v x : ℕ) (es : List ℕ)
    → NotIn i (element_bytes f x es) → Listed f mem x es → Listed f (set mem i v) x es
listed_set k flags f r t w mem i v x [] n l = tt
listed_set k flags f r t w mem i v x (e ∷ es) n l = (
  w.element_stays mem i v x (not_left i (from x f.size) (element_bytes f (plus x f.size) es) n) ∙ l.0,
  listed_set k flags f r t w mem i v (plus x f.size) es
      (not_right i (from x f.size) (element_bytes f (plus x f.size) es) n) l.1,
)

listed_raised : (k : Kind) (flags : ℕ) (f : RuleOperands) (r : Regs) (t : Temps) → Walks k flags f r t
    → (es : List ℕ) (a x : ℕ) (mem fs : List ℕ)
    → AreApart (named f es) (element_bytes f x fs) → Listed f mem x fs
    → Listed f (raised f a mem es) x fs
listed_raised k flags f r t w [] a x mem fs ap l = l
listed_raised k flags f r t w (e ∷ es) a x mem fs ap l =
    listed_raised k flags f r t w es a x (set mem (f.place e) (max (get_or mem (f.place e) 0) a)) fs ap.1
    (listed_set k flags f r t w mem (f.place e) (max (get_or mem (f.place e) 0) a) x fs ap.0 l)

weights_set : (on : Bool) (mem : List ℕ) (i v y : ℕ) (ps : List Rule) → NotIn i (weight_bytes on y ps)
    → AreWeights on mem y ps
    → AreWeights on (set mem i v) y ps
weights_set true mem i v y [] n l = tt
weights_set true mem i v y (p ∷ ps) n l =
    (get_or-set_other mem i y v 0 n.0 ∙ l.0, weights_set true mem i v (plus y 1) ps n.1 l.1)
weights_set false mem i v y [] n l = tt
weights_set false mem i v y (p ∷ ps) n l = (l.0, weights_set false mem i v y ps tt l.1)

weights_raised : (f : RuleOperands) (on : Bool) (es : List ℕ) (a y : ℕ) (mem : List ℕ) (ps : List Rule)
    → AreApart (named f es) (weight_bytes on y ps)
    → AreWeights on mem y ps → AreWeights on (raised f a mem es) y ps
weights_raised f on [] a y mem ps ap l = l
weights_raised f on (e ∷ es) a y mem ps ap l =
    weights_raised f on es a y (set mem (f.place e) (max (get_or mem (f.place e) 0) a)) ps ap.1
    (weights_set on mem (f.place e) (max (get_or mem (f.place e) 0) a) y ps ap.0 l)

-- Y behind one weight
abbrev next_weight : Bool → ℕ → ℕ
next_weight true y = plus y 1
next_weight false y = y

-- the parts of elements, before d others
abbrev more : List ℕ → ℕ → ℕ
more [] d = d
more (e ∷ es) d = suc (more es d)

-- the antecedents
antecedents : (k : Kind) (flags : ℕ) (f : RuleOperands) (r : Regs) (t : Temps) → Walks k flags f r t → flags < 2 ^ 8
    → (h g : ℕ → Bool) (d y : ℕ) (c0 : Ccr) (end : State) → (f.weighs c0 ≡ false → y ≡ r.y)
    → (es rest : List ℕ) (a x : ℕ) (c : Ccr) (mem : List ℕ) → AreNames f es → Listed f mem x (es ++ rest)
    → has c overflow ≡ false → Kept f flags c0 c
    → AllShown h (element_bytes f x (es ++ rest)) → AllShown h (named f es)
    → ((c2 : Ccr) → Kept f flags c0 c2 → has c2 overflow ≡ false
    → PartsTo k flags h g d (at_rules r t (least f mem a es) (behind f x es) y c2 mem) end)
    → PartsTo k flags h g (more es d) (at_rules r t a x y c mem) end
antecedents k flags f r t w ff h g d y c0 end at_y [] rest a x c mem ns l v m sl sn go = go c m v
antecedents k flags f r t w ff h g d y c0 end at_y (e ∷ es) rest a x c mem ns l v m sl sn go =
    on_part k flags h g (more es d) (at_rules r t a x y c mem)
    (gives r t (min a (get_or mem (f.place e) 0)) (plus x f.size) y (opened c f.mask flags) [])
    (from x f.size ++ (f.place e ∷ [])) end
    (w.leasts e a x y c mem l.0 ns.0 v (λ z. at_y (sym m.weighing ∙ z))) refl
    (shown_append h (from x f.size) (f.place e ∷ [])
    (shown_left h (from x f.size) (element_bytes f (plus x f.size) (es ++ rest)) sl) (sn.0, tt)) tt
    (antecedents k flags f r t w ff h g d y c0 end at_y es rest (min a (get_or mem (f.place e) 0)) (plus x f.size)
    (opened c f.mask flags) mem ns.1 l.1 (w.v_opened c ∙ v)
    (kept_opened k flags f r t c0 c w ff m)
    (shown_right h (from x f.size) (element_bytes f (plus x f.size) (es ++ rest)) sl) sn.1 go)

-- the conclusions
conclusions : (k : Kind) (flags : ℕ) (f : RuleOperands) (r : Regs) (t : Temps) → Walks k flags f r t → flags < 2 ^ 8
    → (h g : ℕ → Bool) (d y : ℕ) (c0 : Ccr) (end : State) → (f.weighs c0 ≡ false → y ≡ r.y)
    → (es rest : List ℕ) (a x : ℕ) (c : Ccr) (mem : List ℕ) → AreNames f es → Listed f mem x (es ++ rest)
    → has c overflow ≡ true → Kept f flags c0 c
    → AreApart (named f es) (element_bytes f x (es ++ rest)) → AllShown h (element_bytes f x (es ++ rest))
    → AllShown h (named f es) → AllShown g (named f es)
    → ((c2 : Ccr) → Kept f flags c0 c2 → has c2 overflow ≡ true
    → PartsTo k flags h g d (at_rules r t a (behind f x es) y c2 (raised f a mem es)) end)
    → PartsTo k flags h g (more es d) (at_rules r t a x y c mem) end
conclusions k flags f r t w ff h g d y c0 end at_y [] rest a x c mem ns l v m aw sl sn sg go = go c m v
conclusions k flags f r t w ff h g d y c0 end at_y (e ∷ es) rest a x c mem ns l v m aw sl sn sg go =
    let tail = element_bytes f (plus x f.size) (es ++ rest) in
    let mem2 : List ℕ = set mem (f.place e) (max (get_or mem (f.place e) 0) a) in
    on_part k flags h g (more es d) (at_rules r t a x y c mem)
    (gives r t a (plus x f.size) y (opened c f.mask flags) ((f.place e, max (get_or mem (f.place e) 0) a) ∷ []))
    (from x f.size ++ (f.place e ∷ [])) end
    (w.raises e a x y c mem l.0 ns.0 v (λ z. at_y (sym m.weighing ∙ z))) refl
    (shown_append h (from x f.size) (f.place e ∷ [])
    (shown_left h (from x f.size) (element_bytes f (plus x f.size) (es ++ rest)) sl) (sn.0, tt)) (sg.0, tt)
    (conclusions k flags f r t w ff h g d y c0 end at_y es rest a (plus x f.size) (opened c f.mask flags)
    (set mem (f.place e) (max (get_or mem (f.place e) 0) a)) ns.1
    (listed_set k flags f r t w mem (f.place e) (max (get_or mem (f.place e) 0) a) (plus x f.size) (es ++ rest)
    (not_right (f.place e) (from x f.size) (element_bytes f (plus x f.size) (es ++ rest)) aw.0) l.1)
    (w.v_opened c ∙ v) (kept_opened k flags f r t c0 c w ff m)
    (apart_behind (named f es) (from x f.size) (element_bytes f (plus x f.size) (es ++ rest)) aw.1)
    (shown_right h (from x f.size) (element_bytes f (plus x f.size) (es ++ rest)) sl) sn.1 sg.1 go)

-- a strength that no weight cuts
whole_weight : (a : ℕ) → weighted a 255 ≡ a
whole_weight a = omega arith

weight_here : (on : Bool) (mem : List ℕ) (y : ℕ) (p : Rule) (ps : List Rule) → AreWeights on mem y (p ∷ ps)
    → AreWeights on mem (next_weight on y) ps
weight_here true mem y p ps a = a.1
weight_here false mem y p ps a = a.1

weight_shown : (h : ℕ → Bool) (on : Bool) (y : ℕ) (p : Rule) (ps : List Rule) → AllShown h (weight_bytes on y (p ∷ ps))
    → AllShown h (weight_bytes on (next_weight on y) ps)
weight_shown h true y p ps s = s.1
weight_shown h false y p ps s = tt

weight_apart : (is : List ℕ) (on : Bool) (y : ℕ) (p : Rule) (ps : List Rule) → AreApart is (weight_bytes on y (p ∷ ps))
    → AreApart is (weight_bytes on (next_weight on y) ps)
weight_apart [] on y p ps a = tt
weight_apart (i ∷ is) true y p ps a = (a.0.1, weight_apart is true y p ps a.1)
weight_apart (i ∷ is) false y p ps a = (tt, weight_apart is false y p ps a.1)

weight_behind : (on : Bool) (y : ℕ) (p : Rule) (ps : List Rule)
    → behind_weights on (next_weight on y) ps ≡ behind_weights on y (p ∷ ps)
weight_behind true y p ps = refl
weight_behind false y p ps = refl

next_at : (on : Bool) (y y0 : ℕ) → (on ≡ false → y ≡ y0) → on ≡ false → next_weight on y ≡ y0
next_at true y y0 h e = absurd (false≢true (sym e))
next_at false y y0 h e = h refl

-- the separator between antecedents and conclusions, where the weight is applied
separator : (k : Kind) (flags : ℕ) (f : RuleOperands) (r : Regs) (t : Temps) → Walks k flags f r t
    → (h g : ℕ → Bool) (d : ℕ) (on : Bool) (a x y : ℕ) (c : Ccr) (mem : List ℕ) (p : Rule) (ps : List Rule)
    (end : State)
    → f.element mem x ≡ f.separator → has c overflow ≡ false → f.weighs c ≡ on → AreWeights on mem y (p ∷ ps)
    → AllShown h (from x f.size)
    → AllShown h (weight_bytes on y (p ∷ ps))
    → PartsTo k flags h g d
    (at_rules r t (weighted a p.weight) (plus x f.size) (next_weight on y)
    (put (opened c f.mask flags) overflow true) mem) end
    → PartsTo k flags h g (suc d) (at_rules r t a x y c mem) end
separator k flags f r t w h g d true a x y c mem p ps end e v o ws sx sw rest =
    on_part k flags h g d (at_rules r t a x y c mem)
    (gives r t (weighted a (get_or mem y 0)) (plus x f.size) (plus y 1) (put (opened c f.mask flags) overflow true)
    []) (from x f.size ++ (y ∷ [])) end
    (w.weighs a x y c mem e v o) refl (shown_append h (from x f.size) (y ∷ []) sx (sw.0, tt)) tt
    (subst (λ (n : ℕ). PartsTo k flags h g d
    (at_rules r t (weighted a n) (plus x f.size) (plus y 1) (put (opened c f.mask flags) overflow true) mem) end)
    (sym ws.0) rest)
separator k flags f r t w h g d false a x y c mem p ps end e v o ws sx sw rest =
    on_part k flags h g d (at_rules r t a x y c mem)
    (gives r t a (plus x f.size) y (put (opened c f.mask flags) overflow true) []) (from x f.size) end
    (w.begins a x y c mem e v o) refl sx tt
    (subst (λ (n : ℕ). PartsTo k flags h g d
    (at_rules r t n (plus x f.size) y (put (opened c f.mask flags) overflow true) mem) end)
    (ap (weighted a) ws.0 ∙ whole_weight a) rest)

-- where the bytes of a rule's parts stand
abbrev turn_of : RuleOperands → ℕ → Rule → ℕ
turn_of f x p = behind f x p.antecedents

abbrev end_of : RuleOperands → ℕ → Rule → ℕ
end_of f x p = behind f (plus (turn_of f x p) f.size) p.conclusions

-- the elements of a rule, and others behind it
abbrev rule_elements : RuleOperands → Rule → List ℕ → List ℕ
rule_elements f p rest = p.antecedents ++ (f.separator ∷ (p.conclusions ++ rest))

-- a rule: its antecedents, the separator, its conclusions
one_rule : (k : Kind) (flags : ℕ) (f : RuleOperands) (r : Regs) (t : Temps) → Walks k flags f r t → flags < 2 ^ 8
    → (h g : ℕ → Bool) (d : ℕ) (on : Bool) (c0 : Ccr) (end : State)
    → (p : Rule) (ps : List Rule) (rest : List ℕ) (x y : ℕ) (c : Ccr) (mem : List ℕ) → f.weighs c0 ≡ on
    → (on ≡ false → y ≡ r.y)
    → AreNames f p.antecedents → AreNames f p.conclusions → Listed f mem x (rule_elements f p rest)
    → AreWeights on mem y (p ∷ ps) → has c overflow ≡ false
    → Kept f flags c0 c
    → AreApart (named f p.conclusions) (element_bytes f x (rule_elements f p rest))
    → AllShown h (element_bytes f x (rule_elements f p rest)) → AllShown h (named f p.antecedents)
    → AllShown h (named f p.conclusions)
    → AllShown h (weight_bytes on y (p ∷ ps)) → AllShown g (named f p.conclusions)
    → ((c2 : Ccr) → Kept f flags c0 c2 → has c2 overflow ≡ true
    → PartsTo k flags h g d
    (at_rules r t (strength f mem p) (end_of f x p) (next_weight on y) c2 (concluded f mem p)) end)
    → PartsTo k flags h g (more p.antecedents (suc (more p.conclusions d))) (at_rules r t 255 x y c mem) end
one_rule k flags f r t w ff h g d on c0 end p ps rest x y c mem o at_y na nc l ws v m aw sl sa sc sw sg go =
    let x1 : ℕ = turn_of f x p in
    let behind1 = f.separator ∷ (p.conclusions ++ rest) in
    let l1 = listed_tail f mem x p.antecedents (f.separator ∷ (p.conclusions ++ rest)) l in
    let s1 = shown_tail h f x p.antecedents (f.separator ∷ (p.conclusions ++ rest)) sl in
    let a1 = apart_tail f x (named f p.conclusions) p.antecedents (f.separator ∷ (p.conclusions ++ rest)) aw in
    antecedents k flags f r t w ff h g (suc (more p.conclusions d)) y c0 end (λ z. at_y (sym o ∙ z)) p.antecedents
    (f.separator ∷ (p.conclusions ++ rest)) 255 x c mem na l v m sl sa
    (λ c2 m2 v2.
    separator k flags f r t w h g (more p.conclusions d) on (least f mem 255 p.antecedents)
    (turn_of f x p) y c2 mem p ps end l1.0 v2 (m2.weighing ∙ o) ws
    (shown_left h (from (turn_of f x p) f.size)
    (element_bytes f (plus (turn_of f x p) f.size) (p.conclusions ++ rest)) s1) sw
    (conclusions k flags f r t w ff h g d (next_weight on y) c0 end (λ z. next_at on y r.y at_y (sym o ∙ z))
    p.conclusions rest (strength f mem p) (plus (turn_of f x p) f.size) (put (opened c2 f.mask flags) overflow true)
    mem nc l1.1
    (put_v (opened c2 f.mask flags) true) (kept_put k flags f r t c0 c2 true w ff m2)
    (apart_behind (named f p.conclusions) (from (turn_of f x p) f.size)
    (element_bytes f (plus (turn_of f x p) f.size) (p.conclusions ++ rest)) a1)
    (shown_right h (from (turn_of f x p) f.size) (element_bytes f (plus (turn_of f x p) f.size) (p.conclusions ++ rest))
    s1) sc sg go))

-- how many parts there are, but for the first
abbrev count : Rule → List Rule → ℕ
count p [] = more p.antecedents (suc (more p.conclusions 0))
count p (q ∷ qs) = more p.antecedents (suc (more p.conclusions (suc (count q qs))))

-- the end from here on
abbrev rules_end : RuleOperands → Bool → Regs → Temps → ℕ → ℕ → Ccr → List ℕ → Rule → List Rule → State
rules_end f on r t x y c mem p ps = state_of (record r {
  a = last_strength f mem p ps;
  x = behind f x (elements_of f p ps);
  y = behind_weights on y (p ∷ ps);
  ccr = c;
  pc = plus r.pc 2;
}) t (all_concluded f mem p ps)

behind_rule : (f : RuleOperands) (x : ℕ) (p : Rule) (rest : List ℕ)
    → behind f x (rule_elements f p rest) ≡ behind f (end_of f x p) rest
behind_rule f x p rest =
    behind_append f x p.antecedents (f.separator ∷ (p.conclusions ++ rest))
    ∙ behind_append f (plus (turn_of f x p) f.size) p.conclusions rest

-- what stands behind a rule
listed_behind : (k : Kind) (flags : ℕ) (f : RuleOperands) (r : Regs) (t : Temps) → Walks k flags f r t
    → (p : Rule) (rest : List ℕ) (x : ℕ) (mem : List ℕ)
    → AreApart (named f p.conclusions) (element_bytes f x (rule_elements f p rest))
    → Listed f mem x (rule_elements f p rest)
    → Listed f (concluded f mem p) (end_of f x p) rest
listed_behind k flags f r t w p rest x mem aw l =
    let l2 = listed_raised k flags f r t w p.conclusions (strength f mem p) x mem (rule_elements f p rest) aw l in
    listed_tail f (concluded f mem p) (plus (turn_of f x p) f.size) p.conclusions rest
    (listed_tail f (concluded f mem p) x p.antecedents (f.separator ∷ (p.conclusions ++ rest)) l2).1

shown_behind : (h : ℕ → Bool) (f : RuleOperands) (p : Rule) (rest : List ℕ) (x : ℕ)
    → AllShown h (element_bytes f x (rule_elements f p rest))
    → AllShown h (element_bytes f (end_of f x p) rest)
shown_behind h f p rest x s =
    let s1 = shown_tail h f x p.antecedents (f.separator ∷ (p.conclusions ++ rest)) s in
    shown_tail h f (plus (turn_of f x p) f.size) p.conclusions rest
    (shown_right h (from (turn_of f x p) f.size)
    (element_bytes f (plus (turn_of f x p) f.size) (p.conclusions ++ rest)) s1)

apart_behind_rule : (f : RuleOperands) (is : List ℕ) (p : Rule) (rest : List ℕ) (x : ℕ)
    → AreApart is (element_bytes f x (rule_elements f p rest))
    → AreApart is (element_bytes f (end_of f x p) rest)
apart_behind_rule f is p rest x a =
    let a1 = apart_tail f x is p.antecedents (f.separator ∷ (p.conclusions ++ rest)) a in
    apart_tail f (plus (turn_of f x p) f.size) is p.conclusions rest
    (apart_behind is (from (turn_of f x p) f.size)
    (element_bytes f (plus (turn_of f x p) f.size) (p.conclusions ++ rest)) a1)

rules_parts : (k : Kind) (flags : ℕ) (f : RuleOperands) (r : Regs) (t : Temps) → Walks k flags f r t → flags < 2 ^ 8
    → (h g : ℕ → Bool) (on : Bool) (c0 : Ccr)
    → f.weighs c0 ≡ on
    → (ps : List Rule) (p : Rule) (x y : ℕ) (c : Ccr) (mem : List ℕ) → (on ≡ false → y ≡ r.y) → AreRules f (p ∷ ps)
    → Listed f mem x (elements_of f p ps)
    → AreWeights on mem y (p ∷ ps)
    → has c overflow ≡ false → Kept f flags c0 c
    → AreApart (rules_target f (p ∷ ps)) (element_bytes f x (elements_of f p ps))
    → AreApart (rules_target f (p ∷ ps)) (weight_bytes on y (p ∷ ps))
    → AllShown h (element_bytes f x (elements_of f p ps)) → AllShown h (rules_named f (p ∷ ps))
    → AllShown h (weight_bytes on y (p ∷ ps))
    → AllShown g (rules_target f (p ∷ ps))
    → PartsTo k flags h g (count p ps) (at_rules r t 255 x y c mem)
    (rules_end f on r t x y (last_flags f flags c0) mem p ps)
rules_parts k flags f r t w ff h g on c0 o [] p x y c mem at_y rs l ws v m al aw sl sn sw sg =
    let a0 = apart_left (named f p.conclusions) [] (element_bytes f x (elements_of f p [])) al in
    let sc = shown_right h (named f p.antecedents) (named f p.conclusions ++ []) sn in
    let last = (listed_behind k flags f r t w p (f.stop ∷ []) x mem a0 l).0 in
    let sx = shown_left h (from (end_of f x p) f.size) [] (shown_behind h f p (f.stop ∷ []) x sl) in
    let there : ℕ → ℕ → Ccr → State =
    λ X Y C. state_of (record r { a = strength f mem p; x = X; y = Y; ccr = C; pc = plus r.pc 2 }) t
    (concluded f mem p) in
    one_rule k flags f r t w ff h g 0 on c0 (rules_end f on r t x y (last_flags f flags c0) mem p []) p []
    (f.stop ∷ []) x y c mem o at_y rs.0 rs.1 l ws v m a0 sl
    (shown_left h (named f p.antecedents) (named f p.conclusions ++ []) sn) (shown_left h (named f p.conclusions) [] sc)
    sw (shown_left g (named f p.conclusions) [] sg)
    (λ c2 m2 v2. (let does = w.stops (strength f mem p) (end_of f x p) (next_weight on y) c2 (concluded f mem p) last in (
      (
        subst (λ (xs : List ℕ). AllShown h xs) (sym does.reads) sx,
        subst (λ (q : Outcome). AllShown g (addresses q.writes)) (sym does.is) tt,
      ),
      ap (λ (q : Outcome). q.end) does.is,
      ap (λ (X : ℕ). there X (behind_weights on y (p ∷ [])) (last_flags f flags c0)) (behind_rule f x p (f.stop ∷ []))
          ∙ ap (λ (Y : ℕ). there (plus (end_of f x p) f.size) Y (last_flags f flags c0))
          (sym (weight_behind on y p []) ∙ behind_nothing on (next_weight on y))
          ∙ ap (there (plus (end_of f x p) f.size) (next_weight on y)) (sym (w.ends_set c2 m2.fits ff v2 ∙ m2.ends))
          ∙ sym (ap (λ (q : Outcome). state_after q (concluded f mem p)) does.is),
    )))
  where
    behind_nothing : (b : Bool) (n : ℕ) → behind_weights b n [] ≡ n
    behind_nothing true n = refl
    behind_nothing false n = refl
rules_parts k flags f r t w ff h g on c0 o (q ∷ qs) p x y c mem at_y rs l ws v m al aw sl sn sw sg =
    let rest = f.separator ∷ elements_of f q qs in
    let x2 : ℕ = plus (end_of f x p) f.size in
    let y2 : ℕ = next_weight on y in
    let mem2 : List ℕ = concluded f mem p in
    let a0 = apart_left (named f p.conclusions) (rules_target f (q ∷ qs))
    (element_bytes f x (elements_of f p (q ∷ qs))) al in
    let a1 = apart_right (named f p.conclusions) (rules_target f (q ∷ qs))
    (element_bytes f x (elements_of f p (q ∷ qs))) al in
    let w0 = apart_left (named f p.conclusions) (rules_target f (q ∷ qs)) (weight_bytes on y (p ∷ (q ∷ qs))) aw in
    let w1 = apart_right (named f p.conclusions) (rules_target f (q ∷ qs)) (weight_bytes on y (p ∷ (q ∷ qs))) aw in
    let sc = shown_right h (named f p.antecedents) (named f p.conclusions ++ rules_named f (q ∷ qs)) sn in
    let there = listed_behind k flags f r t w p (f.separator ∷ elements_of f q qs) x mem a0 l in
    let sr = shown_behind h f p (f.separator ∷ elements_of f q qs) x sl in
    let ar = apart_behind_rule f (rules_target f (q ∷ qs)) p (f.separator ∷ elements_of f q qs) x a1 in
    one_rule k flags f r t w ff h g (suc (count q qs)) on c0
    (rules_end f on r t x y (last_flags f flags c0) mem p (q ∷ qs)) p (q ∷ qs) (f.separator ∷ elements_of f q qs) x
    y c mem o at_y rs.0 rs.1 l ws v m a0 sl
    (shown_left h (named f p.antecedents) (named f p.conclusions ++ rules_named f (q ∷ qs)) sn)
    (shown_left h (named f p.conclusions) (rules_named f (q ∷ qs)) sc) sw
    (shown_left g (named f p.conclusions) (rules_target f (q ∷ qs)) sg)
    (λ c2 m2 v2.
    on_part k flags h g (count q qs)
    (at_rules r t (strength f mem p) (end_of f x p) (next_weight on y) c2 (concluded f mem p))
    (gives r t 255 (plus (end_of f x p) f.size) (next_weight on y) (put (opened c2 f.mask flags) overflow false) [])
    (from (end_of f x p) f.size) (rules_end f on r t x y (last_flags f flags c0) mem p (q ∷ qs))
    (w.turns (strength f mem p) (end_of f x p) (next_weight on y) c2 (concluded f mem p) there.0 v2) refl
    (shown_left h (from (end_of f x p) f.size) (element_bytes f (plus (end_of f x p) f.size) (elements_of f q qs)) sr)
    tt
    (subst (λ (e : State). PartsTo k flags h g (count q qs)
    (at_rules r t 255 (plus (end_of f x p) f.size) (next_weight on y) (put (opened c2 f.mask flags) overflow false)
    (concluded f mem p)) e)
    (same_end on r t x y (last_flags f flags c0) mem p q qs)
    (rules_parts k flags f r t w ff h g on c0 o qs q (plus (end_of f x p) f.size) (next_weight on y)
    (put (opened c2 f.mask flags) overflow false) (concluded f mem p) (next_at on y r.y at_y) rs.2 there.1
    (weights_raised f on p.conclusions (strength f mem p) (next_weight on y) mem (q ∷ qs)
    (weight_apart (named f p.conclusions) on y p (q ∷ qs) w0) (weight_here on mem y p (q ∷ qs) ws))
    (put_v (opened c2 f.mask flags) false) (kept_put k flags f r t c0 c2 false w ff m2)
    (apart_behind (rules_target f (q ∷ qs)) (from (end_of f x p) f.size)
    (element_bytes f (plus (end_of f x p) f.size) (elements_of f q qs)) ar)
    (weight_apart (rules_target f (q ∷ qs)) on y p (q ∷ qs) w1)
    (shown_right h (from (end_of f x p) f.size) (element_bytes f (plus (end_of f x p) f.size) (elements_of f q qs)) sr)
    (shown_right h (named f p.conclusions) (rules_named f (q ∷ qs)) sc)
    (weight_shown h on y p (q ∷ qs) sw)
    (shown_right g (named f p.conclusions) (rules_target f (q ∷ qs)) sg))))
  where
    same_end : (b : Bool) (s : Regs) (u : Temps) (X Y : ℕ) (C : Ccr) (mm : List ℕ) (p1 q1 : Rule) (qs1 : List Rule)
        → rules_end f b s u (plus (end_of f X p1) f.size) (next_weight b Y) C (concluded f mm p1) q1 qs1
        ≡ rules_end f b s u X Y C mm p1 (q1 ∷ qs1)
    same_end b s u X Y C mm p1 q1 qs1 =
        let there : ℕ → ℕ → State =
        λ m n. state_of (record s { a = last_strength f mm p1 (q1 ∷ qs1); x = m; y = n; ccr = C; pc = plus s.pc 2 }) u
        (all_concluded f mm p1 (q1 ∷ qs1)) in
        ap (λ (m : ℕ). there m (behind_weights b (next_weight b Y) (q1 ∷ qs1)))
        (sym (behind_rule f X p1 (f.separator ∷ elements_of f q1 qs1)))
        ∙ ap (there (behind f X (elements_of f p1 (q1 ∷ qs1)))) (weight_behind b Y p1 (q1 ∷ qs1))

-- as many parts as the list has elements
more_length : (es rest : List ℕ) (d : ℕ) → length rest ≡ suc d → length (es ++ rest) ≡ suc (more es d)
more_length [] rest d e = e
more_length (x ∷ es) rest d e = ap suc (more_length es rest d e)

count_length : (f : RuleOperands) (p : Rule) (ps : List Rule) → length (elements_of f p ps) ≡ suc (count p ps)
count_length f p [] =
    more_length p.antecedents (f.separator ∷ (p.conclusions ++ (f.stop ∷ []))) (suc (more p.conclusions 0))
    (ap suc (more_length p.conclusions (f.stop ∷ []) 0 refl))
count_length f p (q ∷ qs) =
    more_length p.antecedents (f.separator ∷ (p.conclusions ++ (f.separator ∷ elements_of f q qs)))
    (suc (more p.conclusions (suc (count q qs))))
    (ap suc (more_length p.conclusions (f.separator ∷ elements_of f q qs) (suc (count q qs))
    (ap suc (count_length f q qs))))

-- the whole list
pub rules_are_whole : (k : Kind) (flags : ℕ) (f : RuleOperands) (r : Regs) (t : Temps) → Walks k flags f r t
    → (mem : List ℕ) (p : Rule) (ps : List Rule) (d : ℕ) (h g : ℕ → Bool) → flags < 2 ^ 8 → r.ccr.0 < 2 ^ 8
    → AreReady f r mem p ps → length (elements_of f p ps) ≡ suc d → AllShown h (rules_read f r p ps)
    → AllShown g (rules_written f p ps)
    → PartsTo k flags h g d (state_of r t mem) (rules_whole f flags r t mem p ps)
rules_are_whole k flags f r t w mem p ps d h g ff fc ready len shown kept =
    let sl = shown_left h (element_bytes f r.x (elements_of f p ps))
    (rules_named f (p ∷ ps) ++ weight_bytes (f.weighs r.ccr) r.y (p ∷ ps)) shown in
    let sr = shown_right h (element_bytes f r.x (elements_of f p ps))
    (rules_named f (p ∷ ps) ++ weight_bytes (f.weighs r.ccr) r.y (p ∷ ps)) shown in
    let sn = shown_left h (rules_named f (p ∷ ps)) (weight_bytes (f.weighs r.ccr) r.y (p ∷ ps)) sr in
    let sw = shown_right h (rules_named f (p ∷ ps)) (weight_bytes (f.weighs r.ccr) r.y (p ∷ ps)) sr in
    let run = rules_parts k flags f r t w ff h g (f.weighs r.ccr) r.ccr refl ps p r.x r.y r.ccr mem
    (λ z. refl) ready.rules ready.listed ready.weights ready.v
    (record { fits = fc; ends = refl; weighing = refl }) ready.list_stays ready.weights_stay sl sn sw kept in
    let many : count p ps ≡ d = (let e = count_length f p ps in omega arith) in
    let begin : at_rules r t 255 r.x r.y r.ccr mem ≡ state_of r t mem =
    ap (λ (n : ℕ). at_rules r t n r.x r.y r.ccr mem) (sym ready.a) in
    subst (λ (n : ℕ). PartsTo k flags h g n (state_of r t mem) (rules_whole f flags r t mem p ps)) many
    (subst (λ (s : State). PartsTo k flags h g (count p ps) s (rules_whole f flags r t mem p ps)) begin run)
