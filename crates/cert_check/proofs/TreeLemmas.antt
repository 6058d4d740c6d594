-- Cuts and halves of a box: each list of bytes of it lies in exactly one leaf of a tree over it.
use Rattle.std.proofs.Common.{◌≡◌, ℕ, zero, suc, ◌+◌, ◌-◌, ◌<◌, ◌≤◌, List, [], ◌∷◌, ◌++◌, length, map, take, Some}
use Rattle.std.proofs.Common.{None, refl, ap, subst, arith, Bool, true, false, ◌&&◌, sym, ap₂, ◌∙◌, length-append}
use Rattle.std.proofs.{lemmas.List.Elements.All-append, lemmas.Bool.Decides.nat_tests}
use Rattle.std.specs.Prelude.{slice_get, set, nat_le, if◌then◌else◌, All}
use Rattle.fuzzy_meaning.specs.{declared.block.Block.Block, declared.block.Input.Input}
use Rattle.error_bound.specs.{declared.boxes.Interval.Interval, Boxes.IsBox, Boxes.IsBoxOf, Boxes.LieIn}
use Rattle.cert_check.specs.Trees.{left_of, right_of, IsCut, whole, lies, Part, IsTree, leaf, split, leaves_with}
use Rattle.cert_check.specs.BoxLaws.{CutsHaveHalves, LeavesAreAround, IsLineOf, IsNodeOf}
use Rattle.cert_check.specs.{Laws.OneLeafHasTheBytes, Acceptance.HasBound}
use Rattle.box_tree.specs.declared.cert.Node.TheVariants.{Split, Leaf}
use Rattle.box_tree.specs.{declared.cert.CertKind.CertKind, declared.cert.Node.Node}
use Rattle.cert_check.proofs.FaultLemmas.{left_count, right_count, map_count}

-- a cut is inside the interval at its place
pub cut_at : (k c : ℕ) (box : List Interval) (v : Interval) → slice_get box k ≡ Some v → v.from < c → c ≤ v.to
    → IsCut k c box
cut_at k c [] v e f t = absurd (let z : ⊥ = cc in z)
cut_at zero c (w ∷ vs) v e f t =
    let s : w ≡ v = cc in
    let a : w.from ≡ v.from = ap (λ i. i.from) s in
    let b : w.to ≡ v.to = ap (λ i. i.to) s in
    (omega arith, omega arith)
cut_at (suc k) c (w ∷ vs) v e f t = cut_at k c vs v e f t

pub cut_inside : (k c : ℕ) (box : List Interval) (v : Interval) → slice_get box k ≡ Some v → IsCut k c box
    → (v.from < c) × (c ≤ v.to)
cut_inside k c [] v e h = absurd h
cut_inside zero c (w ∷ vs) v e h =
    let s : w ≡ v = cc in
    let a : w.from ≡ v.from = ap (λ i. i.from) s in
    let b : w.to ≡ v.to = ap (λ i. i.to) s in
    let h0 = h.0 in
    let h1 = h.1 in
    (omega arith, omega arith)
cut_inside (suc k) c (w ∷ vs) v e h = cut_inside k c vs v e h

pub cut_nowhere : (k c : ℕ) (box : List Interval) → slice_get box k ≡ None → IsCut k c box → ⊥
cut_nowhere k c [] e h = h
cut_nowhere zero c (w ∷ vs) e h = absurd (let z : ⊥ = cc in z)
cut_nowhere (suc k) c (w ∷ vs) e h = cut_nowhere k c vs e h

-- the halves are the box with another interval
pub set-left : (k c : ℕ) (box : List Interval) (v : Interval) → slice_get box k ≡ Some v
    → set box k (record { from = v.from; to = c - 1 }) ≡ left_of k c box
set-left k c [] v e = absurd (let z : ⊥ = cc in z)
set-left zero c (w ∷ vs) v e =
    let s : v ≡ w = cc in
    ap (λ (i : Interval). record { from = i.from; to = c - 1 } ∷ vs) s
set-left (suc k) c (w ∷ vs) v e = ap (λ xs. w ∷ xs) (set-left k c vs v e)

pub set-right : (k c : ℕ) (box : List Interval) (v : Interval) → slice_get box k ≡ Some v
    → set box k (record { from = c; to = v.to }) ≡ right_of k c box
set-right k c [] v e = absurd (let z : ⊥ = cc in z)
set-right zero c (w ∷ vs) v e =
    let s : v ≡ w = cc in
    ap (λ (i : Interval). record { from = c; to = i.to } ∷ vs) s
set-right (suc k) c (w ∷ vs) v e = ap (λ xs. w ∷ xs) (set-right k c vs v e)

-- each interval of a half has at least one byte
IsBox-tail : (w : Interval) (vs : List Interval) → IsBox (w ∷ vs) → IsBox vs
IsBox-tail w vs h = record { some = λ k v e. h.some (suc k) v e }

IsBox-cons : (w : Interval) (vs : List Interval) → w.from ≤ w.to → w.to ≤ 255 → IsBox vs → IsBox (w ∷ vs)
IsBox-cons w vs f t h = record { some = at }
  where
    at : (k : ℕ) (v : Interval) → slice_get (w ∷ vs) k ≡ Some v → (v.from ≤ v.to) × (v.to ≤ 255)
    at zero v e =
        let s : w ≡ v = cc in
        let a : w.from ≡ v.from = ap (λ i. i.from) s in
        let b : w.to ≡ v.to = ap (λ i. i.to) s in
        (omega arith, omega arith)
    at (suc k) v e = h.some k v e

IsBox-after : (w : Interval) (vs ws : List Interval) → IsBox (w ∷ vs) → IsBox ws → IsBox (w ∷ ws)
IsBox-after w vs ws b h = let o = b.some 0 w refl in IsBox-cons w ws o.0 o.1 h

pub IsBox-halves : (k c : ℕ) (box : List Interval) → IsBox box → IsCut k c box
    → IsBox (left_of k c box) × IsBox (right_of k c box)
IsBox-halves k c [] b h = (b, b)
IsBox-halves zero c (w ∷ vs) b h =
    let rest = IsBox-tail w vs b in
    let o = b.some 0 w refl in (
      IsBox-cons (record { from = w.from; to = c - 1 }) vs (omega (arith, h.0)) (omega (arith, h.0, h.1, o.1)) rest,
      IsBox-cons (record { from = c; to = w.to }) vs h.1 o.1 rest,
    )
IsBox-halves (suc k) c (w ∷ vs) b h =
    let r = IsBox-halves k c vs (IsBox-tail w vs b) h in
    (IsBox-after w vs (left_of k c vs) b r.0, IsBox-after w vs (right_of k c vs) b r.1)

whole_intervals : (is : List Input) (k : ℕ) (v : Interval)
    → slice_get (map (λ (_ : Input). record { from = 0; to = 255 }) is) k ≡ Some v → (v.from ≤ v.to) × (v.to ≤ 255)
whole_intervals [] k v e = absurd (let z : ⊥ = cc in z)
whole_intervals (i ∷ is) zero v e =
    let full : Interval = record { from = 0; to = 255 } in
    let s : full ≡ v = cc in
    let f : 0 ≡ v.from = ap (λ i. i.from) s in
    let t : 255 ≡ v.to = ap (λ i. i.to) s in
    (omega arith, omega arith)
whole_intervals (i ∷ is) (suc k) v e = whole_intervals is k v e

pub IsBox-whole : (is : List Input) → IsBox (map (λ (_ : Input). record { from = 0; to = 255 }) is)
IsBox-whole is = record { some = whole_intervals is }

-- all bytes of one input more
abbrev all_bytes : List Input → List Interval
all_bytes is = map (λ (_ : Input). record { from = 0; to = 255 }) is

suc_more : (is : List Input) (k : ℕ) → k < length is
    → take (suc k) (all_bytes is) ≡ take k (all_bytes is) ++ record { from = 0; to = 255 } ∷ []
suc_more [] k h = absurd (omega arith)
suc_more (i ∷ is) zero h = refl
suc_more (i ∷ is) (suc k) h = ap (λ xs. record { from = 0; to = 255 } ∷ xs) (suc_more is k (omega arith))

pub whole_more : (b : Block) (k : ℕ) → k < length b.inputs
    → take (k + 1) (whole b) ≡ take k (whole b) ++ record { from = 0; to = 255 } ∷ []
whole_more b k h = let e : suc k ≡ k + 1 = omega arith in subst
    (λ n. take n (whole b) ≡ take k (whole b) ++ record { from = 0; to = 255 } ∷ []) e (suc_more b.inputs k h)

-- ---- each list of bytes of a box lies in exactly one leaf of a tree over it

abbrev num : Bool → ℕ
num b = if b then 1 else 0

leaves_with-append : (bs : List ℕ) (ps qs : List Part)
    → leaves_with bs (ps ++ qs) ≡ leaves_with bs ps + leaves_with bs qs
leaves_with-append bs [] qs = omega arith
leaves_with-append bs (p ∷ ps) qs = let r = leaves_with-append bs ps qs in omega (arith, r)

one_cut : (f c t b : ℕ) (k : Bool) → f < c → c ≤ t
    → num (nat_le f b && (nat_le b t && k)) ≡ num (nat_le f b && (nat_le b (c - 1) && k)) + num
    (nat_le c b && (nat_le b t && k))
one_cut f c t b true h1 h2 = grind (arith, nat_tests)
one_cut f c t b false h1 h2 = grind (arith, nat_tests)

cut_num : (bs : List ℕ) (k c : ℕ) (x : List Interval) → IsCut k c x
    → num (lies bs x) ≡ num (lies bs (left_of k c x)) + num (lies bs (right_of k c x))
cut_num bs k c [] h = absurd h
cut_num [] zero c (s ∷ ss) h = refl
cut_num [] (suc k) c (s ∷ ss) h = refl
cut_num (b ∷ bs) zero c (s ∷ ss) h = one_cut s.from c s.to b (lies bs ss) h.0 h.1
cut_num (b ∷ bs) (suc k) c (s ∷ ss) h =
    let r = cut_num bs k c ss h in
    deeper (nat_le s.from b) (nat_le b s.to) (lies bs ss) (lies bs (left_of k c ss)) (lies bs (right_of k c ss)) r
  where
    deeper : (a a' k l m : Bool) → num k ≡ num l + num m
        → num (a && (a' && k)) ≡ num (a && (a' && l)) + num (a && (a' && m))
    deeper true true k l m e = e
    deeper true false k l m e = refl
    deeper false a' k l m e = refl

-- as many leaves hold the bytes as the box does: one, or none
covers : (bs : List ℕ) (box : List Interval) (nodes rest : List Node) (parts : List Part) → IsTree box nodes parts rest
    → leaves_with bs parts ≡ num (lies bs box)
covers bs box nodes rest parts (leaf box' stated rest') = omega arith
covers bs box nodes rest parts (split box' i c nodes' mid rest' left right h cut l r) =
    let a = covers bs (left_of (i - 1) c box') nodes' mid left l in
    let b = covers bs (right_of (i - 1) c box') mid rest' right r in
    let n = cut_num bs (i - 1) c box' cut in
    let e = leaves_with-append bs left right in
    e ∙ ap₂ (λ (u v : ℕ). u + v) a b ∙ sym n

pub one_leaf : OneLeafHasTheBytes
one_leaf box nodes rest parts bytes t h = covers bytes box nodes rest parts t ∙ ap num h

-- a leaf that has the bytes, with what holds of all leaves
pub leaf_with : (bs : List ℕ) (ps : List Part) (P : Part → Type 0) → 0 < leaves_with bs ps → All P ps
    → (p : Part) × (lies bs p.box ≡ true) × P p
leaf_with bs [] P h a = absurd (omega arith)
leaf_with bs (p ∷ ps) P h a =
    by_bool (lies bs p.box) refl (λ l. leaf_with bs ps P l (λ k d i. a (suc k) d (omega arith)))
  where
    by_bool : (c : Bool) → lies bs p.box ≡ c → (0 < leaves_with bs ps → (q : Part) × (lies bs q.box ≡ true) × P q)
        → (q : Part) × (lies bs q.box ≡ true) × P q
    by_bool true e f = (p, e, a 0 p (omega arith))
    by_bool false e f = f (let z : num (lies bs p.box) ≡ 0 = ap num e in omega (arith, z))

-- the two forms of lying in a box
three : (a b c : Bool) → (a && (b && c)) ≡ true → (a ≡ true) × (b ≡ true) × (c ≡ true)
three true true true h = (refl, refl, refl)
three true true false h = absurd (let z : ⊥ = cc in z)
three true false c h = absurd (let z : ⊥ = cc in z)
three false b c h = absurd (let z : ⊥ = cc in z)

lies_count : (bs : List ℕ) (x : List Interval) → lies bs x ≡ true → length bs ≡ length x
lies_count [] [] h = refl
lies_count [] (v ∷ vs) h = absurd (let z : ⊥ = cc in z)
lies_count (b ∷ bs) [] h = absurd (let z : ⊥ = cc in z)
lies_count (b ∷ bs) (v ∷ vs) h = let t = three (nat_le v.from b) (nat_le b v.to) (lies bs vs) h in
    ap suc (lies_count bs vs t.2)

lies_within : (bs : List ℕ) (x : List Interval) → lies bs x ≡ true → (k : ℕ) (v : Interval) (n : ℕ)
    → slice_get x k ≡ Some v → slice_get bs k ≡ Some n → (v.from ≤ n) × (n ≤ v.to)
lies_within bs [] h k v n ev en = absurd (let z : ⊥ = cc in z)
lies_within [] (w ∷ vs) h k v n ev en = absurd (let z : ⊥ = cc in z)
lies_within (b ∷ bs) (w ∷ vs) h (suc k) v n ev en =
    lies_within bs vs (three (nat_le w.from b) (nat_le b w.to) (lies bs vs) h).2 k v n ev en
lies_within (b ∷ bs) (w ∷ vs) h zero v n ev en =
    let t = three (nat_le w.from b) (nat_le b w.to) (lies bs vs) h in
    let t0 = t.0 in
    let t1 = t.1 in
    let a : w.from ≤ b = grind (arith, nat_tests) in
    let c : b ≤ w.to = grind (arith, nat_tests) in
    let e1 : w ≡ v = cc in
    let e2 : b ≡ n = cc in
    let f1 : w.from ≡ v.from = ap (λ i. i.from) e1 in
    let f2 : w.to ≡ v.to = ap (λ i. i.to) e1 in
    (omega arith, omega arith)

pub LieIn-lies : (bs : List ℕ) (x : List Interval) → lies bs x ≡ true → LieIn x bs
LieIn-lies bs x h = record { count = lies_count bs x h; within = lies_within bs x h }

-- ---- of all leaves

pub All-both : {X : Type 0} (P Q : X → Type 0) (xs : List X) → All P xs → All Q xs → All (λ x. P x × Q x) xs
All-both P Q xs p q k d l = (p k d l, q k d l)

pub one_of : {X : Type 0} (P : X → Type 0) (x : X) → P x → All P (x ∷ [])
one_of P x h zero d l = h
one_of P x h (suc k) d l = absurd (omega arith)

-- their boxes are boxes
pub whole_is : (b : Block) → IsBoxOf b (whole b)
whole_is b = record { count = map_count b.inputs; intervals = IsBox-whole b.inputs }

pub boxes_are : (b : Block) (box : List Interval) (nodes : List Node) (parts : List Part) (rest : List Node)
    → IsTree box nodes parts rest → IsBoxOf b box → All (λ p. IsBoxOf b p.box) parts
boxes_are b _ _ _ _ (leaf box stated rest) is = one_of (λ p. IsBoxOf b p.box) (record { box = box; stated = stated }) is
boxes_are b _ _ _ _ (split box i c nodes mid rest left right from cut l r) is =
    All-append (λ p. IsBoxOf b p.box) left right
    (boxes_are b (left_of (i - 1) c box) nodes left mid l
    (record {
      count = left_count (i - 1) c box ∙ is.count;
      intervals =
          (IsBox-halves (i - 1) c box is.intervals cut).0;
    }))
    (boxes_are b (right_of (i - 1) c box) mid right rest r
    (record {
      count = right_count (i - 1) c box ∙ is.count;
      intervals =
          (IsBox-halves (i - 1) c box is.intervals cut).1;
    }))

-- they are among the nodes
pub All-tail : {X : Type 0} (P : X → Type 0) (x : X) (xs : List X) → All P (x ∷ xs) → All P xs
All-tail P x xs all k d l = all (suc k) d (omega arith)

leaves_are : (P : Node → Type 0) (box : List Interval) (nodes : List Node) (parts : List Part) (rest : List Node)
    → IsTree box nodes parts rest → All P nodes → All (λ p. P (Leaf p.stated)) parts × All P rest
leaves_are P _ _ _ _ (leaf box stated rest) all = (
  one_of (λ (p : Part). P (Leaf p.stated)) (record { box = box; stated = stated }) (all 0 (Leaf stated) (omega arith)),
  All-tail P (Leaf stated) rest all,
)
leaves_are P _ _ _ _ (split box i c nodes mid rest left right from cut l r) all =
    let lower = leaves_are P (left_of (i - 1) c box) nodes left mid l (All-tail P (Split i c) nodes all) in
    let upper = leaves_are P (right_of (i - 1) c box) mid right rest r lower.1 in
    (All-append (λ (p : Part). P (Leaf p.stated)) left right lower.0 upper.0, upper.1)

pub lines_are : (P : Node → Type 0) (box : List Interval) (nodes : List Node) (parts : List Part) (rest : List Node)
    → IsTree box nodes parts rest → All P nodes → All (λ p. P (Leaf p.stated)) parts
lines_are P box nodes parts rest tree all = (leaves_are P box nodes parts rest tree all).0

-- ---- the halves of a box, and the leaf around a list of bytes

pub cuts_halved : CutsHaveHalves
cuts_halved box k c v e above below =
    let cut = cut_at k c box v e above below in
    record {
      cut = cut;
      left_is = set-left k c box v e;
      right_is = set-right k c box v e;
      left_box = λ is. (IsBox-halves k c box is cut).0;
      right_box = λ is. (IsBox-halves k c box is cut).1;
    }

lies_whole : (is : List Input) (bytes : List ℕ) → length bytes ≡ length is → All (λ n. n ≤ 255) bytes
    → lies bytes (map (λ (_ : Input). record { from = 0; to = 255 }) is) ≡ true
lies_whole [] [] count small = refl
lies_whole [] (n ∷ ns) count small = absurd (omega (arith, count))
lies_whole (i ∷ is) [] count small = absurd (omega (arith, count))
lies_whole (i ∷ is) (n ∷ ns) count small =
    let first : n ≤ 255 = small 0 n (omega arith) in
    let from : nat_le 0 n ≡ true = grind (arith, nat_tests) in
    let to : nat_le n 255 ≡ true = grind (arith, nat_tests) in
    let rest = lies_whole is ns (omega (arith, count)) (λ k d l. small (suc k) d (omega arith)) in
    rw (from, to) rest

pub leaf_around : LeavesAreAround
leaf_around b h cert errors o x e bytes a from ex ee count small =
    let l = lies_whole b.inputs bytes count small in
    let one = one_leaf (whole b) cert.nodes [] a.parts bytes a.tree l in
    let P : Part → Type 0 = λ p. IsBoxOf b p.box
    × (((k : CertKind) → All (IsNodeOf k) cert.nodes → IsLineOf k p.stated)
    × ((n : ℕ) × HasBound b o x h p n × (n ≤ e))) in
    let boxes = boxes_are b (whole b) cert.nodes a.parts [] a.tree (whole_is b) in
    let each = (a.greatest o x e from ex ee).each in
    let p = leaf_with bytes a.parts P (omega (arith, one)) (λ k d l. (
      boxes k d l,
      (
        λ kind all.
            lines_are (IsNodeOf kind) (whole b) cert.nodes a.parts [] a.tree all k d l,
        each k d l,
      ),
    )) in
    let bound = p.2.1.1.1 in
    let around = LieIn-lies bytes p.0.box p.1 in
    record {
      box = p.0.box;
      stated = p.0.stated;
      claim = bound.claim;
      bound = p.2.1.1.0;
      count = sym around.count ∙ count;
      is_box = p.2.0.intervals;
      around = around;
      of_kind = p.2.1.0;
      claim_is = bound.claim_is;
      bound_is = bound.bound_is;
      within = p.2.1.1.2;
    }

-- a tree has a leaf
pub some_leaf : (box : List Interval) (nodes : List Node) (parts : List Part) (rest : List Node) → IsTree box nodes parts rest
    → 0 < length parts
some_leaf _ _ _ _ (leaf box stated rest) = omega arith
some_leaf _ _ _ _ (split box i c nodes mid rest left right from cut l r) =
    let some = some_leaf (left_of (i - 1) c box) nodes left mid l in
    omega (arith, some, length-append left right)

-- one number for each of a list
pub listed : {X : Type 0} (P : ℕ → X → ℕ → Type 0) (xs : List X)
    → ((j : ℕ) (x : X) → slice_get xs j ≡ Some x → (e : ℕ) × P j x e)
    → (es : List ℕ) × (length es ≡ length xs)
    × ((j : ℕ) (x : X) (e : ℕ) → slice_get xs j ≡ Some x → slice_get es j ≡ Some e → P j x e)
listed {X} P [] each = ([], refl, λ j x e at here. absurd (let z : ⊥ = cc in z))
listed {X} P (x ∷ xs) each =
    let first = each 0 x refl in
    let rest = listed (λ j. P (suc j)) xs (λ j y at. each (suc j) y at) in
    (first.0 ∷ rest.0, ap suc rest.1, at first.0 rest.0 first.1 rest.2)
  where
    at : (e : ℕ) (es : List ℕ) → P 0 x e
        → ((j : ℕ) (y : X) (d : ℕ) → slice_get xs j ≡ Some y → slice_get es j ≡ Some d → P (suc j) y d)
        → (j : ℕ) (y : X) (d : ℕ) → slice_get (x ∷ xs) j ≡ Some y → slice_get (e ∷ es) j ≡ Some d → P j y d
    at e es first rest zero y d here there =
        let same : x ≡ y = cc in
        let alike : e ≡ d = cc in
        subst (P 0 y) alike (subst (λ z. P 0 z e) same first)
    at e es first rest (suc j) y d here there = rest j y d here there
