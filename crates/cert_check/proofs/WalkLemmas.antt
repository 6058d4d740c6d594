-- How far a walk over the nodes has come, from its first moment on, a node more, and at its last.
use Rattle.std.proofs.Common.{◌≡◌, ⊎_elim, inl, inr, ℕ, zero, suc, ◌+◌, ◌-◌, ◌*◌, ◌<◌, ◌≤◌, List, [], ◌∷◌, ◌++◌}
use Rattle.std.proofs.Common.{length, length-append, get_or, map, reverse, replicate, Some, refl, sym, ap, ◌∙◌, subst}
use Rattle.std.proofs.lemmas.List.{append_assoc, append-nil, reverse-append, length-map, length-reverse, with_items_is}
use Rattle.std.proofs.lemmas.Option.{get_or_from_slice_get, slice_get_within}
use Rattle.std.proofs.Common.{arith, None, vec_capacity, false, Option}
use Rattle.std.proofs.{lemmas.List.Elements.All-append, Math.Seq.get_or-append_seam, lemmas.Bool.cases_lt}
use Rattle.std.specs.Prelude.{slice_index, All, max, Result, Ok, Err, OnOk, IfErr, MatchOption}
use Rattle.std.specs.{Vec.with_items, Option.is_some, Global.Vec, List.Any}
use Rattle.fuzzy_meaning.specs.{declared.block.Output.Output, declared.block.Block.Block, declared.block.Input.Input}
use Rattle.error_bound.specs.{declared.boxes.Interval.Interval, declared.boxes.ByteBox.ByteBox, Boxes.IsBoxOf}
use Rattle.box_tree.specs.Certificates.{IsLeaf, IsNode, IsCut as IsNodeCut}
use Rattle.box_tree.specs.declared.cert.Node.TheVariants.{Split, Leaf}
use Rattle.box_tree.specs.{declared.cert.LeafLine.LeafLine, declared.cert.CertKind.CertKind, declared.cert.Node.Node}
use Rattle.box_tree.specs.{Trees.open_from, Trees.leaf_count, Laws.OpenBoxesGoOn}
use Rattle.byte_scaling.specs.Widths.{parts as parts_of}
use Rattle.cert_check.specs.Walks.{HasWalkFault, AreWalkErrors}
use Rattle.cert_check.specs.Faults.{AllHold, HasPartFault, AreClaimed, HasCheckFault, Reaches, line_at, root, in_left}
use Rattle.cert_check.specs.Walks.{stack_of, Raises, cuts_of, AreCutOut, AreTrees, AreReached, IsGreatestSoFar}
use Rattle.cert_check.specs.Trees.{Part, IsTree, leaf, split, part_of, left_of, right_of, IsCut, whole}
use Rattle.cert_check.specs.Faults.{in_right, bad_cut, bad_leaf, tree, IsFirstOver, outputs, claimed}
use Rattle.cert_check.specs.Walks.{HasWalked, cert_over, IsBehind, HasTaken, AreFirst}
use Rattle.cert_check.specs.Acceptance.{HasBound, IsGreatestBound, IsAccepted}
use Rattle.cert_check.specs.{declared.checker.CheckFault.CheckFault, declared.walk.Walk.Walk}
use Rattle.cert_check.proofs.TreeLemmas.{IsBox-halves, All-tail, one_of, whole_is}
use Rattle.cert_check.proofs.{FaultLemmas.left_count, FaultLemmas.right_count, LeafLemmas.bounds_hold}
use Rattle.fz_list.proofs.Algebra.{All-cons}
use Rattle.cert_check.specs.declared.checker.CheckFault.TheVariants as fault

trees_split : (box : List Interval) (boxes : List (List Interval)) (i c : ℕ) (nodes : List Node) (parts : List Part)
    (rest : List Node) → 1 ≤ i → IsCut (i - 1) c box
    → AreTrees (left_of (i - 1) c box ∷ right_of (i - 1) c box ∷ boxes) nodes parts rest
    → AreTrees (box ∷ boxes) (Split i c ∷ nodes) parts rest
trees_split box boxes i c nodes parts rest some cut (ql, rl, mid, tl, (qr, rr, mid', tr, more, e'), e) = (
  ql ++ qr,
  rr,
  mid',
  split box i c nodes mid mid' ql qr some cut tl tr,
  more,
  e ∙ ap (λ (xs : List Part). ql ++ xs) e' ∙
      sym (append_assoc ql qr rr),
)

trees_one : (box : List Interval) (nodes : List Node) (parts : List Part) → AreTrees (box ∷ []) nodes parts []
    → IsTree box nodes parts []
trees_one box nodes parts (ps, qs, mid, t, (none, end), e) =
    let same : ps ≡ parts = sym (e ∙ ap (λ (xs : List Part). ps ++ xs) none ∙ append-nil ps) in
    subst (λ xs. IsTree box nodes xs []) same (subst (λ m. IsTree box nodes ps m) end t)

reached_split : (b : Block) (h : ℕ) (box : List Interval) (boxes : List (List Interval)) (i c : ℕ) (nodes : List Node)
    (found : List Interval) (rest : List Node) → 1 ≤ i → IsCut (i - 1) c box
    → AreReached b h (left_of (i - 1) c box ∷ right_of (i - 1) c box ∷ boxes) nodes found rest
    → AreReached b h (box ∷ boxes) (Split i c ∷ nodes) found rest
reached_split b h box boxes i c nodes found rest some cut (inl t) = inl (in_left box i c nodes found rest some cut t)
reached_split b h box boxes i c nodes found rest some cut (inr (ps, mid, t, hold, inl u)) = inl
    (in_right box i c nodes mid ps found rest some cut t hold u)
reached_split b h box boxes i c nodes found rest some cut (inr (ps, mid, t, hold, inr (qs, mid', u, also, more))) =
    inr (
      ps ++ qs,
      mid',
      split box i c nodes mid mid' ps qs some cut t u,
      All-append (AllHold b h) ps qs hold also,
      more,
    )

reached_leaf : (b : Block) (h : ℕ) (box : List Interval) (boxes : List (List Interval)) (stated : LeafLine)
    (nodes : List Node) (found : List Interval) (rest : List Node) → AllHold b h (part_of box stated)
    → AreReached b h boxes nodes found rest → AreReached b h (box ∷ boxes) (Leaf stated ∷ nodes) found rest
reached_leaf b h box boxes stated nodes found rest hold more = inr
    (part_of box stated ∷ [], nodes, leaf box stated nodes, one_of (AllHold b h) (part_of box stated) hold, more)

pub Any-left : {X : Type 0} (P : X → Type 0) (xs ys : List X) → Any P xs → Any P (xs ++ ys)
Any-left P [] ys (k, x, l, e, p) = absurd (omega arith)
Any-left P (z ∷ xs) ys (zero, x, l, e, p) = (zero, x, omega arith, e, p)
Any-left P (z ∷ xs) ys (suc k, x, l, e, p) = let r = Any-left P xs ys (k, x, omega arith, e, p) in let l' = r.2 in
    (suc r.0, r.1, omega arith, r.3, r.4)

Any-last : {X : Type 0} (P : X → Type 0) (xs : List X) (y : X) → P y → Any P (xs ++ y ∷ [])
Any-last P [] y p = (zero, y, omega arith, refl, p)
Any-last P (z ∷ xs) y p = let r = Any-last P xs y p in let l = r.2 in (suc r.0, r.1, omega arith, r.3, r.4)

All-weaken : {X : Type 0} (P Q : X → Type 0) (xs : List X) → ((x : X) → P x → Q x) → All P xs → All Q xs
All-weaken P Q xs f a k d l = f (get_or xs k d) (a k d l)

greatest_more : (b : Block) (o : ℕ) (x : Output) (h : ℕ) (parts : List Part) (p : Part) (e n : ℕ) → HasBound b o x h p n
    → IsGreatestSoFar b o x h parts e → IsGreatestSoFar b o x h (parts ++ p ∷ []) (max e n)
greatest_more b o x h parts p e n bound g = record {
  each = All-append (λ q. (m : ℕ) × HasBound b o x h q m × (m ≤ max e n)) parts (p ∷ [])
      (All-weaken (λ q. (m : ℕ) × HasBound b o x h q m × (m ≤ e)) (λ q. (m : ℕ) × HasBound b o x h q m × (m ≤ max e n))
      parts (λ q w. let l = w.2 in (w.0, w.1, omega arith)) g.each)
      (one_of (λ q. (m : ℕ) × HasBound b o x h q m × (m ≤ max e n)) p (n, bound, omega arith));
  some = λ z. ⊎_elim
      (λ (l : n < e). let s : e ≡ max e n = omega arith in
      subst (λ m. Any (λ q. HasBound b o x h q m) (parts ++ p ∷ [])) s
      (Any-left (λ q. HasBound b o x h q e) parts (p ∷ []) (g.some (omega arith))))
      (λ (l : e ≤ n). let s : n ≡ max e n = omega arith in
      subst (λ m. Any (λ q. HasBound b o x h q m) (parts ++ p ∷ [])) s
      (Any-last (λ q. HasBound b o x h q n) parts p bound))
      (cases_lt n e);
}

greatest_all : (b : Block) (o : ℕ) (x : Output) (h : ℕ) (parts : List Part) (e : ℕ) → 1 ≤ length parts
    → IsGreatestSoFar b o x h parts e → IsGreatestBound b o x h parts e
greatest_all b o x h parts (suc e) l g = record { each = g.each; some = g.some (omega arith) }
greatest_all b o x h [] zero l g = absurd (omega arith)
greatest_all b o x h (p ∷ parts) zero l g =
    let w : (n : ℕ) × HasBound b o x h p n × (n ≤ 0) = g.each 0 p (omega arith) in
    let l = w.2 in
    let z : w.0 ≡ 0 = omega arith in
    record { each = g.each; some = (0, p, omega arith, refl, subst (λ m. HasBound b o x h p m) z w.1) }

All-head : {X : Type 0} (P : X → Type 0) (x : X) (xs : List X) → All P (x ∷ xs) → P x
All-head P x xs a = a 0 x (omega arith)

zero_at : (n k : ℕ) → slice_index (replicate {A = ℕ} n 0) k ≡ 0
zero_at zero k = refl
zero_at (suc n) zero = refl
zero_at (suc n) (suc k) = zero_at n k

zeros_count : (n : ℕ) → length {A = ℕ} (replicate n 0) ≡ n
zeros_count zero = refl
zeros_count (suc n) = ap suc (zeros_count n)

-- each cut of a box leaves one less for its halves
cuts-left : (k c : ℕ) (box : List Interval) → IsCut k c box → cuts_of (left_of k c box) + 1 ≤ cuts_of box
cuts-left k c [] h = absurd h
cuts-left zero c (v ∷ vs) h = let h0 = h.0 in let h1 = h.1 in omega arith
cuts-left (suc k) c (v ∷ vs) h = let r = cuts-left k c vs h in omega (arith, r)

cuts-right : (k c : ℕ) (box : List Interval) → IsCut k c box → cuts_of (right_of k c box) + 1 ≤ cuts_of box
cuts-right k c [] h = absurd h
cuts-right zero c (v ∷ vs) h = let h0 = h.0 in let h1 = h.1 in omega arith
cuts-right (suc k) c (v ∷ vs) h = let r = cuts-right k c vs h in omega (arith, r)

cuts-whole : (is : List Input) → cuts_of (map (λ (_ : Input). record { from = 0; to = 255 }) is) ≡ 255 * length is
cuts-whole [] = refl
cuts-whole (i ∷ is) = let r = cuts-whole is in omega (arith, r)

-- no more boxes are open than cuts made them
pub few_boxes : (boxes : List (List Interval)) → AreCutOut boxes → length boxes ≤ 2041
few_boxes [] c = omega arith
few_boxes (box ∷ boxes) c = let c0 = c.0 in omega (arith, c0)

pub few_below : (box : List Interval) (boxes : List (List Interval)) (k c : ℕ) → AreCutOut (box ∷ boxes) → IsCut k c box
    → length boxes ≤ 2039
few_below box boxes k c a cut = let a0 = a.0 in let l = cuts-left k c box cut in omega (arith, a0, l)

-- the walk before the first node, and behind one more
pub walked_none : (b : Block) (h : ℕ) → length b.inputs ≤ 8
    → HasWalked b h [] (whole b ∷ []) (replicate (length b.outputs) 0)
walked_none b h few = record {
  are_boxes = one_of (IsBoxOf b) (whole b) (whole_is b);
  cut_out = (let e = cuts-whole b.inputs in omega (arith, e, few), tt);
  open_count = refl;
  parts = [];
  trees = λ rest ps t. t;
  reached = λ rest found after r. r;
  count = zeros_count (length b.outputs);
  greatest = λ k x e. record {
    each = λ j d l. absurd (omega arith);
    some = λ l. let z = zero_at (length b.outputs) k in
        absurd (omega (arith, z, l));
  };
}

pub walked_split : (b : Block) (h : ℕ) (nodes : List Node) (box : List Interval) (boxes : List (List Interval))
    (errors : List ℕ) (i c : ℕ) → OpenBoxesGoOn → 1 ≤ i → IsCut (i - 1) c box → HasWalked b h nodes (box ∷ boxes) errors
    → HasWalked b h (nodes ++ Split i c ∷ []) (left_of (i - 1) c box ∷ right_of (i - 1) c box ∷ boxes) errors
walked_split b h nodes box boxes errors i c goes_on some cut w =
    let this : IsBoxOf b box = All-head (IsBoxOf b) box boxes w.are_boxes in
    let left : IsBoxOf b (left_of (i - 1) c box) = record
    { count = left_count (i - 1) c box ∙ this.count; intervals = (IsBox-halves (i - 1) c box this.intervals cut).0 } in
    let right : IsBoxOf b (right_of (i - 1) c box) = record
    { count = right_count (i - 1) c box ∙ this.count; intervals = (IsBox-halves (i - 1) c box this.intervals cut).1 } in
    let c0 = w.cut_out.0 in
    let l = cuts-left (i - 1) c box cut in
    let r = cuts-right (i - 1) c box cut in
    record {
      are_boxes = All-cons (IsBoxOf b) (left_of (i - 1) c box) (right_of (i - 1) c box ∷ boxes) left
          (All-cons (IsBoxOf b) (right_of (i - 1) c box) boxes right (All-tail (IsBoxOf b) box boxes w.are_boxes));
      cut_out = (omega (arith, c0, l), (omega (arith, c0, r), w.cut_out.1));
      open_count = goes_on 1 (length (box ∷ boxes)) nodes (Split i c ∷ []) w.open_count;
      parts = w.parts;
      trees = λ rest ps t. subst (λ ns. AreTrees (whole b ∷ []) ns (w.parts ++ ps) [])
          (sym (append_assoc nodes (Split i c ∷ []) rest))
          (w.trees (Split i c ∷ rest) ps (trees_split box boxes i c rest ps [] some cut t));
      reached = λ rest found after r. subst (λ ns. AreReached b h (whole b ∷ []) ns found after)
          (sym (append_assoc nodes (Split i c ∷ []) rest))
          (w.reached (Split i c ∷ rest) found after (reached_split b h box boxes i c rest found after some cut r));
      count = w.count;
      greatest = w.greatest;
    }

pub walked_leaf : (b : Block) (h : ℕ) (nodes : List Node) (box : List Interval) (boxes : List (List Interval))
    (errors new : List ℕ) (stated : LeafLine) → OpenBoxesGoOn → Raises b h (part_of box stated) errors new
    → HasWalked b h nodes (box ∷ boxes) errors → HasWalked b h (nodes ++ Leaf stated ∷ []) boxes new
walked_leaf b h nodes box boxes errors new stated goes_on raises w =
    let p = part_of box stated in
    let hold = bounds_hold b h p raises.bounds raises.are_bounds in
    record {
      are_boxes = All-tail (IsBoxOf b) box boxes w.are_boxes;
      cut_out = w.cut_out.1;
      open_count = goes_on 1 (length (box ∷ boxes)) nodes (Leaf stated ∷ []) w.open_count;
      parts = w.parts ++ p ∷ [];
      trees = λ rest ps t. subst (λ ns. AreTrees (whole b ∷ []) ns ((w.parts ++ p ∷ []) ++ ps) [])
          (sym (append_assoc nodes (Leaf stated ∷ []) rest))
          (subst (λ xs. AreTrees (whole b ∷ []) (nodes ++ Leaf stated ∷ rest) xs [])
          (sym (append_assoc w.parts (p ∷ []) ps))
          (w.trees (Leaf stated ∷ rest) (p ∷ ps) (p ∷ [], ps, rest, leaf box stated rest, t, refl)));
      reached = λ rest found after r. subst (λ ns. AreReached b h (whole b ∷ []) ns found after)
          (sym (append_assoc nodes (Leaf stated ∷ []) rest))
          (w.reached (Leaf stated ∷ rest) found after (reached_leaf b h box boxes stated rest found after hold r));
      count = raises.raised.count ∙ w.count;
      greatest = λ k x e.
          let within = slice_get_within b.outputs k x e in
          let errors_count = w.count in
          let rises = raises.raised.each k (omega (arith, within, errors_count)) in
          subst (λ m. IsGreatestSoFar b (k + 1) x h (w.parts ++ p ∷ []) m) (sym rises)
          (greatest_more b (k + 1) x h w.parts p (slice_index errors k) (slice_index raises.bounds k)
          (raises.are_bounds k x e) (w.greatest k x e));
    }

tree_some : (box : List Interval) (nodes rest : List Node) (parts : List Part) → IsTree box nodes parts rest
    → 1 ≤ length parts
tree_some box nodes rest parts (leaf x stated r) = omega arith
tree_some box nodes rest parts (split x i c n m r left right some cut tl tr) =
    let l = tree_some (left_of (i - 1) c x) n m
    left tl in some_more left right l
  where
    some_more : (xs ys : List Part) → 1 ≤ length xs → 1 ≤ length (xs ++ ys)
    some_more [] ys h = absurd (omega arith)
    some_more (x ∷ xs) ys h = omega arith

-- at the end a certificate that claims no less than the errors is accepted
accepted_all : (b : Block) (h : ℕ) (nodes : List Node) (boxes : List (List Interval)) (claims errors : List ℕ)
    → boxes ≡ []
    → length claims ≡ length b.outputs → AreClaimed errors claims → HasWalked b h nodes boxes errors
    → IsAccepted b h (record { claims = claims; nodes = nodes }) errors
accepted_all b h nodes (box ∷ boxes) claims errors none count within w = absurd (let z : ⊥ = cc in z)
accepted_all b h nodes [] claims errors none count within w =
    let front : AreTrees (whole b ∷ []) nodes w.parts [] =
    subst (λ ns. AreTrees (whole b ∷ []) ns w.parts []) (append-nil nodes)
    (subst (λ ps. AreTrees (whole b ∷ []) (nodes ++ []) ps []) (append-nil w.parts) (w.trees [] [] (refl, refl))) in
    let tree : IsTree (whole b) nodes w.parts [] = trees_one (whole b) nodes w.parts front in
    record {
      claims_count = count;
      errors_count = w.count;
      parts = w.parts;
      tree = tree;
      greatest = λ o x e from ex ee.
          let ko : o - 1 + 1 ≡ o = omega arith in
          let s : slice_index errors (o - 1) ≡ e = get_or_from_slice_get errors (o - 1) e 0 ee in
          greatest_all b o x h w.parts e (tree_some (whole b) nodes [] w.parts tree)
          (subst (λ j. IsGreatestSoFar b j x h w.parts e) ko
          (subst (λ m. IsGreatestSoFar b (o - 1 + 1) x h w.parts m) s (w.greatest (o - 1) x ex)));
      claimed = within;
    }

no_boxes : (boxes : List (List Interval)) → length boxes ≡ 0 → boxes ≡ []
no_boxes [] e = refl
no_boxes (box ∷ boxes) e = absurd (omega arith)

pub walked_all : (b : Block) (h : ℕ) (nodes : List Node) (boxes : List (List Interval)) (claims errors : List ℕ)
    → open_from 1 nodes ≡ Some 0 → length claims ≡ length b.outputs → AreClaimed errors claims
    → HasWalked b h nodes boxes errors
    → IsAccepted b h (record { claims = claims; nodes = nodes }) errors
walked_all b h nodes boxes claims errors is_tree count within w =
    let opens : Some (length boxes) ≡ Some 0 = sym w.open_count ∙ is_tree in
    accepted_all b h nodes boxes claims errors (no_boxes boxes (let e : length boxes ≡ 0 = cc in e)) count within w

-- the next open box begins with the node that comes
walked_to : (b : Block) (h : ℕ) (nodes : List Node) (box : List Interval) (boxes : List (List Interval))
    (errors : List ℕ) (rest : List Node)
    → HasWalked b h nodes (box ∷ boxes) errors → Reaches b h (whole b) (nodes ++ rest) box rest
walked_to b h nodes box boxes errors rest w = first (w.reached rest box rest (inl (root box rest)))
  where
    first : AreReached b h (whole b ∷ []) (nodes ++ rest) box rest → Reaches b h (whole b) (nodes ++ rest) box rest
    first (inl r) = r
    first (inr (ps, mid, t, hold, none)) = absurd none

line-here : (nodes rest : List Node) (node : Node) → line_at (nodes ++ node ∷ rest) (node ∷ rest) ≡ length nodes + 3
line-here nodes rest node = let l = length-append nodes (node ∷ rest) in omega (arith, l)

module _ (b : Block) (h : ℕ) (claims : List ℕ) (nodes : List Node) (box : List Interval) (boxes : List (List Interval))
    (errors : List ℕ)
    (line : ℕ) (rest : List Node) (count : length claims ≡ length b.outputs) (at : line ≡ length nodes + 3)
    (w : HasWalked b h nodes (box ∷ boxes) errors) where
  pub cut_fault : (i c : ℕ) → (IsCut (i - 1) c box → ⊥)
      → HasCheckFault b h (record { claims = claims; nodes = nodes ++ Split i c ∷ rest }) (fault.BadCut line)
  cut_fault i c none =
      let same = at ∙ sym (line-here nodes rest (Split i c)) in
      subst (λ n. HasCheckFault b h (record { claims = claims; nodes = nodes ++ Split i c ∷ rest }) (fault.BadCut n))
      (sym same)
      (tree (fault.BadCut (line_at (nodes ++ Split i c ∷ rest) (Split i c ∷ rest))) count
      (bad_cut box i c rest (walked_to b h nodes box boxes errors (Split i c ∷ rest) w) none))

  pub leaf_fault : (stated : LeafLine) (f : CheckFault) → HasPartFault b h (part_of box stated) line f
      → HasCheckFault b h (record { claims = claims; nodes = nodes ++ Leaf stated ∷ rest }) f
  leaf_fault stated f part =
      let same = at ∙ sym (line-here nodes rest (Leaf stated)) in
      tree f count (bad_leaf box stated rest f (walked_to b h nodes box boxes errors (Leaf stated ∷ rest) w)
      (subst (λ n. HasPartFault b h (part_of box stated) n f) same part))

-- as many nodes as leaves and boxes ask for
nodes_count : (n m : ℕ) (nodes : List Node) → open_from n nodes ≡ Some m → length nodes + n ≡ 2 * leaf_count nodes + m
nodes_count n m [] e = let s : n ≡ m = cc in omega arith
nodes_count zero m (node ∷ nodes) e = absurd (let z : ⊥ = cc in z)
nodes_count (suc n) m (Split i c ∷ nodes) e = let r = nodes_count (suc (suc n)) m nodes e in omega (arith, r)
nodes_count (suc n) m (Leaf stated ∷ nodes) e = let r = nodes_count n m nodes e in omega (arith, r)

stack-last : (boxes : List ByteBox) (x : ByteBox) → stack_of (boxes ++ x ∷ []) ≡ x.0.items ∷ stack_of boxes
stack-last boxes x = ap (λ (xs : List ByteBox). map (λ (y : ByteBox). y.0.items) xs) (reverse-append boxes (x ∷ []))

pub stack-pop : (boxes left : List ByteBox) (x : ByteBox) → boxes ≡ left ++ x ∷ []
    → stack_of boxes ≡ x.0.items ∷ stack_of left
stack-pop boxes left x popped = ap stack_of popped ∙ stack-last left x

pub leaves-front : (nodes more : List Node) → leaf_count nodes ≤ leaf_count (nodes ++ more)
leaves-front [] more = omega arith
leaves-front (Split i c ∷ nodes) more = leaves-front nodes more
leaves-front (Leaf stated ∷ nodes) more = let l = leaves-front nodes more in omega (arith, l)

-- the lines of a walk that has met no fault are few
pub few_lines : (b : Block) (h : ℕ) (nodes more : List Node) (boxes : List (List Interval)) (errors : List ℕ)
    → leaf_count (nodes ++ more) ≤ 4096
    → HasWalked b h nodes boxes errors → length nodes ≤ 10232
few_lines b h nodes more boxes errors few w =
    let c = nodes_count 1 (length boxes) nodes w.open_count in
    let l = leaves-front nodes more in
    let k = few_boxes boxes w.cut_out in
    omega (arith, c, l, k, few)

-- where a node may follow, a box is open
pub some_open : (b : Block) (h n : ℕ) (nodes : List Node) (node : Node) (errors : List ℕ) → OpenBoxesGoOn
    → open_from 1 (nodes ++ node ∷ []) ≡ Some n
    → HasWalked b h nodes [] errors → ⊥
some_open b h n nodes node errors goes_on opens w =
    let none : open_from 0 (node ∷ []) ≡ Some n = sym (goes_on 1 0 nodes (node ∷ []) w.open_count) ∙ opens in
    cc

pub stack-length : (boxes : List ByteBox) → length (stack_of boxes) ≡ length boxes
stack-length boxes = length-map (reverse boxes) (λ (x : ByteBox). x.0.items) ∙ length-reverse boxes

-- ---- a walk that takes one more node

-- the node that was added is that of a certificate
last_good : (width : ℕ) (nodes : List Node) (node : Node) → AreFirst width (nodes ++ node ∷ [])
    → (kind : CertKind) × IsNode kind width node
last_good width nodes node first =
    subst (λ n. (kind : CertKind) × IsNode kind width n) (get_or-append_seam nodes node [] node)
    (first.good (length nodes) node (let l = length-append nodes (node ∷ []) in omega (arith, l)))

line_more : (nodes : List Node) (node : Node) (line : ℕ) → line ≡ length nodes + 3
    → line + 1 ≡ length (nodes ++ node ∷ []) + 3
line_more nodes node line at = let l = length-append nodes (node ∷ []) in omega (arith, l, at)

module _ (w : Walk) (bytes : ByteBox) (left : Vec ByteBox) (popped : w.boxes.items ≡ left.items ++ bytes ∷ []) where
  at_box : (nodes : List Node) → IsBehind nodes w
      → HasWalked w.table.block.now (parts_of w.table.width) nodes (bytes.0.items ∷ stack_of left.items) w.errors.items
  at_box nodes behind =
      subst (λ s. HasWalked w.table.block.now (parts_of w.table.width) nodes s w.errors.items)
      (stack-pop w.boxes.items left.items bytes popped) behind.walked

  pub next_box : (nodes : List Node) → IsBehind nodes w → IsBoxOf w.table.block.now bytes.0.items
  next_box nodes behind = (at_box nodes behind).are_boxes 0 bytes.0.items (omega arith)

  module _ (i c : ℕ) (node : Node) (is : node ≡ Split i c) where
    input_is_some : (nodes : List Node) → AreFirst (length w.claims.now) (nodes ++ node ∷ []) → 1 ≤ i
    input_is_some nodes first =
        let good = last_good (length w.claims.now) nodes node first in
        let cut : IsNodeCut i c = subst (IsNode good.0 (length w.claims.now)) is good.1 in
        cut.some

    pub split_behind : {A : Type 0} (boxes : Vec ByteBox) (r : Result A CheckFault) → OpenBoxesGoOn
        → OnOk r (IsCut (i - 1) c bytes.0.items)
        → OnOk r (stack_of boxes.items ≡ left_of (i - 1) c bytes.0.items ∷ right_of (i - 1) c bytes.0.items
        ∷ stack_of left.items)
        → 2041 ≤ vec_capacity boxes
        → OnOk r ((nodes : List Node) → IsBehind nodes w → AreFirst (length w.claims.now) (nodes ++ node ∷ [])
        → IsBehind (nodes ++ node ∷ []) (record w { boxes = boxes; line = w.line + 1 }))
    split_behind boxes (Err f) goes_on cut stack room = tt
    split_behind boxes (Ok u) goes_on cut stack room = λ nodes behind first. record {
      claims_count = behind.claims_count;
      walked = subst (λ s. HasWalked w.table.block.now (parts_of w.table.width) (nodes ++ node ∷ []) s w.errors.items) (sym stack)
          (subst (λ n. HasWalked w.table.block.now (parts_of w.table.width) (nodes ++ n ∷ [])
          (left_of (i - 1) c bytes.0.items ∷ right_of (i - 1) c bytes.0.items ∷ stack_of left.items) w.errors.items)
          (sym is)
          (walked_split w.table.block.now (parts_of w.table.width) nodes bytes.0.items (stack_of left.items) w.errors.items i c goes_on
          (input_is_some nodes first) cut (at_box nodes behind)));
      line = line_more nodes node w.line behind.line;
      room = room;
    }

    pub split_fault : {A : Type 0} (r : Result A CheckFault)
        → IfErr r (λ f. (f ≡ fault.BadCut w.line) × (IsCut (i - 1) c bytes.0.items → ⊥))
        → IfErr r (λ f. (nodes rest : List Node) → IsBehind nodes w
        → AreFirst (length w.claims.now) (nodes ++ node ∷ [])
        → HasWalkFault w (nodes ++ node ∷ rest) f)
    split_fault (Ok u) h = tt
    split_fault (Err f) h = λ nodes rest behind first.
        subst (λ g. HasWalkFault w (nodes ++ node ∷ rest) g) (sym h.0)
        (subst (λ n. HasWalkFault w (nodes ++ n ∷ rest) (fault.BadCut w.line)) (sym is)
        (cut_fault w.table.block.now (parts_of w.table.width) w.claims.now nodes bytes.0.items (stack_of left.items) w.errors.items w.line rest
        behind.claims_count behind.line (at_box nodes behind) i c h.1))

  module _ (stated : LeafLine) (node : Node) (is : node ≡ Leaf stated) where
    pub line_is_good : (nodes : List Node) → IsBehind nodes w → AreFirst (length w.claims.now) (nodes ++ node ∷ [])
        → (kind : CertKind) × IsLeaf kind (length w.table.block.now.outputs) stated
    line_is_good nodes behind first =
        let good = last_good (length w.claims.now) nodes node first in (
          good.0,
          subst (λ n. IsLeaf good.0 n stated) behind.claims_count
              (subst (IsNode good.0 (length w.claims.now)) is good.1),
        )

    pub leaf_behind : {A : Type 0} (old errors : List ℕ) (r : Result A CheckFault) → OpenBoxesGoOn
        → old ≡ w.errors.items
        → OnOk r (Raises w.table.block.now (parts_of w.table.width) (part_of bytes.0.items stated) old errors)
        → vec_capacity left ≡ vec_capacity w.boxes
        → OnOk r ((nodes : List Node) → IsBehind nodes w → AreFirst (length w.claims.now) (nodes ++ node ∷ [])
        → IsBehind (nodes ++ node ∷ [])
        (record w { boxes = left; errors = with_items w.errors errors; line = w.line + 1 }))
    leaf_behind old errors (Err f) goes_on held raises room = tt
    leaf_behind old errors (Ok u) goes_on held raises room = λ nodes behind first.
        let raised : Raises w.table.block.now (parts_of w.table.width) (part_of bytes.0.items stated) w.errors.items errors =
        subst (λ es. Raises w.table.block.now (parts_of w.table.width) (part_of bytes.0.items stated) es errors) held raises in
        record {
          claims_count = behind.claims_count;
          walked = subst (λ es. HasWalked w.table.block.now (parts_of w.table.width) (nodes ++ node ∷ []) (stack_of left.items) es)
              (sym (with_items_is w.errors errors (raised.raised.count ∙ sym w.errors.ok.0)))
              (subst (λ n. HasWalked w.table.block.now (parts_of w.table.width) (nodes ++ n ∷ []) (stack_of left.items) errors) (sym is)
              (walked_leaf w.table.block.now (parts_of w.table.width) nodes bytes.0.items (stack_of left.items) w.errors.items errors stated
              goes_on raised (at_box nodes behind)));
          line = line_more nodes node w.line behind.line;
          room = let r = behind.room in omega (arith, r, room);
        }

    pub fault_met : {A : Type 0} (r : Result A CheckFault)
        → IfErr r (HasPartFault w.table.block.now (parts_of w.table.width) (part_of bytes.0.items stated) w.line)
        → IfErr r (λ f. (nodes rest : List Node) → IsBehind nodes w
        → AreFirst (length w.claims.now) (nodes ++ node ∷ [])
        → HasWalkFault w (nodes ++ node ∷ rest) f)
    fault_met (Ok u) h = tt
    fault_met (Err f) h = λ nodes rest behind first.
        subst (λ n. HasWalkFault w (nodes ++ n ∷ rest) f) (sym is)
        (leaf_fault w.table.block.now (parts_of w.table.width) w.claims.now nodes bytes.0.items (stack_of left.items) w.errors.items w.line
        rest behind.claims_count behind.line (at_box nodes behind) stated f h)

-- where a node may follow, the stack is not empty
pub none_popped : (w : Walk) (nodes : List Node) (node : Node) → OpenBoxesGoOn → w.boxes.items ≡ [] → IsBehind nodes w
    → AreFirst (length w.claims.now) (nodes ++ node ∷ []) → ⊥
none_popped w nodes node goes_on none behind first =
    some_open w.table.block.now (parts_of w.table.width) first.opens.0 nodes node w.errors.items goes_on first.opens.1
    (subst (λ bs. HasWalked w.table.block.now (parts_of w.table.width) nodes (stack_of bs) w.errors.items) none behind.walked)

-- ---- with a fault or none

pub as_behind : (w : Walk) (nodes : List Node) → w.fault ≡ None → HasTaken nodes w → IsBehind nodes w
as_behind w nodes none taken =
    subst (λ f. MatchOption f (IsBehind nodes w)
    (λ fault. (rest : List Node) → HasWalkFault w (nodes ++ rest) fault)) none
    taken.so_far

pub as_fault : (w : Walk) (nodes rest : List Node) (f : CheckFault) → w.fault ≡ Some f → HasTaken nodes w
    → HasWalkFault w (nodes ++ rest) f
as_fault w nodes rest f some taken =
    subst (λ g. MatchOption g (IsBehind nodes w)
    (λ fault. (rest : List Node) → HasWalkFault w (nodes ++ rest) fault)) some
    taken.so_far rest

pub few_lines_taken : (w : Walk) (nodes : List Node) (node : Node) → IsBehind nodes w
    → AreFirst (length w.claims.now) (nodes ++ node ∷ []) → w.line ≤ 10235
few_lines_taken w nodes node behind first =
    let l = few_lines w.table.block.now (parts_of w.table.width) nodes (node ∷ []) (stack_of w.boxes.items) w.errors.items first.few_leaves
    behind.walked in
    let at = behind.line in
    omega (arith, l, at)

-- ---- a walk's first moment and its last

pub none_from_is_some : {A : Type 0} (o : Option A) → false ≡ is_some o → o ≡ None
none_from_is_some None e = refl
none_from_is_some (Some x) e = absurd (let z : ⊥ = cc in z)

-- what a walk has met so far that has met no fault
pub so_far-behind : (w : Walk) (nodes : List Node) → w.fault ≡ None → IsBehind nodes w
    → MatchOption w.fault (IsBehind nodes w)
    (λ fault. (rest : List Node) → HasWalkFault w (nodes ++ rest) fault)
so_far-behind w nodes none behind =
    subst (λ g. MatchOption g (IsBehind nodes w)
    (λ fault. (rest : List Node) → HasWalkFault w (nodes ++ rest) fault)) (sym none)
    behind

-- or one
pub so_far-fault : (w : Walk) (nodes : List Node) (f : CheckFault) → w.fault ≡ Some f
    → ((rest : List Node) → HasWalkFault w (nodes ++ rest) f)
    → MatchOption w.fault (IsBehind nodes w)
    (λ fault. (rest : List Node) → HasWalkFault w (nodes ++ rest) fault)
so_far-fault w nodes f some faulty =
    subst (λ g. MatchOption g (IsBehind nodes w)
    (λ fault. (rest : List Node) → HasWalkFault w (nodes ++ rest) fault)) (sym some)
    faulty

pub behind_none : (w : Walk) → length w.table.block.now.inputs ≤ 8 → length w.claims.now ≡ length w.table.block.now.outputs
    → stack_of w.boxes.items ≡ whole w.table.block.now ∷ []
    → w.errors.items ≡ replicate (length w.table.block.now.outputs) 0 → w.line ≡ 3 → 2041 ≤ vec_capacity w.boxes
    → IsBehind [] w
behind_none w few count stack zeros line room = record {
  claims_count = count;
  walked = subst (λ s. HasWalked w.table.block.now (parts_of w.table.width) [] s w.errors.items) (sym stack)
      (subst (λ es. HasWalked w.table.block.now (parts_of w.table.width) [] (whole w.table.block.now ∷ []) es) (sym zeros)
      (walked_none w.table.block.now (parts_of w.table.width) few));
  line = line;
  room = room;
}

pub count_fault : (w : Walk) (n : ℕ) → n ≡ length w.table.block.now.outputs → (length w.claims.now ≡ n → ⊥)
    → (rest : List Node)
    → HasWalkFault w rest (fault.Outputs (length w.claims.now) n)
count_fault w n same differ rest =
    subst (λ m. HasWalkFault w rest (fault.Outputs (length w.claims.now) m)) (sym same)
    (outputs (λ e. differ (e ∙ sym same)))

pub last_fault : (w : Walk) (nodes : List Node) (f : CheckFault) → w.fault ≡ Some f → HasTaken nodes w
    → HasWalkFault w nodes f
last_fault w nodes f some taken =
    subst (λ ns. HasWalkFault w ns f) (append-nil nodes)
    (as_fault w nodes [] f some taken)

pub accepted_behind : (w : Walk) (nodes : List Node) (es : List ℕ) → es ≡ w.errors.items → open_from 1 nodes ≡ Some 0
    → AreClaimed es w.claims.now → IsBehind nodes w
    → AreWalkErrors w nodes w.errors.items
accepted_behind w nodes es same is_tree are_claimed behind =
    walked_all w.table.block.now (parts_of w.table.width) nodes (stack_of w.boxes.items) w.claims.now w.errors.items is_tree
    behind.claims_count
    (subst (λ xs. AreClaimed xs w.claims.now) same are_claimed) behind.walked

pub claim_fault : (w : Walk) (nodes : List Node) (es : List ℕ) (k claim error : ℕ) → es ≡ w.errors.items
    → open_from 1 nodes ≡ Some 0 → IsFirstOver es w.claims.now k
    → claim ≡ get_or w.claims.now k 0 → error ≡ get_or w.errors.items k error → IsBehind nodes w
    → HasWalkFault w nodes (fault.Claimed (k + 1) claim error)
claim_fault w nodes es k claim error found closed over claim_is error_is behind =
    let b = w.table.block.now in
    let errors = w.errors.items in
    let claims = w.claims.now in
    let o : IsFirstOver errors claims k = subst (λ xs. IsFirstOver xs claims k) found over in
    let c : o.claim ≡ claim = sym (get_or_from_slice_get claims k o.claim 0 o.claim_is) ∙ sym claim_is in
    let r : o.error ≡ error = sym (get_or_from_slice_get errors k o.error error o.error_is) ∙ sym error_is in
    let accepted = walked_all b (parts_of w.table.width) nodes (stack_of w.boxes.items) errors errors closed behind.walked.count
    (λ j e d p q. same_le (sym p ∙ q)) behind.walked in
    let f = claimed errors k o behind.claims_count accepted in
    subst (λ m. HasCheckFault b (parts_of w.table.width) (cert_over w nodes) (fault.Claimed (k + 1) m error)) c
    (subst (λ m. HasCheckFault b (parts_of w.table.width) (cert_over w nodes) (fault.Claimed (k + 1) o.claim m)) r f)
  where
    same_le : {e d : ℕ} → Some e ≡ Some d → e ≤ d
    same_le {e} {d} h = let s : e ≡ d = cc in omega arith
