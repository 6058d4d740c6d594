-- Boxes, their halves and their cells, and how a tree grows by the nodes of a box.
use Rattle.std.proofs.Common.{◌≡◌, ⊎_elim, ℕ, zero, suc, ◌+◌, ◌-◌, ◌*◌, ◌/◌, ◌<◌, ◌≤◌, List, [], ◌∷◌, length, map}
use Rattle.std.proofs.Common.{get_or, Some, refl, sym, ap, ap₂, ◌∙◌, subst, arith, length-set, inl, inr, max, ◌++◌}
use Rattle.std.proofs.{lemmas.List.Elements.All-append, lemmas.Option.slice_get_within, lemmas.Bool.cases_lt}
use Rattle.std.proofs.Common.{append_assoc, Bool, true, false, Option}
use Rattle.std.specs.{Prelude.if◌then◌else◌, Prelude.slice_get, Prelude.All, Prelude.◌⊎◌, Prelude.slice_index}
use Rattle.std.specs.{Global.Vec, List.Any}
use Rattle.fuzzy_meaning.specs.{declared.block.Output.Output, declared.block.Block.Block}
use Rattle.error_bound.specs.{declared.boxes.Interval.Interval, Boxes.IsBox, Boxes.IsBoxOf}
use Rattle.error_bound.specs.{Matters.matters, Matters.narrowed_from}
use Rattle.cell_bounds.specs.{CellBounds.cell_count, Cells.cell_of}
use Rattle.cert_check.specs.Trees.{left_of, right_of, Part, IsTree, leaf, split, part_of, IsCut}
use Rattle.cert_check.specs.{BoxLaws.HasHalves, BoxLaws.CutsHaveHalves, Walks.cuts_of, Walks.AreRaised}
use Rattle.cert_check.specs.Acceptance.{HasBound}
use Rattle.cert_check.proofs.Algebra.{Any-left, one_of}
use Rattle.error_certifier.specs.Halving.{IsWidest, IsHalvedAt, middle_of, IsToCut, Halves, leaf as halved_leaf}
use Rattle.error_certifier.specs.{declared.leaves.FoundLeaf.FoundLeaf, Trees.IsFoundLeaf, Trees.RisesTo, Trees.Grows}
use Rattle.error_certifier.specs.{Halving.split as halved_split, declared.halving.Tree.Tree}
use Rattle.fz_list.proofs.Algebra.{All-cons}
use Rattle.box_tree.specs.declared.cert.Node.TheVariants.{Split, Leaf}
use Rattle.box_tree.specs.{declared.cert.CertKind.CertKind, declared.cert.Node.Node, Certificates.IsNode}

pub same_items : {X : Type 0} (xs ys : List X) → length xs ≡ length ys
    → ((k : ℕ) → k < length xs → slice_get xs k ≡ slice_get ys k) → xs ≡ ys
same_items [] [] e h = refl
same_items [] (y ∷ ys) e h = absurd (omega (arith, e))
same_items (x ∷ xs) [] e h = absurd (omega (arith, e))
same_items (x ∷ xs) (y ∷ ys) e h =
    let first = h 0 (omega arith) in
    let same : x ≡ y = cc in
    let rest = same_items xs ys (omega (arith, e)) (λ k l. h (suc k) (omega arith)) in
    let both : x ∷ xs ≡ y ∷ ys = cc in
    both

-- ---- halves

pub middle_inside : (f t : ℕ) → f < t → (f < f + (t - f + 1) / 2) × (f + (t - f + 1) / 2 ≤ t)
middle_inside f t h = (omega arith, omega arith)

pub halves_of : {by : List Interval} → CutsHaveHalves → (box : List Interval) (k c : ℕ) (at : IsHalvedAt by box k c)
    → HasHalves box k c at.interval
halves_of cuts box k c at =
    let v = at.interval in
    let m = middle_inside v.from v.to at.more in
    let e = at.middle in
    let m0 = m.0 in
    let m1 = m.1 in
    cuts box k c v at.is_at (omega arith) (omega arith)

pub left_box : {by : List Interval} → CutsHaveHalves → (b : Block) (box : List Interval) (k c : ℕ) → IsHalvedAt by box k c
    → IsBoxOf b box
    → IsBoxOf b (left_of k c box)
left_box cuts b box k c at is =
    let h = halves_of cuts box k c at in
    record { count = ap length (sym h.left_is) ∙ length-set box k _ ∙ is.count; intervals = h.left_box is.intervals }

pub right_box : {by : List Interval} → CutsHaveHalves → (b : Block) (box : List Interval) (k c : ℕ) → IsHalvedAt by box k c
    → IsBoxOf b box
    → IsBoxOf b (right_of k c box)
right_box cuts b box k c at is =
    let h = halves_of cuts box k c at in
    record { count = ap length (sym h.right_is) ∙ length-set box k _ ∙ is.count; intervals = h.right_box is.intervals }

-- ---- one widest interval

pub one_widest : (box : List Interval) (j k : ℕ) (u v : Interval) → IsWidest box j u → IsWidest box k v → j ≡ k
one_widest box j k u v p q = ⊎_elim
    (λ (l : j < k). absurd (let a = q.first j u l p.is_at in let c = p.most k v q.is_at in omega arith))
    (λ (l : k ≤ j). ⊎_elim
    (λ (g : k < j). absurd (let a = p.first k v g q.is_at in let c = q.most j u p.is_at in omega arith))
    (λ (g : j ≤ k). omega arith)
    (cases_lt k j))
    (cases_lt j k)

same_interval : (box : List Interval) (j k : ℕ) (u v : Interval) → j ≡ k → slice_get box j ≡ Some u
    → slice_get box k ≡ Some v → u ≡ v
same_interval box j k u v e p q = cc

pub one_halving : {by : List Interval} → (box : List Interval) (j k c d : ℕ) → IsHalvedAt by box j c
    → IsHalvedAt by box k d → (j ≡ k) × (c ≡ d)
one_halving {by} box j k c d p q =
    let e = one_widest by j k p.interval q.interval p.widest q.widest in
    let same = same_interval box j k p.interval q.interval e p.is_at q.is_at in
    (e, p.middle ∙ ap middle_of same ∙ sym q.middle)

-- ---- cells

pub cell_bytes : (bytes : List ℕ) → map (λ (v : Interval). v.from) (cell_of bytes) ≡ bytes
cell_bytes [] = refl
cell_bytes (n ∷ ns) = ap (λ ms. n ∷ ms) (cell_bytes ns)

pub cell_at : (bytes : List ℕ) (k : ℕ) (v : Interval) → slice_get (cell_of bytes) k ≡ Some v
    → (v.from ≡ v.to) × (slice_get bytes k ≡ Some v.from)
cell_at [] k v e = absurd (let z : ⊥ = cc in z)
cell_at (n ∷ ns) zero v e =
    let byte : Interval = record { from = n; to = n } in
    let same : byte ≡ v = cc in
    subst (λ (u : Interval). (u.from ≡ u.to) × (slice_get (n ∷ ns) 0 ≡ Some u.from)) same (refl, refl)
cell_at (n ∷ ns) (suc k) v e = cell_at ns k v e

pub cell_not_halved : {by : List Interval} → (box : List Interval) (bytes : List ℕ) (k c : ℕ) → box ≡ cell_of bytes
    → IsHalvedAt by box k c → ⊥
cell_not_halved box bytes k c e at =
    let v = at.interval in
    let here : slice_get (cell_of bytes) k ≡ Some v =
    subst (λ (x : List Interval). slice_get x k ≡ Some v) e at.is_at in
    let same = (cell_at bytes k v here).0 in
    let more = at.more in
    absurd (omega arith)

pub length-cell : (bytes : List ℕ) → length (cell_of bytes) ≡ length bytes
length-cell [] = refl
length-cell (n ∷ ns) = ap suc (length-cell ns)

pub bytes_count : (b : Block) (bytes : List ℕ) → IsBoxOf b (cell_of bytes) → length bytes ≡ length b.inputs
bytes_count b bytes is = sym (length-cell bytes) ∙ is.count

-- a cell is one
pub one_cell : (bytes : List ℕ) → cell_count (cell_of bytes) ≡ 1
one_cell [] = refl
one_cell (n ∷ ns) = ap (λ m. (n - n + 1) * m) (one_cell ns) ∙ omega arith

byte_of_cell : (bytes : List ℕ) (k d : ℕ) → k < length bytes
    → slice_get (cell_of bytes) k ≡ Some (record { from = get_or bytes k d; to = get_or bytes k d })
byte_of_cell [] k d h = absurd (omega arith)
byte_of_cell (n ∷ ns) zero d h = refl
byte_of_cell (n ∷ ns) (suc k) d h = byte_of_cell ns k d (omega arith)

pub cell_small : (bytes : List ℕ) → IsBox (cell_of bytes) → All (λ n. n ≤ 255) bytes
cell_small bytes is k d h =
    (is.some k (record { from = get_or bytes k d; to = get_or bytes k d }) (byte_of_cell bytes k d h)).1

-- ---- the widest of the first intervals

abbrev pub width_at : List Interval → ℕ → ℕ
width_at box k = (get_or box k (record { from = 0; to = 0 })).to - (get_or box k (record { from = 0; to = 0 })).from

-- of the first n the interval at place k is the first of the widest
pub record IsWidestOf (box : List Interval) (n k : ℕ) : Type 0 where
  pub inside : k < n
  pub most : (j : ℕ) → j < n → width_at box j ≤ width_at box k
  pub first : (j : ℕ) → j < k → width_at box j < width_at box k

-- ---- how often a box can be cut

parts_fewer : (box : List Interval) (k c : ℕ) (v : Interval) → slice_get box k ≡ Some v → v.from < c → c ≤ v.to
    → (cuts_of (left_of k c box) < cuts_of box) × (cuts_of (right_of k c box) < cuts_of box)
parts_fewer [] k c v e f t = absurd (let z : ⊥ = cc in z)
parts_fewer (w ∷ ws) zero c v e f t =
    let same : w ≡ v = cc in
    let from : w.from ≡ v.from = ap (λ (u : Interval). u.from) same in
    let to : w.to ≡ v.to = ap (λ (u : Interval). u.to) same in
    (omega arith, omega arith)
parts_fewer (w ∷ ws) (suc k) c v e f t = let rest = parts_fewer ws k c v e f t in
    (omega (arith, rest.0), omega (arith, rest.1))

pub halves_fewer : {by : List Interval} → (box : List Interval) (k c : ℕ) → IsHalvedAt by box k c
    → (cuts_of (left_of k c box) < cuts_of box) × (cuts_of (right_of k c box) < cuts_of box)
halves_fewer box k c at =
    let v = at.interval in
    let m = middle_inside v.from v.to at.more in
    let e = at.middle in
    parts_fewer box k c v at.is_at (omega (arith, m.0, e)) (omega (arith, m.1, e))

-- ---- a box of single bytes

-- where the widest interval has one byte all have
pub cell_is : (box : List Interval) (k : ℕ) (v : Interval) → IsBox box → IsWidest box k v → v.from ≡ v.to
    → box ≡ cell_of (map (λ (u : Interval). u.from) box)
cell_is box k v is w e = single box (λ j u eu.
    let most = w.most j u eu in
    let order = (is.some j u eu).0 in
    omega arith)
  where
    single : (box : List Interval) → ((j : ℕ) (u : Interval) → slice_get box j ≡ Some u → u.from ≡ u.to)
        → box ≡ cell_of (map (λ (u : Interval). u.from) box)
    single [] h = refl
    single (u ∷ us) h =
        let first = h 0 u refl in
        let rest = single us (λ j x ex. h (suc j) x ex) in
        let here : u ≡ (record { from = u.from; to = u.from }) = ap
        (λ (n : ℕ). let x : Interval = record { from = u.from; to = n } in x) (sym first) in
        ap₂ (λ (x : Interval) (xs : List Interval). x ∷ xs) here rest

-- what a narrowed box has of more bytes than one the box has
pub narrowed_at : (b : Block) (box : List Interval) (i : ℕ) (vs : List Interval) (k : ℕ) (v : Interval)
    → slice_get (narrowed_from b box i vs) k ≡ Some v → v.from < v.to → slice_get vs k ≡ Some v
narrowed_at b box i [] k v e l = absurd (let z : ⊥ = cc in z)
narrowed_at b box i (w ∷ vs) zero v e l = by_bool (matters b box i) e
  where
    by_bool : (c : Bool) → (let o : Option Interval = Some (if c then w else record { from = w.from; to = w.from }) in
        o ≡ Some v) → slice_get (w ∷ vs) 0 ≡ Some v
    by_bool true e = e
    by_bool false e =
        let one : Interval = record { from = w.from; to = w.from } in
        let same : one ≡ v = cc in
        let from = ap (λ (u : Interval). u.from) same in
        let to = ap (λ (u : Interval). u.to) same in
        absurd (omega arith)
narrowed_at b box i (w ∷ vs) (suc k) v e l = narrowed_at b box (i + 1) vs k v e l

-- ---- how a tree grows by the nodes of a box

-- ---- of some in a list

Any-right : {X : Type 0} (P : X → Type 0) (xs ys : List X) → Any P ys → Any P (xs ++ ys)
Any-right P [] ys a = a
Any-right P (z ∷ xs) ys a = let r = Any-right P xs ys a in let l = r.2 in (suc r.0, r.1, omega arith, r.3, r.4)

Any-one : {X : Type 0} (P : X → Type 0) (x : X) → P x → Any P (x ∷ [])
Any-one P x p = (zero, x, omega arith, refl, p)

-- ---- errors

rises_on : (b : Block) (h target o : ℕ) (x : Output) (ps qs : List Part) (old mid new : ℕ)
    → RisesTo b h target o x ps old mid
    → RisesTo b h target o x qs mid new
    → RisesTo b h target o x (ps ++ qs) old new
rises_on b h target o x ps qs old mid new p q =
    let up = p.rises in
    let on = q.rises in
    record {
      rises = omega arith;
      within = λ l. q.within (p.within l);
      each = All-append (λ r. (n : ℕ) × HasBound b o x h r n × (n ≤ new)) ps qs
          (λ k d l. let a = p.each k d l in let at = a.2 in (a.0, a.1, omega arith)) q.each;
      some = ⊎_elim
          (λ (e : new ≡ mid). ⊎_elim
          (λ (f : mid ≡ old). let z : (new ≡ old) ⊎ Any (λ r. HasBound b o x h r new) (ps ++ qs) = inl (e ∙ f) in z)
          (λ (a : Any (λ r. HasBound b o x h r mid) ps). inr
          (Any-left (λ r. HasBound b o x h r new) ps qs (subst (λ m. Any (λ r. HasBound b o x h r m) ps) (sym e) a)))
          p.some)
          (λ (a : Any (λ r. HasBound b o x h r new) qs). inr (Any-right (λ r. HasBound b o x h r new) ps qs a))
          q.some;
    }

module _ (kind : CertKind) (b : Block) (h : ℕ) (targets : List ℕ) (box : List Interval) (found : FoundLeaf)
    (leaf_is : IsFoundLeaf kind b h targets box found) where
  raised_one : (k : ℕ) (x : Output) (old new : ℕ) → slice_get b.outputs k ≡ Some x
      → new ≡ max old (slice_index found.bounds k)
      → RisesTo b h (slice_index targets k) (k + 1) x (part_of box found.stated ∷ []) old new
  raised_one k x old new ex e =
      let part = part_of box found.stated in
      let n = slice_index found.bounds k in
      let has : HasBound b (k + 1) x h part n = leaf_is.bounds k x ex in
      let to = leaf_is.within k (slice_get_within b.outputs k x ex) in
      record {
        rises = omega arith;
        within = λ l. omega arith;
        each = one_of (λ r. (m : ℕ) × HasBound b (k + 1) x h r m × (m ≤ new)) part (n, has, omega arith);
        some = ⊎_elim
            (λ (l : old < n).
            let same : n ≡ new = omega arith in
            let z : (new ≡ old) ⊎ Any (λ r. HasBound b (k + 1) x h r new) (part ∷ []) = inr
            (Any-one (λ r. HasBound b (k + 1) x h r new) part (subst (λ m. HasBound b (k + 1) x h part m) same has)) in
            z)
            (λ (l : n ≤ old). inl (omega arith))
            (cases_lt old n);
      }

  -- by a leaf
  pub grows_leaf : (old new : Tree) → length old.errors.items ≡ length b.outputs
      → new.nodes.items ≡ old.nodes.items ++ Leaf found.stated ∷ []
      → AreRaised found.bounds old.errors.items new.errors.items → new.leaves ≡ old.leaves + 1
      → old.leaves < 4096
      → Grows kind b h targets box old new
  grows_leaf old new count nodes raised more few = record {
    added = Leaf found.stated ∷ [];
    parts = part_of box found.stated ∷ [];
    nodes = nodes;
    halves = subst (λ m. Halves kind b h targets box old.leaves (Leaf found.stated ∷ []) m) (sym more)
        (halved_leaf box old.leaves found.stated leaf_is.settled few);
    tree = λ rest. leaf box found.stated rest;
    good = one_of (IsNode kind (length b.outputs)) (Leaf found.stated) leaf_is.good;
    count = raised.count;
    errors = λ k x e.
        let inside : k < length old.errors.items =
        (let w = slice_get_within b.outputs k x e in omega (arith, w, count)) in
        raised_one k x (slice_index old.errors.items k) (slice_index new.errors.items k) e (raised.each k inside);
  }

-- ---- by a cut and its halves

regroup : (old : List Node) (x : Node) (ls rs : List Node) → ((old ++ x ∷ []) ++ ls) ++ rs ≡ old ++ (x ∷ (ls ++ rs))
regroup old x ls rs = simp append_assoc

split_nodes : (old pushed mid new ls rs : List Node) (x : Node) → pushed ≡ old ++ x ∷ [] → mid ≡ pushed ++ ls
    → new ≡ mid ++ rs
    → new ≡ old ++ (x ∷ (ls ++ rs))
split_nodes old pushed mid new ls rs x p m n =
    n ∙ ap (λ (xs : List Node). xs ++ rs) (m ∙ ap (λ (xs : List Node). xs ++ ls) p) ∙ regroup old x ls rs

pub split_tree : (box : List Interval) (k c : ℕ) (ls rs rest : List Node) (ps qs : List Part) → IsCut k c box
    → IsTree (left_of k c box) (ls ++ (rs ++ rest)) ps (rs ++ rest) → IsTree (right_of k c box) (rs ++ rest) qs rest
    → IsTree box (Split (k + 1) c ∷ ((ls ++ rs) ++ rest)) (ps ++ qs) rest
split_tree box k c ls rs rest ps qs cut l r =
    let place : k ≡ k + 1 - 1 = omega arith in
    let left : IsTree (left_of k c box) ((ls ++ rs) ++ rest) ps (rs ++ rest) = rw append_assoc l in
    split box (k + 1) c ((ls ++ rs) ++ rest) (rs ++ rest) rest ps qs (omega arith)
    (subst (λ j. IsCut j c box) place cut)
    (subst (λ j. IsTree (left_of j c box) ((ls ++ rs) ++ rest) ps (rs ++ rest)) place left)
    (subst (λ j. IsTree (right_of j c box) (rs ++ rest) qs rest) place r)

pub split_node : (kind : CertKind) (b : Block) (box : List Interval) (k c : ℕ) → length b.inputs ≤ 8 → IsBoxOf b box
    → {by : List Interval} → (at : IsHalvedAt by box k c)
    → c ≤ 255 → IsNode kind (length b.outputs) (Split (k + 1) c)
split_node kind b box k c few is at small =
    let inside = slice_get_within box k at.interval at.is_at in
    let count = is.count in
    record { some = omega arith; few = omega arith; byte = small }

pub grows_split : CutsHaveHalves
    → (kind : CertKind) (b : Block) (h : ℕ) (targets : List ℕ) (box : List Interval) (k c : ℕ) (old pushed mid new : Tree)
    → length b.inputs ≤ 8
    → IsBoxOf b box
    → IsToCut kind b h targets box k c → c ≤ 255
    → pushed.nodes.items ≡ old.nodes.items ++ Split (k + 1) c ∷ [] → pushed.errors ≡ old.errors
    → pushed.leaves ≡ old.leaves
    → Grows kind b h targets (left_of k c box) pushed mid → Grows kind b h targets (right_of k c box) mid new
    → Grows kind b h targets box old new
grows_split cuts kind b h targets box k c old pushed mid new few is cuttable small nodes errors leaves l r =
    let at = cuttable.halved in
    let cut = (halves_of cuts box k c at).cut in
    record {
      added = Split (k + 1) c ∷ (l.added ++ r.added);
      parts = l.parts ++ r.parts;
      nodes = split_nodes old.nodes.items pushed.nodes.items mid.nodes.items new.nodes.items l.added r.added
          (Split (k + 1) c) nodes l.nodes r.nodes;
      halves = halved_split box k c old.leaves mid.leaves new.leaves l.added r.added cuttable
          (subst (λ n. Halves kind b h targets (left_of k c box) n l.added mid.leaves) leaves l.halves) r.halves;
      tree = λ rest. split_tree box k c l.added r.added rest l.parts r.parts cut (l.tree (r.added ++ rest))
          (r.tree rest);
      good = All-cons (IsNode kind (length b.outputs)) (Split (k + 1) c) (l.added ++ r.added)
          (split_node kind b box k c few is at small)
          (All-append (IsNode kind (length b.outputs)) l.added r.added l.good r.good);
      count = r.count ∙ l.count ∙ ap (λ (v : Vec ℕ). length v.items) errors;
      errors = λ j x e. rises_on b h (slice_index targets j) (j + 1) x l.parts r.parts (slice_index old.errors.items j)
          (slice_index mid.errors.items j) (slice_index new.errors.items j)
          (subst (λ (v : Vec ℕ). RisesTo b h (slice_index targets j) (j + 1) x l.parts
          (slice_index v.items j) (slice_index mid.errors.items j)) errors (l.errors j x e))
          (r.errors j x e);
    }
