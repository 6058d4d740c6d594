-- The certificate of a whole tree.
use Rattle.std.proofs.Common.{◌≡◌, ⊎_elim, ℕ, zero, suc, ◌+◌, ◌-◌, ◌<◌, ◌≤◌, List, [], ◌∷◌, ◌++◌, length, get_or}
use Rattle.std.proofs.Common.{replicate, Some, refl, sym, ap, ◌∙◌, subst, arith}
use Rattle.std.specs.Prelude.{slice_get, slice_index}
use Rattle.std.specs.List.{Any}
use Rattle.std.proofs.lemmas.List.{append-nil, length-replicate}
use Rattle.std.proofs.lemmas.Option.{get_or_from_slice_get}
use Rattle.fz_list.proofs.Algebra.{some_at}
use Rattle.fuzzy_meaning.specs.declared.{block.Block.Block, block.Output.Output}
use Rattle.fuzzy_meaning.specs.Blocks.{IsValid, output_at}
use Rattle.error_bound.specs.declared.boxes.Interval.{Interval}
use Rattle.box_tree.specs.declared.{cert.CertKind.CertKind, cert.Node.Node, cert.Cert.Cert}
use Rattle.box_tree.specs.declared.cert.Node.TheVariants.{Split, Leaf}
use Rattle.box_tree.specs.{Trees.open_from, Trees.leaf_count}
use Rattle.box_tree.specs.Laws.{OpenBoxesGoOn}
use Rattle.cert_check.specs.Trees.{Part, IsTree, whole}
use Rattle.cert_check.specs.Acceptance.{HasBound, IsGreatestBound, IsAccepted}
use Rattle.cert_check.proofs.Algebra.{some_leaf}
use Rattle.error_certifier.specs.{declared.halving.Tree.Tree, Trees.RisesTo, Trees.Grows}
use Rattle.error_certifier.specs.Targets.{AreTargets}
use Rattle.error_certifier.specs.Halving.{Halves, leaf as halved_leaf, split as halved_split, IsHalvingFor}

-- ---- nodes that are one tree

leaf_count-append : (xs ys : List Node) → leaf_count (xs ++ ys) ≡ leaf_count xs + leaf_count ys
leaf_count-append [] ys = omega arith
leaf_count-append (Split i c ∷ xs) ys = leaf_count-append xs ys
leaf_count-append (Leaf stated ∷ xs) ys = let r = leaf_count-append xs ys in omega arith

pub halved_open : OpenBoxesGoOn
    → (kind : CertKind) (b : Block) (h : ℕ) (targets : List ℕ) (box : List Interval) (n m : ℕ) (nodes : List Node)
    → Halves kind b h targets box n nodes m → (i : ℕ) → open_from (suc i) nodes ≡ Some i
halved_open on kind b h targets _ _ _ _ (halved_leaf box n stated w few) i = refl
halved_open on kind b h targets _ _ _ _ (halved_split box k c n m r left right cut l t) i =
    on (suc (suc i)) (suc i) left right (halved_open on kind b h targets _ n m left l (suc i))
    ∙ halved_open on kind b h targets _ m r right t i

pub halved_leaves : (kind : CertKind) (b : Block) (h : ℕ) (targets : List ℕ) (box : List Interval) (n m : ℕ) (nodes : List Node)
    → Halves kind b h targets box n nodes m
    → (leaf_count nodes + n ≡ m) × (m ≤ 4096)
halved_leaves kind b h targets _ _ _ _ (halved_leaf box n stated w few) = (omega arith, omega arith)
halved_leaves kind b h targets _ _ _ _ (halved_split box k c n m r left right cut l t) =
    let p = halved_leaves kind b h targets _ n m left l in
    let q = halved_leaves kind b h targets _ m r right t in
    let p0 = p.0 in
    let q0 = q.0 in
    let sum = leaf_count-append left right in
    (omega arith, q.1)

-- ---- errors from 0 on

no_error : (n k : ℕ) → slice_index (replicate n 0) k ≡ 0
no_error zero k = refl
no_error (suc n) zero = refl
no_error (suc n) (suc k) = no_error n k

one_value : (xs : List ℕ) (k e c : ℕ) → slice_get xs k ≡ Some e → slice_get xs k ≡ Some c → e ≤ c
one_value xs k e c p q = let same : e ≡ c = cc in omega arith

greatest_of : (b : Block) (h target o : ℕ) (x : Output) (parts : List Part) (old e : ℕ) → 0 < length parts → old ≡ 0
    → RisesTo b h target o x parts old e → IsGreatestBound b o x h parts e
greatest_of b h target o x parts old e some zero_before r = record {
  each = r.each;
  some = ⊎_elim
      (λ (same : e ≡ old).
      let p = some_at parts 0 some in
      let at = get_or_from_slice_get parts 0 p.0 p.0 p.1 in
      let first = r.each 0 p.0 some in
      let small = first.2 in
      let none : first.0 ≡ e = omega arith in
      let has : HasBound b o x h p.0 e = subst (λ (q : Part). HasBound b o x h q e) at
      (subst (λ n. HasBound b o x h (get_or parts 0 p.0) n) none first.1) in
      let z : Any (λ q. HasBound b o x h q e) parts = (0, p.0, some, at, has) in
      z)
      (λ (a : Any (λ q. HasBound b o x h q e) parts). a)
      r.some;
}

module _ (kind : CertKind) (b : Block) (h : ℕ) (targets : List ℕ) (old new : Tree) (cert : Cert) (valid : IsValid b)
    (targets_are : AreTargets b targets)
    (no_nodes : old.nodes.items ≡ [])
    (zeros : old.errors.items ≡ replicate (length b.outputs) 0)
    (no_leaves : old.leaves ≡ 0) (g : Grows kind b h targets (whole b) old new) (claims : cert.claims ≡ new.errors.items)
    (nodes : cert.nodes ≡ new.nodes.items) where
  count : length cert.claims ≡ length b.outputs
  count = ap length claims ∙ g.count ∙ ap length zeros ∙ length-replicate (length b.outputs) 0

  all_added : g.added ≡ cert.nodes
  all_added = sym (nodes ∙ g.nodes ∙ ap (λ (xs : List Node). xs ++ g.added) no_nodes)

  zero_at : (k : ℕ) → slice_index old.errors.items k ≡ 0
  zero_at k = ap (λ (xs : List ℕ). slice_index xs k) zeros ∙ no_error (length b.outputs) k

  halved : Halves kind b h targets (whole b) 0 cert.nodes new.leaves
  halved = subst (λ (xs : List Node). Halves kind b h targets (whole b) 0 xs new.leaves) all_added
      (subst (λ n. Halves kind b h targets (whole b) n g.added new.leaves) no_leaves g.halves)

  tree : IsTree (whole b) cert.nodes g.parts []
  tree = subst (λ (xs : List Node). IsTree (whole b) xs g.parts []) (append-nil g.added ∙ all_added) (g.tree [])

  error_at : (k e : ℕ) → slice_get cert.claims k ≡ Some e → slice_index new.errors.items k ≡ e
  error_at k e p = ap (λ (xs : List ℕ). slice_index xs k) (sym claims) ∙ get_or_from_slice_get cert.claims k e 0 p

  greatest : (o : ℕ) (x : Output) (e : ℕ) → 1 ≤ o → output_at b o ≡ Some x → slice_get cert.claims (o - 1) ≡ Some e
      → IsGreatestBound b o x h g.parts e
  greatest o x e from ex ee =
      let number : o - 1 + 1 ≡ o = omega arith in
      let r = g.errors (o - 1) x ex in
      let target = slice_index targets (o - 1) in
      let rises : RisesTo b h target o x g.parts (slice_index old.errors.items (o - 1)) e =
      subst (λ j. RisesTo b h target j x g.parts (slice_index old.errors.items (o - 1)) e) number
      (subst (λ n. RisesTo b h target (o - 1 + 1) x g.parts (slice_index old.errors.items (o - 1)) n)
      (error_at (o - 1) e ee) r) in
      greatest_of b h target o x g.parts (slice_index old.errors.items (o - 1)) e
      (some_leaf (whole b) cert.nodes g.parts [] tree) (zero_at (o - 1)) rises

  accepted : IsAccepted b h cert cert.claims
  accepted = record {
    claims_count = count;
    errors_count = count;
    parts = g.parts;
    tree = tree;
    greatest = greatest;
    claimed = λ k e c p q. one_value cert.claims k e c p q;
  }

  pub is_halving : IsHalvingFor kind b h targets cert
  is_halving = record { targets_are = targets_are; leaves = new.leaves; nodes = halved; claims = accepted }
