-- A certificate has one list of errors or one first fault, and a text one answer.
use Rattle.std.proofs.Common.{◌≡◌, ℕ, zero, suc, ◌+◌, ◌-◌, ◌<◌, ◌≤◌, List, [], ◌∷◌, ◌++◌, length, get_or, map, Some}
use Rattle.std.proofs.Common.{refl, sym, ap, ap₂, ◌∙◌, subst, arith, ⊎_elim}
use Rattle.std.proofs.{lemmas.List.Elements.All-append, lemmas.Option.slice_get_within, lemmas.Bool.cases_lt}
use Rattle.std.specs.Prelude.{All, slice_get, Ok, Err}
use Rattle.fuzzy_meaning.specs.{declared.block.Output.Output, declared.block.Block.Block, declared.block.Input.Input}
use Rattle.fuzzy_meaning.specs.Blocks.{IsValid, output_at}
use Rattle.error_bound.specs.{Faults.FaultyLeavesFail, Faults.LeafFaultsAreOne, declared.boxes.LeafFault.LeafFault}
use Rattle.error_bound.specs.declared.boxes.Interval.{Interval}
use Rattle.fz_list.proofs.Algebra.{some_at}
use Rattle.cell_bounds.specs.declared.claims.Claim.TheVariants.{Pair, Tight, Cells}
use Rattle.cell_bounds.specs.{Claims.HasClaimBound, Claims.ClaimBoundsAreOne, declared.claims.Claim.Claim}
use Rattle.box_tree.specs.{Laws.CertsAreOne, Laws.FaultsAreOne, Laws.CertTextsHaveNoFault, declared.cert.Cert.Cert}
use Rattle.box_tree.specs.declared.cert.Node.TheVariants.{Split, Leaf}
use Rattle.box_tree.specs.{declared.cert.CertFault.CertFault, declared.cert.LeafLine.LeafLine, declared.cert.Node.Node}
use Rattle.cert_check.specs.Faults.{line_at, Reaches, root, in_left, in_right, HasTreeFault, bad_cut, bad_leaf}
use Rattle.cert_check.specs.Faults.{outputs, tree, claimed, AllHold, HasPartFault, IsPairFault, IsCellsFault, bad_rule}
use Rattle.cert_check.specs.Laws.{ErrorsAreDetermined, FaultyCertsFail, CheckFaultsAreOne, TextAnswersAreOne}
use Rattle.cert_check.specs.Trees.{left_of, right_of, Part, part_of, IsTree, leaf, split, whole, IsCut}
use Rattle.cert_check.specs.Faults.{fails, too_many, unsure, IsClaimFault, IsFirstOver, HasCheckFault}
use Rattle.cert_check.specs.Acceptance.{HasBound, IsGreatestBound, IsAccepted, claim_at}
use Rattle.cert_check.specs.{declared.checker.CheckFault.CheckFault, TextFaults.of_text, TextFaults.of_cert}
use Rattle.cert_check.proofs.LeafLemmas.{one_claim, bound_fails, claim_fails}
use Rattle.error_bound.specs.declared.boxes.Leaf as the
use Rattle.cert_check.specs.declared.checker.CheckFault.TheVariants as fault
use Rattle.cert_check.specs.declared.text.TextFault.TheVariants as refusal

-- nodes spell one tree
pub tree_unique : (box box' : List Interval) (ns ns' : List Node) (ps qs : List Part) (r r' : List Node)
    → IsTree box ns ps r → IsTree box' ns' qs r' → box ≡ box' → ns ≡ ns' → (ps ≡ qs) × (r ≡ r')
tree_unique box box' ns ns' ps qs r r' (leaf x stated rest) (leaf x' stated' rest') eb en =
    let e1 : stated ≡ stated' = cc in
    let e2 : rest ≡ rest' = cc in
    (ap₂ (λ (a : List Interval) (c : LeafLine). part_of a c ∷ []) eb e1, e2)
tree_unique box box' ns ns' ps qs r r' (leaf x stated rest) (split x' i c n m rest' left right h cut tl tq) eb en =
    absurd (let z : ⊥ = cc in z)
tree_unique box box' ns ns' ps qs r r' (split x i c n m rest left right h cut tl tq) (leaf x' stated' rest') eb en =
    absurd (let z : ⊥ = cc in z)
tree_unique box box' ns ns' ps qs r r' (split x i c n m rest left right h cut tl tq)
    (split x' i' c' n' m' rest' left' right' h' cut' tl' tq') eb en =
    let e1 : i ≡ i' = cc in
    let e2 : c ≡ c' = cc in
    let e3 : n ≡ n' = cc in
    let a = tree_unique (left_of (i - 1) c x) (left_of (i' - 1) c' x') n n' left left' m m' tl tl'
    (same_side left_of i i' c c' x x' e1 e2 eb) e3 in
    let b = tree_unique (right_of (i - 1) c x) (right_of (i' - 1) c' x') m m' right right' rest rest' tq tq'
    (same_side right_of i i' c c' x x' e1 e2 eb) a.1 in
    (ap₂ (λ p q. p ++ q) a.0 b.0, b.1)
  where
    same_side : (side : ℕ → ℕ → List Interval → List Interval) (i i' c c' : ℕ) (x x' : List Interval) → i ≡ i' → c ≡ c'
        → x ≡ x' → side (i - 1) c x ≡ side (i' - 1) c' x'
    same_side side i i' c c' x x' e1 e2 e3 = cc

pub left_count : (k c : ℕ) (x : List Interval) → length (left_of k c x) ≡ length x
left_count k c [] = refl
left_count zero c (v ∷ vs) = refl
left_count (suc k) c (v ∷ vs) = ap suc (left_count k c vs)

pub right_count : (k c : ℕ) (x : List Interval) → length (right_of k c x) ≡ length x
right_count k c [] = refl
right_count zero c (v ∷ vs) = refl
right_count (suc k) c (v ∷ vs) = ap suc (right_count k c vs)

-- each box has an interval for each input
pub boxes_count : (n : ℕ) (box : List Interval) (ns r : List Node) (ps : List Part) → IsTree box ns ps r
    → length box ≡ n → All (λ p. length p.box ≡ n) ps
boxes_count n box ns r ps (leaf x stated rest) e zero d l = e
boxes_count n box ns r ps (leaf x stated rest) e (suc k) d l = absurd (omega arith)
boxes_count n box ns r ps (split x i c m mid rest left right h cut tl tq) e k d l =
    All-append (λ p. length p.box ≡ n) left right
    (boxes_count n (left_of (i - 1) c x) m mid left tl (left_count (i - 1) c x ∙ e))
    (boxes_count n (right_of (i - 1) c x) mid rest right tq (right_count (i - 1) c x ∙ e)) k d l

has_unique : ClaimBoundsAreOne → (b : Block) (o : ℕ) (x : Output) (h : ℕ) (p : Part) (n m : ℕ) → IsValid b
    → length p.box ≡ length b.inputs → HasBound b o x h p n → HasBound b o x h p m → n ≡ m
has_unique one b o x h p n m v c s t =
    one b p.box o x h s.claim n m v c s.bound_is
    (subst (λ l. HasClaimBound b p.box o x h l m) (one_claim t.claim_is s.claim_is) t.bound_is)

greatest_le : ClaimBoundsAreOne → (b : Block) (o : ℕ) (x : Output) (h : ℕ) (ps : List Part) (e f : ℕ) → IsValid b
    → All (λ p. length p.box ≡ length b.inputs) ps → IsGreatestBound b o x h ps e → IsGreatestBound b o x h ps f → e ≤ f
greatest_le one b o x h ps e f v counts s t =
    let k = s.some.0 in
    let p = s.some.1 in
    let at : get_or ps k p ≡ p = s.some.3 in
    let hb = s.some.4 in
    let l : k < length ps = s.some.2 in
    let c : length p.box ≡ length b.inputs = subst (λ (q : Part). length q.box ≡ length b.inputs) at (counts k p l) in
    let w : (n : ℕ) × HasBound b o x h p n × (n ≤ f) =
    subst (λ (q : Part). (n : ℕ) × HasBound b o x h q n × (n ≤ f)) at (t.each k p l) in
    joined (has_unique one b o x h p e w.0 v c hb w.1) w.2
  where
    joined : {a c d : ℕ} → a ≡ c → c ≤ d → a ≤ d
    joined e h = omega arith

same_lists : (es fs : List ℕ) → length es ≡ length fs
    → ((k e f : ℕ) → slice_get es k ≡ Some e → slice_get fs k ≡ Some f → e ≡ f) → es ≡ fs
same_lists [] [] l h = refl
same_lists [] (f ∷ fs) l h = absurd (omega arith)
same_lists (e ∷ es) [] l h = absurd (omega arith)
same_lists (e ∷ es) (f ∷ fs) l h =
    ap₂ (λ a c. a ∷ c) (h 0 e f refl refl) (same_lists es fs (omega arith) (λ k a c p q. h (suc k) a c p q))

pub map_count : (is : List Input)
    → length {A = Interval} (map (λ (i : Input). record { from = 0; to = 255 }) is) ≡ length is
map_count [] = refl
map_count (i ∷ is) = ap suc (map_count is)

pub errors_unique : ClaimBoundsAreOne → (b : Block) (h : ℕ) (cert cert' : Cert) (es fs : List ℕ)
    → cert.nodes ≡ cert'.nodes → IsValid b → IsAccepted b h cert es → IsAccepted b h cert' fs → es ≡ fs
errors_unique one b h cert cert' es fs en v s t = same_lists es fs (s.errors_count ∙ sym t.errors_count) each
  where
    u : s.parts ≡ t.parts
    u = (tree_unique (whole b) (whole b) cert.nodes cert'.nodes s.parts t.parts [] [] s.tree t.tree refl en).0

    counts : All (λ p. length p.box ≡ length b.inputs) s.parts
    counts = boxes_count (length b.inputs) (whole b) cert.nodes [] s.parts s.tree (map_count b.inputs)

    each : (k e f : ℕ) → slice_get es k ≡ Some e → slice_get fs k ≡ Some f → e ≡ f
    each k e f p q =
        let l = slice_get_within es k e p in
        let c = s.errors_count in
        let x = some_at b.outputs k (omega arith) in
        let ek : k ≡ k + 1 - 1 = omega arith in
        let ex : output_at b (k + 1) ≡ Some x.0 = subst (λ j. slice_get b.outputs j ≡ Some x.0) ek x.1 in
        let g = s.greatest (k + 1) x.0 e (omega arith) ex (subst (λ j. slice_get es j ≡ Some e) ek p) in
        let g' = subst (λ ps. IsGreatestBound b (k + 1) x.0 h ps f) (sym u)
        (t.greatest (k + 1) x.0 f (omega arith) ex (subst (λ j. slice_get fs j ≡ Some f) ek q)) in
        both_ways (greatest_le one b (k + 1) x.0 h s.parts e f v counts g g')
        (greatest_le one b (k + 1) x.0 h s.parts f e v counts g' g)
      where
        both_ways : {a c : ℕ} → a ≤ c → c ≤ a → a ≡ c
        both_ways h k = omega arith

pub determined : ClaimBoundsAreOne → ErrorsAreDetermined
determined one b h cert es fs v s t = errors_unique one b h cert cert es fs refl v s t

-- ---- a certificate with a fault is not accepted

record Halves (box : List Interval) (i c : ℕ) (nodes : List Node) (parts : List Part) (rest : List Node) : Type 0 where
  left : List Part
  right : List Part
  mid : List Node
  cut : IsCut (i - 1) c box
  left_tree : IsTree (left_of (i - 1) c box) nodes left mid
  right_tree : IsTree (right_of (i - 1) c box) mid right rest
  parts_are : left ++ right ≡ parts

halves : (box : List Interval) (nodes : List Node) (parts : List Part) (rest : List Node) → IsTree box nodes parts rest
    → (i c : ℕ) (below : List Node) → nodes ≡ Split i c ∷ below → Halves box i c below parts rest
halves box nodes parts rest (leaf x stated r) i c below e = absurd (let z : ⊥ = cc in z)
halves box nodes parts rest (split x j d n m r left right some cut tl tr) i c below e =
    let ei : j ≡ i = cc in
    let ec : d ≡ c = cc in
    let en : n ≡ below = cc in
    subst (λ k. Halves x k c below (left ++ right) r) ei
    (subst (λ k. Halves x j k below (left ++ right) r) ec (subst (λ k. Halves x j d k (left ++ right) r) en
    (record { left = left; right = right; mid = m; cut = cut; left_tree = tl; right_tree = tr; parts_are = refl })))

one_part : (box : List Interval) (nodes : List Node) (parts : List Part) (rest : List Node)
    → IsTree box nodes parts rest
    → (stated : LeafLine) (below : List Node) → nodes ≡ Leaf stated ∷ below → part_of box stated ∷ [] ≡ parts
one_part box nodes parts rest (leaf x stated' r) stated below e =
    let s : stated ≡ stated' = cc in
    ap (λ (a : LeafLine). part_of x a ∷ []) s
one_part box nodes parts rest (split x j d n m r left right some cut tl tr) stated below e = absurd (let z : ⊥ = cc in z)

All-front : {X : Type 0} (P : X → Type 0) (xs ys : List X) → All P (xs ++ ys) → All P xs
All-front P [] ys a k d l = absurd (omega arith)
All-front P (x ∷ xs) ys a zero d l = a zero d (omega arith)
All-front P (x ∷ xs) ys a (suc k) d l = All-front P xs ys (λ j e m. a (suc j) e (omega arith)) k d (omega arith)

All-back : {X : Type 0} (P : X → Type 0) (xs ys : List X) → All P (xs ++ ys) → All P ys
All-back P [] ys a = a
All-back P (x ∷ xs) ys a = All-back P xs ys (λ j e m. a (suc j) e (omega arith))

-- what is reached in a tree is a tree, whose leaves are among its leaves
pub inside : (b : Block) (h : ℕ) (P : Part → Type 0) (box : List Interval) (nodes : List Node) (found : List Interval)
    (rest : List Node) → Reaches b h box nodes found rest → (parts : List Part) (after : List Node)
    → IsTree box nodes parts after → All P parts
    → (ps : List Part) × (behind : List Node) × IsTree found rest ps behind × All P ps
inside b h P box nodes found rest (root x ns) parts after t a = (parts, after, t, a)
inside b h P box nodes found rest (in_left x i c ns f r some cut reach) parts after t a =
    let s = halves x (Split i c ∷ ns) parts after t i c ns refl in
    inside b h P (left_of (i - 1) c x) ns f r reach s.left s.mid s.left_tree
    (All-front P s.left s.right (subst (λ ps. All P ps) (sym s.parts_are) a))
inside b h P box nodes found rest (in_right x i c ns m qs f r some cut first hold reach) parts after t a =
    let s = halves x (Split i c ∷ ns) parts after t i c ns refl in
    let same : s.mid ≡ m = (tree_unique (left_of (i - 1) c x) (left_of (i - 1) c x) ns ns s.left qs s.mid m s.left_tree
    first refl refl).1 in
    inside b h P (right_of (i - 1) c x) m f r reach s.right after
    (subst (λ k. IsTree (right_of (i - 1) c x) k s.right after) same s.right_tree)
    (All-back P s.left s.right (subst (λ ps. All P ps) (sym s.parts_are) a))

only_part : (P : Part → Type 0) (p : Part) (parts : List Part) → p ∷ [] ≡ parts → All P parts → P p
only_part P p parts e a = subst (λ ps. All P ps) (sym e) a 0 p (omega arith)

pub tree_fails : FaultyLeavesFail → (b : Block) (h : ℕ) (cert : Cert) (errors : List ℕ) (f : CheckFault)
    → HasTreeFault b h cert.nodes f
    → IsAccepted b h cert errors → ⊥
tree_fails fail b h cert errors f (bad_cut box i c rest reach outside) a =
    let t = inside b h (λ _. Unit {0}) (whole b) cert.nodes box (Split i c ∷ rest) reach a.parts [] a.tree
    (λ k d l. tt) in
    outside (halves box (Split i c ∷ rest) t.0 t.1 t.2 i c rest refl).cut
tree_fails fail b h cert errors f (bad_leaf box stated rest g reach fault) a =
    let o = fault.output in
    let from = fault.from in
    let to = fault.to in
    let count = a.errors_count in
    let x = some_at b.outputs (o - 1) (omega arith) in
    let e = some_at errors (o - 1) (omega arith) in
    let P : Part → Type 0 = λ p. (n : ℕ) × HasBound b o x.0 h p n × (n ≤ e.0) in
    let each : All P a.parts = (a.greatest o x.0 e.0 from x.1 e.1).each in
    let t = inside b h P (whole b) cert.nodes box (Leaf stated ∷ rest) reach a.parts [] a.tree each in
    let p = part_of box stated in
    let here : P p = only_part P p t.0 (one_part box (Leaf stated ∷ rest) t.0 t.1 t.2 stated rest refl) t.3 in
    bound_fails fail b h p o x.0 here.0 (line_at cert.nodes (Leaf stated ∷ rest)) fault.claim g x.1 fault.claim_is
    fault.is here.1

pub certs_fail : FaultyLeavesFail → ClaimBoundsAreOne → FaultyCertsFail
certs_fail fail one b h cert errors f v (outputs differ) a = differ a.claims_count
certs_fail fail one b h cert errors f v (tree g count t) a = tree_fails fail b h cert errors g t a
certs_fail fail one b h cert errors f v (claimed es k over count accepted) a =
    let same : es ≡ errors =
    errors_unique one b h (record { claims = es; nodes = cert.nodes }) cert es errors refl v accepted a in
    let n = a.claimed k over.error over.claim (subst (λ xs. slice_get xs k ≡ Some over.error) same over.error_is)
    over.claim_is in
    let m = over.over in
    let z : ⊥ = omega arith in z

-- ---- a certificate has one first fault, and a text one answer

-- ---- a leaf's line

one_pair_fault : LeafFaultsAreOne
    → (b : Block) (box : List Interval) (o : ℕ) (pair : the.Leaf) (line : ℕ) (f g : CheckFault)
    → IsPairFault b box o pair line f → IsPairFault b box o pair line g → f ≡ g
one_pair_fault one b box o pair line _ _ (bad_rule n) (bad_rule m) = refl
one_pair_fault one b box o pair line _ _ (bad_rule n) (fails g p e) = absurd (n p)
one_pair_fault one b box o pair line _ _ (fails f p e) (bad_rule m) = absurd (m p)
one_pair_fault one b box o pair line _ _ (fails f p e) (fails g q d) =
    ap (λ (l : LeafFault). fault.Leaf line l) (one b box o pair f g e d)

one_cells_fault : (b : Block) (h : ℕ) (box : List Interval) (o line : ℕ) (f g : CheckFault)
    → IsCellsFault b h box o line f → IsCellsFault b h box o line g → f ≡ g
one_cells_fault b h box o line _ _ (too_many m) (too_many n) = refl
one_cells_fault b h box o line _ _ (too_many m) (unsure few s) = absurd (omega arith)
one_cells_fault b h box o line _ _ (unsure few s) (too_many m) = absurd (omega arith)
one_cells_fault b h box o line _ _ (unsure few s) (unsure also t) = refl

one_claim_fault : LeafFaultsAreOne
    → (b : Block) (h : ℕ) (box : List Interval) (o line : ℕ) (claim : Claim) (f g : CheckFault)
    → IsClaimFault b h box o line claim f → IsClaimFault b h box o line claim g → f ≡ g
one_claim_fault one b h box o line (Pair pair) f g p q = one_pair_fault one b box o pair line f g p q
one_claim_fault one b h box o line Tight f g p q = p.0 ∙ sym q.0
one_claim_fault one b h box o line Cells f g p q = one_cells_fault b h box o line f g p q

-- the output at fault stands before no other that is the first
none_before : FaultyLeavesFail
    → (b : Block) (h : ℕ) (p : Part) (line : ℕ) (f g : CheckFault) (first : HasPartFault b h p line f)
    (other : HasPartFault b h p line g) → other.output ≤ first.output
none_before fail b h p line f g first other = ⊎_elim
    (λ (l : first.output < other.output).
    let from = first.from in
    let to = first.to in
    let x = some_at b.outputs (first.output - 1) (omega arith) in
    absurd (claim_fails fail b h p.box first.output x.0 line first.claim f x.1 first.is
    (other.before first.output first.claim first.from l first.claim_is)))
    (λ (l : other.output ≤ first.output). l)
    (cases_lt first.output other.output)

one_part_fault : LeafFaultsAreOne → FaultyLeavesFail → (b : Block) (h : ℕ) (p : Part) (line : ℕ) (f g : CheckFault)
    → HasPartFault b h p line f → HasPartFault b h p line g → f ≡ g
one_part_fault one fail b h p line f g first second =
    let up = none_before fail b h p line f g first second in
    let down = none_before fail b h p line g f second first in
    let same : first.output ≡ second.output = omega (arith, up, down) in
    let claims : first.claim ≡ second.claim = one_claim first.claim_is
    (ap (λ o. claim_at p.stated (o - 1)) same ∙ second.claim_is) in
    one_claim_fault one b h p.box second.output line second.claim f g
    (subst (λ c. IsClaimFault b h p.box second.output line c f) claims
    (subst (λ o. IsClaimFault b h p.box o line first.claim f) same first.is)) second.is

-- ---- the first node at fault

-- the first of the nodes is at fault on this box
data Stops (b : Block) (h : ℕ) (box : List Interval) (rest : List Node) (line : ℕ) : CheckFault → Type 0 where
  at_cut : (i c : ℕ) (after : List Node) → rest ≡ Split i c ∷ after → (IsCut (i - 1) c box → ⊥)
      → Stops b h box rest line (fault.BadCut line)
  at_leaf : (stated : LeafLine) (after : List Node) (f : CheckFault) → rest ≡ Leaf stated ∷ after
      → HasPartFault b h (part_of box stated) line f → Stops b h box rest line f

no_cut : (b : Block) (h : ℕ) (box : List Interval) (rest : List Node) (line : ℕ) (f : CheckFault) (i c : ℕ)
    (nodes : List Node)
    → Stops b h box rest line f → rest ≡ Split i c ∷ nodes → IsCut (i - 1) c box → ⊥
no_cut b h box rest line _ i c nodes (at_cut j d after e none) same cut =
    let both : Split j d ∷ after ≡ Split i c ∷ nodes = sym e ∙ same in
    let is : j ≡ i = cc in
    let cs : d ≡ c = cc in
    none (subst (λ k. IsCut (k - 1) d box) (sym is) (subst (λ k. IsCut (i - 1) k box) (sym cs) cut))
no_cut b h box rest line _ i c nodes (at_leaf stated after f e part) same cut =
    absurd (let both : Leaf stated ∷ after ≡ Split i c ∷ nodes = sym e ∙ same in let z : ⊥ = cc in z)

no_leaf : FaultyLeavesFail
    → (b : Block) (h : ℕ) (box : List Interval) (stated : LeafLine) (rest : List Node) (line : ℕ) (f : CheckFault)
    → Stops b h box (Leaf stated ∷ rest) line f → AllHold b h (part_of box stated) → ⊥
no_leaf fail b h box stated rest line _ (at_cut j d after e none) hold = absurd (let z : ⊥ = cc in z)
no_leaf fail b h box stated rest line _ (at_leaf other after f e part) hold =
    let same : other ≡ stated = cc in
    let here = subst (λ (a : LeafLine). HasPartFault b h (part_of box a) line f) same part in
    let from = here.from in
    let to = here.to in
    let x = some_at b.outputs (here.output - 1) (omega arith) in
    claim_fails fail b h box here.output x.0 line here.claim f x.1 here.is
    (hold here.output here.claim here.from (omega arith) here.claim_is)

-- a tree whose leaves hold has no node at fault first
no_stop : FaultyLeavesFail
    → (b : Block) (h : ℕ) (box : List Interval) (nodes : List Node) (parts : List Part) (after : List Node) (line : ℕ)
    (f : CheckFault) → IsTree box nodes parts after → All (AllHold b h) parts → Stops b h box nodes line f → ⊥
no_stop fail b h box nodes parts after line f (leaf x stated rest) all stop =
    no_leaf fail b h x stated rest line f stop (all 0 (part_of x stated) (omega arith))
no_stop fail b h box nodes parts after line f (split x i c n m rest left right some cut tl tr) all stop =
    no_cut b h x (Split i c ∷ n) line f i c n stop refl cut

none_inside : FaultyLeavesFail
    → (b : Block) (h : ℕ) (box : List Interval) (nodes : List Node) (parts : List Part) (after : List Node)
    (found : List Interval) (rest : List Node) (line : ℕ) (f : CheckFault)
    → IsTree box nodes parts after → All (AllHold b h) parts → Reaches b h box nodes found rest
    → Stops b h found rest line f → ⊥
none_inside fail b h box nodes parts after found rest line f t all reach stop =
    let i = inside b h (AllHold b h) box nodes found rest reach parts after t all in
    no_stop fail b h found rest i.0 i.1 line f i.2 i.3 stop

same_side : (side : ℕ → ℕ → List Interval → List Interval) (i j c d : ℕ) (x y : List Interval) → i ≡ j → c ≡ d → x ≡ y
    → side (i - 1) c x ≡ side (j - 1) d y
same_side side i j c d x y e1 e2 e3 = cc

-- what stands first at fault in a tree stands at one place
one_place : FaultyLeavesFail
    → (b : Block) (h : ℕ) (x y : List Interval) (ns ms : List Node) (found found' : List Interval)
    (rest rest' : List Node)
    (line line' : ℕ) (f g : CheckFault) → x ≡ y → ns ≡ ms
    → Reaches b h x ns found rest → Stops b h found rest line f → Reaches b h y ms found' rest'
    → Stops b h found' rest' line' g
    → (found ≡ found') × (rest ≡ rest')
one_place fail b h x y ns ms _ _ _ _ line line' f g ex en (root _ _) stop (root _ _) stop' = (ex, en)
one_place fail b h x y ns ms _ _ _ _ line line' f g ex en (root _ _) stop
    (in_left _ i c n found' rest' some cut reach) stop' =
    absurd (no_cut b h x ns line f i c n stop en (subst (λ v. IsCut (i - 1) c v) (sym ex) cut))
one_place fail b h x y ns ms _ _ _ _ line line' f g ex en (root _ _) stop
    (in_right _ i c n m ps found' rest' some cut t hold reach) stop' =
    absurd (no_cut b h x ns line f i c n stop en (subst (λ v. IsCut (i - 1) c v) (sym ex) cut))
one_place fail b h x y ns ms _ _ _ _ line line' f g ex en (in_left _ i c n found rest some cut reach) stop
    (root _ _) stop' =
    absurd (no_cut b h y ms line' g i c n stop' (sym en) (subst (λ v. IsCut (i - 1) c v) ex cut))
one_place fail b h x y ns ms _ _ _ _ line line' f g ex en (in_right _ i c n m ps found rest some cut t hold reach) stop
    (root _ _) stop' =
    absurd (no_cut b h y ms line' g i c n stop' (sym en) (subst (λ v. IsCut (i - 1) c v) ex cut))
one_place fail b h x y ns ms _ _ _ _ line line' f g ex en (in_left _ i c n found rest some cut reach) stop
    (in_left _ j d k found' rest' some' cut' reach') stop' =
    let is : i ≡ j = cc in
    let cs : c ≡ d = cc in
    let ks : n ≡ k = cc in
    one_place fail b h (left_of (i - 1) c x) (left_of (j - 1) d y) n k found found' rest rest' line line' f g
    (same_side left_of i j c d x y is cs ex) ks reach stop reach' stop'
one_place fail b h x y ns ms _ _ _ _ line line' f g ex en (in_left _ i c n found rest some cut reach) stop
    (in_right _ j d k m ps found' rest' some' cut' t hold reach') stop' =
    let is : i ≡ j = cc in
    let cs : c ≡ d = cc in
    let ks : n ≡ k = cc in
    let same = same_side left_of i j c d x y is cs ex in
    absurd (none_inside fail b h (left_of (i - 1) c x) n ps m found rest line f
    (subst (λ v. IsTree v n ps m) (sym same) (subst (λ v. IsTree (left_of (j - 1) d y) v ps m) (sym ks) t)) hold
    reach stop)
one_place fail b h x y ns ms _ _ _ _ line line' f g ex en (in_right _ i c n m ps found rest some cut t hold reach) stop
    (in_left _ j d k found' rest' some' cut' reach') stop' =
    let is : i ≡ j = cc in
    let cs : c ≡ d = cc in
    let ks : n ≡ k = cc in
    let same = same_side left_of i j c d x y is cs ex in
    absurd (none_inside fail b h (left_of (j - 1) d y) k ps m found' rest' line' g
    (subst (λ v. IsTree v k ps m) same (subst (λ v. IsTree (left_of (i - 1) c x) v ps m) ks t)) hold reach' stop')
one_place fail b h x y ns ms _ _ _ _ line line' f g ex en (in_right _ i c n m ps found rest some cut t hold reach) stop
    (in_right _ j d k o qs found' rest' some' cut' t' hold' reach') stop' =
    let is : i ≡ j = cc in
    let cs : c ≡ d = cc in
    let ks : n ≡ k = cc in
    let left = same_side left_of i j c d x y is cs ex in
    let mids = (tree_unique (left_of (i - 1) c x) (left_of (j - 1) d y) n k ps qs m o t t' left ks).1 in
    one_place fail b h (right_of (i - 1) c x) (right_of (j - 1) d y) m o found found' rest rest' line line' f g
    (same_side right_of i j c d x y is cs ex) mids reach stop reach' stop'

record StopsAt (b : Block) (h : ℕ) (nodes : List Node) (f : CheckFault) : Type 0 where
  box : List Interval
  rest : List Node
  reached : Reaches b h (whole b) nodes box rest
  stops : Stops b h box rest (line_at nodes rest) f

stops_at : (b : Block) (h : ℕ) (nodes : List Node) (f : CheckFault) → HasTreeFault b h nodes f → StopsAt b h nodes f
stops_at b h nodes _ (bad_cut box i c rest reach none) =
    record { box = box; rest = Split i c ∷ rest; reached = reach; stops = at_cut i c rest refl none }
stops_at b h nodes f (bad_leaf box stated rest g reach part) =
    record { box = box; rest = Leaf stated ∷ rest; reached = reach; stops = at_leaf stated rest f refl part }

one_stop : LeafFaultsAreOne → FaultyLeavesFail
    → (b : Block) (h : ℕ) (box : List Interval) (rest : List Node) (line : ℕ) (f g : CheckFault)
    → Stops b h box rest line f
    → Stops b h box rest line g → f ≡ g
one_stop one fail b h box rest line _ _ (at_cut i c after e none) (at_cut j d after' e' none') = refl
one_stop one fail b h box rest line _ _ (at_cut i c after e none) (at_leaf stated after' g e' part) =
    absurd (let both : Split i c ∷ after ≡ Leaf stated ∷ after' = sym e ∙ e' in let z : ⊥ = cc in z)
one_stop one fail b h box rest line _ _ (at_leaf stated after f e part) (at_cut j d after' e' none') =
    absurd (let both : Leaf stated ∷ after ≡ Split j d ∷ after' = sym e ∙ e' in let z : ⊥ = cc in z)
one_stop one fail b h box rest line _ _ (at_leaf stated after f e part) (at_leaf other after' g e' part') =
    let both : Leaf stated ∷ after ≡ Leaf other ∷ after' = sym e ∙ e' in
    let same : stated ≡ other = cc in
    one_part_fault one fail b h (part_of box other) line f g
    (subst (λ (a : LeafLine). HasPartFault b h (part_of box a) line f) same part) part'

one_tree_fault : LeafFaultsAreOne → FaultyLeavesFail → (b : Block) (h : ℕ) (nodes : List Node) (f g : CheckFault)
    → HasTreeFault b h nodes f → HasTreeFault b h nodes g → f ≡ g
one_tree_fault one fail b h nodes f g first second =
    let p = stops_at b h nodes f first in
    let q = stops_at b h nodes g second in
    let at = one_place fail b h (whole b) (whole b) nodes nodes p.box q.box p.rest q.rest (line_at nodes p.rest)
    (line_at nodes q.rest) f g refl refl p.reached p.stops q.reached q.stops in
    one_stop one fail b h q.box q.rest (line_at nodes q.rest) f g
    (subst (λ x. Stops b h x q.rest (line_at nodes q.rest) f) at.0
    (subst (λ r. Stops b h p.box r (line_at nodes r) f) at.1 p.stops)) q.stops

-- ---- the claims come last

no_earlier : (errors claims : List ℕ) (j k : ℕ) (first : IsFirstOver errors claims j)
    (other : IsFirstOver errors claims k) → k ≤ j
no_earlier errors claims j k first other = ⊎_elim
    (λ (l : j < k). absurd
    (let a = other.before j first.error first.claim l first.error_is first.claim_is in let o = first.over in
    let z : ⊥ = omega arith in z))
    (λ (l : k ≤ j). l)
    (cases_lt j k)

one_claimed : (errors claims : List ℕ) (j k : ℕ) (first : IsFirstOver errors claims j)
    (second : IsFirstOver errors claims k)
    → fault.Claimed (j + 1) first.claim first.error ≡ fault.Claimed (k + 1) second.claim second.error
one_claimed errors claims j k first second =
    let up = no_earlier errors claims j k first second in
    let down = no_earlier errors claims k j second first in
    let same : j ≡ k = omega (arith, up, down) in
    let next : j + 1 ≡ k + 1 = ap (λ n. n + 1) same in
    let claims_are : Some first.claim ≡ Some second.claim = sym first.claim_is ∙ ap (λ n. slice_get claims n) same
    ∙ second.claim_is in
    let errors_are : Some first.error ≡ Some second.error = sym first.error_is ∙ ap (λ n. slice_get errors n) same
    ∙ second.error_is in
    let one_claim : first.claim ≡ second.claim = cc in
    let one_error : first.error ≡ second.error = cc in
    cc

one_claimed_fault : (es fs claims : List ℕ) (j k : ℕ) → es ≡ fs
    → (first : IsFirstOver es claims j) (second : IsFirstOver fs claims k)
    → fault.Claimed (j + 1) first.claim first.error ≡ fault.Claimed (k + 1) second.claim second.error
one_claimed_fault es fs claims j k same first second =
    subst (λ xs. (f : IsFirstOver xs claims j)
    → fault.Claimed (j + 1) f.claim f.error ≡ fault.Claimed (k + 1) second.claim second.error) (sym same)
    (λ f. one_claimed fs claims j k f second) first

abbrev with_claims : List ℕ → Cert → Cert
with_claims errors cert = record { claims = errors; nodes = cert.nodes }

pub check_faults_are_one : LeafFaultsAreOne → FaultyLeavesFail → ClaimBoundsAreOne → CheckFaultsAreOne
check_faults_are_one one fail unique b h cert _ _ v (outputs differ) (outputs also) = refl
check_faults_are_one one fail unique b h cert _ _ v (outputs differ) (tree g count t) = absurd (differ count)
check_faults_are_one one fail unique b h cert _ _ v (outputs differ) (claimed es k over count accepted) =
    absurd (differ count)
check_faults_are_one one fail unique b h cert _ _ v (tree f count t) (outputs also) = absurd (also count)
check_faults_are_one one fail unique b h cert _ _ v (tree f count t) (tree g also s) =
    one_tree_fault one fail b h cert.nodes f g t s
check_faults_are_one one fail unique b h cert _ _ v (tree f count t) (claimed es k over also accepted) =
    absurd (tree_fails fail b h (with_claims es cert) es f t accepted)
check_faults_are_one one fail unique b h cert _ _ v (claimed es k over count accepted) (outputs also) =
    absurd (also count)
check_faults_are_one one fail unique b h cert _ _ v (claimed es k over count accepted) (tree g also t) =
    absurd (tree_fails fail b h (with_claims es cert) es g t accepted)
check_faults_are_one one fail unique b h cert _ _ v (claimed es k over count accepted) (claimed fs j under also too) =
    one_claimed_fault es fs cert.claims k j
    (errors_unique unique b h (with_claims es cert) (with_claims fs cert) es fs refl v accepted too) over under

-- ---- a text's answer

pub text_answers_are_one : FaultyLeavesFail → ClaimBoundsAreOne → CertsAreOne → FaultsAreOne → CertTextsHaveNoFault
    → CheckFaultsAreOne → TextAnswersAreOne
text_answers_are_one fail unique certs faults faultless checks b h format text (Ok es) (Ok fs) v x y =
    let same = (certs format format text x.cert y.cert x.spelled y.spelled).1 in
    ap (λ (l : List ℕ). Ok l)
    (errors_unique unique b h x.cert y.cert es fs (ap (λ (c : Cert). c.nodes) same) v x.accepted y.accepted)
text_answers_are_one fail unique certs faults faultless checks b h format text (Ok es) (Err _) v x
    (of_text f h') =
    absurd (faultless format text x.cert f x.spelled h')
text_answers_are_one fail unique certs faults faultless checks b h format text (Ok es) (Err _) v x
    (of_cert cert f spelled h') =
    let same = (certs format format text cert x.cert spelled x.spelled).1 in
    absurd (certs_fail fail unique b h x.cert es f v (subst (λ c. HasCheckFault b h c f) same h') x.accepted)
text_answers_are_one fail unique certs faults faultless checks b h format text (Err _) (Ok fs) v (of_text f h')
    y =
    absurd (faultless format text y.cert f y.spelled h')
text_answers_are_one fail unique certs faults faultless checks b h format text (Err _) (Ok fs) v
    (of_cert cert f spelled h') y =
    let same = (certs format format text cert y.cert spelled y.spelled).1 in
    absurd (certs_fail fail unique b h y.cert fs f v (subst (λ c. HasCheckFault b h c f) same h') y.accepted)
text_answers_are_one fail unique certs faults faultless checks b h format text (Err _) (Err _) v (of_text f h')
    (of_text g k') = ap (λ (l : CertFault). Err (refusal.Text l)) (faults format text f g h' k')
text_answers_are_one fail unique certs faults faultless checks b h format text (Err _) (Err _) v (of_text f h')
    (of_cert cert g spelled k') = absurd (faultless format text cert f spelled h')
text_answers_are_one fail unique certs faults faultless checks b h format text (Err _) (Err _) v
    (of_cert cert f spelled h') (of_text g k') = absurd (faultless format text cert g spelled k')
text_answers_are_one fail unique certs faults faultless checks b h format text (Err _) (Err _) v
    (of_cert cert f spelled h') (of_cert other g spelled' k') =
    let same = (certs format format text cert other spelled spelled').1 in
    ap (λ (l : CheckFault). Err (refusal.Check l))
    (checks b h other f g v (subst (λ c. HasCheckFault b h c f) same h') k')
