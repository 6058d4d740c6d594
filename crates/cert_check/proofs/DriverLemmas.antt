-- A walk that is driven over a tree, or over a text as it is read.
use Rattle.std.proofs.Common.{◌≡◌, ℕ, zero, suc, ◌+◌, ◌<◌, ◌≤◌, List, [], ◌∷◌, ◌++◌, length, take, drop, get_or}
use Rattle.std.proofs.Common.{take-append-drop, add-one, Some, refl, sym, ap, ◌∙◌, subst, arith}
use Rattle.std.proofs.Math.Seq.{take-suc}
use Rattle.std.specs.Prelude.{◌≢◌, All, Result, Ok, Err, IfOk, IfErr}
use Rattle.std.specs.Global.{Vec}
use Rattle.fuzzy_meaning.specs.declared.block.Block.{Block}
use Rattle.box_tree.specs.declared.cert.Node.TheVariants.{Split, Leaf}
use Rattle.box_tree.specs.{Certificates.IsNode, Certificates.IsCert, Certificates.CertText, declared.lines.Lines.Lines}
use Rattle.box_tree.specs.{Reading.HasRead, Reading.claims_of, Reading.cert_of}
use Rattle.box_tree.specs.declared.{cert.CertFormat.CertFormat, cert.CertKind.CertKind}
use Rattle.box_tree.specs.{Trees.IsTree, Trees.open_from, Trees.leaf_count, declared.cert.Node.Node}
use Rattle.box_tree.specs.declared.cert.Cert.{Cert}
use Rattle.byte_scaling.specs.Widths.{parts as parts_of}
use Rattle.cert_check.specs.Walks.{HasWalkFault, AreWalkErrors}
use Rattle.cert_check.specs.TextFaults.{IsAcceptedText, HasTextFault, of_cert}
use Rattle.cert_check.specs.{Walks.cert_over, Walks.AreFirst, Walks.HasTaken, Walks.IsSameTask, Faults.HasCheckFault}
use Rattle.cert_check.specs.{declared.checker.CheckFault.CheckFault, declared.walk.Walk.Walk, Acceptance.IsAccepted}
use Rattle.cert_check.proofs.WalkLemmas.{leaves-front}
use Rattle.cert_check.specs.declared.checker.CheckFault.TheVariants as fault
use Rattle.cert_check.specs.declared.text.TextFault.TheVariants as refusal

-- the walk is over a certificate with these claims
pub record IsWalkOver (b : Block) (claims : List ℕ) (h : ℕ) (w : Walk) : Type 0 where
  pub block : w.table.block.now ≡ b
  pub claims_are : w.claims.now ≡ claims
  pub parts : parts_of w.table.width ≡ h

pub still_over : (b : Block) (claims : List ℕ) (h : ℕ) (w v : Walk) → IsWalkOver b claims h w → IsSameTask v w
    → IsWalkOver b claims h v
still_over b claims h w v over same = record {
  block = ap (λ t. t.block.now) same.table ∙ over.block;
  claims_are = ap (λ x. x.now) same.claims ∙ over.claims_are;
  parts = ap (λ t. parts_of t.width) same.table ∙ over.parts;
}

module _ (b : Block) (claims : List ℕ) (h : ℕ) (w : Walk) (over : IsWalkOver b claims h w) (nodes : List Node) where
  abbrev the_cert : Cert
  the_cert = record { claims = claims; nodes = nodes }

  cert_is : cert_over w nodes ≡ the_cert
  cert_is = ap (λ (cs : List ℕ). record { claims = cs; nodes = nodes }) over.claims_are

  pub accepted_over : (errors : List ℕ) → AreWalkErrors w nodes errors
      → IsAccepted b h the_cert errors
  accepted_over errors a =
      subst (λ x. IsAccepted x h the_cert errors) over.block
      (subst (λ p. IsAccepted w.table.block.now p the_cert errors) over.parts
      (subst (λ c. IsAccepted w.table.block.now (parts_of w.table.width) c errors) cert_is a))

  pub fault_over : (f : CheckFault) → HasWalkFault w nodes f
      → HasCheckFault b h the_cert f
  fault_over f a = subst (λ x. HasCheckFault x h the_cert f) over.block
      (subst (λ p. HasCheckFault w.table.block.now p the_cert f) over.parts
      (subst (λ c. HasCheckFault w.table.block.now (parts_of w.table.width) c f) cert_is a))

-- ---- the nodes of a tree, one by one

opens-front : (k m : ℕ) (nodes more : List Node) → open_from k (nodes ++ more) ≡ Some m
    → (n : ℕ) × (open_from k nodes ≡ Some n)
opens-front k m [] more e = (k, refl)
opens-front zero m (node ∷ nodes) more e = absurd (let z : ⊥ = cc in z)
opens-front (suc k) m (Split i c ∷ nodes) more e = opens-front (suc (suc k)) m nodes more e
opens-front (suc k) m (Leaf stated ∷ nodes) more e = opens-front k m nodes more e

All-take : {X : Type 0} (P : X → Type 0) (xs : List X) (k : ℕ) → All P xs → All P (take k xs)
All-take P xs zero all j d l = absurd (omega arith)
All-take P [] (suc k) all j d l = absurd (omega arith)
All-take P (x ∷ xs) (suc k) all zero d l = all 0 d (omega arith)
All-take P (x ∷ xs) (suc k) all (suc j) d l = All-take P xs k (λ i e m. all (suc i) e (omega arith)) j d (omega arith)

-- a node of a certificate's kind, which may be either
any_kind : (kind : CertKind) (width : ℕ) (nodes : List Node) → All (IsNode kind width) nodes
    → All (λ node. (k : CertKind) × IsNode k width node) nodes
any_kind kind width nodes all k d l = (kind, all k d l)

are_first : (kind : CertKind) (cert : Cert) (k : ℕ) → IsCert kind cert
    → AreFirst (length cert.claims) (take k cert.nodes)
are_first kind cert k good =
    let parts : take k cert.nodes ++ drop k cert.nodes ≡ cert.nodes = take-append-drop k cert.nodes in
    let leaves = leaves-front (take k cert.nodes) (drop k cert.nodes) in
    let few = good.few_leaves in
    record {
      good = any_kind kind (length cert.claims) (take k cert.nodes)
          (All-take (IsNode kind (length cert.claims)) cert.nodes k good.nodes);
      opens = opens-front 1 0 (take k cert.nodes) (drop k cert.nodes) (ap (λ ns. open_from 1 ns) parts ∙ good.tree);
      few_leaves = omega (arith, leaves, few, ap leaf_count parts);
    }

take_next : (nodes : List Node) (k : ℕ) (node : Node) → k < length nodes → node ≡ get_or nodes k node
    → take (k + 1) nodes ≡ take k nodes ++ node ∷ []
take_next nodes k node within is = ap (λ n. take n nodes) (add-one k) ∙ take-suc nodes k node within
    ∙ ap (λ (n : Node). take k nodes ++ n ∷ []) (sym is)

take_all : (nodes : List Node) (k : ℕ) → length nodes ≤ k → take k nodes ≡ nodes
take_all [] zero l = refl
take_all [] (suc k) l = refl
take_all (node ∷ nodes) zero l = absurd (omega arith)
take_all (node ∷ nodes) (suc k) l = ap (λ (ns : List Node). node ∷ ns) (take_all nodes k (omega arith))

-- ---- the nodes of a text, as far as it is read

pub first_of_text : (format : CertFormat) (text : List ℕ) (nodes : List Node) (lines : Lines)
    → HasRead format text nodes lines → AreFirst (length (claims_of lines)) nodes
first_of_text format text nodes lines read =
    record {
      good = any_kind format.kind (length (claims_of lines)) nodes read.begins.good_nodes;
      opens = (lines.open_boxes, read.begins.left_open);
      few_leaves =
          read.begins.few_leaves;
    }

IfOk-then : {A E : Type 0} (P Q : A → Type 0) (r : Result A E) → ((x : A) → P x → Q x) → IfOk r P → IfOk r Q
IfOk-then P Q (Ok x) f p = f x p
IfOk-then P Q (Err e) f p = tt

IfErr-then : {A E : Type 0} (P Q : E → Type 0) (r : Result A E) → ((e : E) → P e → Q e) → IfErr r P → IfErr r Q
IfErr-then P Q (Ok x) f p = tt
IfErr-then P Q (Err e) f p = f e p

-- ---- a walk over a certificate, behind its first k nodes

module _ (b : Block) (h : ℕ) (cert : Cert) (w : Walk) (over : IsWalkOver b cert.claims h w)
    (is_cert : (kind : CertKind) × IsCert kind cert) (k : ℕ) where
  -- the next node, which is read of a slice
  module _ (nodes : List Node) (node : Node) (same : nodes ≡ cert.nodes) (within : k < length nodes)
      (is : node ≡ get_or nodes k node) where
    take-next : take (k + 1) cert.nodes ≡ take k cert.nodes ++ node ∷ []
    take-next = take_next cert.nodes k node (subst (λ (ns : List Node). k < length ns) same within)
        (subst (λ (ns : List Node). node ≡ get_or ns k node) same is)

    -- the walk may take it
    pub AreFirst-next : AreFirst (length w.claims.now) (take k cert.nodes ++ node ∷ [])
    AreFirst-next = subst (λ cs. AreFirst (length cs) (take k cert.nodes ++ node ∷ [])) (sym over.claims_are)
        (subst (λ ns. AreFirst (length cert.claims) ns) take-next (are_first is_cert.0 cert (k + 1) is_cert.1))

    -- and is behind it then
    pub HasTaken-next : (v : Walk) → HasTaken (take k cert.nodes) w
        → ((ns : List Node) → HasTaken ns w → AreFirst (length w.claims.now) (ns ++ node ∷ [])
        → HasTaken (ns ++ node ∷ []) v) → HasTaken (take (k + 1) cert.nodes) v
    HasTaken-next v taken more =
        subst (λ ns. HasTaken ns v) (sym take-next) (more (take k cert.nodes) taken AreFirst-next)

  -- the last node is behind it
  module _ (nodes : List Node) (same : nodes ≡ cert.nodes) (end : length nodes ≤ k)
      (taken : HasTaken (take k cert.nodes) w) where
    HasTaken-all : HasTaken cert.nodes w
    HasTaken-all =
        let all = take_all cert.nodes k (subst (λ (ns : List Node). length ns ≤ k) same end) in
        subst (λ ns. HasTaken ns w) all taken

    -- what it answers is of the certificate
    pub IsAccepted-all : (r : Result (Vec ℕ) CheckFault)
        → ((ns : List Node) → HasTaken ns w → IsTree ns
        → IfOk r (λ es. AreWalkErrors w ns es.items))
        → IfOk r (λ es. IsAccepted b h cert es.items)
    IsAccepted-all r accepted =
        IfOk-then (λ (es : Vec ℕ). AreWalkErrors w cert.nodes es.items)
        (λ es. IsAccepted b h cert es.items) r
        (λ es a. accepted_over b cert.claims h w over cert.nodes es.items a)
        (accepted cert.nodes HasTaken-all is_cert.1.tree)

    pub HasCheckFault-all : (r : Result (Vec ℕ) CheckFault)
        → ((ns : List Node) → HasTaken ns w → IsTree ns
        → IfErr r (HasWalkFault w ns))
        → IfErr r (λ f. f ≢ fault.Memory → HasCheckFault b h cert f)
    HasCheckFault-all r faulty =
        IfErr-then (λ (f : CheckFault). HasWalkFault w cert.nodes f)
        (λ f. f ≢ fault.Memory → HasCheckFault b h cert f) r
        (λ f a real. fault_over b cert.claims h w over cert.nodes f a)
        (faulty cert.nodes HasTaken-all is_cert.1.tree)

-- ---- a walk that is driven over a text as it is read

-- the walk has taken the nodes that are read of a text, whose lines were these when no node was read
pub record IsWalkOverText (b : Block) (h : ℕ) (begun lines : Lines) (w : Walk) : Type 0 where
  pub over : IsWalkOver b (claims_of lines) h w
  pub taken : (format : CertFormat) (text : List ℕ) → HasRead format text [] begun
      → (nodes : List Node) × HasRead format text nodes lines × HasTaken nodes w

module _ {b : Block} {h : ℕ} {begun lines : Lines} {w : Walk} (is : IsWalkOverText b h begun lines w) where
  -- there are such nodes where there is such a text
  pub HasTaken-some : (format : CertFormat) × (text : List ℕ) × HasRead format text [] begun
      → (nodes : List Node) × HasTaken nodes w
  HasTaken-some r = let t = is.taken r.0 r.1 r.2 in (t.0, t.2)

  -- ---- one more node is read

  module _ (next : Lines) (node : Node) (claims : claims_of next ≡ claims_of lines)
      (more : (format : CertFormat) (text : List ℕ) (nodes : List Node) → HasRead format text nodes lines
      → HasRead format text (nodes ++ node ∷ []) next) where
    AreFirst-read : (format : CertFormat) (text : List ℕ) (nodes : List Node) → HasRead format text nodes lines
        → AreFirst (length w.claims.now) (nodes ++ node ∷ [])
    AreFirst-read format text nodes read =
        subst (λ (cs : List ℕ). AreFirst (length cs) (nodes ++ node ∷ [])) (claims ∙ sym is.over.claims_are)
        (first_of_text format text (nodes ++ node ∷ []) next (more format text nodes read))

    -- the walk may take it
    pub AreFirst-some : (format : CertFormat) × (text : List ℕ)
        × HasRead format text [] begun
        → (nodes : List Node) × HasTaken nodes w × AreFirst (length w.claims.now) (nodes ++ node ∷ [])
    AreFirst-some r = let t = is.taken r.0 r.1 r.2 in (t.0, t.2, AreFirst-read r.0 r.1 t.0 t.1)

    -- and is behind it then
    pub IsWalkOverText-more : (v : Walk) → IsSameTask v w
        → ((nodes : List Node) → HasTaken nodes w → AreFirst (length w.claims.now) (nodes ++ node ∷ [])
        → HasTaken (nodes ++ node ∷ []) v) → IsWalkOverText b h begun next v
    IsWalkOverText-more v same take = record {
      over = still_over b (claims_of next) h w v
          (subst (λ (cs : List ℕ). IsWalkOver b cs h w) (sym claims) is.over) same;
      taken = λ format text first.
          let t = is.taken format text first in
          let read = AreFirst-read format text t.0 t.1 in
          (t.0 ++ node ∷ [], more format text t.0 t.1, take t.0 t.2 read);
    }

  -- ---- the text is read to its end

  module _ (ended : (format : CertFormat) (text : List ℕ) (nodes : List Node)
      → HasRead format text nodes lines
      → CertText format text (cert_of lines nodes)) (format : CertFormat) (text : List ℕ)
      (first : HasRead format text [] begun) where
    IsTree-read : IsTree (is.taken format text first).0
    IsTree-read =
        let t = is.taken format text first in
        (ended format text t.0 t.1).good.tree

    -- its certificate is accepted as that of the nodes is
    pub IsAcceptedText-read : (errors : List ℕ)
        → ((nodes : List Node) → HasTaken nodes w → IsTree nodes
        → AreWalkErrors w nodes errors) → IsAcceptedText b h format text errors
    IsAcceptedText-read errors accepted =
        let t = is.taken format text first in
        record {
          cert = cert_of lines t.0;
          spelled = ended format text t.0 t.1;
          accepted = accepted_over b (claims_of lines) h w is.over t.0 errors (accepted t.0 t.2 IsTree-read);
        }

    -- or has its fault
    pub HasTextFault-read : (f : CheckFault)
        → ((nodes : List Node) → HasTaken nodes w → IsTree nodes
        → HasWalkFault w nodes f) → HasTextFault b h format text
        (refusal.Check f)
    HasTextFault-read f fault =
        let t = is.taken format text first in
        of_cert (cert_of lines t.0) f (ended format text t.0 t.1)
        (fault_over b (claims_of lines) h w is.over t.0 f (fault t.0 t.2 IsTree-read))
