-- What an accepted certificate says, and certificates that are accepted where another is.
use Rattle.std.proofs.Common.{◌≡◌, ℕ, zero, suc, ◌≤◌, List, [], ◌∷◌, length, map, Bool, true, Some, refl, sym, ap, ap₂}
use Rattle.std.proofs.Common.{◌∙◌, subst, arith, mul-pos, ⊎_elim, ◌+◌, ◌-◌, ◌<◌, ◌++◌, Option, None}
use Rattle.std.proofs.{lemmas.List.append_cancel_left, lemmas.List.map-id, lemmas.List.map-append, lemmas.Int.ints}
use Rattle.std.proofs.{lemmas.Option.slice_get_within, lemmas.Bool.Decides.nat_tests, lemmas.Bool.cases_lt}
use Rattle.std.specs.Prelude.{nat_le, ◌&&◌, slice_get, fold, All, ◌≢◌}
use Rattle.std.specs.Option.{option_map}
use Rattle.fz_num.specs.{Fractions.Quotient, Fractions.IsClose, declared.dec.Dec.Dec, Decimals.distance}
use Rattle.fuzzy_meaning.specs.Blocks.{IsValid, IsValidInput, AreInputs, output_at}
use Rattle.fuzzy_meaning.specs.{Meaning.answer_after, Meaning.first_answer, declared.block.Output.Output}
use Rattle.fuzzy_meaning.specs.{declared.block.Block.Block, declared.block.Input.Input}
use Rattle.fz_list.proofs.Algebra.{All-slice_get, some_at, All-cons, All-none}
use Rattle.byte_scaling.specs.Cells.{byte_of, bytes_of, LiesInCell, NumbersLieInTheirCells, value_in}
use Rattle.byte_scaling.specs.declared.width.Width.TheVariants.{Byte, Word}
use Rattle.point_slope.specs.Bytes.{answer_in}
use Rattle.error_bound.specs.TightLaws.{IsAnsweredWithin, kept, near}
use Rattle.error_bound.specs.{declared.boxes.Interval.Interval, Boxes.IsBoxOf, Boxes.LieInCells, MassRanges.AreOverBox}
use Rattle.cell_bounds.specs.Claims.{ClaimAnswersAreNear, NamesNoCells, ClaimBoundsFallWithParts, TightClaimsAreLeast}
use Rattle.cell_bounds.specs.declared.claims.Claim.TheVariants.{Pair, Tight}
use Rattle.cell_bounds.specs.declared.claims.Claim.{Claim}
use Rattle.fz_num.proofs.Algebra.{IsClose-more}
use Rattle.box_tree.specs.declared.cert.Node.TheVariants.{Split, Leaf}
use Rattle.box_tree.specs.Texts.{claim_line, format_of, node_lines, version_line}
use Rattle.box_tree.specs.declared.cert.LeafLine.{LeafLine}
use Rattle.box_tree.specs.{Certificates.IsNode, Certificates.IsCert, Trees.open_from, Trees.leaf_count}
use Rattle.box_tree.specs.{declared.cert.Cert.Cert, declared.cert.Node.Node}
use Rattle.cert_check.specs.Laws.{AcceptedAnswersAreNear, AreNoHigher, NamedCertsHaveNoCells, WideIsAccepted}
use Rattle.cert_check.specs.Laws.{WideTextsAreAccepted, tight_line, tight_node, tight_cert, TightIsAccepted}
use Rattle.cert_check.specs.Trees.{Part, IsTree, lies, whole, leaf, split, left_of, right_of}
use Rattle.cert_check.specs.Acceptance.{HasBound, IsGreatestBound, IsAccepted, claim_at}
use Rattle.cert_check.specs.Laws.{TightTextsAreAccepted}
use Rattle.cert_check.proofs.TreeLemmas.{one_leaf, leaf_with, LieIn-lies, All-both, boxes_are, whole_is, lines_are, listed}
use Rattle.cert_check.proofs.TreeLemmas.{some_leaf}
use Rattle.box_tree.specs.declared.cert.CertKind.TheVariants as kind
use Rattle.box_tree.specs.declared.cert.LeafLine.TheVariants as leaf_line

-- the bytes of numbers within their ranges
byte_of-le : (i : Input) (x : Dec) → byte_of i x ≤ 255
byte_of-le i x = omega arith

bytes-count : (is : List Input) (xs : List Dec) → length xs ≡ length is → length (bytes_of is xs) ≡ length is
bytes-count [] xs h = refl
bytes-count (i ∷ is) [] h = absurd (omega arith)
bytes-count (i ∷ is) (x ∷ xs) h = ap suc (bytes-count is xs (omega arith))

in_whole : (n : ℕ) (k : Bool) → n ≤ 255 → k ≡ true → (nat_le 0 n && (nat_le n 255 && k)) ≡ true
in_whole n k h e = grind (arith, nat_tests)

bytes-lie : (is : List Input) (xs : List Dec) → length xs ≡ length is
    → lies (bytes_of is xs) (map (λ _. record { from = 0; to = 255 }) is) ≡ true
bytes-lie [] xs h = refl
bytes-lie (i ∷ is) [] h = absurd (omega arith)
bytes-lie (i ∷ is) (x ∷ xs) h =
    in_whole (byte_of i x) (lies (bytes_of is xs) (map (λ _. record { from = 0; to = 255 }) is)) (byte_of-le i x)
    (bytes-lie is xs (omega arith))

bytes-at : (is : List Input) (xs : List Dec) (k : ℕ) (i : Input) (n : ℕ) (x : Dec) → slice_get is k ≡ Some i
    → slice_get (bytes_of is xs) k ≡ Some n → slice_get xs k ≡ Some x → byte_of i x ≡ n
bytes-at [] xs k i n x ei en ex = absurd (let z : ⊥ = cc in z)
bytes-at (j ∷ is) [] k i n x ei en ex = absurd (let z : ⊥ = cc in z)
bytes-at (j ∷ is) (y ∷ xs) (suc k) i n x ei en ex = bytes-at is xs k i n x ei en ex
bytes-at (j ∷ is) (y ∷ xs) zero i n x ei en ex =
    let e1 : j ≡ i = cc in
    let e2 : y ≡ x = cc in
    let e3 : byte_of j y ≡ n = cc in
    ap₂ byte_of (sym e1) (sym e2) ∙ e3

bytes-cells : NumbersLieInTheirCells → (b : Block) (xs : List Dec) → IsValid b → AreInputs b xs
    → LieInCells b (bytes_of b.inputs xs) xs
bytes-cells in_cells b xs v a = record {
  inputs = a;
  count = bytes-count b.inputs xs a.count;
  cell = λ k i n x ei en ex.
      let vi : IsValidInput i = All-slice_get IsValidInput b.inputs k i v.inputs ei in
      let w = a.within k i x ei ex in
      subst (λ m. LiesInCell i m x) (bytes-at b.inputs xs k i n x ei en ex) (in_cells i x vi.range w);
}

-- what stays near stays so where both answers are kept
still_near : (x : Output) (n e q q' : ℕ) (value : ℕ → Quotient) (before after : Quotient) → n ≤ e
    → IsAnsweredWithin x n q q' (value q') before after → IsClose (distance x.lo x.hi) e (value q) before
    → IsClose (distance x.lo x.hi) e (value q') after
still_near x n e q q' value before after h (near is) c = IsClose-more (distance x.lo x.hi) n e (value q') after h is
still_near x n e q q' value before after h (kept nc same also) c =
    subst (λ a. IsClose (distance x.lo x.hi) e (value q') a) (sym also)
    (subst (λ m. IsClose (distance x.lo x.hi) e (value m) before) (sym same) c)

first_close : (b : Block) (h o : ℕ) (x : Output) (e : ℕ) → 1 ≤ h → output_at b o ≡ Some x
    → IsClose (distance x.lo x.hi) e (value_in h x 0) (first_answer b o)
first_close b h o x e some ex =
    rw ex
    (record {
      dens = mul-pos (mul-pos (omega arith) (mul-pos (omega arith) some)) (omega arith);
      cross =
          omega (arith, ints);
    })

module _ (in_cells : NumbersLieInTheirCells) (answers : ClaimAnswersAreNear) (b : Block) (h : ℕ) (some : 1 ≤ h)
    (valid : IsValid b) (cert : Cert) (parts : List Part) (tree : IsTree (whole b) cert.nodes parts []) where
  next : (o : ℕ) (x : Output) (e : ℕ) → output_at b o ≡ Some x → IsGreatestBound b o x h parts e → (xs : List Dec)
      → AreInputs b xs → (before : Quotient) (q : ℕ) → IsClose (distance x.lo x.hi) e (value_in h x q) before
      → IsClose (distance x.lo x.hi) e (value_in h x (answer_in h b o (bytes_of b.inputs xs) q))
      (answer_after b o before xs)
  next o x e ex g xs a before q c =
      let bytes = bytes_of b.inputs xs in
      let one = one_leaf (whole b) cert.nodes [] parts bytes tree (bytes-lie b.inputs xs a.count) in
      let P : Part → Type 0 = λ p. IsBoxOf b p.box × ((n : ℕ) × HasBound b o x h p n × (n ≤ e)) in
      let p = leaf_with bytes parts P (omega arith)
      (All-both (λ (p : Part). IsBoxOf b p.box) (λ p. (n : ℕ) × HasBound b o x h p n × (n ≤ e)) parts
      (boxes_are b (whole b) cert.nodes parts [] tree (whole_is b)) g.each) in
      let n : ℕ = p.2.1.0 in
      let hb : HasBound b o x h p.0 n = p.2.1.1 in
      let over : AreOverBox b p.0.box o x h bytes xs =
      record {
        valid = valid;
        output_is = ex;
        parts = some;
        cells = bytes-cells in_cells b xs valid a;
        box_is = p.2.0.intervals;
        within = LieIn-lies bytes p.0.box p.1;
      } in
      still_near x n e q (answer_in h b o bytes q) (value_in h x) before (answer_after b o before xs) p.2.1.2
      (answers b p.0.box o x h hb.claim n bytes xs before q over hb.bound_is) c

  on_and_on : (o : ℕ) (x : Output) (e : ℕ) → output_at b o ≡ Some x → IsGreatestBound b o x h parts e
      → (samples : List (List Dec)) → All (AreInputs b) samples → (before : Quotient) (q : ℕ)
      → IsClose (distance x.lo x.hi) e (value_in h x q) before
      → IsClose (distance x.lo x.hi) e
      (value_in h x (fold (λ before xs. answer_in h b o (bytes_of b.inputs xs) before) q samples))
      (fold (answer_after b o) before samples)
  on_and_on o x e ex g [] all before q c = c
  on_and_on o x e ex g (xs ∷ samples) all before q c =
      on_and_on o x e ex g samples (λ k d l. all (suc k) d (omega arith)) (answer_after b o before xs)
      (answer_in h b o (bytes_of b.inputs xs) q) (next o x e ex g xs (all 0 xs (omega arith)) before q c)

  -- before the first sample both are the low end
  pub all_near : (o : ℕ) (x : Output) (e : ℕ) → output_at b o ≡ Some x → IsGreatestBound b o x h parts e
      → (samples : List (List Dec)) → All (AreInputs b) samples
      → IsClose (distance x.lo x.hi) e
      (value_in h x (fold (λ before xs. answer_in h b o (bytes_of b.inputs xs) before) 0 samples))
      (fold (answer_after b o) (first_answer b o) samples)
  all_near o x e ex g samples all =
      on_and_on o x e ex g samples all (first_answer b o) 0 (first_close b h o x e some ex)

pub accepted_near : NumbersLieInTheirCells → ClaimAnswersAreNear → AcceptedAnswersAreNear
accepted_near in_cells answers b h cert errors o x e samples valid some acc from ex ee all =
    all_near in_cells answers b h some valid cert acc.parts acc.tree o x e ex
    (acc.greatest o x e from ex ee) samples all

-- ---- a certificate whose leaves become such as have no greater Bounds is accepted, and no error rises

at_least : {a c d : ℕ} → a ≤ c → c ≤ d → a ≤ d
at_least h k = omega arith

-- a part that is good, with a Bound for answers in h parts to a byte, has one no greater for g when it is moved
module _ (b : Block) (h g : ℕ) (Good : Part → Type 0) (move : Part → Part)
    (falls : (o : ℕ) (x : Output) (p : Part) (n : ℕ) → output_at b o ≡ Some x → Good p → HasBound b o x h p n
    → (m : ℕ) × HasBound b o x g (move p) m × (m ≤ n)) where
  module _ (o : ℕ) (x : Output) (out : output_at b o ≡ Some x) where
    abbrev Falls : ℕ → Part → Type 0
    Falls e p = Good p × ((n : ℕ) × HasBound b o x h p n × (n ≤ e))

    lower : (p : Part) (e : ℕ) → Falls e p → (m : ℕ) × HasBound b o x g (move p) m × (m ≤ e)
    lower p e f =
        let w = falls o x p f.1.0 out f.0 f.1.1 in
        (w.0, w.1, at_least w.2 f.1.2)

    joined : (p : Part) (ps : List Part) (m f e : ℕ) → HasBound b o x g p m → m ≤ e → IsGreatestBound b o x g ps f
        → f ≤ e → (k : ℕ) × IsGreatestBound b o x g (p ∷ ps) k × (k ≤ e)
    joined p ps m f e hb me s fe = ⊎_elim
        (λ (l : f < m). (
          m,
          record {
            each = All-cons (λ (q : Part). (n : ℕ) × HasBound b o x g q n × (n ≤ m)) p ps (m, hb, omega arith)
                (λ k d i. let w = s.each k d i in (w.0, w.1, at_least w.2 (omega arith)));
            some = (0, p, omega arith, refl, hb);
          },
          me,
        ))
        (λ (l : m ≤ f). (
          f,
          record {
            each = All-cons (λ (q : Part). (n : ℕ) × HasBound b o x g q n × (n ≤ f)) p ps (m, hb, l) s.each;
            some = (suc s.some.0, s.some.1, (let z = s.some.2 in omega arith), s.some.3, s.some.4);
          },
          fe,
        ))
        (cases_lt f m)

    greatest_of : (ps : List Part) (e : ℕ) → 0 < length ps → All (Falls e) ps
        → (f : ℕ) × IsGreatestBound b o x g (map move ps) f × (f ≤ e)
    greatest_of [] e l all = absurd (omega arith)
    greatest_of (p ∷ []) e l all =
        let w = lower p e (all 0 p (omega arith)) in (
          w.0,
          record {
            each =
                All-cons (λ (q : Part). (n : ℕ) × HasBound b o x g q n × (n ≤ w.0)) (move p) []
                (w.0, w.1, omega arith) (All-none (λ (q : Part). (n : ℕ) × HasBound b o x g q n × (n ≤ w.0)));
            some =
                (0, move p, omega arith, refl, w.1);
          },
          w.2,
        )
    greatest_of (p ∷ q ∷ ps) e l all =
        let w = lower p e (all 0 p (omega arith)) in
        let s = greatest_of (q ∷ ps) e (omega arith) (λ k d i. all (suc k) d (omega arith)) in
        joined (move p) (map move (q ∷ ps)) w.0 s.0 e w.1 w.2 s.1 s.2

  pub accepted_lower : (cert : Cert) (es : List ℕ) (a : IsAccepted b h cert es) → All Good a.parts → (nodes : List Node)
      → IsTree (whole b) nodes (map move a.parts) []
      → (fs : List ℕ) × IsAccepted b g (record { claims = cert.claims; nodes = nodes }) fs × AreNoHigher es fs
  accepted_lower cert es a good nodes moved = (
    fs,
    record {
      claims_count = a.claims_count;
      errors_count = c.1;
      parts = map move a.parts;
      tree = moved;
      greatest = λ o x f from ex ef.
          let eo : o - 1 + 1 ≡ o = omega arith in
          subst (λ q. IsGreatestBound b q x g (map move a.parts) f) eo (c.2 (o - 1) x f ex ef).0;
      claimed = λ k f d ef ed.
          let l = slice_get_within fs k f ef in
          let n1 = c.1 in
          let n2 = a.errors_count in
          let x = some_at b.outputs k (omega arith) in
          let e = some_at es k (omega arith) in
          at_least ((c.2 k x.0 f x.1 ef).1 e.0 e.1) (a.claimed k e.0 d e.1 ed);
    },
    λ k e f ee ef.
        let l = slice_get_within es k e ee in
        let n2 = a.errors_count in
        let x = some_at b.outputs k (omega arith) in
        (c.2 k x.0 f x.1 ef).1 e ee,
  )
    where
      pick : (k : ℕ) (x : Output) → slice_get b.outputs k ≡ Some x
          → (f : ℕ) × IsGreatestBound b (k + 1) x g (map move a.parts) f × ((e : ℕ) → slice_get es k ≡ Some e → f ≤ e)
      pick k x ex =
          let l = slice_get_within b.outputs k x ex in
          let n2 = a.errors_count in
          let e = some_at es k (omega arith) in
          let ek : k ≡ k + 1 - 1 = omega arith in
          let ex' : output_at b (k + 1) ≡ Some x = subst (λ j. slice_get b.outputs j ≡ Some x) ek ex in
          let s = a.greatest (k + 1) x e.0 (omega arith) ex' (subst (λ j. slice_get es j ≡ Some e.0) ek e.1) in
          let w = greatest_of (k + 1) x ex' a.parts e.0 (some_leaf (whole b) cert.nodes a.parts [] a.tree)
          (λ j d i. (good j d i, s.each j d i)) in
          (w.0, w.1, λ d ed. same_le w.2 e.1 ed)
        where
          same_le : {p q r : ℕ} {s : Option ℕ} → p ≤ q → s ≡ Some q → s ≡ Some r → p ≤ r
          same_le {p} {q} {r} l e f = let z : q ≡ r = cc in omega arith

      c : (fs : List ℕ) × (length fs ≡ length b.outputs)
          × ((k : ℕ) (x : Output) (f : ℕ) → slice_get b.outputs k ≡ Some x → slice_get fs k ≡ Some f
          → IsGreatestBound b (k + 1) x g (map move a.parts) f × ((e : ℕ) → slice_get es k ≡ Some e → f ≤ e))
      c = listed (λ k x f. IsGreatestBound b (k + 1) x g (map move a.parts) f
          × ((e : ℕ) → slice_get es k ≡ Some e → f ≤ e))
          b.outputs (λ k x ex. let w = pick k x ex in (w.0, (w.1, w.2)))

      fs : List ℕ
      fs = c.0

-- ---- certificates that are accepted for wider answers, or with tight leaves

-- a line of pairs names no cells
pairs_name : (q : Option (ℕ × ℕ)) (claim : Claim)
    → option_map (λ p. Pair (record { rule = p.0; k = p.1 })) q ≡ Some claim → NamesNoCells claim
pairs_name None claim e = absurd (let z : ⊥ = cc in z)
pairs_name (Some p) claim e =
    let same : Pair (record { rule = p.0; k = p.1 }) ≡ claim = cc in
    subst NamesNoCells same tt

-- ---- for answers in 16 bits

names : (f : LeafLine) (k : ℕ) (claim : Claim) → Leaf f ≢ Leaf leaf_line.Cells → claim_at f k ≡ Some claim
    → NamesNoCells claim
names (leaf_line.Pairs pairs) k claim other e = pairs_name (slice_get pairs.items k) claim e
names leaf_line.Tight k claim other e = let same : Tight ≡ claim = cc in subst NamesNoCells same tt
names leaf_line.Cells k claim other e = absurd (other refl)

wide_falls : ClaimBoundsFallWithParts → (b : Block) → IsValid b → (o : ℕ) (x : Output) (p : Part) (n : ℕ)
    → output_at b o ≡ Some x → Leaf p.stated ≢ Leaf leaf_line.Cells → HasBound b o x 1 p n
    → (m : ℕ) × HasBound b o x 256 p m × (m ≤ n)
wide_falls fall b valid o x p n out other bound =
    let w = fall b p.box o x 256 bound.claim n valid out (omega arith)
    (names p.stated (o - 1) bound.claim other bound.claim_is) bound.bound_is in
    (w.0, record { claim = bound.claim; claim_is = bound.claim_is; allowed = bound.allowed; bound_is = w.1 }, w.2)

pub wide_accepted : ClaimBoundsFallWithParts → WideIsAccepted
wide_accepted fall b cert es valid none a =
    accepted_lower b 1 256 (λ p. Leaf p.stated ≢ Leaf leaf_line.Cells) (λ p. p) (wide_falls fall b valid) cert es a
    (lines_are (λ node. node ≢ Leaf leaf_line.Cells) (whole b) cert.nodes a.parts [] a.tree none) cert.nodes
    (subst (λ ps. IsTree (whole b) cert.nodes ps []) (sym (map-id a.parts)) a.tree)

pub wide_texts : WideIsAccepted → WideTextsAreAccepted
wide_texts wide b k rest es valid a none =
    let w = wide b a.cert es valid none a.accepted in
    let behind = append_cancel_left (version_line (format_of k Byte)) rest
    (claim_line a.cert.claims ++ node_lines a.cert.nodes) a.spelled.lines in (
      w.0,
      record {
        cert = a.cert;
        spelled =
            record { good = a.spelled.good; lines = ap (λ (t : List ℕ). version_line (format_of k Word) ++ t) behind };
        accepted = w.1;
      },
      w.2,
    )

no_cells : (width : ℕ) (node : Node) → IsNode kind.Named width node → node ≢ Leaf leaf_line.Cells
no_cells width node good e = subst (IsNode kind.Named width) e good

pub named_no_cells : NamedCertsHaveNoCells
named_no_cells cert good k d l = no_cells (length cert.claims) _ (good.nodes k d l)

-- ---- with tight leaves

abbrev tight_part : Part → Part
tight_part p = record { box = p.box; stated = tight_line p.stated }

tight_has : TightClaimsAreLeast → (b : Block) → IsValid b → (h : ℕ) → 1 ≤ h → (o : ℕ) (x : Output)
    (box : List Interval) (f : LeafLine) (n : ℕ) → output_at b o ≡ Some x
    → HasBound b o x h (record { box = box; stated = f }) n
    → (m : ℕ) × HasBound b o x h (record { box = box; stated = tight_line f }) m × (m ≤ n)
tight_has least b valid h parts o x box (leaf_line.Pairs pairs) n out bound =
    let w = least b box o x h bound.claim n valid out parts
    (pairs_name (slice_get pairs.items (o - 1)) bound.claim bound.claim_is) bound.bound_is in
    (w.0, record { claim = Tight; claim_is = refl; allowed = tt; bound_is = w.1 }, w.2)
tight_has least b valid h parts o x box leaf_line.Tight n out bound = (n, bound, omega arith)
tight_has least b valid h parts o x box leaf_line.Cells n out bound = (n, bound, omega arith)

tight_tree : (box : List Interval) (nodes : List Node) (parts : List Part) (rest : List Node)
    → IsTree box nodes parts rest
    → IsTree box (map tight_node nodes) (map tight_part parts) (map tight_node rest)
tight_tree _ _ _ _ (leaf box f rest) = leaf box (tight_line f) (map tight_node rest)
tight_tree _ _ _ _ (split box i c nodes mid rest left right some cut l r) =
    subst (λ ps. IsTree box (map tight_node (Split i c ∷ nodes)) ps (map tight_node rest))
    (sym (map-append tight_part left right))
    (split box i c (map tight_node nodes) (map tight_node mid) (map tight_node rest) (map tight_part left)
    (map tight_part right) some cut (tight_tree (left_of (i - 1) c box) nodes left mid l)
    (tight_tree (right_of (i - 1) c box) mid right rest r))

pub tight_accepted : TightClaimsAreLeast → TightIsAccepted
tight_accepted least b h cert es valid some a =
    accepted_lower b h h (λ _. Unit {0}) tight_part
    (λ o x p n out good bound. tight_has least b valid h some o x p.box p.stated n out bound) cert es a (λ k d l. tt)
    (map tight_node cert.nodes) (tight_tree (whole b) cert.nodes a.parts [] a.tree)

-- its text

tight_good : (width : ℕ) (node : Node) → IsNode kind.Named width node → IsNode kind.Tight width (tight_node node)
tight_good width (Split i c) good = good
tight_good width (Leaf (leaf_line.Pairs pairs)) good = tt
tight_good width (Leaf leaf_line.Tight) good = absurd good
tight_good width (Leaf leaf_line.Cells) good = absurd good

all_tight : (width : ℕ) (nodes : List Node) → All (IsNode kind.Named width) nodes
    → All (IsNode kind.Tight width) (map tight_node nodes)
all_tight width [] all k d l = absurd (omega arith)
all_tight width (node ∷ nodes) all zero d l = tight_good width node (all 0 node (omega arith))
all_tight width (node ∷ nodes) all (suc k) d l =
    all_tight width nodes (λ j e m. all (suc j) e (omega arith)) k d (omega arith)

tight_open : (k : ℕ) (nodes : List Node) → open_from k (map tight_node nodes) ≡ open_from k nodes
tight_open k [] = refl
tight_open zero (node ∷ nodes) = refl
tight_open (suc k) (Split i c ∷ nodes) = tight_open (suc (suc k)) nodes
tight_open (suc k) (Leaf f ∷ nodes) = tight_open k nodes

tight_leaves : (nodes : List Node) → leaf_count (map tight_node nodes) ≡ leaf_count nodes
tight_leaves [] = refl
tight_leaves (Split i c ∷ nodes) = tight_leaves nodes
tight_leaves (Leaf f ∷ nodes) = ap (λ n. n + 1) (tight_leaves nodes)

tight_is_cert : (cert : Cert) → IsCert kind.Named cert → IsCert kind.Tight (tight_cert cert)
tight_is_cert cert good = record {
  claims = good.claims;
  nodes = all_tight (length cert.claims) cert.nodes good.nodes;
  tree = tight_open 1 cert.nodes ∙ good.tree;
  few_leaves = (let few = good.few_leaves in let same = tight_leaves cert.nodes in omega (arith, few, same));
}

pub tight_texts : TightIsAccepted → TightTextsAreAccepted
tight_texts tight b h width text es valid some a =
    let w = tight b h a.cert es valid some a.accepted in (
      w.0,
      record {
        cert = tight_cert a.cert;
        spelled = record { good = tight_is_cert a.cert a.spelled.good; lines = refl };
        accepted = w.1;
      },
      w.2,
    )
