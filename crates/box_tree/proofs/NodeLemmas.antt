-- The node of a line.
use Rattle.std.proofs.Common.{◌≡◌, ◌≢◌, ◌≤◌, ℕ, List, [], ◌∷◌, ◌++◌, length, get_or, All, decimal, refl, sym, ◌∙◌, ap}
use Rattle.std.proofs.Common.{arith, append_assoc}
use Rattle.std.specs.Prelude.{codes}
use Rattle.std.proofs.lemmas.List.{append_cancel_left}
use Rattle.std.proofs.lemmas.List.Elements.{All-cons, All-nil, All-head, All-tail}
use Rattle.box_tree.specs.declared.{cert.CertKind.CertKind, cert.LeafLine.LeafLine}
use Rattle.box_tree.specs.declared.cert.CertKind.TheVariants.{Named, Tight}
use Rattle.box_tree.specs.declared.cert.LeafLine.TheVariants as stated
use Rattle.box_tree.specs.declared.{cert.Node.Node, cert.Node.TheVariants.Split, cert.Node.TheVariants.Leaf}
use Rattle.box_tree.specs.Certificates.{IsCut, IsLeaf, IsNode, IsPair}
use Rattle.box_tree.specs.Texts.{line, numbers, leaf_line, node_line, pair_numbers}
use Rattle.box_tree.proofs.{NumberLemmas.one_number, PairLemmas.length-pair_numbers}
use Rattle.box_tree.proofs.LineLemmas.{IsSmall, line_rest, rest_ends}

abbrev pub AreSmall : List ℕ → Type 0
AreSmall ns = All IsSmall ns

line_behind : (word ns behind : List ℕ) → line word ns ++ behind ≡ word ++ line_rest ns behind
line_behind word ns behind = simp append_assoc

line_rest-cons : (n : ℕ) (ns behind : List ℕ) → line_rest (n ∷ ns) behind ≡ 32 ∷ (decimal n ++ line_rest ns behind)
line_rest-cons n ns behind = ap (λ (t : List ℕ). 32 ∷ t) (append_assoc (decimal n) (numbers ns) (10 ∷ behind))

rest_is_one : (ns ms a b : List ℕ) → AreSmall ns → AreSmall ms → line_rest ns a ≡ line_rest ms b → (ns ≡ ms) × (a ≡ b)
rest_is_one [] [] a b ns_small ms_small same = (refl, cc)
rest_is_one [] (m ∷ ms) a b ns_small ms_small same = cc
rest_is_one (n ∷ ns) [] a b ns_small ms_small same = cc
rest_is_one (n ∷ ns) (m ∷ ms) a b ns_small ms_small same =
    let behind : 32 ∷ (decimal n ++ line_rest ns a) ≡ 32 ∷ (decimal m ++ line_rest ms b) = sym (line_rest-cons n ns a)
    ∙ same ∙ line_rest-cons m ms b in
    let digits : decimal n ++ line_rest ns a ≡ decimal m ++ line_rest ms b = cc in
    let one = one_number n m (line_rest ns a) (line_rest ms b) (All-head IsSmall n ns ns_small)
    (All-head IsSmall m ms ms_small) (rest_ends ns a) (rest_ends ms b) digits in
    let more = rest_is_one ns ms a b (All-tail IsSmall n ns ns_small) (All-tail IsSmall m ms ms_small) one.1 in
    (ap (λ (k : ℕ). k ∷ ns) one.0 ∙ ap (λ (l : List ℕ). m ∷ l) more.0, more.1)

-- one text begins with one line of a word
pub line_is_one : (word ns ms a b : List ℕ) → AreSmall ns → AreSmall ms → line word ns ++ a ≡ line word ms ++ b
    → (ns ≡ ms) × (a ≡ b)
line_is_one word ns ms a b ns_small ms_small same =
    rest_is_one ns ms a b ns_small ms_small
    (append_cancel_left word (line_rest ns a) (line_rest ms b)
    (sym (line_behind word ns a) ∙ same ∙ line_behind word ms b))

pub cut_is_small : (input cut : ℕ) → IsCut input cut → AreSmall (input ∷ cut ∷ [])
cut_is_small input cut is =
    let input_small : input ≤ 1000000 = omega (arith, is.few) in
    let cut_small : cut ≤ 1000000 = omega (arith, is.byte) in
    All-cons IsSmall input (cut ∷ []) input_small (All-cons IsSmall cut [] cut_small (All-nil IsSmall))

pub pairs_are_small : (pairs : List (ℕ × ℕ)) → All IsPair pairs → AreSmall (pair_numbers pairs)
pairs_are_small [] all = All-nil IsSmall
pairs_are_small (p ∷ pairs) all =
    let here = All-head IsPair p pairs all in
    let rule_small : p.0 ≤ 1000000 = omega (arith, here.rule) in
    let part_small : p.1 ≤ 1000000 = omega (arith, here.part) in
    All-cons IsSmall p.0 (p.1 ∷ pair_numbers pairs) rule_small
    (All-cons IsSmall p.1 (pair_numbers pairs) part_small (pairs_are_small pairs (All-tail IsPair p pairs all)))

-- ---- a text that begins with no node's line

abbrev pub NoLine : List ℕ → List ℕ → Type 0
NoLine word text = (ns behind : List ℕ) → length ns ≤ 8 → AreSmall ns → text ≢ line word ns ++ behind

-- a leaf's line begins with another letter than that of a cut
pub leaf_is_no_cut : (leaf : LeafLine) (ns x y : List ℕ) → line (codes "split") ns ++ x ≡ leaf_line leaf ++ y → ⊥
leaf_is_no_cut (stated.Pairs pairs) ns x y same =
    let first_letters : 115 ≡ 108 = ap (λ (t : List ℕ). get_or t 0 0) same in omega (arith, first_letters)
leaf_is_no_cut stated.Tight ns x y same =
    let first_letters : 115 ≡ 108 = ap (λ (t : List ℕ). get_or t 0 0) same in omega (arith, first_letters)
leaf_is_no_cut stated.Cells ns x y same =
    let first_letters : 115 ≡ 99 = ap (λ (t : List ℕ). get_or t 0 0) same in omega (arith, first_letters)

pub no_cut : (kind : CertKind) (text ns behind : List ℕ) (width : ℕ) → text ≡ line (codes "split") ns ++ behind
    → AreSmall ns → ((input cut : ℕ) → IsCut input cut → ns ≢ input ∷ cut ∷ [])
    → (node : Node) (other : List ℕ) → IsNode kind width node → text ≢ node_line node ++ other
no_cut kind text ns behind width found small none (Split input cut) other is same =
    none input cut is
    ((line_is_one (codes "split") ns (input ∷ cut ∷ []) behind other small (cut_is_small input cut is)
    (sym found ∙ same)).0)
no_cut kind text ns behind width found small none (Leaf leaf) other is same =
    leaf_is_no_cut leaf ns behind other (sym found ∙ same)

pub no_node : (kind : CertKind) (text : List ℕ) (width : ℕ) → NoLine (codes "split") text
    → ((leaf : LeafLine) (behind : List ℕ) → IsLeaf kind width leaf → text ≢ leaf_line leaf ++ behind)
    → (node : Node) (other : List ℕ) → IsNode kind width node → text ≢ node_line node ++ other
no_node kind text width no_split no_leaf (Split input cut) other is same =
    no_split (input ∷ cut ∷ []) other (omega arith) (cut_is_small input cut is) same
no_node kind text width no_split no_leaf (Leaf leaf) other is same = no_leaf leaf other is same

pub no_pairs : (text ns behind : List ℕ) (width : ℕ) → text ≡ line (codes "leaf") ns ++ behind → AreSmall ns
    → ((pairs : List (ℕ × ℕ)) → length pairs ≡ width → All IsPair pairs → ns ≢ pair_numbers pairs)
    → (leaf : LeafLine) (other : List ℕ) → IsLeaf Named width leaf → text ≢ leaf_line leaf ++ other
no_pairs text ns behind width found small none (stated.Pairs pairs) other is same =
    none pairs.items is.0 is.1
    ((line_is_one (codes "leaf") ns (pair_numbers pairs.items) behind other small (pairs_are_small pairs.items is.1)
    (sym found ∙ same)).0)
no_pairs text ns behind width found small none stated.Tight other is same = is
no_pairs text ns behind width found small none stated.Cells other is same = is

pub no_named_leaf : (text : List ℕ) (width : ℕ) → width ≤ 4 → NoLine (codes "leaf") text
    → (leaf : LeafLine) (other : List ℕ) → IsLeaf Named width leaf → text ≢ leaf_line leaf ++ other
no_named_leaf text width few none (stated.Pairs pairs) other is same =
    none (pair_numbers pairs.items) other (omega (arith, length-pair_numbers pairs.items, is.0))
    (pairs_are_small pairs.items is.1) same
no_named_leaf text width few none stated.Tight other is same = is
no_named_leaf text width few none stated.Cells other is same = is

pub no_tight_leaf : (text : List ℕ) (width : ℕ) → ((rest : List ℕ) → text ≢ codes "leaf\n" ++ rest)
    → ((rest : List ℕ) → text ≢ codes "cells\n" ++ rest)
    → (leaf : LeafLine) (other : List ℕ) → IsLeaf Tight width leaf → text ≢ leaf_line leaf ++ other
no_tight_leaf text width no_leaf no_cells (stated.Pairs pairs) other is same = is
no_tight_leaf text width no_leaf no_cells stated.Tight other is same = no_leaf other same
no_tight_leaf text width no_leaf no_cells stated.Cells other is same = no_cells other same
