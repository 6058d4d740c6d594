-- The lines of a certificate's text: a word, numbers, and the end of the line.
-- Beside the promise.
use Rattle.std.specs.Prelude.{ℕ, List, [], ◌∷◌, ◌++◌, codes, decimal}
use Rattle.byte_scaling.specs.declared.width.Width.{Width}
use Rattle.box_tree.specs.declared.{cert.CertFormat.CertFormat, cert.CertKind.CertKind, cert.LeafLine.LeafLine}
use Rattle.box_tree.specs.declared.cert.CertKind.TheVariants.{Named, Tight}
use Rattle.byte_scaling.specs.declared.width.Width.TheVariants.{Byte, Word}
use Rattle.box_tree.specs.declared.cert.LeafLine.TheVariants as stated
use Rattle.box_tree.specs.declared.{cert.Node.Node, cert.Node.TheVariants.Split, cert.Node.TheVariants.Leaf}

-- decimals without leading zeros, with a blank before each
abbrev pub numbers : List ℕ → List ℕ
numbers [] = []
numbers (n ∷ ns) = codes " " ++ (decimal n ++ numbers ns)

abbrev pub line : List ℕ → List ℕ → List ℕ
line word ns = word ++ (numbers ns ++ codes "\n")

abbrev pub format_of : CertKind → Width → CertFormat
format_of kind width = record { kind = kind; width = width }

-- the version of the texts of certificates of this kind, for answers of this width
abbrev pub version_of : CertKind → Width → ℕ
version_of Named Byte = 1
version_of Named Word = 2
version_of Tight Byte = 3
version_of Tight Word = 4

abbrev pub version_line : CertFormat → List ℕ
version_line format = line (codes "FZC") (version_of format.kind format.width ∷ [])

abbrev pub claim_line : List ℕ → List ℕ
claim_line claims = line (codes "claim") claims

-- the numbers of pairs, one pair behind the other
abbrev pub pair_numbers : List (ℕ × ℕ) → List ℕ
pair_numbers [] = []
pair_numbers (p ∷ pairs) = p.0 ∷ p.1 ∷ pair_numbers pairs

-- its pairs, or a word alone
abbrev pub leaf_line : LeafLine → List ℕ
leaf_line (stated.Pairs pairs) = line (codes "leaf") (pair_numbers pairs.items)
leaf_line stated.Tight = line (codes "leaf") []
leaf_line stated.Cells = line (codes "cells") []

abbrev pub node_line : Node → List ℕ
node_line (Split input cut) = line (codes "split") (input ∷ cut ∷ [])
node_line (Leaf leaf) = leaf_line leaf

abbrev pub node_lines : List Node → List ℕ
node_lines [] = []
node_lines (node ∷ nodes) = node_line node ++ node_lines nodes

-- the version, the claims, and then the nodes
abbrev pub lines_of : CertFormat → List ℕ → List Node → List ℕ
lines_of format claims nodes = version_line format ++ (claim_line claims ++ node_lines nodes)
