-- What an accepted certificate says.
-- Beside the promise.
use Rattle.std.specs.Prelude.{◌≡◌, ◌≢◌, ◌⊎◌, ℕ, ◌-◌, ◌≤◌, true, List, [], ◌++◌, map, fold, All, Some, slice_get, Result}
use Rattle.std.specs.Prelude.{Ok}
use Rattle.std.specs.Prelude.{Err, None}
use Rattle.fz_num.specs.{declared.dec.Dec.Dec, Decimals.distance, Fractions.IsClose}
use Rattle.fuzzy_meaning.specs.declared.{block.Block.Block, block.Output.Output}
use Rattle.fuzzy_meaning.specs.{Blocks.IsValid, Blocks.AreInputs, Blocks.output_at, Meaning.exact_answer}
use Rattle.byte_scaling.specs.Cells.{bytes_of, value_in}
use Rattle.point_slope.specs.Bytes.{answer_in}
use Rattle.error_bound.specs.declared.boxes.Interval.{Interval}
use Rattle.box_tree.specs.declared.{cert.CertFormat.CertFormat, cert.CertKind.CertKind}
use Rattle.box_tree.specs.declared.cert.CertKind.TheVariants as kind
use Rattle.byte_scaling.specs.declared.{width.Width.Width, width.Width.TheVariants.Byte, width.Width.TheVariants.Word}
use Rattle.box_tree.specs.declared.{cert.LeafLine.LeafLine, cert.Node.Node}
use Rattle.box_tree.specs.declared.cert.LeafLine.TheVariants.{Pairs, Tight, Cells}
use Rattle.box_tree.specs.declared.{cert.Node.TheVariants.Split, cert.Node.TheVariants.Leaf, cert.Cert.Cert}
use Rattle.box_tree.specs.{Certificates.IsCert, Texts.format_of, Texts.lines_of, Texts.version_line}
use Rattle.cert_check.specs.{Trees.Part, Trees.IsTree, Trees.lies, Trees.leaves_with, Trees.whole}
use Rattle.cert_check.specs.Acceptance.{HasBound, IsAccepted}
use Rattle.cert_check.specs.{Faults.HasCheckFault, TextFaults.IsAcceptedText, TextFaults.HasTextFault}
use Rattle.cert_check.specs.declared.{checker.CheckFault.CheckFault, text.TextFault.TextFault}

-- no output has NC as its default
abbrev pub HasDefaults : Block → Type 0
HasDefaults b = (o : ℕ) (x : Output) → 1 ≤ o → output_at b o ≡ Some x → x.default ≢ None

-- each list of bytes of the box lies in exactly one leaf
abbrev pub OneLeafHasTheBytes : Type 0
OneLeafHasTheBytes =
    (box : List Interval) (nodes rest : List Node) (parts : List Part) (bytes : List ℕ) → IsTree box nodes parts rest
    → lies bytes box ≡ true → leaves_with bytes parts ≡ 1

-- the last answer to a list of samples, each the numbers of the inputs, in h parts to a byte
abbrev pub answer_to : ℕ → Block → ℕ → List (List Dec) → ℕ
answer_to h b o samples = fold (λ before xs. answer_in h b o (bytes_of b.inputs xs) before) 0 samples

-- for every list of samples in range the last answer over bytes, in one part or in 256, is within the output's error of
-- the exact one
abbrev pub AcceptedAnswersAreNear : Type 0
AcceptedAnswersAreNear =
    (b : Block) (h : ℕ) (cert : Cert) (errors : List ℕ) (o : ℕ) (x : Output) (e : ℕ) (samples : List (List Dec)) →
    IsValid b → 1 ≤ h → IsAccepted b h cert errors → 1 ≤ o → output_at b o ≡ Some x → slice_get errors (o - 1) ≡ Some e
    → All (AreInputs b) samples →
    IsClose (distance x.lo x.hi) e (value_in h x (answer_to h b o samples)) (exact_answer b o samples)

-- a certificate is accepted with one list of errors
abbrev pub ErrorsAreDetermined : Type 0
ErrorsAreDetermined =
    (b : Block) (h : ℕ) (cert : Cert) (es fs : List ℕ) → IsValid b → IsAccepted b h cert es → IsAccepted b h cert fs
    → es ≡ fs

-- no error is higher than the one at its place
abbrev pub AreNoHigher : List ℕ → List ℕ → Type 0
AreNoHigher es fs = (k e f : ℕ) → slice_get es k ≡ Some e → slice_get fs k ≡ Some f → f ≤ e

-- no leaf is one of cells, as none is in a certificate that names rules
abbrev pub HasNoCells : Cert → Type 0
HasNoCells cert = All (λ node. node ≢ Leaf Cells) cert.nodes

abbrev pub NamedCertsHaveNoCells : Type 0
NamedCertsHaveNoCells = (cert : Cert) → IsCert kind.Named cert → HasNoCells cert

-- one that is accepted for bytes is accepted for 16 bits, and no error rises
abbrev pub WideIsAccepted : Type 0
WideIsAccepted =
    (b : Block) (cert : Cert) (es : List ℕ) → IsValid b → HasNoCells cert → IsAccepted b 1 cert es
    → (fs : List ℕ) × IsAccepted b 256 cert fs × AreNoHigher es fs

-- and so is its text when the first line is changed
abbrev pub WideTextsAreAccepted : Type 0
WideTextsAreAccepted =
    (b : Block) (k : CertKind) (rest es : List ℕ) → IsValid b
    → (a : IsAcceptedText b 1 (format_of k Byte) (version_line (format_of k Byte) ++ rest) es) → HasNoCells a.cert
    → (fs : List ℕ) × IsAcceptedText b 256 (format_of k Word) (version_line (format_of k Word) ++ rest) fs
    × AreNoHigher es fs

-- a leaf that names rules becomes the word alone
abbrev pub tight_line : LeafLine → LeafLine
tight_line (Pairs pairs) = Tight
tight_line Tight = Tight
tight_line Cells = Cells

abbrev pub tight_node : Node → Node
tight_node (Split input cut) = Split input cut
tight_node (Leaf stated) = Leaf (tight_line stated)

abbrev pub tight_cert : Cert → Cert
tight_cert cert = record { claims = cert.claims; nodes = map tight_node cert.nodes }

-- when its leaves become tight, an accepted certificate is accepted, and no error rises
abbrev pub TightIsAccepted : Type 0
TightIsAccepted =
    (b : Block) (h : ℕ) (cert : Cert) (es : List ℕ) → IsValid b → 1 ≤ h → IsAccepted b h cert es
    → (fs : List ℕ) × IsAccepted b h (tight_cert cert) fs × AreNoHigher es fs

-- and so is the text of one that names rules when the first line is changed, and each leaf becomes the word alone
abbrev pub TightTextsAreAccepted : Type 0
TightTextsAreAccepted =
    (b : Block) (h : ℕ) (width : Width) (text es : List ℕ) → IsValid b → 1 ≤ h
    → (a : IsAcceptedText b h (format_of kind.Named width) text es)
    → (fs : List ℕ) × IsAcceptedText b h (format_of kind.Tight width)
    (lines_of (format_of kind.Tight width) a.cert.claims (map tight_node a.cert.nodes)) fs × AreNoHigher es fs

-- a certificate with a fault is not accepted
abbrev pub FaultyCertsFail : Type 0
FaultyCertsFail =
    (b : Block) (h : ℕ) (cert : Cert) (errors : List ℕ) (fault : CheckFault) → IsValid b
    → HasCheckFault b h cert fault → IsAccepted b h cert errors → ⊥

-- a certificate has at most one first fault
abbrev pub CheckFaultsAreOne : Type 0
CheckFaultsAreOne =
    (b : Block) (h : ℕ) (cert : Cert) (f g : CheckFault) → IsValid b → HasCheckFault b h cert f
    → HasCheckFault b h cert g → f ≡ g

-- and each is accepted or has one
abbrev pub EachCertIsJudged : Type 0
EachCertIsJudged =
    (b : Block) (h : ℕ) (k : CertKind) (cert : Cert) → IsValid b → 1 ≤ h → IsCert k cert
    → ((errors : List ℕ) × IsAccepted b h cert errors) ⊎ ((fault : CheckFault) × HasCheckFault b h cert fault)

-- a tree is accepted with the errors that it claims, for some claims, where each leaf has a Bound for each output
abbrev pub BoundedTreesAreAccepted : Type 0
BoundedTreesAreAccepted =
    (b : Block) (h : ℕ) (nodes : List Node) (parts : List Part) → IsTree (whole b) nodes parts []
    → ((o : ℕ) (x : Output) → 1 ≤ o → output_at b o ≡ Some x → All (λ p. (n : ℕ) × HasBound b o x h p n) parts)
    → (errors : List ℕ) × IsAccepted b h (record { claims = errors; nodes = nodes }) errors

-- the errors that a text is accepted with, or why it is refused
abbrev pub IsTextAnswer : Block → ℕ → CertFormat → List ℕ → Result (List ℕ) TextFault → Type 0
IsTextAnswer b h format text (Ok errors) = IsAcceptedText b h format text errors
IsTextAnswer b h format text (Err refusal) = HasTextFault b h format text refusal

-- a text has at most one answer
abbrev pub TextAnswersAreOne : Type 0
TextAnswersAreOne =
    (b : Block) (h : ℕ) (format : CertFormat) (text : List ℕ) (x y : Result (List ℕ) TextFault)
    → IsValid b → IsTextAnswer b h format text x → IsTextAnswer b h format text y → x ≡ y

-- and each has one
abbrev pub EachCertTextIsJudged : Type 0
EachCertTextIsJudged =
    (b : Block) (h : ℕ) (format : CertFormat) (text : List ℕ) → IsValid b → 1 ≤ h
    → (answer : Result (List ℕ) TextFault) × IsTextAnswer b h format text answer
