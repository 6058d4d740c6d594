-- What holds of every halving.
-- Beside the promise.
use Rattle.std.specs.Prelude.{◌≡◌, ◌≢◌, ℕ, ◌-◌, ◌<◌, ◌≤◌, List, length, All, Some, slice_get, slice_index}
use Rattle.std.specs.Prelude.{Result, Ok, Err}
use Rattle.fuzzy_meaning.specs.{declared.block.Block.Block, Blocks.IsValid}
use Rattle.box_tree.specs.declared.cert.CertKind.{CertKind}
use Rattle.box_tree.specs.declared.cert.CertKind.TheVariants as kind
use Rattle.box_tree.specs.{Certificates.IsCert, declared.cert.Cert.Cert}
use Rattle.cell_bounds.specs.CellBounds.{number_of}
use Rattle.cert_check.specs.{Acceptance.IsAccepted, BoxLaws.IsNodeOf, Laws.HasDefaults}
use Rattle.error_certifier.specs.{declared.certifier.NotReached.NotReached, Halving.IsHalvingFor, Halving.StopsFor}
use Rattle.error_certifier.specs.{Halving.IsHalving, Halving.one_for_all, Targets.AreTargets}
use Rattle.error_certifier.specs.declared.certifier.NotReached.TheVariants.{Cell, LeafLimit, Memory, Outputs}

-- the certificate of the halving, or why it stops
abbrev pub IsAnswerFor : CertKind → Block → ℕ → List ℕ → Result Cert NotReached → Type 0
IsAnswerFor k b h targets (Ok cert) = IsHalvingFor k b h targets cert
IsAnswerFor k b h targets (Err stop) = StopsFor k b h targets stop

-- a block has at most one answer for its targets
abbrev pub AnswersForTargetsAreOne : Type 0
AnswersForTargetsAreOne =
    (k : CertKind) (b : Block) (h : ℕ) (targets : List ℕ) (x y : Result Cert NotReached) → IsValid b
    → IsAnswerFor k b h targets x → IsAnswerFor k b h targets y → x ≡ y

-- and each block has one, which is not want of memory
abbrev pub EachBlockIsHalved : Type 0
EachBlockIsHalved =
    (k : CertKind) (b : Block) (h : ℕ) (targets : List ℕ) → IsValid b → 1 ≤ h → All (λ n. n ≤ 1000000) targets
    → (answer : Result Cert NotReached) × IsAnswerFor k b h targets answer × (answer ≢ Err Memory)

-- each error is at most its output's target
abbrev pub AreWithin : List ℕ → List ℕ → Type 0
AreWithin targets errors = (k e : ℕ) → slice_get errors k ≡ Some e → e ≤ slice_index targets k

-- the certificate of a halving is one of its kind, and claims no error above its target
abbrev pub HalvingsAreWithinTheirTargets : Type 0
HalvingsAreWithinTheirTargets =
    (k : CertKind) (b : Block) (h : ℕ) (targets : List ℕ) (cert : Cert) → IsValid b → IsHalvingFor k b h targets cert
    → IsCert k cert × AreWithin targets cert.claims

-- the certificates that a stop speaks of: of the named kind those that name rules, of the tight kind all
abbrev pub IsComparable : CertKind → Cert → Type 0
IsComparable kind.Named cert = All (IsNodeOf kind.Named) cert.nodes
IsComparable kind.Tight cert = Unit {0}

-- no such certificate of the block that is accepted has an error below n for output o
abbrev pub IsLeastError : CertKind → Block → ℕ → ℕ → ℕ → Type 0
IsLeastError k b h o n =
    (cert : Cert) (errors : List ℕ) (e : ℕ) → IsComparable k cert → IsAccepted b h cert errors
    → slice_get errors (o - 1) ≡ Some e → n ≤ e

-- a cell at which halving stops is out of reach for every such certificate
pub record IsOutOfReach (k : CertKind) (b : Block) (h : ℕ) (targets : List ℕ) (o n : ℕ) : Type 0 where
  pub above : number_of targets o < n
  pub least : IsLeastError k b h o n

-- what a stop says of other certificates: a limit says nothing
abbrev pub SaysOutOfReachFor : CertKind → Block → ℕ → List ℕ → NotReached → Type 0
SaysOutOfReachFor k b h targets (Cell bytes o n) = IsOutOfReach k b h targets o n
SaysOutOfReachFor k b h targets LeafLimit = Unit {0}
SaysOutOfReachFor k b h targets Memory = Unit {0}
SaysOutOfReachFor k b h targets (Outputs given outputs) = Unit {0}

abbrev pub CellsAreOutOfReach : Type 0
CellsAreOutOfReach =
    (k : CertKind) (b : Block) (h : ℕ) (targets : List ℕ) (stop : NotReached) → IsValid b → 1 ≤ h
    → StopsFor k b h targets stop → SaysOutOfReachFor k b h targets stop

-- ---- tight halving of one or two inputs

-- it never meets the limit of leaves
abbrev pub SmallBlocksMeetNoLimit : Type 0
SmallBlocksMeetNoLimit =
    (b : Block) (h : ℕ) (targets : List ℕ) → IsValid b → length b.inputs ≤ 2
    → StopsFor kind.Tight b h targets LeafLimit → ⊥

-- it finds a certificate where each output has a number as DEFAULT
abbrev pub DefaultsHaveHalvings : Type 0
DefaultsHaveHalvings =
    (b : Block) (h : ℕ) → IsValid b → length b.inputs ≤ 2 → 1 ≤ h → HasDefaults b
    → (cert : Cert) × IsHalving kind.Tight b h 1000000 cert

-- and wherever some certificate is accepted, each error within its target
abbrev pub TightHalvingDecides : Type 0
TightHalvingDecides =
    (b : Block) (h : ℕ) (targets : List ℕ) (cert : Cert) (errors : List ℕ) → IsValid b → length b.inputs ≤ 2 → 1 ≤ h
    → AreTargets b targets → IsAccepted b h cert errors → AreWithin targets errors
    → (found : Cert) × IsHalvingFor kind.Tight b h targets found

-- the same with one target for all outputs
abbrev pub SaysOutOfReach : CertKind → Block → ℕ → ℕ → NotReached → Type 0
SaysOutOfReach k b h target stop = SaysOutOfReachFor k b h (one_for_all b target) stop
