-- Why contents are refused.
-- Beside the promise.
use Rattle.std.specs.Prelude.{◌≡◌, ◌≢◌, ◌⊎◌}
use Rattle.box_tree.specs.declared.cert.CertFault.TheVariants as cert
use Rattle.cert_check.specs.declared.checker.CheckFault.TheVariants as check
use Rattle.cert_check.specs.declared.text.TextFault.{TextFault}
use Rattle.cert_check.specs.declared.text.TextFault.TheVariants as text
use Rattle.cpu12_asm.specs.declared.items.AsmFault.TheVariants as asm
use Rattle.error_certifier.specs.declared.certifier.NotReached.TheVariants as stop
use Rattle.fcl_syntax.specs.declared.text.SyntaxFault.TheVariants as syntax
use Rattle.fcl_check.specs.declared.fault.LoadFault.TheVariants as load
use Rattle.handler_check.specs.declared.faults.HandlerFault.TheVariants as handler
use Rattle.interrupt_plan.specs.declared.PlanFault.TheVariants as plan
use Rattle.interrupt_plan.specs.declared.upsets.UpsetFault.TheVariants as upset
use Rattle.rule_layout.specs.declared.flat.LayoutFault.TheVariants as layout
use Rattle.srecord.specs.declared.fault.SrecFault.TheVariants as srec
use Rattle.trace_io.specs.declared.sample.TraceFault.TheVariants as trace
use Rattle.fz_status.specs.declared.status.CertRefusal.{CertRefusal}
use Rattle.fz_status.specs.declared.status.CertRefusal.TheVariants as refusal
use Rattle.fz_status.specs.declared.status.FastFault.TheVariants as fast
use Rattle.fz_status.specs.declared.status.FclFault.{FclFault}
use Rattle.fz_status.specs.declared.status.FclFault.TheVariants as fcl
use Rattle.fz_status.specs.declared.status.ImageFault.TheVariants as image
use Rattle.fz_status.specs.declared.status.Status.{Status}
use Rattle.fz_status.specs.declared.status.Status.TheVariants as status

-- the fault of a text, or of a certificate, is not its own want of memory
abbrev pub IsNoWantInText : FclFault → Type 0
IsNoWantInText (fcl.Syntax f) = f ≢ syntax.Memory
IsNoWantInText (fcl.Load f) = f ≢ load.Memory
IsNoWantInText (fcl.Layout f) = f ≢ layout.Memory

abbrev pub IsNoWantInCert : CertRefusal → Type 0
IsNoWantInCert (refusal.Text f) = f ≢ cert.Memory
IsNoWantInCert (refusal.Check f) = f ≢ check.Memory

-- the fault that the status carries, if there is one, is not the fault's own want of memory
abbrev pub CarriesNoMemory : Status → Type 0
CarriesNoMemory (status.Fcl f) = IsNoWantInText f
CarriesNoMemory (status.Image (image.Records f)) = f ≢ srec.Memory
CarriesNoMemory (status.Cert f) = IsNoWantInCert f
CarriesNoMemory (status.Trace f) = f ≢ trace.Memory
CarriesNoMemory (status.Plan f) = f ≢ plan.Memory
CarriesNoMemory (status.Upset f) = f ≢ upset.Memory
CarriesNoMemory (status.NotReached f) = f ≢ stop.Memory
CarriesNoMemory (status.Asm f) = f ≢ asm.Memory
CarriesNoMemory (status.Handler f) = f ≢ handler.Memory
CarriesNoMemory (status.Fast (fast.Fcl f)) = IsNoWantInText f
CarriesNoMemory (status.Fast (fast.Cert f)) = IsNoWantInCert f
CarriesNoMemory (status.Fast (fast.Trace f)) = f ≢ trace.Memory
CarriesNoMemory _ = Unit {0}

-- the status that tells a fault: the one that carries it, or that of want of memory where it would carry that
abbrev pub Tells : Status → Status → Type 0
Tells carrying s =
    (CarriesNoMemory carrying × (s ≡ carrying)) ⊎ ((CarriesNoMemory carrying → ⊥) × (s ≡ status.Memory))

-- that of the refusal of a certificate
abbrev pub status_of : TextFault → Status
status_of (text.Text f) = status.Cert (refusal.Text f)
status_of (text.Check f) = status.Cert (refusal.Check f)
status_of text.Memory = status.Memory

-- for each status, where it refuses contents
abbrev pub Refusals : Type 1
Refusals = Status → Type 0

-- the status tells one of these refusals, and never for want of memory
abbrev pub Refuses : Refusals → Status → Type 0
Refuses why s = CarriesNoMemory s × why s

-- the same, or want of memory
abbrev pub IsRefusal : Refusals → Status → Type 0
IsRefusal why status.Memory = Unit {0}
IsRefusal why s = Refuses why s

-- the same status, told of the fast block's file where it tells of a block's
abbrev pub of_fast : Status → Status
of_fast (status.Fcl f) = status.Fast (fast.Fcl f)
of_fast (status.Cert f) = status.Fast (fast.Cert f)
of_fast (status.Trace f) = status.Fast (fast.Trace f)
of_fast s = s
