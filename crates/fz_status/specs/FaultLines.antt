-- The lines of faults of contents.
-- Beside the promise.
use Rattle.std.specs.Prelude.{ℕ, List, [], ◌++◌, codes, decimal, Option, Some, None}
use Rattle.std.specs.List.{flat_map}
use Rattle.box_tree.specs.declared.cert.CertFault.TheVariants as cert
use Rattle.cert_check.specs.declared.checker.CheckFault.{CheckFault}
use Rattle.cert_check.specs.declared.checker.CheckFault.TheVariants as check
use Rattle.cpu12_asm.specs.declared.items.AsmFault.{AsmFault}
use Rattle.cpu12_asm.specs.declared.items.AsmFault.TheVariants as asm
use Rattle.error_bound.specs.declared.boxes.LeafFault.{LeafFault}
use Rattle.error_bound.specs.declared.boxes.LeafFault.TheVariants as leaf
use Rattle.error_certifier.specs.declared.certifier.NotReached.{NotReached}
use Rattle.error_certifier.specs.declared.certifier.NotReached.TheVariants as stop
use Rattle.fcl_syntax.specs.declared.text.SyntaxFault.{SyntaxFault}
use Rattle.fcl_syntax.specs.declared.text.SyntaxFault.TheVariants as syntax
use Rattle.fcl_check.specs.declared.fault.LoadFault.{LoadFault}
use Rattle.fcl_check.specs.declared.fault.LoadFault.TheVariants as load
use Rattle.fz_shelf.specs.Parts.{address_digits, behind_blank, byte_digits}
use Rattle.handler_check.specs.declared.faults.HandlerFault.{HandlerFault}
use Rattle.handler_check.specs.declared.faults.HandlerFault.TheVariants as handler
use Rattle.interrupt_plan.specs.declared.PlanFault.{PlanFault}
use Rattle.interrupt_plan.specs.declared.PlanFault.TheVariants as plan
use Rattle.interrupt_plan.specs.declared.upsets.UpsetFault.{UpsetFault}
use Rattle.interrupt_plan.specs.declared.upsets.UpsetFault.TheVariants as upset
use Rattle.rule_layout.specs.declared.flat.LayoutFault.TheVariants as layout
use Rattle.srecord.specs.declared.fault.SrecFault.{SrecFault}
use Rattle.srecord.specs.declared.fault.SrecFault.TheVariants as srec
use Rattle.trace_io.specs.declared.sample.TraceFault.{TraceFault}
use Rattle.trace_io.specs.declared.sample.TraceFault.TheVariants as trace
use Rattle.fz_status.specs.{Words.Text, declared.status.CertRefusal.CertRefusal}
use Rattle.fz_status.specs.declared.status.CertRefusal.TheVariants as refusal
use Rattle.fz_status.specs.declared.status.FastFault.{FastFault}
use Rattle.fz_status.specs.declared.status.FastFault.TheVariants as fast
use Rattle.fz_status.specs.declared.status.FclFault.{FclFault}
use Rattle.fz_status.specs.declared.status.FclFault.TheVariants as fcl
use Rattle.fz_status.specs.declared.status.ImageFault.{ImageFault}
use Rattle.fz_status.specs.declared.status.ImageFault.TheVariants as image
use Rattle.fz_shelf.specs.Parts.{newline}

-- a line with a name or with numbers in it
abbrev pub with_name : Text → Text → List ℕ
with_name label name = label ++ (name ++ newline)

abbrev pub with_number : Text → ℕ → Text → List ℕ
with_number label n rest = label ++ (decimal n ++ (rest ++ newline))

abbrev pub want_of_memory : List ℕ
want_of_memory = codes "memory" ++ newline

abbrev pub syntax_line : SyntaxFault → List ℕ
syntax_line (syntax.BadByte at) = with_number (codes "fcl: at ") at (codes ": bad byte")
syntax_line (syntax.OpenComment at) = with_number (codes "fcl: at ") at (codes ": open comment")
syntax_line (syntax.Number at f) = with_number (codes "fcl: at ") at (codes ": number")
syntax_line (syntax.Expected at) = with_number (codes "fcl: at ") at (codes ": expected")
syntax_line (syntax.Unsupported at code) = with_number (codes "fcl: at ") at (codes ": unsupported " ++ decimal code)
syntax_line (syntax.Deep at) = with_number (codes "fcl: at ") at (codes ": too deep")
syntax_line syntax.Memory = want_of_memory

abbrev pub load_kind : ℕ → ℕ → List ℕ
load_kind at kind = with_number (codes "fcl: at ") at (codes ": load " ++ decimal kind)

abbrev pub load_line : LoadFault → List ℕ
load_line (load.Twice at) = load_kind at 1
load_line (load.Unknown at) = load_kind at 2
load_line (load.NoTerms at) = load_kind at 3
load_line (load.TooMany at) = load_kind at 4
load_line (load.PointsNotAscending at) = load_kind at 5
load_line (load.TermShape at) = load_kind at 6
load_line (load.TermOutside at) = load_kind at 7
load_line (load.BadRange at) = load_kind at 8
load_line (load.SingletonOutside at) = load_kind at 9
load_line (load.WeightOutside at) = load_kind at 10
load_line (load.WrongSide at) = load_kind at 11
load_line (load.MissingPart at) = load_kind at 12
load_line load.Memory = want_of_memory

abbrev pub fcl_line : FclFault → List ℕ
fcl_line (fcl.Syntax f) = syntax_line f
fcl_line (fcl.Load f) = load_line f
fcl_line (fcl.Layout (layout.TooManyRules rule)) = with_number (codes "fcl: too many rules at rule ") rule []
fcl_line (fcl.Layout (layout.ListTooLong n)) = with_number (codes "fcl: list too long ") n []
fcl_line (fcl.Layout layout.Memory) = want_of_memory

abbrev pub trace_line : TraceFault → List ℕ
trace_line trace.TooMany = codes "trace: too many rows" ++ newline
trace_line (trace.BadRow row) = with_number (codes "trace: row ") row (codes ": bad row")
trace_line (trace.OutOfRange row input) =
    codes "trace: row " ++ (decimal row ++ (codes ": input " ++ (decimal input ++ (codes " out of range" ++ newline))))
trace_line trace.Memory = want_of_memory

abbrev pub asm_line : AsmFault → List ℕ
asm_line (asm.BadLine n) = with_number (codes "asm: line ") n (codes ": bad line")
asm_line (asm.UnknownName n) = with_number (codes "asm: line ") n (codes ": unknown name")
asm_line (asm.Twice n) = with_number (codes "asm: line ") n (codes ": twice")
asm_line (asm.BranchFar n) = with_number (codes "asm: line ") n (codes ": branch far")
asm_line (asm.Range n) = with_number (codes "asm: line ") n (codes ": range")
asm_line (asm.Overlap n) = with_number (codes "asm: line ") n (codes ": overlap")
asm_line asm.Memory = want_of_memory

-- ---- images

abbrev pub records_line : SrecFault → List ℕ
records_line (srec.BadLine n) = with_number (codes "image: line ") n (codes ": bad line")
records_line (srec.BadSum n got wanted) =
    codes "image: line " ++ (decimal n ++ (codes ": bad sum "
    ++ (byte_digits got ++ (codes " " ++ (byte_digits wanted ++ newline)))))
records_line (srec.Wide n) = with_number (codes "image: line ") n (codes ": wide")
records_line (srec.Overlap n) = with_number (codes "image: line ") n (codes ": overlap")
records_line (srec.CountDiffers got wanted) = with_number (codes "image: count ") got (codes " " ++ decimal wanted)
records_line srec.NoEnd = codes "image: no end" ++ newline
records_line (srec.AfterEnd n) = with_number (codes "image: line ") n (codes ": after end")
records_line srec.Memory = want_of_memory

-- a byte, or that there is none
abbrev pub byte_or_none : Option ℕ → List ℕ
byte_or_none (Some byte) = byte_digits byte
byte_or_none None = codes "none"

abbrev pub image_line : ImageFault → List ℕ
image_line (image.Records f) = records_line f
image_line (image.Byte at got wanted) =
    codes "image: " ++ (address_digits at ++ (codes ": " ++ (byte_or_none got
    ++ (codes ", compile gives " ++ (byte_or_none wanted ++ newline)))))
image_line (image.Start got wanted) =
    codes "image: start " ++ (address_digits got ++ (codes ", compile gives " ++ (address_digits wanted ++ newline)))

-- ---- certificates

-- the line of a leaf that does not hold
abbrev pub leaf_line : ℕ → LeafFault → List ℕ
leaf_line n (leaf.Weak rule k low) =
    codes "cert: line " ++ (decimal n ++ (codes ": weak rule " ++ (decimal rule
    ++ (codes " k " ++ (decimal k ++ (codes " low " ++ (decimal low.0 ++ newline)))))))
leaf_line n (leaf.Still rule) = with_number (codes "cert: line ") n (codes ": still rule " ++ decimal rule)
leaf_line n (leaf.Silent rule high) =
    codes "cert: line " ++ (decimal n ++ (codes ": silent rule " ++ (decimal rule
    ++ (codes " high " ++ (decimal high.0 ++ newline)))))
leaf_line n (leaf.Loud rule byte) =
    codes "cert: line " ++ (decimal n ++ (codes ": loud rule " ++ (decimal rule
    ++ (codes " byte " ++ (decimal byte ++ newline)))))

abbrev pub check_line : CheckFault → List ℕ
check_line (check.Outputs got wanted) = with_number (codes "cert: outputs ") got (codes " " ++ decimal wanted)
check_line (check.BadCut n) = with_number (codes "cert: line ") n (codes ": bad cut")
check_line (check.BadRule n) = with_number (codes "cert: line ") n (codes ": bad rule")
check_line (check.Leaf n f) = leaf_line n f
check_line (check.Unsure n output) = with_number (codes "cert: line ") n (codes ": unsure output " ++ decimal output)
check_line (check.TooManyCells n) = with_number (codes "cert: line ") n (codes ": too many cells")
check_line (check.Claimed output claimed computed) =
    codes "cert: output " ++ (decimal output ++ (codes " claims " ++ (decimal claimed
    ++ (codes ", computed " ++ (decimal computed ++ newline)))))
check_line check.Memory = want_of_memory

abbrev pub cert_line : CertRefusal → List ℕ
cert_line (refusal.Text (cert.BadLine n)) = with_number (codes "cert: line ") n (codes ": bad line")
cert_line (refusal.Text cert.Early) = codes "cert: early" ++ newline
cert_line (refusal.Text (cert.Late n)) = with_number (codes "cert: line ") n (codes ": late")
cert_line (refusal.Text (cert.TooManyLeaves n)) = with_number (codes "cert: line ") n (codes ": too many leaves")
cert_line (refusal.Text cert.Memory) = want_of_memory
cert_line (refusal.Check f) = check_line f

-- halving stops at a cell, of which each byte stands behind a blank, or at the limit of leaves, or another count of
-- targets than of outputs was given
abbrev pub not_reached_line : NotReached → List ℕ
not_reached_line (stop.Cell bytes output bound) =
    codes "not reached: cell" ++ (flat_map behind_blank bytes.items ++ (codes " output " ++ (decimal output
    ++ (codes " bound " ++ (decimal bound ++ newline)))))
not_reached_line stop.LeafLimit = codes "not reached: leaf limit" ++ newline
not_reached_line (stop.Outputs given wanted) =
    with_number (codes "not reached: outputs ") given (codes " " ++ decimal wanted)
not_reached_line stop.Memory = want_of_memory

-- ---- plans and runs

abbrev pub plan_line : PlanFault → List ℕ
plan_line plan.TooMany = codes "plan: too many rows" ++ newline
plan_line (plan.BadRow row) = with_number (codes "plan: row ") row (codes ": bad row")
plan_line (plan.NotFree row at) = with_number (codes "plan: row ") row (codes ": not free " ++ address_digits at)
plan_line (plan.NotAscending row) = with_number (codes "plan: row ") row (codes ": not ascending")
plan_line plan.Memory = want_of_memory

abbrev pub upset_line : UpsetFault → List ℕ
upset_line upset.TooMany = codes "upset: too many rows" ++ newline
upset_line (upset.BadRow row) = with_number (codes "upset: row ") row (codes ": bad row")
upset_line (upset.NotTable row at) = with_number (codes "upset: row ") row (codes ": not table " ++ address_digits at)
upset_line (upset.NotAscending row) = with_number (codes "upset: row ") row (codes ": not ascending")
upset_line upset.Memory = want_of_memory

-- the byte at an address is no instruction
abbrev pub trap_line : ℕ → ℕ → List ℕ
trap_line pc byte = codes "trap: " ++ (address_digits pc ++ (codes " " ++ (byte_digits byte ++ newline)))

-- ---- handlers

-- why the instruction at an address is refused
abbrev pub at_address : ℕ → Text → List ℕ
at_address at why = codes "handler: " ++ (address_digits at ++ (codes ": " ++ (why ++ newline)))

abbrev pub handler_line : HandlerFault → List ℕ
handler_line handler.Empty = codes "handler: empty" ++ newline
handler_line (handler.Outside at) = at_address at (codes "outside")
handler_line (handler.Dead at) = at_address at (codes "dead")
handler_line (handler.Trap at) = at_address at (codes "trap")
handler_line (handler.Refused at) = at_address at (codes "refused")
handler_line (handler.NotFree at to) = at_address at (codes "not free " ++ address_digits to)
handler_line (handler.Backward at) = at_address at (codes "backward")
handler_line (handler.Target at to) = at_address at (codes "target " ++ address_digits to)
handler_line (handler.Height at) = at_address at (codes "height")
handler_line (handler.Falls at) = at_address at (codes "falls")
handler_line handler.Memory = want_of_memory

-- ---- the fast block's files

-- the line of the same fault of another block
abbrev pub usual_line : FastFault → List ℕ
usual_line (fast.Fcl f) = fcl_line f
usual_line (fast.Cert f) = cert_line f
usual_line (fast.Trace f) = trace_line f

abbrev pub fast_line : FastFault → List ℕ
fast_line f = codes "fast " ++ usual_line f
