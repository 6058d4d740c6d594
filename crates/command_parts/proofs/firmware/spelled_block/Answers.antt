use Rattle.std.proofs.Common.{◌≡◌, ◌∙◌, ℕ, List, Some, None, ap, subst}
use Rattle.std.specs.Str.{str_to_ascii_lowercase}
use Rattle.fcl_check.specs.{Faults.first_fault, Loaded.IsBlockOf}
use Rattle.fz_status.specs.declared.status.FclFault.TheVariants as fcl
use Rattle.fz_status.specs.declared.status.Status.TheVariants as status
use Rattle.command_parts.specs.Firmwares.{text_refusals}
use Rattle.command_parts.proofs.Algebra.{told}
use Rattle.command_parts.proofs.firmware.spelled_block.Goals as goal

pub returns-clause-block : goal.returns-clause-block
returns-clause-block c =
    let tree = c.in_ok-tree.tree in
    let kept = c.in_ok-tree.ensures.kept ∙ ap str_to_ascii_lowercase c.bytes.ensures.value in
    record {
      tree = tree.block;
      spelled = rw c.bytes.ensures.value at c.in_ok-tree.ensures.found;
      well_formed = subst (λ (ls : List ℕ). first_fault ls tree.block ≡ None) kept c.in_ok-load.ensures.fault;
      loaded = subst (λ (ls : List ℕ). IsBlockOf ls tree.block c.in_ok-load.field-0) kept c.in_ok-load.ensures.block;
      valid = c.in_ok-load.ensures.valid;
    }

pub returns-in_err-load-clause-fault : goal.returns-in_err-load-clause-fault
returns-in_err-load-clause-fault c =
    let tree = c.in_ok-tree.tree in
    let fault = c.in_err-load.field-0.0 in
    let kept = c.in_ok-tree.ensures.kept ∙ ap str_to_ascii_lowercase c.bytes.ensures.value in
    told (text_refusals c.args.text.now) (status.Fcl (fcl.Load fault)) _ c.from_residual-in_err-load.ensures.1
    (λ no_memory. record {
      tree = tree.block;
      spelled = rw c.bytes.ensures.value at c.in_ok-tree.ensures.found;
      first = subst (λ (ls : List ℕ). first_fault ls tree.block ≡ Some fault) kept
          (c.in_err-load.ensures.fault no_memory);
    })
