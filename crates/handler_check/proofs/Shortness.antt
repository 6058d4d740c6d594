-- Paths of a handler are short.
use Rattle.handler_check.proofs.Words.{◌+◌, ◌≤◌, arith, Instr, IsAccepted, List, Path, Rti, suc, zero, ℕ}
use Rattle.handler_check.specs.{Running.HandlersAreShort}
use Rattle.handler_check.proofs.{Acts.leads_on, Decoding.size_low, Places.within}

-- each instruction of a path stands further on
path_far : (is : List Instr) (n at h : ℕ) → Path is n at h → 16384 + n ≤ at
path_far is zero at h p = omega (arith, p.0)
path_far is (suc n) at h p =
    let before = path_far is n p.0 p.1 p.3.0 in
    let size = size_low p.2 in
    let further = leads_on p.2 p.0 at size.0 p.3.2 in
    omega arith

pub accepted_is_short : (is : List Instr) (instrs : ℕ) → IsAccepted is instrs → instrs ≤ 4096
accepted_is_short is instrs acc =
    let longest = acc.longest in
    let n : ℕ = longest.0 in
    let at : ℕ = longest.1 in
    let far = path_far is n at longest.2 longest.3.0 in
    let r = within 16384 is at Rti longest.3.1 in
    let size = size_low Rti in
    let count = longest.3.2 in
    omega (arith, r.1, acc.ends)

pub handlers_are_short : HandlersAreShort
handlers_are_short image instrs k = accepted_is_short k.code instrs k.accepted
