-- An accepted handler is a take with some writes to free bytes, and so is good code.
use Rattle.handler_check.proofs.Words.{[], ◌%◌, ◌&&◌, ◌++◌, ◌+◌, ◌<◌, ◌^◌, ◌∙◌, ◌∷◌, ◌≡◌, ◌≤◌, AcceptedIsTake, Agree}
use Rattle.handler_check.proofs.Words.{ap, AreOpen, arith, at_code, bit, bytes_at, CanBegin, code_bytes, false}
use Rattle.handler_check.proofs.Words.{frame_bytes, framed, get_or, HasCode, HasHandler, inl, inr, Instr, is_free}
use Rattle.handler_check.proofs.Words.{IsOff, IsWritten, length, List, nat_le, nat_lt, nat_tests, Next, pairs_of}
use Rattle.handler_check.proofs.Words.{placed, Plain, plus, pulled, refl, Regs, Returned, returned, State, step_limit}
use Rattle.handler_check.proofs.Words.{subst, suc, sym, true, until_rti, word_of, Write, zero, ℕ}
use Rattle.cpu12_isa.proofs.Algebra.{agree_self, read_placed, bytes_unwritten, pulled_alike, same_bytes}
use Rattle.std.proofs.{Common.lit≤}
use Rattle.cpu12_isa.specs.{Memory.from, Regions.LeavesStack, Agreement.AllShown}
use Rattle.cpu12_emul.specs.{Simulation.Same, Take.pushed, Take.written}
use Rattle.handler_check.proofs.{Grounds.Grounds, Running.Stage, Running.arrives, Shortness.accepted_is_short}
use Rattle.handler_check.proofs.Bytes.{under, AllFine, free_is, stays, code_stays, open_fine, write_append}
use Rattle.handler_check.proofs.Bytes.{open_append}
use Rattle.handler_check.proofs.Back.{back_in, rti_steps}

pub leaves : LeavesStack is_free
leaves at h = let r = free_is at h in inl r.1

-- the nine bytes are pushed below SP
fine_placed : (vs : List ℕ) (b : ℕ) → 8160 ≤ b → b + length vs ≤ 8192 → AllFine 8192 (placed b vs)
fine_placed [] b lo hi = tt
fine_placed (v ∷ vs) b lo hi = (inr (lo, omega arith), fine_placed vs (plus b 1) (omega arith) (omega arith))

-- where code begins
code_there : (is : List Instr) (ws : List Write) (v : State) → 16384 + length (code_bytes is) ≤ 20480
    → AreOpen is_free ws → HasHandler is v.mem → CanBegin v → HasCode is (at_code ws v).mem
code_there is ws v ends good has can =
    let lo = can.low in
    let hi = can.high in
    code_stays 8192 (pairs_of ws) (pushed v).mem is (omega arith) (open_fine 8192 ws good) ends
    (code_stays 8192 (placed (plus v.regs.sp 65527) (frame_bytes v.regs)) v.mem is (omega arith)
    (fine_placed (frame_bytes v.regs) (plus v.regs.sp 65527) (omega arith) (omega arith)) ends has.code)

still : (ws : List Write) (v : State) (at : ℕ) → 8192 ≤ at → AreOpen is_free ws → CanBegin v
    → get_or (at_code ws v).mem at 0 ≡ get_or v.mem at 0
still ws v at l good can =
    let lo = can.low in
    let hi = can.high in
    stays 8192 (pairs_of ws) (pushed v).mem at (omega arith) (open_fine 8192 ws good) (inr l)
    ∙ stays 8192 (placed (plus v.regs.sp 65527) (frame_bytes v.regs)) v.mem at (omega arith)
    (fine_placed (frame_bytes v.regs) (plus v.regs.sp 65527) (omega arith) (omega arith)) (inr l)

starts : (ws : List Write) (v : State) (is : List Instr) → AreOpen is_free ws → HasHandler is v.mem → CanBegin v
    → (at_code ws v).regs.pc ≡ 16384
starts ws v is good has can =
    ap (λ (k : ℕ). word_of k (get_or (at_code ws v).mem 65523 0)) (still ws v 65522 (omega arith) good can)
    ∙ ap (λ (k : ℕ). word_of (get_or v.mem 65522 0) k) (still ws v 65523 (omega arith) good can) ∙ has.vector

-- the frame is shown, and stays
above : (base at : ℕ) → base ≤ at → under base at ≡ false
above base at l = let e : (nat_le 8160 at && nat_lt at base) ≡ false = grind (arith, nat_tests) in e

shown : (base at n : ℕ) → base ≤ at → at + n < 2 ^ 16 → AllShown (under base) (from at n)
shown base at zero l h = tt
shown base at (suc n) l h = (above base at l, shown base (plus at 1) n (omega arith) (omega arith))

frame_there : (ws : List Write) (v : State) → AreOpen is_free ws → CanBegin v
    → bytes_at (written ws (pushed v)).mem (from (plus v.regs.sp 65527) 9) ≡ frame_bytes v.regs
frame_there ws v good can =
    let lo = can.low in
    let hi = can.high in
    bytes_unwritten (pairs_of ws) (pushed v).mem 9 (plus v.regs.sp 65527) (omega arith)
    (λ k l w. open_not ws ((plus v.regs.sp 65527 + k) % 2 ^ 16) good (omega arith) w)
    ∙ read_placed (frame_bytes v.regs) (plus v.regs.sp 65527) v.mem (omega arith) (lit≤ tt) can.size
  where
    open_not : (ws : List Write) (at : ℕ) → AreOpen is_free ws → 8160 ≤ at → IsWritten (pairs_of ws) at → ⊥
    open_not [] at g lo w = absurd w
    open_not (x ∷ ws) at g lo w =
        elim w [ inl e ↦ (let r = free_is x.at g.0 in omega (arith, r.1)) | inr k ↦ open_not ws at g.1 lo k ]

-- what is hidden below a lower SP is so below a higher one
less : (low high : ℕ) (m n : List ℕ) → low ≤ high → Agree (under low) m n → Agree (under high) m n
less low high m n l a = record { size = a.size; bytes = λ at h. a.bytes at (hidden at h) }
  where
    hidden : (at : ℕ) → under high at ≡ false → under low at ≡ false
    hidden at h = let p : (nat_le 8160 at && nat_lt at high) ≡ false = h in
        let q : (nat_le 8160 at && nat_lt at low) ≡ false = grind (arith, nat_tests) in q

pub accepted_is_take : Grounds → AcceptedIsTake
accepted_is_take k is instrs flags acc ws v good has can =
    let lo = can.low in
    let hi = can.high in
    let fits = can.fits in
    let s : State = at_code ws v in
    let base : ℕ = plus v.regs.sp 65527 in
    let stage : Stage is (plus v.regs.sp 65527) v.temps (bit (pushed v).regs.ccr.0 6) 16384 0 (at_code ws v)
    (at_code ws v).mem = record {
      pc = starts ws v is good has can;
      sp = omega arith;
      temps = refl;
      flag = refl;
      code = code_there is ws v acc.ends good has can;
      mem = agree_self (under (plus v.regs.sp 65527)) (at_code ws v).mem;
    } in
    let a = arrives k is instrs flags (plus v.regs.sp 65527) v.temps (bit (pushed v).regs.ccr.0 6) acc can.temps
    (omega arith) (omega arith) (length (code_bytes is)) 0 16384 0 (at_code ws v) (at_code ws v).mem (omega arith)
    (refl, refl) (omega arith) stage in
    let few = a.few in
    let short : instrs ≤ 4096 = accepted_is_short is instrs acc in
    let all : List Write = ws ++ a.writes in
    let free : AreOpen is_free (ws ++ a.writes) = open_append ws a.writes good a.free in
    let next : Next = record { state = returned a.last; kind = Plain } in
    let went : until_rti flags step_limit (at_code ws v)
    ≡ record { state = returned a.last; steps = suc a.steps; done = true } =
    back_in flags a.steps step_limit (at_code ws v) a.last next (omega arith) a.goes a.stands.0
    (rti_steps k flags a.last (subst IsOff (sym a.temps) can.temps) a.stands) in
    let mem : Agree (under (plus v.regs.sp 65527)) a.last.mem (written (ws ++ a.writes) (pushed v)).mem =
    subst (λ (l : List ℕ). Agree (under (plus v.regs.sp 65527)) a.last.mem l)
    (write_append ws a.writes (pushed v).mem) a.mem in
    let frame = frame_there (ws ++ a.writes) v free can in
    let same : bytes_at a.last.mem (from (plus v.regs.sp 65527) 9) ≡ bytes_at (written (ws ++ a.writes) (pushed v)).mem
    (from (plus v.regs.sp 65527) 9) =
    same_bytes (under (plus v.regs.sp 65527)) a.last.mem (written (ws ++ a.writes) (pushed v)).mem mem
    (from (plus v.regs.sp 65527) 9)
    (shown (plus v.regs.sp 65527) (plus v.regs.sp 65527) 9 (omega arith) (omega arith)) in
    let at_sp : bytes_at a.last.mem (from a.last.regs.sp 9) ≡ bytes_at (written (ws ++ a.writes) (pushed v)).mem
    (from (plus v.regs.sp 65527) 9) = ap (λ (k : ℕ). bytes_at a.last.mem (from k 9)) a.sp ∙ same in
    let quiet = k.takes_quietly is_free (ws ++ a.writes) v leaves free can.size can.fits (omega arith) hi in
    let regs : (returned a.last).regs ≡ (framed (ws ++ a.writes) v).regs =
    ap (pulled a.last.regs) at_sp
    ∙ pulled_alike a.last.regs (pushed v).regs v.regs
    (bytes_at (written (ws ++ a.writes) (pushed v)).mem (from (plus v.regs.sp 65527) 9)) fits.ccr frame
    a.sp a.flag in
    let sp : (framed (ws ++ a.writes) v).regs.sp ≡ v.regs.sp = ap (λ (r : Regs). r.sp) quiet.regs in
    record {
      writes = ws ++ a.writes;
      free = free;
      back = ap (λ (r : Returned). r.done) went;
      steps = subst (λ (r : Returned). r.steps ≤ instrs) (sym went) (omega arith);
      same = subst (λ (r : Returned). Same (λ at. false) r.state (framed (ws ++ a.writes) v)) (sym went) (record {
        regs = regs;
        temps = a.temps;
        mem = less (plus v.regs.sp 65527) (framed (ws ++ a.writes) v).regs.sp a.last.mem
            (written (ws ++ a.writes) (pushed v)).mem (omega arith) mem;
      });
    }
