-- An outer request is quiet.
use Rattle.two_level_runs.proofs.Words.{[], ◌<◌, ◌∙◌, ◌≡◌, ◌≤◌, Agree, arith, both_ways, cases_lt, entered}
use Rattle.two_level_runs.proofs.Words.{false, fast_run, Free, inl, inr, is_fast_ram, is_fast_rom, is_free, is_hidden}
use Rattle.two_level_runs.proofs.Words.{is_open_to_fast, IsOff, IsQuietRun, IsServable, LeavesStack, length, List}
use Rattle.two_level_runs.proofs.Words.{nat_tests, OnStack, OnStackOrNone, or_parts, OuterIsQuiet}
use Rattle.two_level_runs.proofs.Words.{OuterServes, Quiet, refl, Running, RunsFast, served_by, sym, Temps}
use Rattle.two_level_runs.proofs.Words.{WritesAreQuiet, ℕ}
use Rattle.std.proofs.Common.{◌||◌, Option, None, Some}
use Rattle.firmware_code.proofs.Algebra.{hidden_less}
use Rattle.firmware_runs.specs.{Facts.AreNoneOrRunning}
use Rattle.cpu12_isa.specs.{Regions.is_vector}
use Rattle.run_law.specs.{Soundness.AreLeft}

-- what is open to the fast block is not the stack
pub open_apart : LeavesStack is_open_to_fast
open_apart at h = elim (cases_lt at 0x1FE0) [
  | inl below ↦ inl below
  | inr from ↦ elim (cases_lt at 0x2000) [
    | inl inside ↦ absurd (never from inside)
    | inr above ↦ inr above
  ]
]
  where
    never : 0x1FE0 ≤ at → at < 0x2000 → ⊥
    never from inside =
        (let a : is_free at ≡ false = grind (arith, nat_tests) in
        let b : is_fast_ram at ≡ false = grind (arith, nat_tests) in
        let c : is_fast_rom at ≡ false = grind (arith, nat_tests) in
        let d : is_vector at ≡ false = grind (arith, nat_tests) in
        both_ways (is_open_to_fast at) (rw (a, b, c, d) refl) h)

-- less is hidden where the RAM alone is open
more_hidden : (sp : ℕ) (m n : List ℕ) → Agree (is_hidden is_fast_ram sp) m n → Agree (is_hidden is_open_to_fast sp) m n
more_hidden sp m n = hidden_less is_fast_ram is_open_to_fast sp m n (λ at h.
    (let f = or_parts (is_free at) (is_fast_ram at || (is_fast_rom at || is_vector at)) h in
    let r = or_parts (is_fast_ram at) (is_fast_rom at || is_vector at) f.1 in r.0))

-- the sums that are left
left : (t u v : Temps) → AreNoneOrRunning t → IsOff u → (v ≡ Free → u ≡ Free) → (t ≡ Free → v ≡ Free)
    → AreLeft OnStackOrNone t u v
left (Running p w) u v slow off stays same = off
left Free u v slow off stays same = stays (same refl) ∙ sym (same refl)
left OnStack u v slow off stays same = absurd slow

pub outer_serves : WritesAreQuiet → OuterIsQuiet → OuterServes
outer_serves quiet runs b image flags most before q v s hf few_in few_out can servable ascend room begins slow =
    by q.sample servable
  where
    by : (sample : Option (List ℕ)) → IsServable b image flags most before v sample
        → Quiet OnStackOrNone is_open_to_fast (served_by flags (length b.outputs) most q.inner sample v) v s
    by None h = quiet OnStackOrNone is_open_to_fast [] v s open_apart tt room begins
    by (Some bytes) h =
        (let fast : RunsFast b image flags most before v bytes = h.1 in
        let ran = fast_run flags (length b.outputs) most q.inner (entered bytes v) in
        let k : IsQuietRun b bytes before v ran =
        runs b image bytes flags most before q.inner v fast.behind hf few_in few_out h.0 can ascend fast.run
        fast.within in
        record {
          regs = k.regs;
          temps = left s.temps ran.state.temps v.temps slow k.off k.free begins.free;
          mem = more_hidden v.regs.sp ran.state.mem v.mem k.mem;
        })
