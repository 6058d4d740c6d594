-- A list of samples is answered.
use Rattle.alone_code.proofs.Words.{[], ℕ, ◌∷◌, All, answer, AreAnsweredBeside, AreInputBytes, arith, Block, given}
use Rattle.alone_code.proofs.Words.{false, Home, instruction_bound, List, Setting, State, Width}
use Rattle.std.proofs.Common.{suc}
use Rattle.alone_code.specs.Answers.{IsAnsweredBeside}
use Rattle.firmware_code.proofs.Algebra.{idles, steady_of}
use Rattle.alone_code.proofs.runs.Framing.{Samples, Sampled, sample_run}

answered : (c : Setting) (b : Block) (w : Width) (bytes : List ℕ) (before : ℕ → ℕ) (s : State) → Samples c b w
    → (r : Sampled c b w bytes before (given c.memory_map bytes s))
    → IsAnsweredBeside c.open_to c.memory_map b w (instruction_bound w b) c.image c.flags before bytes s r.t
answered c b w bytes before s h r =
    let lo = h.framed.started.low in
    let hi = h.framed.started.high in
    let wait = h.framed.started.wait in
    let ep = r.home.pc_is in
    record {
      ds = r.ds;
      execution = r.execution;
      idle = idles c.memory_map r.t r.home.pc_is r.home.ready_is;
      interruptible = steady_of c false r.t r.home.live (omega arith) (omega arith);
      answers = r.home.outs;
      instructions = r.instructions;
      steps = r.steps;
    }

pub are_answered : (c : Setting) (b : Block) (w : Width) (samples : List (List ℕ)) (before : ℕ → ℕ) (s : State)
    → Samples c b w → Home c b w before s → All (AreInputBytes b) samples
    → AreAnsweredBeside c.open_to c.memory_map b w (instruction_bound w b) c.image c.flags before samples s
are_answered c b w [] before s h home all = tt
are_answered c b w (bytes ∷ samples) before s h home all =
    let r = sample_run c b w bytes before s h (all 0 bytes (omega arith)) home in (
      r.t,
      (
        answered c b w bytes before s h r,
        are_answered c b w samples (λ o. answer w b o bytes (before o)) r.t h r.home
            (λ k d lt. all (suc k) d (omega arith)),
      ),
    )
