-- A step leaves what fits.
use Rattle.std.proofs.Common.{◌≡◌, ℕ, ◌^◌, ◌<◌, Result, Ok, Err, List, get_or, refl, sym, subst, arith, inl, inr}
use Rattle.cpu12_isa.specs.declared.{instr.Regs.Regs, instr.Instr.Instr}
use Rattle.cpu12_isa.specs.Act.{Act, outcome, bind, write_all}
use Rattle.cpu12_isa.specs.Fits.{FitsRegs, FitsWrites, AreBytes, StaysFit, BytesStay, DecodedFits}
use Rattle.cpu12_isa.specs.declared.instr.Instr.TheVariants.{Rev, Revw, Wav, Wavr}
use Rattle.cpu12_isa.specs.{Memory.from, Memory.bytes_at, Code.FitsOperands, Code.decode_at, Meaning.plain_act}
use Rattle.cpu12_isa.proofs.Algebra.{outcome_bind, bytes_at_fit}
use Rattle.cpu12_parts.specs.{declared.temps.Temps.Temps, Laws.IsOff, Laws.state_of}
use Rattle.cpu12_parts.specs.declared.temps.Temps.TheVariants.{Free, Running, OnStack}
use Rattle.cpu12_parts.specs.Parts.{sums_of, six_pulled, wav_pull, rev, revw, wav}
use Rattle.cpu12_parts.specs.Fits.{FitsTemps, FitsState, FitsOutcome, PartFits}
use Rattle.cpu12_parts.specs.{State.State, State.Outcome, Parts.rev_act, Parts.revw_act, Parts.wav_act}
use Rattle.cpu12_emul.specs.Step.{Left, Next, left_by_part, left_by_plain, instruction_act, step_act, applied}
use Rattle.cpu12_emul.specs.Fits.{StepFits}
use Rattle.cpu12_emul.proofs.Stepping.{step_by_bytes}

-- what plain instructions and parts leave fits
pub record InstructionsFit : Type 0 where
  pub stays_fit : StaysFit
  pub bytes_stay : BytesStay
  pub decoded_fits : DecodedFits
  pub rev_fits : PartFits rev
  pub revw_fits : PartFits revw
  pub wav_fits : PartFits wav

record FitsLeft (l : Left) : Type 0 where
  regs : FitsRegs l.regs
  temps : FitsTemps l.temps
  writes : FitsWrites l.writes

abbrev LeavesFit : Result Left ℕ → Type 0
LeavesFit (Ok l) = FitsLeft l
LeavesFit (Err byte) = Unit {0}

-- a part
part_left : (a : Act Outcome) (m : List ℕ) → FitsOutcome (outcome a m) → LeavesFit (outcome (bind a left_by_part) m)
part_left a m f = subst LeavesFit (sym (outcome_bind a left_by_part m))
    (record { regs = f.regs; temps = f.temps; writes = f.writes })

-- what wavr pulls
sums_fit : (vs : List ℕ) → AreBytes vs → FitsTemps (sums_of vs)
sums_fit vs b =
    let b0 : get_or vs 0 0 < 2 ^ 8 = b 0 in
    let b1 : get_or vs 1 0 < 2 ^ 8 = b 1 in
    let b2 : get_or vs 2 0 < 2 ^ 8 = b 2 in
    let b3 : get_or vs 3 0 < 2 ^ 8 = b 3 in
    let b4 : get_or vs 4 0 < 2 ^ 8 = b 4 in
    let b5 : get_or vs 5 0 < 2 ^ 8 = b 5 in
    (omega arith, omega arith)

six_fit : (r : Regs) (m : List ℕ) → FitsRegs r → AreBytes m → FitsOutcome (outcome (six_pulled r) m)
six_fit r m f b = record {
  regs = record { a = f.a; b = f.b; x = f.x; y = f.y; sp = omega arith; pc = f.pc; ccr = f.ccr };
  temps = sums_fit (bytes_at m (from r.sp 6)) (bytes_at_fit m (from r.sp 6) b);
  writes = tt;
}

pulls_fit : (r : Regs) (t : Temps) (m : List ℕ) → FitsRegs r → FitsTemps t → AreBytes m
    → FitsOutcome (outcome (wav_pull r t) m)
pulls_fit r Free m f ft b = six_fit r m f b
pulls_fit r OnStack m f ft b = six_fit r m f b
pulls_fit r (Running p w) m f ft b = record { regs = f; temps = ft; writes = tt }

instruction_fits : InstructionsFit → (flags : ℕ) (r : Regs) (t : Temps) (m : List ℕ) (d : Result Instr ℕ)
    → flags < 2 ^ 8 → FitsRegs r → FitsTemps t
    → AreBytes m → ((i : Instr) → d ≡ Ok i → FitsOperands i)
    → LeavesFit (outcome (instruction_act flags r t d) m)
instruction_fits laws flags r t m (Err byte) ff f ft b o = tt
instruction_fits laws flags r t m (Ok Rev) ff f ft b o =
    part_left (rev_act flags r t) m (laws.rev_fits flags (state_of r t m) ff (record { regs = f; temps = ft; mem = b }))
instruction_fits laws flags r t m (Ok Revw) ff f ft b o =
    part_left (revw_act flags r t) m
    (laws.revw_fits flags (state_of r t m) ff (record { regs = f; temps = ft; mem = b }))
instruction_fits laws flags r t m (Ok Wav) ff f ft b o =
    part_left (wav_act flags r t) m (laws.wav_fits flags (state_of r t m) ff (record { regs = f; temps = ft; mem = b }))
instruction_fits laws flags r t m (Ok Wavr) ff f ft b o =
    let q : Outcome = outcome (wav_pull r t) m in
    let p = pulls_fit r t m f ft b in
    subst LeavesFit (sym (outcome_bind (wav_pull r t) (λ k. bind (wav_act flags k.regs k.temps) left_by_part) m))
    (part_left (wav_act flags q.regs q.temps) m
    (laws.wav_fits flags (state_of q.regs q.temps m) ff (record { regs = p.regs; temps = p.temps; mem = b })))
instruction_fits laws flags r t m (Ok i) ff f ft b o =
    let k = laws.stays_fit flags i r m ff (o i refl) f b in
    subst LeavesFit (sym (outcome_bind (plain_act flags i r) (left_by_plain t) m))
    (record { regs = k.0; temps = ft; writes = k.1 })

off_fits : InstructionsFit → (flags : ℕ) (s : State) → IsOff s.temps → flags < 2 ^ 8 → FitsState s
    → LeavesFit (outcome (step_act flags s.regs s.temps) s.mem)
off_fits laws flags s off ff f = subst LeavesFit (sym (step_by_bytes flags s.regs s.temps s.mem off))
    (instruction_fits laws flags s.regs s.temps s.mem (decode_at s.mem s.regs.pc) ff f.regs f.temps f.mem
    (λ i e. laws.decoded_fits s.mem s.regs.pc i f.mem e))

act_fits : InstructionsFit → (flags : ℕ) (r : Regs) (t : Temps) (m : List ℕ) → flags < 2 ^ 8
    → FitsState (state_of r t m)
    → LeavesFit (outcome (step_act flags r t) m)
act_fits laws flags r Free m ff f = off_fits laws flags (state_of r Free m) (inl refl) ff f
act_fits laws flags r OnStack m ff f = off_fits laws flags (state_of r OnStack m) (inr refl) ff f
act_fits laws flags r (Running p w) m ff f =
    part_left (wav_act flags r (Running p w)) m (laws.wav_fits flags (state_of r (Running p w) m) ff f)

applied_fits : InstructionsFit → (o : Result Left ℕ) (m : List ℕ) (next : Next) → LeavesFit o → AreBytes m
    → applied o m ≡ Ok next → FitsState next.state
applied_fits laws (Err byte) m next l b e = absurd cc
applied_fits laws (Ok left) m next l b e =
    let here : Next = record
    { state = record { regs = left.regs; temps = left.temps; mem = write_all left.writes m }; kind = left.kind } in
    let same : here ≡ next = cc in
    subst (λ (n : Next). FitsState n.state) same
    (record { regs = l.regs; temps = l.temps; mem = laws.bytes_stay left.writes m l.writes b })

pub step_fits : InstructionsFit → StepFits
step_fits laws flags s next ff f e =
    applied_fits laws (outcome (step_act flags s.regs s.temps) s.mem) s.mem next
    (act_fits laws flags s.regs s.temps s.mem ff f) f.mem e
