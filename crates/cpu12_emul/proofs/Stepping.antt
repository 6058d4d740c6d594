-- Steps keep the simulation.
use Rattle.std.proofs.Common.{◌≡◌, ℕ, ◌+◌, ◌*◌, ◌/◌, ◌%◌, ◌^◌, ◌<◌, Bool, true, false, Result, Ok, List, [], ◌∷◌, ◌++◌}
use Rattle.std.proofs.Common.{get_or, refl, ap, sym, ◌∙◌, subst}
use Rattle.std.proofs.Common.{arith, inl, inr}
use Rattle.cpu12_isa.specs.{declared.instr.Regs.Regs, declared.instr.Instr.Instr, Regions.is_hidden}
use Rattle.cpu12_isa.specs.Act.{Act, outcome, read_by, bind, write_all}
use Rattle.cpu12_isa.specs.declared.instr.Instr.TheVariants.{Rev, Revw, Wav, Wavr}
use Rattle.cpu12_isa.specs.{Memory.plus, Memory.from, Memory.bytes_at, Code.decode_at, Code.decode_of, Code.six_from}
use Rattle.cpu12_isa.specs.{Meaning.is_plain, Meaning.plain_act, Agreement.Agree, Agreement.WritesAgree}
use Rattle.cpu12_isa.proofs.Algebra.{outcome_bind, read_by_bind, same_outcome}
use Rattle.cpu12_parts.specs.declared.{temps.Temps.Temps, temps.Temps.TheVariants.Running}
use Rattle.cpu12_parts.specs.{State.State, State.Outcome, Laws.IsOff, declared.temps.PartEnd.TheVariants.More}
use Rattle.cpu12_parts.specs.Parts.{wav_act, sum_bytes, sums_of, wav_pull, Kind, rev, revw, wav}
use Rattle.cpu12_emul.specs.Step.{Left, Next, step_act, instruction_act, left_by_part, left_by_plain, applied}
use Rattle.cpu12_emul.specs.Step.{next_of}
use Rattle.cpu12_emul.specs.Simulation.{Same, Parked, AreSumsReady, HasRoom, IsShownStep, StepsAlike, StepAgrees}
use Rattle.cpu12_emul.specs.Simulation.{OnStackOrNone, WavrGoesOn, StepKeeps, PlainIsStep, PartIsStep, SumsAreStep}
use Rattle.cpu12_emul.specs.Simulation.{left_of}

pub step_agrees : WritesAgree → StepAgrees
step_agrees agree flags r t m n l hidden later a shown is u = (
  same_outcome hidden m n a (step_act flags r t) shown ∙ is,
  agree l.writes m n hidden later a u,
)

-- a step where no sums run goes by six bytes
pub step_by_bytes : (flags : ℕ) (r : Regs) (t : Temps) (m : List ℕ) → IsOff t
    → outcome (step_act flags r t) m ≡ outcome (instruction_act flags r t (decode_at m r.pc)) m
step_by_bytes flags r t m off = elim off [
  | inl e ↦ subst (λ (u : Temps). outcome (step_act flags r u) m ≡ outcome
      (instruction_act flags r u (decode_at m r.pc)) m) (sym e) refl
  | inr e ↦ subst (λ (u : Temps). outcome (step_act flags r u) m ≡ outcome
      (instruction_act flags r u (decode_at m r.pc)) m) (sym e) refl
]

pub reads_by_bytes : (flags : ℕ) (r : Regs) (t : Temps) (m : List ℕ) → IsOff t
    → read_by (step_act flags r t) m ≡ six_from r.pc ++ read_by (instruction_act flags r t (decode_at m r.pc)) m
reads_by_bytes flags r t m off = elim off [
  | inl e ↦ subst (λ (u : Temps). read_by (step_act flags r u) m ≡ six_from r.pc
      ++ read_by (instruction_act flags r u (decode_at m r.pc)) m) (sym e) refl
  | inr e ↦ subst (λ (u : Temps). read_by (step_act flags r u) m ≡ six_from r.pc
      ++ read_by (instruction_act flags r u (decode_at m r.pc)) m) (sym e) refl
]

-- the step of a plain instruction
plain_act_is : (flags : ℕ) (r : Regs) (t : Temps) (i : Instr) → is_plain i ≡ true
    → instruction_act flags r t (Ok i) ≡ bind (plain_act flags i r) (left_by_plain t)
plain_act_is flags r t Rev p = absurd (let e : false ≡ true = p in cc)
plain_act_is flags r t Revw p = absurd (let e : false ≡ true = p in cc)
plain_act_is flags r t Wav p = absurd (let e : false ≡ true = p in cc)
plain_act_is flags r t Wavr p = absurd (let e : false ≡ true = p in cc)
plain_act_is flags r t i p = refl

-- the step of the instruction that is decoded
pub next_of-decoded : (flags : ℕ) (s : State) (i : Instr) (next : Result Next ℕ) → IsOff s.temps
    → decode_at s.mem s.regs.pc ≡ Ok i
    → applied (outcome (instruction_act flags s.regs s.temps (Ok i)) s.mem) s.mem ≡ next → next_of flags s ≡ next
next_of-decoded flags s i next off d e =
    ap (λ (o : Result Left ℕ). applied o s.mem)
    (step_by_bytes flags s.regs s.temps s.mem off
    ∙ ap (λ (k : Result Instr ℕ). outcome (instruction_act flags s.regs s.temps k) s.mem) d) ∙ e

pub plain_is_step : PlainIsStep
plain_is_step flags i s off d p =
    let act : instruction_act flags s.regs s.temps (decode_at s.mem s.regs.pc) ≡ bind (plain_act flags i s.regs)
    (left_by_plain s.temps) =
    ap (instruction_act flags s.regs s.temps) d ∙ plain_act_is flags s.regs s.temps i p in (
      step_by_bytes flags s.regs s.temps s.mem off ∙ ap (λ (a : Act (Result Left ℕ)). outcome a s.mem) act
          ∙ outcome_bind (plain_act flags i s.regs) (left_by_plain s.temps) s.mem,
      reads_by_bytes flags s.regs s.temps s.mem off
          ∙ ap (λ (a : Act (Result Left ℕ)). six_from s.regs.pc ++ read_by a s.mem) act
          ∙ ap (λ (l : List ℕ). six_from s.regs.pc ++ l)
          (read_by_bind (plain_act flags i s.regs) (left_by_plain s.temps) s.mem
          ∙ nothing_behind (read_by (plain_act flags i s.regs) s.mem)),
    )
  where
    nothing_behind : (xs : List ℕ) → xs ++ [] ≡ xs
    nothing_behind [] = refl
    nothing_behind (x ∷ xs) = ap (λ (l : List ℕ). x ∷ l) (nothing_behind xs)

-- a part by its act
part_step : (i : Instr) (k : Kind)
    → ((flags : ℕ) (r : Regs) (t : Temps) → instruction_act flags r t (Ok i) ≡ bind (k.act flags r t) left_by_part)
    → PartIsStep i k
part_step i k is flags s off d =
    let act : instruction_act flags s.regs s.temps (decode_at s.mem s.regs.pc) ≡ bind
    (k.act flags s.regs s.temps) left_by_part = ap (instruction_act flags s.regs s.temps) d
    ∙ is flags s.regs s.temps in (
      step_by_bytes flags s.regs s.temps s.mem off ∙ ap (λ (a : Act (Result Left ℕ)). outcome a s.mem) act
          ∙ outcome_bind (k.act flags s.regs s.temps) left_by_part s.mem,
      reads_by_bytes flags s.regs s.temps s.mem off
          ∙ ap (λ (a : Act (Result Left ℕ)). six_from s.regs.pc ++ read_by a s.mem) act
          ∙ ap (λ (l : List ℕ). six_from s.regs.pc ++ l)
          (read_by_bind (k.act flags s.regs s.temps) left_by_part s.mem
          ∙ nothing_behind (read_by (k.act flags s.regs s.temps) s.mem)),
    )
  where
    nothing_behind : (xs : List ℕ) → xs ++ [] ≡ xs
    nothing_behind [] = refl
    nothing_behind (x ∷ xs) = ap (λ (l : List ℕ). x ∷ l) (nothing_behind xs)

pub rev_is_step : PartIsStep Rev rev
rev_is_step = part_step Rev rev (λ flags r t. refl)

pub revw_is_step : PartIsStep Revw revw
revw_is_step = part_step Revw revw (λ flags r t. refl)

pub wav_is_step : PartIsStep Wav wav
wav_is_step = part_step Wav wav (λ flags r t. refl)

pub sums_are_step : SumsAreStep
sums_are_step flags s p w run = (
  subst (λ (u : Temps). outcome (step_act flags s.regs u) s.mem ≡ Ok (left_of (outcome (wav_act flags s.regs u) s.mem)))
      (sym run) (outcome_bind (wav_act flags s.regs (Running p w)) left_by_part s.mem),
  subst (λ (u : Temps). read_by (step_act flags s.regs u) s.mem ≡ read_by (wav_act flags s.regs u) s.mem) (sym run)
      (read_by_bind (wav_act flags s.regs (Running p w)) left_by_part s.mem
      ∙ nothing_behind (read_by (wav_act flags s.regs (Running p w)) s.mem)),
)
  where
    nothing_behind : (xs : List ℕ) → xs ++ [] ≡ xs
    nothing_behind [] = refl
    nothing_behind (x ∷ xs) = ap (λ (l : List ℕ). x ∷ l) (nothing_behind xs)

-- the sums from their bytes
sums_again : (p w : ℕ) → p < 2 ^ 32 → w < 2 ^ 16 → sums_of (sum_bytes p w) ≡ Running p w
sums_again p w f g =
    let e : (p / 2 ^ 24 * 2 ^ 8 + p / 2 ^ 16 % 2 ^ 8) * 2 ^ 16 + (p / 2 ^ 8 % 2 ^ 8 * 2 ^ 8 + p % 2 ^ 8) ≡ p =
    omega arith in
    let h : w / 2 ^ 8 * 2 ^ 8 + w % 2 ^ 8 ≡ w = omega arith in
    cc

-- what wavr pulls
pulled_sums : (r : Regs) (t : Temps) (p w : ℕ) (m : List ℕ) → IsOff t → r.sp < 2 ^ 16 → p < 2 ^ 32 → w < 2 ^ 16
    → bytes_at m (from (plus r.sp 65530) 6) ≡ sum_bytes p w
    → outcome (wav_pull (record r { sp = plus r.sp 65530 }) t) m
    ≡ record { regs = r; temps = Running p w; writes = []; end = More }
pulled_sums r t p w m off s f g e =
    let sp : plus (plus r.sp 65530) 6 ≡ r.sp = omega arith in
    let u : sums_of (bytes_at m (from (plus r.sp 65530) 6)) ≡ Running p w = ap sums_of e ∙ sums_again p w f g in
    let out : Regs → Temps → Outcome = λ k v. record { regs = k; temps = v; writes = []; end = More } in
    let now : Outcome = record {
      regs = record r { sp = plus (plus r.sp 65530) 6 };
      temps =
          sums_of (bytes_at m (from (plus r.sp 65530) 6));
      writes = [];
      end = More;
    } in
    let either : outcome (wav_pull (record r { sp = plus r.sp 65530 }) t) m ≡ now = elim off [
      | inl z ↦ subst (λ (v : Temps). outcome (wav_pull (record r { sp = plus r.sp 65530 }) v) m ≡ now) (sym z) refl
      | inr z ↦ subst (λ (v : Temps). outcome (wav_pull (record r { sp = plus r.sp 65530 }) v) m ≡ now) (sym z) refl
    ] in
    either ∙ ap (λ (k : ℕ). out (record r { sp = k }) (sums_of (bytes_at m (from (plus r.sp 65530) 6)))) sp
    ∙ ap (out r) u

pub wavr_goes_on : WavrGoesOn
wavr_goes_on flags r t p w m off s f g code e =
    let r' : Regs = record r { sp = plus r.sp 65530 } in
    let rest = bytes_at m (plus r.pc 1 ∷ plus r.pc 2 ∷ plus r.pc 3 ∷ plus r.pc 4 ∷ plus r.pc 5 ∷ []) in
    let decoded : decode_at m r.pc ≡ Ok Wavr =
    ap (λ (k : ℕ). decode_of
    (k ∷ bytes_at m (plus r.pc 1 ∷ plus r.pc 2 ∷ plus r.pc 3 ∷ plus r.pc 4 ∷ plus r.pc 5 ∷ []))) code in
    step_by_bytes flags r' t m off
    ∙ ap (λ (i : Result Instr ℕ). outcome (instruction_act flags r' t i) m) decoded
    ∙ outcome_bind (wav_pull r' t) (λ o. bind (wav_act flags o.regs o.temps) left_by_part) m
    ∙ ap (λ (o : Outcome). outcome (bind (wav_act flags o.regs o.temps) left_by_part) m)
    (pulled_sums r t p w m off s f g e)

-- what a step leaves, on a memory
abbrev next_by : Left → List ℕ → Next
next_by l m = record { state = record { regs = l.regs; temps = l.temps; mem = write_all l.writes m }; kind = l.kind }

alike_by : (open_to : ℕ → Bool) (flags : ℕ) (s t : State) (k : IsShownStep open_to flags t)
    → outcome (step_act flags s.regs s.temps) s.mem ≡ Ok k.left
    → Agree (is_hidden open_to k.left.regs.sp) (write_all k.left.writes s.mem) (write_all k.left.writes t.mem)
    → StepsAlike open_to flags s t
alike_by open_to flags s t k e a = record {
  next = next_by k.left s.mem;
  goal = next_by k.left t.mem;
  goes = ap (λ (o : Result Left ℕ). applied o s.mem) e;
  uninterrupted = ap (λ (o : Result Left ℕ). applied o t.mem) k.goes;
  kind = refl;
  same = record { regs = refl; temps = refl; mem = a };
}

step_same : StepAgrees → (open_to : ℕ → Bool) (flags : ℕ) (s t : State) → Same open_to s t → IsShownStep open_to flags t
    → StepsAlike open_to flags s t
step_same agrees open_to flags s t l k =
    let both = agrees flags t.regs t.temps s.mem t.mem k.left (is_hidden open_to t.regs.sp)
    (is_hidden open_to k.left.regs.sp) l.mem k.reads k.goes k.covers in
    alike_by open_to flags s t k
    (ap (λ (r : Regs). outcome (step_act flags r s.temps) s.mem) l.regs
    ∙ ap (λ (u : Temps). outcome (step_act flags t.regs u) s.mem) l.temps ∙ both.0)
    both.1

step_parked : StepAgrees → WavrGoesOn → (open_to : ℕ → Bool) (flags : ℕ) (s t : State)
    → Parked OnStackOrNone open_to s t → IsShownStep open_to flags t
    → StepsAlike open_to flags s t
step_parked agrees goes_on open_to flags s t l k =
    let good : AreSumsReady open_to t (Running l.product l.weight) =
    subst (λ (u : Temps). AreSumsReady open_to t u) l.running k.sums in
    let room : HasRoom t = k.room in
    let fits = room.fits in
    let code : get_or s.mem t.regs.pc 0 ≡ 60 = l.mem.bytes t.regs.pc good.3 ∙ good.2 in
    let both = agrees flags t.regs t.temps s.mem t.mem k.left (is_hidden open_to t.regs.sp)
    (is_hidden open_to k.left.regs.sp) l.mem k.reads k.goes k.covers in
    alike_by open_to flags s t k
    (ap (λ (r : Regs). outcome (step_act flags r s.temps) s.mem) l.regs
    ∙ goes_on flags t.regs s.temps l.product l.weight s.mem l.temps fits.sp good.0 good.1 code l.sums
    ∙ ap (λ (u : Temps). outcome (step_act flags t.regs u) s.mem) (sym l.running)
    ∙ both.0)
    both.1

pub step_keeps : StepAgrees → WavrGoesOn → StepKeeps
step_keeps agrees goes_on open_to flags s t (inl l) k = step_same agrees open_to flags s t l k
step_keeps agrees goes_on open_to flags s t (inr l) k = step_parked agrees goes_on open_to flags s t l k
