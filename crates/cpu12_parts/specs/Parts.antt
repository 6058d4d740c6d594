-- One part of REV, REVW and WAV: one element of its list; the sums of WAV; and the boundaries between two parts where
-- an interrupt may cut in (CPU12 Reference Manual, sections 9.5 and 9.6).
-- Reached by the promise.
use Rattle.std.specs.Prelude.{ℕ, ◌+◌, ◌-◌, ◌*◌, ◌/◌, ◌%◌, ◌^◌, ◌==◌, min, max, true, false, if◌then◌else◌, [], ◌∷◌}
use Rattle.cpu12_isa.specs.declared.instr.Regs.{Regs}
use Rattle.cpu12_isa.specs.Flags.{has, put, opened, carry, overflow, zero_result, hnzc, hnz, hnvc, hnzvc}
use Rattle.cpu12_isa.specs.{Act.Act, Act.Give, Act.Get, Memory.plus, Memory.word_of, Registers.passed}
use Rattle.cpu12_parts.specs.{declared.temps.Temps.Temps, declared.temps.PartEnd.PartEnd, State.Outcome}
use Rattle.cpu12_parts.specs.declared.temps.Temps.TheVariants.{Free, Running, OnStack}
use Rattle.cpu12_parts.specs.declared.temps.PartEnd.TheVariants.{More, Done}
use Rattle.std.specs.Prelude.{List, slice_index}
use Rattle.cpu12_isa.specs.{Act.get_all, Memory.from, Memory.placed}
use Rattle.std.specs.Prelude.{◌≡◌, Bool}
use Rattle.cpu12_isa.specs.{Act.outcome}
use Rattle.cpu12_parts.specs.{State.State, State.state_after}

-- a part that writes nothing
abbrev pub leaving : Regs → Temps → PartEnd → Act Outcome
leaving r t end = Give (record { regs = r; temps = t; writes = []; end = end })

-- A truth that is cut by a weight byte w
abbrev pub weighted : ℕ → ℕ → ℕ
weighted a w = a * (w + 1) / 2 ^ 8

-- An element that names a byte: with V 0 it is an antecedent and A becomes the lesser, with V 1 a conclusion, which
-- becomes the greater. s has the registers before the part, r those after.
abbrev pub met : Regs → Regs → Temps → ℕ → Act Outcome
met s r t at = Get at (λ v.
    if has s.ccr overflow then Give (record { regs = r; temps = t; writes = (at, max v s.a) ∷ []; end = More })
    else leaving (record r { a = min s.a v }) t More)

-- An element e of a list: the one that ends it; the separator, which with V 1 begins a rule and with V 0 turns to
-- conclusions; or one that names a byte, the one at an address. s has the registers before the part, r those after.
abbrev pub element : Regs → Regs → Temps → (stop separator e : ℕ) → (turned : Act Outcome) → (at : ℕ) → Act Outcome
element s r t stop separator e turned at =
    if e == stop then leaving (passed r 2) t Done
    else (if e == separator then (
    if has s.ccr overflow then leaving (record r { a = 255; ccr = put r.ccr overflow false }) t More else turned)
    else met s r t at)

-- the element e of REV's list
abbrev pub rev_element : ℕ → Regs → Temps → ℕ → Act Outcome
rev_element flags s t e =
    let r = record s { x = plus s.x 1; ccr = opened s.ccr hnzc flags } in
    element s r t 255 254 e (leaving (record r { ccr = put r.ccr overflow true }) t More) (plus s.y e)

-- one part of REV: the byte at X
abbrev pub rev_act : ℕ → Regs → Temps → Act Outcome
rev_act flags s t = Get s.x (rev_element flags s t)

-- the element e of REVW's list, where turning to conclusions with C 1 takes a weight
abbrev pub revw_element : ℕ → Regs → Temps → ℕ → Act Outcome
revw_element flags s t e =
    let r = record s { x = plus s.x 2; ccr = opened s.ccr hnz flags } in
    let turned = record r { ccr = put r.ccr overflow true } in
    element s r t 65535 65534 e (
    if has s.ccr carry
    then Get s.y (λ w. leaving (record turned { a = weighted s.a w; y = plus s.y 1 }) t More)
    else leaving turned t More) e

-- one part of REVW: the word at X
abbrev pub revw_act : ℕ → Regs → Temps → Act Outcome
revw_act flags s t = Get s.x (λ high. Get (plus s.x 1) (λ low. revw_element flags s t (word_of high low)))

-- the registers at WAV's end with these sums, where its last byte stands at pc
abbrev pub wav_end : ℕ → Regs → ℕ → ℕ → ℕ → Regs
wav_end flags r product weight pc = record r {
  y = product / 2 ^ 16;
  a = product / 2 ^ 8 % 2 ^ 8;
  b = product % 2 ^ 8;
  x = weight;
  pc = plus pc 1;
  ccr = put (opened r.ccr hnvc flags) zero_result true;
}

-- one part of WAV with the sums before it, where its last byte stands at pc
abbrev pub wav_from : ℕ → Regs → ℕ → ℕ → ℕ → Act Outcome
wav_from flags r product weight pc =
    if r.b == 0 then leaving (wav_end flags r product weight pc) Free Done
    else Get r.x (λ u. Get r.y (λ v.
    let p = (product + u * v) % 2 ^ 32 in
    let w = (weight + v) % 2 ^ 16 in
    if r.b == 1 then leaving (wav_end flags r p w pc) Free Done
    else leaving (record r { x = plus r.x 1; y = plus r.y 1; b = r.b - 1; pc = pc; ccr = opened r.ccr hnzvc flags })
    (Running p w) More))

-- one part of WAV. Where no sums run it begins: the sums are 0, and PC goes to its second byte.
abbrev pub wav_act : ℕ → Regs → Temps → Act Outcome
wav_act flags r Free = wav_from flags r 0 0 (plus r.pc 1)
wav_act flags r OnStack = wav_from flags r 0 0 (plus r.pc 1)
wav_act flags r (Running p w) = wav_from flags r p w r.pc

-- the sums as they lie there, from the lowest address: the product's high word and low word, then the weight
abbrev pub sum_bytes : ℕ → ℕ → List ℕ
sum_bytes p w = p / 2 ^ 24 ∷ p / 2 ^ 16 % 2 ^ 8 ∷ p / 2 ^ 8 % 2 ^ 8 ∷ p % 2 ^ 8 ∷ w / 2 ^ 8 ∷ w % 2 ^ 8 ∷ []

-- and back
abbrev pub sums_of : List ℕ → Temps
sums_of vs =
    Running (word_of (slice_index vs 0) (slice_index vs 1) * 2 ^ 16 + word_of (slice_index vs 2) (slice_index vs 3))
    (word_of (slice_index vs 4) (slice_index vs 5))

-- nothing changes
abbrev pub nothing : Regs → Temps → Act Outcome
nothing r t = leaving r t More

-- sums that run are pushed
abbrev pub wav_push : Regs → Temps → Act Outcome
wav_push r Free = nothing r Free
wav_push r OnStack = nothing r OnStack
wav_push r (Running p w) =
    Give (record {
      regs = record r { sp = plus r.sp 65530 };
      temps = OnStack;
      writes = placed (plus r.sp 65530) (sum_bytes p w);
      end = More;
    })

abbrev pub six_pulled : Regs → Act Outcome
six_pulled r = get_all (from r.sp 6) (λ vs. leaving (record r { sp = plus r.sp 6 }) (sums_of vs) More)

-- where no sums run they are pulled
abbrev pub wav_pull : Regs → Temps → Act Outcome
wav_pull r Free = six_pulled r
wav_pull r OnStack = six_pulled r
wav_pull r (Running p w) = nothing r (Running p w)

-- an instruction in parts: one part, what is pushed before an interrupt, and what is pulled after it
pub record Kind : Type 0 where
  pub act : ℕ → Regs → Temps → Act Outcome
  pub push : Regs → Temps → Act Outcome
  pub pull : Regs → Temps → Act Outcome

abbrev pub rev : Kind
rev = record { act = rev_act; push = nothing; pull = nothing }

abbrev pub revw : Kind
revw = record { act = revw_act; push = nothing; pull = nothing }

abbrev pub wav : Kind
wav = record { act = wav_act; push = wav_push; pull = wav_pull }

-- the outcome of one part, and the state after it
abbrev pub part_of : Kind → ℕ → State → Outcome
part_of k flags s = outcome (k.act flags s.regs s.temps) s.mem

abbrev pub after_part : Kind → ℕ → State → State
after_part k flags s = state_after (part_of k flags s) s.mem

abbrev pub suspended : Kind → State → State
suspended k s = state_after (outcome (k.push s.regs s.temps) s.mem) s.mem

abbrev pub resumed : Kind → State → State
resumed k s = state_after (outcome (k.pull s.regs s.temps) s.mem) s.mem

-- a boundary, cut or not
abbrev pub cut : Kind → Bool → State → State
cut k true s = resumed k (suspended k s)
cut k false s = s

-- The parts with a boundary after each but the last, cut where the list says so: the state that they come to,
abbrev pub cut_run : Kind → ℕ → List Bool → State → State
cut_run k flags [] s = after_part k flags s
cut_run k flags (c ∷ cs) s = cut_run k flags cs (cut k c (after_part k flags s))

-- and that the last of them ends the instruction and no other does.
abbrev pub EndsWith : Kind → ℕ → List Bool → State → Type 0
EndsWith k flags [] s = (part_of k flags s).end ≡ Done
EndsWith k flags (c ∷ cs) s = ((part_of k flags s).end ≡ More) × EndsWith k flags cs (cut k c (after_part k flags s))
