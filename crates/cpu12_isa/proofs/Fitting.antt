-- What fits stays so.
use Rattle.std.proofs.Common.{◌≡◌, ℕ, zero, suc, ◌+◌, ◌*◌, ◌/◌, ◌%◌, ◌^◌, ◌<◌, ◌≤◌, ◌==◌, ◌⊎◌, nat_lt, if◌then◌else◌}
use Rattle.std.proofs.Common.{Bool, true, false, Result, Ok, List, [], ◌∷◌, length, get_or, arith, rules, subst, sym}
use Rattle.std.proofs.Common.{drop, inl, inr, get_or-set_same, get_or-set_other}
use Rattle.std.proofs.Math.Nat.{div-lt_iff_lt-mul}
use Rattle.std.proofs.Math.ListN.{set}
use Rattle.std.proofs.lemmas.Bool.{cases_lt, cases_eq}
use Rattle.std.proofs.lemmas.Bool.Decides.{nat_tests}
use Rattle.std.proofs.lemmas.Grind.{common_steps}
use Rattle.std.proofs.lemmas.List.{get_or_past, length-set}
use Rattle.std.proofs.lemmas.Nat.{widths}
use Rattle.cpu12_isa.specs.declared.{instr.Regs.Regs, instr.Instr.Instr}
use Rattle.cpu12_isa.specs.declared.instr.Instr.TheVariants.{LdaaImmediate, Fdiv}
use Rattle.cpu12_isa.specs.declared.encodings.Page.TheVariants.{One, Two, Transfer, AddIndexed}
use Rattle.cpu12_isa.specs.Act.{Act, Give, Get, outcome}
use Rattle.cpu12_isa.specs.{Memory.plus, Memory.word_of, Memory.bytes_at, Registers.divided_fraction, Meaning.Effect}
use Rattle.cpu12_isa.specs.{Meaning.plain_act}
use Rattle.cpu12_isa.specs.Flags.{put, carry, overflow, zero_result}
use Rattle.cpu12_isa.specs.Code.{FitsOperands, entry, page_of, decode_of, six_from}
use Rattle.cpu12_isa.specs.Fits.{FitsRegs, FitsWrites, AreBytes, Leaves, StaysFit, BytesStay, DecodedFits}

pub leaves_outcome : {A : Type 0} (P : A → Type 0) (act : Act A) (m : List ℕ) → AreBytes m → Leaves P act
    → P (outcome act m)
leaves_outcome P (Give a) m b l = l
leaves_outcome P (Get at next) m b l = leaves_outcome P (next (get_or m at 0)) m b (l (get_or m at 0) (b at))

-- what each instruction leaves of registers that fit
abbrev AllLeave : (Effect → Type 0) → Type 0
AllLeave P = (flags : ℕ) (i : Instr) (r : Regs) → flags < 2 ^ 8 → FitsOperands i → FitsRegs r
    → Leaves P (plain_act flags i r)

sp_fits : AllLeave (λ e. e.regs.sp < 2 ^ 16)
sp_fits flags (LdaaImmediate v) r h o f = f.sp
sp_fits flags i r h o f = search (rules, widths)

a_fits : AllLeave (λ e. e.regs.a < 2 ^ 8)
a_fits flags (LdaaImmediate v) r h o f = o
a_fits flags i r h o f = search (rules, widths)

b_fits : AllLeave (λ e. e.regs.b < 2 ^ 8)
b_fits flags (LdaaImmediate v) r h o f = f.b
b_fits flags i r h o f = search (rules, widths)

quotient_fits : (d x : ℕ) → d < x → d * 2 ^ 16 / x < 2 ^ 16
quotient_fits d x l = (div-lt_iff_lt-mul {k = x} {x = d * 2 ^ 16} {y = 2 ^ 16} (omega arith)).1 (omega arith)

-- a choice between two registers
choice_fits : (d x q : ℕ) (r s : Regs) → (d < x → r.x < q) → s.x < q → (if nat_lt d x then r else s).x < q
choice_fits d x q r s f g = elim (cases_lt d x) [
  | inl b ↦ subst (λ (t : Bool). (if t then r else s).x < q) (sym (ltb_is d x b)) (f b)
  | inr b ↦ subst (λ (t : Bool). (if t then r else s).x < q) (sym (not_ltb_is d x b)) g
]
  where
    ltb_is : (m n : ℕ) → m < n → nat_lt m n ≡ true
    ltb_is m n h = grind (arith, nat_tests)

    not_ltb_is : (m n : ℕ) → n ≤ m → nat_lt m n ≡ false
    not_ltb_is m n h = grind (arith, nat_tests)

fdiv_fits : (r : Regs) → (divided_fraction r).x < 2 ^ 16
fdiv_fits r =
    let d : ℕ = r.a * 2 ^ 8 + r.b in
    let yes : Regs = record r {
      x = (r.a * 2 ^ 8 + r.b) * 2 ^ 16 / r.x;
      a = (r.a * 2 ^ 8 + r.b) * 2 ^ 16 % r.x / 2 ^ 8;
      b = (r.a * 2 ^ 8 + r.b) * 2 ^ 16 % r.x % 2 ^ 8;
      pc = plus r.pc 2;
      ccr = put (put (put r.ccr zero_result ((r.a * 2 ^ 8 + r.b) * 2 ^ 16 / r.x == 0)) overflow false) carry false;
    } in
    let no : Regs = record r
    { x = 65535; pc = plus r.pc 2; ccr = put (put (put r.ccr zero_result false) overflow true) carry (r.x == 0) } in
    choice_fits (r.a * 2 ^ 8 + r.b) r.x (2 ^ 16) yes no (λ l. quotient_fits (r.a * 2 ^ 8 + r.b) r.x l) (omega arith)

x_fits : AllLeave (λ e. e.regs.x < 2 ^ 16)
x_fits flags (LdaaImmediate v) r h o f = f.x
x_fits flags Fdiv r h o f = fdiv_fits r
x_fits flags i r h o f = search (rules, widths)

y_fits : AllLeave (λ e. e.regs.y < 2 ^ 16)
y_fits flags (LdaaImmediate v) r h o f = f.y
y_fits flags i r h o f = search (rules, widths)

pc_fits : AllLeave (λ e. e.regs.pc < 2 ^ 16)
pc_fits flags (LdaaImmediate v) r h o f = omega arith
pc_fits flags i r h o f = search (rules, widths)

ccr_fits : AllLeave (λ e. e.regs.ccr.0 < 2 ^ 8)
ccr_fits flags (LdaaImmediate v) r h o f = grind (arith, common_steps, widths)
ccr_fits flags i r h o f = grind (arith, common_steps, widths)

writes_fit : AllLeave (λ e. FitsWrites e.writes)
writes_fit flags (LdaaImmediate v) r h o f = tt
writes_fit flags i r h o f = search (rules, widths)

pub stays_fit : StaysFit
stays_fit flags i r m h o f b = (
  record {
    a = leaves_outcome (λ e. e.regs.a < 2 ^ 8) (plain_act flags i r) m b (a_fits flags i r h o f);
    b = leaves_outcome (λ e. e.regs.b < 2 ^ 8) (plain_act flags i r) m b (b_fits flags i r h o f);
    x = leaves_outcome (λ e. e.regs.x < 2 ^ 16) (plain_act flags i r) m b (x_fits flags i r h o f);
    y = leaves_outcome (λ e. e.regs.y < 2 ^ 16) (plain_act flags i r) m b (y_fits flags i r h o f);
    sp = leaves_outcome (λ e. e.regs.sp < 2 ^ 16) (plain_act flags i r) m b (sp_fits flags i r h o f);
    pc = leaves_outcome (λ e. e.regs.pc < 2 ^ 16) (plain_act flags i r) m b (pc_fits flags i r h o f);
    ccr = leaves_outcome (λ e. e.regs.ccr.0 < 2 ^ 8) (plain_act flags i r) m b (ccr_fits flags i r h o f);
  },
  leaves_outcome (λ e. FitsWrites e.writes) (plain_act flags i r) m b (writes_fit flags i r h o f),
)

-- a byte written
byte_set : (m : List ℕ) (i v : ℕ) → v < 2 ^ 8 → AreBytes m → AreBytes (set m i v)
byte_set m i v f b at = elim (cases_eq at i) [
  | inl e ↦ elim (cases_lt i (length m)) [
    | inl l ↦ (let h : get_or (set m i v) i 0 ≡ v = get_or-set_same m i v 0 l in
        subst (λ (k : ℕ). get_or (set m i v) k 0 < 2 ^ 8) (sym e) (omega (arith, h)))
    | inr l ↦ (let h : get_or (set m i v) i 0 ≡ 0 = get_or_past (set m i v) i 0 (omega (arith, length-set m i v)) in
        subst (λ (k : ℕ). get_or (set m i v) k 0 < 2 ^ 8) (sym e) (omega (arith, h)))
  ]
  | inr ne ↦ (let h : get_or (set m i v) at 0 ≡ get_or m at 0 = get_or-set_other m i at v 0 ne in
      let k : get_or m at 0 < 2 ^ 8 = b at in omega (arith, h, k))
]

pub bytes_stay : BytesStay
bytes_stay [] m f b = b
bytes_stay (w ∷ ws) m f b = bytes_stay ws (set m w.0 w.1) f.2 (byte_set m w.0 w.1 f.1 b)

-- each entry of a table has operands that fit
abbrev AllFit : List (ℕ × Instr) → Type 0
AllFit [] = Unit {0}
AllFit (e ∷ es) = FitsOperands e.1 × AllFit es

entry_cases : (b : Bool) (x : Instr) (rest : Result Instr ℕ) (i : Instr) → (if b then Ok x else rest) ≡ Ok i
    → (x ≡ i) ⊎ (rest ≡ Ok i)
entry_cases true x rest i e = inl cc
entry_cases false x rest i e = inr e

entry_fits : (es : List (ℕ × Instr)) (n : ℕ) (i : Instr) → AllFit es → entry es n ≡ Ok i → FitsOperands i
entry_fits [] n i a e = absurd cc
entry_fits (x ∷ es) n i a e = elim (entry_cases (n == x.0) x.1 (entry es n) i e) [
  | inl s ↦ subst FitsOperands s a.0
  | inr r ↦ entry_fits es n i a.1 r
]

choice_cases : (b : Bool) (p q : Result Instr ℕ) (i : Instr) → (if b then p else q) ≡ Ok i → (p ≡ Ok i) ⊎ (q ≡ Ok i)
choice_cases true p q i e = inl e
choice_cases false p q i e = inr e

word_fits : (bs : List ℕ) (k : ℕ) → AreBytes bs → word_of (get_or bs k 0) (get_or bs (k + 1) 0) < 2 ^ 16
word_fits bs k b = let h : get_or bs k 0 < 2 ^ 8 = b k in let l : get_or bs (k + 1) 0 < 2 ^ 8 = b (k + 1) in
    omega (arith, h, l)

page_one_fits : (bs : List ℕ) → AreBytes bs → AllFit (page_of One bs)
page_one_fits bs b =
    let n = b 1 in
    let w = word_fits bs 1 b in
    let from_36 : AllFit (drop 36 (page_of One bs)) =
    (w, (n, (w, (tt, (tt, (tt, (tt, (tt, (tt, (tt, (tt, tt))))))))))) in
    let from_24 : AllFit (drop 24 (page_of One bs)) =
    (w, (w, (n, (w, (n, (w, (n, (n, (w, (n, (w, (n, from_36)))))))))))) in
    let from_12 : AllFit (drop 12 (page_of One bs)) =
    (n, (n, (n, (n, (n, (w, (tt, (n, (n, (tt, (tt, (tt, from_24)))))))))))) in
    (n, (w, (n, (w, (w, (w, (w, (w, (w, (w, (tt, (w, from_12))))))))))))

page_two_fits : (bs : List ℕ) → AreBytes bs → AllFit (page_of Two bs)
page_two_fits bs b = (tt, ((b 2, word_fits bs 3 b), ((word_fits bs 2 b, word_fits bs 4 b), (tt, (tt, (tt, tt))))))

page_transfer_fits : (bs : List ℕ) → AreBytes bs → AllFit (page_of Transfer bs)
page_transfer_fits bs b = (tt, (tt, tt))

page_add_fits : (bs : List ℕ) → AreBytes bs → AllFit (page_of AddIndexed bs)
page_add_fits bs b = (tt, tt)

pub bytes_at_fit : (mem ats : List ℕ) → AreBytes mem → AreBytes (bytes_at mem ats)
bytes_at_fit mem [] b at = omega arith
bytes_at_fit mem (x ∷ ats) b zero = b x
bytes_at_fit mem (x ∷ ats) b (suc at) = bytes_at_fit mem ats b at

decode_fits : (bs : List ℕ) (i : Instr) → AreBytes bs → decode_of bs ≡ Ok i → FitsOperands i
decode_fits bs i b e =
    elim (choice_cases (get_or bs 0 0 == 0x18) (entry (page_of Two bs) (get_or bs 1 0))
    (if get_or bs 0 0 == 0xB7 then entry (page_of Transfer bs) (get_or bs 1 0) else
    (if get_or bs 0 0 == 0xEB then entry (page_of AddIndexed bs) (get_or bs 1 0) else entry (page_of One bs)
    (get_or bs 0 0))) i e) [
      | inl h ↦ entry_fits (page_of Two bs) (get_or bs 1 0) i (page_two_fits bs b) h
      | inr f ↦ elim (choice_cases (get_or bs 0 0 == 0xB7) (entry (page_of Transfer bs) (get_or bs 1 0))
          (if get_or bs 0 0 == 0xEB then entry (page_of AddIndexed bs) (get_or bs 1 0) else entry (page_of One bs)
          (get_or bs 0 0)) i f) [
            | inl h ↦ entry_fits (page_of Transfer bs) (get_or bs 1 0) i (page_transfer_fits bs b) h
            | inr g ↦ elim (choice_cases (get_or bs 0 0 == 0xEB) (entry (page_of AddIndexed bs) (get_or bs 1 0))
                (entry (page_of One bs) (get_or bs 0 0)) i g) [
                  | inl h ↦ entry_fits (page_of AddIndexed bs) (get_or bs 1 0) i (page_add_fits bs b) h
                  | inr h ↦ entry_fits (page_of One bs) (get_or bs 0 0) i (page_one_fits bs b) h
                ]
          ]
    ]

pub decoded_fits : DecodedFits
decoded_fits mem pc i b e = decode_fits (bytes_at mem (six_from pc)) i (bytes_at_fit mem (six_from pc) b) e
