-- What each instruction of the generated code does, without a wrap.
use Rattle.eval_code.proofs.Words.{[], ◌%◌, ◌*◌, ◌+◌, ◌-◌, ◌/◌, ◌<◌, ◌==◌, ◌^◌, ◌||◌, ◌∙◌, ◌∷◌, ◌≡◌, ◌≢◌, ◌≤◌}
use Rattle.eval_code.proofs.Words.{after_plain, ap, ap₂, arith, Beq, Bool, Bra, CpxImmediate, Each, Ediv, encode_of}
use Rattle.eval_code.proofs.Words.{false, get_or, grade_of, has, if◌then◌else◌, inl, inr, Instr, length, Mem, min}
use Rattle.eval_code.proofs.Words.{nat_lt, nat_tests, plus, Reads, refl, Regs, State, true, Writes, ℕ}
use Rattle.std.proofs.{Common.nat_le}
use Rattle.cpu12_isa.specs.{Act.read_by, Flags.put, Flags.tested_word, Meaning.effect, Meaning.plain_act}
use Rattle.cpu12_isa.specs.{Plain.is_straight, Registers.grade, Registers.divided}
use Rattle.cpu12_parts.specs.{Laws.addresses}
use Rattle.point_slope.specs.{Tables.grade_under}
use Rattle.eval_code.proofs.steps.Flags.{zero_four}
use Rattle.eval_code.proofs.steps.Stepping.{Ctx, Here, Live, Next, next}

-- Y:D by X, where the quotient is a word
pub divided_is : (flags : ℕ) (r : Regs) (n : ℕ) → r.y * 2 ^ 16 + (r.a * 2 ^ 8 + r.b) ≡ n → r.x ≢ 0 → n / r.x < 65536
    → divided flags r ≡ record r {
      y = n / r.x;
      a = n % r.x / 2 ^ 8;
      b = n % r.x % 2 ^ 8;
      pc = plus r.pc 1;
      ccr =
          put (tested_word r.ccr (n / r.x)) 0 false;
    }
divided_is flags r n en nz small =
    let a : (r.x == 0) ≡ false = grind (arith, nat_tests) in
    let b : nat_le 65536 (n / r.x) ≡ false = grind (arith, nat_tests) in
    rw (en, a, b)

-- an instruction that goes straight on, with what it reads and writes
pub straight : (c : Ctx) (s : State) (p : ℕ) (i : Instr) → Live c s → s.regs.pc ≡ p → Here c p i → is_straight i ≡ true
    → Each (Reads c.memory_map) (read_by (plain_act c.flags i s.regs) s.mem)
    → Each (Writes c.memory_map) (addresses (effect c.flags i s.regs s.mem).writes)
    → Next c s (after_plain c.flags i s) (p + length (encode_of i))
straight c s p i l ep h st reads writes =
    let k = c.goes_straight c.flags i s.regs s.mem st in
    next c s p (p + length (encode_of i)) i l ep h k.plain h.fits reads writes k.sp
    (ap₂ (λ (a b : Bool). (a, b)) k.mask k.x) (omega (arith, k.pc, ep, h.high, c.short i))

-- Z after CPX #0 says whether X is 0
pub cpx_zero : (c : Ctx) (s : State) → s.regs.x < 2 ^ 16
    → has (after_plain c.flags (CpxImmediate 0) s).regs.ccr 2 ≡ (s.regs.x == 0)
cpx_zero c s lt = zero_four s.regs.ccr _ ((s.regs.x + 65536) % 65536 == 0) _ _
    ∙ (let e : (s.regs.x + 65536) % 65536 ≡ s.regs.x = omega arith in ap (λ k. k == 0) e)

pub beq_on : (c : Ctx) (s : State) (p to : ℕ) → Live c s → s.regs.pc ≡ p → Here c p (Beq to) → to < 2 ^ 8
    → has s.regs.ccr 2 ≡ false → Next c s (after_plain c.flags (Beq to) s) (p + 2)
beq_on c s p to l ep h lt z =
    next c s p (p + 2) (Beq to) l ep h refl lt tt tt refl refl
    (ap (λ b. if b then plus (plus s.regs.pc 2) (if nat_lt to 128 then to else to + 65280) else plus s.regs.pc 2) z
    ∙ omega (arith, h.high))

pub beq_off : (c : Ctx) (s : State) (p to : ℕ) → Live c s → s.regs.pc ≡ p → Here c p (Beq to) → to < 128
    → p + 2 + to < 65536 → has s.regs.ccr 2 ≡ true → Next c s (after_plain c.flags (Beq to) s) (p + 2 + to)
beq_off c s p to l ep h lt hi z =
    let a : nat_lt to 128 ≡ true = grind (arith, nat_tests) in
    next c s p (p + 2 + to) (Beq to) l ep h refl (omega arith) tt tt refl refl
    (ap₂ (λ b d. if b then plus (plus s.regs.pc 2) (if d then to else to + 65280) else plus s.regs.pc 2) z a
    ∙ omega (arith, h.high))

pub bra_on : (c : Ctx) (s : State) (p to : ℕ) → Live c s → s.regs.pc ≡ p → Here c p (Bra to) → to < 128
    → p + 2 + to < 65536 → Next c s (after_plain c.flags (Bra to) s) (p + 2 + to)
bra_on c s p to l ep h lt hi =
    let a : nat_lt to 128 ≡ true = grind (arith, nat_tests) in
    next c s p (p + 2 + to) (Bra to) l ep h refl (omega arith) tt tt refl refl
    (ap (λ d. plus (plus s.regs.pc 2) (if d then to else to + 65280)) a ∙ omega (arith, h.high))

pub ediv_y : (c : Ctx) (s : State) (n : ℕ) → s.regs.y * 2 ^ 16 + (s.regs.a * 2 ^ 8 + s.regs.b) ≡ n → s.regs.x ≢ 0
    → n / s.regs.x < 65536 → (after_plain c.flags Ediv s).regs.y ≡ n / s.regs.x
ediv_y c s n en nz small = ap (λ (r : Regs). r.y) (divided_is c.flags s.regs n en nz small)

-- the grade of a term, by MEM and by its row
grade_same : (p q s t a : ℕ) → grade p q s t a ≡ grade_under p q s t a
grade_same p q s t a =
    ap (λ k. if nat_lt a p || nat_lt q a then 0 else k)
    (least (if s == 0 then 255 else (a - p) * s) (if t == 0 then 255 else (q - a) * t))
  where
    least : (u v : ℕ) → min (min 255 u) v ≡ min 255 (min u v)
    least u v = omega arith

-- MEM with a row among the tables at X
pub mem : (c : Ctx) (s : State) (p x : ℕ) → Live c s → s.regs.pc ≡ p → Here c p Mem → s.regs.x ≡ x
    → c.memory_map.tables ≤ x
    → x + 4 ≤ c.memory_map.tables + 480 → Writes c.memory_map s.regs.y → Next c s (after_plain c.flags Mem s) (p + 1)
mem c s p x l ep h ex lo hi own =
    let end = c.apart.tables_end in
    let at : (k : ℕ) → k ≤ 3 → Reads c.memory_map (plus s.regs.x k) = λ k le. inr
    (inr (inl (omega arith, omega arith))) in
    straight c s p Mem l ep h refl (
      inr (inr (inl (omega arith, omega arith))),
      (at 1 (omega arith), (at 2 (omega arith), (at 3 (omega arith), tt))),
    ) (own, tt)

pub mem_grade : (c : Ctx) (s : State) (x a0 a1 a2 a3 : ℕ) → s.regs.x ≡ x → x + 4 < 65536 → get_or s.mem x 0 ≡ a0
    → get_or s.mem (x + 1) 0 ≡ a1 → get_or s.mem (x + 1 + 1) 0 ≡ a2 → get_or s.mem (x + 1 + 1 + 1) 0 ≡ a3
    → grade (get_or s.mem s.regs.x 0) (get_or s.mem (plus s.regs.x 1) 0) (get_or s.mem (plus s.regs.x 2) 0)
    (get_or s.mem (plus s.regs.x 3) 0) s.regs.a ≡ grade_of (a0 ∷ a1 ∷ a2 ∷ a3 ∷ []) s.regs.a
mem_grade c s x a0 a1 a2 a3 ex hi h0 h1 h2 h3 =
    let e1 : plus s.regs.x 1 ≡ x + 1 = omega arith in
    let e2 : plus s.regs.x 2 ≡ x + 1 + 1 = omega arith in
    let e3 : plus s.regs.x 3 ≡ x + 1 + 1 + 1 = omega arith in
    let same : grade (get_or s.mem s.regs.x 0) (get_or s.mem (plus s.regs.x 1) 0) (get_or s.mem (plus s.regs.x 2) 0)
    (get_or s.mem (plus s.regs.x 3) 0) s.regs.a ≡ grade a0 a1 a2 a3 s.regs.a = cc in
    same ∙ grade_same a0 a1 a2 a3 s.regs.a

pub ediv_sp : (c : Ctx) (s : State) → (after_plain c.flags Ediv s).regs.sp ≡ s.regs.sp
ediv_sp c s = let k = c.goes_straight c.flags Ediv s.regs s.mem refl in k.sp
