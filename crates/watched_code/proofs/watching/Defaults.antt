-- BAD: FAULT is set, and the outputs get their defaults.
use Rattle.watched_code.proofs.Words.{[], ◌*◌, ◌++◌, ◌+◌, ◌<◌, ◌^◌, ◌∙◌, ◌∷◌, ◌≡◌, ◌≢◌, ◌≤◌, ◌⊎◌, after_plain, ap}
use Rattle.watched_code.proofs.Words.{arith, Bounded, bounded_none, bounded_on, bounded_one, Dec, default_code}
use Rattle.watched_code.proofs.Words.{default_of, defaults_code, false, get_or, get_or-set_other, get_or-set_same}
use Rattle.watched_code.proofs.Words.{inl, inr, Instr, LdabImmediate, length, length-set, List, Live, nearest_byte}
use Rattle.watched_code.proofs.Words.{None, Option, option_map, Output, refl, set, Setting, Some, StabExtended}
use Rattle.watched_code.proofs.Words.{Stands, State, subst, suc, sym, zero, ℕ, ⊎_elim}
use Rattle.std.proofs.{Common.append_assoc}
use Rattle.std.specs.{Prelude.slice_get}
use Rattle.watched_code.specs.{Watched.default_or}
use Rattle.cpu12_parts.proofs.{Algebra.bounded_more}
use Rattle.watched_code.proofs.watching.{Adding.Step, Laws.WatchingLaws}

-- an output's default, where it has one
abbrev pub default_byte : Output → Option ℕ
default_byte o = option_map (nearest_byte o) o.default

abbrev pub defaulted : List ℕ → ℕ → Option ℕ → List ℕ
defaulted m at None = m
defaulted m at (Some byte) = set m at byte

abbrev pub all_defaulted : List ℕ → ℕ → List Output → List ℕ
all_defaulted m at [] = m
all_defaulted m at (o ∷ os) = all_defaulted (defaulted m at (default_byte o)) (at + 1) os

-- the defaults are bytes
abbrev pub FitDefault : Option ℕ → Type 0
FitDefault None = Unit {0}
FitDefault (Some byte) = byte < 2 ^ 8

abbrev pub FitDefaults : List Output → Type 0
FitDefaults [] = Unit {0}
FitDefaults (o ∷ os) = FitDefault (default_byte o) × FitDefaults os

-- where instructions lead, and what stands there
pub record Stored (c : Setting) (n : ℕ) (s : State) (mem : List ℕ) (rest : List Instr) : Type 0 where
  pub t : State
  pub goes : Bounded (Step c) n 0 s t
  pub live : Live c t
  pub at : ℕ
  pub pc_is : t.regs.pc ≡ at
  pub sp_is : t.regs.sp ≡ s.regs.sp
  pub mem_is : t.mem ≡ mem
  pub behind : Stands c at rest

-- a byte is stored
pub stored : WatchingLaws → (c : Setting) (s : State) (p to byte : ℕ) (rest : List Instr) → Live c s
    → s.regs.pc ≡ p → Stands c p (LdabImmediate byte ∷ StabExtended to ∷ rest) → to < 0x1800
    → c.open_to to ≡ false → Stored c 2 s (set s.mem to byte) rest
stored laws c s p to byte rest l ep h low shown =
    let u = after_plain c.flags (LdabImmediate byte) s in
    let v = after_plain c.flags (StabExtended to) u in
    let n = laws.straight c s p (LdabImmediate byte) l ep h.0 refl tt tt tt in
    let k = laws.straight c u (p + 2) (StabExtended to) n.live n.pc_is h.1.0 refl tt (low, tt) (shown, tt) in
    record {
      t = v;
      goes = bounded_on (Step c) 1 0 1 0 s u v (bounded_one (Step c) 0 s u n.step) (bounded_one (Step c) 0 u v k.step);
      live = k.live;
      at = p + 2 + 3;
      pc_is = k.pc_is;
      sp_is = refl;
      mem_is = refl;
      behind = h.1.1;
    }

default_run : WatchingLaws → (c : Setting) (s : State) (p to : ℕ) (byte : Option ℕ) (rest : List Instr) → Live c s
    → s.regs.pc ≡ p → Stands c p (default_code to byte ++ rest) → to < 0x1800 → c.open_to to ≡ false
    → Stored c 2 s (defaulted s.mem to byte) rest
default_run laws c s p to None rest l ep h low shown =
    record {
      t = s;
      goes =
          bounded_more (Step c) 0 0 2 0 s s (omega arith) (omega arith) (bounded_none (Step c) s);
      live = l;
      at = p;
      pc_is = ep;
      sp_is = refl;
      mem_is = refl;
      behind = h;
    }
default_run laws c s p to (Some byte) rest l ep h low shown = stored laws c s p to byte rest l ep h low shown

stored_on : (c : Setting) (n m : ℕ) (s : State) (mem mem' : List ℕ) (next rest : List Instr)
    → (r : Stored c n s mem next) → Stored c m r.t mem' rest → Stored c (n + m) s mem' rest
stored_on c n m s mem mem' next rest r k = record {
  t = k.t;
  goes = bounded_on (Step c) n 0 m 0 s r.t k.t r.goes k.goes;
  live = k.live;
  at = k.at;
  pc_is = k.pc_is;
  sp_is = k.sp_is ∙ r.sp_is;
  mem_is = k.mem_is;
  behind = k.behind;
}

pub defaults_run : WatchingLaws → (c : Setting) (s : State) (p to : ℕ) (os : List Output) (rest : List Instr)
    → Live c s → s.regs.pc ≡ p → Stands c p (defaults_code to os ++ rest)
    → to + length os ≤ 0x1800 → ((k : ℕ) → to ≤ k → k < to + length os → c.open_to k ≡ false)
    → Stored c (2 * length os) s (all_defaulted s.mem to os) rest
defaults_run laws c s p to [] rest l ep h low shown =
    record {
      t = s;
      goes = bounded_none (Step c) s;
      live = l;
      at =
          p;
      pc_is = ep;
      sp_is = refl;
      mem_is = refl;
      behind = h;
    }
defaults_run laws c s p to (o ∷ os) rest l ep h low shown =
    let more = defaults_code (to + 1) os ++ rest in
    let joined : Stands c p (default_code to (default_byte o) ++ more) =
    subst (Stands c p) (append_assoc (default_code to (default_byte o)) (defaults_code (to + 1) os) rest) h in
    let r = default_run laws c s p to (default_byte o) more l ep joined (omega arith)
    (shown to (omega arith) (omega arith)) in
    let k = defaults_run laws c r.t r.at (to + 1) os rest r.live r.pc_is r.behind (omega arith)
    (λ k lo hi. shown k (omega arith) (omega arith)) in
    let same : all_defaulted r.t.mem (to + 1) os ≡ all_defaulted s.mem to (o ∷ os) =
    ap (λ (m : List ℕ). all_defaulted m (to + 1) os) r.mem_is in
    let count : 2 + 2 * length os ≡ 2 * length (o ∷ os) = omega arith in
    subst (λ (n : ℕ). Stored c n s (all_defaulted s.mem to (o ∷ os)) rest) count
    (subst (λ (m : List ℕ). Stored c (2 + 2 * length os) s m rest) same
    (stored_on c 2 (2 * length os) s _ _ more rest r k))

-- what memory then holds
one_else : (m : List ℕ) (at k : ℕ) (byte : Option ℕ) → k ≢ at → get_or (defaulted m at byte) k 0 ≡ get_or m k 0
one_else m at k None ne = refl
one_else m at k (Some byte) ne = get_or-set_other m at k byte 0 ne

pub default_else : (m : List ℕ) (at : ℕ) (os : List Output) (k : ℕ) → (k < at) ⊎ (at + length os ≤ k)
    → get_or (all_defaulted m at os) k 0 ≡ get_or m k 0
default_else m at [] k h = refl
default_else m at (o ∷ os) k h =
    default_else (defaulted m at (default_byte o)) (at + 1) os k
    (⊎_elim (λ l. inl (omega arith)) (λ r. inr (omega arith)) h)
    ∙ one_else m at k (default_byte o) (⊎_elim (λ l e. omega arith) (λ r e. omega arith) h)

length-one : (m : List ℕ) (at : ℕ) (byte : Option ℕ) → length (defaulted m at byte) ≡ length m
length-one m at None = refl
length-one m at (Some byte) = length-set m at byte

own : (m : List ℕ) (at : ℕ) (o : Output) → at < length m
    → get_or (defaulted m at (default_byte o)) at 0 ≡ default_of (Some o) (get_or m at 0)
own m at o lt = by_default o.default
  where
    by_default : (d : Option Dec)
        → get_or (defaulted m at (option_map (nearest_byte o) d)) at 0 ≡ default_or o d (get_or m at 0)
    by_default None = refl
    by_default (Some d) = get_or-set_same m at (nearest_byte o d) 0 lt

pub default_there : (m : List ℕ) (at : ℕ) (os : List Output) (k : ℕ) → k < length os → at + length os ≤ length m
    → get_or (all_defaulted m at os) (at + k) 0 ≡ default_of (slice_get os k) (get_or m (at + k) 0)
default_there m at [] k lt le = absurd (omega arith)
default_there m at (o ∷ os) zero lt le =
    let e : at + 0 ≡ at = omega arith in
    ap (λ (j : ℕ). get_or (all_defaulted m at (o ∷ os)) j 0) e
    ∙ default_else (defaulted m at (default_byte o)) (at + 1) os at (inl (omega arith))
    ∙ own m at o (omega arith)
    ∙ ap (λ (j : ℕ). default_of (Some o) (get_or m j 0)) (sym e)
default_there m at (o ∷ os) (suc k) lt le =
    let e : at + suc k ≡ at + 1 + k = omega arith in
    let n = defaulted m at (default_byte o) in
    let size = length-one m at (default_byte o) in
    ap (λ (j : ℕ). get_or (all_defaulted n (at + 1) os) j 0) e
    ∙ default_there n (at + 1) os k (omega arith) (omega arith)
    ∙ ap (default_of (slice_get os k))
    (one_else m at (at + 1 + k) (default_byte o) (λ q. omega arith) ∙ ap (λ (j : ℕ). get_or m j 0) (sym e))
