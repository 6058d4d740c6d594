-- The grades of the inputs' terms.
use Rattle.eval_code.proofs.Words.{[], ◌*◌, ◌++◌, ◌+◌, ◌∙◌, ◌∷◌, ◌≡◌, ◌≤◌, after_plain, ap, ap₂, arith, flat_map}
use Rattle.eval_code.proofs.Words.{flat_map-append, fuzzify_code, get_or, grade_of, inl, Input, inr, LdaaExtended}
use Rattle.eval_code.proofs.Words.{length, length-append, length-map, List, map, Mem, put, refl, replicate, row_of}
use Rattle.eval_code.proofs.Words.{rows_of, set, State, subst, suc, sum_by, sum_by-cons, sym, term_count, Trapezoid}
use Rattle.eval_code.proofs.Words.{zero, ℕ}
use Rattle.eval_code.proofs.Sizes.{code_size, code_size-append}
use Rattle.eval_code.proofs.steps.Memory.{HasBytes, bytes_front, bytes_back, bytes_put_out, put_append}
use Rattle.eval_code.proofs.steps.Decoding.{stands_front, stands_back}
use Rattle.eval_code.proofs.steps.Stepping.{Ctx, Here, Live, Stands, Next, Goes, goes_none, goes_one, goes_on}
use Rattle.eval_code.proofs.steps.Stepping.{goes_most, stands_at}
use Rattle.eval_code.proofs.steps.Instructions.{straight, mem, mem_grade}

abbrev pub row_bytes : Input → List Trapezoid → List ℕ
row_bytes i ts = flat_map (λ row. row) (map (row_of i) ts)

pub length-row_bytes : (i : Input) (ts : List Trapezoid) → length (row_bytes i ts) ≡ 4 * length ts
length-row_bytes i [] = refl
length-row_bytes i (t ∷ ts) = omega (arith, length-row_bytes i ts)

pub sizes_mems : (n : ℕ) → code_size (replicate n Mem) ≡ n
sizes_mems zero = refl
sizes_mems (suc n) = omega (arith, sizes_mems n)

-- the grades of all terms at the inputs' bytes
abbrev pub grades : List ℕ → List Input → List ℕ
grades vs [] = []
grades [] (i ∷ is) = []
grades (v ∷ vs) (i ∷ is) = map (λ t. grade_of (row_of i t) v) i.terms ++ grades vs is

pub length-grades : (vs : List ℕ) (is : List Input) → length vs ≡ length is
    → length (grades vs is) ≡ sum_by term_count is
length-grades vs [] h = refl
length-grades [] (i ∷ is) h = absurd (omega arith)
length-grades (v ∷ vs) (i ∷ is) h =
    omega (
      arith,
      length-append (map (λ t. grade_of (row_of i t) v) i.terms) (grades vs is),
      length-map i.terms (λ t. grade_of (row_of i t) v),
      length-grades vs is (omega arith),
      sum_by-cons term_count i is,
    )

abbrev pub input_rows : List Input → List ℕ
input_rows is = flat_map (λ row. row) (flat_map rows_of is)

pub rows_cons : (i : Input) (is : List Input) → input_rows (i ∷ is) ≡ row_bytes i i.terms ++ input_rows is
rows_cons i is = flat_map-append (λ row. row) (rows_of i) (flat_map rows_of is)

-- where at most n instructions lead, with X and Y
pub record Graded (c : Ctx) (n : ℕ) (s : State) (pc x y : ℕ) (mem : List ℕ) : Type 0 where
  pub t : State
  pub goes : Goes c n 0 s t
  pub live : Live c t
  pub pc_is : t.regs.pc ≡ pc
  pub x_is : t.regs.x ≡ x
  pub y_is : t.regs.y ≡ y
  pub mem_is : t.mem ≡ mem
  pub sp_is : t.regs.sp ≡ s.regs.sp

graded_after : (c : Ctx) (n m k : ℕ) (s t : State) (pc pc' x x' y y' : ℕ) (mem mem' : List ℕ) → Goes c n 0 s t
    → t.regs.sp ≡ s.regs.sp → n + m ≤ k → pc ≡ pc' → x ≡ x' → y ≡ y' → mem ≡ mem' → Graded c m t pc x y mem
    → Graded c k s pc' x' y' mem'
graded_after c n m k s t pc pc' x x' y y' mem mem' g es le ep ex ey em r = record {
  t = r.t;
  goes = goes_most c (n + m) 0 k 0 s r.t le (omega arith) (goes_on c n 0 m 0 s t r.t g r.goes);
  live = r.live;
  pc_is = r.pc_is ∙ ep;
  x_is = r.x_is ∙ ex;
  y_is = r.y_is ∙ ey;
  mem_is = r.mem_is ∙ em;
  sp_is = r.sp_is ∙ es;
}

-- MEM for each term of an input
mems_run : (c : Ctx) (i : Input) (ts : List Trapezoid) (s : State) (p x y : ℕ) → Live c s → s.regs.pc ≡ p
    → Stands c p (replicate (length ts) Mem) → s.regs.x ≡ x → s.regs.y ≡ y → HasBytes c.image x (row_bytes i ts)
    → c.memory_map.tables ≤ x → x + 4 * length ts ≤ c.memory_map.tables + 480 → c.memory_map.slots ≤ y
    → y + length ts ≤ c.memory_map.slots + 300
    → Graded c (length ts) s (p + length ts) (x + 4 * length ts) (y + length ts)
    (put s.mem y (map (λ t. grade_of (row_of i t) s.regs.a) ts))
mems_run c i [] s p x y l ep st ex ey hb lo hi ylo le =
    record {
      t = s;
      goes = goes_none c s;
      live = l;
      pc_is = omega arith;
      x_is = omega arith;
      y_is =
          omega arith;
      mem_is = refl;
      sp_is = refl;
    }
mems_run c i (t ∷ ts) s p x y l ep st ex ey hb lo hi ylo le =
    let s1 = after_plain c.flags Mem s in
    let low = c.apart.tables in
    let end = c.apart.tables_end in
    let n1 = mem c s p x l ep st.0 ex lo (omega arith) (inr (inl (omega arith, omega arith))) in
    let g = mem_grade c s x _ _ _ _ ex (omega arith) (l.same x (omega arith) ∙ hb.0)
    (l.same (x + 1) (omega arith) ∙ hb.1.0) (l.same (x + 1 + 1) (omega arith) ∙ hb.1.1.0)
    (l.same (x + 1 + 1 + 1) (omega arith) ∙ hb.1.1.1.0) in
    let e4 : x + 1 + 1 + 1 + 1 ≡ x + 4 = omega arith in
    let r = mems_run c i ts s1 (p + 1) (x + 4) (y + 1) n1.live n1.pc_is st.1 (omega arith) (omega arith)
    (subst (λ k. HasBytes c.image k (row_bytes i ts)) e4 hb.1.1.1.1) (omega arith) (omega arith) (omega arith)
    (omega arith) in
    let em : s1.mem ≡ set s.mem y (grade_of (row_of i t) s.regs.a) = ap₂ (set s.mem) ey g in
    graded_after c 1 (length ts) (length (t ∷ ts)) s s1 _ _ _ _ _ _ _ _ (goes_one c s s1 (p + 1) n1) refl (omega arith)
    (omega arith) (omega arith) (omega arith)
    (ap (λ m. put m (y + 1) (map (λ t. grade_of (row_of i t) s.regs.a) ts)) em) r

-- each input's byte, and then its terms
pub fuzzify_run : (c : Ctx) (is : List Input) (vs : List ℕ) (at : ℕ) (s : State) (p x y : ℕ) → Live c s → s.regs.pc ≡ p
    → Stands c p (fuzzify_code at is) → s.regs.x ≡ x → s.regs.y ≡ y → length vs ≡ length is → HasBytes s.mem at vs
    → HasBytes c.image x (input_rows is) → c.memory_map.tables ≤ x → x + 4 * sum_by term_count is ≤ c.memory_map.tables
    + 480
    → c.memory_map.inputs ≤ at → at + length vs ≤ c.memory_map.inputs + 8 → c.memory_map.slots ≤ y
    → y + sum_by term_count is ≤ c.memory_map.slots + 300
    → Graded c (length is + sum_by term_count is) s (p + code_size (fuzzify_code at is)) (x + 4 * sum_by term_count is)
    (y + sum_by term_count is) (put s.mem y (grades vs is))
fuzzify_run c [] vs at s p x y l ep st ex ey el hv hb lo hi a0 a1 b0 b1 =
    record {
      t = s;
      goes = goes_none c s;
      live = l;
      pc_is = omega arith;
      x_is = omega arith;
      y_is =
          omega arith;
      mem_is = refl;
      sp_is = refl;
    }
fuzzify_run c (i ∷ is) [] at s p x y l ep st ex ey el hv hb lo hi a0 a1 b0 b1 = absurd (omega arith)
fuzzify_run c (i ∷ is) (v ∷ vs) at s p x y l ep st ex ey el hv hb lo hi a0 a1 b0 b1 =
    let rest = fuzzify_code (at + 1) is in
    let n = length i.terms in
    let et = sum_by-cons term_count i is in
    let s1 = after_plain c.flags (LdaaExtended at) s in
    let n1 = straight c s p _ l ep st.0 refl (inl (omega arith, omega arith), tt) tt in
    let ea : s1.regs.a ≡ v = hv.0 in
    let hb' : HasBytes c.image x (row_bytes i i.terms ++ input_rows is) =
    subst (HasBytes c.image x) (rows_cons i is) hb in
    let lr = length-row_bytes i i.terms in
    let r = mems_run c i i.terms s1 (p + 3) x y n1.live n1.pc_is
    (stands_front (Here c) (p + 3) (replicate n Mem) rest st.1) ex
    ey (bytes_front c.image x (row_bytes i i.terms) (input_rows is) hb') lo (omega arith) (omega arith)
    (omega arith) in
    then_rest n1 r (λ u lu eu su xu yu hu bu. fuzzify_run c is vs (at + 1) u (p + 3 + n) (x + 4 * n)
    (y + n) lu eu su xu yu (omega arith) hu bu (omega arith) (omega arith) (omega arith) (omega arith) (omega arith)
    (omega arith))
  where
    then_rest : Next c s (after_plain c.flags (LdaaExtended at) s) (p + 3)
        → Graded c (length i.terms) (after_plain c.flags (LdaaExtended at) s) (p + 3 + length i.terms)
        (x + 4 * length i.terms) (y + length i.terms)
        (put s.mem y (map (λ t. grade_of (row_of i t) (get_or s.mem at 0)) i.terms))
        → ((u : State) → Live c u → u.regs.pc ≡ p + 3 + length i.terms
        → Stands c (p + 3 + length i.terms) (fuzzify_code (at + 1) is) → u.regs.x ≡ x + 4 * length i.terms
        → u.regs.y ≡ y + length i.terms → HasBytes u.mem (at + 1) vs
        → HasBytes c.image (x + 4 * length i.terms) (input_rows is)
        → Graded c (length is + sum_by term_count is) u (p + 3 + length i.terms + code_size (fuzzify_code (at + 1) is))
        (x + 4 * length i.terms + 4 * sum_by term_count is) (y + length i.terms + sum_by term_count is)
        (put u.mem (y + length i.terms) (grades vs is)))
        → Graded c (length (i ∷ is) + sum_by term_count (i ∷ is)) s (p + code_size (fuzzify_code at (i ∷ is)))
        (x + 4 * sum_by term_count (i ∷ is)) (y + sum_by term_count (i ∷ is))
        (put s.mem y (grades (v ∷ vs) (i ∷ is)))
    then_rest n1 r go =
        let rest = fuzzify_code (at + 1) is in
        let apart = c.apart.inputs in
        let apart1 = c.apart.outputs in
        let n = length i.terms in
        let et = sum_by-cons term_count i is in
        let s1 = after_plain c.flags (LdaaExtended at) s in
        let u = r.t in
        let g = map (λ t. grade_of (row_of i t) v) i.terms in
        let lg : length g ≡ n = length-map i.terms (λ t. grade_of (row_of i t) v) in
        let lr = length-row_bytes i i.terms in
        let sm = sizes_mems n in
        let sa = code_size-append (replicate n Mem) rest in
        let eu : u.mem ≡ put s.mem y g =
        r.mem_is ∙ ap (λ k. put s.mem y (map (λ t. grade_of (row_of i t) k) i.terms)) hv.0 in
        let hv1 : HasBytes u.mem (at + 1) vs =
        subst (λ m. HasBytes m (at + 1) vs) (sym eu)
        (bytes_put_out s.mem y g (at + 1) vs (inl (omega arith)) hv.1) in
        let hb' : HasBytes c.image x (row_bytes i i.terms ++ input_rows is) =
        subst (HasBytes c.image x) (rows_cons i is) hb in
        let exx : x + length (row_bytes i i.terms) ≡ x + 4 * n = omega arith in
        let hb1 : HasBytes c.image (x + 4 * n) (input_rows is) =
        subst (λ k. HasBytes c.image k (input_rows is)) exx
        (bytes_back c.image x (row_bytes i i.terms) (input_rows is) hb') in
        let epp : p + 3 + code_size (replicate n Mem) ≡ p + 3 + n = omega arith in
        let st1 = stands_at c (p + 3 + code_size (replicate n Mem)) (p + 3 + n) rest epp
        (stands_back (Here c) (p + 3) (replicate n Mem) rest st.1) in
        let q = go u r.live r.pc_is st1 r.x_is r.y_is hv1 hb1 in
        let em : put u.mem (y + n) (grades vs is) ≡ put s.mem y (g ++ grades vs is) =
        ap₂ (λ m k. put m (y + k) (grades vs is)) eu (sym lg) ∙ sym (put_append s.mem y g (grades vs is)) in
        graded_after c (1 + n) (length is + sum_by term_count is) (length (i ∷ is) + sum_by term_count (i ∷ is)) s u _ _
        _ _ _ _ _ _ (goes_on c 1 0 n 0 s s1 u (goes_one c s s1 (p + 3) n1) r.goes) r.sp_is (omega arith)
        (omega arith) (omega arith) (omega arith) em q
