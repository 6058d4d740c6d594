-- What the cuts' pulls say of all lists of masses.
use Rattle.std.proofs.Common.{◌≡◌, inl, inr, ⊎_elim, ℕ, zero, suc, ◌+◌, ◌-◌, ◌*◌, ◌<◌, ◌≤◌, max, min, Bool, List}
use Rattle.std.proofs.Common.{[], ◌∷◌, true, false, refl, sym, subst, ap, ◌∙◌, length, take, drop, get_or, arith}
use Rattle.std.proofs.Common.{mul-pos}
use Rattle.std.proofs.Common.{mul-le-mul_right, le_of_mul-le-mul_right}
use Rattle.std.specs.Prelude.{All, nat_le, if◌then◌else◌}
use Rattle.std.proofs.lemmas.{Bool.cases_lt, Bool.leb-true, Bool.leb-false, Nat.mul-le}
use Rattle.std.proofs.Math.Seq.{drop-cons}
use Rattle.fz_num.specs.Fractions.{up_div}
use Rattle.fz_num.proofs.Algebra.{le-up_div, up_div-le}
use Rattle.cell_error.specs.declared.{ranges.MassRange.MassRange, ranges.Deviation.Deviation, means.Scale.Scale}
use Rattle.cell_error.specs.declared.{means.Pull.Pull, cuts.Cut.Cut}
use Rattle.cell_error.specs.declared.cuts.Cut.TheVariants.{Nowhere, From, UpTo}
use Rattle.cell_error.specs.{Errors.AreBetween, Errors.sure_mass, Errors.total, Errors.weighted}
use Rattle.cell_error.specs.{Cuts.masses, Cuts.is_high, Cuts.chosen}
use Rattle.cell_error.specs.Means.{pull, up, down, pulled_num, pulled_den, IsPulledWithin}
use Rattle.cell_error.specs.Means.{IsMeanError, IsSome, IsOrdered, IsByteRange, IsGreaterPull, MeansHaveErrors}
use Rattle.cell_error.proofs.Tilts.{tilt_up, tilt_down}
use Rattle.cell_error.proofs.Extremes.{Each, each_more, each_next}
use Rattle.cell_error.proofs.Covering.{up_of_test, down_of_test, take_all}

-- ---- a pull over a sum is convex in the mean

-- (g, a) is a combination of (g0, a0) and (g1, a1)
pub record IsMix (g a g0 a0 g1 a1 x y n : ℕ) : Type 0 where
  pub sums : a * n ≡ x * a0 + y * a1
  pub masses : g * n ≡ x * g0 + y * g1

over_mix : (u g a g0 a0 g1 a1 x y n : ℕ) → IsMix g a g0 a0 g1 a1 x y n
    → (u * g - a) * n ≤ x * (u * g0 - a0) + y * (u * g1 - a1)
over_mix u g a g0 a0 g1 a1 x y n m = ⊎_elim
    (λ (l : u * g < a). let z : 0 ≡ u * g - a = omega arith in
    subst (λ k. k * n ≤ x * (u * g0 - a0) + y * (u * g1 - a1)) z (omega arith))
    (λ (l : a ≤ u * g).
    let k = u * g - a in
    let e : u * g ≡ a + k = omega arith in
    let en : u * g * n ≡ (a + k) * n = ap (λ z. z * n) e in
    let gm : (g * n) * u ≡ (x * g0 + y * g1) * u = ap (λ z. z * u) m.masses in
    let h0 : u * g0 * x ≤ (a0 + (u * g0 - a0)) * x = mul-le-mul_right x (omega arith) in
    let h1 : u * g1 * y ≤ (a1 + (u * g1 - a1)) * y = mul-le-mul_right y (omega arith) in
    let am = m.sums in
    omega arith)
    (cases_lt (u * g) a)

under_mix : (u g a g0 a0 g1 a1 x y n : ℕ) → IsMix g a g0 a0 g1 a1 x y n
    → (a - u * g) * n ≤ x * (a0 - u * g0) + y * (a1 - u * g1)
under_mix u g a g0 a0 g1 a1 x y n m = ⊎_elim
    (λ (l : a < u * g). let z : 0 ≡ a - u * g = omega arith in
    subst (λ k. k * n ≤ x * (a0 - u * g0) + y * (a1 - u * g1)) z (omega arith))
    (λ (l : u * g ≤ a).
    let k = a - u * g in
    let e : a ≡ u * g + k = omega arith in
    let en : a * n ≡ (u * g + k) * n = ap (λ z. z * n) e in
    let gm : (g * n) * u ≡ (x * g0 + y * g1) * u = ap (λ z. z * u) m.masses in
    let h0 : a0 * x ≤ (u * g0 + (a0 - u * g0)) * x = mul-le-mul_right x (omega arith) in
    let h1 : a1 * y ≤ (u * g1 + (a1 - u * g1)) * y = mul-le-mul_right y (omega arith) in
    let am = m.sums in
    omega arith)
    (cases_lt a (u * g))

times_le : (d p q n : ℕ) → p * n ≤ q → d * p * n ≤ d * q
times_le d p q n h = let k : (p * n) * d ≤ q * d = mul-le-mul_right d h in omega arith

module _ (over under : Deviation → ℕ) where
  pull_mix : (ts : List MassRange) (ds : List Deviation) (g a g0 a0 g1 a1 x y n : ℕ) → IsMix g a g0 a0 g1 a1 x y n
      → pull over under ts ds g a * n ≤ x * pull over under ts ds g0 a0 + y * pull over under ts ds g1 a1
  pull_mix [] ds g a g0 a0 g1 a1 x y n m = omega arith
  pull_mix (t ∷ ts) [] g a g0 a0 g1 a1 x y n m = omega arith
  pull_mix (t ∷ ts) (d ∷ ds) g a g0 a0 g1 a1 x y n m =
      let rest = pull_mix ts ds g a g0 a0 g1 a1 x y n m in
      let o = times_le (over d) (t.at * g - a) (x * (t.at * g0 - a0) + y * (t.at * g1 - a1)) n
      (over_mix t.at g a g0 a0 g1 a1 x y n m) in
      let u = times_le (under d) (a - t.at * g) (x * (a0 - t.at * g0) + y * (a1 - t.at * g1)) n
      (under_mix t.at g a g0 a0 g1 a1 x y n m) in
      add (over d) (under d) (t.at * g - a) (a - t.at * g) (t.at * g0 - a0) (a0 - t.at * g0) (t.at * g1 - a1)
      (a1 - t.at * g1) x y n (pull over under ts ds g a) (pull over under ts ds g0 a0) (pull over under ts ds g1 a1)
      o u rest
    where
      add : (o u p q p0 q0 p1 q1 x y n r r0 r1 : ℕ) → o * p * n ≤ o * (x * p0 + y * p1)
          → u * q * n ≤ u * (x * q0 + y * q1) → r * n ≤ x * r0 + y * r1
          → (o * p + u * q + r) * n ≤ x * (o * p0 + u * q0 + r0) + y * (o * p1 + u * q1 + r1)
      add o u p q p0 q0 p1 q1 x y n r r0 r1 h k l = omega arith

-- a number p/m is no less than the pulls of two lists, and so than that of a list with its mean between theirs
below_mix : (p m q q0 q1 g g0 g1 x y n : ℕ) → 0 < n → q * n ≤ x * q0 + y * q1 → g * n ≡ x * g0 + y * g1
    → q0 * m ≤ p * g0 → q1 * m ≤ p * g1 → q * m ≤ p * g
below_mix p m q q0 q1 g g0 g1 x y n some h e h0 h1 =
    let a : (q * n) * m ≤ (x * q0 + y * q1) * m = mul-le-mul_right m h in
    let b0 : (q0 * m) * x ≤ (p * g0) * x = mul-le-mul_right x h0 in
    let b1 : (q1 * m) * y ≤ (p * g1) * y = mul-le-mul_right y h1 in
    let c : (g * n) * p ≡ (x * g0 + y * g1) * p = ap (λ z. z * p) e in
    let d : (q * m) * n ≤ (p * g) * n = omega arith in
    le_of_mul-le-mul_right d some

-- where a0/g0 ≤ a/g ≤ a1/g1
mix : (g a g0 a0 g1 a1 : ℕ) → 0 < g → a0 * g ≤ a * g0 → a * g1 ≤ a1 * g
    → IsMix g a g0 a0 g1 a1 (a1 * g - a * g1) (a * g0 - a0 * g) (a1 * g0 - a0 * g1)
mix g a g0 a0 g1 a1 some l0 l1 =
    let x = a1 * g - a * g1 in
    let y = a * g0 - a0 * g in
    let n = a1 * g0 - a0 * g1 in
    let k0 : (a0 * g) * g1 ≤ (a * g0) * g1 = mul-le-mul_right g1 l0 in
    let k1 : (a * g1) * g0 ≤ (a1 * g) * g0 = mul-le-mul_right g0 l1 in
    let k : (a0 * g1) * g ≤ (a1 * g0) * g = omega arith in
    let l : a0 * g1 ≤ a1 * g0 = le_of_mul-le-mul_right k some in
    let ex : x + a * g1 ≡ a1 * g = omega arith in
    let ey : y + a0 * g ≡ a * g0 = omega arith in
    let en : n + a0 * g1 ≡ a1 * g0 = omega arith in
    let x0 : (x + a * g1) * a0 ≡ (a1 * g) * a0 = ap (λ z. z * a0) ex in
    let y1 : (y + a0 * g) * a1 ≡ (a * g0) * a1 = ap (λ z. z * a1) ey in
    let na : (n + a0 * g1) * a ≡ (a1 * g0) * a = ap (λ z. z * a) en in
    let xg : (x + a * g1) * g0 ≡ (a1 * g) * g0 = ap (λ z. z * g0) ex in
    let yg : (y + a0 * g) * g1 ≡ (a * g0) * g1 = ap (λ z. z * g1) ey in
    let ng : (n + a0 * g1) * g ≡ (a1 * g0) * g = ap (λ z. z * g) en in
    record { sums = omega arith; masses = omega arith }

-- ---- what is no less than the pulls of the cuts is no less than those of all lists

total_lows : (ts : List MassRange) → All IsOrdered ts → (ms : List ℕ) → AreBetween 1 ts ms
    → sure_mass ts ≤ total ms
total_lows [] h [] b = omega arith
total_lows [] h (m ∷ ms) b = absurd b
total_lows (t ∷ ts) h [] b = absurd b
total_lows (t ∷ ts) h (m ∷ ms) b =
    let k = total_lows ts (λ k d l. h (suc k) d (omega arith)) ms b.2 in
    let l = b.0 in
    omega arith

total_highs : (w : ℕ) (ts : List MassRange) → All (IsByteRange w) ts → (ms : List ℕ) → AreBetween 1 ts ms
    → total ms ≤ 255 * length ts
total_highs w [] h [] b = omega arith
total_highs w [] h (m ∷ ms) b = absurd b
total_highs w (t ∷ ts) h [] b = absurd b
total_highs w (t ∷ ts) h (m ∷ ms) b =
    let k = total_highs w ts (λ k d l. h (suc k) d (omega arith)) ms b.2 in
    let l = b.1 in
    let s = (h 0 t (omega arith)).high_to in
    omega arith

chosen_between : (p : ℕ → Bool) (ts : List MassRange) → All IsOrdered ts → AreBetween 1 ts (chosen p ts)
chosen_between p [] h = tt
chosen_between p (t ∷ ts) h =
    let one = by_test (p t.at) (h 0 t (omega arith)) in
    (one.0, one.1, chosen_between p ts (λ k d l. h (suc k) d (omega arith)))
  where
    by_test : (v : Bool) → t.low ≤ t.high
        → (t.low * 1 ≤ (if v then t.high else t.low)) × ((if v then t.high else t.low) ≤ t.high * 1)
    by_test true l = (omega arith, omega arith)
    by_test false l = (omega arith, omega arith)

module _ (over under : Deviation → ℕ) (ts : List MassRange) (ds : List Deviation) where
  abbrev pub pulled : List ℕ → ℕ
  pulled ms = pull over under ts ds (total ms) (weighted ts ms)

  -- n/m is no less
  abbrev pub IsBelow : ℕ → ℕ → List ℕ → Type 0
  IsBelow n m ms = pulled ms * m ≤ n * total ms

  below_all : (n m : ℕ) → All IsOrdered ts → 1 ≤ sure_mass ts → IsBelow n m (masses Nowhere ts)
      → Each (λ c. IsBelow n m (masses (From c) ts)) ts → Each (λ c. IsBelow n m (masses (UpTo c) ts)) ts
      → (ms : List ℕ) → AreBetween 1 ts ms → IsBelow n m ms
  below_all n m h some none from up_to ms b =
      let g = total ms in
      let a = weighted ts ms in
      let p : ℕ → Bool = λ u. nat_le a (g * u) in
      let q : ℕ → Bool = λ u. nat_le (g * u) a in
      let p1 = chosen p ts in
      let p0 = chosen q ts in
      let gp : 1 ≤ g = along some (total_lows ts h ms b) in
      let g1 : 1 ≤ total p1 = along some (total_lows ts h p1 (chosen_between p ts h)) in
      let g0 : 1 ≤ total p0 = along some (total_lows ts h p0 (chosen_between q ts h)) in
      let t1 = tilt_up g a 1 p (λ u e. leb-true a (g * u) e)
      (λ u e. let l = leb-false a (g * u) e in omega arith) ts ms b in
      let t0 = tilt_down g a 1 q (λ u e. leb-true (g * u) a e)
      (λ u e. let l = leb-false (g * u) a e in omega arith) ts ms b in
      let h1 : IsBelow n m p1 = up_of_test (IsBelow n m) g a ts none from in
      let h0 : IsBelow n m p0 = down_of_test (IsBelow n m) g a ts none up_to in
      by_means g a (total p0) (weighted ts p0) (total p1) (weighted ts p1) gp g0 g1
      (lower g a (total p0) (weighted ts p0) t0) (upper g a (total p1) (weighted ts p1) t1) h0 h1
    where
      along : {x y : ℕ} → 1 ≤ x → x ≤ y → 1 ≤ y
      along k l = omega arith

      upper : (g a g1 a1 : ℕ) → g * a + a * (1 * g1) ≤ a * g + g * (1 * a1) → a * g1 ≤ a1 * g
      upper g a g1 a1 h = omega arith

      lower : (g a g0 a0 : ℕ) → a * g + g * (1 * a0) ≤ g * a + a * (1 * g0) → a0 * g ≤ a * g0
      lower g a g0 a0 h = omega arith

      by_means : (g a g0 a0 g1 a1 : ℕ) → 1 ≤ g → 1 ≤ g0 → 1 ≤ g1 → a0 * g ≤ a * g0 → a * g1 ≤ a1 * g
          → pull over under ts ds g0 a0 * m ≤ n * g0 → pull over under ts ds g1 a1 * m ≤ n * g1
          → pull over under ts ds g a * m ≤ n * g
      by_means g a g0 a0 g1 a1 s s0 s1 l0 l1 h0 h1 =
          let mixed = mix g a g0 a0 g1 a1 s l0 l1 in
          let x = a1 * g - a * g1 in
          let y = a * g0 - a0 * g in
          let z = a1 * g0 - a0 * g1 in
          ⊎_elim
          (λ (k : 0 < z). below_mix n m (pull over under ts ds g a) (pull over under ts ds g0 a0)
          (pull over under ts ds g1 a1) g g0 g1 x y z k (pull_mix over under ts ds g a g0 a0 g1 a1 x y z mixed)
          mixed.masses h0 h1)
          (λ (k : z ≤ 0).
          let e : z ≡ 0 = omega arith in
          let same : a * g0 ≡ g * a0 + 0 * a1 = level x y z g g0 g1 a a0 s0 s1 e mixed.masses l0 (omega arith) in
          let one : IsMix g a g0 a0 g1 a1 g 0 g0 = record { sums = same; masses = omega arith } in
          below_mix n m (pull over under ts ds g a) (pull over under ts ds g0 a0)
          (pull over under ts ds g1 a1) g g0 g1 g 0 g0 s0 (pull_mix over under ts ds g a g0 a0 g1 a1 g 0 g0 one)
          one.masses h0 h1)
          (cases_lt 0 z)
        where
          -- where the outer means are one, the inner one is too
          level : (x y z g g0 g1 a a0 : ℕ) → 1 ≤ g0 → 1 ≤ g1 → z ≡ 0 → g * z ≡ x * g0 + y * g1 → a0 * g ≤ a * g0
              → a * g0 ≤ a0 * g + y → a * g0 ≡ g * a0 + 0 * a1
          level x y z g g0 g1 a a0 s0 s1 e m l k =
              let n : g * z ≡ g * 0 = ap (λ n. g * n) e in
              let o : y * 1 ≤ y * g1 = mul-le y 1 y g1 (omega arith) s1 in
              omega arith

-- ---- as the code finds a pull

-- one term more, from the last on
pub pull_back : (over under : Deviation → ℕ) (ts : List MassRange) (ds : List Deviation) (k g a : ℕ) (t : MassRange)
    (d : Deviation) → 1 ≤ k → k ≤ length ts → length ds ≡ length ts
    → over (get_or ds (k - 1) d) * ((get_or ts (k - 1) t).at * g - a)
    + under (get_or ds (k - 1) d) * (a - (get_or ts (k - 1) t).at * g) + pull over under (drop k ts) (drop k ds) g a
    ≡ pull over under (drop (k - 1) ts) (drop (k - 1) ds) g a
pull_back over under ts ds k g a t d from to pairs =
    let in_ts : k - 1 < length ts = omega arith in
    let in_ds : k - 1 < length ds = omega arith in
    let back : suc (k - 1) ≡ k = omega arith in
    let et : drop (k - 1) ts ≡ get_or ts (k - 1) t ∷ drop k ts =
    drop-cons ts (k - 1) t in_ts ∙ ap (λ n. get_or ts (k - 1) t ∷ drop n ts) back in
    let ed : drop (k - 1) ds ≡ get_or ds (k - 1) d ∷ drop k ds =
    drop-cons ds (k - 1) d in_ds ∙ ap (λ n. get_or ds (k - 1) d ∷ drop n ds) back in
    rw (et, ed) refl

pub ordered : (w : ℕ) (ts : List MassRange) → All (IsByteRange w) ts → All IsOrdered ts
ordered w ts h k d l = (h k d l).ordered

pub cut_small : (w : ℕ) (c : Cut) (ts : List MassRange) → All (IsByteRange w) ts → length ts ≤ 15
    → total (masses c ts) ≤ 3825
cut_small w c ts h few =
    let l = total_highs w ts h (masses c ts) (chosen_between (is_high c) ts (ordered w ts h)) in
    omega arith

pub cut_some : (c : Cut) (ts : List MassRange) → All IsOrdered ts → 1 ≤ sure_mass ts
    → 1 ≤ total (masses c ts)
cut_some c ts h some =
    let l = total_lows ts h (masses c ts) (chosen_between (is_high c) ts h) in
    omega arith

pub mass_by : (u w m : ℕ) → u ≤ w → w ≤ 2000010000 → m ≤ 3825 → u * m ≤ 7650038250000
mass_by u w m h k l = mul-le u m 2000010000 3825 (omega arith) l

pub num_small : (x n e l m d : ℕ) → x ≤ 16646400 → n ≤ 350000000000000000000000 → e ≤ 130562652810000
    → l ≤ 3825000000000 → m ≤ 3825 → d ≤ 130560652800000
    → 1000000 * (x * n + e * (l * m)) + (d * (l * m) - 1) ≤ 100000000000000000000000000000000000000
num_small x n e l m d hx hn he hl hm hd =
    let a : x * n ≤ 16646400 * 350000000000000000000000 = mul-le x n 16646400 350000000000000000000000 hx hn in
    let b : l * m ≤ 3825000000000 * 3825 = mul-le l m 3825000000000 3825 hl hm in
    let c : e * (l * m) ≤ 130562652810000 * (3825000000000 * 3825) =
    mul-le e (l * m) 130562652810000 (3825000000000 * 3825) he b in
    let f : d * (l * m) ≤ 130560652800000 * (3825000000000 * 3825) =
    mul-le d (l * m) 130560652800000 (3825000000000 * 3825) hd b in
    omega arith

-- ---- the greatest pull of the cuts so far

crossed : (a b n m n' m' : ℕ) → 0 < m → n * m' ≤ n' * m → a * m ≤ n * b → a * m' ≤ n' * b
crossed a b n m n' m' p l h =
    let x : (a * m) * m' ≤ (n * b) * m' = mul-le-mul_right m' h in
    let y : (n * m') * b ≤ (n' * m) * b = mul-le-mul_right b l in
    let z : (a * m') * m ≤ (n' * b) * m = omega arith in
    le_of_mul-le-mul_right z p

module _ (over under : Deviation → ℕ) (ts : List MassRange) (ds : List Deviation) where
  -- n/m is the pull of some list
  pub record IsAttained (n m : ℕ) : Type 0 where
    pub list : List ℕ
    pub between : AreBetween 1 ts list
    pub pull_is : n ≡ pulled over under ts ds list
    pub mass_is : m ≡ total list

  -- and no less than those of the first i cuts
  pub record IsWorst (i n m : ℕ) : Type 0 where
    pub attained : IsAttained n m
    pub nowhere : IsBelow over under ts ds n m (masses Nowhere ts)
    pub from : Each (λ c. IsBelow over under ts ds n m (masses (From c) ts)) (take i ts)
    pub up_to : Each (λ c. IsBelow over under ts ds n m (masses (UpTo c) ts)) (take i ts)

  cut_attained : (c : Cut) → All IsOrdered ts → (p : Pull) → p.pull ≡ pulled over under ts ds (masses c ts)
      → p.mass ≡ total (masses c ts) → IsAttained p.pull p.mass
  cut_attained c h p e f = record {
    list = masses c ts;
    between = chosen_between (is_high c) ts h;
    pull_is = e;
    mass_is = f;
  }

  pub worst_none : All IsOrdered ts → (p : Pull)
      → p.pull ≡ pulled over under ts ds (masses Nowhere ts) → p.mass ≡ total (masses Nowhere ts)
      → IsWorst 0 p.pull p.mass
  worst_none h p e f = record {
    attained = cut_attained Nowhere h p e f;
    nowhere = itself (pulled over under ts ds (masses Nowhere ts)) (total (masses Nowhere ts)) p.pull p.mass e f;
    from = tt;
    up_to = tt;
  }
    where
      itself : (x y n m : ℕ) → n ≡ x → m ≡ y → x * m ≤ n * y
      itself x y n m e f = rw (e, f) (omega arith)

  -- what is below one fraction is below a greater one
  below_more : (n m n' m' : ℕ) → 0 < m → n * m' ≤ n' * m → (ms : List ℕ) → IsBelow over under ts ds n m ms
      → IsBelow over under ts ds n' m' ms
  below_more n m n' m' p l ms h = crossed (pulled over under ts ds ms) (total ms) n m n' m' p l h

  each_below : (n m n' m' : ℕ) → 0 < m → n * m' ≤ n' * m → (f : ℕ → List ℕ) (us : List MassRange)
      → Each (λ c. IsBelow over under ts ds n m (f c)) us → Each (λ c. IsBelow over under ts ds n' m' (f c)) us
  each_below n m n' m' p l f us h = each_more (λ c. IsBelow over under ts ds n m (f c))
      (λ c. IsBelow over under ts ds n' m' (f c)) (λ c k. below_more n m n' m' p l (f c) k) us h

  greater_attained : (p q r : Pull) → IsGreaterPull p q r → IsAttained p.pull p.mass → IsAttained q.pull q.mass
      → IsAttained r.pull r.mass
  greater_attained p q r g a b = ⊎_elim
      (λ (e : r ≡ p). subst (λ x. IsAttained x.pull x.mass) (sym e) a)
      (λ (e : r ≡ q). subst (λ x. IsAttained x.pull x.mass) (sym e) b)
      g.one

  pub worst_next : (i : ℕ) (t : MassRange) → i < length ts → All IsOrdered ts → (now a b x y : Pull)
      → a.pull ≡ pulled over under ts ds (masses (From (get_or ts i t).at) ts)
      → a.mass ≡ total (masses (From (get_or ts i t).at) ts)
      → b.pull ≡ pulled over under ts ds (masses (UpTo (get_or ts i t).at) ts)
      → b.mass ≡ total (masses (UpTo (get_or ts i t).at) ts)
      → 1 ≤ now.mass → 1 ≤ x.mass → IsGreaterPull now a x → IsGreaterPull x b y
      → IsWorst i now.pull now.mass → IsWorst (i + 1) y.pull y.mass
  worst_next i t l h now a b x y ea fa eb fb pn px gx gy is =
      let next : suc i ≡ i + 1 = omega arith in
      let u = get_or ts i t in
      let F : ℕ → Type 0 = λ c. IsBelow over under ts ds y.pull y.mass (masses (From c) ts) in
      let U : ℕ → Type 0 = λ c. IsBelow over under ts ds y.pull y.mass (masses (UpTo c) ts) in
      let ln : now.pull * y.mass ≤ y.pull * now.mass =
      crossed now.pull now.mass x.pull x.mass y.pull y.mass px gy.left gx.left in
      let la : a.pull * y.mass ≤ y.pull * a.mass =
      crossed a.pull a.mass x.pull x.mass y.pull y.mass px gy.left gx.right in
      let k : IsAttained x.pull x.mass = greater_attained now a x gx is.attained
      (cut_attained (From u.at) h a ea fa) in
      record {
        attained = greater_attained x b y gy k (cut_attained (UpTo u.at) h b eb fb);
        nowhere = below_more now.pull now.mass y.pull y.mass pn ln (masses Nowhere ts) is.nowhere;
        from = subst (λ j. Each F (take j ts)) next
            (each_next F ts i t l
            (each_below now.pull now.mass y.pull y.mass pn ln (λ c. masses (From c) ts) (take i ts) is.from)
            (turned a y (pulled over under ts ds (masses (From u.at) ts)) (total (masses (From u.at) ts)) ea fa la));
        up_to = subst (λ j. Each U (take j ts)) next
            (each_next U ts i t l
            (each_below now.pull now.mass y.pull y.mass pn ln (λ c. masses (UpTo c) ts) (take i ts) is.up_to)
            (turned b y (pulled over under ts ds (masses (UpTo u.at) ts)) (total (masses (UpTo u.at) ts)) eb fb gy.right));
      }
    where
      turned : (p q : Pull) (n m : ℕ) → p.pull ≡ n → p.mass ≡ m → p.pull * q.mass ≤ q.pull * p.mass
          → n * q.mass ≤ q.pull * m
      turned p q n m e f h = subst (λ k. n * q.mass ≤ q.pull * k) f (subst (λ k. k * q.mass ≤ q.pull * p.mass) e h)

  -- there is one
  abbrev cut_pull : Cut → Pull
  cut_pull c = record { pull = pulled over under ts ds (masses c ts); mass = total (masses c ts) }

  greater : (p q : Pull) → (r : Pull) × IsGreaterPull p q r
  greater p q = ⊎_elim
      (λ (l : p.pull * q.mass < q.pull * p.mass).
      (q, record { one = inr refl; left = omega arith; right = omega arith }))
      (λ (l : q.pull * p.mass ≤ p.pull * q.mass).
      (p, record { one = inl refl; left = omega arith; right = omega arith }))
      (cases_lt (p.pull * q.mass) (q.pull * p.mass))

  greater_mass : (p q r : Pull) → IsGreaterPull p q r → 1 ≤ p.mass → 1 ≤ q.mass → 1 ≤ r.mass
  greater_mass p q r g hp hq = ⊎_elim (λ (e : r ≡ p). subst (λ x. 1 ≤ x.mass) (sym e) hp)
      (λ (e : r ≡ q). subst (λ x. 1 ≤ x.mass) (sym e) hq) g.one

  pub worst_of : All IsOrdered ts → 1 ≤ sure_mass ts → (i : ℕ) → i ≤ length ts
      → (p : Pull) × IsWorst i p.pull p.mass × (1 ≤ p.mass)
  worst_of h some zero l = (cut_pull Nowhere, worst_none h (cut_pull Nowhere) refl refl, cut_some Nowhere ts h some)
  worst_of h some (suc i) l =
      let t : MassRange = record { at = 0; low = 0; high = 0 } in
      let before = worst_of h some i (omega arith) in
      let c = (get_or ts i t).at in
      let x = greater before.0 (cut_pull (From c)) in
      let y = greater x.0 (cut_pull (UpTo c)) in
      let px = greater_mass before.0 (cut_pull (From c)) x.0 x.1 before.2 (cut_some (From c) ts h some) in
      let next : i + 1 ≡ suc i = omega arith in (
        y.0,
        subst (λ k. IsWorst k y.0.pull y.0.mass) next
            (worst_next i t (omega arith) h before.0 (cut_pull (From c)) (cut_pull (UpTo c)) x.0 y.0 refl refl refl refl
            before.2 px x.1 y.1 before.1),
        greater_mass x.0 (cut_pull (UpTo c)) y.0 y.1 px (cut_some (UpTo c) ts h some),
      )

  pub worst_all : (n m : ℕ) → All IsOrdered ts → 1 ≤ sure_mass ts → (i : ℕ) → length ts ≤ i
      → IsWorst i n m → (ms : List ℕ) → AreBetween 1 ts ms → IsBelow over under ts ds n m ms
  worst_all n m h some i l is =
      let whole : take i ts ≡ ts = take_all i ts l in
      let F : ℕ → Type 0 = λ c. IsBelow over under ts ds n m (masses (From c) ts) in
      let U : ℕ → Type 0 = λ c. IsBelow over under ts ds n m (masses (UpTo c) ts) in
      below_all over under ts ds n m h some is.nowhere (subst (Each F) whole is.from) (subst (Each U) whole is.up_to)

-- ---- what a pull comes to

abbrev pub millionths : Scale → ℕ → ℕ → ℕ → ℕ
millionths s floors n m = min 1000000 (up_div (1000000 * pulled_num s floors n m) (pulled_den s m))

den_pos : (s : Scale) (m : ℕ) → IsSome s → 1 ≤ m → 0 < pulled_den s m
den_pos s m h p =
    mul-pos (mul-pos (mul-pos (omega arith) h.parts) h.width) (mul-pos h.sum p)

-- below the whole range it serves for each pull that is no greater
serves_below : (s : Scale) (floors n m q g e : ℕ) → IsSome s → 1 ≤ m → q * m ≤ n * g → e < 1000000
    → millionths s floors n m ≤ e → IsPulledWithin s floors q g e
serves_below s floors n m q g e h p l small is =
    let num = pulled_num s floors n m in
    let den = pulled_den s m in
    let up : 1000000 * num ≤ up_div (1000000 * num) den * den = le-up_div (1000000 * num) den (den_pos s m h p) in
    let k : up_div (1000000 * num) den ≤ e = omega arith in
    let j : up_div (1000000 * num) den * den ≤ e * den = mul-le-mul_right den k in
    let c : 1000000 * num ≤ e * den = omega arith in
    over_mass s.parts s.width s.sum (s.offset * s.parts + floors * s.width) n m q g e p l c
  where
    over_mass : (h w l o n m q g e : ℕ) → 1 ≤ m → q * m ≤ n * g
        → 1000000 * (65025 * h * n + o * (l * m)) ≤ e * (255 * h * w * (l * m))
        → (65025 * h * q + o * (l * g)) * 1000000 ≤ e * (255 * h * w * (l * g))
    over_mass h w l o n m q g e p k c =
        let a : (1000000 * (65025 * h * n + o * (l * m))) * g ≤ (e * (255 * h * w * (l * m))) * g =
        mul-le-mul_right g c in
        let b : (q * m) * (65025000000 * h) ≤ (n * g) * (65025000000 * h) = mul-le-mul_right (65025000000 * h) k in
        let d : ((65025 * h * q + o * (l * g)) * 1000000) * m ≤ (e * (255 * h * w * (l * g))) * m = omega arith in
        le_of_mul-le-mul_right d p

-- what covers its list is no less
least_at : (s : Scale) (floors n m f : ℕ) → IsSome s → 1 ≤ m → (f < 1000000 → IsPulledWithin s floors n m f)
    → millionths s floors n m ≤ f
least_at s floors n m f h p c = ⊎_elim
    (λ (l : f < 1000000).
    let k : pulled_num s floors n m * 1000000 ≤ f * pulled_den s m = c l in
    let u : up_div (1000000 * pulled_num s floors n m) (pulled_den s m) ≤ f =
    up_div-le (1000000 * pulled_num s floors n m) (pulled_den s m) f (den_pos s m h p) (omega arith) in
    omega arith)
    (λ (l : 1000000 ≤ f). omega arith)
    (cases_lt f 1000000)

module _ (s : Scale) (ts : List MassRange) (ds : List Deviation) (scale : IsSome s) (h : All IsOrdered ts)
    (some : 1 ≤ sure_mass ts) where
  abbrev pub IsWorstUp : ℕ → ℕ → ℕ → Type 0
  IsWorstUp i n m = IsWorst (λ d. d.rise) (λ d. d.fall) ts ds i n m

  abbrev pub IsWorstDown : ℕ → ℕ → ℕ → Type 0
  IsWorstDown i n m = IsWorst (λ d. d.fall) (λ d. d.rise) ts ds i n m

  pub is_error : (i n m n' m' : ℕ) → length ts ≤ i → 1 ≤ m → 1 ≤ m' → IsWorstUp i n m → IsWorstDown i n' m'
      → IsMeanError s ts ds (max (millionths s 1 n m) (millionths s 0 n' m'))
  is_error i n m n' m' l p p' u d = record {
    covers = λ small ms b. record {
      up = serves_below s 1 n m (up ts ds ms) (total ms) e scale p
          (worst_all (λ d. d.rise) (λ d. d.fall) ts ds n m h some i l u ms b) small (omega arith);
      down = serves_below s 0 n' m' (down ts ds ms) (total ms) e scale p'
          (worst_all (λ d. d.fall) (λ d. d.rise) ts ds n' m' h some i l d ms b) small (omega arith);
    };
    least = λ f c.
        let a = u.attained in
        let b = d.attained in
        let x : millionths s 1 n m ≤ f = least_at s 1 n m f scale p (λ k.
        at_list 1 n m (up ts ds a.list) (total a.list) f a.pull_is a.mass_is (c k a.list a.between).up) in
        let y : millionths s 0 n' m' ≤ f = least_at s 0 n' m' f scale p' (λ k.
        at_list 0 n' m' (down ts ds b.list) (total b.list) f b.pull_is b.mass_is (c k b.list b.between).down) in
        omega arith;
  }
    where
      e : ℕ
      e = max (millionths s 1 n m) (millionths s 0 n' m')

      at_list : (floors n m q g f : ℕ) → n ≡ q → m ≡ g → IsPulledWithin s floors q g f → IsPulledWithin s floors n m f
      at_list floors n m q g f e d k = rw (e, d) k

pub errors_of_means : MeansHaveErrors
errors_of_means s ts ds scale h some =
    let u = worst_of (λ d. d.rise) (λ d. d.fall) ts ds h some (length ts) (omega arith) in
    let d = worst_of (λ d. d.fall) (λ d. d.rise) ts ds h some (length ts) (omega arith) in (
      max (millionths s 1 u.0.pull u.0.mass) (millionths s 0 d.0.pull d.0.mass),
      is_error s ts ds scale h some (length ts) u.0.pull u.0.mass d.0.pull d.0.mass (omega arith) u.2 d.2 u.1 d.1,
    )
