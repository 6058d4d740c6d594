-- The lists of an output's ranges and deviations, as loops from the back fill them.
use Rattle.std.proofs.Common.{◌≡◌, ℕ, zero, suc, ◌+◌, ◌-◌, ◌<◌, ◌≤◌, List, [], ◌∷◌, length, get_or, drop, take, refl}
use Rattle.std.proofs.Common.{sym, ap, ◌∙◌, subst, arith}
use Rattle.std.proofs.Math.Seq.{drop-cons}
use Rattle.std.specs.Prelude.{slice_set}
use Rattle.fz_num.specs.declared.dec.Dec.{Dec}

-- one place more of the first n
fill : {X : Type 0} (xs : List X) (n k : ℕ) (v : X) → k < n → n ≤ length xs
    → drop k (take n (slice_set xs k v)) ≡ v ∷ drop (suc k) (take n xs)
fill [] n k v h l = absurd (omega arith)
fill (x ∷ xs) zero k v h l = absurd (omega arith)
fill (x ∷ xs) (suc n) zero v h l = refl
fill (x ∷ xs) (suc n) (suc k) v h l = fill xs n k v (omega arith) (omega arith)

-- by what stands at the place of a singleton
pub fill_next : {X : Type 0} (all : ℕ → List Dec → List X) (one : ℕ → Dec → X)
    → ((k : ℕ) (u : Dec) (us : List Dec) → all k (u ∷ us) ≡ one k u ∷ all (k + 1) us) → (ss : List Dec) (rs : List X)
    (k : ℕ) (d : Dec) (v : X) → 0 < k → k ≤ length ss → length ss ≤ length rs → v ≡ one (k - 1) (get_or ss (k - 1) d)
    → drop k (take (length ss) rs) ≡ all k (drop k ss)
    → drop (k - 1) (take (length ss) (slice_set rs (k - 1) v)) ≡ all (k - 1) (drop (k - 1) ss)
fill_next all one more ss rs k d v some upto room v_is done =
    let n = length ss in
    let j = k - 1 in
    let back : k ≡ suc j = omega arith in
    let next : k ≡ j + 1 = omega arith in
    let e1 = fill rs n j v (omega arith) room in
    let e2 : drop (suc j) (take n rs) ≡ all (j + 1) (drop (suc j) ss) =
    subst (λ i. drop i (take n rs) ≡ all (j + 1) (drop i ss)) back
    (subst (λ i. drop k (take n rs) ≡ all i (drop k ss)) next done) in
    let e3 : drop j ss ≡ get_or ss j d ∷ drop (suc j) ss = drop-cons ss j d (omega arith) in
    let e4 : v ∷ all (j + 1) (drop (suc j) ss) ≡ all j (get_or ss j d ∷ drop (suc j) ss) =
    ap (λ x. x ∷ all (j + 1) (drop (suc j) ss)) v_is ∙ sym (more j (get_or ss j d) (drop (suc j) ss)) in
    e1 ∙ ap (λ ts. v ∷ ts) e2 ∙ e4 ∙ sym (ap (all j) e3)
