-- The slots of the outputs' terms hold their masses after the rules.
use Rattle.eval_code.proofs.Words.{[], ◌<◌, ◌==◌, ◌∙◌, ◌∷◌, ◌≡◌, ◌≤◌, ap, arith, cases_eq, Conjunction, false, fired}
use Rattle.eval_code.proofs.Words.{get_or, get_or-set_other, get_or-set_same, if◌then◌else◌, least_of, length}
use Rattle.eval_code.proofs.Words.{length-set, List, max, min, nat_tests, raised_to, refl, set, subst, sym, true}
use Rattle.eval_code.proofs.Words.{weighted, ℕ, ⊎_elim}
use Rattle.eval_code.proofs.phases.RuleMemory.{Below, length-raised_to}

-- t where k is concluded, and else 0
abbrev pub hit : ℕ → ℕ → List ℕ → ℕ
hit k t [] = 0
hit k t (e ∷ es) = max (if e == k then t else 0) (hit k t es)

-- the greatest, over the conjunctions that conclude k, of the least literal cut by the weight
abbrev pub degree : List ℕ → List Conjunction → List ℕ → ℕ → ℕ
degree ls [] ws k = 0
degree ls (c ∷ cs) [] k = 0
degree ls (c ∷ cs) (w ∷ ws) k = max (hit k (weighted (least_of ls 255 c.literals) w) c.conclusions) (degree ls cs ws k)

-- literals below l, conclusions from l on and below n
abbrev pub Between : ℕ → ℕ → List ℕ → Type 0
Between l n [] = Unit {0}
Between l n (e ∷ es) = (l ≤ e) × (e < n) × Between l n es

abbrev pub AllSplit : ℕ → ℕ → List Conjunction → Type 0
AllSplit l n [] = Unit {0}
AllSplit l n (c ∷ cs) = Below l c.literals × Between l n c.conclusions × AllSplit l n cs

raised_at : (t : ℕ) (ss es : List ℕ) (l k : ℕ) → Between l (length ss) es
    → get_or (raised_to t ss es) k 0 ≡ max (get_or ss k 0) (hit k t es)
raised_at t ss [] l k h = omega arith
raised_at t ss (e ∷ es) l k h =
    let le = h.1 in
    let v = max (get_or ss e 0) t in
    let ls = length-set ss e v in
    let r = raised_at t (set ss e v) es l k (subst (λ n. Between l n es) (sym ls) h.2) in
    r ∙ ⊎_elim
    (λ q. let a : (e == k) ≡ true = grind (arith, nat_tests) in
    let g : get_or (set ss e v) k 0 ≡ v = ap (λ j. get_or (set ss e v) j 0) (sym q) ∙ get_or-set_same ss e v 0 le in
    let g2 : get_or ss e 0 ≡ get_or ss k 0 = ap (λ j. get_or ss j 0) q in
    rw a (omega arith))
    (λ q. let a : (e == k) ≡ false = grind (arith, nat_tests) in
    let g : get_or (set ss e v) k 0 ≡ get_or ss k 0 = get_or-set_other ss e k v 0 (λ x. q (sym x)) in
    rw a (omega arith))
    (cases_eq e k)

least_same : (l : ℕ) (ss ls : List ℕ) (t : ℕ) (es : List ℕ) → ((e : ℕ) → e < l → get_or ss e 0 ≡ get_or ls e 0)
    → Below l es
    → least_of ss t es ≡ least_of ls t es
least_same l ss ls t [] g h = refl
least_same l ss ls t (e ∷ es) g h = ap (λ v. least_of ss (min t v) es) (g e h.0)
    ∙ least_same l ss ls (min t (get_or ls e 0)) es g h.1

hit_none : (l n k t : ℕ) (es : List ℕ) → k < l → Between l n es → hit k t es ≡ 0
hit_none l n k t [] lt h = refl
hit_none l n k t (e ∷ es) lt h =
    let b = h.0 in
    let a : (e == k) ≡ false = grind (arith, nat_tests) in
    let r = hit_none l n k t es lt h.2 in
    rw a (omega arith)

-- each slot becomes the greatest
pub fired_at : (l : ℕ) (ls ss : List ℕ) (cs : List Conjunction) (ws : List ℕ) (k : ℕ) → length ws ≡ length cs
    → ((e : ℕ) → e < l → get_or ss e 0 ≡ get_or ls e 0) → AllSplit l (length ss) cs
    → get_or (fired ss cs ws) k 0 ≡ max (get_or ss k 0) (degree ls cs ws k)
fired_at l ls ss [] ws k el g h = omega arith
fired_at l ls ss (c ∷ cs) [] k el g h = absurd (omega arith)
fired_at l ls ss (c ∷ cs) (w ∷ ws) k el g h =
    let t = weighted (least_of ss 255 c.literals) w in
    let et : t ≡ weighted (least_of ls 255 c.literals) w =
    ap (λ v. weighted v w) (least_same l ss ls 255 c.literals g h.0) in
    let ss' = raised_to t ss c.conclusions in
    let len = length-raised_to t ss c.conclusions in
    let one : (j : ℕ) → get_or ss' j 0 ≡ max (get_or ss j 0) (hit j t c.conclusions) =
    λ j. raised_at t ss c.conclusions l j h.1 in
    let g' : (e : ℕ) → e < l → get_or ss' e 0 ≡ get_or ls e 0 =
    λ e lt. one e ∙ ap (max (get_or ss e 0)) (hit_none l (length ss) e t c.conclusions lt h.1)
    ∙ (let z : max (get_or ss e 0) 0 ≡ get_or ss e 0 = omega arith in z) ∙ g e lt in
    let r = fired_at l ls ss' cs ws k (omega arith) g' (subst (λ n. AllSplit l n cs) (sym len) h.2) in
    let o = one k in
    let eh : hit k t c.conclusions ≡ hit k (weighted (least_of ls 255 c.literals) w) c.conclusions =
    ap (λ u. hit k u c.conclusions) et in
    r ∙ omega (arith, o, eh)
