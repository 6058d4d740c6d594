-- Rule lists, conjunction by conjunction.
use Rattle.rule_layout.proofs.Words.{[], ◌++◌, ◌+◌, ◌<◌, ◌∙◌, ◌∷◌, ◌≡◌, ◌≢◌, ◌≤◌, All, All-append, All-cons, All-head}
use Rattle.rule_layout.proofs.Words.{All-nil, All-tail, ap, append_assoc, ap₂, arith, at_address, Conjunction, drop}
use Rattle.rule_layout.proofs.Words.{IsBelow, length, List, map, marked, refl, subst, sym, ℕ}
use Rattle.std.proofs.lemmas.List.{length-drop}

-- the mark behind a conjunction, with others after it or none
abbrev pub mark : ℕ → ℕ → List Conjunction → ℕ
mark s e [] = e
mark s e (c ∷ cs) = s

pub marked-cons : (s e : ℕ) (c : Conjunction) (rest : List Conjunction)
    → marked s e (c ∷ rest) ≡ c.literals ++ s ∷ (c.conclusions ++ mark s e rest ∷ marked s e rest)
marked-cons s e c [] = refl
marked-cons s e c (d ∷ rest) = refl

mark-map : (s e base : ℕ) (rest : List Conjunction) → mark s e (map (at_address base) rest) ≡ mark s e rest
mark-map s e base [] = refl
mark-map s e base (c ∷ rest) = refl

joined : (a b c d : List ℕ) (s m : ℕ) → (((a ++ b) ++ s ∷ []) ++ c ++ m ∷ []) ++ d ≡ a ++ (b ++ s ∷ (c ++ m ∷ d))
joined a b c d s m = simp append_assoc

pub marked_more : (s e m base : ℕ) (c : Conjunction) (rest : List Conjunction) (l0 l1 l2 l3 l4 whole : List ℕ)
    → m ≡ mark s e rest →
    l1 ≡ l0 ++ map (λ n. base + n) c.literals → l2 ≡ l1 ++ s ∷ [] → l3 ≡ l2 ++ map (λ n. base + n) c.conclusions
    → l4 ≡ l3 ++ m ∷ [] →
    l0 ++ marked s e (map (at_address base) (c ∷ rest)) ≡ whole → l4 ++ marked s e (map (at_address base) rest) ≡ whole
marked_more s e m base c rest l0 l1 l2 l3 l4 whole em e1 e2 e3 e4 before =
    let made : l4 ≡ ((((l0 ++ map (λ n. base + n) c.literals) ++ s ∷ []) ++ map (λ n. base + n) c.conclusions) ++ m
    ∷ []) = cc in
    let same : m ≡ mark s e (map (at_address base) rest) = em ∙ sym (mark-map s e base rest) in
    let flat = joined l0 (map (λ n. base + n) c.literals) (map (λ n. base + n) c.conclusions)
    (marked s e (map (at_address base) rest)) s m in
    ap (λ (w : List ℕ). w ++ marked s e (map (at_address base) rest)) made
    ∙
    (flat
    ∙ (ap (λ (k : ℕ). l0
    ++ (map (λ n. base + n) c.literals ++ s
    ∷ (map (λ n. base + n) c.conclusions ++ k ∷ marked s e (map (at_address base) rest)))) same
    ∙ (ap (λ (w : List ℕ). l0 ++ w) (sym (marked-cons s e (at_address base c) (map (at_address base) rest)))
    ∙ before)))

pub mark_last : (s e : ℕ) (cs : List Conjunction) (i : ℕ) → i + 1 ≡ length cs → e ≡ mark s e (drop (i + 1) cs)
mark_last s e cs i last = of_length (drop (i + 1) cs) (omega (arith, length-drop (i + 1) cs))
  where
    of_length : (ds : List Conjunction) → length ds ≡ 0 → e ≡ mark s e ds
    of_length [] h = refl
    of_length (d ∷ ds) h = absurd (omega arith)

pub mark_inner : (s e : ℕ) (cs : List Conjunction) (i : ℕ) → i < length cs → i + 1 ≢ length cs
    → s ≡ mark s e (drop (i + 1) cs)
mark_inner s e cs i lt more = of_length (drop (i + 1) cs) (omega (arith, length-drop (i + 1) cs))
  where
    of_length : (ds : List Conjunction) → 0 < length ds → s ≡ mark s e ds
    of_length [] h = absurd (omega arith)
    of_length (d ∷ ds) h = refl

pub at_base_zero : (cs : List Conjunction) → map (at_address 0) cs ≡ cs
at_base_zero [] = refl
at_base_zero (c ∷ cs) = ap₂ (λ (d : Conjunction) (ds : List Conjunction). d ∷ ds) (same c) (at_base_zero cs)
  where
    plain : (ns : List ℕ) → map (λ n. 0 + n) ns ≡ ns
    plain [] = refl
    plain (n ∷ ns) = ap₂ (λ (m : ℕ) (ms : List ℕ). m ∷ ms) (omega arith) (plain ns)

    same : (d : Conjunction) → at_address 0 d ≡ d
    same d = ap₂ (λ (v w : List ℕ). let made : Conjunction = record { literals = v; conclusions = w } in made)
        (plain d.literals) (plain d.conclusions)

All-imp : {X : Type 0} (P Q : X → Type 0) (xs : List X) → ((x : X) → P x → Q x) → All P xs → All Q xs
All-imp P Q xs f h = λ k d lt. f _ (h k d lt)

pub IsBelow-weaker : (m n : ℕ) (cs : List Conjunction) → m ≤ n → All (IsBelow m) cs → All (IsBelow n) cs
IsBelow-weaker m n cs le h =
    All-imp (IsBelow m) (IsBelow n) cs
    (λ c b. record {
      literals =
          All-imp (λ k. k < m) (λ k. k < n) c.literals (λ k lt. omega arith) b.literals;
      conclusions =
          All-imp (λ k. k < m) (λ k. k < n) c.conclusions (λ k lt. omega arith) b.conclusions;
    }) h

-- the elements of REV's list are bytes
pub marked_below : (s e n m : ℕ) (cs : List Conjunction) → All (IsBelow n) cs → n ≤ m → s < m → e < m
    → All (λ k. k < m) (marked s e cs)
marked_below s e n m [] h le sm em = All-nil (λ k. k < m)
marked_below s e n m (c ∷ cs) h le sm em =
    let here = All-head (IsBelow n) c cs h in
    let last : mark s e cs < m = mark_below cs in
    let tail = marked_below s e n m cs (All-tail (IsBelow n) c cs h) le sm em in
    let literals = All-imp (λ k. k < n) (λ k. k < m) c.literals (λ k lt. omega arith) here.literals in
    let conclusions = All-imp (λ k. k < n) (λ k. k < m) c.conclusions (λ k lt. omega arith) here.conclusions in
    subst (All (λ k. k < m)) (sym (marked-cons s e c cs))
    (All-append (λ k. k < m) c.literals (s ∷ (c.conclusions ++ mark s e cs ∷ marked s e cs)) literals
    (All-cons (λ k. k < m) s (c.conclusions ++ mark s e cs ∷ marked s e cs) sm
    (All-append (λ k. k < m) c.conclusions (mark s e cs ∷ marked s e cs) conclusions
    (All-cons (λ k. k < m) (mark s e cs) (marked s e cs) last tail))))
  where
    mark_below : (ds : List Conjunction) → mark s e ds < m
    mark_below [] = em
    mark_below (d ∷ ds) = sm
