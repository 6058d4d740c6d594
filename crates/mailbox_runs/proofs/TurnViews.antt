-- The frames and the resumed boundaries of a turn that answers, as they are read off its own steps.
use Rattle.mailbox_runs.proofs.Words.{[], ◌++◌, ◌+◌, ◌-◌, ◌<◌, ◌||◌, ◌∙◌, ◌∷◌, ◌≡◌, ◌≢◌, ◌≤◌, AllGood, ap, ap₂, arith}
use Rattle.mailbox_runs.proofs.Words.{behind, Bool, cases_lt, false, frames_after, frames_from, FrameSeen, Free}
use Rattle.mailbox_runs.proofs.Words.{has_moment, inl, inr, is_inside, is_new, List, map, max, nat_le, nat_tests}
use Rattle.mailbox_runs.proofs.Words.{None, not, Option, part_taken, plain_frame, Post, refl, resumed_of, Some, State}
use Rattle.mailbox_runs.proofs.Words.{sym, taken_from, TakenAtFirstOpen, true, uninterrupted, up_to, ℕ}
use Rattle.std.specs.{Prelude.◌==◌}
use Rattle.std.proofs.{lemmas.Bool.both_ways}
use Rattle.mailbox_runs.proofs.{LastOnes.split, CopyRuns.IsCopyRun, AnswerRuns.at_is, AnswerRuns.at_past}
use Rattle.mailbox_runs.proofs.TakenLists.{Rise, frames_at, last_before, frames_behind, resumed_same, has_on}

-- a boundary up to the third
abbrev small_before : ℕ → Option ℕ → Type 0
small_before k None = Unit {0}
small_before k (Some j) = j ≤ k

small_last : (k j : ℕ) (before : Option ℕ) (ps : List Post) → j ≤ k → small_before k before
    → small_before k (last_before j before ps)
small_last k j before [] le h = h
small_last k j before (p ∷ ps) le h = small_last k j (Some j) ps le le

new_behind : (before : Option ℕ) (m : ℕ) → small_before 2 before → 3 ≤ m → is_new before m ≡ true
new_behind None m h lo = refl
new_behind (Some j) m h lo = ap not (apart j m h lo)
  where
    apart : (j m : ℕ) → j ≤ 2 → 3 ≤ m → (j == m) ≡ false
    apart j m h lo = grind (arith, nat_tests)

no_moment : {A : Type 0} (moment : A → ℕ) (m : ℕ) (xs : List A) → AllGood (λ x. moment x ≢ m) xs
    → has_moment moment m xs ≡ false
no_moment moment m [] h = refl
no_moment moment m (x ∷ xs) h =
    (let e : (moment x == m) ≡ false = differ (moment x) m h.0 in rw e (no_moment moment m xs h.1))
  where
    differ : (a b : ℕ) → a ≢ b → (a == b) ≡ false
    differ a b h = grind (arith, nat_tests)

low_moments : (g j m : ℕ) (ps : List Post) → AllGood (λ p. max g p.moment ≡ g + j) ps → j < m
    → AllGood (λ (p : ℕ × Post). p.0 - g ≢ m) (taken_from g ps)
low_moments g j m [] h lt = tt
low_moments g j m (p ∷ ps) h lt = ((λ z. (let e = h.0 in omega arith)), low_moments g j m ps h.1 lt)

same_moments : (g c m : ℕ) (at : Post → ℕ) (ps : List Post) → AllGood (λ p. max c p.moment - g ≡ at p) ps
    → has_moment (λ p. p.0 - g) m (taken_from c ps) ≡ has_moment at m ps
same_moments g c m at [] h = refl
same_moments g c m at (p ∷ ps) h = ap₂ (λ (k : ℕ) (b : Bool). (k == m) || b) h.0 (same_moments g c m at ps h.1)

or_false : (b : Bool) → (b || false) ≡ b
or_false true = refl
or_false false = refl

module _ (opens : TakenAtFirstOpen) (flags n all g : ℕ) (u : State) (run : IsCopyRun flags n all u) where
  abbrev at : Post → ℕ
  at = part_taken flags g all u

  abbrev last : ℕ
  last = g + all - 1

  -- each that comes behind the copy is taken at its boundary
  waits_by : (b : Bool) (k : ℕ) (p : Post) (ps : List Post) → nat_le p.moment last ≡ b → g + 3 ≤ k → k ≤ p.moment
      → AllGood (λ q. (max (g + 5 + n) q.moment - g ≡ at q) × (3 ≤ at q)) (up_to last ps)
      → AllGood (λ q. (max (g + 5 + n) q.moment - g ≡ at q) × (3 ≤ at q)) (up_to last (p ∷ ps))
  waits_by true k p ps e lo from r =
      rw e (let hi : p.moment ≤ last = grind (arith, nat_tests) in
      let is = at_is opens flags n all g u run p (omega arith) hi in ((omega arith, omega arith), r))
  waits_by false k p ps e lo from r = rw e tt

  waiting_taken : (k : ℕ) (ps : List Post) → g + 3 ≤ k → Rise k ps
      → AllGood (λ q. (max (g + 5 + n) q.moment - g ≡ at q) × (3 ≤ at q)) (up_to last ps)
  waiting_taken k [] lo r = tt
  waiting_taken k (p ∷ ps) lo r =
      waits_by (nat_le p.moment last) k p ps refl lo r.0 (waiting_taken p.moment ps (omega (arith, lo, r.0)) r.1)

  firsts : (ps : List Post) → AllGood (λ q. (max (g + 5 + n) q.moment - g ≡ at q) × (3 ≤ at q)) ps
      → AllGood (λ q. max (g + 5 + n) q.moment - g ≡ at q) ps
  firsts [] h = tt
  firsts (p ∷ ps) h = (h.0.0, firsts ps h.1)

  news : (before : Option ℕ) (ps : List Post) → small_before 2 before
      → AllGood (λ q. (max (g + 5 + n) q.moment - g ≡ at q) × (3 ≤ at q)) ps
      → AllGood (λ q. is_new before (at q) ≡ true) ps
  news before [] s h = tt
  news before (p ∷ ps) s h = (new_behind before (at p) s h.0.1, news before ps s h.1)

  past_by : (b : Bool) (k : ℕ) (p : Post) (ps : List Post) → nat_le p.moment last ≡ b → Rise p.moment ps
      → AllGood (λ q. all ≤ at q) (behind last ps) → AllGood (λ q. all ≤ at q) (behind last (p ∷ ps))
  past_by true k p ps e r rest = rw e rest
  past_by false k p ps e r rest =
      rw e (let b = run.behind in let lo : g + all ≤ p.moment = grind (arith, nat_tests) in
      let is = at_past opens flags n all g u run p lo in (omega arith, every p.moment ps lo r))
    where
      every : (j : ℕ) (qs : List Post) → g + all ≤ j → Rise j qs → AllGood (λ q. all ≤ at q) qs
      every j [] lo r = tt
      every j (q ∷ qs) lo r =
          (let h : g + all ≤ q.moment = omega (arith, lo, r.0) in let is = at_past opens flags n all g u run q h in
          (omega arith, every q.moment qs h r.1))

  past : (k : ℕ) (ps : List Post) → Rise k ps → AllGood (λ q. all ≤ at q) (behind last ps)
  past k [] r = tt
  past k (p ∷ ps) r = past_by (nat_le p.moment last) k p ps refl r.1 (past p.moment ps r.1)

  unlike : (m : ℕ) (ps : List Post) → m < all → AllGood (λ q. all ≤ at q) ps → AllGood (λ q. at q ≢ m) ps
  unlike m [] lt h = tt
  unlike m (p ∷ ps) lt h = ((λ z. (let b = h.0 in omega arith)), unlike m ps lt h.1)

  module _ (looked chosen : State) (first : uninterrupted flags 1 u ≡ looked)
      (second : uninterrupted flags 2 u ≡ chosen) (f0 : u.temps ≡ Free) (f1 : looked.temps ≡ Free)
      (f2 : chosen.temps ≡ Free)
      (a0 a1 a2 q2 : List Post) (h0 : AllGood (λ p. max g p.moment ≡ g + 0) a0)
      (h1 : AllGood (λ p. max g p.moment ≡ g + 1) a1) (h2 : AllGood (λ p. max g p.moment ≡ g + 2) a2)
      (rise : Rise (g + 3) q2) where
    abbrev c2 : List Post
    c2 = up_to last q2

    abbrev taken : List (ℕ × Post)
    taken = taken_from g a0 ++ (taken_from g a1 ++ (taken_from g a2 ++ taken_from (g + 5 + n) c2))

    pub frames_seen : frames_from g (frames_after flags (λ p. p.0 - g) u None taken)
        ≡ map (λ p. (g + 0, plain_frame u.regs)) a0
        ++ (map (λ p. (g + 1, plain_frame looked.regs)) a1
        ++ (map (λ p. (g + 2, plain_frame chosen.regs)) a2 ++ frames_from g (frames_after flags at u None c2)))
    frames_seen =
        let each = waiting_taken (g + 3) q2 (omega arith) rise in
        let b1 = last_before 0 None a0 in
        let b2 = last_before 1 b1 a1 in
        let b3 = last_before 2 b2 a2 in
        let small : small_before 2 b3 =
        small_last 2 2 b2 a2 (omega arith)
        (small_last 2 1 b1 a1 (omega arith) (small_last 2 0 None a0 (omega arith) tt)) in
        frames_at flags g 0 u u a0 None (taken_from g a1 ++ (taken_from g a2 ++ taken_from (g + 5 + n) c2)) h0 refl f0
        ∙ ap (λ (l : List (ℕ × FrameSeen)). map (λ p. (g + 0, plain_frame u.regs)) a0 ++ l)
        (frames_at flags g 1 u looked a1 b1 (taken_from g a2 ++ taken_from (g + 5 + n) c2) h1 first f1
        ∙ ap (λ (l : List (ℕ × FrameSeen)). map (λ p. (g + 1, plain_frame looked.regs)) a1 ++ l)
        (frames_at flags g 2 u chosen a2 b2 (taken_from (g + 5 + n) c2) h2 second f2
        ∙ ap (λ (l : List (ℕ × FrameSeen)). map (λ p. (g + 2, plain_frame chosen.regs)) a2 ++ frames_from g l)
        (frames_behind flags g (g + 5 + n) u at c2 b3 (firsts c2 each) (news b3 c2 small each))))

    pub resumed_seen : resumed_of flags (λ p. p.0 - g) u taken all ≡ resumed_of flags at u q2 all
    resumed_seen = resumed_same flags u (λ (p : ℕ × Post). p.0 - g) at taken q2 all
        (λ m lt inside. same m lt (late m inside))
      where
        late : (m : ℕ) → is_inside flags u m ≡ true → n + 5 < m
        late m inside = elim
            (cases_lt (n + 5) m)
            [ inl past ↦ past | inr upto ↦ absurd (both_ways (is_inside flags u m) (run.outside m upto) inside) ]

        same : (m : ℕ) → m < all → n + 5 < m → has_moment (λ p. p.0 - g) m taken ≡ has_moment at m q2
        same m lt lo =
            let mi : ℕ × Post → ℕ = λ p. p.0 - g in
            let each = waiting_taken (g + 3) q2 (omega arith) rise in
            let n0 = no_moment mi m (taken_from g a0) (low_moments g 0 m a0 h0 (omega arith)) in
            let n1 = no_moment mi m (taken_from g a1) (low_moments g 1 m a1 h1 (omega arith)) in
            let n2 = no_moment mi m (taken_from g a2) (low_moments g 2 m a2 h2 (omega arith)) in
            let r = taken_from (g + 5 + n) c2 in
            let rest = no_moment at m (behind last q2) (unlike m (behind last q2) lt (past (g + 3) q2 rise)) in
            has_on mi m (taken_from g a0) (taken_from g a1 ++ (taken_from g a2 ++ r))
            ∙ ap₂ (λ (x y : Bool). x || y) n0
            (has_on mi m (taken_from g a1) (taken_from g a2 ++ r)
            ∙ ap₂ (λ (x y : Bool). x || y) n1
            (has_on mi m (taken_from g a2) r
            ∙ ap₂ (λ (x y : Bool). x || y) n2 (same_moments g (g + 5 + n) m at c2 (firsts c2 each))))
            ∙ sym (ap (has_moment at m) (sym (split last q2)) ∙ has_on at m c2 (behind last q2)
            ∙ ap (λ (x : Bool). has_moment at m c2 || x) rest ∙ or_false (has_moment at m c2))
