-- The first singleton at which a test holds, in one order or in the other, and the masses that it chooses.
use Rattle.std.proofs.Common.{◌≡◌, ◌⊎◌, inl, inr, ⊎_elim, ℕ, zero, suc, ◌<◌, length, take, get_or, List, [], ◌∷◌}
use Rattle.std.proofs.Common.{Bool, true, false}
use Rattle.std.proofs.Common.{refl, sym, ap, ap₂, ◌∙◌, arith}
use Rattle.std.specs.Prelude.{if◌then◌else◌}
use Rattle.std.proofs.lemmas.Bool.{cases_Bool, both_ways}
use Rattle.cell_error.specs.{declared.ranges.MassRange.MassRange, Cuts.chosen}

-- P of each singleton
abbrev pub Each : (ℕ → Type 0) → List MassRange → Type 0
Each P [] = Unit {0}
Each P (t ∷ ts) = P t.at × Each P ts

pub each_more : (P Q : ℕ → Type 0) → ((u : ℕ) → P u → Q u) → (ts : List MassRange) → Each P ts → Each Q ts
each_more P Q f [] h = tt
each_more P Q f (t ∷ ts) h = (f t.at h.0, each_more P Q f ts h.1)

-- of one more
pub each_next : (P : ℕ → Type 0) (ts : List MassRange) (i : ℕ) (d : MassRange) → i < length ts → Each P (take i ts)
    → P (get_or ts i d).at → Each P (take (suc i) ts)
each_next P [] i d l h p = absurd (omega arith)
each_next P (t ∷ ts) zero d l h p = (p, tt)
each_next P (t ∷ ts) (suc i) d l h p = (h.0, each_next P ts i d (omega arith) h.1 p)

-- two tests that agree choose the same masses
pub chosen_same : (p q : ℕ → Bool) (ts : List MassRange) → Each (λ u. p u ≡ q u) ts → chosen p ts ≡ chosen q ts
chosen_same p q [] h = refl
chosen_same p q (t ∷ ts) h =
    ap₂ (λ m ms. m ∷ ms) (ap (λ v. if v then t.high else t.low) h.0) (chosen_same p q ts h.1)

-- a place c where P and p hold, such that p holds at none before it
pub record First (R : ℕ → ℕ → Type 0) (P : ℕ → Type 0) (p : ℕ → Bool) (ts : List MassRange) : Type 0 where
  pub at : ℕ
  pub good : P at
  pub holds : p at ≡ true
  pub none_before : Each (λ u. p u ≡ true → R at u) ts

module _ (R : ℕ → ℕ → Type 0) (itself : (a : ℕ) → R a a) (along : (a b c : ℕ) → R a b → R b c → R a c)
    (either : (a b : ℕ) → R a b ⊎ R b a) (P : ℕ → Type 0) (p : ℕ → Bool) where
  pub first : (ts : List MassRange) → Each P ts → Each (λ u. p u ≡ false) ts ⊎ First R P p ts
  first [] h = inl tt
  first (t ∷ ts) h = ⊎_elim
      (λ (none : Each (λ u. p u ≡ false) ts). ⊎_elim
      (λ (e : p t.at ≡ true). inr (record {
        at = t.at;
        good = h.0;
        holds = e;
        none_before = (
          λ _. itself t.at,
          each_more (λ u. p u ≡ false) (λ u. p u ≡ true → R t.at u) (λ u f g. absurd (both_ways (p u) f g)) ts none,
        );
      }))
      (λ (e : p t.at ≡ false). inl (e, none))
      (cases_Bool (p t.at)))
      (λ (f : First R P p ts). inr (⊎_elim
      (λ (l : R t.at f.at). ⊎_elim
      (λ (e : p t.at ≡ true). let r : First R P p (t ∷ ts) = record {
        at = t.at;
        good = h.0;
        holds = e;
        none_before = (
          λ _. itself t.at,
          each_more (λ u. p u ≡ true → R f.at u) (λ u. p u ≡ true → R t.at u) (λ u k g. along t.at f.at u l (k g)) ts
              f.none_before,
        );
      } in r)
      (λ (e : p t.at ≡ false). let r : First R P p (t ∷ ts) = record {
        at = f.at;
        good = f.good;
        holds = f.holds;
        none_before = (λ g. absurd (both_ways (p t.at) e g), f.none_before);
      } in r)
      (cases_Bool (p t.at)))
      (λ (l : R f.at t.at). let r : First R P p (t ∷ ts) = record {
        at = f.at;
        good = f.good;
        holds = f.holds;
        none_before = (λ _. l, f.none_before);
      } in r)
      (either t.at f.at)))
      (first ts h.1)

  -- a test that goes on along R agrees with one for what is not before its first place
  pub agree : (q : ℕ → Bool) (c : ℕ) → ((u : ℕ) → R c u → (p u ≡ true) × (q u ≡ true)) → ((u : ℕ) → q u ≡ true → R c u)
      → (ts : List MassRange) → Each (λ u. p u ≡ true → R c u) ts → Each (λ u. p u ≡ q u) ts
  agree q c on back ts h = each_more (λ u. p u ≡ true → R c u) (λ u. p u ≡ q u) one ts h
    where
      one : (u : ℕ) → (p u ≡ true → R c u) → p u ≡ q u
      one u k = ⊎_elim (λ (e : p u ≡ true). e ∙ sym (on u (k e)).1)
          (λ (e : p u ≡ false). ⊎_elim (λ (g : q u ≡ true). absurd (both_ways (p u) e (on u (back u g)).0))
          (λ (g : q u ≡ false). e ∙ sym g) (cases_Bool (q u))) (cases_Bool (p u))
