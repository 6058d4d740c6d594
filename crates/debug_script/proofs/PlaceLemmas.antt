-- A place by the next position.
use Rattle.std.proofs.Common.{◌≡◌, ℕ, suc, ◌+◌, ◌-◌, Bool, true, false, min, List, ◌∷◌, drop, length, refl, ap, ◌∙◌}
use Rattle.std.proofs.Common.{arith}
use Rattle.std.specs.List.{position_or_len}
use Rattle.debug_script.specs.Places.{distance, on, stops_behind}

module _ {X : Type 0} where
  pub on_nothing : (ps : List X) → on 0 ps ≡ ps
  on_nothing ps = let none : min 0 (length ps - 1) ≡ 0 = omega arith in ap (λ (n : ℕ). drop n ps) none

  pub on_more : (n : ℕ) (p q : X) (ps : List X) → on (n + 1) (p ∷ q ∷ ps) ≡ on n (q ∷ ps)
  on_more n p q ps =
      let more : min (n + 1) (length (p ∷ q ∷ ps) - 1) ≡ suc (min n (length (q ∷ ps) - 1)) = omega arith in
      ap (λ (k : ℕ). drop k (p ∷ q ∷ ps)) more

  module _ (stops : X → X → Bool) where
    pub go_stops : (p q : X) (ps : List X) → stops p q ≡ true
        → on (distance stops (p ∷ q ∷ ps)) (p ∷ q ∷ ps) ≡ q ∷ ps
    go_stops p q ps is =
        let one : distance stops (p ∷ q ∷ ps) ≡ 0 + 1 = rw is refl in
        ap (λ (n : ℕ). on n (p ∷ q ∷ ps)) one ∙ on_more 0 p q ps ∙ on_nothing (q ∷ ps)

    pub go_more : (p q : X) (ps : List X) → stops p q ≡ false
        → on (distance stops (p ∷ q ∷ ps)) (p ∷ q ∷ ps) ≡ on (distance stops (q ∷ ps)) (q ∷ ps)
    go_more p q ps is =
        let behind = stops_behind stops q ps in
        let far : position_or_len (λ stop. stop) (stops p q ∷ behind) ≡ 1 + position_or_len (λ stop. stop) behind =
        rw is refl in
        let more : distance stops (p ∷ q ∷ ps) ≡ distance stops (q ∷ ps) + 1 = omega (arith, far) in
        ap (λ (n : ℕ). on n (p ∷ q ∷ ps)) more ∙ on_more (distance stops (q ∷ ps)) p q ps
