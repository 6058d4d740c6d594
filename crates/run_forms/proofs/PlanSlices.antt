-- The requests of a plan whose samples do not fall, sample by sample.
use Rattle.std.proofs.Common.{◌≡◌, ◌≤◌, ◌<◌, ◌+◌, ◌-◌, ℕ, zero, suc, Bool, true, false, List, [], ◌∷◌, ◌++◌, length}
use Rattle.std.proofs.Common.{length-drop, take, drop, drop-drop, refl, ap, sym, ◌∙◌, subst, arith}
use Rattle.std.specs.Prelude.{if◌then◌else◌}
use Rattle.std.proofs.Math.Seq.{take-length}
use Rattle.std.proofs.lemmas.List.Sums.{take_while-cons}
use Rattle.run_forms.specs.{Forms.SeenNotes, Forms.sample_in, Rows.is_of, Rows.of_sample}
use Rattle.run_forms.specs.Slices.{Follow, requests_first, requests_after, HasRoom, HaveRoom}
use Rattle.run_forms.proofs.Algebra.{is_other, one_is, other_is, of_here, of_not}

follow_before : {A : Type 0} (place : A → ℕ × ℕ) (j k : ℕ) (plan : List A) → Follow place k plan → j ≤ k
    → Follow place j plan
follow_before place j k [] h l = tt
follow_before place j k (r ∷ rs) h l = (let h0 = h.0 in omega (arith, h0), h.1)

first_here : {A : Type 0} (place : A → ℕ × ℕ) (k : ℕ) (r : A) (rs : List A) → is_of place k r ≡ true
    → requests_first place k (r ∷ rs) ≡ r ∷ requests_first place k rs
first_here place k r rs e = take_while-cons (is_of place k) r rs
    ∙ ap (λ (b : Bool). if b then r ∷ requests_first place k rs else []) e

first_not : {A : Type 0} (place : A → ℕ × ℕ) (k : ℕ) (r : A) (rs : List A) → is_of place k r ≡ false
    → requests_first place k (r ∷ rs) ≡ []
first_not place k r rs e = take_while-cons (is_of place k) r rs
    ∙ ap (λ (b : Bool). if b then r ∷ requests_first place k rs else []) e

-- no request of an earlier sample
none_before : {A : Type 0} (place : A → ℕ × ℕ) (j k : ℕ) (plan : List A) → Follow place k plan → j < k
    → of_sample place j plan ≡ []
none_before place j k [] h l = refl
none_before place j k (r ∷ rs) h l =
    of_not place j r rs (is_other place j r (let h0 = h.0 in λ e. omega (arith, h0)))
    ∙ none_before place j (sample_in place r) rs h.1 (let h0 = h.0 in omega (arith, h0))

-- the requests of the first sample stand first
pub first_are : {A : Type 0} (place : A → ℕ × ℕ) (k : ℕ) (plan : List A) → Follow place k plan
    → of_sample place k plan ≡ requests_first place k plan
first_are place k [] h = refl
first_are {A = A} place k (r ∷ rs) h = by (first_are place k rs) (is_of place k r) refl
  where
    by : (Follow place k rs → of_sample place k rs ≡ requests_first place k rs) → (b : Bool) → is_of place k r ≡ b
        → of_sample place k (r ∷ rs) ≡ requests_first place k (r ∷ rs)
    by more true e = of_here place k r rs e
        ∙ ap (λ (l : List A). r ∷ l)
        (more (let o = one_is place k r e in follow_before place k (sample_in place r) rs h.1 (omega arith)))
        ∙ sym (first_here place k r rs e)
    by more false e = of_not place k r rs e
        ∙ none_before place k (sample_in place r) rs h.1
        (let h0 = h.0 in let o = other_is place k r e in omega (arith, h0)) ∙ sym (first_not place k r rs e)

-- without them the requests of a later sample stay
pub later_are : {A : Type 0} (place : A → ℕ × ℕ) (k j : ℕ) (plan : List A) → k < j
    → of_sample place j plan ≡ of_sample place j (drop (length (requests_first place k plan)) plan)
later_are place k j [] l = refl
later_are {A = A} place k j (r ∷ rs) l = by (later_are place k j rs l) (is_of place k r) refl
  where
    by : of_sample place j rs ≡ of_sample place j (drop (length (requests_first place k rs)) rs) → (b : Bool)
        → is_of place k r ≡ b
        → of_sample place j (r ∷ rs) ≡ of_sample place j (drop (length (requests_first place k (r ∷ rs))) (r ∷ rs))
    by more true e =
        of_not place j r rs (is_other place j r (let o = one_is place k r e in λ f. omega arith))
        ∙ more
        ∙ ap (λ (fs : List A). of_sample place j (drop (length fs) (r ∷ rs))) (sym (first_here place k r rs e))
    by more false e = ap (λ (fs : List A). of_sample place j (drop (length fs) (r ∷ rs)))
        (sym (first_not place k r rs e))

-- without them the samples go on from the next
pub later_follow : {A : Type 0} (place : A → ℕ × ℕ) (k : ℕ) (plan : List A) → Follow place k plan
    → Follow place (k + 1) (drop (length (requests_first place k plan)) plan)
later_follow place k [] h = tt
later_follow {A = A} place k (r ∷ rs) h = by (later_follow place k rs) (is_of place k r) refl
  where
    by : (Follow place k rs → Follow place (k + 1) (drop (length (requests_first place k rs)) rs)) → (b : Bool)
        → is_of place k r ≡ b → Follow place (k + 1) (drop (length (requests_first place k (r ∷ rs))) (r ∷ rs))
    by more true e = subst (λ (fs : List A). Follow place (k + 1) (drop (length fs) (r ∷ rs)))
        (sym (first_here place k r rs e))
        (more (let o = one_is place k r e in follow_before place k (sample_in place r) rs h.1 (omega arith)))
    by more false e = subst (λ (fs : List A). Follow place (k + 1) (drop (length fs) (r ∷ rs)))
        (sym (first_not place k r rs e)) (let h0 = h.0 in let o = other_is place k r e in omega (arith, h0), h.1)

-- they are as many as are left at the most, and the first ones
pub first_few : {A : Type 0} (place : A → ℕ × ℕ) (k : ℕ) (plan : List A)
    → length (requests_first place k plan) ≤ length plan
first_few place k [] = omega arith
first_few {A = A} place k (r ∷ rs) = by (first_few place k rs) (is_of place k r) refl
  where
    by : length (requests_first place k rs) ≤ length rs → (b : Bool) → is_of place k r ≡ b
        → length (requests_first place k (r ∷ rs)) ≤ length (r ∷ rs)
    by more true e = subst (λ (fs : List A). length fs ≤ length (r ∷ rs)) (sym (first_here place k r rs e))
        (omega arith)
    by more false e = subst (λ (fs : List A). length fs ≤ length (r ∷ rs)) (sym (first_not place k r rs e))
        (omega arith)

pub take_first : {A : Type 0} (place : A → ℕ × ℕ) (k : ℕ) (plan : List A)
    → take (length (requests_first place k plan)) plan ≡ requests_first place k plan
take_first place k [] = refl
take_first {A = A} place k (r ∷ rs) = by (take_first place k rs) (is_of place k r) refl
  where
    by : take (length (requests_first place k rs)) rs ≡ requests_first place k rs → (b : Bool) → is_of place k r ≡ b
        → take (length (requests_first place k (r ∷ rs))) (r ∷ rs) ≡ requests_first place k (r ∷ rs)
    by more true e = ap (λ (fs : List A). take (length fs) (r ∷ rs)) (first_here place k r rs e)
        ∙ ap (λ (l : List A). r ∷ l) more ∙ sym (first_here place k r rs e)
    by more false e = ap (λ (fs : List A). take (length fs) (r ∷ rs)) (first_not place k r rs e)
        ∙ sym (first_not place k r rs e)

-- one sample more
pub after_more : {A : Type 0} (place : A → ℕ × ℕ) (k n : ℕ) (plan : List A)
    → requests_after place k (n + 1) plan ≡ drop (length (requests_first place (k + n) (requests_after place k n plan)))
    (requests_after place k n plan)
after_more place k zero plan = let e : k + 0 ≡ k = omega arith in rw e refl
after_more place k (suc n) plan =
    let e : suc n + 1 ≡ suc (n + 1) = omega arith in
    let f : k + suc n ≡ suc k + n = omega arith in
    rw (e, f) (after_more place (suc k) n (drop (length (requests_first place k plan)) plan))

pub room_more : {A U B : Type 0} (fits : U → ℕ → Type 0) (seen : SeenNotes U B) (place : A → ℕ × ℕ) (k n : ℕ)
    (plan : List A) (rooms : List U) (room : U)
    → HaveRoom fits seen place k n plan rooms
    → HasRoom fits seen (requests_first place (k + n) (requests_after place k n plan)) room
    → HaveRoom fits seen place k (n + 1) plan (rooms ++ room ∷ [])
room_more {U = U} fits seen place k zero plan rooms room h r =
    let e : k + 0 ≡ k = omega arith in
    let here : HasRoom fits seen (requests_first place k plan) room =
    subst (λ (j : ℕ). HasRoom fits seen (requests_first place j plan) room) e r in
    subst (λ (l : List U). HaveRoom fits seen place k 1 plan (l ++ room ∷ [])) (sym h) (here, refl)
room_more fits seen place k (suc n) plan [] room h r = absurd h
room_more fits seen place k (suc n) plan (first ∷ rooms) room h r =
    let e : suc (n + 1) ≡ suc n + 1 = omega arith in
    let f : k + suc n ≡ suc k + n = omega arith in
    let there : HasRoom fits seen (requests_first place (suc k + n) (requests_after place k (suc n) plan)) room =
    subst (λ (j : ℕ). HasRoom fits seen (requests_first place j (requests_after place k (suc n) plan)) room) f r in
    subst (λ (j : ℕ). HaveRoom fits seen place k j plan (first ∷ (rooms ++ room ∷ []))) e
    (h.0, room_more fits seen place (suc k) n (drop (length (requests_first place k plan)) plan) rooms room h.1 there)

-- the first room, and those that are left
pub room_first : {A U B : Type 0} (fits : U → ℕ → Type 0) (seen : SeenNotes U B) (place : A → ℕ × ℕ) (k n : ℕ)
    (plan : List A) (room : U) (rooms : List U)
    → 0 < n → HaveRoom fits seen place k n plan (room ∷ rooms)
    → HasRoom fits seen (requests_first place k plan) room
    × HaveRoom fits seen place (k + 1) (n - 1) (drop (length (requests_first place k plan)) plan) rooms
room_first fits seen place k zero plan room rooms l h = absurd (omega arith)
room_first fits seen place k (suc n) plan room rooms l h =
    let e : suc n - 1 ≡ n = omega arith in
    let f : suc k ≡ k + 1 = omega arith in (
      h.0,
      subst (λ (j : ℕ). HaveRoom fits seen place (k + 1) j
          (drop (length (requests_first place k plan)) plan) rooms) (sym e)
          (subst (λ (j : ℕ). HaveRoom fits seen place j n
          (drop (length (requests_first place k plan)) plan) rooms) f h.1),
    )

pub slice_first : {A : Type 0} (place : A → ℕ × ℕ) (k first count : ℕ) (rest : List A)
    → count ≡ length (requests_first place k rest) → take (first + count - first) rest ≡ requests_first place k rest
slice_first place k first count rest e = let n : first + count - first ≡ count = omega arith in
    ap (λ (j : ℕ). take j rest) (n ∙ e) ∙ take_first place k rest

pub rest_further : {A : Type 0} (place : A → ℕ × ℕ) (k first count : ℕ) (plan : List A)
    → count ≡ length (requests_first place k (drop first plan))
    → drop (first + count) plan ≡ drop (length (requests_first place k (drop first plan))) (drop first plan)
rest_further place k first count plan e = sym (drop-drop count first plan) ∙ ap (λ (n : ℕ). drop n (drop first plan)) e

-- the requests from one on
pub count_there : {A : Type 0} (place : A → ℕ × ℕ) (k first count : ℕ) (plan : List A)
    → count ≡ length (requests_first place k (take (length plan - first) (drop first plan)))
    → count ≡ length (requests_first place k (drop first plan))
count_there {A = A} place k first count plan e =
    e ∙ ap (λ (l : List A). length (requests_first place k l))
    (ap (λ (n : ℕ). take n (drop first plan)) (sym (length-drop first plan)) ∙ take-length (drop first plan))

-- requests of a plan are no more than those of all of it
few_taken : {A : Type 0} (j : ℕ) (l : List A) → length (take j l) ≤ length l
few_taken zero l = omega arith
few_taken (suc j) [] = omega arith
few_taken (suc j) (x ∷ l) = let r = few_taken j l in omega (arith, r)

pub few_there : {A : Type 0} (plan : List A) (i j : ℕ) → length plan ≤ 10000 → length (take j (drop i plan)) ≤ 10000
few_there plan i j few =
    let taken = few_taken j (drop i plan) in
    let left = length-drop i plan in
    omega (arith, taken, left, few)
