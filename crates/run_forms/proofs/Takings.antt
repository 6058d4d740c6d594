-- Requests that are taken one after the other.
use Rattle.std.proofs.Common.{◌≡◌, ℕ, zero, suc, ◌+◌, ◌-◌, ◌<◌, ◌≤◌, Bool, true, false, ◌&&◌, nat_le, nat_lt, List}
use Rattle.std.proofs.Common.{[], ◌∷◌, ◌++◌, length, get_or}
use Rattle.std.proofs.Common.{drop, refl, ap, ap₂, sym, ◌∙◌, subst, arith, append_assoc, append-nil, drop-cons}
use Rattle.std.proofs.Common.{length-append, length-drop}
use Rattle.std.proofs.lemmas.Bool.Decides.{nat_tests}
use Rattle.cpu12_parts.specs.{State.State, Parts.suspended, Parts.wav}
use Rattle.cpu12_emul.specs.Take.{FrameSeen, frame_of, may_interrupt}
use Rattle.run_law.specs.Forms.{Form, Taking, takes, taken}
use Rattle.run_forms.specs.{Rows.tellings, Rest.is_due, Rest.TakingSummary, Rest.with_before}

-- a request that is due is taken
pub takes_due : {S A B : Type 0} (g : Form S A B) (m : ℕ) (q : A) (qs : List A) (s : State) (fs : List (ℕ × FrameSeen))
    (ts : List B)
    → is_due g.moment m (q ∷ qs) s ≡ true
    → with_before fs ts (takes g m (q ∷ qs) s)
    ≡ with_before (fs ++ (m, frame_of s) ∷ []) (ts ++ g.tells q (suspended wav s) ∷ []) (takes g m qs (taken g q s))
unfolding takes
takes_due {A = A} {B = B} g m q qs s fs ts h =
    let t : Taking A B = takes g m qs (taken g q s) in
    let one : B = g.tells q (suspended wav s) in
    let e : fs ++ ((m, frame_of s) ∷ t.frames) ≡ (fs ++ (m, frame_of s) ∷ []) ++ t.frames =
    sym (append_assoc fs ((m, frame_of s) ∷ []) t.frames) in
    let f : ts ++ (one ∷ tellings t.told) ≡ (ts ++ one ∷ []) ++ tellings t.told =
    sym (append_assoc ts (one ∷ []) (tellings t.told)) in
    rw h (ap₂ (λ (l : List (ℕ × FrameSeen)) (us : List B). by t l us) e f)
  where
    by : Taking A B → List (ℕ × FrameSeen) → List B → TakingSummary A B
    by t l us = record { state = t.state; frames = l; told = us; left = t.left }

-- where none is due, none is taken
pub takes_none : {S A B : Type 0} (g : Form S A B) (m : ℕ) (qs : List A) (s : State) → is_due g.moment m qs s ≡ false
    → takes g m qs s ≡ record { state = s; frames = []; told = []; left = qs }
unfolding takes
takes_none g m [] s h = refl
takes_none g m (q ∷ qs) s h = rw h refl

pub takes_end : {S A B : Type 0} (g : Form S A B) (m : ℕ) (qs : List A) (s : State) (fs : List (ℕ × FrameSeen))
    (ts : List B) → is_due g.moment m qs s ≡ false
    → with_before fs ts (takes g m qs s) ≡ record { state = s; frames = fs; told = ts; left = qs }
takes_end {A = A} {B = B} g m qs s fs ts h =
    ap (with_before fs ts) (takes_none g m qs s h)
    ∙ ap₂ (λ (l : List (ℕ × FrameSeen)) (us : List B). by l us) (append-nil fs) (append-nil ts)
  where
    by : List (ℕ × FrameSeen) → List B → TakingSummary A B
    by l us = record { state = s; frames = l; told = us; left = qs }

request_here : {A : Type 0} (qs : List A) (i : ℕ) (d : A) → i < length qs → drop i qs ≡ get_or qs i d ∷ drop (i + 1) qs
request_here {A = A} qs i d h =
    drop-cons qs i d h ∙ ap (λ (k : ℕ). get_or qs i d ∷ drop k qs) (let e : suc i ≡ i + 1 = omega arith in e)

one_taken : {S A B : Type 0} (g : Form S A B) (m : ℕ) (qs : List A) (i : ℕ) (d : A) (s t : State)
    (fs fs2 : List (ℕ × FrameSeen)) (us us2 : List B) → i < length qs
    → is_due g.moment m (drop i qs) s ≡ true → t ≡ taken g (get_or qs i d) s → fs2 ≡ fs ++ (m, frame_of s) ∷ []
    → us2 ≡ us ++ g.tells (get_or qs i d) (suspended wav s) ∷ []
    → with_before fs us (takes g m (drop i qs) s) ≡ with_before fs2 us2 (takes g m (drop (i + 1) qs) t)
one_taken {A = A} {B = B} g m qs i d s t fs fs2 us us2 lt due et efs eus =
    let here = request_here qs i d lt in
    let due2 : is_due g.moment m (get_or qs i d ∷ drop (i + 1) qs) s ≡ true =
    subst (λ (l : List A). is_due g.moment m l s ≡ true) here due in
    ap (λ (l : List A). with_before fs us (takes g m l s)) here
    ∙ takes_due g m (get_or qs i d) (drop (i + 1) qs) s fs us due2
    ∙ ap₂ (λ (l : List (ℕ × FrameSeen)) (bs : List B). with_before l bs (takes g m (drop (i + 1) qs)
    (taken g (get_or qs i d) s))) (sym efs) (sym eus)
    ∙ ap (λ (v : State). with_before fs2 us2 (takes g m (drop (i + 1) qs) v)) (sym et)

pub due_within : {A : Type 0} (moment : A → ℕ) (m : ℕ) (qs : List A) (i : ℕ) (s : State)
    → is_due moment m (drop i qs) s ≡ true → i < length qs
due_within moment m [] zero s h = absurd (let e : false ≡ true = h in cc)
due_within moment m [] (suc i) s h = absurd (let e : false ≡ true = h in cc)
due_within moment m (q ∷ qs) zero s h = omega arith
due_within moment m (q ∷ qs) (suc i) s h = let r = due_within moment m qs i s h in omega arith

-- the next request, at which a call found what is due
pub next_taken : {S A B : Type 0} (g : Form S A B) (m : ℕ) (qs : List A) (i : ℕ) (q d : A) (s t : State)
    (fs fs2 : List (ℕ × FrameSeen)) (us us2 : List B)
    → is_due g.moment m (drop i qs) s ≡ true → q ≡ get_or qs i d → t ≡ g.handle q (suspended wav s)
    → fs2 ≡ fs ++ (m, frame_of s) ∷ [] → us2 ≡ us ++ g.tells q (suspended wav s) ∷ []
    → with_before fs us (takes g m (drop i qs) s) ≡ with_before fs2 us2 (takes g m (drop (i + 1) qs) t)
next_taken {A = A} {B = B} g m qs i q d s t fs fs2 us us2 due at et efs eus =
    one_taken g m qs i d s t fs fs2 us us2 (due_within g.moment m qs i s due) due
    (et ∙ ap (λ (q : A). g.handle q (suspended wav s)) at) efs
    (eus ∙ ap (λ (q : A). us ++ g.tells q (suspended wav s) ∷ []) at)

-- each request that is taken has a frame
counted_by : {S A B : Type 0} (b : Bool) (g : Form S A B) (m : ℕ) (q : A) (qs : List A) (s : State)
    → (may_interrupt s && nat_le (g.moment q) m) ≡ b
    → length (takes g m qs (taken g q s)).frames + length (takes g m qs (taken g q s)).left ≡ length qs
    → length (takes g m (q ∷ qs) s).frames + length (takes g m (q ∷ qs) s).left ≡ suc (length qs)
unfolding takes
counted_by true g m q qs s e h = rw e (omega (arith, h))
counted_by false g m q qs s e h = rw e (omega arith)

takes_counted : {S A B : Type 0} (g : Form S A B) (m : ℕ) (qs : List A) (s : State)
    → length (takes g m qs s).frames + length (takes g m qs s).left ≡ length qs
unfolding takes
takes_counted g m [] s = omega arith
takes_counted g m (q ∷ qs) s =
    counted_by (may_interrupt s && nat_le (g.moment q) m) g m q qs s refl (takes_counted g m qs (taken g q s))

-- so whether any was is seen of the next
pub next_tells : {S A B : Type 0} (g : Form S A B) (m : ℕ) (qs : List A) (i j : ℕ) (s t : State)
    (fs fs2 : List (ℕ × FrameSeen)) (us us2 : List B)
    → with_before fs us (takes g m (drop i qs) s)
    ≡ record { state = t; frames = fs2; told = us2; left = drop j qs }
    → (i ≤ j) × (j ≤ length qs) → nat_lt i j ≡ nat_lt (length fs) (length fs2)
next_tells {A = A} {B = B} g m qs i j s t fs fs2 us us2 te next =
    let b : Taking A B = takes g m (drop i qs) s in
    let frames = ap (λ (k : TakingSummary A B). length k.frames) te in
    let left = ap (λ (k : TakingSummary A B). length k.left) te in
    let both = length-append fs b.frames in
    let all = takes_counted g m (drop i qs) s in
    let x = length-drop i qs in
    let y = length-drop j qs in
    let more = next.0 in
    let within = next.1 in
    let n : length fs2 ≡ length fs + (j - i) = omega (arith, frames, left, both, all, x, y, more, within) in
    grind (arith, nat_tests, n, more)
