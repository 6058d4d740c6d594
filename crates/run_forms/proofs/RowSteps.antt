-- The rows of a list of samples by the first of them.
use Rattle.std.proofs.Common.{◌≡◌, ◌≤◌, ◌+◌, ℕ, suc, true, false, List, [], ◌∷◌, length, map, drop, refl, ap, sym, ◌∙◌}
use Rattle.std.proofs.Common.{arith}
use Rattle.cpu12_parts.specs.State.{State}
use Rattle.run_law.specs.Forms.{Form, Ran, RowSeen, run_from, row_of, Rows, put_row, rows_from}
use Rattle.run_forms.specs.Rows.{of_sample, tellings, shown}
use Rattle.run_forms.specs.{Showing.RowsAreShown, Slices.Follow, Slices.requests_first}
use Rattle.run_forms.proofs.PlanSlices.{first_are, later_are}

-- the rows of samples under a plan
abbrev pub rows_under : {S A B : Type 0} → Form S A B → (A → ℕ × ℕ) → ℕ → List A → ℕ → List S → State → Rows S A B
rows_under g place most plan k samples s = rows_from g most (λ j. of_sample place j plan) k samples s

-- plans that have the same requests for the samples that are left
rows_plan : {S A B : Type 0} (g : Form S A B) (place : A → ℕ × ℕ) (most : ℕ) (p q : List A) (k : ℕ) (samples : List S)
    (s : State) → ((j : ℕ) → k ≤ j → of_sample place j p ≡ of_sample place j q)
    → rows_under g place most p k samples s ≡ rows_under g place most q k samples s
unfolding rows_from
rows_plan g place most p q k [] s h = refl
rows_plan {S = S} {A = A} {B = B} g place most p q k (x ∷ rest) s h =
    let r : Ran A B = run_from g most 0 false (of_sample place k q) (g.give x s) in
    ap (λ (qs : List A). with_requests qs) (h k (omega arith))
    ∙ ap (λ (rs : Rows S A B). put_row (row_of g x r) r rs)
    (rows_plan g place most p q (suc k) rest (g.leave x r.state) (λ j l. h j (omega arith)))
  where
    with_requests : List A → Rows S A B
    with_requests qs =
        let r = run_from g most 0 false qs (g.give x s) in
        put_row (row_of g x r) r (rows_under g place most p (suc k) rest (g.leave x r.state))

pub no_row : {S A B : Type 0} (g : Form S A B) (place : A → ℕ × ℕ) (most : ℕ) (plan : List A) (k : ℕ) (s : State)
    → rows_under g place most plan k [] s ≡ record { rows = []; states = []; told = []; arrived = true; state = s }
unfolding rows_from
no_row g place most plan k s = refl

-- the first row, and those of the plan that is left
pub one_row : {S A B : Type 0} (g : Form S A B) (place : A → ℕ × ℕ) (most : ℕ) (plan : List A) (k : ℕ) (x : S)
    (rest : List S) (s : State) (r : Ran A B) → Follow place k plan
    → r ≡ run_from g most 0 false (requests_first place k plan) (g.give x s)
    → rows_under g place most plan k (x ∷ rest) s ≡ put_row (row_of g x r) r
    (rows_under g place most (drop (length (requests_first place k plan)) plan) (k + 1) rest (g.leave x r.state))
unfolding rows_from
one_row {S = S} {A = A} {B = B} g place most plan k x rest s r h e =
    let n : suc k ≡ k + 1 = omega arith in
    ap (λ (qs : List A). with_ran (run_from g most 0 false qs (g.give x s))) (first_are place k plan h)
    ∙ ap (λ (t : Ran A B). with_ran t) (sym e)
    ∙ ap (λ (rs : Rows S A B). put_row (row_of g x r) r rs)
    (ap (λ (j : ℕ). rows_under g place most plan j rest (g.leave x r.state)) n
    ∙ rows_plan g place most plan (drop (length (requests_first place k plan)) plan) (k + 1) rest (g.leave x r.state)
    (λ j l. later_are place k j plan (omega arith)))
  where
    with_ran : Ran A B → Rows S A B
    with_ran t = put_row (row_of g x t) t (rows_under g place most plan (suc k) rest (g.leave x t.state))

-- each row shown alone, and what was told alone
shown_rows_are : {S A B : Type 0} (g : Form S A B) (most : ℕ) (asks : ℕ → List A) (k : ℕ) (samples : List S) (s : State)
    → shown (λ (row : RowSeen S) (told : List B). row) (rows_from g most asks k samples s)
    ≡ (rows_from g most asks k samples s).rows
unfolding rows_from
shown_rows_are g most asks k [] s = refl
shown_rows_are {S = S} {A = A} {B = B} g most asks k (x ∷ rest) s =
    let r : Ran A B = run_from g most 0 false (asks k) (g.give x s) in
    ap (λ (rows : List (RowSeen S)). row_of g x r ∷ rows) (shown_rows_are g most asks (suc k) rest (g.leave x r.state))

shown_told_are : {S A B : Type 0} (g : Form S A B) (most : ℕ) (asks : ℕ → List A) (k : ℕ) (samples : List S) (s : State)
    → shown (λ (row : RowSeen S) (told : List B). told) (rows_from g most asks k samples s) ≡ map tellings
    (rows_from g most asks k samples s).told
unfolding rows_from
shown_told_are g most asks k [] s = refl
shown_told_are {A = A} {B = B} g most asks k (x ∷ rest) s =
    let r : Ran A B = run_from g most 0 false (asks k) (g.give x s) in
    ap (λ (told : List (List B)). tellings r.told ∷ told) (shown_told_are g most asks (suc k) rest (g.leave x r.state))

pub rows_are_shown : {S A B : Type 0} → RowsAreShown S A B
rows_are_shown g most asks k samples s =
    record { rows = shown_rows_are g most asks k samples s; told = shown_told_are g most asks k samples s }
