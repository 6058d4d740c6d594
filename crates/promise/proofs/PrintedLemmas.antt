-- The numbers that stand in a run's lines are read off them.
use Rattle.std.proofs.Common.{◌≡◌, ◌≢◌, ◌<◌, ◌≤◌, ◌+◌, ◌^◌, ◌%◌, ◌∙◌, ℕ, suc, List, [], ◌∷◌, ◌++◌, refl, sym}
use Rattle.std.proofs.Common.{ap, arith}
use Rattle.std.specs.Prelude.{All, codes, decimal}
use Rattle.std.proofs.lemmas.Fmt.{decimal_by_steps, decimal_injective}
use Rattle.std.specs.List.{concat}
use Rattle.std.proofs.lemmas.List.{append_assoc, append_cancel_left, append-nil}
use Rattle.std.proofs.lemmas.List.Folds.{concat-append}
use Rattle.command_parts.specs.Lines.{counted, error_line, error_lines, line}
use Rattle.run_reports.specs.{Reports.Report, RowLines.row_lines}
use Rattle.run_reports.specs.RowLines.{run_lines}
use Rattle.promise.specs.Laws.{PrintedNumbersAreOne}

-- ---- digits up to the end of a line

abbrev NoNewline : List ℕ → Type 0
NoNewline [] = Unit {0}
NoNewline (b ∷ bs) = (b ≢ 10) × NoNewline bs

none-append : (bs : List ℕ) (b : ℕ) → NoNewline bs → b ≢ 10 → NoNewline (bs ++ (b ∷ []))
none-append [] b h other = (other, tt)
none-append (x ∷ bs) b h other = (h.0, none-append bs b h.1 other)

digits_only : (n : ℕ) → n < 2 ^ 64 → NoNewline (decimal n)
digits_only = decimal_by_steps (λ n ds. NoNewline ds) (λ n lt. (λ e. omega (arith, e), tt))
    (λ n ds low ih. none-append ds (48 + n % 10) ih (λ e. omega (arith, e)))

record Cut (xs ys r s : List ℕ) : Type 0 where
  pub same : xs ≡ ys
  pub rest : r ≡ s

cut : (xs ys r s : List ℕ) → NoNewline xs → NoNewline ys → xs ++ 10 ∷ r ≡ ys ++ 10 ∷ s → Cut xs ys r s
cut [] [] r s h k e = record { same = refl; rest = cc }
cut [] (y ∷ ys) r s h k e = absurd (k.0 (let same : 10 ≡ y = cc in sym same))
cut (x ∷ xs) [] r s h k e = absurd (h.0 (let same : x ≡ 10 = cc in same))
cut (x ∷ xs) (y ∷ ys) r s h k e =
    let head : x ≡ y = cc in
    let more = cut xs ys r s h.1 k.1 cc in
    record { same = cc (head, more.same); rest = more.rest }

record Read (m n : ℕ) (r s : List ℕ) : Type 0 where
  pub same : m ≡ n
  pub rest : r ≡ s

read : (m n : ℕ) (r s : List ℕ) → m < 2 ^ 64 → n < 2 ^ 64 → decimal m ++ 10 ∷ r ≡ decimal n ++ 10 ∷ s → Read m n r s
read m n r s hm hn e =
    let both = cut (decimal m) (decimal n) r s (digits_only m hm) (digits_only n hn) e in
    record { same = decimal_injective m n hm hn both.same; rest = both.rest }

-- ---- the lines with which a run begins

-- a line, and what follows it
line_then : (label : List ℕ) (n : ℕ) (rest : List ℕ) → line label n ++ rest ≡ label ++ (decimal n ++ 10 ∷ rest)
line_then label n rest = simp append_assoc

error_then : (k e : ℕ) (rest : List ℕ) → error_line (codes "error ") k e ++ rest
    ≡ codes "error " ++ (decimal k ++ (codes " " ++ (decimal e ++ 10 ∷ rest)))
error_then k e rest = simp append_assoc

-- the text of the errors
abbrev errors_from : ℕ → List ℕ → List ℕ
errors_from k es = concat (counted (λ o e. error_line (codes "error ") o e ∷ []) k es)

abbrev Small : List ℕ → Type 0
Small [] = Unit {0}
Small (e ∷ es) = (e < 2 ^ 64) × Small es

record Begins (es fs : List ℕ) (b c : ℕ) : Type 0 where
  pub errors : es ≡ fs
  pub bound : b ≡ c

-- what stands before the rows
abbrev ahead : ℕ → List ℕ → ℕ → List ℕ → List ℕ
ahead k es b rest = errors_from k es ++ (line (codes "instructions ") b ++ rest)

heads_differ : (x y : ℕ) (xs ys : List ℕ) → x ∷ xs ≡ y ∷ ys → (x ≡ y → ⊥) → ⊥
heads_differ x y xs ys e apart = apart cc

begins : (k : ℕ) (es fs : List ℕ) (b c : ℕ) (r s : List ℕ) → Small es → Small fs → b < 2 ^ 64 → c < 2 ^ 64
    → ahead k es b r ≡ ahead k fs c s → Begins es fs b c
begins k [] [] b c r s he hf hb hc e =
    let both = sym (line_then (codes "instructions ") b r) ∙ (e ∙ line_then (codes "instructions ") c s) in
    let numbers = append_cancel_left (codes "instructions ") (decimal b ++ 10 ∷ r) (decimal c ++ 10 ∷ s) both in
    record { errors = refl; bound = (read b c r s hb hc numbers).same }
begins k [] (f ∷ fs) b c r s he hf hb hc e = absurd (heads_differ 105 101 _ _ e (λ is. omega (arith, is)))
begins k (x ∷ es) [] b c r s he hf hb hc e = absurd (heads_differ 101 105 _ _ e (λ is. omega (arith, is)))
begins k (x ∷ es) (f ∷ fs) b c r s he hf hb hc e =
    let left = ahead (k + 1) es b r in
    let right = ahead (k + 1) fs c s in
    let here : error_line (codes "error ") k x ++ left ≡ error_line (codes "error ") k f ++ right =
    sym (append_assoc (error_line (codes "error ") k x) (errors_from (k + 1) es) (line (codes "instructions ") b ++ r))
    ∙ (e ∙ append_assoc (error_line (codes "error ") k f) (errors_from (k + 1) fs)
    (line (codes "instructions ") c ++ s)) in
    let lines = sym (error_then k x left) ∙ (here ∙ error_then k f right) in
    let labelled = append_cancel_left (codes "error ") (decimal k ++ (codes " " ++ (decimal x ++ 10 ∷ left)))
    (decimal k ++ (codes " " ++ (decimal f ++ 10 ∷ right))) lines in
    let blank = append_cancel_left (decimal k) (codes " " ++ (decimal x ++ 10 ∷ left))
    (codes " " ++ (decimal f ++ 10 ∷ right)) labelled in
    let numbers = append_cancel_left (codes " ") (decimal x ++ 10 ∷ left) (decimal f ++ 10 ∷ right) blank in
    let first = read x f left right he.0 hf.0 numbers in
    let more = begins (k + 1) es fs b c r s he.1 hf.1 hb hc first.rest in
    record { errors = cc (first.same, more.errors); bound = more.bound }

-- ---- a report's lines

all_small : (es : List ℕ) → All (λ e. e ≤ 1000000) es → Small es
all_small [] all = tt
all_small (e ∷ es) all = (
  let one : e ≤ 1000000 = all 0 e (omega arith) in omega (arith, one),
  all_small es (λ k d lt. all (suc k) d (omega (arith, lt))),
)

-- what stands behind the bound
abbrev behind : Report → ℕ → List ℕ
behind r left = concat (counted row_lines 1 r.rows ++ line (codes "left ") left ∷ [])

rows_after : (r : Report) (left : ℕ) → concat (run_lines r left) ≡ ahead 1 r.errors r.bound (behind r left)
rows_after r left =
    let bound = line (codes "instructions ") r.bound in
    let errors = error_lines (codes "error ") r.errors in
    concat-append (errors ++ bound ∷ []) (counted row_lines 1 r.rows ++ line (codes "left ") left ∷ [])
    ∙ ap (λ t. t ++ behind r left) (concat-append errors (bound ∷ []))
    ∙ append_assoc (concat errors) (bound ++ []) (behind r left)
    ∙ ap (λ t. concat errors ++ (t ++ behind r left)) (append-nil bound)

pub printed_once : PrintedNumbersAreOne
printed_once block other r s left more p q same =
    let both = begins 1 r.errors s.errors r.bound s.bound (behind r left) (behind s more) (all_small r.errors p.errors)
    (all_small s.errors q.errors) (omega (arith, p.bound)) (omega (arith, q.bound))
    (sym (rows_after r left) ∙ (same ∙ rows_after s more)) in
    (both.errors, both.bound)
