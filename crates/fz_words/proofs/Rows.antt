-- How a command gets its subcommands, one by one, and how the table is looked up.
use Rattle.std.proofs.Common.{◌≡◌, ◌≢◌, ◌<◌, ◌≤◌, ◌+◌, ℕ, List, [], ◌∷◌, ◌++◌, length, take}
use Rattle.std.proofs.Common.{true, get_or, refl, sym, ◌∙◌, ap, add-one, arith}
use Rattle.std.specs.Prelude.{codes, map, suc, zero}
use Rattle.std.specs.Borrow.{Bor}
use Rattle.std.proofs.Math.Seq.{take-suc}
use Rattle.std.proofs.lemmas.List.{map-append, take_all}
use Rattle.clap.specs.{Words.App, Words.Shape, Words.Text, Words.with_subcommand, Simple.new_shape}
use Rattle.fz_words.specs.Table.{Row, row, rows_of}
use Rattle.fz_words.specs.App.{app_with, leaf_app, open_top, rules_for, sub_of, words_rule}

pub rules_for-some : (n : ℕ) → n ≢ 0 → rules_for n ≡ words_rule n ∷ []
rules_for-some zero some = absurd (some refl)
rules_for-some (suc n) some = refl

-- a row as the code keeps it
abbrev pub Stored : Type 0 → Type 0
Stored T = Bor Text × ℕ × T

-- the command with these subcommands; without one it is a leaf
abbrev app_over : List Shape → App
app_over [] = record {
  top =
      record (new_shape (codes "fuzz12"))
      { disable_help_flag = true; disable_help_subcommand = true; subcommand_required = true };
  subs = [];
}
app_over (s ∷ subs) = record { top = open_top; subs = s ∷ subs }

abbrev pub app_so_far : {T : Type 0} → List (Stored T) → App
app_so_far xs = app_over (map sub_of (rows_of xs))

over_more : (subs : List Shape) (s : Shape) → with_subcommand (app_over subs) s ≡ app_over (subs ++ s ∷ [])
over_more [] s = refl
over_more (t ∷ subs) s = refl

pub one_row : {T : Type 0} (old new sub : App) (xs : List (Stored T)) (i : ℕ) (d : Stored T) → i < length xs
    → old ≡ app_so_far (take i xs) → new ≡ with_subcommand old sub.top
    → sub ≡ leaf_app (get_or xs i d).0.now (get_or xs i d).1 → new ≡ app_so_far (take (i + 1) xs)
one_row old new sub xs i d lt so_far step is =
    let r = get_or xs i d in
    let more : take (i + 1) xs ≡ take i xs ++ r ∷ [] = rw add-one (take-suc xs i d lt) in
    let subs : map sub_of (rows_of (take (i + 1) xs))
    ≡ map sub_of (rows_of (take i xs)) ++ sub_of (row r.0.now r.1 r.2) ∷ [] =
    ap (λ (l : List (Stored _)). map sub_of (rows_of l)) more ∙ rw (map-append, map-append) refl in
    step ∙ (λ k. with_subcommand (so_far k) (is k).top) ∙ over_more (map sub_of (rows_of (take i xs))) _
    ∙ ap app_over (sym subs)

pub whole_app : {T : Type 0} (i : ℕ) (xs : List (Stored T)) → length xs ≤ i → 0 < length xs
    → app_so_far (take i xs) ≡ app_with (rows_of xs)
whole_app i xs le some = ap app_so_far (take_all i xs le) ∙ over_some xs some
  where
    over_some : {T : Type 0} (xs : List (Stored T)) → 0 < length xs → app_so_far xs ≡ app_with (rows_of xs)
    over_some [] some = absurd (omega arith)
    over_some (x ∷ xs) some = refl

-- ---- the look-up

-- how many words the command of a row takes, and the command
abbrev pub taking : {T : Type 0} → Row T → ℕ × T
taking r = (r.count, r.command)
