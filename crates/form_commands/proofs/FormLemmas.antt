-- What is made of the files of a run, and what refuses them.
use Rattle.std.proofs.Common.{◌⊎◌, inl, inr}
use Rattle.form_commands.proofs.Words.{◌<◌, ◌^◌, ◌∙◌, ◌≡◌, ap, List, only_lines, Reading, refl, ℕ}
use Rattle.command_parts.specs.Readings.{AreExact, Gives, seen_of}
use Rattle.form_commands.specs.Forms.{Reports}
use Rattle.run_reports.proofs.Algebra.{settled_run}
use Rattle.run_reports.specs.Settled.{IsSettledRun}

-- it is settled where each run is of accepted files and has their report, which goes by what is seen of the files, and
-- accepted files have that run
pub settled_report : {B R : Type 0} (r : Reading B) (flags : ℕ) (IsRun : R → Type 0) (lines : R → List (List ℕ))
    (report : B → R) → AreExact r → ((told : R) → IsRun told → (b : B) × Gives r b × (told ≡ report b))
    → ((b d : B) → seen_of r b ≡ seen_of r d → report b ≡ report d)
    → ((b : B) → flags < 2 ^ 8 → Gives r b → IsRun (report b))
    → IsSettledRun r flags (Reports IsRun lines) (λ b. lines (report b))
settled_report {B} {R} r flags IsRun lines report exact given alike run =
    settled_run r flags (Reports IsRun lines) (λ b. lines (report b)) exact
    (λ output a. (let g = given a.report a.run in
    (g.0, g.1, a.output_is ∙ ap (λ (told : R). only_lines (lines told)) g.2)))
    (λ b d same. ap lines (alike b d same))
    (λ b byte a. record { report = report b; run = run b byte a; output_is = refl })

-- what refuses three files, where others are behind them
pub with_more : {A B D : Type 0} {P C : B → Type 0} {Q E R : B → D → Type 0}
    → A ⊎ ((b : B) × P b × (C b ⊎ ((d : D) × Q b d × E b d)))
    → A ⊎ ((b : B) × P b × (C b ⊎ ((d : D) × Q b d × (E b d ⊎ R b d))))
with_more (inl w) = inl w
with_more (inr (b, p, inl w)) = inr (b, p, inl w)
with_more (inr (b, p, inr (d, q, w))) = inr (b, p, inr (d, q, inl w))
