-- The lines of a run at two levels.
use Rattle.form_commands.proofs.Words.{[], ◌++◌, ◌+◌, ◌-◌, ◌<◌, ◌∙◌, ◌∷◌, ◌≡◌, arith, bare-append, bare-decimal}
use Rattle.form_commands.proofs.Words.{boundary_seen, codes, counted, decimal, FastSeen, Frame, frame_line, length}
use Rattle.form_commands.proofs.Words.{lines_more, List, made_with, outer_lines, take, true, ℕ}
use Rattle.std.proofs.{Common.append_assoc, Common.get_or}
use Rattle.std.specs.{Prelude.Option, Prelude.None}
use Rattle.form_commands.specs.Lrun.{fast_lines}
use Rattle.fz_shelf.specs.Lines.{has_no_end}
use Rattle.run_reports.proofs.Algebra.{bare-answers}
use Rattle.run_reports.specs.RowLines.{answers_told}
use Rattle.std.specs.List.{slice_index_or}

-- the line of a fast run
module _ (number instrs steps resumed : ℕ) (answers : List ℕ) where
  abbrev pub fast_text : List ℕ
  fast_text = codes "fast " ++ (decimal number ++ (answers_told answers instrs ++ (codes " steps " ++ (decimal steps
      ++ (codes " resumed " ++ decimal resumed)))))

  pub fast_written : {t0 t1 t2 t3 t4 : List ℕ} → t0 ≡ codes "fast " → t1 ≡ t0 ++ decimal number
      → t2 ≡ t1 ++ answers_told answers instrs → t3 ≡ t2 ++ (codes " steps " ++ decimal steps)
      → t4 ≡ t3 ++ (codes " resumed " ++ decimal resumed) → t4 ≡ fast_text
  fast_written e0 e1 e2 e3 e4 = rw (e4, e3, e2, e1, append_assoc, append_assoc, append_assoc, e0)

  pub bare-fast : has_no_end fast_text ≡ true
  bare-fast =
      let r3 = codes " resumed " ++ decimal resumed in
      let r2 = codes " steps " ++ (decimal steps ++ r3) in
      bare-append (decimal number) (answers_told answers instrs ++ r2) (bare-decimal number)
      (bare-append (answers_told answers instrs) r2 (bare-answers answers instrs)
      (bare-append (decimal steps) r3 (bare-decimal steps) (bare-decimal resumed)))

-- a frame more, with the fast run in its interrupt
pub outer_more : (before now framed next : List (List ℕ)) (last : List ℕ) (k at : ℕ)
    (fast : List (Option FastSeen)) (frames : List (ℕ × Frame)) (f : ℕ × Frame) → at < length frames
    → now ≡ before ++ counted (λ n g. outer_lines k fast n (boundary_seen g)) 1 (take at frames)
    → framed ≡ now ++ last ∷ [] → last ≡ frame_line k (boundary_seen (get_or frames at f))
    → next ≡ framed ++ fast_lines (slice_index_or fast at None)
    → next ≡ before ++ counted (λ n g. outer_lines k fast n (boundary_seen g)) 1 (take (at + 1) frames)
outer_more before now framed next last k at fast frames f inside so_far added is told_so =
    let place : at ≡ at + 1 - 1 = omega arith in
    lines_more (λ n g. outer_lines k fast n (boundary_seen g)) frames at f before now next inside so_far
    (told_so ∙ made_with now (last ∷ []) (fast_lines (slice_index_or fast at None)) framed added
    ∙ (λ i. now ++ is i ∷ fast_lines (slice_index_or fast (place i) None)))
