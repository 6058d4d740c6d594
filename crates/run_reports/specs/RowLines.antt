-- The lines that all runs tell of samples, answers and frames.
-- Reached by the promise.
use Rattle.std.specs.Prelude.{ℕ, List, [], ◌∷◌, ◌++◌, codes, decimal, length, map}
use Rattle.cpu12_emul.specs.Take.{FrameSeen}
use Rattle.fz_shelf.specs.Parts.{address_digits, ended}
use Rattle.run_law.specs.Forms.{RowSeen}
use Rattle.fz_status.specs.Words.{Text}
use Rattle.command_parts.specs.Lines.{counted, error_lines, line}
use Rattle.run_reports.specs.Reports.{Report}

-- numbers, with a blank before each
abbrev pub numbers : List ℕ → List ℕ
numbers [] = []
numbers (n ∷ ns) = codes " " ++ (decimal n ++ numbers ns)

-- what is told of a frame: its boundary, where the code was interrupted, where the stack ends behind the push, and how
-- many bytes were pushed
abbrev pub frame_told : ℕ × FrameSeen → List ℕ
frame_told f = decimal f.0 ++ (codes " " ++ (address_digits f.1.pc ++ (codes " " ++ (address_digits f.1.sp
    ++ (codes " " ++ decimal (length f.1.bytes))))))

-- the line of a frame of the k-th sample
abbrev pub frame_line : ℕ → ℕ × FrameSeen → List ℕ
frame_line k f = ended (codes "frame " ++ (decimal k ++ (codes " " ++ frame_told f)))

-- answers, and the number of instructions that these took
abbrev pub answers_told : List ℕ → ℕ → List ℕ
answers_told answers instrs = codes " answers" ++ (numbers answers ++ (codes " instructions " ++ decimal instrs))

-- the same behind the input bytes
abbrev pub answered : List ℕ → List ℕ → ℕ → List ℕ
answered bytes answers instrs = codes " bytes" ++ (numbers bytes ++ answers_told answers instrs)

-- the line of the k-th sample, up to the number of its frames
abbrev pub sample_told : ℕ → RowSeen (List ℕ) → List ℕ
sample_told k r = codes "sample " ++ (decimal k ++ (answered r.sample r.answers r.instrs
    ++ (codes " steps " ++ (decimal r.steps ++ (codes " resumed " ++ (decimal r.resumed
    ++ (codes " frames " ++ decimal (length r.frames))))))))

-- this line with the rest, and its frames
abbrev pub row_lines_with : ℕ → RowSeen (List ℕ) → List ℕ → List (List ℕ)
row_lines_with k r rest = ended (sample_told k r ++ rest) ∷ map (frame_line k) r.frames

abbrev pub row_lines : ℕ → RowSeen (List ℕ) → List (List ℕ)
row_lines k r = row_lines_with k r []

-- the same, with a number behind a label at the end of the sample's line
abbrev pub labelled_row_lines : Text → ℕ → RowSeen (List ℕ) → ℕ → List (List ℕ)
labelled_row_lines label k r n = row_lines_with k r (label ++ decimal n)

-- the errors and the bound on instructions, with which the lines of a run begin
abbrev pub begun_lines : List ℕ → ℕ → List (List ℕ)
begun_lines errors bound = error_lines (codes "error ") errors ++ line (codes "instructions ") bound ∷ []

-- ---- the lines of `run`

-- those with which a run begins, each sample, and the sum
abbrev pub run_lines : Report → ℕ → List (List ℕ)
run_lines r left = begun_lines r.errors r.bound ++ (counted row_lines 1 r.rows ++ line (codes "left ") left ∷ [])
