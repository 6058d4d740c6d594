-- The lines that all runs tell, their rows, and what the commands make of them.
use Rattle.std.proofs.Common.{◌≡◌, ◌<◌, ◌+◌, ◌^◌, ℕ, List, [], ◌∷◌, ◌++◌, length, take, get_or, true, refl, sym}
use Rattle.std.proofs.Common.{◌∙◌, add-one, ap, append_assoc, subst}
use Rattle.std.specs.Prelude.{codes, decimal, Result, Ok, Err}
use Rattle.std.proofs.Math.Seq.{take-suc}
use Rattle.std.proofs.lemmas.List.{append-nil}
use Rattle.fz_shelf.proofs.Algebra.{bare-address, bare-append, bare-decimal}
use Rattle.fz_shelf.specs.{Lines.has_no_end, Parts.address_digits}
use Rattle.cpu12_emul.specs.Take.{FrameSeen}
use Rattle.run_law.specs.Forms.{RowSeen}
use Rattle.fuzzy_meaning.specs.declared.block.Block.{Block}
use Rattle.firmware_code.specs.declared.firmware.Firmware.{Firmware}
use Rattle.alone_runs.specs.{Answering.AnswersUnder, Rows.firmware_rows}
use Rattle.interrupt_plan.specs.declared.Request.{Request}
use Rattle.command_parts.proofs.Algebra.{faulted, result_of, settled}
use Rattle.command_parts.specs.Judged.{AreJudged, HasResult}
use Rattle.command_parts.specs.Readings.{AreExact, Gives, GivesSome, IsRefused, Reading, made_of, seen_of}
use Rattle.command_parts.specs.SeenOutputs.{IsFaultOf, IsResultOf, SeenOutput, only_lines}
use Rattle.command_parts.specs.declared.output.Output.{Output}
use Rattle.fz_status.specs.declared.status.Status.{Status}
use Rattle.run_reports.specs.RowLines.{answered, answers_told, frame_told, numbers, sample_told}
use Rattle.run_reports.specs.Settled.{IsSettledRun, PutsLines}
pub use Rattle.run_reports.proofs.InputLemmas.{rows_exact}

numbers-snoc : (ns : List ℕ) (n : ℕ) → numbers (ns ++ n ∷ []) ≡ numbers ns ++ (codes " " ++ decimal n)
numbers-snoc [] n = ap (λ (l : List ℕ). codes " " ++ l) (append-nil (decimal n))
numbers-snoc (m ∷ ns) n = ap (λ (l : List ℕ). codes " " ++ (decimal m ++ l)) (numbers-snoc ns n)
    ∙ ap (λ (l : List ℕ). codes " " ++ l) (sym (append_assoc (decimal m) (numbers ns) (codes " " ++ decimal n)))

-- the text so far with one number more
pub number_more : (before now next : List ℕ) (ns : List ℕ) (i d : ℕ) → i < length ns
    → now ≡ before ++ numbers (take i ns) → next ≡ now ++ (codes " " ++ decimal (get_or ns i d))
    → next ≡ before ++ numbers (take (i + 1) ns)
number_more before now next ns i d lt so_far step =
    let more : take (i + 1) ns ≡ take i ns ++ get_or ns i d ∷ [] = rw add-one (take-suc ns i d lt) in
    step ∙ ap (λ (l : List ℕ). l ++ (codes " " ++ decimal (get_or ns i d))) so_far
    ∙ append_assoc before (numbers (take i ns)) (codes " " ++ decimal (get_or ns i d))
    ∙ ap (λ (l : List ℕ). before ++ l) (sym (numbers-snoc (take i ns) (get_or ns i d)) ∙ ap numbers (sym more))

-- ---- the text of a sample

module _ (k instrs steps resumed frames : ℕ) (bytes answers : List ℕ) where
  abbrev pub sample_text : List ℕ
  sample_text = codes "sample " ++ (decimal k ++ (answered bytes answers instrs ++ (codes " steps " ++ (decimal steps
      ++ (codes " resumed " ++ (decimal resumed ++ (codes " frames " ++ decimal frames)))))))

  pub sample_written : (t0 t1 t2 t3 t4 t5 : List ℕ) → t0 ≡ codes "sample " → t1 ≡ t0 ++ decimal k
      → t2 ≡ t1 ++ answered bytes answers instrs → t3 ≡ t2 ++ (codes " steps " ++ decimal steps)
      → t4 ≡ t3 ++ (codes " resumed " ++ decimal resumed) → t5 ≡ t4 ++ (codes " frames " ++ decimal frames)
      → t5 ≡ sample_text
  sample_written t0 t1 t2 t3 t4 t5 e0 e1 e2 e3 e4 e5 =
      rw (e5, e4, e3, e2, e1, append_assoc, append_assoc, append_assoc, append_assoc, e0)

-- ---- no line ends in what is told of a sample and of a frame

bare-numbers : (ns : List ℕ) → has_no_end (numbers ns) ≡ true
bare-numbers [] = refl
bare-numbers (n ∷ ns) = bare-append (decimal n) (numbers ns) (bare-decimal n) (bare-numbers ns)

pub bare-answers : (answers : List ℕ) (instrs : ℕ) → has_no_end (answers_told answers instrs) ≡ true
bare-answers answers instrs =
    bare-append (numbers answers) (codes " instructions " ++ decimal instrs) (bare-numbers answers)
    (bare-decimal instrs)

pub bare-answered : (bytes answers : List ℕ) (instrs : ℕ) → has_no_end (answered bytes answers instrs) ≡ true
bare-answered bytes answers instrs =
    bare-append (numbers bytes) (answers_told answers instrs) (bare-numbers bytes) (bare-answers answers instrs)

pub bare-sample : (k : ℕ) (r : RowSeen (List ℕ)) → has_no_end (sample_told k r) ≡ true
bare-sample k r =
    let frames = codes " frames " ++ decimal (length r.frames) in
    let resumed = codes " resumed " ++ (decimal r.resumed ++ frames) in
    let steps = codes " steps " ++ (decimal r.steps ++ resumed) in
    let own = answered r.sample r.answers r.instrs in
    bare-append (decimal k) (own ++ steps) (bare-decimal k)
    (bare-append own steps (bare-answered r.sample r.answers r.instrs)
    (bare-append (decimal r.steps) resumed (bare-decimal r.steps)
    (bare-append (decimal r.resumed) frames (bare-decimal r.resumed) (bare-decimal (length r.frames)))))

pub bare-frame : (f : ℕ × FrameSeen) → has_no_end (frame_told f) ≡ true
bare-frame f =
    let bytes = codes " " ++ decimal (length f.1.bytes) in
    let sp = codes " " ++ (address_digits f.1.sp ++ bytes) in
    let pc = codes " " ++ (address_digits f.1.pc ++ sp) in
    bare-append (decimal f.0) pc (bare-decimal f.0) (bare-append (address_digits f.1.pc) sp (bare-address f.1.pc)
    (bare-append (address_digits f.1.sp) bytes (bare-address f.1.sp) (bare-decimal (length f.1.bytes))))

-- ---- rows

-- rows that are read off the run without interrupts are those of the run that follows it
pub rows_ran : {b : Block} {f : Firmware} {flags : ℕ} {samples : List (List ℕ)} {plan : List Request}
    {rows : List (RowSeen (List ℕ))} → AnswersUnder b f flags samples plan rows
    → rows ≡ (firmware_rows f samples plan flags).rows
rows_ran a = a.rows_are ∙ sym a.follows.rows_are

-- ---- what commands make of their files

-- the lines that accepted files make, or want of memory
pub put : {B : Type 0} (r : Reading B) (gives : SeenOutput → Type 0) (lines : List (List ℕ))
    (result : Result Output Status) → gives (only_lines lines) → PutsLines lines result
    → IsResultOf (made_of r gives) result
put r gives lines (Ok output) g is = subst gives (sym is) g
put r gives lines (Err s) g is = subst (λ t. IsFaultOf (made_of r gives) t) (sym is) tt

-- a command's files are settled where each of its outputs is of accepted files and has the lines of what they give,
-- which go by what is seen of it, and accepted files make these lines
pub settled_run : {B : Type 0} (r : Reading B) (flags : ℕ) (gives : SeenOutput → Type 0) (lines : B → List (List ℕ))
    → AreExact r
    → ((output : SeenOutput) → gives output → (b : B) × Gives r b × (output ≡ only_lines (lines b)))
    → ((b d : B) → seen_of r b ≡ seen_of r d → lines b ≡ lines d)
    → ((b : B) → flags < 2 ^ 8 → Gives r b → gives (only_lines (lines b))) → IsSettledRun r flags gives lines
settled_run r flags gives lines exact given alike made = record {
  settled = settled r gives ((flags < 2 ^ 8) × GivesSome r) exact
      (λ output a. (let g = given output a in (g.0, g.1)))
      (λ output other a b same. (let g = given output a in
      let h = given other b in
      g.2 ∙ ap only_lines (alike g.0 h.0 same) ∙ sym h.2))
      (λ a. (only_lines (lines a.1.0), made a.1.0 a.0 a.1.1));
  made = made;
}

module _ {B : Type 0} {r : Reading B} {flags : ℕ} {gives : SeenOutput → Type 0} {lines : B → List (List ℕ)}
    (law : IsSettledRun r flags gives lines) where
  pub worked : (b : B) → flags < 2 ^ 8 → Gives r b → (result : Result Output Status) → PutsLines (lines b) result
      → IsResultOf (made_of r gives) result
  worked b byte a result is = put r gives (lines b) result (law.made b byte a) is

  pub refused_files : (s : Status) {result : Result Output Status} → result ≡ Err s → IsRefused r s
      → IsResultOf (made_of r gives) result
  refused_files s is w =
      subst (λ x. IsResultOf (made_of r gives) x) (sym is) (faulted r gives law.settled.contents s w)

  pub judged_files : flags < 2 ^ 8 → AreJudged r → HasResult (made_of r gives)
  judged_files byte judged = result_of r gives judged (λ given. law.settled.some (byte, given))
