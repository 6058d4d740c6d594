use Rattle.two_level_runs.proofs.Words.{◌∙◌, ◌≡◌, input_bytes, sym}
use Rattle.alone_runs.proofs.Algebra.{got}
use Rattle.two_level_runs.proofs.form.TwoLevelFormRunFormLevelNotesOptionFastRowTwoRow.row.Goals as goal

pub returns : goal.returns
returns g c x e =
    let bytes : x ≡ c.as_slice-bytes.result.now =
    got input_bytes c.args.self.now.slow.now c.args.k c.index-self-k.result x c.requires.sample e
    ∙ sym c.as_slice-bytes.ensures.value in
    let answers = c.answers.ensures in
    let row = c.row_of-row.ensures.row in
    let told = c.row_of-row.ensures.told in
    cc
