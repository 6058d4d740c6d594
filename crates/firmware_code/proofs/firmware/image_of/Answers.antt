use Rattle.firmware_code.proofs.Words.{◌∙◌, ◌≡◌, false, sym, true}
use Rattle.firmware_code.proofs.firmware.image_of.Goals as goal
use Rattle.firmware_code.proofs.firmware.image_of.Goals.{in-Memory, in_default}

pub prove-unreachable-requires : goal.prove-unreachable-requires
prove-unreachable-requires c =
    let memory = c.in-Err.ensures.rising c.requires.rising in
    elim c.match-matches.branch [
      | in-Memory w ↦ absurd (let yes : true ≡ false = sym w.matches-is ∙ c.if-prove.true in cc)
      | in_default w ↦ absurd (w.in_default.not-Memory memory)
    ]

pub returns-in-Ok : goal.returns-in-Ok
returns-in-Ok c = record
    { bytes = c.in-Ok.ensures.bytes; ascending = c.in-Ok.ensures.ascending; start = c.in-Ok.ensures.start }
