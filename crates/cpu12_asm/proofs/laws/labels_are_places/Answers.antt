use Rattle.cpu12_asm.proofs.{Labelling.equates_are_values, Labelling.labels_are_places, Standing.lines_stand}
use Rattle.cpu12_asm.proofs.laws.labels_are_places.Goals as goal

pub returns-clause-labels : goal.returns-clause-labels
returns-clause-labels c = labels_are_places

pub returns-clause-equates : goal.returns-clause-equates
returns-clause-equates c = equates_are_values

pub returns-clause-lines : goal.returns-clause-lines
returns-clause-lines c = lines_stand
