use Rattle.handler_check.proofs.Words.{◌≡◌, AreJudged, code_end, length, summary_at, take}
use Rattle.handler_check.proofs.judge.judge.Given as goal

abbrev pub invariant-loop-instr : goal.invariant-loop-instr
invariant-loop-instr l = record {
  place : l.at ≡ code_end (take l.instr-index l.cut.code.items);
  judged : AreJudged l.cut.code.items l.cut.trapped l.at l.best (summary_at l.summaries.places.items);
  size : length l.summaries.places.items ≡ length l.cut.firsts.items;
}
