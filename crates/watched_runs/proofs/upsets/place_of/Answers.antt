use Rattle.std.proofs.Common.{rules}
use Rattle.std.proofs.lemmas.List.Sorted.{answers_always}
use Rattle.interrupt_plan.specs.declared.upsets.Upset.{Upset}
use Rattle.watched_runs.proofs.Places.{placed}
use Rattle.watched_runs.proofs.upsets.place_of.Goals as goal

-- the closure gives an upset's sample
pub returns : goal.returns
returns c =
    let facts = c.binary_search_by_key.ensures in
    let by_key = facts.position (λ (u : Upset). u.sample) (answers_always _ _ _ (λ f a r g called. search rules)) in
    placed _ c.args.number _ c.requires facts.bound by_key
