use Rattle.rule_layout.proofs.Words.{◌++◌, ◌+◌, ◌<◌, ◌∙◌, ◌∷◌, ◌≡◌, All, ap, at_address, Conjunction, drop, drop_more}
use Rattle.rule_layout.proofs.Words.{IsBelow, List, map, marked, subst, sym, ℕ}
use Rattle.rule_layout.proofs.ListLemmas.{mark, marked_more, mark_last, mark_inner}
use Rattle.rule_layout.proofs.lists.marked.Goals as goal
use Rattle.rule_layout.proofs.lists.marked.Goals.{then-is_last, else-is_last}

pub push_from-requires-clause-numbers : goal.push_from-requires-clause-numbers
push_from-requires-clause-numbers c =
    let here = subst (IsBelow 300) (sym c.index-conjunctions-k.is)
    (c.requires.numbers c.loop-k.k c.index-conjunctions-k.result c.loop-k-test.true) in
    subst (λ (w : List ℕ). All (λ n. n < 300) w) (sym c.as_slice.ensures) here.literals

pub push_from-requires-in-loop-k-clause-numbers : goal.push_from-requires-in-loop-k-clause-numbers
push_from-requires-in-loop-k-clause-numbers c =
    let here = subst (IsBelow 300) (sym c.index-conjunctions-k.is)
    (c.requires.numbers c.loop-k.k c.index-conjunctions-k.result c.loop-k-test.true) in
    subst (λ (w : List ℕ). All (λ n. n < 300) w) (sym c.as_slice-in-loop-k.ensures) here.conclusions

pub loop-k-preserved : goal.loop-k-preserved
loop-k-preserved c =
    let i = c.loop-k.k in
    let cs = c.args.conjunctions.now in
    let item = c.index-conjunctions-k.result in
    let split = drop_more cs i item c.loop-k-test.true
    ∙ ap (λ (q : Conjunction). q ∷ drop (i + 1) cs) (sym c.index-conjunctions-k.is) in
    let before = subst (λ (w : List Conjunction). c.loop-k.list.items ++ marked c.args.separator c.args.end_mark
    (map (at_address c.args.base) w) ≡ marked c.args.separator c.args.end_mark (map (at_address c.args.base) cs))
    split c.loop-k.invariant in
    let behind : c.if-is_last.push ≡ mark c.args.separator c.args.end_mark (drop (i + 1) cs) =
    elim c.if-is_last.branch [
      | then-is_last w ↦ w.push-is ∙ mark_last c.args.separator c.args.end_mark cs i w.if-is_last.true
      | else-is_last w ↦ w.push-is
          ∙ mark_inner c.args.separator c.args.end_mark cs i c.loop-k-test.true w.if-is_last.false
    ] in
    let literals = c.in_ok-push_from.ensures
    ∙ ap (λ (w : List ℕ). c.loop-k.list.items ++ map (λ n. c.args.base + n) w) c.as_slice.ensures in
    let conclusions = c.in_ok-push_from-2.ensures
    ∙ ap (λ (w : List ℕ). c.push.new.self.items ++ map (λ n. c.args.base + n) w) c.as_slice-in-loop-k.ensures in
    marked_more c.args.separator c.args.end_mark c.if-is_last.push c.args.base item
    (drop (i + 1) cs) c.loop-k.list.items c.push_from.new.list.items c.push.new.self.items
    c.push_from-in-loop-k.new.list.items c.push-in-loop-k.new.self.items _
    behind literals c.in_ok-push.ensures.items conclusions c.in_ok-push-2.ensures.items before
