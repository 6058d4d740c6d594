use Rattle.std.proofs.Common.{length, [], ◌∷◌, ◌+◌, ◌*◌}
use Rattle.fcl_tokens.specs.declared.token.Keyword.TheVariants as key
use Rattle.fcl_syntax.specs.TokenClasses.{keyword_class}
use Rattle.fcl_syntax.specs.Reading.{and_in, behind_key_in, behind_keys_in, not_at}
use Rattle.fcl_syntax.proofs.Run.{Going}
use Rattle.fcl_syntax.proofs.conditions.+condition.Given as goal

abbrev pub decreases-not : goal.decreases-not
decreases-not l = 6 * l.room

abbrev pub decreases-conjuncts : goal.decreases-conjuncts
decreases-conjuncts l = 6 * l.room + 1

abbrev pub decreases-and : goal.decreases-and
decreases-and l = 6 * l.room + 2

abbrev pub decreases-alternatives : goal.decreases-alternatives
decreases-alternatives l = 6 * l.room + 3

abbrev pub decreases-or : goal.decreases-or
decreases-or l = 6 * l.room + 4

abbrev pub decreases-opened : goal.decreases-opened
decreases-opened l = 6 * l.room + 5

abbrev pub invariant-alternatives-each : goal.invariant-alternatives-each
invariant-alternatives-each l =
    Going (keyword_class key.Or ∷ []) (behind_key_in key.Or (and_in (not_at l.room))) l.more.items l.tokens.now
    (behind_keys_in key.Or (and_in (not_at l.room)) l.fn.tokens.now)

abbrev pub decreases-alternatives-each : goal.decreases-alternatives-each
decreases-alternatives-each l = length l.tokens.now

abbrev pub invariant-conjuncts-each : goal.invariant-conjuncts-each
invariant-conjuncts-each l =
    Going (keyword_class key.And ∷ []) (behind_key_in key.And (not_at l.room)) l.more.items l.tokens.now
    (behind_keys_in key.And (not_at l.room) l.fn.tokens.now)

abbrev pub decreases-conjuncts-each : goal.decreases-conjuncts-each
decreases-conjuncts-each l = length l.tokens.now
