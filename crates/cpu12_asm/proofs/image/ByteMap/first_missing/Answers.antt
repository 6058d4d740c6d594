use Rattle.std.proofs.Common.{rules, ◌≡◌, ℕ, List, ◌∷◌, Option, Some, subst}
use Rattle.std.specs.Map.Iter.{TakesFirst, deref_pair}
use Rattle.std.proofs.lemmas.Map.Iter.{rest_more}
use Rattle.cpu12_asm.proofs.Differing.{Comparing, ends, goes_on, has_byte, has_no_byte, starts, stops}
use Rattle.cpu12_asm.proofs.image.ByteMap.first_missing.Goals as goal

pub loop-at-init : goal.loop-at-init
loop-at-init c = starts _ _ _ (search rules) (search rules)

-- the entry that comes next is the first of those to come
next : {A : Type 0} (shows : A → ℕ × ℕ) (bytes others left rest : List (ℕ × ℕ)) (r : Option A) (x : A)
    → Comparing bytes others left → r ≡ Some x → TakesFirst shows left r rest → Comparing bytes others (shows x ∷ rest)
next shows bytes others left rest r x c is takes =
    subst (λ (l : List (ℕ × ℕ)). Comparing bytes others l) (rest_more shows left rest r x is takes) c

pub loop-at-preserved : goal.loop-at-preserved
loop-at-preserved c =
    goes_on _ _ c.next.new.self (c.in-Some.at.now, c.in-Some.byte.now)
    (next deref_pair c.args.self.now c.args.other.now _ _ _ _ c.loop-at.invariant c.in-Some.is c.next.ensures.steps)
    (has_byte _ _ c.in-Some.byte.now _ c.ne.ensures c.if-ne.false c.get.ensures)

pub returns-then-ne-clause-missing : goal.returns-then-ne-clause-missing
returns-then-ne-clause-missing c =
    stops _ _ c.next.new.self (c.in-Some.at.now, c.in-Some.byte.now)
    (next deref_pair c.args.self.now c.args.other.now _ _ _ _ c.loop-at.invariant c.in-Some.is c.next.ensures.steps)
    (has_no_byte _ _ c.in-Some.byte.now _ c.ne.ensures c.if-ne.true c.get.ensures)

pub returns-clause-none : goal.returns-clause-none
returns-clause-none c = ends _ _ c.loop-at.at-iterator c.loop-at.invariant c.in-None.ensures.steps.0
