-- A text that spells a plan, posts or levels has no fault and spells one, and none has two first faults.
use Rattle.std.proofs.Common.{arith, ◌≡◌, ◌<◌, ◌+◌, ℕ, true, false, List, ◌∷◌, ◌++◌, length, refl, sym, ◌∙◌, ap, subst}
use Rattle.std.specs.Prelude.{All, Option, Some}
use Rattle.std.proofs.lemmas.List.{length-append}
use Rattle.trace_io.specs.{FirstRows.Fields, OneReading.FirstRowsAreOne}
use Rattle.trace_io.proofs.Algebra.{FailsFirst, at_element, more_elements, one_fails_first, one_first_failure}
use Rattle.cpu12_isa.specs.{Regions.is_free, declared.instr.Write.Write}
use Rattle.interrupt_plan.specs.OneReading.{LevelFaultsAreOne, PlanFaultsAreOne, PostFaultsAreOne}
use Rattle.interrupt_plan.specs.OneReading.{SpelledLevelsHaveNoFault, SpelledPlansHaveNoFault}
use Rattle.interrupt_plan.specs.OneReading.{SpelledLevelsAreOne, SpelledPlansAreOne, SpelledPostsAreOne}
use Rattle.interrupt_plan.specs.OneReading.{SpelledPostsHaveNoFault}
use Rattle.interrupt_plan.specs.Levels.{AreGoodLevels, LevelNotAfter, SpellsLevel, no_writes, numbers_of}
use Rattle.interrupt_plan.specs.Plans.{IsGood, NotAfter, SpellsRequest, writes_by}
use Rattle.interrupt_plan.specs.Posts.{AreGoodPosts, NoLater, SpellsPost, writes_in}
use Rattle.interrupt_plan.specs.Rows.{AreFree, AreInOrder, FirstFault, HasFirstFault, HasNumbers, IsFirstTaken}
use Rattle.interrupt_plan.specs.Rows.{RowFails, SpellAll, SpellsText, at_row, count_of, more, not_ascending, not_free}
use Rattle.interrupt_plan.specs.Rows.{unread}
use Rattle.interrupt_plan.specs.declared.{PlanFault.PlanFault, levels.Level.Level, Post.Post, Request.Request}
use Rattle.interrupt_plan.specs.declared.PlanFault.TheVariants.{NotFree, TooMany}
use Rattle.interrupt_plan.proofs.LevelLemmas.{one_numbers}
use Rattle.interrupt_plan.proofs.SpelledLemmas.{Split, split_at, own_of, entries_one, follows_last}

pub same_some : {X : Type 0} {o : Option X} {x y : X} → o ≡ Some x → o ≡ Some y → x ≡ y
same_some {X} {o} {x} {y} one other = let e : Some x ≡ Some y = sym one ∙ other in cc

-- ---- a row spells one entry

pub numbers_one : (fields : Fields) (s m t n : ℕ) → HasNumbers fields s m → HasNumbers fields t n → (s ≡ t) × (m ≡ n)
numbers_one fields s m t n one other =
    let same : one.first_text ∷ one.second_text ∷ one.pairs ≡ other.first_text ∷ other.second_text ∷ other.pairs =
    sym one.fields_are ∙ other.fields_are in
    let first : one.first_text ≡ other.first_text = cc in
    let second : one.second_text ≡ other.second_text = cc in (
      same_some one.first_is (ap count_of first ∙ other.first_is),
      same_some one.second_is (ap count_of second ∙ other.second_is),
    )

request_one : (fields : Fields) (q r : Request) → SpellsRequest fields q → SpellsRequest fields r → q ≡ r
request_one fields q r one other =
    let numbers = numbers_one fields q.sample q.moment r.sample r.moment one.row.numbers other.row.numbers in
    let writes : q.writes ≡ r.writes = same_some one.row.writes_are other.row.writes_are in
    (λ i. record { sample = numbers.0 i; moment = numbers.1 i; writes = writes i })

post_one : (samples : ℕ) (fields : Fields) (q r : Post) → SpellsPost samples fields q
    → SpellsPost samples fields r → q ≡ r
post_one samples fields q r one other =
    let numbers = numbers_one fields q.moment q.sample r.moment r.sample one.row.numbers other.row.numbers in
    let writes : q.writes ≡ r.writes = same_some one.row.writes_are other.row.writes_are in
    (λ i. record { moment = numbers.0 i; sample = numbers.1 i; writes = writes i })

level_one : (fast : ℕ) (fields : Fields) (q r : Level) → SpellsLevel fast fields q → SpellsLevel fast fields r → q ≡ r
level_one fast fields q r one other =
    let same : numbers_of q ≡ numbers_of r =
    one_numbers fields (numbers_of q) (numbers_of r) one.numbers other.numbers in
    let sample : q.sample ≡ r.sample = cc in
    let moment : q.moment ≡ r.moment = cc in
    let answered : q.fast ≡ r.fast = cc in
    let inner : q.inner.items ≡ r.inner.items = cc in
    (λ i. record { sample = sample i; moment = moment i; fast = answered i; inner = record { items = inner i } })

-- ---- of writes one is the first that is not free

taken_apart : (ws : List Write) (at : ℕ) → IsFirstTaken ws at → AreFree ws → ⊥
taken_apart ws at first free =
    let own = own_of (λ (v : Write). is_free v.at ≡ true) first.before first.write first.after
    (subst AreFree first.writes_are free) in
    let bad : true ≡ false = sym own ∙ first.taken in
    cc

abbrev IsTaken : List Write → Write → ℕ → Type 0
IsTaken before w at = (is_free w.at ≡ false) × (at ≡ w.at)

one_taken : (ws : List Write) (at other : ℕ) → IsFirstTaken ws at → IsFirstTaken ws other → at ≡ other
one_taken ws at other first first' =
    one_fails_first AreFree IsTaken
    (λ before w after a taken free.
    let own = own_of (λ (v : Write). is_free v.at ≡ true) before w after free in
    let bad : true ≡ false = sym own ∙ taken.0 in
    let no : ⊥ = cc in no)
    (λ before w a b one two. one.1 ∙ sym two.1)
    first.before first.write first.after at first'.before first'.write first'.after other
    (sym first.writes_are ∙ first'.writes_are) first.free (first.taken, first.address) first'.free
    (first'.taken, first'.address)

-- ---- entries that are spelled in one way do not fail

module _ {E : Type 0} (Spells : Fields → E → Type 0) (writes : E → List Write) (Follows : E → E → Type 0)
    (entry_one : (fields : Fields) (q r : E) → Spells fields q → Spells fields r → q ≡ r) where
  module _ (before : List Fields) (row : Fields) (others all : List E) (order : AreInOrder writes Follows all)
      (at : Split Spells before row all)
      (spelled : SpellAll Spells before others) where
    own_free : AreFree (writes at.own)
    own_free = own_of (λ e. AreFree (writes e)) at.front at.own at.behind
        (subst (λ (l : List E). All (λ e. AreFree (writes e)) l) at.parts order.free)

    row_apart : (n : ℕ) (fault : PlanFault) → RowFails Spells writes Follows others n row fault → ⊥
    row_apart n fault (unread none) = none at.own at.own_is
    row_apart n fault (not_free r address spells first) =
        let same : writes r ≡ writes at.own = ap writes (entry_one row r at.own spells at.own_is) in
        taken_apart (writes r) address first (subst AreFree (sym same) own_free)
    row_apart n fault (not_ascending r spells free falls) =
        let own : r ≡ at.own = entry_one row r at.own spells at.own_is in
        let up = follows_last Spells entry_one Follows before row others all at spelled order.ascends falls.front
        falls.last falls.before_is in
        falls.falls (subst (λ (q : E). Follows falls.last q) (sym own) up)

  rows_apart : (rows : List Fields) (all : List E) (fault : PlanFault) → length rows < 10001
      → AreInOrder writes Follows all → SpellAll Spells rows all
      → FirstFault Spells writes Follows rows fault → ⊥
  rows_apart rows all fault few order spelled (at_row before row after others f split lt front front_order fails) =
      let at = split_at Spells before row after all
      (subst (λ (rs : List Fields). SpellAll Spells rs all) split spelled) in
      row_apart before row others all order at front (length before + 1) f fails
  rows_apart rows all fault few order spelled (more before row after others split full front front_order) =
      omega (arith, few, full, ap length split, length-append before (row ∷ after))

  pub texts_apart : FirstRowsAreOne → (Good : List E → Type 0)
      → ((es : List E) → Good es → AreInOrder writes Follows es)
      → (text : List ℕ) (all : List E) (fault : PlanFault) → SpellsText Spells Good text all
      → HasFirstFault Spells writes Follows text fault → ⊥
  texts_apart one Good order text all fault spells has =
      let same : has.rows ≡ spells.rows = one text spells.rows has.rows spells.first has.first in
      rows_apart spells.rows all fault spells.few (order all spells.good) spells.spelled
      (subst (λ (rs : List Fields). FirstFault Spells writes Follows rs fault) same has.fault_is)

  texts_once : FirstRowsAreOne → (Good : List E → Type 0) (text : List ℕ) (es others : List E)
      → SpellsText Spells Good text es → SpellsText Spells Good text others → es ≡ others
  texts_once one Good text es others spells spells' =
      entries_one Spells entry_one spells.rows es others spells.spelled
      (subst (λ (rs : List Fields). SpellAll Spells rs others)
      (one text spells.rows spells'.rows spells.first spells'.first) spells'.spelled)

  -- ---- rows have one first fault

  row_fault_one : (es others : List E) (n : ℕ) (row : Fields) (f g : PlanFault)
      → RowFails Spells writes Follows es n row f → RowFails Spells writes Follows others n row g → f ≡ g
  row_fault_one es others n row f g (unread none) (unread none') = refl
  row_fault_one es others n row f g (unread none) (not_free e at spells first) = absurd (none e spells)
  row_fault_one es others n row f g (unread none) (not_ascending e spells free falls) = absurd (none e spells)
  row_fault_one es others n row f g (not_free e at spells first) (unread none) = absurd (none e spells)
  row_fault_one es others n row f g (not_free e at spells first) (not_free e' at' spells' first') =
      let same : writes e' ≡ writes e = ap writes (entry_one row e' e spells' spells) in
      ap (NotFree n) (one_taken (writes e) at at' first (subst (λ (ws : List Write). IsFirstTaken ws at') same first'))
  row_fault_one es others n row f g (not_free e at spells first) (not_ascending e' spells' free falls) =
      let same : writes e' ≡ writes e = ap writes (entry_one row e' e spells' spells) in
      absurd (taken_apart (writes e) at first (subst AreFree same free))
  row_fault_one es others n row f g (not_ascending e spells free falls) (unread none) = absurd (none e spells)
  row_fault_one es others n row f g (not_ascending e spells free falls) (not_free e' at spells' first) =
      let same : writes e ≡ writes e' = ap writes (entry_one row e e' spells spells') in
      absurd (taken_apart (writes e') at first (subst AreFree same free))
  row_fault_one es others n row f g (not_ascending e spells free falls) (not_ascending e' spells' free' falls') = refl

  abbrev Pass : List Fields → Type 0
  Pass rows = (es : List E) × SpellAll Spells rows es × AreInOrder writes Follows es

  abbrev Fails : List Fields → Fields → PlanFault → Type 0
  Fails before row fault =
      (es : List E) × SpellAll Spells before es × RowFails Spells writes Follows es (length before + 1) row fault

  fails_apart : (before : List Fields) (row : Fields) (after : List Fields) (fault : PlanFault)
      → Fails before row fault → Pass (before ++ row ∷ after) → ⊥
  fails_apart before row after fault fails pass =
      row_apart before row fails.0 pass.0 pass.2 (split_at Spells before row after pass.0 pass.1) fails.1
      (length before + 1) fault fails.2

  fails_first : (rows : List Fields) (fault : PlanFault) → FirstFault Spells writes Follows rows fault
      → FailsFirst Pass Fails 10000 TooMany rows fault
  fails_first rows fault (at_row b r a es f split lt front order fails) =
      at_element b r a fault split lt (es, front, order) (es, front, fails)
  fails_first rows fault (more b r a es split full front order) = more_elements b r a split full (es, front, order)

  fault_one : (rows : List Fields) (f g : PlanFault) → FirstFault Spells writes Follows rows f
      → FirstFault Spells writes Follows rows g → f ≡ g
  fault_one rows f g first other =
      one_first_failure Pass Fails fails_apart
      (λ before row f g fails others. row_fault_one fails.0 others.0 (length before + 1) row f g fails.2 others.2)
      10000 TooMany rows f g (fails_first rows f first) (fails_first rows g other)

  text_fault_one : FirstRowsAreOne → (text : List ℕ) (fault other : PlanFault)
      → HasFirstFault Spells writes Follows text fault → HasFirstFault Spells writes Follows text other → fault ≡ other
  text_fault_one one text fault other has has' =
      let same : has'.rows ≡ has.rows = one text has.rows has'.rows has.first has'.first in
      fault_one has.rows fault other has.fault_is
      (subst (λ (rs : List Fields). FirstFault Spells writes Follows rs other) same has'.fault_is)

-- ---- plans, posts and levels

plan_order : (plan : List Request) → IsGood plan → AreInOrder writes_by NotAfter plan
plan_order plan good =
    record { few = good.few; free = λ k d lt. (let r = good.requests k d lt in r.free); ascends = good.ascends }

posts_order : (samples : ℕ) (posts : List Post) → AreGoodPosts samples posts → AreInOrder writes_in NoLater posts
posts_order samples posts good =
    record { few = good.few; free = λ k d lt. (let r = good.posts_are k d lt in r.free); ascends = good.ascends }

levels_order : (fast : ℕ) (levels : List Level) → AreGoodLevels fast levels → AreInOrder no_writes LevelNotAfter levels
levels_order fast levels good =
    record { few = good.few; free = λ k d lt i e none. absurd (omega arith); ascends = good.ascends }

pub plans_apart : FirstRowsAreOne → SpelledPlansHaveNoFault
plans_apart one text plan fault spells has =
    texts_apart SpellsRequest writes_by NotAfter request_one one IsGood plan_order text plan fault spells has

pub posts_apart : FirstRowsAreOne → SpelledPostsHaveNoFault
posts_apart one samples text posts fault spells has =
    texts_apart (SpellsPost samples) writes_in NoLater (post_one samples) one (AreGoodPosts samples)
    (posts_order samples) text posts fault spells has

pub levels_apart : FirstRowsAreOne → SpelledLevelsHaveNoFault
levels_apart one fast text levels fault spells has =
    texts_apart (SpellsLevel fast) no_writes LevelNotAfter (level_one fast) one (AreGoodLevels fast)
    (levels_order fast) text levels fault spells has

pub one_plan_fault : FirstRowsAreOne → PlanFaultsAreOne
one_plan_fault = text_fault_one SpellsRequest writes_by NotAfter request_one

pub one_post_fault : FirstRowsAreOne → PostFaultsAreOne
one_post_fault one samples = text_fault_one (SpellsPost samples) writes_in NoLater (post_one samples) one

pub one_level_fault : FirstRowsAreOne → LevelFaultsAreOne
one_level_fault one fast = text_fault_one (SpellsLevel fast) no_writes LevelNotAfter (level_one fast) one

pub one_plan : FirstRowsAreOne → SpelledPlansAreOne
one_plan one = texts_once SpellsRequest writes_by NotAfter request_one one IsGood

pub one_list_of_posts : FirstRowsAreOne → SpelledPostsAreOne
one_list_of_posts one samples =
    texts_once (SpellsPost samples) writes_in NoLater (post_one samples) one (AreGoodPosts samples)

pub one_list_of_levels : FirstRowsAreOne → SpelledLevelsAreOne
one_list_of_levels one fast =
    texts_once (SpellsLevel fast) no_writes LevelNotAfter (level_one fast) one (AreGoodLevels fast)
