use Rattle.interrupt_plan.specs.Posts.{AreGoodPosts, NoLater, SpellsPost, writes_in}
use Rattle.interrupt_plan.proofs.PlanLemmas.{good_posts, good_text}
use Rattle.interrupt_plan.proofs.reader.read_posts.Goals as goal

pub returns-clause-posts : goal.returns-clause-posts
returns-clause-posts c =
    good_text (SpellsPost c.args.samples) writes_in NoLater (AreGoodPosts c.args.samples)
    (good_posts c.args.samples) c.args.text.now c.entries_of.result
    c.entries_of.ensures.entries
