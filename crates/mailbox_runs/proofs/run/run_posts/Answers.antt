use Rattle.mailbox_runs.proofs.Words.{input_bytes, map, subst, sym, ℕ}
use Rattle.std.proofs.lemmas.List.{length-map}
use Rattle.interrupt_plan.specs.Posts.{AreGoodPosts}
use Rattle.mailbox_runs.proofs.run.run_posts.Goals as goal

pub returns-clause-by_turns : goal.returns-clause-by_turns
returns-clause-by_turns c =
    let a = c.args in
    c.posts_are_answered.ensures a.firmware.now a.flags (map input_bytes a.samples.now) a.posts.now c.ranges.flags.fits
    (subst (λ (n : ℕ). AreGoodPosts n a.posts.now) (sym (length-map a.samples.now input_bytes)) c.requires.posts)
