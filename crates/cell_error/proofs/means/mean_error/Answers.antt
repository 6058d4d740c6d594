use Rattle.std.proofs.Common.{◌≡◌, ⊎_elim, max, ap₂, ◌∙◌, sym, subst, arith}
use Rattle.cell_error.specs.declared.{means.Pull.Pull, ranges.MassRange.MassRange}
use Rattle.cell_error.specs.Means.{IsMeanError, IsSmallPull, IsGreaterPull}
use Rattle.cell_error.proofs.MeanLemmas.{worst_none, worst_next, is_error, ordered}
use Rattle.cell_error.proofs.means.mean_error.Goals as goal

pub loop-t-init : goal.loop-t-init
loop-t-init c =
    let ts = c.args.terms.now in
    let ds = c.args.deviations.now in
    let h = ordered c.args.scale.width ts c.requires.terms in
    let p = c.pulls_of-worst in
    record {
      up = worst_none (λ d. d.rise) (λ d. d.fall) ts ds h p.result.up p.ensures.up p.ensures.up_mass;
      down = worst_none (λ d. d.fall) (λ d. d.rise) ts ds h p.result.down p.ensures.down
          p.ensures.down_mass;
      up_small = p.ensures.up_small;
      down_small = p.ensures.down_small;
    }

greater_small : (p q r : Pull) → IsGreaterPull p q r → IsSmallPull p → IsSmallPull q → IsSmallPull r
greater_small p q r g hp hq =
    ⊎_elim (λ (e : r ≡ p). subst IsSmallPull (sym e) hp) (λ (e : r ≡ q). subst IsSmallPull (sym e) hq) g.one

pub loop-t-preserved : goal.loop-t-preserved
loop-t-preserved c =
    let ts = c.args.terms.now in
    let ds = c.args.deviations.now in
    let h = ordered c.args.scale.width ts c.requires.terms in
    let i = c.loop-t.t-index in
    let t : MassRange = record { at = 0; low = 0; high = 0 } in
    let l = c.loop-t-test.true in
    let is = c.loop-t.invariant in
    let a = c.pulls_of-above in
    let b = c.pulls_of-below in
    let x = c.or in
    let y = c.or-worst in
    let xu = greater_small c.loop-t.worst.up a.result.up x.result.up x.ensures.up is.up_small a.ensures.up_small in
    let xd = greater_small c.loop-t.worst.down a.result.down x.result.down x.ensures.down is.down_small
    a.ensures.down_small in
    record {
      up = worst_next (λ d. d.rise) (λ d. d.fall) ts ds i t (omega arith) h c.loop-t.worst.up
          a.result.up b.result.up x.result.up y.result.up a.ensures.up a.ensures.up_mass b.ensures.up b.ensures.up_mass
          is.up_small.mass_from xu.mass_from x.ensures.up y.ensures.up is.up;
      down = worst_next (λ d. d.fall) (λ d. d.rise) ts ds i t (omega arith) h c.loop-t.worst.down
          a.result.down b.result.down x.result.down y.result.down a.ensures.down a.ensures.down_mass b.ensures.down
          b.ensures.down_mass is.down_small.mass_from xd.mass_from x.ensures.down y.ensures.down is.down;
      up_small = greater_small x.result.up b.result.up y.result.up y.ensures.up xu b.ensures.up_small;
      down_small = greater_small x.result.down b.result.down y.result.down y.ensures.down xd b.ensures.down_small;
    }

pub returns : goal.returns
returns c =
    let ts = c.args.terms.now in
    let ds = c.args.deviations.now in
    let w = c.loop-t.worst in
    let is = c.loop-t.invariant in
    let e = ap₂ (λ m n. max m n) c.millionths-up.ensures c.millionths-down.ensures in
    subst (IsMeanError c.args.scale ts ds) (sym (c.max.ensures ∙ e))
    (is_error c.args.scale ts ds c.requires.scale.some (ordered c.args.scale.width ts c.requires.terms)
    c.requires.some c.loop-t.t-index w.up.pull w.up.mass
    w.down.pull w.down.mass c.loop-t-test.false is.up_small.mass_from is.down_small.mass_from is.up is.down)
