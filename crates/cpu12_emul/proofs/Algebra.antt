-- The cases of marks.
use Rattle.std.proofs.Common.{refl, inr}
use Rattle.cpu12_parts.specs.{declared.temps.Temps.Temps, declared.temps.Temps.TheVariants.OnStack, Laws.IsOff}
use Rattle.cpu12_emul.specs.Simulation.{Marks, OnStackOnly, OnStackOrNone, AreMarked}

-- sums are marked as on the stack where they were pushed
pub pushed_marked : (marks : Marks) → AreMarked marks OnStack
pushed_marked OnStackOnly = refl
pushed_marked OnStackOrNone = inr refl

-- marked sums do not run
pub marked_off : (marks : Marks) (t : Temps) → AreMarked marks t → IsOff t
marked_off OnStackOnly t is = inr is
marked_off OnStackOrNone t is = is
