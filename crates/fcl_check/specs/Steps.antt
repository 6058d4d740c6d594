-- What the checks of a tree keep on their way. No public clause cites it.
-- Beside the promise.
use Rattle.std.proofs.Common.{zero}
use Rattle.std.specs.Prelude.{ℕ, suc, Bool, false, List, Option, Some, None, option_map, ℤ}
use Rattle.std.specs.List.{list_all}
use Rattle.fcl_syntax.specs.declared.{tree.Direction.Direction, tree.Operand.Operand, tree.Point.Point}
use Rattle.fcl_syntax.specs.declared.tree.Direction.TheVariants.{Input, Output}
use Rattle.fcl_check.specs.declared.{check.kinds.Room.Room, check.sections.Course.Course}
use Rattle.fcl_check.specs.declared.check.sections.Course.TheVariants.{Rising, Top, Falling, Broken}
use Rattle.fcl_check.specs.{Faults.Pair, Places.drop_while}
use Rattle.fcl_check.specs.Sections.{Ends, has_one, has_zero, has_shape, hull_of, reach}

-- whether these points complete a trapezoid
abbrev pub completes : Course → List Point → Bool
completes Rising points = has_shape points
completes Top points = list_all has_zero (drop_while has_one points)
completes Falling points = list_all has_zero points
completes Broken points = false

-- the reach of some numbers and these
abbrev pub extended : Option Ends → List ℤ → Option Ends
extended None numbers = hull_of numbers
extended (Some e) numbers = Some (reach e numbers)

-- the names of an operand
abbrev pub pair_of : Operand → Pair
pair_of o = record { variable = o.variable; term = o.term }

-- one less, where there is one
abbrev pub one_less : ℕ → Option ℕ
one_less zero = None
one_less (suc n) = Some n

-- the room behind one more input or output
abbrev pub room_behind : Room → Direction → Option Room
room_behind r Input = option_map (λ (n : ℕ). record r { inputs = n }) (one_less r.inputs)
room_behind r Output = option_map (λ (n : ℕ). record r { outputs = n }) (one_less r.outputs)
