-- What the builder of inputs keeps of a term's points. No public clause cites it.
-- Beside the promise.
use Rattle.std.specs.Prelude.{◌≡◌, List, option_map}
use Rattle.std.specs.List.{filter, take_while}
use Rattle.fcl_syntax.specs.declared.tree.Point.{Point}
use Rattle.fz_num.specs.declared.dec.Dec.{Dec}
use Rattle.fcl_check.specs.{declared.build.inputs.Corners.Corners, Loaded.number_of, Loaded.abscissa_of}
use Rattle.fcl_check.specs.{Places.first, Places.last, Places.drop_while, Sections.has_one, Sections.has_zero}

-- the corners that the points seen so far have
pub record AreCornersOf (seen : List Point) (corners : Corners) : Type 0 where
  pub a : number_of corners.a ≡ abscissa_of (last (take_while has_zero seen))
  pub b : option_map (λ (t : Dec × Dec). t.0.0) corners.top ≡ abscissa_of (first (filter has_one seen))
  pub c : option_map (λ (t : Dec × Dec). t.1.0) corners.top ≡ abscissa_of (last (filter has_one seen))
  pub d : number_of corners.d ≡ abscissa_of (first (filter has_zero (drop_while has_zero seen)))
