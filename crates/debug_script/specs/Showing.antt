-- What a script shows, over the positions of a run.
-- Beside the promise.
use Rattle.std.specs.Prelude.{◌==◌, ◌||◌, ℕ, Bool, not, List, [], ◌∷◌, ◌++◌, slice_index}
use Rattle.std.specs.BTreeMap.{is_at}
use Rattle.std.specs.BTreeSet.{BTreeSet, contains_by, insert_key}
use Rattle.std.specs.List.{list_any}
use Rattle.std.specs.Ordering.{nat_cmp}
use Rattle.std.specs.Set.{remove_key}
use Rattle.cpu12_isa.specs.Memory.{bytes_at, from}
use Rattle.run_forms.specs.Positions.{Position}
use Rattle.debug_script.specs.{Places.distance, Places.on, declared.marks.Marks.Marks, declared.order.Order.Order}
use Rattle.debug_script.specs.declared.order.Order.TheVariants as order
use Rattle.debug_script.specs.declared.shown.Shown.{Shown}
use Rattle.debug_script.specs.declared.shown.Shown.TheVariants.{Stop, Registers, Bytes}

-- ---- the marks: sets of addresses

abbrev pub with_address : ℕ → BTreeSet ℕ → BTreeSet ℕ
with_address at set = record { keys = insert_key nat_cmp set.keys at }

abbrev pub without_address : ℕ → BTreeSet ℕ → BTreeSet ℕ
without_address at set = record { keys = remove_key (is_at (nat_cmp at)) set.keys }

abbrev pub no_marks : Marks
no_marks = record { breaks = record { keys = [] }; watches = record { keys = [] } }

abbrev pub with_break : ℕ → Marks → Marks
with_break at marks = record { breaks = with_address at marks.breaks; watches = marks.watches }

abbrev pub without_break : ℕ → Marks → Marks
without_break at marks = record { breaks = without_address at marks.breaks; watches = marks.watches }

abbrev pub with_watch : ℕ → Marks → Marks
with_watch at marks = record { breaks = marks.breaks; watches = with_address at marks.watches }

abbrev pub without_watch : ℕ → Marks → Marks
without_watch at marks = record { breaks = marks.breaks; watches = without_address at marks.watches }

abbrev pub marks_after : Order → Marks → Marks
marks_after (order.Break at) marks = with_break at marks
marks_after (order.Unbreak at) marks = without_break at marks
marks_after (order.Watch at) marks = with_watch at marks
marks_after (order.Unwatch at) marks = without_watch at marks
marks_after (order.Step n) marks = marks
marks_after order.Go marks = marks
marks_after order.Registers marks = marks
marks_after (order.Memory at n) marks = marks

-- ---- the place

-- the byte at an address differs between two positions
abbrev pub differs : Position → Position → ℕ → Bool
differs p q at = not (slice_index p.state.mem at == slice_index q.state.mem at)

-- a position stops the run, coming behind another: PC is at a breakpoint, or a watched byte differs
abbrev pub stops : Marks → Position → Position → Bool
stops marks before here =
    contains_by (nat_cmp here.state.regs.pc) marks.breaks || list_any (differs before here) marks.watches.keys

-- where a run stands once an order is obeyed
abbrev pub place_after : Order → Marks → List Position → List Position
place_after (order.Step n) marks place = on n place
place_after order.Go marks place = on (distance (stops marks) place) place
place_after (order.Break at) marks place = place
place_after (order.Unbreak at) marks place = place
place_after (order.Watch at) marks place = place
place_after (order.Unwatch at) marks place = place
place_after order.Registers marks place = place
place_after (order.Memory at n) marks place = place

-- ---- what is shown

abbrev pub stop_at : Position → Shown
stop_at p = Stop p.sample p.moment p.state.regs.pc

-- what an order shows, once the run stands where it leads
abbrev pub shown_at : Order → Position → List Shown
shown_at (order.Step n) p = stop_at p ∷ []
shown_at order.Go p = stop_at p ∷ []
shown_at order.Registers p = Registers p.state.regs ∷ []
shown_at (order.Memory at n) p = Bytes at (bytes_at p.state.mem (from at n)) ∷ []
shown_at (order.Break at) p = []
shown_at (order.Unbreak at) p = []
shown_at (order.Watch at) p = []
shown_at (order.Unwatch at) p = []

abbrev pub shown_of : Order → List Position → List Shown
shown_of o [] = []
shown_of o (here ∷ later) = shown_at o here

-- what the orders of a script show one after the other, under these marks, from this place on
abbrev pub shown_from : Marks → List Order → List Position → List Shown
shown_from marks [] place = []
shown_from marks (o ∷ orders) place =
    let there = place_after o marks place in
    shown_of o there ++ shown_from (marks_after o marks) orders there

-- what a script shows of a run with these positions
abbrev pub shown : List Order → List Position → List Shown
shown script positions = shown_from no_marks script positions
