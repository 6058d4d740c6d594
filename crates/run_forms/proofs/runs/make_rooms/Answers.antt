use Rattle.std.proofs.Common.{◌≡◌, ◌∙◌, ◌+◌, ◌≤◌, ◌++◌, ◌∷◌, [], ℕ, List, length, length-drop, drop, ap, sym, subst}
use Rattle.std.proofs.Common.{arith}
use Rattle.std.specs.Prelude.{if◌then◌else◌, is_ok}
use Rattle.run_forms.specs.Slices.{HasRoom, HaveRoom, requests_first, requests_after}
use Rattle.run_forms.proofs.PlanSlices.{first_few, after_more, room_more, rest_further, count_there}
use Rattle.run_forms.proofs.runs.make_rooms.Goals as goal

pub loop-next-preserved : goal.loop-next-preserved
loop-next-preserved g c =
    let l = c.loop-next in
    let h = g.F.SampleForm.harness c.args.form.now in
    let place = h.parts.place in
    let plan = c.args.plan.now in
    let k = l.next + 1 in
    let n = c.count_of-count.result in
    let order : 1 + l.next ≡ k = omega arith in
    let count : n ≡ length (requests_first place k (drop l.first plan)) =
    count_there place k l.first n plan c.count_of-count.ensures in
    let r = c.in_ok-room in
    let room : HasRoom g.F.SampleForm.fits h.notes (requests_first place k (drop l.first plan)) r.room = record {
      no_frames = r.ensures.frames;
      none_told = r.ensures.told;
      enough = subst (λ (j : ℕ). j ≤ 10000 → g.F.SampleForm.fits r.room j) count r.ensures.fits;
    } in
    let there : HasRoom g.F.SampleForm.fits h.notes
    (requests_first place (1 + l.next) (requests_after place 1 l.next plan)) r.room =
    subst (λ (j : ℕ). HasRoom g.F.SampleForm.fits h.notes
    (requests_first place j (requests_after place 1 l.next plan)) r.room) (sym order)
    (subst (λ (rest : List g.row.A.Denot). HasRoom g.F.SampleForm.fits h.notes (requests_first place k rest) r.room)
    l.invariant.rest room) in
    let items = c.push_back.ensures.items
    ∙ ap (λ o. if is_ok o then l.rooms.items ++ r.room ∷ [] else l.rooms.items) c.in-Ok-push_back.is in
    record {
      rooms = subst (λ (rooms : List g.row.U.Denot). HaveRoom g.F.SampleForm.fits h.notes place 1 k
          plan rooms) (sym items)
          (room_more g.F.SampleForm.fits h.notes place 1 l.next plan l.rooms.items r.room l.invariant.rooms there);
      rest = rest_further place k l.first n plan count
          ∙ ap (λ (rest : List g.row.A.Denot). drop (length (requests_first place k rest)) rest) l.invariant.rest
          ∙ ap (λ (j : ℕ). drop (length (requests_first place j (requests_after place 1 l.next plan)))
          (requests_after place 1 l.next plan)) (sym order)
          ∙ sym (after_more place 1 l.next plan);
      first = (let few = first_few place k (drop l.first plan) in let len = length-drop l.first plan in
          let inv = l.invariant.first in omega (arith, few, len, inv, count));
      next = omega arith;
    }
