use Rattle.fz_shelf.proofs.Places.{place_facts}
use Rattle.fz_shelf.proofs.mem_shelf.place_of.Goals as goal

pub returns : goal.returns
returns c = place_facts c.args.files.now c.args.name.now c.first_named.result c.first_named.ensures
