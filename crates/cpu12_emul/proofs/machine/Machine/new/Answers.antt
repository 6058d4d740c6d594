use Rattle.std.proofs.Common.{◌≡◌, ℕ, List, Option, ap, ◌∙◌}
use Rattle.cpu12_isa.specs.Tags.{untagged}
use Rattle.cpu12_emul.specs.{Image.image_memory, Step.Whole, Step.reset_with}
use Rattle.cpu12_emul.proofs.Images.{image_memory-written}
use Rattle.cpu12_emul.proofs.machine.Machine.new.Goals as goal

pub returns : goal.returns
returns g c =
    let after : List ℕ = g.M.Mem.bytes c.write_to.new.m in
    let written = image_memory-written c.args.image.now.bytes (g.M.Mem.bytes c.in_ok-mem.mem) after
    c.in_ok-mem.ensures.bytes (g.met.M.Mem.size c.write_to.new.m) c.write_to.ensures.bytes in
    let tags : g.M.Mem.tags c.write_to.new.m ≡ untagged 65536 = c.write_to.ensures.tags ∙ c.in_ok-mem.ensures.tags in
    let whole : List ℕ → List (Option ℕ) → Whole =
    λ m t. record { state = reset_with m; flags = c.args.flags; tags = t } in
    c.reset.ensures ∙ ap (λ (m : List ℕ). whole m (g.M.Mem.tags c.write_to.new.m)) written
    ∙ ap (whole (image_memory c.args.image.now.bytes)) tags
