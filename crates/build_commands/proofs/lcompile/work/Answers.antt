use Rattle.std.proofs.Common.{◌∙◌, ℕ, ap₂, length, subst}
use Rattle.two_level_code.specs.Images.{fast_most, slow_alone}
use Rattle.build_commands.specs.{Lcompile.LcompileMakes, Lcompile.lcompile_lines, Written.WritesImage}
use Rattle.build_commands.proofs.WrittenLemmas.{written_makes}
use Rattle.build_commands.proofs.lcompile.work.Goals as goal

pub returns : goal.returns
returns c =
    let both = c.in_ok-both.both in
    let two = both.two in
    let gives = c.in_ok-both.ensures.gives in
    let slow_bounds = c.alone_has_byte_bounds.ensures both.slow (slow_alone both.slow two) gives.both.alone in
    let fast_bounds = gives.both.fast_is in
    let bytes = length two.firmware.image.bytes in
    written_makes (LcompileMakes c.args.slow.now c.args.fast.now) two.firmware.image 4 c.in_ok-lines.lines.items
    c.written_image.result c.written_image.ensures.writes c.written_image.ensures.memory (λ output w. record {
      slow_block = both.slow;
      fast_block = both.fast;
      two = two;
      gives = gives;
      writes = subst (λ lines. WritesImage two.firmware.image 4 lines output)
          (c.in_ok-lines.ensures
          ∙ ap₂ (λ (s f : ℕ). lcompile_lines s (fast_most f) bytes) slow_bounds.instructions
          fast_bounds.instructions) w;
    })
