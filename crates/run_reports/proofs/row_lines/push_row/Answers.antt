use Rattle.std.proofs.Common.{append_assoc}
use Rattle.std.proofs.lemmas.Simd.{map-map}
use Rattle.std.specs.Prelude.{string_bytes}
use Rattle.fz_shelf.proofs.Algebra.{bare-append}
use Rattle.run_reports.proofs.row_lines.push_row.Goals as goal

pub of-requires : goal.of-requires
of-requires c = rw c.in_ok-push_str.ensures.bytes
    (bare-append (string_bytes c.in_ok-text.text) c.args.rest.now c.in_ok-text.ensures.bare c.requires)

pub returns : goal.returns
returns c = rw (
  c.in_ok-push_frames.ensures,
  c.in_ok-push.ensures.items,
  c.in_ok-of.ensures,
  c.in_ok-push_str.ensures.bytes,
  c.in_ok-text.ensures.told,
  c.as_slice.ensures,
  append_assoc,
  map-map,
)
