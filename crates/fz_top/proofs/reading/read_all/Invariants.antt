use Rattle.std.proofs.Common.{◌≡◌, take}
use Rattle.fz_status.specs.Words.{texts_of}
use Rattle.command_parts.specs.Contents.{bytes_of}
use Rattle.fz_top.specs.Reads.{ReadsWhole}
use Rattle.fz_top.proofs.reading.read_all.Given as goal

abbrev pub invariant-loop-place : goal.invariant-loop-place
invariant-loop-place g l = record {
  files : (g.S.Shelf.told l.shelf).files ≡ (g.S.Shelf.told l.initial.shelf).files;
  whole : ReadsWhole (texts_of l.words) (take l.place-index l.places)
      (g.S.Shelf.told l.initial.shelf) (g.S.Shelf.told l.shelf) (bytes_of l.contents.items);
  reliable : g.S.Shelf.reliable l.initial.shelf → g.S.Shelf.reliable l.shelf;
}
