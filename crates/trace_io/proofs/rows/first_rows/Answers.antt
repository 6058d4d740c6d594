use Rattle.std.proofs.Common.{arith, ◌≡◌, ◌<◌, ◌∙◌, ℕ, Bor, List, [], ◌∷◌, Some, true, true≢false, ap, length}
use Rattle.std.proofs.Common.{sym, refl, inl, inr}
use Rattle.std.proofs.lemmas.List.{length-append, length-map}
use Rattle.csv.specs.{Reading.Reached, Reading.builder_is_flexible, Reading.strip_bom, Records.fields_of}
use Rattle.trace_io.specs.FirstRows.{is_want_of_memory}
use Rattle.trace_io.proofs.RowLemmas.{AreFirstRows-all, AreFirstRows-full, HasRead-more, is_want_of_memory-flexible}
use Rattle.trace_io.proofs.rows.first_rows.Goals as goal

pub loop-row-init : goal.loop-row-init
unfolding Reached
loop-row-init c =
    let fr = c.from_reader-reader.ensures in
    let e = c.has_headers.ensures in
    let f = c.flexible.ensures in
    let start = c.into_iter-row-iterator.ensures.into_iter_gives ∙ refl in
    let rdr = c.into_byte_records-row-items.ensures.rdr in
    let left = c.into_byte_records-row-items.ensures.left in
    rw (start, rdr, c.new-rows.ensures.items) (
      rw (f, e) at fr.trim ∙ c.new.ensures.trim,
      inr (inr (rw (f, e) at fr.has_headers, fr.headers)),
      left,
      rw (f, e) at fr.config ∙ c.new.ensures.config,
      fr.flexible ∙ ap builder_is_flexible f,
      omega arith,
      strip_bom c.args.text.now,
      fr.source,
      (sym fr.state, refl),
    )

pub loop-row-preserved : goal.loop-row-preserved
loop-row-preserved c =
    let inv = c.loop-row.invariant in
    let s = rw (c.in-Some.is, c.in-Ok.is) at ((c.next.ensures.steps inv.2 inv.0).0 inv.1) in
    let more = HasRead-more fields_of c.args.text.now c.loop-row.row-iterator.rdr c.next.new.self.rdr
    c.loop-row.rows.items _ c.in-Ok.row inv.3 (inv.6, inv.7, inv.8) s.0 c.in_ok-push-in-Ok.ensures.items in
    let still = rw (c.in-Some.is, c.in-Ok.is) at ((c.next.ensures.steps inv.2 inv.0).3) in
    let fewer : length c.push.new.self.items < 10001 =
    omega (
      arith,
      c.len.ensures,
      c.if-len-eq-MOST.false,
      c.push.new.self.ok.0,
      inv.5,
      ap length c.in_ok-push-in-Ok.ensures.items,
      length-append c.loop-row.rows.items (c.in-Ok.row ∷ []),
    ) in
    (s.0.3 ∙ inv.0, inl s.1, s.2, s.0.2 ∙ inv.3, still ∙ inv.4, fewer, more.0, more.1, more.2)

pub returns-then-len-eq-MOST : goal.returns-then-len-eq-MOST
returns-then-len-eq-MOST c =
    let inv = c.loop-row.invariant in
    let s = rw (c.in-Some.is, c.in-Ok.is) at ((c.next.ensures.steps inv.2 inv.0).0 inv.1) in
    let more = HasRead-more fields_of c.args.text.now c.loop-row.row-iterator.rdr c.next.new.self.rdr
    c.loop-row.rows.items _ c.in-Ok.row inv.3 (inv.6, inv.7, inv.8) s.0 c.in_ok-push-in-Ok.ensures.items in
    AreFirstRows-full c.args.text.now c.next.new.self.rdr _ more
    (rw length-map (omega (arith, c.len.ensures, c.if-len-eq-MOST.true, c.push.new.self.ok.0)))

pub returns : goal.returns
returns c =
    let inv = c.loop-row.invariant in
    let s = rw c.in-None.is at ((c.next.ensures.steps inv.2 inv.0).0 inv.1) in
    AreFirstRows-all c.args.text.now c.loop-row.row-iterator.rdr c.next.new.self.rdr _ inv.3 (inv.6, inv.7, inv.8)
    (rw length-map inv.5) s

pub prove-unreachable-requires : goal.prove-unreachable-requires
prove-unreachable-requires c =
    let inv = c.loop-row.invariant in
    let why = rw (c.in-Some.is, c.in-Err.is) at ((c.next.ensures.steps inv.2 inv.0).0 inv.1) in
    let is : c.is_want_of_memory.result ≡ true =
    c.is_want_of_memory.ensures ∙ ap is_want_of_memory c.kind.ensures
    ∙ is_want_of_memory-flexible (λ (s : Bor (List ℕ)). Some s.now) c.loop-row.row-iterator.rdr c.next.new.self.rdr
    c.in-Err.fault.kind inv.4 why in
    true≢false (sym is ∙ c.if-prove.true)
