-- How the reads of a list of files go on.
use Rattle.std.proofs.Common.{◌≡◌, ◌≤◌, ◌<◌, ◌+◌, ℕ, zero, suc, List, [], ◌∷◌, ◌++◌, length, take, drop, get_or, sym}
use Rattle.std.proofs.Common.{◌∙◌, ap, subst, arith, append_assoc, add-one, drop-cons, take-append-drop}
use Rattle.std.proofs.Math.Seq.{take-suc}
use Rattle.std.proofs.lemmas.List.{map-append}
use Rattle.std.specs.List.{All}
use Rattle.fz_shelf.specs.{Files.Names, Files.Holds, Files.IsThere, Files.IsLong, Told.Log, Told.Counts}
use Rattle.fz_shelf.specs.{Told.ShelfTold, Faults.Rose}
use Rattle.fz_shelf.specs.declared.log.Answer.TheVariants.{Whole, Missed, Long}
use Rattle.fz_shelf.specs.declared.log.Answer.{Answer}
use Rattle.std.specs.declared.alloc.Global.{Global}
use Rattle.std.specs.declared.vec.Vec.{Vec}
use Rattle.fz_status.specs.Words.{Text, word_at}
use Rattle.command_parts.specs.Contents.{bytes_of}
use Rattle.fz_top.specs.Reads.{AreHeld, AreThere, names_at, whole_entries, Reads, ReadsOne, ReadsWhole, StopsAt}
use Rattle.fz_top.specs.Reads.{StopsBy}
use Rattle.fz_top.specs.declared.reading.Stop.{Stop}
use Rattle.fz_top.specs.declared.reading.Stop.TheVariants as stop

take_more : {X : Type 0} (xs : List X) (i : ℕ) (d : X) → i < length xs
    → take (i + 1) xs ≡ take i xs ++ get_or xs i d ∷ []
take_more xs i d lt = rw add-one (take-suc xs i d lt)

drop_here : {X : Type 0} (xs : List X) (i : ℕ) (d : X) → i < length xs
    → take i xs ++ get_or xs i d ∷ drop (suc i) xs ≡ xs
drop_here {X} xs i d lt = ap (λ (l : List X). take i xs ++ l) (sym (drop-cons xs i d lt)) ∙ take-append-drop i xs

held_more : (files : Names) (ns : List Text) (cs : List (List ℕ)) (n : Text) (c : List ℕ) → AreHeld files ns cs
    → Holds (files n) c → length c ≤ 1048576 → AreHeld files (ns ++ n ∷ []) (cs ++ c ∷ [])
held_more files [] [] n c h held small = (held, small, tt)
held_more files [] (x ∷ cs) n c h held small = absurd h
held_more files (m ∷ ns) [] n c h held small = absurd h
held_more files (m ∷ ns) (x ∷ cs) n c h held small = (h.0, h.1, held_more files ns cs n c h.2 held small)

pub there_at : (files : Names) (words : List Text) (places : List ℕ) (i : ℕ) (d : ℕ) → i < length places
    → AreThere files (names_at words places) → IsThere (files (word_at words (get_or places i d)))
there_at files words [] i d lt h = absurd (omega arith)
there_at files words (p ∷ ps) zero d lt h = h.0
there_at files words (p ∷ ps) (suc i) d lt h = there_at files words ps i d (omega arith) h.1

module _ {words : List Text} (places : List ℕ) {s0 s1 : ShelfTold} (s2 : ShelfTold) (i d : ℕ) (lt : i < length places)
    {cs : List (List ℕ)} (so_far : ReadsWhole words (take i places) s0 s1 cs) where
  entries_more : (entry : Log) → s2.asked ≡ s1.asked ++ entry
      → s2.asked ≡ s0.asked ++ (whole_entries words (take i places) ++ entry)
  entries_more entry more = more ∙ ap (λ (l : Log). l ++ entry) so_far.entries
      ∙ append_assoc s0.asked (whole_entries words (take i places)) entry

  reads : (kind : Answer) (p : ℕ) → p ≡ get_or places i d
      → s2.asked ≡ s1.asked ++ (word_at words (get_or places i d), kind) ∷ []
      → Reads words places p kind s0.files s0.asked s2.asked
  reads kind p is more = rw is record {
    before = take i places;
    after = drop (suc i) places;
    split = drop_here places i d lt;
    contents = cs;
    held = so_far.held;
    asked = entries_more ((word_at words (get_or places i d), kind) ∷ []) more;
  }

  module _ (same : s1.files ≡ s0.files) where
    more : (bytes : List ℕ) → ReadsOne words (get_or places i d) s1 s2 bytes
        → ReadsWhole words (take (i + 1) places) s0 s2 (cs ++ bytes ∷ [])
    more bytes one =
        let held : Holds (s0.files (word_at words (get_or places i d))) bytes =
        subst (λ (f : Names). Holds (f (word_at words (get_or places i d))) bytes) same one.held in
        rw (take_more places i d lt) record {
          held = rw map-append
              (held_more s0.files (names_at words (take i places)) cs (word_at words (get_or places i d)) bytes
              so_far.held held one.small);
          counts = one.counts ∙ so_far.counts;
          entries = rw map-append (entries_more ((word_at words (get_or places i d), Whole) ∷ []) one.entry);
        }

    pub stops_later : (s : Stop) → StopsAt words (get_or places i d) s1 s2 s
        → StopsBy words places s0.files s0.counts s2.counts s0.asked s2.asked s
    stops_later (stop.Failed p) at = (
      reads Missed p at.0 at.1,
      at.2 ∙ ap (λ (k : Counts). record k { reads = s2.counts.reads }) so_far.counts,
      subst (λ (k : Counts). Rose k.reads s2.counts.reads) so_far.counts at.3,
    )
    stops_later stop.Memory at = (
      at.0 ∙ so_far.counts,
      record {
        before = take i places;
        after = drop i places;
        split = take-append-drop i places;
        contents = cs;
        held = so_far.held;
        asked = at.1 ∙ so_far.entries;
      },
    )
    stops_later (stop.TooLong p) at = (
      reads Long p at.0 at.1,
      at.2 ∙ ap (λ (k : Counts). record k { longs = s2.counts.longs }) so_far.counts,
      subst (λ (k : Counts). Rose k.longs s2.counts.longs) so_far.counts at.3,
      subst (λ (q : ℕ). IsLong (s0.files (word_at words q))) (sym at.0)
          (subst (λ (f : Names). IsLong (f (word_at words (get_or places i d)))) same at.4),
    )

    -- memory was wanted for what was read last
    pub stops_behind : (bytes : List ℕ) → ReadsOne words (get_or places i d) s1 s2 bytes
        → StopsBy words places s0.files s0.counts s2.counts s0.asked s2.asked stop.Memory
    stops_behind bytes one = let whole = more bytes one in (
      whole.counts,
      record {
        before = take (i + 1) places;
        after = drop (i + 1) places;
        split = take-append-drop (i + 1) places;
        contents = cs ++ bytes ∷ [];
        held = whole.held;
        asked = whole.entries;
      },
    )

pub read_more : {words : List Text} (places : List ℕ) {s0 s1 s2 : ShelfTold} (i d : ℕ) → i < length places
    → (items items' : List (Vec ℕ Global)) (v : Vec ℕ Global) → ReadsWhole words (take i places) s0 s1 (bytes_of items)
    → s1.files ≡ s0.files → ReadsOne words (get_or places i d) s1 s2 v.items
    → items' ≡ items ++ v ∷ [] → ReadsWhole words (take (i + 1) places) s0 s2 (bytes_of items')
read_more {words} places {s0} {s1} {s2} i d lt items items' v so_far same one added =
    subst (λ (l : List (Vec ℕ Global)). ReadsWhole words (take (i + 1) places) s0 s2 (bytes_of l))
    (sym added) (rw map-append (more places s2 i d lt so_far same v.items one))

pub there_later : (files files' : Names) (words : List Text) (places : List ℕ) (i : ℕ) (d : ℕ) → i < length places
    → files' ≡ files → AreThere files (names_at words places)
    → IsThere (files' (word_at words (get_or places i d)))
there_later files files' words places i d lt same there =
    subst (λ (f : Names). IsThere (f (word_at words (get_or places i d)))) (sym same)
    (there_at files words places i d lt there)

held_each : (files : Names) (ns : List Text) (cs : List (Vec ℕ Global)) → AreHeld files ns (bytes_of cs)
    → (k : ℕ) (d : Vec ℕ Global) → k < length cs → length (get_or cs k d).items ≤ 1048576
held_each files ns [] h k d lt = absurd (omega arith)
held_each files [] (x ∷ cs) h k d lt = absurd h
held_each files (m ∷ ns) (x ∷ cs) h zero d lt = h.1
held_each files (m ∷ ns) (x ∷ cs) h (suc k) d lt = held_each files ns cs h.2 k d (omega arith)

pub held_small : (files : Names) (ns : List Text) (cs : List (Vec ℕ Global)) → AreHeld files ns (bytes_of cs)
    → All (λ (c : Vec ℕ Global). length c.items ≤ 1048576) cs
held_small files ns cs h = λ k d lt. held_each files ns cs h k d lt
