-- What is noted, by each address.
use Rattle.std.proofs.Common.{◌≡◌, ℕ, zero, suc, ◌==◌, ◌||◌, inl, inr, Bool, true, false, not, List, [], ◌∷◌, length}
use Rattle.std.proofs.Common.{refl, sym, ap, ◌∙◌, arith}
use Rattle.std.specs.Prelude.{Option, Some, None, option_map, if◌then◌else◌, slice_index, slice_index_or}
use Rattle.std.specs.BTreeSet.{BTreeSet, contains_by}
use Rattle.std.specs.BTreeMap.{is_at}
use Rattle.std.specs.List.{list_any}
use Rattle.std.specs.Ordering.{nat_cmp}
use Rattle.std.proofs.lemmas.Bool.{or_cases}
use Rattle.std.proofs.lemmas.Bool.Decides.{nat_tests}
use Rattle.cpu12_isa.specs.Watching.{NothingIsWatched, any_changed, is_changed, noted_again, nothing_noted}
use Rattle.run_law.specs.Forms.{RowSeen}
use Rattle.run_forms.specs.RunRests.{RestHere}
use Rattle.alone_runs.specs.Sessions.{SessionSeen}
use Rattle.debug_script.specs.{Noting.AreNoted, Noting.NotesBytes, Noting.noted_at, Showing.no_marks, Showing.stops}
use Rattle.debug_script.specs.declared.marks.Marks.{Marks}

-- ---- bytes that are noted again

length_again : (noted : List (Option ℕ)) (mem : List ℕ) → length (noted_again noted mem) ≡ length noted
length_again [] mem = refl
length_again (n ∷ ns) [] = refl
length_again (n ∷ ns) (v ∷ vs) = ap suc (length_again ns vs)

again_at : (noted : List (Option ℕ)) (mem : List ℕ) (at : ℕ) → length noted ≡ length mem
    → slice_index_or (noted_again noted mem) at None ≡ option_map (λ b. slice_index mem at)
    (slice_index_or noted at None)
again_at [] mem at e = refl
again_at (n ∷ ns) [] at e = absurd (omega arith)
again_at (n ∷ ns) (v ∷ vs) zero e = refl
again_at (n ∷ ns) (v ∷ vs) (suc at) e = again_at ns vs at (omega arith)

again_noted : (watches : BTreeSet ℕ) (mem new : List ℕ) (at : ℕ)
    → option_map (λ b. slice_index new at) (noted_at watches mem at) ≡ noted_at watches new at
again_noted watches mem new at = by_test (contains_by (nat_cmp at) watches)
  where
    by_test : (is : Bool)
        → option_map (λ b. slice_index new at) (if is then Some (slice_index mem at) else None)
        ≡ (if is then Some (slice_index new at) else None)
    by_test true = refl
    by_test false = refl

noted_anew : (watches : BTreeSet ℕ) (mem new : List ℕ) (noted : List (Option ℕ)) → length new ≡ 65536
    → AreNoted watches mem noted → AreNoted watches new (noted_again noted new)
noted_anew watches mem new noted long are = record {
  size = length_again noted new ∙ are.size;
  bytes = λ at.
      again_at noted new at (are.size ∙ sym long)
      ∙ ap (option_map (λ b. slice_index new at)) (are.bytes at)
      ∙ again_noted watches mem new at;
}

-- ---- whether a noted byte is another now

same_truth : (a b : Bool) → (a ≡ true → b ≡ true) → (b ≡ true → a ≡ true) → a ≡ b
same_truth true b there back = sym (there refl)
same_truth false true there back = back refl
same_truth false false there back = refl

or_true : (a b : Bool) → b ≡ true → (a || b) ≡ true
or_true true b e = refl
or_true false b e = e

changed_somewhere : (noted : List (Option ℕ)) (mem : List ℕ) → any_changed noted mem ≡ true
    → (at : ℕ) × (is_changed (slice_index_or noted at None) (slice_index mem at) ≡ true)
changed_somewhere [] mem e = absurd cc
changed_somewhere (n ∷ ns) [] e = absurd cc
changed_somewhere (n ∷ ns) (v ∷ vs) e = elim (or_cases (is_changed n v) (any_changed ns vs) e) [
  | inl here ↦ (0, here)
  | inr later ↦ (let found = changed_somewhere ns vs later in (suc found.0, found.1))
]

changed_at : (noted : List (Option ℕ)) (mem : List ℕ) (at : ℕ) → length noted ≡ length mem
    → is_changed (slice_index_or noted at None) (slice_index mem at) ≡ true → any_changed noted mem ≡ true
changed_at [] mem at e is = absurd cc
changed_at (n ∷ ns) [] at e is = absurd (omega arith)
changed_at (n ∷ ns) (v ∷ vs) zero e is = rw is refl
changed_at (n ∷ ns) (v ∷ vs) (suc at) e is =
    or_true (is_changed n v) (any_changed ns vs) (changed_at ns vs at (omega arith) is)

-- a key that passes a test
key_passes : (test : ℕ → Bool) (keys : List ℕ) → list_any test keys ≡ true
    → (at : ℕ) × (list_any (is_at (nat_cmp at)) keys ≡ true) × (test at ≡ true)
key_passes test [] e = absurd cc
key_passes test (k ∷ ks) e = elim (or_cases (test k) (list_any test ks) e) [
  | inl here ↦ (let same : is_at (nat_cmp k) k ≡ true = grind (arith, nat_tests) in (k, rw same refl, here))
  | inr later ↦ (let found = key_passes test ks later in
      (found.0, or_true (is_at (nat_cmp found.0) k) _ found.1, found.2))
]

same_key : (a b : ℕ) → is_at (nat_cmp a) b ≡ true → a ≡ b
same_key a b e = grind (arith, nat_tests)

passes_at : (test : ℕ → Bool) (keys : List ℕ) (at : ℕ) → list_any (is_at (nat_cmp at)) keys ≡ true → test at ≡ true
    → list_any test keys ≡ true
passes_at test [] at e is = absurd cc
passes_at test (k ∷ ks) at e is = elim (or_cases (is_at (nat_cmp at) k) (list_any (is_at (nat_cmp at)) ks) e) [
  | inl here ↦ (let there : test k ≡ true = sym (ap test (same_key at k here)) ∙ is in rw there refl)
  | inr later ↦ or_true (test k) (list_any test ks) (passes_at test ks at later is)
]

changed_key : (is : Bool) (b v : ℕ) → is_changed (if is then Some b else None) v ≡ true
    → (is ≡ true) × (not (b == v) ≡ true)
changed_key true b v e = (refl, e)
changed_key false b v e = absurd cc

key_changed : (is : Bool) (b v : ℕ) → is ≡ true → not (b == v) ≡ true
    → is_changed (if is then Some b else None) v ≡ true
key_changed is b v e differs = rw e differs

watched_differ : (watches : BTreeSet ℕ) (mem new : List ℕ) (noted : List (Option ℕ)) → length new ≡ 65536
    → AreNoted watches mem noted
    → any_changed noted new ≡ list_any (λ at. not (slice_index mem at == slice_index new at)) watches.keys
watched_differ watches mem new noted long are = same_truth _ _ there back
  where
    differs : ℕ → Bool
    differs at = not (slice_index mem at == slice_index new at)

    changed : (at : ℕ) → is_changed (slice_index_or noted at None) (slice_index new at)
        ≡ is_changed (noted_at watches mem at) (slice_index new at)
    changed at = ap (λ (o : Option ℕ). is_changed o (slice_index new at)) (are.bytes at)

    there : any_changed noted new ≡ true → list_any differs watches.keys ≡ true
    there e =
        let found = changed_somewhere noted new e in
        let at = found.0 in
        let key = changed_key (contains_by (nat_cmp at) watches) (slice_index mem at) (slice_index new at)
        (sym (changed at) ∙ found.1) in
        passes_at differs watches.keys at key.0 key.1

    back : list_any differs watches.keys ≡ true → any_changed noted new ≡ true
    back e =
        let found = key_passes differs watches.keys e in
        let at = found.0 in
        let is = key_changed (contains_by (nat_cmp at) watches) (slice_index mem at)
        (slice_index new at) found.1 found.2 in
        changed_at noted new at (are.size ∙ sym long) (changed at ∙ is)

-- ---- a session

-- the same bytes are noted alike
noted_as : (watches : BTreeSet ℕ) (mem same : List ℕ) (noted other : List (Option ℕ)) → same ≡ mem → other ≡ noted
    → AreNoted watches mem noted → AreNoted watches same other
noted_as watches mem same noted other e f are = record {
  size = ap length f ∙ are.size;
  bytes = λ at.
      ap (λ (l : List (Option ℕ)). slice_index_or l at None) f
      ∙ are.bytes at
      ∙ ap (λ (m : List ℕ). noted_at watches m at) (sym e);
}

-- the bytes where a session stands
abbrev bytes_here : SessionSeen → List ℕ
bytes_here s = s.rest.here.state.mem

-- it goes on and notes them there
pub notes_there : (watches : BTreeSet ℕ) (old there new : SessionSeen) → there.noted ≡ old.noted
    → length (bytes_here there) ≡ 65536 → new.rest ≡ there.rest
    → new.noted ≡ noted_again there.noted (bytes_here there) → NotesBytes watches old → NotesBytes watches new
notes_there watches old there new kept long same noted notes =
    noted_as watches (bytes_here there) (bytes_here new) (noted_again old.noted (bytes_here there)) new.noted
    (ap (λ (o : RestHere (RowSeen (List ℕ))). o.here.state.mem) same)
    (noted ∙ ap (λ (l : List (Option ℕ)). noted_again l (bytes_here there)) kept)
    (noted_anew watches (bytes_here old) (bytes_here there) old.noted long notes)

-- there it tells whether the run stops
stops_there : (marks : Marks) (old there : SessionSeen) → there.noted ≡ old.noted → length (bytes_here there) ≡ 65536
    → NotesBytes marks.watches old
    → (contains_by (nat_cmp there.rest.here.state.regs.pc) marks.breaks || any_changed there.noted
    (bytes_here there))
    ≡ stops marks old.rest.here there.rest.here
stops_there marks old there kept long notes =
    ap (λ (changed : Bool). contains_by (nat_cmp there.rest.here.state.regs.pc) marks.breaks || changed)
    (ap (λ (l : List (Option ℕ)). any_changed l (bytes_here there)) kept
    ∙ watched_differ marks.watches (bytes_here old) (bytes_here there) old.noted long notes)

-- and where it notes the bytes there, what was told stays true
pub stops_at_next : (marks : Marks) (old there new : SessionSeen) (told : Bool) → there.noted ≡ old.noted
    → length (bytes_here there) ≡ 65536 → new.rest ≡ there.rest → NotesBytes marks.watches old
    → told ≡ (contains_by (nat_cmp there.rest.here.state.regs.pc) marks.breaks || any_changed there.noted
    (bytes_here there))
    → stops marks old.rest.here new.rest.here ≡ told
stops_at_next marks old there new told kept long same notes is =
    ap (λ (o : RestHere (RowSeen (List ℕ))). stops marks old.rest.here o.here) same
    ∙ sym (is ∙ stops_there marks old there kept long notes)

-- at first none is
pub notes_nothing : (marks : Marks) (s : SessionSeen) → marks ≡ no_marks → s.noted ≡ nothing_noted → NothingIsWatched
    → NotesBytes marks.watches s
notes_nothing marks s none noted nothing = record {
  size = ap length noted ∙ nothing.0;
  bytes = λ at.
      ap (λ (l : List (Option ℕ)). slice_index_or l at None) noted
      ∙ nothing.1 at
      ∙ ap (λ (m : Marks). noted_at m.watches (bytes_here s) at) (sym none);
}
