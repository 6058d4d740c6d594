-- A run from its parts.
use Rattle.std.proofs.Common.{◌≡◌, ◌⊎◌, ◌<◌, inl, inr, ⊎_elim, ℕ, List, [], ◌∷◌, ◌++◌, length, refl, sym, ◌∙◌, ap}
use Rattle.std.proofs.Common.{ap₂, subst, arith}
use Rattle.std.specs.Prelude.{Option, Some, None, Result, Ok, Err}
use Rattle.std.proofs.lemmas.List.{append-nil}
use Rattle.std.specs.List.{concat}
use Rattle.fz_shelf.specs.Files.{File, IsThere, IsLong, Holds, Names, known as known_file}
use Rattle.std.specs.declared.alloc.Global.{Global}
use Rattle.std.specs.declared.vec.Vec.{Vec}
use Rattle.fz_status.specs.{Refusals.CarriesNoMemory, Words.Text, Words.word_at}
use Rattle.command_parts.specs.Contents.{bytes_of}
use Rattle.command_parts.specs.SeenOutputs.{HasOutput, IsFaultOf, OutputHasNoFault, SeenOutput}
use Rattle.fz_top.specs.{Accepted.CommandsAreSettled, Commands.Makes, Commands.command_in, Commands.inputs_of}
use Rattle.fz_top.specs.declared.command.Command.{Command}
use Rattle.fz_top.specs.Reads.{ReadsWhole, AreHeld, AreThere, names_at}
use Rattle.fz_top.specs.Runs.{HasNoFault, HasOneResult, Faulted, IsMade, IsReadFault, IsTooLong, OutOfMemory}
use Rattle.fz_top.specs.Runs.{read_whole, IsWriteFault, Settles, status_of, IsReady, AreKnown, FileFits, Worked, Delivered}
use Rattle.fz_top.specs.Runs.{WriteFailed, PutFailed, ChangesOnly, Runs}
use Rattle.fz_shelf.specs.Told.{Counts, HasRoom, Log, ShelfTold, SinkTold, World, world}
use Rattle.fz_top.specs.declared.reading.Stop.TheVariants as stop
use Rattle.fz_status.specs.declared.status.Status.{Status}
use Rattle.fz_status.specs.declared.status.Status.TheVariants as status
use Rattle.fz_top.proofs.StatusLemmas.{Kind, done, failed_read, failed_write, kind_of, long_read, no_command}
use Rattle.fz_top.proofs.StatusLemmas.{no_memory, of_contents}

-- what was read and made, before anything is written
pub record Made (words : List Text) (s0 s1 : ShelfTold) (output : SeenOutput) : Type 0 where
  pub command : Command
  pub is : command_in words ≡ Some command
  pub contents : List (List ℕ)
  pub files : s1.files ≡ s0.files
  pub whole : ReadsWhole words (inputs_of command) s0 s1 contents
  pub outcome : Makes command contents (Ok output)

-- memory was wanted behind that
no_memory_behind : (words : List Text) (command : Command) (old : World) (contents : List (List ℕ))
    → command_in words ≡ Some command → AreHeld old.files (names_at words (inputs_of command)) contents
    → OutOfMemory words old (read_whole words command old)
no_memory_behind words command old contents is held = record {
  counts = refl;
  untouched = record { files = refl; writes = refl; told = refl; faults = refl };
  reads = inr (
    command,
    is,
    record {
      before = inputs_of command;
      after = [];
      split = append-nil (inputs_of command);
      contents = contents;
      held = held;
      asked = refl;
    },
  );
}

known_held : (files : Names) (ns : List Text) (cs cs' : List (List ℕ)) → AreKnown files ns cs → AreHeld files ns cs'
    → cs' ≡ cs
known_held files [] [] [] known held = refl
known_held files [] [] (x ∷ cs') known held = absurd held
known_held files [] (c ∷ cs) cs' known held = absurd known
known_held files (n ∷ ns) [] cs' known held = absurd known
known_held files (n ∷ ns) (c ∷ cs) [] known held = absurd held
known_held files (n ∷ ns) (c ∷ cs) (x ∷ cs') known held =
    let same : x ≡ c = subst (λ (f : File). Holds f x) known.0.1 held.0 in
    let rest : cs' ≡ cs = known_held files ns cs cs' known.2 held.2 in
    cc (same, rest)

pub same_command : {a b : Command} → {o : Option Command} → o ≡ Some a → o ≡ Some b → a ≡ b
same_command {a} {b} {o} x y = cc (x, y)

-- what a ready run makes of its words
module _ (words : List Text) (files : Names) (command : Command) (contents : List (List ℕ))
    (is : command_in words ≡ Some command)
    (known : AreKnown files (names_at words (inputs_of command)) contents) where
  pub makes_same : (other : Command) (cs : List (List ℕ)) (r : Result SeenOutput Status) → command_in words ≡ Some other
      → AreHeld files (names_at words (inputs_of other)) cs → Makes other cs r → Makes command contents r
  makes_same other cs r other_is held makes =
      let same = same_command other_is is in
      let all = known_held files (names_at words (inputs_of command)) contents cs known (rw same at held) in
      rw all at (rw same at makes)

module _ {words : List Text} {s0 s1 : ShelfTold} where
  pub make : {command : Command} {places : List ℕ} {contents slice : List (Vec ℕ Global)} {output : SeenOutput}
      → command_in words ≡ Some command → s1.files ≡ s0.files → places ≡ inputs_of command
      → ReadsWhole words places s0 s1 (bytes_of contents) → slice ≡ contents
      → Makes command (bytes_of slice) (Ok output) → Made words s0 s1 output
  make {command} {places} {contents} {slice} {output} is files at whole same outcome = record {
    command = command;
    is = is;
    contents = bytes_of contents;
    files = files;
    whole = subst (λ (ps : List ℕ). ReadsWhole words ps s0 s1 (bytes_of contents)) at whole;
    outcome = subst (λ (cs : List (Vec ℕ Global)). Makes command (bytes_of cs) (Ok output)) same outcome;
  }

module _ {words : List Text} {s0 s1 : ShelfTold} (o : SinkTold) where
  -- the files were read whole, and nothing else was done
  left_by : (command : Command) (contents : List (List ℕ)) → s1.files ≡ s0.files
      → ReadsWhole words (inputs_of command) s0 s1 contents → world s1 o ≡ read_whole words command (world s0 o)
  left_by command contents files whole =
      ap (λ (f : Names). world (record s1 { files = f }) o) files
      ∙ ap₂ (λ (k : Counts) (a : Log). world (record s0 { counts = k; asked = a }) o) whole.counts whole.entries

  abbrev worked : {output : SeenOutput} → Made words s0 s1 output → Worked words (world s0 o) (Ok output)
  worked made = record {
    command = made.command;
    is = made.is;
    contents = made.contents;
    held = made.whole.held;
    outcome = made.outcome;
  }

  behind : {output : SeenOutput} (made : Made words s0 s1 output)
      → world s1 o ≡ read_whole words made.command (world s0 o)
  behind made = left_by made.command made.contents made.files made.whole

  pub ran : {output : SeenOutput} → Made words s0 s1 output → (new : World) → Delivered words output (world s1 o) new
      → Runs words (world s0 o) new status.Ok
  ran {output} made new d =
      (output, worked made, subst (λ (w : World). Delivered words output w new) (behind made) d)

  pub broke : {output : SeenOutput} → Made words s0 s1 output → (new : World)
      → ChangesOnly words output.file s1.files new.files
      → WriteFailed words output (world s1 o) new ⊎ PutFailed words output (world s1 o) new
      → Runs words (world s0 o) new status.WriteFault
  broke {output} made new only why = (
    output,
    worked made,
    subst (λ (f : Names). ChangesOnly words output.file f new.files) made.files only,
    subst (λ (w : World). WriteFailed words output w new ⊎ PutFailed words output w new) (behind made) why,
  )

  pub wanted : {output : SeenOutput} → Made words s0 s1 output → (new : World) → new ≡ world s1 o
      → Runs words (world s0 o) new status.Memory
  wanted made new same = subst (λ (w : World). OutOfMemory words (world s0 o) w) (sym (same ∙ behind made))
      (no_memory_behind words made.command (world s0 o) made.contents made.is made.whole.held)

  -- the contents were refused, or memory was wanted for what they make
  pub stopped : {command : Command} {places : List ℕ} {contents slice : List (Vec ℕ Global)} (s : Status)
      → command_in words ≡ Some command → s1.files ≡ s0.files → places ≡ inputs_of command
      → ReadsWhole words places s0 s1 (bytes_of contents) → slice ≡ contents
      → IsFaultOf (Makes command (bytes_of slice)) s → Runs words (world s0 o) (world s1 o) s
  stopped {command} {places} {contents} {slice} s is files at whole same fault = go s (kind_of s) fault
    where
      all : ReadsWhole words (inputs_of command) s0 s1 (bytes_of contents)
      all = subst (λ (ps : List ℕ). ReadsWhole words ps s0 s1 (bytes_of contents)) at whole

      left : world s1 o ≡ read_whole words command (world s0 o)
      left = left_by command (bytes_of contents) files all

      faulted : (t : Status) → Makes command (bytes_of slice) (Err t) → Faulted words (world s0 o) (world s1 o) t
      faulted t makes = record {
        worked = record {
          command = command;
          is = is;
          contents = bytes_of contents;
          held = all.held;
          outcome = subst (λ (cs : List (Vec ℕ Global)). Makes command (bytes_of cs) (Err t)) same makes;
        };
        left = left;
      }

      go : (t : Status) → Kind t → IsFaultOf (Makes command (bytes_of slice)) t → Runs words (world s0 o) (world s1 o) t
      go _ done fault = absurd fault
      go _ no_command fault = absurd fault
      go _ (failed_read p) fault = absurd fault
      go _ failed_write fault = absurd fault
      go _ no_memory fault = subst (λ (w : World). OutOfMemory words (world s0 o) w) (sym left)
          (no_memory_behind words command (world s0 o) (bytes_of contents) is all.held)
      go _ (long_read p) fault = absurd fault
      go _ (of_contents t of) fault = of.runs words _ _ (faulted t (of.made command (bytes_of slice) fault))

  pub room_of : {output : SeenOutput} → Made words s0 s1 output → (command : Command) (contents : List (List ℕ))
      → IsReady words (world s0 o) command contents
      → FileFits words output.file s1.files × HasRoom o.taken (length (concat output.lines))
  room_of {output} made command contents ready =
      let room = ready.room output
      (makes_same words s0.files command contents ready.is ready.known made.command made.contents (Ok output) made.is
      made.whole.held made.outcome) in
      (subst (λ (f : Names). FileFits words output.file f) (sym made.files) room.0, room.1)

-- files that the shelf tells are there
pub known_there : (files : Names) (ns : List Text) (cs : List (List ℕ)) → AreKnown files ns cs → AreThere files ns
known_there files [] [] known = tt
known_there files [] (c ∷ cs) known = absurd known
known_there files (n ∷ ns) [] known = absurd known
known_there files (n ∷ ns) (c ∷ cs) known =
    (subst (λ (f : File). IsThere f) (sym known.0.1) tt, known_there files ns cs known.2)

not_long : (files : Names) (words : List Text) (before after : List ℕ) (p : ℕ) (cs : List (List ℕ))
    → AreKnown files (names_at words (before ++ p ∷ after)) cs → IsLong (files (word_at words p)) → ⊥
not_long files words [] after p [] known long = absurd known
not_long files words [] after p (c ∷ cs) known long =
    let over : 1048576 < length c = subst (λ (f : File). IsLong f) known.0.1 long in
    omega (arith, over, known.1)
not_long files words (b ∷ before) after p [] known long = absurd known
not_long files words (b ∷ before) after p (c ∷ cs) known long = not_long files words before after p cs known.2 long

module _ (words : List Text) (old new : World) (command : Command) (contents : List (List ℕ))
    (is : command_in words ≡ Some command)
    (known : AreKnown old.files (names_at words (inputs_of command)) contents)
    (one : HasOneResult (Makes command contents)) where
  made_by : (r : Result SeenOutput Status) → Worked words old r → IsMade (Makes command contents) (status_of r)
  made_by r w = (
    one,
    r,
    makes_same words old.files command contents is known w.command w.contents r w.is w.held w.outcome,
    refl,
  )

  settles_as : (s : Status) → Kind s → Runs words old new s → Settles (Makes command contents) s
  settles_as _ done runs = inl (made_by (Ok runs.0) runs.1)
  settles_as _ no_command runs = absurd (let e : Some command ≡ None = sym is ∙ runs.0 in cc)
  settles_as _ (failed_read p) runs = inr (inr (inl tt))
  settles_as _ failed_write runs = inr (inr (inr tt))
  settles_as _ no_memory runs = inr (inl refl)
  settles_as _ (long_read p) runs =
      let stops = rw (same_command runs.is is) at runs.stops in
      let at = rw (← stops.0.split) at known in
      absurd (not_long old.files words stops.0.before stops.0.after p contents at stops.3)
  settles_as _ (of_contents s of) runs = inl (made_by (Err s) (of.faulted words old new runs).worked)

  pub settles : (s : Status) → Runs words old new s → Settles (Makes command contents) s
  settles s runs = settles_as s (kind_of s) runs

  pub completes : (s : Status) → Runs words old new s → (IsReadFault s → ⊥) → (IsWriteFault s → ⊥)
      → IsMade (Makes command contents) s ⊎ (s ≡ status.Memory)
  completes s runs no_read no_write =
      ⊎_elim inl (⊎_elim inr (⊎_elim (λ r. absurd (no_read r)) (λ w. absurd (no_write w)))) (settles s runs)

-- ---- what can be done is done

abbrev IsDone : Status → Type 0
IsDone s = (s ≡ status.Ok) ⊎ (s ≡ status.Memory)

pub does : (words : List Text) (old new : World) (command : Command) (contents : List (List ℕ))
    → command_in words ≡ Some command → AreKnown old.files (names_at words (inputs_of command)) contents
    → HasOneResult (Makes command contents) → OutputHasNoFault (Makes command contents)
    → HasOutput (Makes command contents) → (s : Status) → Runs words old new s
    → (IsReadFault s → ⊥) → (IsWriteFault s → ⊥) → IsDone s
does words old new command contents named known one apart made s runs no_read no_write =
    go (completes words old new command contents named known one s runs no_read no_write)
  where
    go : IsMade (Makes command contents) s ⊎ (s ≡ status.Memory) → IsDone s
    go (inr memory) = inr memory
    go (inl (_, Ok output, makes, is)) = inl is
    go (inl (_, Err t, makes, is)) = absurd (apart made.0 t made.1 makes)

-- neither is where no count rose
pub no_faults : (words : List Text) (old new : World) → HasNoFault old new → (s : Status) → Runs words old new s
    → (IsReadFault s → ⊥) × (IsWriteFault s → ⊥)
no_faults words old new none s runs = go s (kind_of s) runs
  where
    go : (t : Status) → Kind t → Runs words old new t → (IsReadFault t → ⊥) × (IsWriteFault t → ⊥)
    go _ done at = (λ is. is, λ is. is)
    go _ no_command at = (λ is. is, λ is. is)
    go _ (failed_read p) at = (λ is. none.reads at.stops.2, λ is. is)
    go _ failed_write at = (λ is. is, λ is. ⊎_elim (λ w. none.writes w.rose) (λ p. none.puts p.rose) at.3)
    go _ no_memory at = (λ is. is, λ is. is)
    go _ (long_read p) at = (λ is. is, λ is. is)
    go _ (of_contents t of) at = (of.no_read, of.no_write)

none_some : {w : Option Command} {c : Command} → w ≡ None → w ≡ Some c → ⊥
none_some {w} {c} none some = let bad : None ≡ Some c = sym none ∙ some in cc

pub usage_status : (words : List Text) (old new : World) (s : Status) → Runs words old new s
    → command_in words ≡ None → (s ≡ status.Usage) ⊎ (s ≡ status.Memory)
usage_status words old new s runs none = go s (kind_of s) runs
  where
    go : (t : Status) → Kind t → Runs words old new t → (t ≡ status.Usage) ⊎ (t ≡ status.Memory)
    go _ done at = absurd (none_some none at.1.is)
    go _ no_command at = inl refl
    go _ (failed_read p) at = absurd (none_some none at.is)
    go _ failed_write at = absurd (none_some none at.1.is)
    go _ no_memory at = inr refl
    go _ (long_read p) at = absurd (none_some none at.is)
    go _ (of_contents t of) at = absurd (none_some none (of.faulted words old new at).worked.is)

pub usage_cause : (words : List Text) (old new : World) (s : Status) → Runs words old new s → s ≡ status.Usage
    → command_in words ≡ None
usage_cause words old new s runs is =
    let at : Runs words old new status.Usage = subst (λ (t : Status). Runs words old new t) is runs in at.0

-- ---- a file that is too long

-- what was held of a file that is told as long is too long itself
never_held : (files : Names) (words : List Text) (before after : List ℕ) (p : ℕ) (cs : List (List ℕ))
    (bytes : List ℕ) (room : ℕ) → files (word_at words p) ≡ known_file bytes room → 1048576 < length bytes
    → AreHeld files (names_at words (before ++ p ∷ after)) cs → ⊥
never_held files words [] after p [] bytes room told long held = absurd held
never_held files words [] after p (c ∷ cs) bytes room told long held =
    let same : c ≡ bytes = subst (λ (f : File). Holds f c) told held.0 in
    omega (arith, held.1, long, ap length same)
never_held files words (b ∷ before) after p [] bytes room told long held = absurd held
never_held files words (b ∷ before) after p (c ∷ cs) bytes room told long held =
    never_held files words before after p cs bytes room told long held.2

-- of two cuts of one list, where the files before the first cut are known and short, and those
-- before the second were held, and both cut at a long file, the cuts are one
same_cut : (files : Names) (words : List Text) (before after : List ℕ) (p : ℕ) (before' after' : List ℕ) (q : ℕ)
    (cs cs' : List (List ℕ)) (bytes : List ℕ) (room : ℕ)
    → before ++ p ∷ after ≡ before' ++ q ∷ after' → AreKnown files (names_at words before) cs
    → files (word_at words p) ≡ known_file bytes room → 1048576 < length bytes
    → AreHeld files (names_at words before') cs' → IsLong (files (word_at words q)) → q ≡ p
same_cut files words [] after p [] after' q cs cs' bytes room cut known_before told long held is_long = cc
same_cut files words [] after p (b ∷ before') after' q cs [] bytes room cut known_before told long held is_long =
    absurd held
same_cut files words [] after p (b ∷ before') after' q cs (c ∷ cs') bytes room cut known_before told long held is_long =
    let e : b ≡ p = cc in
    let at : files (word_at words b) ≡ known_file bytes room = ap (λ (n : ℕ). files (word_at words n)) e ∙ told in
    absurd (never_held files words [] [] b (c ∷ []) bytes room at long (held.0, held.1, tt))
same_cut files words (a ∷ before) after p [] after' q [] cs' bytes room cut known_before told long held is_long =
    absurd known_before
same_cut files words (a ∷ before) after p [] after' q (c ∷ cs) cs' bytes room cut known_before told long held is_long =
    let e : q ≡ a = cc in
    let at : IsLong (files (word_at words a)) = subst (λ (n : ℕ). IsLong (files (word_at words n))) e is_long in
    let over : 1048576 < length c = subst (λ (f : File). IsLong f) known_before.0.1 at in
    absurd (omega (arith, over, known_before.1))
same_cut files words (a ∷ before) after p (b ∷ before') after' q [] cs' bytes room cut known_before told long held
    is_long = absurd known_before
same_cut files words (a ∷ before) after p (b ∷ before') after' q (c ∷ cs) [] bytes room cut known_before told long held
    is_long = absurd held
same_cut files words (a ∷ before) after p (b ∷ before') after' q (c ∷ cs) (c' ∷ cs') bytes room cut known_before told
    long held is_long =
    let rest : before ++ p ∷ after ≡ before' ++ q ∷ after' = cc in
    same_cut files words before after p before' after' q cs cs' bytes room rest known_before.2 told long held.2 is_long

module _ (words : List Text) (old new : World) (place : ℕ) (long : IsTooLong words old.files place) where
  no_work : (r : Result SeenOutput Status) → Worked words old r → ⊥
  no_work r w =
      let held = rw (same_command w.is long.is) at w.held in
      let at = rw (← long.split) at held in
      never_held old.files words long.before long.after place w.contents long.bytes long.room long.told long.long at

  long_status_as : (s : Status) → Kind s → Runs words old new s → (s ≡ status.TooLong place) ⊎
      (IsReadFault s ⊎ (s ≡ status.Memory))
  long_status_as _ done runs = absurd (no_work (Ok runs.0) runs.1)
  long_status_as _ no_command runs = absurd (none_some runs.0 long.is)
  long_status_as _ (failed_read p) runs = inr (inl tt)
  long_status_as _ failed_write runs = absurd (no_work (Ok runs.0) runs.1)
  long_status_as _ no_memory runs = inr (inr refl)
  long_status_as _ (long_read q) runs =
      let stops = rw (same_command runs.is long.is) at runs.stops in
      let e : q ≡ place = same_cut old.files words long.before long.after place stops.0.before stops.0.after q
      long.contents stops.0.contents long.bytes long.room
      (long.split ∙ sym stops.0.split) long.known_before long.told long.long stops.0.held stops.3 in
      inl (ap (λ (n : ℕ). status.TooLong n) e)
  long_status_as _ (of_contents s of) runs = absurd (no_work (Err s) (of.faulted words old new runs).worked)

  pub long_status : (s : Status) → Runs words old new s → (s ≡ status.TooLong place) ⊎
      (IsReadFault s ⊎ (s ≡ status.Memory))
  long_status s runs = long_status_as s (kind_of s) runs

-- ---- a fault that is made carries no want of memory

pub carries : CommandsAreSettled → (words : List Text) (old new : World) (s : Status) → Runs words old new s
    → CarriesNoMemory s
carries settled words old new s runs = go s (kind_of s) runs
  where
    go : (t : Status) → Kind t → Runs words old new t → CarriesNoMemory t
    go _ done at = tt
    go _ no_command at = tt
    go _ (failed_read p) at = tt
    go _ failed_write at = tt
    go _ no_memory at = tt
    go _ (long_read p) at = tt
    go _ (of_contents t of) at =
        let fault = (of.faulted words old new at).worked in
        ((settled fault.command fault.contents).contents t fault.outcome).0
