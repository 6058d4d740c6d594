-- The firmware of a block with watched tables answers every list of samples, with a byte of its tables changed in each.
use Rattle.watched_code.proofs.Words.{[], ◌%◌, ◌*◌, ◌+◌, ◌-◌, ◌<◌, ◌==◌, ◌^◌, ◌∙◌, ◌∷◌, ◌≡◌, ◌≢◌, ◌≤◌, AgreeFrom, All}
use Rattle.watched_code.proofs.Words.{answer, ap, AreInputBytes, AreWatchAnswered, arith, Block, Bool, Byte}
use Rattle.watched_code.proofs.Words.{bytes_set_out, cases_eq, Change, check_byte, code_bytes, code_length}
use Rattle.watched_code.proofs.Words.{default_of, Execution, false, fault_at, get_or, get_or-set_other}
use Rattle.watched_code.proofs.Words.{get_or-set_same, HasBytes, HasRoutine, Home, if◌then◌else◌, inl, inr}
use Rattle.watched_code.proofs.Words.{instruction_bound, is_free, IsApart, IsInterruptibleStep, IsValid}
use Rattle.watched_code.proofs.Words.{IsWithinLimits, length, length-set, List, Live, nat_tests, None, not, Option}
use Rattle.watched_code.proofs.Words.{output_at, refl, Segment, segment_bytes, set, Setting, Some, stack_end, State}
use Rattle.watched_code.proofs.Words.{subst, suc, sym, true, Watched, watched_front_over, ℕ}
use Rattle.watched_code.specs.Watched.{changed, is_upset, watched_answer, watched_fault, upset_given, restored}
use Rattle.watched_code.specs.Watched.{IsWatchAnswered}
use Rattle.eval_code.proofs.Algebra.{bytes_after_set, bytes_put_out, has_put, length-put}
use Rattle.cpu12_isa.specs.{Fits.AreBytes}
use Rattle.firmware_code.specs.{Interruptible.IsInterruptible, Arrivals.given}
use Rattle.eval_code.specs.{Evaluation.put}
use Rattle.std.proofs.lemmas.List.{set-get_or}
use Rattle.watched_code.proofs.{watching.Defaults.FitDefaults, watching.Tables.sum_high, watching.Laws.WatchingLaws}
use Rattle.watched_code.proofs.watching.Adding.{IsShutAbove, AreSegments, sum_in, count_in}
use Rattle.watched_code.proofs.watching.Segments.{Apart, In, Stand, stand_passes, change_fails}
use Rattle.watched_code.proofs.watching.Sampling.{Watches, IsGiven, WatchSampled, answered_well, answered_badly}
use Rattle.watched_code.proofs.watching.Fronts.{IsWatchedMap, has_front}

-- the same run over another image
abbrev under : Setting → List ℕ → Setting
under c image = record c { image = image }

-- a byte of the tables, and what is put there
pub record IsTable (c : Setting) (gs : List Segment) (x : Change) : Type 0 where
  pub low : 0xD000 ≤ x.0
  pub high : x.0 < 65536
  pub within : In x.0 gs
  pub fits : x.1 < 2 ^ 8

abbrev pub MayChange : Setting → List Segment → Option Change → Type 0
MayChange c gs None = Unit {0}
MayChange c gs (Some x) = IsTable c gs x

-- what all samples stand on
pub record Grounds (c : Setting) (b : Block) (gs : List Segment) (most : ℕ) : Type 0 where
  pub valid : IsValid b
  pub limits : IsWithinLimits b
  pub laws : WatchingLaws
  pub memory_map : IsWatchedMap c.memory_map b.outputs gs
  pub outputs_end : c.memory_map.outputs + 8 ≤ fault_at
  pub slots_from : fault_at < c.memory_map.slots
  pub free : c.open_to ≡ is_free
  pub above : IsShutAbove c
  pub ready_shown : c.open_to c.memory_map.sample_flag ≡ false
  pub fault_shown : c.open_to fault_at ≡ false
  pub defaults : FitDefaults b.outputs
  pub are : AreSegments gs
  pub apart : Apart 0x2000 gs
  pub most_is : instruction_bound Byte b + 4 + count_in gs ≡ most
  pub size : length c.image ≡ 65536
  pub bytes : AreBytes c.image
  pub front : HasBytes c.image c.memory_map.code (code_bytes (watched_front_over c.memory_map b.outputs gs))
  pub front_end : c.memory_map.code + code_length (watched_front_over c.memory_map b.outputs gs) ≤ 0xD000
  pub routine : HasRoutine c.memory_map b Byte c.image
  pub stands : Stand c.image gs

front_stays : (m : List ℕ) (p : ℕ) (bs : List ℕ) (change : Option Change) (c : Setting) (gs : List Segment)
    → MayChange c gs change → p + length bs ≤ 0xD000 → HasBytes m p bs → HasBytes (changed change m) p bs
front_stays m p bs None c gs x le h = h
front_stays m p bs (Some x) c gs t le h = let low = t.low in bytes_set_out m x.0 x.1 p bs (inl (omega arith)) h

watches : (c : Setting) (b : Block) (gs : List Segment) (most : ℕ) (change : Option Change) → Grounds c b gs most
    → MayChange c gs change → Watches (under c (changed change c.image)) b gs most
watches c b gs most change h x = record {
  apart = h.memory_map.apart;
  valid = h.valid;
  limits = h.limits;
  laws = h.laws;
  ready = h.memory_map.ready;
  outputs_end = h.outputs_end;
  slots_from = h.slots_from;
  fault_shown = h.fault_shown;
  most_is = h.most_is;
  front = has_front h.laws.stand h.laws.turns (under c (changed change c.image)) b.outputs gs h.memory_map
      h.ready_shown h.fault_shown
      h.above h.defaults h.are
      (front_stays c.image c.memory_map.code (code_bytes (watched_front_over c.memory_map b.outputs gs)) change c gs x
      h.front_end h.front);
}

-- ---- a byte of memory and image changed, and put back

high_changed : (m n : List ℕ) (a v : ℕ) → a < length m → a < length n → AgreeFrom stack_end m n
    → AgreeFrom stack_end (set m a v) (set n a v)
high_changed m n a v lm ln h at le = elim (cases_eq at a) [
  | inl e ↦ ap (λ (k : ℕ). get_or (set n a v) k 0) e ∙ get_or-set_same n a v 0 ln
      ∙ sym (ap (λ (k : ℕ). get_or (set m a v) k 0) e ∙ get_or-set_same m a v 0 lm)
  | inr ne ↦ get_or-set_other n a at v 0 ne ∙ h at le ∙ sym (get_or-set_other m a at v 0 ne)
]

high_restored : (m n : List ℕ) (a v : ℕ) → a < length n → AgreeFrom stack_end (set m a v) n
    → AgreeFrom stack_end m (set n a (get_or m a 0))
high_restored m n a v ln h at le = elim (cases_eq at a) [
  | inl e ↦ ap (λ (k : ℕ). get_or (set n a (get_or m a 0)) k 0) e ∙ get_or-set_same n a (get_or m a 0) 0 ln
      ∙ ap (λ (k : ℕ). get_or m k 0) (sym e)
  | inr ne ↦ get_or-set_other n a at (get_or m a 0) 0 ne ∙ h at le ∙ get_or-set_other m a at v 0 ne
]

live_changed : (c : Setting) (gs : List Segment) (change : Option Change) (s : State) → length c.image ≡ 65536
    → MayChange c gs change → Live c s
    → Live (under c (changed change c.image)) (record s { mem = changed change s.mem })
live_changed c gs None s size x l =
    record {
      temps = l.temps;
      size = l.size;
      bytes = l.bytes;
      fits = l.fits;
      stack = l.stack;
      mask =
          l.mask;
      same = l.same;
    }
live_changed c gs (Some x) s size t l =
    let high = t.high in
    let sized = l.size in
    record {
      temps = l.temps;
      size = length-set s.mem x.0 x.1 ∙ l.size;
      bytes = bytes_after_set s.mem x.0 x.1 l.bytes t.fits (omega arith);
      fits = l.fits;
      stack = l.stack;
      mask = l.mask;
      same = high_changed c.image s.mem x.0 x.1 (omega arith) (omega arith) l.same;
    }

-- the machine waits again, with the image's byte
home_restored : (c : Setting) (b : Block) (gs : List Segment) (change : Option Change) (answers : ℕ → ℕ) (s : State)
    → IsApart c.memory_map → length b.outputs ≤ 4 → c.memory_map.sample_flag < 0x1800 → AreBytes c.image
    → MayChange c gs change → Home (under c (changed change c.image)) b Byte answers s
    → Home c b Byte answers (restored c.image change s)
home_restored c b gs None answers s a few low bytes x h = record {
  live = record {
    temps = h.live.temps;
    size = h.live.size;
    bytes = h.live.bytes;
    fits = h.live.fits;
    stack =
        h.live.stack;
    mask = h.live.mask;
    same = h.live.same;
  };
  pc_is = h.pc_is;
  sp_is = h.sp_is;
  outs = h.outs;
  ready_is = h.ready_is;
}
home_restored c b gs (Some x) answers s a few low bytes t h =
    let v = get_or c.image x.0 0 in
    let from = t.low in
    let high = t.high in
    let sized = h.live.size in
    let a1 = a.outputs in
    let a2 = a.slots in
    record {
      live = record {
        temps = h.live.temps;
        size = length-set s.mem x.0 v ∙ h.live.size;
        bytes = bytes_after_set s.mem x.0 v h.live.bytes (bytes x.0) (omega arith);
        fits = h.live.fits;
        stack = h.live.stack;
        mask = h.live.mask;
        same = high_restored c.image s.mem x.0 x.1 (omega arith) h.live.same;
      };
      pc_is = h.pc_is;
      sp_is = h.sp_is;
      outs = λ o lo hi. bytes_set_out s.mem x.0 v (c.memory_map.outputs + 1 * (o - 1)) (answers o ∷ [])
          (inl (omega arith))
          (h.outs o lo hi);
      ready_is = get_or-set_other s.mem x.0 c.memory_map.sample_flag v 0 (λ e. omega arith) ∙ h.ready_is;
    }

-- ---- a sample

kept : (m : List ℕ) (p : ℕ) (bs : List ℕ) (change : Option Change) (c : Setting) (gs : List Segment)
    → MayChange c gs change → p + length bs ≤ 0x1800 → HasBytes m p bs → HasBytes (changed change m) p bs
kept m p bs change c gs x le h = front_stays m p bs change c gs x (omega arith) h

is_given : (c : Setting) (b : Block) (gs : List Segment) (most : ℕ) (before : ℕ → ℕ) (x : Watched) (s : State)
    → Grounds c b gs most → AreInputBytes b x.bytes → MayChange c gs x.change
    → Home c b Byte before s → IsGiven (under c (changed x.change c.image)) b x.bytes before
    (upset_given c.memory_map x s)
is_given c b gs most before x s h i t home =
    let l = c.memory_map in
    let m = put s.mem l.samples x.bytes in
    let few = h.valid.few_outputs in
    let few_inputs = h.valid.few_inputs in
    let count = i.count in
    let a1 = h.memory_map.apart.inputs in
    let a2 = h.memory_map.apart.outputs in
    let a3 = h.memory_map.apart.slots in
    let ready = h.memory_map.ready in
    let at = h.memory_map.samples in
    let sized = home.live.size in
    let lm : length m ≡ 65536 = length-put s.mem l.samples x.bytes ∙ home.live.size in
    let one : HasBytes (given l x.bytes s).mem l.sample_flag (1 ∷ []) = (get_or-set_same m l.sample_flag 1 0 (omega arith), tt) in
    let bytes : HasBytes (given l x.bytes s).mem l.inputs x.bytes =
    bytes_set_out m l.sample_flag 1 l.inputs x.bytes (inr (omega arith))
    (subst (λ (p : ℕ). HasBytes m p x.bytes) at (has_put s.mem l.samples x.bytes (omega arith))) in
    record {
      live = live_changed c gs x.change (given l x.bytes s) h.size t
          (h.laws.given c x.bytes s home.live i.fit (omega arith) (omega arith));
      pc_is = home.pc_is;
      sp_is = home.sp_is;
      ready_is = (kept (given l x.bytes s).mem l.sample_flag (1 ∷ []) x.change c gs t (omega arith) one).0;
      inputs = kept (given l x.bytes s).mem l.inputs x.bytes x.change c gs t (omega arith) bytes;
      outputs = λ o lo hi.
          (let p = l.outputs + 1 * (o - 1) in
          kept (given l x.bytes s).mem p (before o ∷ []) x.change c gs t (omega arith)
          (bytes_set_out m l.sample_flag 1 p (before o ∷ []) (inr (omega arith))
          (bytes_put_out s.mem l.samples x.bytes p (before o ∷ []) (inr (omega arith)) (home.outs o lo hi))));
    }

-- where no byte is upset the image is the same
unchanged : (m : List ℕ) (change : Option Change) → is_upset m change ≡ false → changed change m ≡ m
unchanged m None e = refl
unchanged m (Some x) e = let same : get_or m x.0 0 ≡ x.1 = grind (arith, nat_tests) in ap (set m x.0) (sym same)
    ∙ set-get_or m x.0 0

-- and else the sum is another
upset_fails : (c : Setting) (gs : List Segment) (change : Option Change) → length c.image ≡ 65536 → AreBytes c.image
    → Stand c.image gs → Apart 0x2000 gs → MayChange c gs change
    → is_upset c.image change ≡ true
    → ((sum_in (changed change c.image) gs + check_byte (segment_bytes gs)) % 2 ^ 8 == 0) ≡ false
upset_fails c gs None size bytes h apart t e = absurd (let bad : false ≡ true = e in cc)
upset_fails c gs (Some x) size bytes h apart t e =
    let high = t.high in
    let other : x.1 ≢ get_or c.image x.0 0 =
    λ q. (let same : (get_or c.image x.0 0 == x.1) ≡ true = grind (arith, nat_tests) in
    let bad : false ≡ true = ap not (sym same) ∙ e in cc) in
    change_fails c.image x.0 x.1 0x2000 gs h apart t.within (omega arith) (bytes x.0) t.fits other

-- what output o answers, and FAULT, by whether a byte is upset
abbrev answer_by : Bool → Block → List ℕ → ℕ → ℕ → ℕ
answer_by t b bytes o before = if t then default_of (output_at b o) before else answer Byte b o bytes before

abbrev fault_by : Bool → ℕ
fault_by t = if t then 1 else 0

sample_by : (c : Setting) (b : Block) (gs : List Segment) (most : ℕ) (before : ℕ → ℕ) (x : Watched) (s : State)
    → Grounds c b gs most → AreInputBytes b x.bytes → MayChange c gs x.change
    → IsGiven (under c (changed x.change c.image)) b x.bytes before s → (t : Bool) → is_upset c.image x.change ≡ t
    → WatchSampled (under c (changed x.change c.image)) b most (λ o. answer_by t b x.bytes o (before o)) (fault_by t) s
sample_by c b gs most before x s h i m g true e =
    let u = under c (changed x.change c.image) in
    let same = sum_high u.image s.mem gs g.live.same h.are in
    answered_badly u b gs most x.bytes before s (watches c b gs most x.change h m) h.apart i g
    (ap (λ (n : ℕ). (n + check_byte (segment_bytes gs)) % 2 ^ 8 == 0) same
    ∙ upset_fails c gs x.change h.size h.bytes h.stands h.apart m e)
sample_by c b gs most before x s h i m g false e =
    let u = under c (changed x.change c.image) in
    let back : c.image ≡ u.image = sym (unchanged c.image x.change e) in
    let same = sum_high u.image s.mem gs g.live.same h.are in
    let fine : ((sum_in u.image gs + check_byte (segment_bytes gs)) % 2 ^ 8 == 0) ≡ true =
    stand_passes u.image gs (subst (λ (n : List ℕ). Stand n gs) back h.stands) in
    answered_well u b gs most x.bytes before s (watches c b gs most x.change h m) h.apart
    (subst (HasRoutine c.memory_map b Byte) back h.routine) i g
    (ap (λ (n : ℕ). (n + check_byte (segment_bytes gs)) % 2 ^ 8 == 0) same ∙ fine)

sampled : (c : Setting) (b : Block) (gs : List Segment) (most : ℕ) (before : ℕ → ℕ) (x : Watched) (s : State)
    → Grounds c b gs most → AreInputBytes b x.bytes → MayChange c gs x.change
    → Home c b Byte before s
    → WatchSampled (under c (changed x.change c.image)) b most (λ o. watched_answer b c.image x o (before o))
    (watched_fault c.image x) (upset_given c.memory_map x s)
sampled c b gs most before x s h i m home =
    sample_by c b gs most before x (upset_given c.memory_map x s) h i m (is_given c b gs most before x s h i m home)
    (is_upset c.image x.change) refl

answered : (c : Setting) (b : Block) (gs : List Segment) (most : ℕ) (before : ℕ → ℕ) (x : Watched) (s : State)
    → Grounds c b gs most
    → (r : WatchSampled (under c (changed x.change c.image)) b most (λ o. watched_answer b c.image x o (before o))
    (watched_fault c.image x) (upset_given c.memory_map x s))
    → IsWatchAnswered c.memory_map b most c.image c.flags before x s r.t
answered c b gs most before x s h r =
    let lo = h.memory_map.started.low in
    let hi = h.memory_map.started.high in
    let wait = h.memory_map.started.wait in
    let ep = r.home.pc_is in
    record {
      ds = r.ds;
      execution = subst (λ (o : ℕ → Bool). Execution (IsInterruptibleStep o c.memory_map (changed x.change c.image)
          c.flags)
          r.ds (upset_given c.memory_map x s) r.t) h.free r.execution;
      idle = h.laws.idle (under c (changed x.change c.image)) r.t r.home.live r.home.pc_is r.home.ready_is;
      interruptible = subst (λ (o : ℕ → Bool). IsInterruptible o (changed x.change c.image) r.t) h.free
          (h.laws.interruptible (under c (changed x.change c.image)) r.t r.home.live (omega arith) (omega arith));
      answers = r.home.outs;
      fault = r.fault_is;
      instructions = r.instructions;
      steps = r.steps;
    }

-- samples whose bytes and changes are good
abbrev pub AreGood : Setting → Block → List Segment → List Watched → Type 0
AreGood c b gs xs = All (λ x. AreInputBytes b x.bytes × MayChange c gs x.change) xs

pub are_answered : (c : Setting) (b : Block) (gs : List Segment) (most : ℕ) (xs : List Watched) (before : ℕ → ℕ)
    (s : State) → Grounds c b gs most → Home c b Byte before s → AreGood c b gs xs
    → AreWatchAnswered c.memory_map b most c.image c.flags before xs s
are_answered c b gs most [] before s h home all = tt
are_answered c b gs most (x ∷ xs) before s h home all =
    let good = all 0 x (omega arith) in
    let r = sampled c b gs most before x s h good.0 good.1 home in
    let a1 = h.memory_map.apart.inputs in
    let a2 = h.memory_map.apart.outputs in
    let a3 = h.memory_map.apart.slots in
    let ready = h.memory_map.ready in
    let next = home_restored c b gs x.change (λ o. watched_answer b c.image x o (before o)) r.t h.memory_map.apart
    h.valid.few_outputs (omega arith) h.bytes good.1 r.home in (
      r.t,
      (
        answered c b gs most before x s h r,
        are_answered c b gs most xs (λ o. watched_answer b c.image x o (before o))
            (restored c.image x.change r.t) h next (λ k d lt. all (suc k) d (omega arith)),
      ),
    )
