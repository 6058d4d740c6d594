-- What the handler of a post leaves in memory.
use Rattle.mailbox_runs.proofs.Words.{[], ◌&&◌, ◌++◌, ◌+◌, ◌-◌, ◌<◌, ◌||◌, ◌∙◌, ◌∷◌, ◌≡◌, ◌≤◌, ◌⊎◌, Agree, agree_self}
use Rattle.mailbox_runs.proofs.Words.{agree_with, ap, append_assoc, AreOfSize, arith, Bool, bytes_of, cases_lt, false}
use Rattle.mailbox_runs.proofs.Words.{framed, if◌then◌else◌, inl, inr, is_free, is_hidden, is_postable, IsBox}
use Rattle.mailbox_runs.proofs.Words.{IsWritten, last_of, length, List, mailed, MemoryMap, nat_le, nat_lt, nat_tests}
use Rattle.mailbox_runs.proofs.Words.{or_parts, placed, plus, Post, post_writes, put, refl, set, State, subst, suc}
use Rattle.mailbox_runs.proofs.Words.{sym, true, Write, write_all, writes_from, Writing, ℕ}
use Rattle.std.specs.{Prelude.All, Prelude.◌==◌}
use Rattle.cpu12_isa.specs.{Registers.frame_bytes, Regions.LeavesStack}
use Rattle.cpu12_emul.specs.{Take.pairs_of, Simulation.AreOpen}
use Rattle.alone_runs.proofs.Algebra.{written_parts}

-- ---- lists of writes

writes_on : (a b : List (ℕ × ℕ)) (m : List ℕ) → write_all (a ++ b) m ≡ write_all b (write_all a m)
writes_on [] b m = refl
writes_on (w ∷ a) b m = writes_on a b (set m w.0 w.1)

pairs_on : (a b : List Write) → pairs_of (a ++ b) ≡ pairs_of a ++ pairs_of b
pairs_on [] b = refl
pairs_on (w ∷ a) b = ap (λ (l : List (ℕ × ℕ)). (w.at, w.value) ∷ l) (pairs_on a b)

puts : (at : ℕ) (bs m : List ℕ) → at + length bs ≤ 65535 → write_all (pairs_of (writes_from at bs)) m ≡ put m at bs
puts at [] m h = refl
puts at (v ∷ vs) m h =
    let e : plus at 1 ≡ at + 1 = omega arith in
    ap (λ (k : ℕ). write_all (pairs_of (writes_from k vs)) (set m at v)) e ∙ puts (at + 1) vs (set m at v) (omega arith)

-- a sample's bytes and POSTED
abbrev box_writes : MemoryMap → List ℕ → List Write
box_writes l bytes = writes_from l.samples bytes ++ record { at = l.sample_flag; value = 1 } ∷ []

box_is : (l : MemoryMap) (bytes m : List ℕ) → l.samples + length bytes ≤ 65535
    → write_all (pairs_of (box_writes l bytes)) m ≡ set (put m l.samples bytes) l.sample_flag 1
box_is l bytes m h =
    ap (λ (ps : List (ℕ × ℕ)). write_all ps m)
    (pairs_on (writes_from l.samples bytes) (record { at = l.sample_flag; value = 1 } ∷ []))
    ∙ writes_on (pairs_of (writes_from l.samples bytes)) ((l.sample_flag, 1) ∷ []) m
    ∙ ap (λ (k : List ℕ). set k l.sample_flag 1) (puts l.samples bytes m h)

written_left : (a b : List (ℕ × ℕ)) (q : ℕ) → IsWritten a q → IsWritten (a ++ b) q
written_left [] b q w = absurd w
written_left (x ∷ a) b q (inl e) = inl e
written_left (x ∷ a) b q (inr w) = inr (written_left a b q w)

written_right : (a b : List (ℕ × ℕ)) (q : ℕ) → IsWritten b q → IsWritten (a ++ b) q
written_right [] b q w = w
written_right (x ∷ a) b q w = inr (written_right a b q w)

written_in : (at : ℕ) (bs : List ℕ) (q : ℕ) → at + length bs ≤ 65535 → IsWritten (pairs_of (writes_from at bs)) q
    → (at ≤ q) × (q < at + length bs)
written_in at [] q h w = absurd w
written_in at (v ∷ vs) q h (inl e) = (omega arith, omega arith)
written_in at (v ∷ vs) q h (inr w) =
    let e : plus at 1 ≡ at + 1 = omega arith in
    let r = written_in (at + 1) vs q (omega arith) (subst (λ (k : ℕ). IsWritten (pairs_of (writes_from k vs)) q) e w) in
    (omega (arith, r.0), omega (arith, r.1))

is_written : (at : ℕ) (bs : List ℕ) (q : ℕ) → at + length bs ≤ 65535 → at ≤ q → q < at + length bs
    → IsWritten (pairs_of (writes_from at bs)) q
is_written at [] q h lo hi = absurd (omega arith)
is_written at (v ∷ vs) q h lo hi =
    let e : at + 1 ≡ plus at 1 = omega arith in
    elim (cases_lt at q) [
      | inl past ↦ inr (subst (λ (k : ℕ). IsWritten (pairs_of (writes_from k vs)) q) e
          (is_written (at + 1) vs q (omega arith) (omega arith) (omega arith)))
      | inr here ↦ inl (omega arith)
    ]

-- ---- what is in the box

abbrev pub is_boxed : ℕ → ℕ → Bool
is_boxed n at = (nat_le 0x1020 at && nat_lt at (0x1020 + n)) || (at == 0x1028)

pub clash : (b : Bool) → b ≡ true → b ≡ false → ⊥
clash b t f = cc

-- the writes of a sample are in the box, and fill it
boxed : (l : MemoryMap) (n : ℕ) (bytes : List ℕ) (q : ℕ) → IsBox l n → length bytes ≡ n
    → IsWritten (pairs_of (box_writes l bytes)) q → is_boxed n q ≡ true
boxed l n bytes q box size w =
    let few = box.few in
    let from = box.samples in
    let ready = box.ready in
    elim (written_parts (pairs_of (writes_from l.samples bytes)) ((l.sample_flag, 1) ∷ []) q
    (subst (λ (ps : List (ℕ × ℕ)). IsWritten ps q)
    (pairs_on (writes_from l.samples bytes) (record { at = l.sample_flag; value = 1 } ∷ [])) w)) [
      | inl in_mail ↦ (let r = written_in l.samples bytes q (omega arith) in_mail in
          let lo : 0x1020 ≤ q = omega (arith, r.0) in let hi : q < 0x1020 + n = omega (arith, r.1) in
          grind (arith, nat_tests))
      | inr ready ↦ elim ready
          [ inl e ↦ (let here : q ≡ 0x1028 = omega arith in grind (arith, nat_tests)) | inr none ↦ absurd none ]
    ]

filled : (l : MemoryMap) (n : ℕ) (bytes : List ℕ) (q : ℕ) → IsBox l n → length bytes ≡ n
    → (is_boxed n q ≡ false) ⊎ IsWritten (pairs_of (box_writes l bytes)) q
filled l n bytes q box size =
    let few = box.few in
    let from = box.samples in
    let at = box.ready in
    let back = sym (pairs_on (writes_from l.samples bytes) (record { at = l.sample_flag; value = 1 } ∷ [])) in
    let rest = written_right (pairs_of (writes_from l.samples bytes)) ((l.sample_flag, 1) ∷ []) q in
    elim (cases_lt q 0x1020) [
      | inl below ↦ inl (grind (arith, nat_tests))
      | inr past ↦ elim (cases_lt q (0x1020 + n)) [
        | inl inside ↦ inr (subst (λ (ps : List (ℕ × ℕ)). IsWritten ps q) back
            (written_left (pairs_of (writes_from l.samples bytes)) ((l.sample_flag, 1) ∷ []) q
            (is_written l.samples bytes q (omega arith) (omega arith) (omega arith))))
        | inr behind ↦ elim (cases_lt q 0x1028) [
          | inl tail ↦ inl (grind (arith, nat_tests))
          | inr ready ↦ elim (cases_lt 0x1028 q) [
            | inl above ↦ inl (grind (arith, nat_tests))
            | inr here ↦ inr (subst (λ (ps : List (ℕ × ℕ)). IsWritten ps q) back (rest (inl (omega arith))))
          ]
        ]
      ]
    ]

-- what is shown beside the box is shown without it
abbrev pub wide : (ℕ → Bool) → ℕ → ℕ → Bool
wide hidden n q = hidden q || is_boxed n q

pub wider : (hidden : ℕ → Bool) (n : ℕ) (m k : List ℕ) → Agree hidden m k → Agree (wide hidden n) m k
wider hidden n m k a = record { size = a.size; bytes = λ q h. a.bytes q (or_parts (hidden q) (is_boxed n q) h).0 }

-- ---- memories with a sample in the box

module _ (laws : Writing) (l : MemoryMap) (n : ℕ) (samples : List (List ℕ)) (box : IsBox l n)
    (size : AreOfSize n samples) where
  abbrev pre : ℕ → List Write
  pre w = if w == 0 then [] else box_writes l (bytes_of samples w)

  one_or_more : (w : ℕ) → (w == 0) ≡ false → 1 ≤ w
  one_or_more w e = grind (arith, nat_tests)

  mailed_by : (b : Bool) (w : ℕ) (m : List ℕ) → (w == 0) ≡ b → w ≤ length samples
      → mailed l samples w m ≡ write_all (pairs_of (pre w)) m
  mailed_by true w m e le = rw e refl
  mailed_by false w m e le =
      let s = size w (one_or_more w e) le in
      let few = box.few in
      let from = box.samples in
      rw e (sym (box_is l (bytes_of samples w) m (omega arith)))

  -- posting is writing
  pub mailed_is : (w : ℕ) (m : List ℕ) → w ≤ length samples → mailed l samples w m ≡ write_all (pairs_of (pre w)) m
  mailed_is w m le = mailed_by (w == 0) w m refl le

  -- the same sample keeps memories alike
  pub mailed_alike : (hidden : ℕ → Bool) (w : ℕ) (m k : List ℕ) → w ≤ length samples → Agree hidden m k
      → Agree hidden (mailed l samples w m) (mailed l samples w k)
  mailed_alike hidden w m k le a =
      let r = laws.writes_agree (pairs_of (pre w)) m k hidden hidden a (λ q h. inl h) in
      subst (λ (x : List ℕ). Agree hidden x (mailed l samples w k)) (sym (mailed_is w m le))
      (subst (λ (x : List ℕ). Agree hidden (write_all (pairs_of (pre w)) m) x) (sym (mailed_is w k le)) r)

  -- it changes the box alone
  apart_by : (b : Bool) (hidden : ℕ → Bool) (w : ℕ) (m : List ℕ) → (w == 0) ≡ b → w ≤ length samples
      → Agree (wide hidden n) (mailed l samples w m) m
  apart_by true hidden w m e le = rw e (agree_self (wide hidden n) m)
  apart_by false hidden w m e le =
      let s = size w (one_or_more w e) le in
      let few = box.few in
      let from = box.samples in
      let ws = pairs_of (box_writes l (bytes_of samples w)) in
      let stay = laws.writes_stay ws m in
      let a : Agree (wide hidden n) (write_all ws m) m =
      record {
        size = stay.0;
        bytes =
            λ q h. stay.1 q (λ x. clash (is_boxed n q) (boxed l n (bytes_of samples w) q box s x)
            (or_parts (hidden q) (is_boxed n q) h).1);
      } in
      rw e (subst (λ (x : List ℕ). Agree (wide hidden n) x m) (box_is l (bytes_of samples w) m (omega arith)) a)

  pub mailed_apart : (hidden : ℕ → Bool) (w : ℕ) (m : List ℕ) → w ≤ length samples
      → Agree (wide hidden n) (mailed l samples w m) m
  mailed_apart hidden w m le = apart_by (w == 0) hidden w m refl le

  -- a sample takes the place of what was in the box
  over_by : (b : Bool) (hidden : ℕ → Bool) (a w : ℕ) (m k : List ℕ) → (w == 0) ≡ b → w ≤ length samples
      → a ≤ length samples → Agree hidden m (mailed l samples a k)
      → Agree hidden (mailed l samples w m) (mailed l samples (if b then a else w) k)
  over_by true hidden a w m k e le la g = rw e g
  over_by false hidden a w m k e le la g =
      let s = size w (one_or_more w e) le in
      let few = box.few in
      let from = box.samples in
      let ws = pairs_of (box_writes l (bytes_of samples w)) in
      let mk : Agree (wide hidden n) m k =
      agree_with (wide hidden n) m (mailed l samples a k) k (wider hidden n m (mailed l samples a k) g)
      (mailed_apart hidden a k la) in
      let r = laws.writes_agree ws m k (wide hidden n) hidden mk
      (λ q h. covered q h (filled l n (bytes_of samples w) q box s)) in
      let bm = box_is l (bytes_of samples w) m (omega arith) in
      let bk = box_is l (bytes_of samples w) k (omega arith) in
      rw e (subst (λ (x : List ℕ). Agree hidden x (set (put k l.samples (bytes_of samples w)) l.sample_flag 1)) bm
      (subst (λ (x : List ℕ). Agree hidden (write_all ws m) x) bk r))
    where
      covered : (q : ℕ) → hidden q ≡ false
          → (is_boxed n q ≡ false) ⊎ IsWritten (pairs_of (box_writes l (bytes_of samples w))) q
          → (wide hidden n q ≡ false) ⊎ IsWritten (pairs_of (box_writes l (bytes_of samples w))) q
      covered q h (inl out) = inl (rw (h, out) refl)
      covered q h (inr w) = inr w

  pub mailed_over : (hidden : ℕ → Bool) (a w : ℕ) (m k : List ℕ) → w ≤ length samples → a ≤ length samples
      → Agree hidden m (mailed l samples a k)
      → Agree hidden (mailed l samples w m) (mailed l samples (last_of a w) k)
  mailed_over hidden a w m k le la g = over_by (w == 0) hidden a w m k refl le la g

  -- ---- one handler

  free_hidden : (ws : List Write) (sp q : ℕ) → All (λ v. is_free v.at ≡ true) ws → is_hidden is_free sp q ≡ false
      → IsWritten (pairs_of ws) q → ⊥
  free_hidden [] sp q good h w = w
  free_hidden (x ∷ ws) sp q good h (inl e) =
      let own : is_free x.at ≡ true = good 0 x (omega arith) in
      clash (is_free q) (ap is_free e ∙ own) (or_parts (is_free q) (nat_le 0x1FE0 q && nat_lt q sp) h).0
  free_hidden (x ∷ ws) sp q good h (inr w) = free_hidden ws sp q (λ k d lt. good (suc k) d (omega arith)) h w

  free_writes : (ws : List Write) (sp : ℕ) (m : List ℕ) → All (λ v. is_free v.at ≡ true) ws
      → Agree (is_hidden is_free sp) (write_all (pairs_of ws) m) m
  free_writes ws sp m good =
      let stay = laws.writes_stay (pairs_of ws) m in
      record { size = stay.0; bytes = λ q h. stay.1 q (λ w. free_hidden ws sp q good h w) }

  post_by : (b : Bool) (p : Post) → (p.sample == 0) ≡ b → post_writes l samples p ≡ pre p.sample ++ p.writes
  post_by true p e = rw e refl
  post_by false p e = rw e
      (sym (append_assoc (writes_from l.samples (bytes_of samples p.sample))
      (record { at = l.sample_flag; value = 1 } ∷ []) p.writes))

  all_written : (p : Post) (m : List ℕ)
      → write_all (pairs_of (post_writes l samples p)) m ≡ write_all (pairs_of p.writes)
      (write_all (pairs_of (pre p.sample)) m)
  all_written p m =
      ap (λ (ws : List Write). write_all (pairs_of ws) m) (post_by (p.sample == 0) p refl)
      ∙ ap (λ (ps : List (ℕ × ℕ)). write_all ps m) (pairs_on (pre p.sample) p.writes)
      ∙ writes_on (pairs_of (pre p.sample)) (pairs_of p.writes) m

  open_free : (ws : List Write) → All (λ v. is_free v.at ≡ true) ws → AreOpen is_postable ws
  open_free [] good = tt
  open_free (x ∷ ws) good =
      (let own : is_free x.at ≡ true = good 0 x (omega arith) in
      (rw own refl, open_free ws (λ k d lt. good (suc k) d (omega arith))))

  open_mail : (at : ℕ) (bs : List ℕ) → 0x1020 ≤ at → at + length bs ≤ 0x1028 → AreOpen is_postable (writes_from at bs)
  open_mail at [] lo hi = tt
  open_mail at (v ∷ vs) lo hi =
      let e : plus at 1 ≡ at + 1 = omega arith in (
        grind (arith, nat_tests),
        subst (λ (k : ℕ). AreOpen is_postable (writes_from k vs)) (sym e)
            (open_mail (at + 1) vs (omega arith) (omega arith)),
      )

  open_on : (a b : List Write) → AreOpen is_postable a → AreOpen is_postable b → AreOpen is_postable (a ++ b)
  open_on [] b x y = y
  open_on (w ∷ a) b x y = (x.0, open_on a b x.1 y)

  open_pre : (b : Bool) (w : ℕ) → (w == 0) ≡ b → w ≤ length samples → AreOpen is_postable (pre w)
  open_pre true w e le = rw e tt
  open_pre false w e le =
      let s = size w (one_or_more w e) le in
      let few = box.few in
      let from = box.samples in
      let at = box.ready in
      let ready : is_postable l.sample_flag ≡ true = grind (arith, nat_tests) in
      rw e (open_on (writes_from l.samples (bytes_of samples w)) (record { at = l.sample_flag; value = 1 } ∷ [])
      (open_mail l.samples (bytes_of samples w) (omega arith) (omega arith)) (ready, tt))

  pub open_post : (p : Post) → p.sample ≤ length samples → All (λ v. is_free v.at ≡ true) p.writes
      → AreOpen is_postable (post_writes l samples p)
  open_post p le good =
      subst (λ (ws : List Write). AreOpen is_postable ws) (sym (post_by (p.sample == 0) p refl))
      (open_on (pre p.sample) p.writes (open_pre (p.sample == 0) p.sample refl le) (open_free p.writes good))

  -- memory after a handler that began in a state v is that with its sample in the box
  pub post_mailed : (p : Post) (v : State) → p.sample ≤ length samples → All (λ x. is_free x.at ≡ true) p.writes
      → 0x1FE9 ≤ v.regs.sp → v.regs.sp ≤ 0x2000
      → Agree (is_hidden is_free v.regs.sp) (framed (post_writes l samples p) v).mem (mailed l samples p.sample v.mem)
  post_mailed p v le good lo hi =
      let sp = v.regs.sp in
      let hidden = is_hidden is_free sp in
      let base : plus sp 65527 ≡ sp - 9 = omega arith in
      let m = write_all (placed (plus sp 65527) (frame_bytes v.regs)) v.mem in
      let k = write_all (pairs_of (pre p.sample)) m in
      let pushed : Agree hidden m v.mem =
      subst (λ (at : ℕ). Agree hidden (write_all (placed at (frame_bytes v.regs)) v.mem) v.mem) (sym base)
      (laws.hides_pushed is_free sp 9 (frame_bytes v.regs) v.mem hi refl (omega arith)) in
      let mail : Agree hidden k (mailed l samples p.sample v.mem) =
      subst (λ (x : List ℕ). Agree hidden k x) (sym (mailed_is p.sample v.mem le))
      (laws.writes_agree (pairs_of (pre p.sample)) m v.mem hidden hidden pushed (λ q h. inl h)) in
      let own : Agree hidden (write_all (pairs_of p.writes) k) k = free_writes p.writes sp k good in
      subst (λ (x : List ℕ). Agree hidden x (mailed l samples p.sample v.mem)) (sym (all_written p m))
      (agree_with hidden (write_all (pairs_of p.writes) k) k (mailed l samples p.sample v.mem) own mail)

postable_low : (at : ℕ) → (0x1FE0 ≤ at) × (at < 0x2000) → is_postable at ≡ false
postable_low at h = let lo = h.0 in let hi = h.1 in grind (arith, nat_tests)

pub leaves_stack : LeavesStack is_postable
leaves_stack at h = elim (cases_lt at 0x1FE0) [
  | inl below ↦ inl below
  | inr from ↦ elim (cases_lt at 0x2000) [
    | inl inside ↦ absurd (clash (is_postable at) h (postable_low at (from, inside)))
    | inr above ↦ inr above
  ]
]
