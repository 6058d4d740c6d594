-- Lines of items that are counted, texts that are written part by part, refusals, readings, and faults of records.
use Rattle.std.proofs.Common.{refl, ◌≡◌, ◌<◌, ◌+◌, ℕ, true, List, [], ◌∷◌, ◌++◌, length, take, get_or, sym, subst}
use Rattle.std.proofs.Common.{◌∙◌, ◌⊎◌, ◌≢◌, ap}
use Rattle.std.proofs.Common.{arith, append_assoc, add-one, inl, inr}
use Rattle.std.specs.Prelude.{All, codes, map, Result, Ok, Err, IfErr, IsErrAnd}
use Rattle.std.proofs.Math.Seq.{take-suc}
use Rattle.std.proofs.lemmas.List.{append-nil, length-take-le}
use Rattle.std.proofs.lemmas.List.Elements.{All-cons, All-head, All-nil, All-tail}
use Rattle.cpu12_isa.specs.declared.instr.Regs.{Regs}
use Rattle.fz_shelf.proofs.Algebra.{bare-address, bare-append, bare-byte}
use Rattle.fz_shelf.specs.{Lines.has_no_end, Parts.address_digits, Parts.byte_digits}
use Rattle.fz_status.specs.Refusals.{CarriesNoMemory, IsRefusal, Refusals, Refuses, Tells, of_fast}
use Rattle.fz_status.specs.declared.status.Status.{Status}
use Rattle.fz_status.specs.declared.status.Status.TheVariants as status
use Rattle.srecord.specs.Lines.{bad_sum, unopened, unread, wide}
use Rattle.srecord.specs.Texts.{Given, HasFault, LineFails, after_end, at_line, count_differs, fields_fail}
use Rattle.srecord.specs.Texts.{no_end, opening_fails, overlap, record_fails}
use Rattle.srecord.specs.declared.fault.SrecFault.{SrecFault}
use Rattle.srecord.specs.declared.fault.SrecFault.TheVariants as srec
use Rattle.command_parts.specs.{Judged.AreJudged, Judged.HasResult, Judged.IsJudged, Lines.counted, Lines.registers_told}
use Rattle.command_parts.specs.Readings.{AreExact, Gives, GivesSome, IsExact, IsRefused, IsSettled, Reading, SeenOf}
use Rattle.command_parts.specs.Readings.{Stage}
use Rattle.command_parts.specs.Readings.{TellsContents, for_fast, last, made_of, refusals, seen_of, ◌then◌}
use Rattle.command_parts.specs.SeenOutputs.{IsFaultOf, SeenOutput}

-- ---- counted items, one more

counted-snoc : {X : Type 0} (f : ℕ → X → List (List ℕ)) (k : ℕ) (xs : List X) (x : X)
    → counted f k (xs ++ x ∷ []) ≡ counted f k xs ++ f (k + length xs) x
counted-snoc f k [] x = append-nil (f k x) ∙ ap (λ (n : ℕ). f n x) (omega arith)
counted-snoc f k (y ∷ xs) x =
    let at : k + 1 + length xs ≡ k + length (y ∷ xs) = omega arith in
    ap (λ ls. f k y ++ ls) (counted-snoc f (k + 1) xs x ∙ ap (λ (n : ℕ). counted f (k + 1) xs ++ f n x) at)
    ∙ sym (append_assoc (f k y) (counted f (k + 1) xs) (f (k + length (y ∷ xs)) x))

-- the lines so far with those of one item more
pub lines_more : {X : Type 0} (f : ℕ → X → List (List ℕ)) (xs : List X) (i : ℕ) (d : X)
    (before now next : List (List ℕ)) → i < length xs
    → now ≡ before ++ counted f 1 (take i xs) → next ≡ now ++ f (i + 1) (get_or xs i d)
    → next ≡ before ++ counted f 1 (take (i + 1) xs)
lines_more f xs i d before now next lt so_far step =
    let x = get_or xs i d in
    let more : take (i + 1) xs ≡ take i xs ++ x ∷ [] = rw add-one (take-suc xs i d lt) in
    let size : 1 + length (take i xs) ≡ i + 1 = omega (arith, length-take-le i xs (omega arith)) in
    let whole : counted f 1 (take (i + 1) xs) ≡ counted f 1 (take i xs) ++ f (i + 1) x =
    ap (counted f 1) more ∙ counted-snoc f 1 (take i xs) x ∙ ap (λ (n : ℕ). counted f 1 (take i xs) ++ f n x) size in
    step ∙ ap (λ ls. ls ++ f (i + 1) x) so_far ∙ append_assoc before (counted f 1 (take i xs)) (f (i + 1) x)
    ∙ ap (λ ls. before ++ ls) (sym whole)

pub counted-map : {X Y : Type 0} (f : ℕ → Y → List (List ℕ)) (g : X → Y) (k : ℕ) (xs : List X)
    → counted f k (map g xs) ≡ counted (λ n x. f n (g x)) k xs
counted-map f g k [] = refl
counted-map f g k (x ∷ xs) = ap (λ ls. f k (g x) ++ ls) (counted-map f g (k + 1) xs)

-- ---- texts, and lists of lines

-- one with what it was made of, and more behind it
pub made_with : {X : Type 0} (t x more u : List X) → u ≡ t ++ x → u ++ more ≡ t ++ (x ++ more)
made_with t x more u e = ap (λ l. l ++ more) e ∙ append_assoc t x more

pub made_next : {X : Type 0} (t x y more u : List X) → u ≡ t ++ (x ++ y) → u ++ more ≡ t ++ (x ++ (y ++ more))
made_next t x y more u e = made_with t (x ++ y) more u e ∙ ap (λ l. t ++ l) (append_assoc x y more)

-- no line ends in what is told of registers
pub bare-registers : (r : Regs) → has_no_end (registers_told r) ≡ true
bare-registers r =
    let ccr = codes " ccr " ++ byte_digits r.ccr.0 in
    let sp = codes " sp " ++ (address_digits r.sp ++ ccr) in
    let y = codes " y " ++ (address_digits r.y ++ sp) in
    let x = codes " x " ++ (address_digits r.x ++ y) in
    let b = codes " b " ++ (byte_digits r.b ++ x) in
    let a = codes " a " ++ (byte_digits r.a ++ b) in
    bare-append (address_digits r.pc) a (bare-address r.pc) (bare-append (byte_digits r.a) b (bare-byte r.a)
    (bare-append (byte_digits r.b) x (bare-byte r.b) (bare-append (address_digits r.x) y (bare-address r.x)
    (bare-append (address_digits r.y) sp (bare-address r.y) (bare-append (address_digits r.sp) ccr (bare-address r.sp)
    (bare-byte r.ccr.0))))))

-- what holds of each item as it is seen
pub of_seen : {X Y : Type 0} (P : Y → Type 0) (seen : X → Y) (xs : List X) → All P (map seen xs)
    → All (λ x. P (seen x)) xs
of_seen P seen [] each = All-nil _
of_seen P seen (x ∷ xs) each =
    All-cons (λ y. P (seen y)) x xs (All-head P (seen x) (map seen xs) each)
    (of_seen P seen xs (All-tail P (seen x) (map seen xs) each))

-- what refuses in one way refuses in another
pub refused : (inner outer : Refusals) → ((s : Status) → inner s → outer s) → (s : Status)
    → IsRefusal inner s → IsRefusal outer s
refused inner outer all status.Memory r = tt
refused inner outer all s r = (r.0, all s r.1)

refuses : (why : Refusals) (s : Status) → Refuses why s → IsRefusal why s
refuses why status.Memory r = tt
refuses why s r = r

-- a fault is refused as its status where what carries it is
pub told : {T : Type 0} (why : Refusals) (carrying : Status) (result : Result T Status)
    → IsErrAnd result (Tells carrying) → (CarriesNoMemory carrying → why carrying) → IfErr result (IsRefusal why)
told why carrying (Ok x) tells refused = tt
told why carrying (Err s) (inl (none, is)) refused =
    subst (λ x. IsRefusal why x) (sym is) (refuses why carrying (none, refused none))
told why carrying (Err s) (inr (want, is)) refused = subst (λ x. IsRefusal why x) (sym is) tt

-- ---- readings of files, each of which is exact

pub seen_once : {B : Type 0} (r : Reading B) → AreExact r → (b d : B) → Gives r b → Gives r d
    → seen_of r b ≡ seen_of r d
seen_once (last f) exact b d g h = exact.one b d g h
seen_once (first then next) exact p q g h =
    let all : (s : first.Seen) → SeenOf (next s) → SeenOf (first then next) = λ s z. (s, z) in
    subst (λ s. Gives (next s) q.1
    → all (first.seen p.0) (seen_of (next (first.seen p.0)) p.1) ≡ all s (seen_of (next s) q.1))
    (exact.0.one p.0 q.0 g.0 h.0)
    (λ k. ap (all (first.seen p.0)) (seen_once (next (first.seen p.0)) (exact.1 p.0 g.0) p.1 q.1 g.1 k)) h.1

pub not_refused : {B : Type 0} (r : Reading B) → AreExact r → (b : B) (s : Status) → Gives r b → CarriesNoMemory s
    → refusals r s → ⊥
not_refused (last f) exact b s g carries w = exact.apart b s g (carries, w)
not_refused (first then next) exact p s g carries (inl w) = exact.0.apart p.0 s g.0 (carries, w)
not_refused (first then next) exact p s g carries (inr (d, h, w)) =
    not_refused (next (first.seen p.0)) (exact.1 p.0 g.0) p.1 s g.1 carries
    (subst (λ t. refusals (next t) s) (exact.0.one d p.0 h g.0) w)

told_contents : {B : Type 0} (r : Reading B) → AreExact r → (s : Status) → refusals r s → TellsContents s
told_contents (last f) exact s w = exact.contents s w
told_contents (first then next) exact s (inl w) = exact.0.contents s w
told_contents (first then next) exact s (inr (d, h, w)) = told_contents (next (first.seen d)) (exact.1 d h) s w

pub refused_once : {B : Type 0} (r : Reading B) → AreExact r → (s t : Status) → Refuses (refusals r) s
    → Refuses (refusals r) t → s ≡ t
refused_once (last f) exact s t v w = exact.refused_once s t v w
refused_once (first then next) exact s t (c, inl v) (d, inl w) = exact.0.refused_once s t (c, v) (d, w)
refused_once (first then next) exact s t (c, inl v) (d, inr (b, g, w)) = absurd (exact.0.apart b s g (c, v))
refused_once (first then next) exact s t (c, inr (b, g, v)) (d, inl w) = absurd (exact.0.apart b t g (d, w))
refused_once (first then next) exact s t (c, inr (b, g, v)) (d, inr (e, h, w)) =
    refused_once (next (first.seen b)) (exact.1 b g) s t (c, v)
    (d, subst (λ x. refusals (next x) t) (exact.0.one e b h g) w)

-- ---- readings of files, each of which is judged

pub judged_all : {B : Type 0} (r : Reading B) → AreJudged r → GivesSome r ⊎ ((s : Status) × Refuses (refusals r) s)
judged_all (last f) judged = judged
judged_all (first then next) judged = elim judged.0 [
  | inr (s, refused) ↦ inr (s, (refused.0, inl refused.1))
  | inl (b, gives) ↦ elim (judged_all (next (first.seen b)) (judged.1 b gives)) [
    | inr (s, refused) ↦ inr (s, (refused.0, inr (b, gives, refused.1)))
    | inl (d, rest) ↦ inl ((b, d), (gives, rest))
  ]
]

-- so a command makes something of them, where it makes an output of files that give something
pub result_of : {B : Type 0} (r : Reading B) (gives : SeenOutput → Type 0) → AreJudged r
    → (GivesSome r → (output : SeenOutput) × gives output) → HasResult (made_of r gives)
result_of r gives judged some = elim (judged_all r judged) [
  | inl given ↦ (let output = some given in (Ok output.0, output.1))
  | inr (s, refused) ↦ (Err s, refused)
]

fast_carries : (t : Status) → CarriesNoMemory t → CarriesNoMemory (of_fast t)
fast_carries (status.Fcl f) c = c
fast_carries (status.Cert f) c = c
fast_carries (status.Trace f) c = c
fast_carries s c = c

pub judged_fast : {B : Type 0} (f : Stage B) → IsJudged f → IsJudged (for_fast f)
judged_fast {B} f (inl given) = inl given
judged_fast {B} f (inr (t, (carries, why))) = inr (of_fast t, (fast_carries t carries, (t, refl, why)))

-- a file that is refused by one fault of one kind, which its status tells
pub exact_of : {B F : Type 0} (f : Stage B) (tell : F → Status) (Has : F → Type 0)
    → ((x : F) → TellsContents (tell x)) → ((s : Status) → f.refuses s → (x : F) × (s ≡ tell x) × Has x)
    → ((b d : B) → f.gives b → f.gives d → f.seen b ≡ f.seen d)
    → ((b : B) (x : F) → f.gives b → CarriesNoMemory (tell x) → Has x → ⊥)
    → ((x y : F) → CarriesNoMemory (tell x) → CarriesNoMemory (tell y) → Has x → Has y → x ≡ y) → IsExact f
exact_of f tell Has contents has one none once = record {
  one = one;
  apart = λ b s g w. (let h = has s w.1 in
      none b h.0 g (subst (λ t. CarriesNoMemory t) h.1 w.0) h.2);
  contents = λ s w. (let h = has s w in subst (λ t. TellsContents t) (sym h.1) (contents h.0));
  refused_once = λ s t v w. (let h = has s v.1 in
      let k = has t w.1 in
      h.1 ∙ ap tell (once h.0 k.0 (subst (λ u. CarriesNoMemory u) h.1 v.0)
      (subst (λ u. CarriesNoMemory u) k.1 w.0) h.2 k.2) ∙ sym k.1);
}

carries_fast : (t : Status) → CarriesNoMemory (of_fast t) → CarriesNoMemory t
carries_fast (status.Fcl f) c = c
carries_fast (status.Cert f) c = c
carries_fast (status.Trace f) c = c
carries_fast s c = c

tells_fast : (t : Status) → TellsContents t → TellsContents (of_fast t)
tells_fast (status.Fcl f) c = tt
tells_fast (status.Cert f) c = tt
tells_fast (status.Trace f) c = tt
tells_fast s c = c

pub exact_fast : {B : Type 0} (f : Stage B) → IsExact f → IsExact (for_fast f)
exact_fast f own = record {
  one = own.one;
  apart = λ b s g w. own.apart b w.1.0 g
      (carries_fast w.1.0 (subst (λ t. CarriesNoMemory t) w.1.1 w.0), w.1.2);
  contents = λ s w. subst (λ t. TellsContents t) (sym w.1) (tells_fast w.0 (own.contents w.0 w.2));
  refused_once = λ s t v w. v.1.1
      ∙ ap of_fast (own.refused_once v.1.0 w.1.0
      (carries_fast v.1.0 (subst (λ u. CarriesNoMemory u) v.1.1 v.0), v.1.2)
      (carries_fast w.1.0 (subst (λ u. CarriesNoMemory u) w.1.1 w.0), w.1.2))
      ∙ sym w.1.1;
}

-- ---- what refuses files

-- a file gives something, and then one behind it is refused
pub behind : {A B : Type 0} {P Q : B → Type 0} (b : B) → P b → Q b → A ⊎ ((x : B) × P x × Q x)
behind b gives refused = inr (b, gives, refused)

pub refused_fast : {B : Type 0} (f : Stage B) (s : Status) → IsRefusal f.refuses s
    → IsRefusal (for_fast f).refuses (of_fast s)
refused_fast f status.Memory w = tt
refused_fast f (status.Fcl x) w = (w.0, (status.Fcl x, refl, w.1))
refused_fast f (status.Cert x) w = (w.0, (status.Cert x, refl, w.1))
refused_fast f (status.Trace x) w = (w.0, (status.Trace x, refl, w.1))
refused_fast f s w = (w.0, (s, refl, w.1))

refused_by : {B : Type 0} (r : Reading B) (s : Status) → IsRefused r s → IsRefusal (refusals r) s
refused_by (last f) s w = w
refused_by (first then next) s (inl w) = refused first.refuses (refusals (first then next)) (λ t x. inl x) s w
refused_by (first then next) s (inr (b, g, w)) =
    refused (refusals (next (first.seen b))) (refusals (first then next)) (λ t x. inr (b, g, x)) s
    (refused_by (next (first.seen b)) s w)

-- what refuses files is a fault of what is made of them
pub faulted : {B : Type 0} (r : Reading B) (gives : SeenOutput → Type 0)
    → ((s : Status) → Refuses (refusals r) s → CarriesNoMemory s × TellsContents s) → (s : Status) → IsRefused r s
    → IsFaultOf (made_of r gives) s
faulted r gives contents s w = go s (refused_by r s w)
  where
    go : (t : Status) → IsRefusal (refusals r) t → IsFaultOf (made_of r gives) t
    go status.Ok x = (contents status.Ok x).1
    go status.Usage x = (contents status.Usage x).1
    go (status.ReadFault p) x = (contents (status.ReadFault p) x).1
    go status.WriteFault x = (contents status.WriteFault x).1
    go (status.TooLong p) x = (contents (status.TooLong p) x).1
    go status.Memory x = tt
    go t x = x

-- what a command makes is settled, where it gives outputs of accepted files alone, and one of what is seen of them
pub settled : {B : Type 0} (r : Reading B) (gives : SeenOutput → Type 0) (accepted : Type 0) → AreExact r
    → (given : (output : SeenOutput) → gives output → GivesSome r)
    → ((output other : SeenOutput) (a : gives output) (b : gives other)
    → seen_of r (given output a).0 ≡ seen_of r (given other b).0 → output ≡ other)
    → (accepted → (output : SeenOutput) × gives output) → IsSettled (made_of r gives) accepted
settled r gives accepted exact given one some = record {
  one = λ output other a b. (let p = given output a in
      let q = given other b in
      one output other a b (seen_once r exact p.0 q.0 p.1 q.1));
  no_fault = λ output s a w. (let p = given output a in not_refused r exact p.0 s p.1 w.0 w.1);
  some = some;
  contents = λ s w. (w.0, told_contents r exact s w.1);
  one_fault = refused_once r exact;
}

-- and so where more is asked
pub settled_with : {made : Result SeenOutput Status → Type 0} {accepted more : Type 0} → IsSettled made accepted
    → IsSettled made (more × accepted)
settled_with s = record {
  one = s.one;
  no_fault = s.no_fault;
  some = λ a. s.some a.1;
  contents = s.contents;
  one_fault = s.one_fault;
}

-- ---- records

line_carries : (g : Given) (n : ℕ) (line : List ℕ) (f : SrecFault) → LineFails g n line f → f ≢ srec.Memory
line_carries g n line _ (after_end started) e = cc
line_carries g n line _ (opening_fails _ none (wide is_wide)) e = cc
line_carries g n line _ (opening_fails _ none (unopened narrow never)) e = cc
line_carries g n line _ (fields_fail kind bytes _ none opens (unread never)) e = cc
line_carries g n line _ (fields_fail kind bytes _ none opens (bad_sum at payload sum has differs)) e = cc
line_carries g n line _ (record_fails _ _ _ _ none is (overlap at payload taken)) e = cc
line_carries g n line _ (record_fails _ _ _ _ none is (count_differs at payload differs)) e = cc

pub records_carry : (text : List ℕ) (f : SrecFault) → HasFault text f → f ≢ srec.Memory
records_carry text _ (at_line before after line g f is given fails) e =
    line_carries g (length before + 1) line f fails e
records_carry text _ (no_end g given none) e = cc
