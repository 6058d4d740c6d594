-- What one part of REV and one of REVW do.
use Rattle.std.proofs.Common.{◌≡◌, ℕ, ◌^◌, ◌<◌, min, max, Bool, true, false, List, [], ◌∷◌, get_or, refl, ap, ap₂, ◌∙◌}
use Rattle.std.proofs.Common.{◌⊎◌, inl, inr}
use Rattle.std.proofs.Common.{subst, arith, get_or-set_other}
use Rattle.std.proofs.lemmas.Bool.{ne_eqb, false≢true}
use Rattle.cpu12_isa.specs.declared.{instr.Regs.Regs, instr.Ccr.Ccr}
use Rattle.cpu12_isa.specs.Flags.{has, put, opened, carry, overflow, hnzc, hnz}
use Rattle.cpu12_isa.specs.{Act.outcome, Act.read_by, Memory.plus, Memory.word_of}
use Rattle.cpu12_isa.proofs.Bits.{bits_of}
use Rattle.cpu12_isa.proofs.Algebra.{bit, bit_or_is, bit_and_is, same_ccr, fits_put, fits_opened}
use Rattle.cpu12_parts.specs.{declared.temps.Temps.Temps, Parts.rev, Parts.revw, Rules.rev_operands, Rules.revw_operands}
use Rattle.cpu12_parts.specs.Laws.{RevIsWhole, RevwIsWhole}
use Rattle.cpu12_parts.specs.{State.Outcome, Parts.rev_element, Parts.revw_element}
use Rattle.cpu12_parts.proofs.RuleParts.{at_rules, gives, Does, Walks, rules_are_whole}

abbrev regs_at : Regs → ℕ → ℕ → ℕ → Ccr → Regs
regs_at r a x y c = record r { a = a; x = x; y = y; ccr = c }

-- REV's part by the element at X
rev_by : (flags : ℕ) (r : Regs) (t : Temps) (a x y e : ℕ) (c : Ccr) (mem : List ℕ) (o : Outcome) (ats : List ℕ)
    → get_or mem x 0 ≡ e
    → outcome (rev_element flags (regs_at r a x y c) t e) mem ≡ o
    → read_by (rev_element flags (regs_at r a x y c) t e) mem ≡ ats
    → Does rev flags (at_rules r t a x y c mem) o (x ∷ ats)
rev_by flags r t a x y e c mem o ats is does reads = record {
  is = ap (λ (k : ℕ). outcome (rev_element flags (regs_at r a x y c) t k) mem) is ∙ does;
  reads = ap (λ (k : ℕ). x ∷ read_by (rev_element flags (regs_at r a x y c) t k) mem) is
      ∙ ap (λ (xs : List ℕ). x ∷ xs) reads;
}

revw_by : (flags : ℕ) (r : Regs) (t : Temps) (a x y e : ℕ) (c : Ccr) (mem : List ℕ) (o : Outcome) (ats : List ℕ)
    → word_of (get_or mem x 0) (get_or mem (plus x 1) 0) ≡ e
    → outcome (revw_element flags (regs_at r a x y c) t e) mem ≡ o
    → read_by (revw_element flags (regs_at r a x y c) t e) mem ≡ ats
    → Does revw flags (at_rules r t a x y c mem) o (x ∷ plus x 1 ∷ ats)
revw_by flags r t a x y e c mem o ats is does reads = record {
  is = ap (λ (k : ℕ). outcome (revw_element flags (regs_at r a x y c) t k) mem) is ∙ does;
  reads = ap (λ (k : ℕ). x ∷ plus x 1 ∷ read_by (revw_element flags (regs_at r a x y c) t k) mem) is
      ∙ ap (λ (xs : List ℕ). x ∷ plus x 1 ∷ xs) reads;
}

-- an element that names a byte
rev_least : (flags : ℕ) (r : Regs) (t : Temps) (a x y e : ℕ) (c : Ccr) (mem : List ℕ) → get_or mem x 0 ≡ e → e < 254
    → has c overflow ≡ false
    → Does rev flags (at_rules r t a x y c mem)
    (gives r t (min a (get_or mem (plus y e) 0)) (plus x 1) y (opened c hnzc flags) []) (x ∷ plus y e ∷ [])
rev_least flags r t a x y e c mem is l v =
    let h5 = ne_eqb e 255 (λ q. omega arith) in let h4 = ne_eqb e 254 (λ q. omega arith) in
    rev_by flags r t a x y e c mem _ _ is (rw (h5, h4, v)) (rw (h5, h4, v))

rev_raise : (flags : ℕ) (r : Regs) (t : Temps) (a x y e : ℕ) (c : Ccr) (mem : List ℕ) → get_or mem x 0 ≡ e → e < 254
    → has c overflow ≡ true
    → Does rev flags (at_rules r t a x y c mem)
    (gives r t a (plus x 1) y (opened c hnzc flags) ((plus y e, max (get_or mem (plus y e) 0) a) ∷ []))
    (x ∷ plus y e ∷ [])
rev_raise flags r t a x y e c mem is l v =
    let h5 = ne_eqb e 255 (λ q. omega arith) in let h4 = ne_eqb e 254 (λ q. omega arith) in
    rev_by flags r t a x y e c mem _ _ is (rw (h5, h4, v)) (rw (h5, h4, v))

revw_least : (flags : ℕ) (r : Regs) (t : Temps) (a x y e : ℕ) (c : Ccr) (mem : List ℕ)
    → word_of (get_or mem x 0) (get_or mem (plus x 1) 0) ≡ e → e < 65534
    → has c overflow ≡ false
    → Does revw flags (at_rules r t a x y c mem)
    (gives r t (min a (get_or mem e 0)) (plus x 2) y (opened c hnz flags) []) (x ∷ plus x 1 ∷ e ∷ [])
revw_least flags r t a x y e c mem is l v =
    let h5 = ne_eqb e 65535 (λ q. omega arith) in let h4 = ne_eqb e 65534 (λ q. omega arith) in
    revw_by flags r t a x y e c mem _ _ is (rw (h5, h4, v)) (rw (h5, h4, v))

revw_raise : (flags : ℕ) (r : Regs) (t : Temps) (a x y e : ℕ) (c : Ccr) (mem : List ℕ)
    → word_of (get_or mem x 0) (get_or mem (plus x 1) 0) ≡ e → e < 65534
    → has c overflow ≡ true
    → Does revw flags (at_rules r t a x y c mem)
    (gives r t a (plus x 2) y (opened c hnz flags) ((e, max (get_or mem e 0) a) ∷ [])) (x ∷ plus x 1 ∷ e ∷ [])
revw_raise flags r t a x y e c mem is l v =
    let h5 = ne_eqb e 65535 (λ q. omega arith) in let h4 = ne_eqb e 65534 (λ q. omega arith) in
    revw_by flags r t a x y e c mem _ _ is (rw (h5, h4, v)) (rw (h5, h4, v))

-- the flags that REV's part opens, or those that REVW's does
abbrev IsMask : ℕ → Type 0
IsMask mask = (mask ≡ hnzc) ⊎ (mask ≡ hnz)

-- the flags behind a list's last part
abbrev last : ℕ → ℕ → Ccr → Ccr
last mask flags c = put (opened c mask flags) overflow true

fits_put_opened : (mask flags : ℕ) (c : Ccr) (b : Bool) → c.0 < 2 ^ 8 → flags < 2 ^ 8
    → (put (opened c mask flags) overflow b).0 < 2 ^ 8
fits_put_opened mask flags c b f g = fits_put (opened c mask flags) overflow b (omega arith) (fits_opened c mask flags f g)

fits_last : (mask flags : ℕ) (c : Ccr) → c.0 < 2 ^ 8 → flags < 2 ^ 8 → (last mask flags c).0 < 2 ^ 8
fits_last mask flags c f g = fits_put_opened mask flags c true f g

-- they are those flags too where they were opened before, with V put or not
last_opened : (mask flags : ℕ) (c : Ccr) → IsMask mask → c.0 < 2 ^ 8 → flags < 2 ^ 8
    → last mask flags (opened c mask flags) ≡ last mask flags c
last_opened mask flags c is f g =
    same_ccr (last mask flags (opened c mask flags)) (last mask flags c)
    (fits_last mask flags (opened c mask flags) (fits_opened c mask flags f g) g) (fits_last mask flags c f g)
    (elim is [ inl e ↦ rw e (simp (bit_or_is, bit_and_is)) | inr e ↦ rw e (simp (bit_or_is, bit_and_is)) ])

last_bits : (mask flags : ℕ) (c : Ccr) (b : Bool) → IsMask mask
    → bits_of (last mask flags (put (opened c mask flags) overflow b)).0 ≡ bits_of (last mask flags c).0
last_bits mask flags c true (inl e) = rw e (simp (bit_or_is, bit_and_is))
last_bits mask flags c true (inr e) = rw e (simp (bit_or_is, bit_and_is))
last_bits mask flags c false (inl e) = rw e (simp (bit_or_is, bit_and_is))
last_bits mask flags c false (inr e) = rw e (simp (bit_or_is, bit_and_is))

last_put : (mask flags : ℕ) (c : Ccr) (b : Bool) → IsMask mask → c.0 < 2 ^ 8 → flags < 2 ^ 8
    → last mask flags (put (opened c mask flags) overflow b) ≡ last mask flags c
last_put mask flags c b is f g =
    same_ccr (last mask flags (put (opened c mask flags) overflow b)) (last mask flags c)
    (fits_last mask flags (put (opened c mask flags) overflow b) (fits_put_opened mask flags c b f g) g)
    (fits_last mask flags c f g) (last_bits mask flags c b is)

-- where V is set, they are the opened ones
opened_last : (mask flags : ℕ) (c : Ccr) → IsMask mask → c.0 < 2 ^ 8 → flags < 2 ^ 8 → has c overflow ≡ true
    → opened c mask flags ≡ last mask flags c
opened_last mask flags c is f g v =
    let b : bit c.0 1 ≡ true = v in
    same_ccr (opened c mask flags) (last mask flags c) (fits_opened c mask flags f g) (fits_last mask flags c f g)
    (elim is [
      | inl e ↦ rw e (simp (bit_or_is, bit_and_is) (rw b refl))
      | inr e ↦ rw e (simp (bit_or_is, bit_and_is) (rw b refl))
    ])

revw_weighing : (c : Ccr) (b : Bool) → has (put c overflow b) carry ≡ has c carry
revw_weighing c true = simp bit_or_is
revw_weighing c false = simp bit_and_is

pub rev_walks : (flags : ℕ) (r : Regs) (t : Temps) → Walks rev flags (rev_operands r.y) r t
rev_walks flags r t = record {
  stops = λ a x y c mem is. rev_by flags r t a x y 255 c mem _ _ is refl refl;
  turns = λ a x y c mem is v. rev_by flags r t a x y 254 c mem _ _ is (rw v) (rw v);
  begins = λ a x y c mem is v o. rev_by flags r t a x y 254 c mem _ _ is (rw v) (rw v);
  weighs = λ a x y c mem is v o. absurd (false≢true o);
  leasts = λ e a x y c mem is l v at. (let y0 = at refl in
      subst (λ (n : ℕ). Does rev flags (at_rules r t a x y c mem)
      (gives r t (min a (get_or mem (plus n e) 0)) (plus x 1) y (opened c hnzc flags) []) (x ∷ plus n e ∷ [])) y0
      (rev_least flags r t a x y e c mem is l v));
  raises = λ e a x y c mem is l v at. (let y0 = at refl in
      subst (λ (n : ℕ). Does rev flags (at_rules r t a x y c mem)
      (gives r t a (plus x 1) y (opened c hnzc flags) ((plus n e, max (get_or mem (plus n e) 0) a) ∷ []))
      (x ∷ plus n e ∷ [])) y0 (rev_raise flags r t a x y e c mem is l v));
  element_stays = λ mem i v x n. get_or-set_other mem i x v 0 n.0;
  v_opened = λ c. simp (bit_or_is, bit_and_is);
  weighs_opened = λ c. refl;
  weighs_put = λ c b. refl;
  ends_opened = λ c f g. last_opened hnzc flags c (inl refl) f g;
  ends_put = λ c b f g. last_put hnzc flags c b (inl refl) f g;
  ends_set = λ c f g v. opened_last hnzc flags c (inl refl) f g v;
}

pub revw_walks : (flags : ℕ) (r : Regs) (t : Temps) → Walks revw flags revw_operands r t
revw_walks flags r t = record {
  stops = λ a x y c mem is. revw_by flags r t a x y 65535 c mem _ _ is refl refl;
  turns = λ a x y c mem is v. revw_by flags r t a x y 65534 c mem _ _ is (rw v) (rw v);
  begins = λ a x y c mem is v o. revw_by flags r t a x y 65534 c mem _ _ is (rw (v, o)) (rw (v, o));
  weighs = λ a x y c mem is v o. revw_by flags r t a x y 65534 c mem _ _ is (rw (v, o)) (rw (v, o));
  leasts = λ e a x y c mem is l v at. revw_least flags r t a x y e c mem is l v;
  raises = λ e a x y c mem is l v at. revw_raise flags r t a x y e c mem is l v;
  element_stays = λ mem i v x n. ap₂ word_of (get_or-set_other mem i x v 0 n.0)
      (get_or-set_other mem i (plus x 1) v 0 n.1.0);
  v_opened = λ c. simp (bit_or_is, bit_and_is);
  weighs_opened = λ c. simp (bit_or_is, bit_and_is);
  weighs_put = revw_weighing;
  ends_opened = λ c f g. last_opened hnz flags c (inr refl) f g;
  ends_put = λ c b f g. last_put hnz flags c b (inr refl) f g;
  ends_set = λ c f g v. opened_last hnz flags c (inr refl) f g v;
}

pub rev_is_whole : RevIsWhole
rev_is_whole flags r t mem p ps d h g ff fc ready len shown kept =
    rules_are_whole rev flags (rev_operands r.y) r t (rev_walks flags r t) mem p ps d h g ff fc ready len shown kept

pub revw_is_whole : RevwIsWhole
revw_is_whole flags r t mem p ps d h g ff fc ready len shown kept =
    rules_are_whole revw flags revw_operands r t (revw_walks flags r t) mem p ps d h g ff fc ready len shown kept
