-- What is held of an output's terms, from the last to the first.
use Rattle.std.proofs.Common.{◌≡◌, ℕ, suc, ◌+◌, ◌-◌, ◌<◌, ◌≤◌, List, length, get_or, drop, [], ◌∷◌, refl, sym, ap, ◌∙◌}
use Rattle.std.proofs.Common.{subst, arith}
use Rattle.std.specs.Prelude.{pos, unsigned_abs, ◌<ℤ◌, ◌≤ℤ◌, Some}
use Rattle.std.proofs.lemmas.Int.{ints}
use Rattle.std.proofs.lemmas.List.{drop_all}
use Rattle.fz_num.specs.{declared.dec.Dec.Dec, declared.frac.Frac.Frac, Fractions.fraction_of, Fractions.IsTruth}
use Rattle.fuzzy_meaning.specs.declared.{block.Block.Block, block.Output.Output, answers.Heavy.Heavy}
use Rattle.fuzzy_meaning.specs.declared.{answers.Held.Held, answers.Held.TheVariants.Nothing}
use Rattle.fuzzy_meaning.specs.Blocks.{IsValid, IsWithin, output_at}
use Rattle.fuzzy_meaning.specs.Holding.{share_of, shares_of, AreSmall, IsSmall, Reduces}
use Rattle.fuzzy_meaning.specs.Meaning.{mass, shares_from, heavy_shares}
use Rattle.fuzzy_meaning.proofs.BlockLemmas.{zero_dec, IsValidOutput-found}
use Rattle.fuzzy_meaning.proofs.ShareLemmas.{Reduces-nil, Reduces-cons, Reduces-drop, heavy_shares-yes}
use Rattle.fuzzy_meaning.proofs.ShareLemmas.{heavy_shares-no, shares_from-drop, length-heavy-drop}

-- the term before number k + 1, with its mass
abbrev pub term_before : List Dec → ℕ → Frac → Heavy
term_before us k m = record { at = get_or us (k - 1) zero_dec; mass = m }

-- a valid output has few terms
pub terms_few : (b : Block) (o k : ℕ) (x : Output) (us : List Dec) → IsValid b → output_at b o ≡ Some x
    → us ≡ x.singletons → k ≤ length us → k ≤ 15
terms_few b o k x us v found same upto =
    let few = (IsValidOutput-found b o x v found).few_terms in
    omega (arith, few, ap length same, upto)

-- a valid output's term that has a mass
pub IsSmall-term : (b : Block) (o k : ℕ) (x : Output) (us : List Dec) (m : Frac) → IsValid b → output_at b o ≡ Some x
    → us ≡ x.singletons → 0 < k → k ≤ length us → IsTruth 40000000000000 m → pos 0 <ℤ m.num
    → IsSmall (term_before us k m)
IsSmall-term b o k x us m v found same from upto truth some =
    let valid = IsValidOutput-found b o x v found in
    let in_terms : k - 1 < length x.singletons = omega (arith, ap length same, from, upto) in
    let there = subst (λ ds. IsWithin x.lo x.hi (get_or ds (k - 1) zero_dec)) (sym same)
    (valid.singletons (k - 1) zero_dec in_terms) in
    record {
      low = omega (arith, ints, valid.lo_in.low, there.low);
      high = omega (arith, ints, valid.hi_in, there.high);
      some = some;
      mass = truth;
    }

module _ (b : Block) (xs : List Dec) (o : ℕ) (us : List Dec) where
  -- those of the terms from number k + 1 on that have a mass are held
  abbrev pub HoldsFrom : ℕ → Held → Type 0
  HoldsFrom k h =
      let rest = shares_from b xs o (k + 1) (drop k us) in
      AreSmall h × (shares_of h ≡ heavy_shares rest) × Reduces rest (shares_of h)

  pub HoldsFrom-end : HoldsFrom (length us) Nothing
  HoldsFrom-end =
      subst (λ ds. Unit {0} × ([] ≡ heavy_shares (shares_from b xs o (length us + 1) ds))
      × Reduces (shares_from b xs o (length us + 1) ds) []) (sym (drop_all (length us) us (omega arith)))
      (tt, refl, Reduces-nil)

  -- the term before number k + 1 has this mass
  pub record HasMassBefore (k : ℕ) (m : Frac) : Type 0 where
    pub from : 0 < k
    pub upto : k ≤ length us
    pub value : fraction_of m ≡ mass b xs o (k - 1 + 1)
    pub truth : IsTruth 40000000000000 m

  pub HasMassBefore-read : (k : ℕ) (m : Frac) → 0 < k → k ≤ length us → fraction_of m ≡ mass b xs o (k - 1 + 1)
      → IsTruth 40000000000000 m → HasMassBefore k m
  HasMassBefore-read k m from upto value truth =
      record { from = from; upto = upto; value = value; truth = truth }

  module _ (k : ℕ) (m : Frac) (has : HasMassBefore k m) where
    shares_before : shares_from b xs o (k - 1 + 1) (drop (k - 1) us)
        ≡ share_of (term_before us k m) ∷ shares_from b xs o (k + 1) (drop k us)
    shares_before = shares_from-drop b xs o us k zero_dec (fraction_of m) has.value has.from has.upto

    heavy_before : pos 0 <ℤ m.num → heavy_shares (shares_from b xs o (k - 1 + 1) (drop (k - 1) us))
        ≡ share_of (term_before us k m) ∷ heavy_shares (shares_from b xs o (k + 1) (drop k us))
    heavy_before some =
        ap heavy_shares shares_before
        ∙ heavy_shares-yes (share_of (term_before us k m)) (shares_from b xs o (k + 1) (drop k us))
        (omega (arith, ints, some))

    -- a term that has a mass is held before the others
    pub HoldsFrom-heavy : (h i : Held) → HoldsFrom k h → pos 0 <ℤ m.num → AreSmall i
        → shares_of i ≡ share_of (term_before us k m) ∷ shares_of h → HoldsFrom (k - 1) i
    HoldsFrom-heavy h i holds some small now =
        let s = share_of (term_before us k m) in
        let rest = shares_from b xs o (k + 1) (drop k us) in
        let sums = subst (Reduces (s ∷ rest)) (sym now) (Reduces-cons s rest (shares_of h) holds.2) in (
          small,
          now ∙ ap (λ hs. s ∷ hs) holds.1 ∙ sym (heavy_before some),
          subst (λ ss. Reduces ss (shares_of i)) (sym shares_before) sums,
        )

    -- a term without a mass is passed over
    pub HoldsFrom-massless : (h : Held) → HoldsFrom k h → m.num ≤ℤ pos 0 → HoldsFrom (k - 1) h
    HoldsFrom-massless h holds none =
        let s = share_of (term_before us k m) in
        let rest = shares_from b xs o (k + 1) (drop k us) in
        let massless : unsigned_abs m.num ≡ 0 = omega (arith, ints, none, has.truth.num_from) in
        let some : 0 < unsigned_abs m.den = omega (arith, ints, has.truth.den_from) in (
          holds.0,
          holds.1 ∙ sym (ap heavy_shares shares_before ∙ heavy_shares-no s rest massless),
          subst (λ ss. Reduces ss (shares_of h)) (sym shares_before)
              (Reduces-drop s rest (shares_of h) massless some holds.2),
        )

    -- a third term that has a mass
    pub heavy-third : (h : Held) → HoldsFrom k h → pos 0 <ℤ m.num → length (shares_of h) ≡ 2
        → 2 < length (heavy_shares (shares_from b xs o 1 us))
    heavy-third h holds some two =
        let all : length (heavy_shares (shares_from b xs o (k - 1 + 1) (drop (k - 1) us))) ≡ suc
        (length (shares_of h)) =
        ap length (heavy_before some) ∙ ap (λ hs. suc (length hs)) (sym holds.1) in
        let place : 1 + (k - 1) ≡ k - 1 + 1 = omega arith in
        let longer = subst (λ n. length (heavy_shares (shares_from b xs o n (drop (k - 1) us))) ≤ length
        (heavy_shares (shares_from b xs o 1 us))) place (length-heavy-drop b xs o 1 (k - 1) us) in
        omega (arith, all, two, longer)
