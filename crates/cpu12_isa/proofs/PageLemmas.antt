-- Memory as pages, byte by byte.
use Rattle.std.proofs.Common.{arith, ◌≡◌, ◌≢◌, ◌≤◌, ◌<◌, ◌+◌, ◌*◌, ◌/◌, ◌%◌, ℕ, zero, suc, Bool, true, false, cond}
use Rattle.std.proofs.Common.{List, [], ◌∷◌, length, get_or, set, replicate, refl, sym, ap, ◌∙◌, inl, inr}
use Rattle.std.specs.Prelude.{not, ◌==◌, count_by, sum_by}
use Rattle.std.proofs.lemmas.Bool.{cases_eq, cases_lt, ne_eqb}
use Rattle.std.proofs.lemmas.List.{length-append, ext_get_or, get_or-set_same, get_or-set_other}
use Rattle.std.proofs.lemmas.List.{get_or-replicate, get_or-map, length-map, length-set, map-set}
use Rattle.std.proofs.lemmas.List.{get_or_append_left, get_or_push, set-get_or}
use Rattle.std.proofs.lemmas.List.Sums.{count_by-le-length, sum_by-set}
use Rattle.cpu12_isa.specs.{Memory.zeros, Pages.ArePages, Pages.byte_in, Pages.bytes_in, Pages.given_in}
use Rattle.cpu12_isa.proofs.Zeros.{length_zeros, zero_at}

pub length_bytes_in : (table pool : List ℕ) (n : ℕ) → length (bytes_in table pool n) ≡ n
unfolding bytes_in
length_bytes_in table pool zero = refl
length_bytes_in table pool (suc n) = length-append (bytes_in table pool n) (byte_in table pool n ∷ [])
    ∙ (let e = length_bytes_in table pool n in omega arith)

pub bytes_in-at : (table pool : List ℕ) (n at : ℕ) → at < n
    → get_or (bytes_in table pool n) at 0 ≡ byte_in table pool at
unfolding bytes_in
bytes_in-at table pool zero at l = absurd (omega arith)
bytes_in-at table pool (suc n) at l = elim (cases_lt at n) [
  | inl b ↦ get_or_append_left (bytes_in table pool n) (byte_in table pool n ∷ []) 0 at
      (let e = length_bytes_in table pool n in omega arith) ∙ bytes_in-at table pool n at b
  | inr b ↦
      let here : at ≡ n = omega arith in
      get_or_push (bytes_in table pool n) (byte_in table pool n) 0 at (length_bytes_in table pool n ∙ sym here)
      ∙ ap (byte_in table pool) (sym here)
]

-- two memories of pages with the same bytes
pub bytes_in-same : (table other pool bytes : List ℕ)
    → ((at : ℕ) → at < 65536 → byte_in table pool at ≡ byte_in other bytes at)
    → bytes_in table pool 65536 ≡ bytes_in other bytes 65536
bytes_in-same table other pool bytes same =
    ext_get_or 0 (bytes_in table pool 65536) (bytes_in other bytes 65536)
    (length_bytes_in table pool 65536 ∙ sym (length_bytes_in other bytes 65536))
    (λ at l.
    let within : at < 65536 = (let e = length_bytes_in table pool 65536 in omega arith) in
    bytes_in-at table pool 65536 at within ∙ same at within ∙ sym (bytes_in-at other bytes 65536 at within))

-- ... and two that differ in one byte
pub bytes_in-set : (table pool bytes : List ℕ) (at v : ℕ) → at < 65536 → byte_in table bytes at ≡ v
    → ((k : ℕ) → k < 65536 → k ≢ at → byte_in table bytes k ≡ byte_in table pool k)
    → bytes_in table bytes 65536 ≡ set (bytes_in table pool 65536) at v
bytes_in-set table pool bytes at v l here others =
    ext_get_or 0 (bytes_in table bytes 65536) (set (bytes_in table pool 65536) at v)
    (length_bytes_in table bytes 65536 ∙ sym (length_bytes_in table pool 65536)
    ∙ sym (length-set (bytes_in table pool 65536) at v))
    (λ k b.
    let within : k < 65536 = (let e = length_bytes_in table bytes 65536 in omega arith) in
    bytes_in-at table bytes 65536 k within ∙ elim (cases_eq k at) [
      | inl e ↦ ap (byte_in table bytes) e ∙ here
          ∙ sym (ap (λ (n : ℕ). get_or (set (bytes_in table pool 65536) at v) n 0) e
          ∙ get_or-set_same (bytes_in table pool 65536) at v 0
          (let e = length_bytes_in table pool 65536 in omega arith))
      | inr n ↦ others k within n ∙ sym (bytes_in-at table pool 65536 k within)
          ∙ sym (get_or-set_other (bytes_in table pool 65536) at k v 0 n)
    ])

-- ---- which pages have a place

pub has_place : (n : ℕ) → n ≢ 0 → not (n == 0) ≡ true
has_place n other = ap not (ne_eqb n 0 other)

pub few_used : (table pool : List ℕ) (used : ℕ) → ArePages table pool used → used ≤ 256
few_used table pool used are =
    let most = count_by-le-length (λ (given : Bool). given) (given_in table) in
    let size = length-map table (λ (place : ℕ). not (place == 0)) in
    omega (arith, most, size, are.places, are.count)

-- the place of a byte is in the pool
pub in_pool : (table pool : List ℕ) (used page n : ℕ) → ArePages table pool used → page < 256 → n < 256
    → get_or table page 0 * 256 + n < 65792
in_pool table pool used page n are in_table in_page =
    omega (arith, few_used table pool used are, are.taken page in_table)

given_at : (table : List ℕ) (page : ℕ) → page < length table
    → get_or (given_in table) page false ≡ not (get_or table page 0 == 0)
given_at table page l = get_or-map (λ (place : ℕ). not (place == 0)) table page 0 false l

pub stays_given : (table : List ℕ) (page : ℕ) → page < length table → get_or table page 0 ≢ 0
    → given_in table ≡ set (given_in table) page true
stays_given table page l own =
    sym (set-get_or (given_in table) page false)
    ∙ ap (set (given_in table) page) (given_at table page l ∙ has_place (get_or table page 0) own)

-- ---- all at first

abbrev no_places : List ℕ
no_places = replicate 256 0

none_at : (page : ℕ) → page < 256 → get_or no_places page 0 ≡ 0
none_at page l = get_or-replicate {A = ℕ} 256 page 0 0 l

pub none_used : ArePages (replicate 256 0) (zeros 65792) 0
none_used = record {
  places = refl;
  bytes = length_zeros 65792;
  count = refl;
  taken = λ page l. omega (arith, none_at page l);
  apart = λ page next l m own same. absurd (own (none_at page l));
  zero_page = λ n l. zero_at 65792 n;
  rest = λ n l. zero_at 65792 n;
}

pub none_bytes : bytes_in (replicate 256 0) (zeros 65792) 65536 ≡ zeros 65536
none_bytes =
    ext_get_or 0 (bytes_in (replicate 256 0) (zeros 65792) 65536) (zeros 65536)
    (length_bytes_in (replicate 256 0) (zeros 65792) 65536 ∙ sym (length_zeros 65536))
    (λ at l.
    let within : at < 65536 = (let e = length_bytes_in (replicate 256 0) (zeros 65792) 65536 in omega arith) in
    bytes_in-at (replicate 256 0) (zeros 65792) 65536 at within
    ∙ zero_at 65792 (get_or (replicate 256 0) (at / 256) 0 * 256 + at % 256) ∙ sym (zero_at 65536 at))

pub none_given : given_in (replicate 256 0) ≡ replicate 256 false
none_given = refl

-- ---- a page is given a place

module _ (table pool : List ℕ) (used page : ℕ) (are : ArePages table pool used) (in_table : page < 256)
    (none : get_or table page 0 ≡ 0) where
  here : get_or (set table page (used + 1)) page 0 ≡ used + 1
  here = get_or-set_same table page (used + 1) 0 (omega (arith, are.places))

  elsewhere : (q : ℕ) → q ≢ page → get_or (set table page (used + 1)) q 0 ≡ get_or table q 0
  elsewhere q other = get_or-set_other table page q (used + 1) 0 other

  pub given_set : given_in (set table page (used + 1)) ≡ set (given_in table) page true
  given_set =
      map-set (λ (place : ℕ). not (place == 0)) table page (used + 1)
      ∙ ap (set (given_in table) page) (has_place (used + 1) (λ e. absurd (omega arith)))

  counted : used + 1 ≡ count_by (λ (given : Bool). given) (given_in (set table page (used + 1)))
  counted =
      let in_given : page < length (given_in table) =
      (let e = length-map table (λ (place : ℕ). not (place == 0)) in omega (arith, are.places)) in
      let more = sum_by-set (λ (given : Bool). cond given 1 0) (given_in table) page true false in_given in
      let was : get_or (given_in table) page false ≡ false =
      given_at table page (omega (arith, are.places)) ∙ ap (λ (place : ℕ). not (place == 0)) none in
      let all : sum_by (λ (given : Bool). cond given 1 0) (set (given_in table) page true) + 0 ≡ used + 1 =
      ap (λ (given : Bool). sum_by (λ (b : Bool). cond b 1 0) (set (given_in table) page true) + cond given 1 0)
      (sym was)
      ∙ more ∙ ap (λ (n : ℕ). n + 1) (sym are.count) in
      sym all ∙ omega arith ∙ ap (count_by (λ (given : Bool). given)) (sym given_set)

  pub given_pages : ArePages (set table page (used + 1)) pool (used + 1)
  given_pages = record {
    places = length-set table page (used + 1) ∙ are.places;
    bytes = are.bytes;
    count = counted;
    taken = λ q l. elim (cases_eq q page) [
      | inl e ↦ omega (arith, here, ap (λ (n : ℕ). get_or (set table page (used + 1)) n 0) e)
      | inr other ↦ omega (arith, elsewhere q other, are.taken q l)
    ];
    apart = λ q r l m own same. elim (cases_eq q page) [
      | inl e ↦ elim (cases_eq r page) [
        | inl f ↦ e ∙ sym f
        | inr other ↦ absurd
            (omega (
              arith,
              here,
              ap (λ (n : ℕ). get_or (set table page (used + 1)) n 0) e,
              same,
              elsewhere r other,
              are.taken r m,
            ))
      ]
      | inr other ↦ elim (cases_eq r page) [
        | inl f ↦ absurd (omega (
          arith,
          here,
          ap (λ (n : ℕ). get_or (set table page (used + 1)) n 0) f,
          same,
          elsewhere q other,
          are.taken q l,
        ))
        | inr others ↦ are.apart q r l m (λ z. own (elsewhere q other ∙ z))
            (sym (elsewhere q other) ∙ same ∙ elsewhere r others)
      ]
    ];
    zero_page = are.zero_page;
    rest = λ n l. are.rest n (omega arith);
  }

  pub given_bytes : bytes_in (set table page (used + 1)) pool 65536 ≡ bytes_in table pool 65536
  given_bytes = bytes_in-same (set table page (used + 1)) table pool pool (λ at l. elim (cases_eq (at / 256) page) [
    | inl e ↦
        let new : get_or (set table page (used + 1)) (at / 256) 0 ≡ used + 1 =
        ap (λ (n : ℕ). get_or (set table page (used + 1)) n 0) e ∙ here in
        let old : get_or table (at / 256) 0 ≡ 0 = ap (λ (n : ℕ). get_or table n 0) e ∙ none in
        are.rest (get_or (set table page (used + 1)) (at / 256) 0 * 256 + at % 256) (omega (arith, new))
        ∙ sym (are.zero_page (get_or table (at / 256) 0 * 256 + at % 256) (omega (arith, old)))
    | inr other ↦ ap (λ (place : ℕ). get_or pool (place * 256 + at % 256) 0) (elsewhere (at / 256) other)
  ])

-- ---- a byte is written

module _ (table pool : List ℕ) (used at v : ℕ) (are : ArePages table pool used) (in_memory : at < 65536)
    (own : get_or table (at / 256) 0 ≢ 0) where
  in_table : at / 256 < 256
  in_table = omega arith

  within : get_or table (at / 256) 0 * 256 + at % 256 < 65792
  within = in_pool table pool used (at / 256) (at % 256) are in_table (omega arith)

  pub put_pages : ArePages table (set pool (get_or table (at / 256) 0 * 256 + at % 256) v) used
  put_pages = record {
    places = are.places;
    bytes = length-set pool (get_or table (at / 256) 0 * 256 + at % 256) v ∙ are.bytes;
    count = are.count;
    taken = are.taken;
    apart = are.apart;
    zero_page = λ n l.
        get_or-set_other pool (get_or table (at / 256) 0 * 256 + at % 256) n v 0 (λ e. own (omega arith))
        ∙ are.zero_page n l;
    rest = λ n l.
        get_or-set_other pool (get_or table (at / 256) 0 * 256 + at % 256) n v 0
        (λ e. absurd (omega (arith, are.taken (at / 256) in_table)))
        ∙ are.rest n l;
  }

  pub put_bytes : bytes_in table (set pool (get_or table (at / 256) 0 * 256 + at % 256) v) 65536 ≡ set
      (bytes_in table pool 65536) at v
  put_bytes =
      bytes_in-set table pool (set pool (get_or table (at / 256) 0 * 256 + at % 256) v) at v in_memory
      (get_or-set_same pool (get_or table (at / 256) 0 * 256 + at % 256) v 0 (omega (arith, within, are.bytes)))
      (λ k l other.
      get_or-set_other pool (get_or table (at / 256) 0 * 256 + at % 256) (get_or table (k / 256) 0 * 256 + k % 256) v 0
      (λ e.
      let same : get_or table (k / 256) 0 ≡ get_or table (at / 256) 0 = omega arith in
      let page : k / 256 ≡ at / 256 =
      are.apart (k / 256) (at / 256) (omega arith) in_table (λ z. own (sym same ∙ z)) same in
      other (omega arith)))

-- a 0 that is written into a page without a place changes nothing
pub zero_put : (table pool : List ℕ) (used at : ℕ) → ArePages table pool used → at < 65536
    → get_or table (at / 256) 0 ≡ 0
    → bytes_in table pool 65536 ≡ set (bytes_in table pool 65536) at 0
zero_put table pool used at are l none =
    let zero_there : get_or (bytes_in table pool 65536) at 0 ≡ 0 =
    bytes_in-at table pool 65536 at l
    ∙ are.zero_page (get_or table (at / 256) 0 * 256 + at % 256) (omega (arith, none)) in
    sym (set-get_or (bytes_in table pool 65536) at 0) ∙ ap (set (bytes_in table pool 65536) at) zero_there
