-- Plans of requests that are drawn.
use Rattle.std.proofs.Common.{arith, ◌≡◌, ◌≤◌, ◌<◌, ◌+◌, ◌*◌, ◌/◌, ◌%◌, ◌^◌, ℕ, zero, suc, true, List, [], ◌∷◌}
use Rattle.std.proofs.Common.{length, map}
use Rattle.std.proofs.Common.{refl, sym, ap, subst, ◌∙◌, inl, Some}
use Rattle.std.specs.List.{All, range_with_len}
use Rattle.std.specs.Prelude.{slice_get}
use Rattle.std.specs.Fmt.{decimal as digits}
use Rattle.std.proofs.lemmas.Bool.Decides.{nat_tests}
use Rattle.std.proofs.lemmas.Fmt.{length-decimal-le}
use Rattle.std.proofs.lemmas.List.{append-nil}
use Rattle.std.proofs.lemmas.List.Elements.{All-cons, All-nil}
use Rattle.std.proofs.lemmas.List.FromFn.{length-map-range_with_len}
use Rattle.cpu12_isa.specs.{Regions.free_start, Regions.is_free, declared.instr.Write.Write}
use Rattle.csv.specs.Writing.{default_writer, row_text}
use Rattle.hex.specs.Hex.{encode_upper, upper_digits}
use Rattle.hex.proofs.HexLemmas.{length-encode_with}
use Rattle.interrupt_plan.specs.Plans.{Ascends, IsGood, IsGoodRequest, Spells, SpellsRequest}
use Rattle.interrupt_plan.specs.{Rows.with_write, declared.Request.Request}
use Rattle.workload.specs.{Draws.draw, Texts.request_fields, Workloads.AreDrawnRequests, Workloads.drawn_request}
use Rattle.workload.proofs.ListLemmas.{drawn_at}
use Rattle.workload.proofs.NumberLemmas.{count_of-digits, digits_are, write_of-encoded}
use Rattle.workload.proofs.RowLemmas.{IsRow, Writes, four_length, row_count, starts, written_rows}

-- a request by what is drawn for it
abbrev pub made : ℕ → ℕ × ℕ × ℕ → Request
made sample drawn = record
    { sample = sample; moment = drawn.0; writes = record { at = free_start + drawn.1; value = drawn.2 } ∷ [] }

pub spells_made : (sample moment at value : ℕ) → 1 ≤ sample → sample < 1000000000 → moment < 1000000000 → at < 2016
    → value < 256 → SpellsRequest (request_fields sample (moment, at, value)) (made sample (moment, at, value))
spells_made sample moment at value some ha hb hat hv = record {
  row = record {
    numbers = record {
      first_text = digits sample;
      second_text = digits moment;
      pairs = encode_upper ((free_start + at) / 256 ∷ (free_start + at) % 256 ∷ []) ∷ encode_upper (value ∷ []) ∷ [];
      fields_are = refl;
      first_is = count_of-digits sample ha;
      second_is = count_of-digits moment hb;
    };
    writes_are = ap (λ (w : _). with_write w (Some [])) (write_of-encoded (free_start + at) value (omega arith) hv);
    few = omega arith;
  };
  some = some;
}

pub request_row : (sample moment at value : ℕ) → sample < 2 ^ 32 → IsRow (request_fields sample (moment, at, value))
request_row sample moment at value small =
    subst IsRow (ap (λ (f : List ℕ). f ∷ digits moment
    ∷ encode_upper ((free_start + at) / 256 ∷ (free_start + at) % 256 ∷ []) ∷ encode_upper (value ∷ []) ∷ [])
    (append-nil (digits sample))) (starts (digits sample) [] (digits_are sample (omega arith)))

pub request_length : (sample moment at value : ℕ) → sample < 2 ^ 32 → moment < 2 ^ 32
    → length (row_text default_writer (request_fields sample (moment, at, value))) ≤ 200
request_length sample moment at value hs hm =
    let address = (free_start + at) / 256 ∷ (free_start + at) % 256 ∷ [] in
    omega (
      arith,
      four_length (digits sample) (digits moment) (encode_upper address) (encode_upper (value ∷ [])),
      length-decimal-le 10 sample (omega arith) (omega arith) (omega arith),
      length-decimal-le 10 moment (omega arith) (omega arith) (omega arith),
      length-encode_with upper_digits address,
      length-encode_with upper_digits (value ∷ []),
    )

-- ---- drawn plans are good

module _ (number : ℕ) where
  good_request : (k : ℕ) → k < 1000 → IsGoodRequest (drawn_request number k)
  good_request k small = record {
    sample_from = omega arith;
    sample_to = omega arith;
    moment_to = omega arith;
    few_writes = omega arith;
    free = All-cons (λ (w : Write). is_free w.at ≡ true) _ []
        (let at : draw number (2002 + 3 * k) 2016 < 2016 = omega arith in grind (arith, nat_tests, at))
        (All-nil (λ (w : Write). is_free w.at ≡ true));
  }

  good_requests : (a n : ℕ) → a + n ≤ 1000 → All IsGoodRequest (map (drawn_request number) (range_with_len a n))
  good_requests a zero h = All-nil IsGoodRequest
  good_requests a (suc n) h =
      All-cons IsGoodRequest (drawn_request number a) (map (drawn_request number) (range_with_len (a + 1) n))
      (good_request a (omega arith)) (good_requests (a + 1) n (omega arith))

  ascends : (a n : ℕ) → Ascends (map (drawn_request number) (range_with_len a n))
  ascends a zero = tt
  ascends a (suc zero) = tt
  ascends a (suc (suc n)) = (inl (omega arith), ascends (a + 1) (suc n))

  pub drawn_count : (n : ℕ) (rs : List Request) → rs ≡ map (drawn_request number) (range_with_len 0 n) → length rs ≡ n
  drawn_count n rs h = ap length h ∙ length-map-range_with_len (drawn_request number) 0 n

  drawn_good : (rs : List Request) → rs ≡ map (drawn_request number) (range_with_len 0 1000) → IsGood rs
  drawn_good rs h = record {
    few = omega (arith, drawn_count 1000 rs h);
    requests = subst (All IsGoodRequest) (sym h) (good_requests 0 1000 (omega arith));
    ascends = subst Ascends (sym h) (ascends 0 1000);
  }

  pub plan_spells : (text : List ℕ) (rs : List Request) → Writes SpellsRequest text rs
      → rs ≡ map (drawn_request number) (range_with_len 0 1000) → Spells text rs
  plan_spells text rs h drawn = record {
    rows = h.rows;
    first = written_rows SpellsRequest text rs h (omega (arith, drawn_count 1000 rs drawn));
    few = omega (arith, row_count SpellsRequest h.rows rs h.spelled, drawn_count 1000 rs drawn);
    spelled = h.spelled;
    good = drawn_good rs drawn;
  }

  pub requests_drawn : (rs : List Request) → rs ≡ map (drawn_request number) (range_with_len 0 1000)
      → AreDrawnRequests number rs
  requests_drawn rs h = record {
    count = drawn_count 1000 rs h;
    requests = λ k r at. drawn_at (drawn_request number) 1000 k r
        (ap (λ (xs : List Request). slice_get xs k) (sym h) ∙ at);
  }
