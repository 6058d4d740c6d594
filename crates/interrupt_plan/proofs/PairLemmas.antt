-- The writes of a row, pair by pair.
use Rattle.std.proofs.Common.{◌≡◌, ◌<◌, ◌+◌, ◌*◌, ℕ, zero, suc, List, [], ◌∷◌, ◌++◌, length, get_or, refl, sym, ◌∙◌, ap}
use Rattle.std.proofs.Common.{arith}
use Rattle.std.specs.Prelude.{Option, Some, None}
use Rattle.cpu12_isa.specs.declared.instr.Write.{Write}
use Rattle.trace_io.specs.FirstRows.{Fields}
use Rattle.interrupt_plan.specs.Rows.{write_of, with_write, writes_of}

-- the fields of the first k pairs
abbrev pub first_pairs : ℕ → Fields → Fields
first_pairs zero fields = []
first_pairs (suc k) [] = []
first_pairs (suc k) (address ∷ []) = []
first_pairs (suc k) (address ∷ value ∷ fields) = address ∷ value ∷ first_pairs k fields

pub all_pairs : (k : ℕ) (fields : Fields) → length fields ≡ 2 * k → first_pairs k fields ≡ fields
all_pairs zero [] is = refl
all_pairs zero (f ∷ fields) is = absurd (omega arith)
all_pairs (suc k) [] is = absurd (omega arith)
all_pairs (suc k) (f ∷ []) is = absurd (omega arith)
all_pairs (suc k) (a ∷ v ∷ fields) is = ap (λ (fs : Fields). a ∷ v ∷ fs) (all_pairs k fields (omega arith))

some_writes : (w : Option Write) (ws : Option (List Write)) (vs : List Write) → with_write w ws ≡ Some vs
    → (x : Write) × (xs : List Write)
    × (w ≡ Some x) × (ws ≡ Some xs) × (vs ≡ x ∷ xs)
some_writes (Some x) (Some xs) vs is = (x, xs, refl, refl, cc)
some_writes (Some x) None vs is = cc
some_writes None ws vs is = cc

no_write : (w : Option Write) → with_write w None ≡ None
no_write (Some x) = refl
no_write None = refl

pub length-writes : (fields : Fields) (vs : List Write) → writes_of fields ≡ Some vs → length fields ≡ 2 * length vs
length-writes [] vs is = let e : [] ≡ vs = cc in omega (arith, ap length e)
length-writes (a ∷ []) vs is = cc
length-writes (a ∷ v ∷ fields) vs is =
    let parts = some_writes (write_of a v) (writes_of fields) vs is in
    omega (arith, ap length parts.4, length-writes fields parts.1 parts.3)

-- one pair more
pub writes_more : (k : ℕ) (fields : Fields) (a v : List ℕ) (vs : List Write) (w : Write) → 2 * k + 1 < length fields
    → get_or fields (2 * k) [] ≡ a
    → get_or fields (2 * k + 1) [] ≡ v → writes_of (first_pairs k fields) ≡ Some vs → write_of a v ≡ Some w
    → writes_of (first_pairs (suc k) fields) ≡ Some (vs ++ w ∷ [])
writes_more k [] a v vs w lt a_is v_is so_far here = absurd (omega arith)
writes_more k (f ∷ []) a v vs w lt a_is v_is so_far here = absurd (omega arith)
writes_more zero (f ∷ g ∷ fields) a v vs w lt a_is v_is so_far here = let e : [] ≡ vs = cc in
    rw (a_is, v_is, here, ← e) refl
writes_more (suc k) (f ∷ g ∷ fields) a v vs w lt a_is v_is so_far here =
    let parts = some_writes (write_of f g) (writes_of (first_pairs k fields)) vs so_far in
    let at : 2 * suc k ≡ suc (suc (2 * k)) = omega arith in
    let behind : 2 * suc k + 1 ≡ suc (suc (2 * k + 1)) = omega arith in
    let rest = writes_more k fields a v parts.1 w (omega arith)
    (ap (λ (j : ℕ). get_or (f ∷ g ∷ fields) j []) (sym at) ∙ a_is)
    (ap (λ (j : ℕ). get_or (f ∷ g ∷ fields) j []) (sym behind) ∙ v_is) parts.3 here in
    ap (λ (o : Option Write). with_write o (writes_of (first_pairs (suc k) fields))) parts.2
    ∙ ap (with_write (Some parts.0)) rest
    ∙ ap (λ (l : List Write). Some (l ++ w ∷ [])) (sym parts.4)

-- a pair that is no write
pub writes_stop : (k : ℕ) (fields : Fields) (a v : List ℕ) → 2 * k + 1 < length fields → get_or fields (2 * k) [] ≡ a
    → get_or fields (2 * k + 1) [] ≡ v → write_of a v ≡ None → writes_of fields ≡ None
writes_stop k [] a v lt a_is v_is bad = absurd (omega arith)
writes_stop k (f ∷ []) a v lt a_is v_is bad = absurd (omega arith)
writes_stop zero (f ∷ g ∷ fields) a v lt a_is v_is bad = rw (a_is, v_is, bad) refl
writes_stop (suc k) (f ∷ g ∷ fields) a v lt a_is v_is bad =
    let at : 2 * suc k ≡ suc (suc (2 * k)) = omega arith in
    let behind : 2 * suc k + 1 ≡ suc (suc (2 * k + 1)) = omega arith in
    let rest = writes_stop k fields a v (omega arith) (ap (λ (j : ℕ). get_or (f ∷ g ∷ fields) j []) (sym at) ∙ a_is)
    (ap (λ (j : ℕ). get_or (f ∷ g ∷ fields) j []) (sym behind) ∙ v_is) bad in
    ap (with_write (write_of f g)) rest ∙ no_write (write_of f g)
