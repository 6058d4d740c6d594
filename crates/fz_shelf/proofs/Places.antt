-- The first file of a name among those of a shelf in memory.
use Rattle.std.proofs.Common.{◌≡◌, ◌≢◌, inl, inr, ◌≤◌, ◌<◌, ◌+◌, ℕ, zero, suc, Bool, true, false, cond, List, []}
use Rattle.std.proofs.Common.{◌∷◌, length, get_or, set, refl, sym, ◌∙◌, ap, arith, slice_set, slice_index_or}
use Rattle.std.proofs.lemmas.Bool.{cases_Bool}
use Rattle.std.specs.Prelude.{Option, Some, None, position, nat_lt, not, MatchOption}
use Rattle.std.specs.List.{position_or_len}
use Rattle.std.proofs.lemmas.Bool.Decides.{nat_tests}
use Rattle.std.proofs.lemmas.List.Quantifiers.{position-Some}
use Rattle.std.specs.Str.{bytes_eq}
use Rattle.std.proofs.lemmas.Slice.Eq.{bytes_eq-Decides}
use Rattle.fz_shelf.specs.{Files.File, Files.absent, declared.mem_shelf.MemFile.MemFile}
use Rattle.fz_shelf.specs.MemFiles.{file_of, file_in, is_named, IsPlace}

not_named : (a name other : List ℕ) → bytes_eq a name ≡ true → other ≢ name → bytes_eq a other ≡ false
not_named a name other is ne = elim (cases_Bool (bytes_eq a other)) [
  | inl same ↦ absurd (ne (sym ((bytes_eq-Decides a other).0 same) ∙ (bytes_eq-Decides a name).0 is))
  | inr apart ↦ apart
]

first_told : (fs : List MemFile) (i : ℕ) (d : MemFile) (name : List ℕ) → i < length fs
    → is_named name (get_or fs i d) ≡ true
    → ((k : ℕ) → k < i → is_named name (get_or fs k d) ≡ false) → file_in fs name ≡ file_of (get_or fs i d)
first_told [] i d name lt is before = absurd (omega arith)
first_told (f ∷ fs) zero d name lt is before = ap (λ (b : Bool). cond b (file_of f) (file_in fs name)) is
first_told (f ∷ fs) (suc i) d name lt is before =
    ap (λ (b : Bool). cond b (file_of f) (file_in fs name)) (before 0 (omega arith))
    ∙ first_told fs i d name (omega arith) is (λ k h. before (suc k) (omega arith))

first_set : (fs : List MemFile) (i : ℕ) (f d : MemFile) (name : List ℕ) → i < length fs → is_named name f ≡ true
    → ((k : ℕ) → k < i → is_named name (get_or fs k d) ≡ false) → file_in (set fs i f) name ≡ file_of f
first_set [] i f d name lt is before = absurd (omega arith)
first_set (g ∷ fs) zero f d name lt is before = ap (λ (b : Bool). cond b (file_of f) (file_in fs name)) is
first_set (g ∷ fs) (suc i) f d name lt is before =
    ap (λ (b : Bool). cond b (file_of g) (file_in (set fs i f) name)) (before 0 (omega arith))
    ∙ first_set fs i f d name (omega arith) is (λ k h. before (suc k) (omega arith))

set_others : (fs : List MemFile) (i : ℕ) (f d : MemFile) (name other : List ℕ) → i < length fs
    → is_named name (get_or fs i d) ≡ true
    → is_named name f ≡ true → other ≢ name → file_in (set fs i f) other ≡ file_in fs other
set_others [] i f d name other lt was is ne = absurd (omega arith)
set_others (g ∷ fs) zero f d name other lt was is ne =
    ap (λ (b : Bool). cond b (file_of f) (file_in fs other)) (not_named (f.name) name other is ne)
    ∙ sym (ap (λ (b : Bool). cond b (file_of g) (file_in fs other)) (not_named (g.name) name other was ne))
set_others (g ∷ fs) (suc i) f d name other lt was is ne =
    ap (λ (t : File). cond (is_named other g) (file_of g) t) (set_others fs i f d name other (omega arith) was is ne)

-- what holds of the place of a name
pub told_at : (fs : List MemFile) (name : List ℕ) (i : ℕ) (d : MemFile) → position (is_named name) fs ≡ Some i
    → file_in fs name ≡ file_of (slice_index_or fs i d)
told_at fs name i d at = let p = position-Some (is_named name) fs i d at in first_told fs i d name p.0 p.1 p.2

pub set_at : (fs : List MemFile) (name : List ℕ) (i : ℕ) (f d : MemFile) → position (is_named name) fs ≡ Some i
    → f.name ≡ (slice_index_or fs i d).name
    → file_in (slice_set fs i f) name ≡ file_of f
set_at fs name i f d at same =
    let p = position-Some (is_named name) fs i d at in
    first_set fs i f d name p.0 (ap (λ (n : List ℕ). bytes_eq n name) same ∙ p.1) p.2

pub others_at : (fs : List MemFile) (name : List ℕ) (i : ℕ) (f d : MemFile) → position (is_named name) fs ≡ Some i
    → f.name ≡ (slice_index_or fs i d).name
    → (other : List ℕ) → other ≢ name → file_in (slice_set fs i f) other ≡ file_in fs other
others_at fs name i f d at same other ne =
    let p = position-Some (is_named name) fs i d at in
    set_others fs i f d name other p.0 p.1 (ap (λ (n : List ℕ). bytes_eq n name) same ∙ p.1) ne

-- no place, no file
from_none : (n m : ℕ) → cond (nat_lt n m) (Some n) None ≡ None → m ≤ n
from_none n m none = grind (arith, nat_tests)

past_at : (f : MemFile) (fs : List MemFile) (name : List ℕ) (b : Bool) → is_named name f ≡ b
    → length (f ∷ fs) ≤ position_or_len (is_named name) (f ∷ fs)
    → (length fs ≤ position_or_len (is_named name) fs → file_in fs name ≡ absent) → file_in (f ∷ fs) name ≡ absent
past_at f fs name true at le rest =
    let none : position_or_len (is_named name) (f ∷ fs) ≡ 0 =
    ap (λ (b : Bool). cond (not b) (1 + position_or_len (is_named name) fs) 0) at in
    absurd (omega (arith, le, none))
past_at f fs name false at le rest =
    let more : position_or_len (is_named name) (f ∷ fs) ≡ 1 + position_or_len (is_named name) fs =
    ap (λ (b : Bool). cond (not b) (1 + position_or_len (is_named name) fs) 0) at in
    ap (λ (b : Bool). cond b (file_of f) (file_in fs name)) at ∙ rest (omega (arith, le, more))

past : (fs : List MemFile) (name : List ℕ) → length fs ≤ position_or_len (is_named name) fs → file_in fs name ≡ absent
past [] name le = refl
past (f ∷ fs) name le = past_at f fs name (is_named name f) refl le (past fs name)

placed : (fs : List MemFile) (name : List ℕ) (i : ℕ) → position (is_named name) fs ≡ Some i → i < length fs
placed [] name i at = cc
placed (f ∷ fs) name i at = (position-Some (is_named name) (f ∷ fs) i f at).0

-- what `position` says
pub place_facts : (fs : List MemFile) (name : List ℕ) (r : Option ℕ) → r ≡ position (is_named name) fs
    → MatchOption r (file_in fs name ≡ absent) (IsPlace fs name)
place_facts fs name None at = past fs name (from_none _ _ (sym at))
place_facts fs name (Some i) at = record {
  within = placed fs name i (sym at);
  told = λ d. told_at fs name i d (sym at);
  changed = λ f d same. set_at fs name i f d (sym at) same;
  others = λ f d same other ne. others_at fs name i f d (sym at) same other ne;
}
