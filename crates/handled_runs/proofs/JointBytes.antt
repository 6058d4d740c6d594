-- The bytes of a joint image, as they are put together.
use Rattle.std.proofs.Common.{◌≡◌, inl, inr, ℕ, Bool, true, false, cond, Option, Some, None, List, [], ◌∷◌, ◌++◌, refl}
use Rattle.std.proofs.Common.{ap, sym, ◌∙◌, arith, nat_cmp}
use Rattle.std.specs.BTreeMap.{is_at}
use Rattle.std.proofs.lemmas.Bool.{cases_eq}
use Rattle.std.proofs.lemmas.Bool.Decides.{nat_tests}
use Rattle.cpu12_asm.specs.Bytes.{byte_at}
use Rattle.cpu12_asm.proofs.Algebra.{or_else, byte_at-append}
use Rattle.handled_runs.specs.Joint.{either, joint_bytes}

pub either_is : (a b : Option ℕ) → or_else a b ≡ either a b
either_is None b = refl
either_is (Some v) b = refl

either_either : (a b c : Option ℕ) → either (either a b) c ≡ either a (either b c)
either_either None b c = refl
either_either (Some v) b c = refl

either_none : (a : Option ℕ) → either a None ≡ a
either_none None = refl
either_none (Some v) = refl

same_test : (p q : ℕ) → is_at (nat_cmp p) q ≡ is_at (nat_cmp q) p
same_test p q = elim (cases_eq p q) [
  | inl e ↦ ap (λ (k : ℕ). is_at (nat_cmp k) q) e ∙ ap (λ (k : ℕ). is_at (nat_cmp q) k) (sym e)
  | inr n ↦ (let a : is_at (nat_cmp p) q ≡ false = grind (arith, nat_tests) in
      let b : is_at (nat_cmp q) p ≡ false = grind (arith, nat_tests) in a ∙ sym b)
]

one_put : (t : Bool) (byte : ℕ) (o : Option ℕ) → either (cond t (Some byte) None) o ≡ cond t (Some byte) o
one_put true byte o = refl
one_put false byte o = refl

-- the last of the bytes that are left is put: those of all are as before
pub put_one : (rest : List (ℕ × ℕ)) (at byte q : ℕ) (old : Option ℕ)
    → either (byte_at rest q) (cond (is_at (nat_cmp at) q) (Some byte) old) ≡ either
    (byte_at (rest ++ (at, byte) ∷ []) q) old
put_one rest at byte q old =
    ap (λ (o : Option ℕ). either (byte_at rest q) o) (sym (one_put (is_at (nat_cmp at) q) byte old))
    ∙ ap (λ (t : Bool). either (byte_at rest q) (either (cond t (Some byte) None) old)) (same_test at q)
    ∙ sym (either_either (byte_at rest q) (cond (is_at (nat_cmp q) at) (Some byte) None) old)
    ∙ ap (λ (o : Option ℕ). either o old)
    (sym (byte_at-append q rest ((at, byte) ∷ [])
    ∙ either_is (byte_at rest q) (cond (is_at (nat_cmp q) at) (Some byte) None)))

-- the joint image
pub joint_is : (firmware handler : List (ℕ × ℕ)) (q : ℕ)
    → cond (is_at (nat_cmp 65522) q) (Some 64)
    (cond (is_at (nat_cmp 65523) q) (Some 0) (either (byte_at handler q) (either (byte_at firmware q) None)))
    ≡ byte_at (joint_bytes firmware handler) q
joint_is firmware handler q =
    let rest : either (byte_at handler q) (either (byte_at firmware q) None) ≡ byte_at (handler ++ firmware) q =
    ap (λ (o : Option ℕ). either (byte_at handler q) o) (either_none (byte_at firmware q))
    ∙ sym (byte_at-append q handler firmware ∙ either_is (byte_at handler q) (byte_at firmware q)) in
    ap (λ (t : Bool). cond t (Some 64)
    (cond (is_at (nat_cmp 65523) q) (Some 0) (either (byte_at handler q) (either (byte_at firmware q) None))))
    (same_test 65522 q)
    ∙ ap (λ (t : Bool). cond (is_at (nat_cmp q) 65522) (Some 64)
    (cond t (Some 0) (either (byte_at handler q) (either (byte_at firmware q) None)))) (same_test 65523 q)
    ∙ ap (λ (o : Option ℕ). cond (is_at (nat_cmp q) 65522) (Some 64) (cond (is_at (nat_cmp q) 65523) (Some 0) o)) rest
