-- Images of one text have one first fault.
use Rattle.std.proofs.Common.{◌≡◌, ◌∙◌, ◌+◌, inl, inr, ℕ, List, [], ◌∷◌, ap, subst, sym}
use Rattle.std.specs.Prelude.{is_some}
use Rattle.cpu12_asm.specs.Bytes.{byte_at}
use Rattle.cpu12_isa.specs.{Code.code_bytes, Code.encode_of, declared.instr.Instr.Instr}
use Rattle.handler_check.specs.{Cut.code_end, Cut.code_start, Faults.IsFirstFault}
use Rattle.handler_check.specs.Images.{FaultsAreOne, Gives, IsCut, IsFault, IsOutside, IsWhole}
use Rattle.handler_check.specs.declared.faults.HandlerFault.{HandlerFault}
use Rattle.handler_check.specs.declared.faults.HandlerFault.TheVariants.{Empty, Memory, Outside}

abbrev AreAlike : List (ℕ × ℕ) → List (ℕ × ℕ) → Type 0
AreAlike a b = (at : ℕ) → byte_at a at ≡ byte_at b at

gives_alike : (a b : List (ℕ × ℕ)) → AreAlike a b → (at : ℕ) (vs : List ℕ) → Gives a at vs → Gives b at vs
gives_alike a b same at [] g = tt
gives_alike a b same at (v ∷ vs) g = (sym (same at) ∙ g.0, gives_alike a b same (at + 1) vs g.1)

outside_alike : (a b : List (ℕ × ℕ)) → AreAlike a b → (at : ℕ) → IsOutside a at → IsOutside b at
outside_alike a b same at o = (
  ap is_some (sym (same at)) ∙ o.0,
  elim o.1 [
    | inl l ↦ inl l
    | inr r ↦ elim r [
      | inl l ↦ inr (inl l)
      | inr gap ↦ inr (inr (gap.0, (gap.1.0, gap.1.1, sym (same gap.0) ∙ gap.1.2)))
    ]
  ],
)

back : (a b : List (ℕ × ℕ)) → AreAlike a b → AreAlike b a
back a b same at = sym (same at)

whole_alike : (a b : List (ℕ × ℕ)) → AreAlike a b → IsWhole a → IsWhole b
whole_alike a b same w = record {
  begins = ap is_some (sym (same code_start)) ∙ w.begins;
  inside = λ at o. w.inside at (outside_alike b a (back a b same) at o);
}

cut_alike : (a b : List (ℕ × ℕ)) → AreAlike a b → (is : List Instr) → IsCut a is → IsCut b is
cut_alike a b same is c = record {
  fits = c.fits;
  stands = gives_alike a b same code_start (code_bytes is) c.stands;
  ends = λ i f g. c.ends i f (gives_alike b a (back a b same) (code_end is) (encode_of i) g);
}

fault_alike : (a b : List (ℕ × ℕ)) → AreAlike a b → (f : HandlerFault) → IsFault a f → IsFault b f
fault_alike a b same Empty w = sym (same code_start) ∙ w
fault_alike a b same (Outside at) w = (
  ap is_some (sym (same code_start)) ∙ w.0,
  outside_alike a b same at w.1,
  λ q o. w.2 q (outside_alike b a (back a b same) q o),
)
fault_alike a b same Memory w = w
fault_alike a b same f w = (
  whole_alike a b same w.0,
  (
    w.1.0,
    (
      cut_alike a b same w.1.0 w.1.1.0,
      subst (λ x. IsFirstFault w.1.0 x f) (ap is_some (same (code_end w.1.0))) w.1.1.1,
    ),
  ),
)

pub handler_faults_are_one : FaultsAreOne → (a b : List (ℕ × ℕ)) → AreAlike a b → (f g : HandlerFault) → IsFault a f
    → IsFault b g → f ≡ g
handler_faults_are_one one a b same f g v w = one b f g (fault_alike a b same f v) w
