-- An image is a handler with one count, or has one first fault.
use Rattle.handler_check.proofs.Words.{[], ◌+◌, ◌<◌, ◌∙◌, ◌∷◌, ◌≡◌, ◌≤◌, ◌⊎◌, ap, Applies, arith, Backward, Bool}
use Rattle.handler_check.proofs.Words.{Branches, branches_to, byte_at, cases_lt, code_bytes, code_end, Dead, decode_at}
use Rattle.handler_check.proofs.Words.{DecodesEncoded, Empty, encode_of, Falls, false, FitCode, FitsOperands, get_or}
use Rattle.handler_check.proofs.Words.{given, Gives, HandlerFault, Height, if◌then◌else◌, inl, inr, Instr, is_some}
use Rattle.handler_check.proofs.Words.{is_trapped, IsAt, IsCut, IsFault, IsFirstFault, IsHandler, IsIn, IsOutside}
use Rattle.handler_check.proofs.Words.{IsSome, IsWhole, Jumps, Kind, kind_of, length, length-append, List, Memory}
use Rattle.handler_check.proofs.Words.{nat_lt, None, NotFree, Ok, Option, Outside, Path, place_of, rank, refl, Refused}
use Rattle.handler_check.proofs.Words.{Rti, size_of, Some, subst, suc, sym, Target, target, targets, Trap, true}
use Rattle.handler_check.proofs.Words.{Writes, writes, written_by, ℕ}
use Rattle.std.specs.{Prelude.Result}
use Rattle.cpu12_emul.specs.Image.{byte_or_zero, image_memory, HoldsImage}
use Rattle.handler_check.specs.Images.{HandlersHaveNoFault, FaultsAreOne, CountsAreOne}
use Rattle.handler_check.proofs.{Decoding.size_low, Places.one_instr, Extents.none_not, FirstFaults.faultless}
use Rattle.handler_check.proofs.Given.{HasBytes, gives_get, gives_left, gives_right, one_given}

-- images with the same bytes
gives_alike : (a b : List (ℕ × ℕ)) → ((at : ℕ) → byte_at a at ≡ byte_at b at) → (at : ℕ) (vs : List ℕ) → Gives a at vs
    → Gives b at vs
gives_alike a b same at [] g = tt
gives_alike a b same at (v ∷ vs) g = (sym (same at) ∙ g.0, gives_alike a b same (at + 1) vs g.1)

outside_alike : (a b : List (ℕ × ℕ)) → ((at : ℕ) → byte_at a at ≡ byte_at b at) → (at : ℕ) → IsOutside a at
    → IsOutside b at
outside_alike a b same at o = (
  ap is_some (sym (same at)) ∙ o.0,
  elim o.1 [
    | inl l ↦ inl l
    | inr r ↦ elim r [
      | inl l ↦ inr (inl l)
      | inr gap ↦ inr
          (inr (gap.0, (gap.1.0, gap.1.1, sym (same gap.0) ∙ gap.1.2)))
    ]
  ],
)

whole_alike : (a b : List (ℕ × ℕ)) → ((at : ℕ) → byte_at a at ≡ byte_at b at) → IsWhole a → IsWhole b
whole_alike a b same w =
    record {
      begins = ap is_some (sym (same 16384)) ∙ w.begins;
      inside =
          λ at o. w.inside at (outside_alike b a (λ q. sym (same q)) at o);
    }

cut_alike : (a b : List (ℕ × ℕ)) → ((at : ℕ) → byte_at a at ≡ byte_at b at) → (is : List Instr) → IsCut a is
    → IsCut b is
cut_alike a b same is c = record {
  fits = c.fits;
  stands = gives_alike a b same 16384 (code_bytes is) c.stands;
  ends = λ i f g. c.ends i f (gives_alike b a (λ q. sym (same q)) (code_end is) (encode_of i) g);
}

-- an image has one cut
low_at : (image : List (ℕ × ℕ)) (at b : ℕ) → IsWhole image → byte_at image at ≡ Some b → at < 20480
low_at image at b w e =
    elim (cases_lt at 20480) [ inl l ↦ l | inr l ↦ absurd (w.inside at (ap is_some e, inr (inl l))) ]

held : HoldsImage → (image : List (ℕ × ℕ)) → IsWhole image → HasBytes image (image_memory image)
held holds image w at b e = (let l = low_at image at b w e in (holds image).1 at (omega arith)) ∙ ap byte_or_zero e

first_given : (image : List (ℕ × ℕ)) (at : ℕ) (i : Instr) → IsWhole image → Gives image at (encode_of i) → at < 20480
first_given image at i w g =
    let z = size_low i in
    let e : at + 0 ≡ at = omega arith in
    low_at image at (get_or (encode_of i) 0 0) w
    (subst (λ (n : ℕ). byte_at image n ≡ Some (get_or (encode_of i) 0 0)) e
    (gives_get image at (encode_of i) 0 g z.0))

one_ok : (i j : Instr) (r : Result Instr ℕ) → r ≡ Ok i → r ≡ Ok j → i ≡ j
one_ok i j r e f = (let h : Ok i ≡ Ok j = sym e ∙ f in cc)

same_instr : DecodesEncoded → HoldsImage → (image : List (ℕ × ℕ)) → IsWhole image → (at : ℕ) (i j : Instr)
    → FitsOperands i → FitsOperands j → Gives image at (encode_of i) → Gives image at (encode_of j) → i ≡ j
same_instr decodes holds image w at i j fi fj gi gj =
    let l = first_given image at i w gi in
    one_ok i j (decode_at (image_memory image) at)
    (one_given decodes image (image_memory image) at i (held holds image w) l fi gi)
    (one_given decodes image (image_memory image) at j (held holds image w) l fj gj)

record Cuts (image : List (ℕ × ℕ)) (start : ℕ) (is : List Instr) : Type 0 where
  fits : FitCode is
  stands : Gives image start (code_bytes is)
  ends : (i : Instr) → FitsOperands i → Gives image (start + length (code_bytes is)) (encode_of i) → ⊥

tail_cuts : (image : List (ℕ × ℕ)) (start : ℕ) (i : Instr) (is : List Instr) → Cuts image start (i ∷ is)
    → Cuts image (start + size_of i) is
tail_cuts image start i is c = record {
  fits = c.fits.1;
  stands = gives_right image start (encode_of i) (code_bytes is) c.stands;
  ends = λ j f g. (let a = length-append (encode_of i) (code_bytes is) in
      let e : start + size_of i + length (code_bytes is) ≡ start + length (code_bytes (i ∷ is)) = omega (arith, a) in
      c.ends j f (subst (λ (n : ℕ). Gives image n (encode_of j)) e g));
}

no_more : (image : List (ℕ × ℕ)) (start : ℕ) (j : Instr) (js : List Instr) → Cuts image start []
    → Cuts image start (j ∷ js) → ⊥
no_more image start j js c d =
    c.ends j d.fits.0 (let e : start + 0 ≡ start = omega arith in
    subst (λ (n : ℕ). Gives image n (encode_of j)) (sym e)
    (gives_left image start (encode_of j) (code_bytes js) d.stands))

same_cuts : DecodesEncoded → HoldsImage → (image : List (ℕ × ℕ)) → IsWhole image → (start : ℕ) (is js : List Instr)
    → Cuts image start is → Cuts image start js → is ≡ js
same_cuts decodes holds image w start [] [] c d = refl
same_cuts decodes holds image w start [] (j ∷ js) c d = absurd (no_more image start j js c d)
same_cuts decodes holds image w start (i ∷ is) [] c d = absurd (no_more image start i is d c)
same_cuts decodes holds image w start (i ∷ is) (j ∷ js) c d =
    let same : i ≡ j = same_instr decodes holds image w start i j c.fits.0 d.fits.0
    (gives_left image start (encode_of i) (code_bytes is) c.stands)
    (gives_left image start (encode_of j) (code_bytes js) d.stands) in
    let rest : is ≡ js = same_cuts decodes holds image w (start + size_of i) is js (tail_cuts image start i is c)
    (subst (λ (k : Instr). Cuts image (start + size_of k) js) (sym same) (tail_cuts image start j js d)) in
    cc

cuts_of : (image : List (ℕ × ℕ)) (is : List Instr) → IsCut image is → Cuts image 16384 is
cuts_of image is c = record { fits = c.fits; stands = c.stands; ends = c.ends }

one_cut : DecodesEncoded → HoldsImage → (image : List (ℕ × ℕ)) → IsWhole image → (is js : List Instr) → IsCut image is
    → IsCut image js → is ≡ js
one_cut decodes holds image w is js c d =
    same_cuts decodes holds image w 16384 is js (cuts_of image is c) (cuts_of image js d)

-- the sorts of faults
abbrev Coded : List (ℕ × ℕ) → HandlerFault → Type 0
Coded image f = IsWhole image × ((is : List Instr) × (IsCut image is × IsFirstFault is (is_trapped image is) f))

abbrev Beyond : List (ℕ × ℕ) → HandlerFault → Type 0
Beyond image f = (at : ℕ)
    × ((f ≡ Outside at) × IsSome (byte_at image 16384) × IsOutside image at × ((q : ℕ) → IsOutside image q → at ≤ q))

sorts : (image : List (ℕ × ℕ)) (f : HandlerFault) → IsFault image f
    → ((f ≡ Empty) × (byte_at image 16384 ≡ None)) ⊎ (Beyond image f ⊎ Coded image f)
sorts image Empty a = inl (refl, a)
sorts image (Outside at) a = inr (inl (at, (refl, a.0, a.1, a.2)))
sorts image (Dead at) a = inr (inr a)
sorts image (Trap at) a = inr (inr a)
sorts image (Refused at) a = inr (inr a)
sorts image (NotFree at to) a = inr (inr a)
sorts image (Backward at) a = inr (inr a)
sorts image (Target at to) a = inr (inr a)
sorts image (Height at) a = inr (inr a)
sorts image (Falls at) a = inr (inr a)
sorts image Memory a = absurd a

-- a handler has none
pub handlers_have_no_fault : DecodesEncoded → HoldsImage → HandlersHaveNoFault
handlers_have_no_fault decodes holds image other instrs f same k a = elim (sorts other f a) [
  | inl e ↦ none_not (byte_at other 16384) e.1 (whole_alike image other same k.whole).begins
  | inr r ↦ elim r [
    | inl o ↦ (whole_alike image other same k.whole).inside o.0 o.1.2
    | inr c ↦ (let e : k.code ≡ c.1.0 =
        one_cut decodes holds other c.0 k.code c.1.0 (cut_alike image other same k.code k.cut) c.1.1.0 in
        let t : is_trapped other c.1.0 ≡ false = ap (λ (js : List Instr). is_trapped other js) (sym e)
        ∙ ap is_some (sym (same (code_end k.code))) ∙ k.ends in
        faultless k.code instrs k.accepted f
        (subst (λ (js : List Instr). Applies js false f) (sym e)
        (subst (λ (b : Bool). Applies c.1.0 b f) t c.1.1.1.applies)))
  ]
]

-- one first fault of code
single : (x a b : ℕ) → IsIn (x ∷ []) a → IsIn (x ∷ []) b → a ≡ b
single x a b v w = elim v [ inl e ↦ elim w [ inl f ↦ e ∙ sym f | inr k ↦ absurd k ] | inr k ↦ absurd k ]

written_one : (k : Option Kind) (a b : ℕ) → IsIn (given [] writes k) a → IsIn (given [] writes k) b → a ≡ b
written_one (Some (Writes at)) a b v w = single at a b v w
written_one k a b v w = absurd v

target_one : (at to a b : ℕ) → IsIn (target at to) a → IsIn (target at to) b → a ≡ b
target_one at to a b v w = cases (nat_lt to 128) v w
  where
    cases : (t : Bool) → IsIn (if t then (at + 2 + to) ∷ [] else []) a
        → IsIn (if t then (at + 2 + to) ∷ [] else []) b → a ≡ b
    cases true v w = single (at + 2 + to) a b v w
    cases false v w = absurd v

branch_one : (at : ℕ) (k : Option Kind) (a b : ℕ) → IsIn (given [] (targets at) k) a → IsIn (given [] (targets at) k) b
    → a ≡ b
branch_one at (Some (Branches to)) a b v w = target_one at to a b v w
branch_one at (Some (Jumps to)) a b v w = target_one at to a b v w
branch_one at k a b v w = absurd v

one_kind : (is : List Instr) (t : Bool) (f g : HandlerFault) → rank f ≡ rank g → place_of f ≡ place_of g
    → Applies is t f → Applies is t g → f ≡ g
one_kind is t Empty g r s a b = absurd a
one_kind is t (Outside p) g r s a b = absurd a
one_kind is t Memory g r s a b = absurd a
one_kind is t (Dead p) (Dead q) r s a b = ap (λ (n : ℕ). Dead n) s
one_kind is t (Dead p) g r s a b = absurd (omega arith)
one_kind is t (Trap p) (Trap q) r s a b = ap (λ (n : ℕ). Trap n) s
one_kind is t (Trap p) g r s a b = absurd (omega arith)
one_kind is t (Refused p) (Refused q) r s a b = ap (λ (n : ℕ). Refused n) s
one_kind is t (Refused p) g r s a b = absurd (omega arith)
one_kind is t (NotFree p x) (NotFree q y) r s a b =
    let j : b.0 ≡ a.0 = one_instr is p a.0 b.0 a.1.0 (subst (λ (n : ℕ). IsAt is n b.0) (sym s) b.1.0) in
    let e : x ≡ y = written_one (kind_of a.0) x y a.1.1 (subst (λ (k : Instr). IsIn (written_by k) y) j b.1.1) in
    cc
one_kind is t (NotFree p x) g r s a b = absurd (omega arith)
one_kind is t (Backward p) (Backward q) r s a b = ap (λ (n : ℕ). Backward n) s
one_kind is t (Backward p) g r s a b = absurd (omega arith)
one_kind is t (Target p x) (Target q y) r s a b =
    let j : b.0 ≡ a.0 = one_instr is p a.0 b.0 a.1.0 (subst (λ (n : ℕ). IsAt is n b.0) (sym s) b.1.0) in
    let e : x ≡ y = branch_one p (kind_of a.0) x y a.1.1
    (subst (λ (k : Instr). IsIn (branches_to p k) y) j
    (subst (λ (n : ℕ). IsIn (branches_to n b.0) y) (sym s) b.1.1)) in
    cc
one_kind is t (Target p x) g r s a b = absurd (omega arith)
one_kind is t (Height p) (Height q) r s a b = ap (λ (n : ℕ). Height n) s
one_kind is t (Height p) g r s a b = absurd (omega arith)
one_kind is t (Falls p) (Falls q) r s a b = ap (λ (n : ℕ). Falls n) s
one_kind is t (Falls p) g r s a b = absurd (omega arith)

one_first : (is : List Instr) (t : Bool) (f g : HandlerFault) → IsFirstFault is t f → IsFirstFault is t g → f ≡ g
one_first is t f g a b = elim (a.first g b.applies) [
  | inl l ↦ elim (b.first f a.applies) [ inl k ↦ absurd (omega arith) | inr k ↦ absurd (let e = k.0 in omega arith) ]
  | inr l ↦ elim (b.first f a.applies) [
    | inl k ↦ absurd (let e = l.0 in omega arith)
    | inr k ↦ (let x = l.1 in let y = k.1 in let r : rank f ≡ rank g = omega arith in
        one_kind is t f g r l.0 a.applies b.applies)
  ]
]

empty_whole : (image : List (ℕ × ℕ)) → byte_at image 16384 ≡ None → IsSome (byte_at image 16384) → ⊥
empty_whole image e s = none_not (byte_at image 16384) e s

pub faults_are_one : DecodesEncoded → HoldsImage → FaultsAreOne
faults_are_one decodes holds image f g a b = elim (sorts image f a) [
  | inl e ↦ elim (sorts image g b) [
    | inl h ↦ e.0 ∙ sym h.0
    | inr r ↦ absurd (elim r [ inl o ↦ empty_whole image e.1 o.1.1 | inr c ↦ empty_whole image e.1 c.0.begins ])
  ]
  | inr e ↦ elim (sorts image g b) [
    | inl h ↦ absurd (elim e [ inl o ↦ empty_whole image h.1 o.1.1 | inr c ↦ empty_whole image h.1 c.0.begins ])
    | inr h ↦ elim e [
      | inl o ↦ elim h [
        | inl u ↦ (let x = o.1.3 u.0 u.1.2 in let y = u.1.3 o.0 o.1.2 in let s : o.0 ≡ u.0 = omega arith in
            o.1.0 ∙ ap (λ (n : ℕ). Outside n) s ∙ sym u.1.0)
        | inr c ↦ absurd (c.0.inside o.0 o.1.2)
      ]
      | inr c ↦ elim h [
        | inl u ↦ absurd (c.0.inside u.0 u.1.2)
        | inr d ↦ (let s : c.1.0 ≡ d.1.0 = one_cut decodes holds image c.0 c.1.0 d.1.0 c.1.1.0 d.1.1.0 in
            one_first c.1.0 (is_trapped image c.1.0) f g c.1.1.1
            (subst (λ (js : List Instr). IsFirstFault js (is_trapped image js) g) (sym s) d.1.1.1))
      ]
    ]
  ]
]

at_most : (image other : List (ℕ × ℕ)) (m n : ℕ) (a : IsHandler image m) (b : IsHandler other n) → a.code ≡ b.code
    → m ≤ n
at_most image other m n a b e =
    let l = a.accepted.longest in
    let same = l.3.2 in
    let k = (subst (λ (js : List Instr). (p q h : ℕ) → Path js p q h → IsAt js q Rti → suc p ≤ n)
    (sym e) b.accepted.most) l.0 l.1 l.2 l.3.0 l.3.1 in
    omega arith

pub counts_are_one : DecodesEncoded → HoldsImage → CountsAreOne
counts_are_one decodes holds image other m n same a b =
    let e : a.code ≡ b.code =
    one_cut decodes holds other (whole_alike image other same a.whole) a.code b.code
    (cut_alike image other same a.code a.cut) b.cut in
    let x = at_most image other m n a b e in
    let y = at_most other image n m b a (sym e) in
    omega arith
