-- The complements, and the cleared slots of the outputs' terms.
use Rattle.eval_code.proofs.Words.{[], ◌++◌, ◌+◌, ◌-◌, ◌<◌, ◌∙◌, ◌∷◌, ◌≡◌, ◌≤◌, after_plain, ap, append-nil}
use Rattle.eval_code.proofs.Words.{append_assoc, ap₂, arith, Block, ClrExtended, Coma, Complement, get_or, inl, Input}
use Rattle.eval_code.proofs.Words.{inr, LdaaExtended, length, length-append, List, literal_grade, map, Out, put, refl}
use Rattle.eval_code.proofs.Words.{set, Slot, slot_before, slots_code, StaaExtended, State, sym, Term, terms_before}
use Rattle.eval_code.proofs.Words.{ℕ}
use Rattle.std.proofs.lemmas.List.{get_or_append_left}
use Rattle.eval_code.proofs.{steps.Memory.at_put_in, steps.Memory.put_end, Sizes.code_size}
use Rattle.eval_code.proofs.steps.Stepping.{Ctx, Live, Stands, goes_one, goes_on, Reaches, reaches_none}
use Rattle.eval_code.proofs.steps.Stepping.{reaches_after, reaches_at}
use Rattle.eval_code.proofs.steps.Instructions.{straight}

-- a slot that can be filled from the grades: a complement's term has its grade there
abbrev pub CanFill : Block → List ℕ → List Input → List ℕ → Slot → Type 0
CanFill b bytes inputs gs (Term i t) = ⊥
CanFill b bytes inputs gs (Complement i t) =
    (terms_before inputs i + (t - 1) < length gs)
    × (get_or gs (terms_before inputs i + (t - 1)) 0 ≡ literal_grade b bytes i t)
CanFill b bytes inputs gs (Out o t) = Unit {0}

abbrev pub AllCanFill : Block → List ℕ → List Input → List ℕ → List Slot → Type 0
AllCanFill b bytes inputs gs [] = Unit {0}
AllCanFill b bytes inputs gs (s ∷ ss) = CanFill b bytes inputs gs s × AllCanFill b bytes inputs gs ss

-- how many instructions fill slots
abbrev pub fill_count : List Slot → ℕ
fill_count [] = 0
fill_count (Term i t ∷ ss) = fill_count ss
fill_count (Complement i t ∷ ss) = 3 + fill_count ss
fill_count (Out o t ∷ ss) = 1 + fill_count ss

-- one more value behind those that are there
one_more : (m : List ℕ) (base : ℕ) (gs done rest : List ℕ) (v : ℕ)
    → put m base (gs ++ ((done ++ v ∷ []) ++ rest)) ≡ put m base (gs ++ (done ++ v ∷ rest))
one_more m base gs done rest v = ap (λ l. put m base (gs ++ l)) (append_assoc done (v ∷ []) rest)

set_next : (m mem : List ℕ) (base at : ℕ) (gs done : List ℕ) (v : ℕ) → mem ≡ put m base (gs ++ done)
    → at ≡ base + length (gs ++ done) → set mem at v ≡ put m base (gs ++ (done ++ v ∷ []))
set_next m mem base at gs done v em ea = ap₂ (λ (n : List ℕ) (k : ℕ). set n k v) em ea ∙ put_end m base (gs ++ done) v
    ∙ ap (put m base) (append_assoc gs done (v ∷ []))

next_place : (base at : ℕ) (gs done : List ℕ) (v : ℕ) → at ≡ base + length (gs ++ done)
    → at + 1 ≡ base + length (gs ++ (done ++ v ∷ []))
next_place base at gs done v e =
    omega (arith, length-append gs done, length-append gs (done ++ v ∷ []), length-append done (v ∷ []))

pub slots_run : (c : Ctx) (b : Block) (bytes : List ℕ) (inputs : List Input) (gs m : List ℕ) (base : ℕ) (ss : List Slot)
    (done : List ℕ) (s : State) (p at : ℕ) → Live c s → s.regs.pc ≡ p → Stands c p (slots_code base inputs at ss)
    → AllCanFill b bytes inputs gs ss → at ≡ base + length (gs ++ done) → s.mem ≡ put m base (gs ++ done)
    → length m ≡ 65536 → base ≡ c.memory_map.slots → at + length ss ≤ c.memory_map.slots + 300
    → Reaches c (fill_count ss) 0 s (p + code_size (slots_code base inputs at ss))
    (put m base (gs ++ (done ++ map (slot_before b bytes) ss)))
slots_run c b bytes inputs gs m base [] done s p at l ep st can ea em lm eb le =
    reaches_none c s _ _ l (omega arith) (em ∙ ap (λ k. put m base (gs ++ k)) (sym (append-nil done)))
slots_run c b bytes inputs gs m base (Term i t ∷ ss) done s p at l ep st can ea em lm eb le = absurd can.0
slots_run c b bytes inputs gs m base (Out o t ∷ ss) done s p at l ep st can ea em lm eb le =
    let s1 = after_plain c.flags (ClrExtended at) s in
    let n1 = straight c s p _ l ep st.0 refl tt (inr (inl (omega arith, omega arith)), tt) in
    let r = slots_run c b bytes inputs gs m base ss (done ++ 0 ∷ []) s1 (p + 3) (at + 1) n1.live n1.pc_is st.1 can.1
    (next_place base at gs done 0 ea) (set_next m s.mem base at gs done 0 em ea) lm eb (omega arith) in
    reaches_at c _ _ _ _ s _ _ _ _ (omega arith) (omega arith) (omega arith)
    (one_more m base gs done (map (slot_before b bytes) ss) 0)
    (reaches_after c 1 0 _ _ s s1 _ _ (goes_one c s s1 (p + 3) n1) refl r)
slots_run c b bytes inputs gs m base (Complement i t ∷ ss) done s p at l ep st can ea em lm eb le =
    let top = c.apart.slots in
    let j = terms_before inputs i + (t - 1) in
    let w = 255 - literal_grade b bytes i t in
    let lg = length-append gs done in
    let lj = can.0.0 in
    let s1 = after_plain c.flags (LdaaExtended (base + j)) s in
    let s2 = after_plain c.flags Coma s1 in
    let s3 = after_plain c.flags (StaaExtended at) s2 in
    let n1 = straight c s p _ l ep st.0 refl (inr (inl (omega arith, omega arith)), tt) tt in
    let n2 = straight c s1 (p + 3) _ n1.live n1.pc_is st.1.0 refl tt tt in
    let n3 = straight c s2 (p + 3 + 1) _ n2.live n2.pc_is st.1.1.0 refl tt (inr (inl (omega arith, omega arith)), tt) in
    let ev : get_or s.mem (base + j) 0 ≡ literal_grade b bytes i t = ap (λ k. get_or k (base + j) 0) em
    ∙ at_put_in m base (gs ++ done) j (omega arith) (omega arith) ∙ get_or_append_left gs done 0 j lj ∙ can.0.1 in
    let ew : s3.mem ≡ set s.mem at w = ap (λ k. set s.mem at (255 - k)) ev in
    let r = slots_run c b bytes inputs gs m base ss (done ++ w ∷ []) s3 (p + 3 + 1 + 3)
    (at + 1) n3.live n3.pc_is st.1.1.1 can.1 (next_place base at gs done w ea)
    (ew ∙ set_next m s.mem base at gs done w em ea) lm eb (omega arith) in
    let g = goes_on c 1 0 2 0 s s1 s3 (goes_one c s s1 (p + 3) n1)
    (goes_on c 1 0 1 0 s1 s2 s3 (goes_one c s1 s2 (p + 3 + 1) n2) (goes_one c s2 s3 (p + 3 + 1 + 3) n3)) in
    reaches_at c _ _ _ _ s _ _ _ _ (omega arith) (omega arith) (omega arith)
    (one_more m base gs done (map (slot_before b bytes) ss) w) (reaches_after c 3 0 _ _ s s3 _ _ g refl r)
