-- The image of bytes has one text.
use Rattle.std.proofs.Common.{◌≡◌, ◌≤◌, ◌+◌, ◌∙◌, ℕ, zero, suc, List, [], ◌∷◌, ◌++◌, length, arith, refl, sym, ap}
use Rattle.std.proofs.Common.{subst, inl, inr, ⊎_elim}
use Rattle.cpu12_asm.specs.Bytes.{placed}
use Rattle.srecord.specs.Images.{AreCut, IsPiece, Piece, StartsAt, data_text, next, none}
use Rattle.srecord.specs.{Laws.ImageTextsAreOne, Lines.record_text}
use Rattle.std.specs.Prelude.{◌⊎◌, codes}

-- a run of bytes from an address, of at most so many, ends where it has as many or no byte follows
abbrev IsLongest : ℕ → ℕ → List ℕ → List (ℕ × ℕ) → Type 0
IsLongest most at bytes behind =
    (length bytes ≤ most) × ((length bytes ≡ most) ⊎ (StartsAt (at + length bytes) behind → ⊥))

shorter : (most at y : ℕ) (ys : List ℕ) (b c : List (ℕ × ℕ)) → IsLongest most at [] b → length (y ∷ ys) ≤ most
    → b ≡ placed at (y ∷ ys) ++ c → ⊥
shorter most at y ys b c (few, inl full) more same = omega (arith, full, more)
shorter most at y ys [] c (few, inr ends) more same = cc
shorter most at y ys (h ∷ rest) c (few, inr ends) more same =
    let there : h.0 ≡ at + 0 = let e : h ≡ (at, y) = cc in ap (λ (p : ℕ × ℕ). p.0) e ∙ omega arith in
    ends there

runs_one : (most at : ℕ) (xs ys : List ℕ) (b c : List (ℕ × ℕ)) → IsLongest most at xs b → IsLongest most at ys c
    → placed at xs ++ b ≡ placed at ys ++ c → (xs ≡ ys) × (b ≡ c)
runs_one most at [] [] b c p q same = (refl, same)
runs_one most at [] (y ∷ ys) b c p q same = absurd (shorter most at y ys b c p q.0 same)
runs_one most at (x ∷ xs) [] b c p q same = absurd (shorter most at x xs c b q p.0 (sym same))
runs_one zero at (x ∷ xs) (y ∷ ys) b c p q same = absurd (omega (arith, p.0))
runs_one (suc most) at (x ∷ xs) (y ∷ ys) b c p q same =
    let rests : placed (at + 1) xs ++ b ≡ placed (at + 1) ys ++ c = cc in
    let firsts : (at, x) ≡ (at, y) = cc in
    let heads : x ≡ y = ap (λ (p : ℕ × ℕ). p.1) firsts in
    let one = runs_one most (at + 1) xs ys b c (less most at x xs b p) (less most at y ys c q) rests in
    (ap (λ (z : ℕ). z ∷ xs) heads ∙ ap (λ (zs : List ℕ). y ∷ zs) one.0, one.1)
  where
    less : (m at z : ℕ) (zs : List ℕ) (d : List (ℕ × ℕ)) → IsLongest (suc m) at (z ∷ zs) d → IsLongest m (at + 1) zs d
    less m at z zs d (few, inl full) = (omega (arith, few), inl (omega (arith, full)))
    less m at z zs d (few, inr ends) =
        (omega (arith, few), inr (λ starts. ends (subst (λ (n : ℕ). StartsAt n d) (omega arith) starts)))

pieces_one : (p q : Piece) (b c : List (ℕ × ℕ)) → IsPiece p b → IsPiece q c
    → placed p.at p.bytes ++ b ≡ placed q.at q.bytes ++ c → (p ≡ q) × (b ≡ c)
pieces_one p q b c good other same = go p.bytes q.bytes refl refl
  where
    go : (xs ys : List ℕ) → p.bytes ≡ xs → q.bytes ≡ ys → (p ≡ q) × (b ≡ c)
    go [] ys ex ey = absurd (omega (arith, good.some, ap (λ (zs : List ℕ). length zs) ex))
    go (x ∷ xs) [] ex ey = absurd (omega (arith, other.some, ap (λ (zs : List ℕ). length zs) ey))
    go (x ∷ xs) (y ∷ ys) ex ey =
        let firsts : (p.at, x) ≡ (q.at, y) = cc (same, ex, ey) in
        let at_one : p.at ≡ q.at = ap (λ (z : ℕ × ℕ). z.0) firsts in
        let moved : placed p.at p.bytes ++ b ≡ placed p.at q.bytes ++ c =
        same ∙ ap (λ (n : ℕ). placed n q.bytes ++ c) (sym at_one) in
        let one = runs_one 32 p.at p.bytes q.bytes b c (good.few, good.ends) (
          other.few,
          ⊎_elim inl (λ e. inr (λ starts. e (subst (λ (n : ℕ). StartsAt (n + length q.bytes) c) at_one starts)))
              other.ends,
        ) moved in
        ((λ i. record { at = at_one i; bytes = one.0 i }), one.1)

filled : (p : Piece) (b : List (ℕ × ℕ)) → IsPiece p b → placed p.at p.bytes ++ b ≡ [] → ⊥
filled p b good e = go p.bytes refl
  where
    go : (xs : List ℕ) → p.bytes ≡ xs → ⊥
    go [] ex = omega (arith, good.some, ap (λ (zs : List ℕ). length zs) ex)
    go (x ∷ xs) ex = cc (e, ex)

cuts_one : (bytes others : List (ℕ × ℕ)) (ps qs : List Piece) → AreCut bytes ps → AreCut others qs → bytes ≡ others
    → ps ≡ qs
cuts_one _ _ _ _ none none same = refl
cuts_one _ _ _ _ none (next q c qs good cut) same = absurd (filled q c good (sym same))
cuts_one _ _ _ _ (next p b ps good cut) none same = absurd (filled p b good same)
cuts_one _ _ _ _ (next p b ps good cut) (next q c qs other others) same =
    let one = pieces_one p q b c good other same in
    ap (λ (z : Piece). z ∷ ps) one.0 ∙ ap (λ (zs : List Piece). q ∷ zs) (cuts_one b c ps qs cut others one.1)

pub texts_one : ImageTextsAreOne
texts_one bytes start text other a b =
    let same = cuts_one bytes bytes a.pieces b.pieces a.cut b.cut refl in
    a.records ∙ ap (λ (ps : List Piece). record_text 48 0 (codes "FZ12") ++ (data_text ps
    ++ (record_text 53 (length ps) [] ++ record_text 57 start []))) same ∙ sym b.records
