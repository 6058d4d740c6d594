-- The numbers of a line, one by one.
use Rattle.std.proofs.Common.{◌≡◌, ◌≢◌, ◌≤◌, ◌<◌, ◌+◌, ℕ, List, [], ◌∷◌, ◌++◌, length, All, decimal, refl, sym, ◌∙◌, ap}
use Rattle.std.proofs.Common.{subst, arith, append_assoc, length-append, take, get_or, add-one}
use Rattle.std.proofs.Math.Seq.{take-suc}
use Rattle.std.specs.Prelude.{codes}
use Rattle.std.proofs.Math.Seq.{get_or-append_seam}
use Rattle.std.proofs.lemmas.List.{append_cancel_left, append-nil}
use Rattle.std.proofs.lemmas.List.Elements.{All-append, All-cons, All-nil}
use Rattle.box_tree.specs.{Numbers.EndsNumber, Texts.line, Texts.numbers}
use Rattle.box_tree.proofs.NumberLemmas.{one_number}

abbrev pub IsSmall : ℕ → Type 0
IsSmall n = n ≤ 1000000

-- what stands behind the first numbers of a line: more of them, and the end of the line
abbrev pub line_rest : List ℕ → List ℕ → List ℕ
line_rest more behind = numbers more ++ (codes "\n" ++ behind)

-- ns has more numbers behind those that were read, and then the line ends
pub record GoesOn (ns behind read rest : List ℕ) : Type 0 where
  pub more : List ℕ
  pub numbers_are : ns ≡ read ++ more
  pub rest_is : rest ≡ line_rest more behind

pub at_seam : {X : Type 0} (P : X → Type 0) (xs : List X) (y : X) (ys : List X) → All P (xs ++ y ∷ ys) → P y
at_seam P xs y ys all =
    subst P (get_or-append_seam xs y ys y) (all (length xs) y (omega (arith, length-append xs (y ∷ ys))))

pub numbers-snoc : (ns : List ℕ) (n : ℕ) (rest : List ℕ)
    → numbers (ns ++ n ∷ []) ++ rest ≡ numbers ns ++ (codes " " ++ (decimal n ++ rest))
numbers-snoc [] n rest = ap (λ (t : List ℕ). 32 ∷ t) (append_assoc (decimal n) [] rest)
numbers-snoc (m ∷ ns) n rest = simp append_assoc (ap (λ (t : List ℕ). 32 ∷ (decimal m ++ t)) (numbers-snoc ns n rest))

line_behind : (word ns behind : List ℕ) → line word ns ++ behind ≡ word ++ line_rest ns behind
line_behind word ns behind = simp append_assoc

pub rest_ends : (more behind : List ℕ) → EndsNumber (line_rest more behind)
rest_ends [] behind = refl
rest_ends (n ∷ more) behind = refl

pub at_first : (word text rest ns behind : List ℕ) → text ≡ word ++ rest → text ≡ line word ns ++ behind
    → GoesOn ns behind [] rest
at_first word text rest ns behind found is = record {
  more = ns;
  numbers_are = refl;
  rest_is = append_cancel_left word rest (line_rest ns behind) (sym found ∙ is ∙ line_behind word ns behind);
}

-- a line that does not end here has one more number
pub record HasNext (ns behind read rest : List ℕ) : Type 0 where
  pub next : ℕ
  pub more : List ℕ
  pub numbers_are : ns ≡ read ++ next ∷ more
  pub rest_is : rest ≡ codes " " ++ (decimal next ++ line_rest more behind)

next_at : (more ns behind read rest : List ℕ) → ns ≡ read ++ more → rest ≡ line_rest more behind
    → ((r : List ℕ) → rest ≢ codes "\n" ++ r) → HasNext ns behind read rest
next_at [] ns behind read rest are is no_end = absurd (no_end behind is)
next_at (n ∷ more) ns behind read rest are is no_end =
    record { next = n; more = more; numbers_are = are; rest_is = is ∙ simp append_assoc }

pub next_of : (ns behind read rest : List ℕ) → GoesOn ns behind read rest → ((r : List ℕ) → rest ≢ codes "\n" ++ r)
    → HasNext ns behind read rest
next_of ns behind read rest on no_end = next_at on.more ns behind read rest on.numbers_are on.rest_is no_end

pub next_is_small : (ns behind read rest : List ℕ) (h : HasNext ns behind read rest) → All IsSmall ns → h.next ≤ 1000000
next_is_small ns behind read rest h small = at_seam IsSmall read h.next h.more (subst (All IsSmall) h.numbers_are small)

pub digits_are : (ns behind read rest digits : List ℕ) (h : HasNext ns behind read rest) → rest ≡ codes " " ++ digits
    → digits ≡ decimal h.next ++ line_rest h.more behind
digits_are ns behind read rest digits h blank =
    append_cancel_left (codes " ") digits (decimal h.next ++ line_rest h.more behind) (sym blank ∙ h.rest_is)

-- the number that was read is the next, and the line goes on behind it
pub goes_on : (ns behind read rest digits rest' read' : List ℕ) (n : ℕ) (h : HasNext ns behind read rest)
    → All IsSmall ns → n ≤ 1000000 → EndsNumber rest' → rest ≡ codes " " ++ digits → digits ≡ decimal n ++ rest'
    → read' ≡ read ++ n ∷ []
    → GoesOn ns behind read' rest'
goes_on ns behind read rest digits rest' read' n h small n_small ends blank is added =
    let same : decimal n ++ rest' ≡ decimal h.next ++ line_rest h.more behind =
    sym is ∙ digits_are ns behind read rest digits h blank in
    let one = one_number n h.next rest' (line_rest h.more behind) n_small (next_is_small ns behind read rest h small)
    ends (rest_ends h.more behind) same in
    record {
      more = h.more;
      numbers_are = h.numbers_are ∙ ap (λ (m : ℕ). read ++ m ∷ h.more) (sym one.0)
          ∙ sym (append_assoc read (n ∷ []) h.more) ∙ ap (λ (r : List ℕ). r ++ h.more) (sym added);
      rest_is = one.1;
    }

pub so_far_more : (word text read rest digits rest' read' : List ℕ) (n : ℕ) → text ≡ word ++ (numbers read ++ rest)
    → rest ≡ codes " " ++ digits → digits ≡ decimal n ++ rest' → read' ≡ read ++ n ∷ []
    → text ≡ word ++ (numbers read' ++ rest')
so_far_more word text read rest digits rest' read' n so_far blank is added =
    so_far ∙ ap (λ (r : List ℕ). word ++ (numbers read ++ r)) (blank ∙ ap (λ (d : List ℕ). 32 ∷ d) is)
    ∙ ap (λ (r : List ℕ). word ++ r)
    (sym (numbers-snoc read n rest') ∙ ap (λ (r : List ℕ). numbers r ++ rest') (sym added))

pub small_more : (read read' : List ℕ) (n : ℕ) → All IsSmall read → n ≤ 1000000 → read' ≡ read ++ n ∷ []
    → All IsSmall read'
small_more read read' n small n_small added =
    subst (All IsSmall) (sym added)
    (All-append IsSmall read (n ∷ []) small (All-cons IsSmall n [] n_small (All-nil IsSmall)))

regroup : (before word ns blank digits : List ℕ)
    → ((before ++ (word ++ ns)) ++ blank) ++ digits ≡ before ++ (word ++ (ns ++ (blank ++ digits)))
regroup before word ns blank digits = simp append_assoc

numbers-take : (ns : List ℕ) (i n : ℕ) → i < length ns → n ≡ get_or ns i 0
    → numbers (take (i + 1) ns) ≡ numbers (take i ns) ++ (codes " " ++ decimal n)
numbers-take ns i n lt is =
    ap numbers (ap (λ (k : ℕ). take k ns) (add-one i) ∙ take-suc ns i 0 lt
    ∙ ap (λ (m : ℕ). take i ns ++ m ∷ []) (sym is))
    ∙ sym (append-nil (numbers (take i ns ++ n ∷ []))) ∙ numbers-snoc (take i ns) n []
    ∙ ap (λ (t : List ℕ). numbers (take i ns) ++ 32 ∷ t) (append-nil (decimal n))

-- what is written, one number more
pub numbers_more : (ns : List ℕ) (i n : ℕ) (text with_blank text' before word : List ℕ) → i < length ns
    → n ≡ get_or ns i 0 → text ≡ before ++ (word ++ numbers (take i ns)) → with_blank ≡ text ++ codes " "
    → text' ≡ with_blank ++ decimal n
    → text' ≡ before ++ (word ++ numbers (take (i + 1) ns))
numbers_more ns i n text with_blank text' before word lt is so_far blank added =
    added ∙ ap (λ (t : List ℕ). t ++ decimal n) (blank ∙ ap (λ (t : List ℕ). t ++ codes " ") so_far)
    ∙ regroup before word (numbers (take i ns)) (codes " ") (decimal n)
    ∙ ap (λ (t : List ℕ). before ++ (word ++ t)) (sym (numbers-take ns i n lt is))
