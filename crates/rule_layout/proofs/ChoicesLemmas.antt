-- Choices of one list from each of two lists of lists.
use Rattle.rule_layout.proofs.Words.{[], ◌*◌, ◌++◌, ◌+◌, ◌<◌, ◌∙◌, ◌∷◌, ◌≡◌, ◌≤◌, ap, append-nil, append_assoc, arith}
use Rattle.rule_layout.proofs.Words.{choices, get_or, length, length-append, length-map, List, map, map-append, refl}
use Rattle.rule_layout.proofs.Words.{sum_by-append, sum_by-cons, sym, take, take_more, total_length, ℕ}

pub length-choices : {A : Type 0} (xs ys : List (List A)) → length (choices xs ys) ≡ length xs * length ys
length-choices [] ys = omega arith
length-choices (x ∷ xs) ys =
    let front = length-append (map (λ y. x ++ y) ys) (choices xs ys) in
    let size = length-map ys (λ y. x ++ y) in
    let rest = length-choices xs ys in
    omega arith

pub total_length-append : {A : Type 0} (xs ys : List (List A))
    → total_length (xs ++ ys) ≡ total_length xs + total_length ys
total_length-append {A} xs ys = sum_by-append (λ (x : List A). length x) xs ys

pub total_length-cons : {A : Type 0} (x : List A) (xs : List (List A))
    → total_length (x ∷ xs) ≡ length x + total_length xs
total_length-cons {A} x xs = sum_by-cons (λ (x : List A). length x) x xs

total_length-headed : {A : Type 0} (x : List A) (ys : List (List A))
    → total_length (map (λ y. x ++ y) ys) ≡ length ys * length x + total_length ys
total_length-headed x [] = omega arith
total_length-headed x (y ∷ ys) =
    let first = total_length-cons (x ++ y) (map (λ z. x ++ z) ys) in
    let size = length-append x y in
    let old = total_length-cons y ys in
    let rest = total_length-headed x ys in
    omega arith

pub total_length-choices : {A : Type 0} (xs ys : List (List A))
    → total_length (choices xs ys) ≡ total_length xs * length ys + length xs * total_length ys
total_length-choices [] ys = omega arith
total_length-choices (x ∷ xs) ys =
    let parts = total_length-append (map (λ y. x ++ y) ys) (choices xs ys) in
    let front = total_length-headed x ys in
    let old = total_length-cons x xs in
    let rest = total_length-choices xs ys in
    omega (arith, parts, front, rest, ap (λ n. n * length ys) old)

pub choices-append : {A : Type 0} (xs ys zs : List (List A)) → choices (xs ++ ys) zs ≡ choices xs zs ++ choices ys zs
choices-append [] ys zs = refl
choices-append (x ∷ xs) ys zs =
    ap (λ w. map (λ z. x ++ z) zs ++ w) (choices-append xs ys zs)
    ∙ sym (append_assoc (map (λ z. x ++ z) zs) (choices xs zs) (choices ys zs))

map-headed : {A : Type 0} (x y : List A) (zs : List (List A))
    → map (λ z. (x ++ y) ++ z) zs ≡ map (λ w. x ++ w) (map (λ z. y ++ z) zs)
map-headed x y [] = refl
map-headed x y (z ∷ zs) = rw (append_assoc x y z, map-headed x y zs)

choices-headed : {A : Type 0} (x : List A) (ys zs : List (List A))
    → choices (map (λ y. x ++ y) ys) zs ≡ map (λ w. x ++ w) (choices ys zs)
choices-headed x [] zs = refl
choices-headed x (y ∷ ys) zs =
    rw (map-headed x y zs, choices-headed x ys zs)
    (sym (map-append (λ w. x ++ w) (map (λ z. y ++ z) zs) (choices ys zs)))

pub choices_assoc : {A : Type 0} (xs ys zs : List (List A)) → choices (choices xs ys) zs ≡ choices xs (choices ys zs)
choices_assoc [] ys zs = refl
choices_assoc (x ∷ xs) ys zs =
    choices-append (map (λ y. x ++ y) ys) (choices xs ys) zs
    ∙ (ap (λ w. w ++ choices (choices xs ys) zs) (choices-headed x ys zs)
    ∙ ap (λ w. map (λ v. x ++ v) (choices ys zs) ++ w) (choices_assoc xs ys zs))

pub choices-nil : {A : Type 0} (xs : List (List A)) → choices xs ([] ∷ []) ≡ xs
choices-nil [] = refl
choices-nil (x ∷ xs) = rw (append-nil x, choices-nil xs)

nil-headed : {A : Type 0} (ys : List (List A)) → map (λ y. [] ++ y) ys ≡ ys
nil-headed [] = refl
nil-headed (y ∷ ys) = ap (λ w. y ∷ w) (nil-headed ys)

pub nil-choices : {A : Type 0} (ys : List (List A)) → choices ([] ∷ []) ys ≡ ys
nil-choices ys = append-nil (map (λ y. [] ++ y) ys) ∙ nil-headed ys

map-map-headed : {A B : Type 0} (f : A → B) (x : List A) (ys : List (List A))
    → map (map f) (map (λ y. x ++ y) ys) ≡ map (λ y. map f x ++ y) (map (map f) ys)
map-map-headed f x [] = refl
map-map-headed f x (y ∷ ys) = rw (map-append f x y, map-map-headed f x ys)

pub map-choices : {A B : Type 0} (f : A → B) (xs ys : List (List A))
    → map (map f) (choices xs ys) ≡ choices (map (map f) xs) (map (map f) ys)
map-choices f [] ys = refl
map-choices f (x ∷ xs) ys =
    rw (map-append (map f) (map (λ y. x ++ y) ys) (choices xs ys), map-map-headed f x ys, map-choices f xs ys)

choices-one : {A : Type 0} (t : List A) (xs : List (List A)) → map (λ x. x ++ t) xs ≡ choices xs (t ∷ [])
choices-one t [] = refl
choices-one t (x ∷ xs) = ap (λ w. (x ++ t) ∷ w) (choices-one t xs)

pub choices_of_one : {A : Type 0} (xs ys : List (List A)) (s t : List A) → 1 ≤ length ys → length ys < 2
    → t ≡ get_or ys 0 t → s ≡ t → map (λ x. x ++ s) xs ≡ choices xs ys
choices_of_one xs [] s t some one first same = absurd (omega arith)
choices_of_one xs (y ∷ []) s t some one first same = ap (λ w. map (λ x. x ++ w) xs) (same ∙ first) ∙ choices-one y xs
choices_of_one xs (y ∷ z ∷ ys) s t some one first same = absurd (omega arith)

pub choices_more : {A : Type 0} (xs ys front : List (List A)) (i : ℕ) (x h : List A) → i < length xs → x ≡ get_or xs i x
    → h ≡ x → front ≡ choices (take i xs) ys →
    front ++ map (λ y. h ++ y) ys ≡ choices (take (i + 1) xs) ys
choices_more xs ys front i x h lt here same before =
    ap (λ w. w ++ map (λ y. h ++ y) ys) before
    ∙ (ap (λ v. choices (take i xs) ys ++ map (λ y. v ++ y) ys) (same ∙ here)
    ∙ (ap (λ w. choices (take i xs) ys ++ w) (sym (append-nil (map (λ y. get_or xs i x ++ y) ys)))
    ∙ (sym (choices-append (take i xs) (get_or xs i x ∷ []) ys)
    ∙ ap (λ w. choices w ys) (sym (take_more xs i x lt)))))
