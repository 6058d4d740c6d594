-- Each part in a text, with its terms and ranges, is one of the program.
use Rattle.std.proofs.Common.{◌≡◌, ℕ, ◌⊎◌, inl, inr, List, [], ◌∷◌, ◌++◌, map, refl, ap, ◌∙◌}
use Rattle.fcl_tokens.specs.declared.token.Keyword.{Keyword}
use Rattle.fcl_tokens.specs.declared.token.Keyword.TheVariants as key
use Rattle.fcl_tokens.specs.declared.token.Token.TheVariants as tok
use Rattle.fcl_tokens.specs.declared.token.Word.{Word}
use Rattle.fcl_tokens.specs.declared.token.Word.TheVariants as word
use Rattle.fcl_syntax.specs.declared.fault.Kind.TheVariants.{Unsupported}
use Rattle.fcl_syntax.specs.declared.tree.DefuzzyLine.TheVariants as defuzzy
use Rattle.fcl_syntax.specs.declared.tree.Degree.TheVariants as degree
use Rattle.fcl_syntax.specs.declared.tree.FallbackValue.TheVariants as fallback
use Rattle.fcl_syntax.specs.declared.tree.FuzzyLine.TheVariants as fuzzy
use Rattle.fcl_syntax.specs.declared.tree.SignedNumber.TheVariants as signed
use Rattle.fcl_syntax.specs.declared.tree.Part.TheVariants as part
use Rattle.fcl_syntax.specs.declared.{tree.Point.Point}
use Rattle.fcl_syntax.specs.Grammar.{TSigned, plus, minus, bare, TSignedNumber, signed_number_text, number_text, each}
use Rattle.fcl_syntax.specs.Grammar.{TCoordinate, coordinate_text, signed_text, unit_text, zero_text, TUnit, TZero}
use Rattle.fcl_syntax.specs.Grammar.{degree_text, TPoint, point_text, TPoints, points_text, TTerm, term_text, TRange}
use Rattle.fcl_syntax.specs.Grammar.{range_text, TFuzzify, fuzzify_text, TSetting, setting_text, accu_classes}
use Rattle.fcl_syntax.specs.Grammar.{method_classes, TSingleton, singleton_text, TFallback, word_text, TDefuzzyLine}
use Rattle.fcl_syntax.specs.Grammar.{defuzzy_line_text, TDefuzzify, defuzzify_text, key_text, TPart, part_text}
use Rattle.fcl_syntax.specs.TokenClasses.{Among, name_classes, beyond_unit_classes, beyond_zero_classes, open_classes}
use Rattle.fcl_syntax.specs.Annotations.{IsClean, Sym, plain, either_text, or_refused}
use Rattle.fcl_syntax.specs.View.{view_signed_number, view_coordinate, view_degree, view_point, view_term, view_range}
use Rattle.fcl_syntax.specs.View.{view_fuzzy_line, view_fuzzify, view_setting, view_singleton, view_value}
use Rattle.fcl_syntax.specs.View.{view_fallback, view_defuzzy_line, view_defuzzify, view_part}
use Rattle.fcl_syntax.proofs.AnnotatedTexts.{clean_back, clean_front}
use Rattle.fcl_syntax.proofs.KeptLists.{HasTree, accepted, each_tree, no_annotation}

-- ---- numbers

pub signed_number_tree : (x : TSignedNumber) → HasTree view_signed_number x
signed_number_tree (plus n) = (signed.Plus n, refl)
signed_number_tree (minus n) = (signed.Minus n, refl)
signed_number_tree (bare n) = (signed.Bare n, refl)

value_tree : (x : TSignedNumber ⊎ ℕ) → HasTree view_value x
value_tree (inl x) = let one = signed_number_tree x in (fallback.Number one.0, ap inl one.1)
value_tree (inr at) = (fallback.Nc at, refl)

pub setting_tree : (k : Keyword) (w : Word) (classes : List ℕ) (code : ℕ) (s : TSetting classes)
    → IsClean (setting_text k w classes code s)
    → HasTree (view_setting {classes = classes}) s
setting_tree k w classes code s h =
    let found = accepted (Unsupported code) classes (word_text w) s.word
    (clean_front (or_refused (Unsupported code) classes (word_text w) s.word)
    (plain tok.Semicolon ∷ []) h.1.1) in
    (record { at = s.at; word = found.0 }, λ i. record s { word = found.1 i })

range_tree : (r : TRange) → HasTree view_range r
range_tree r =
    let low = signed_number_tree r.low in
    let high = signed_number_tree r.high in (
      record { at = r.at; assigned = r.assigned; open_at = r.open_at; low = low.0; high = high.0 },
      λ i. record r { low = low.1 i; high = high.1 i },
    )

fallback_tree : (d : TFallback) → HasTree view_fallback d
fallback_tree d =
    let value = value_tree d.value in
    (record { at = d.at; value = value.0 }, λ i. record d { value = value.1 i })

-- the view of points, which are no tree of their own
abbrev view_points : Point × List Point → TPoints
view_points p = inr (view_point p.0, map view_point p.1)

-- ---- points

coordinate_tree : (x : TSigned TCoordinate TCoordinate) → IsClean (signed_text coordinate_text coordinate_text x)
    → HasTree view_coordinate x
coordinate_tree (plus c) h = let found = accepted (Unsupported 10) name_classes number_text c h.1 in
    (signed.Plus found.0, ap plus found.1)
coordinate_tree (minus c) h = let found = accepted (Unsupported 10) name_classes number_text c h.1 in
    (signed.Minus found.0, ap minus found.1)
coordinate_tree (bare c) h = let found = accepted (Unsupported 10) name_classes number_text c h in
    (signed.Bare found.0, ap bare found.1)

-- a number where names and some other numbers are refused
in_place_tree : {A : Type 0} (classes : List ℕ) (text : A → List Sym) (x : Among name_classes ⊎ (Among classes ⊎ A))
    → IsClean (or_refused (Unsupported 10) name_classes (or_refused (Unsupported 11) classes text) x)
    → HasTree (λ (a : A). inr (inr a)) x
in_place_tree classes text x h =
    let in_place = accepted (Unsupported 10) name_classes (or_refused (Unsupported 11) classes text) x h in
    let found = accepted (Unsupported 11) classes text in_place.0 in_place.2 in
    (found.0, ap inr found.1 ∙ in_place.1)

degree_tree : (d : TSigned TUnit TZero) → IsClean (degree_text d) → HasTree view_degree d
degree_tree (plus u) h = let found = in_place_tree beyond_unit_classes unit_text u h.1 in
    (degree.Plus found.0, ap plus found.1)
degree_tree (minus z) h = let found = in_place_tree beyond_zero_classes zero_text z h.1 in
    (degree.Minus found.0, ap minus found.1)
degree_tree (bare u) h = let found = in_place_tree beyond_unit_classes unit_text u h in
    (degree.Bare found.0, ap bare found.1)

point_tree : (p : TPoint) → IsClean (point_text p) → HasTree view_point p
point_tree p h =
    let front = signed_text coordinate_text coordinate_text p.x in
    let back = plain tok.Comma ∷ (degree_text p.degree ++ plain tok.Close ∷ []) in
    let x = coordinate_tree p.x (clean_front front back h.1) in
    let d = degree_tree p.degree
    (clean_front (degree_text p.degree) (plain tok.Close ∷ [])
    (clean_back front back h.1).1) in (
      record { open_at = p.open_at; x = x.0; degree = d.0 },
      λ i. record p { x = x.1 i; degree = d.1 i },
    )

points_tree : (x : TPoints) → IsClean (points_text x) → HasTree view_points x
points_tree (inl x) h = absurd (no_annotation (Unsupported 14) h.0)
points_tree (inr t) h =
    let first = point_tree t.0 (clean_front (point_text t.0) (each point_text t.1) h) in
    let more = each_tree view_point point_text point_tree t.1
    (clean_back (point_text t.0) (each point_text t.1) h) in
    ((first.0, more.0), λ i. inr (first.1 i, more.1 i))

-- ---- inputs

term_tree : (t : TTerm) → IsClean (term_text t) → HasTree view_term t
term_tree t h =
    let found = points_tree t.points
    (clean_front (points_text t.points) (plain tok.Semicolon ∷ []) h.1.1.1) in (
      record { at = t.at; name = t.name; first = found.0.0; more = found.0.1 },
      λ i. record t { points = found.1 i },
    )

fuzzy_line_tree : (l : TTerm ⊎ TRange) → IsClean (either_text term_text range_text l) → HasTree view_fuzzy_line l
fuzzy_line_tree (inl t) h = let found = term_tree t h in (fuzzy.Term found.0, ap inl found.1)
fuzzy_line_tree (inr r) h = let found = range_tree r in (fuzzy.Range found.0, ap inr found.1)

fuzzify_tree : (f : TFuzzify) → IsClean (fuzzify_text f) → HasTree view_fuzzify f
fuzzify_tree f h =
    let lines = each_tree view_fuzzy_line (either_text term_text range_text) fuzzy_line_tree f.lines
    (clean_front (each (either_text term_text range_text) f.lines) (key_text key.EndFuzzify f.end)
    h.1.1) in (
      record { at = f.at; name = f.name; lines = lines.0; end = f.end },
      λ i. record f { lines = lines.1 i },
    )

-- ---- outputs

singleton_tree : (s : TSingleton) → IsClean (singleton_text s) → HasTree view_singleton s
singleton_tree s h =
    let found = accepted (Unsupported 13) open_classes signed_number_text s.value
    (clean_front (or_refused (Unsupported 13) open_classes signed_number_text s.value)
    (plain tok.Semicolon ∷ []) h.1.1.1) in
    let value = signed_number_tree found.0 in
    let is : inr (view_signed_number value.0) ≡ s.value = ap inr value.1 ∙ found.1 in
    (record { at = s.at; name = s.name; value = value.0 }, λ i. record s { value = is i })

defuzzy_line_tree : (l : TDefuzzyLine) → IsClean (defuzzy_line_text l) → HasTree view_defuzzy_line l
defuzzy_line_tree (inl s) h = let found = singleton_tree s h in (defuzzy.Singleton found.0, ap inl found.1)
defuzzy_line_tree (inr (inl s)) h = let found = setting_tree key.Accu word.Max accu_classes 4 s h in
    (defuzzy.Accu found.0, λ i. inr (inl (found.1 i)))
defuzzy_line_tree (inr (inr (inl s))) h = let found =
    setting_tree key.Method word.Cogs method_classes 1 s h in
    (defuzzy.Method found.0, λ i. inr (inr (inl (found.1 i))))
defuzzy_line_tree (inr (inr (inr (inl d)))) h = let found = fallback_tree d in
    (defuzzy.Default found.0, λ i. inr (inr (inr (inl (found.1 i)))))
defuzzy_line_tree (inr (inr (inr (inr r)))) h = let found = range_tree r in
    (defuzzy.Range found.0, λ i. inr (inr (inr (inr (found.1 i)))))

defuzzify_tree : (d : TDefuzzify) → IsClean (defuzzify_text d) → HasTree view_defuzzify d
defuzzify_tree d h =
    let lines = each_tree view_defuzzy_line defuzzy_line_text defuzzy_line_tree d.lines
    (clean_front (each defuzzy_line_text d.lines) (key_text key.EndDefuzzify d.end) h.1.1) in (
      record { at = d.at; name = d.name; lines = lines.0; end = d.end },
      λ i. record d { lines = lines.1 i },
    )

-- ---- parts

pub part_tree : (p : TPart) → IsClean (part_text p) → HasTree view_part p
part_tree (inl x) h = absurd (no_annotation (Unsupported 7) h.0)
part_tree (inr (inl f)) h = let found = fuzzify_tree f h in (part.Fuzzify found.0, λ i. inr (inl (found.1 i)))
part_tree (inr (inr d)) h = let found = defuzzify_tree d h in (part.Defuzzify found.0, λ i. inr (inr (found.1 i)))
