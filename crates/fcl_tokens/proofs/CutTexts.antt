-- What the lexer cuts a text into is what the text has.
use Rattle.std.proofs.Common.{◌≡◌, ℕ, zero, suc, ◌+◌, ◌≤◌, ◌<◌, List, [], ◌∷◌, ◌++◌, length, drop, Option, Some, None}
use Rattle.std.proofs.Common.{Ok, Err, refl, sym, ap, subst, ◌∙◌, arith}
use Rattle.std.specs.List.{filter_map, cons_option}
use Rattle.std.proofs.lemmas.List.{length-append, length-drop}
use Rattle.std.proofs.Math.Seq.{drop-append_seam}
use Rattle.fcl_tokens.specs.declared.{lexer.LexFault.LexFault, lexer.LexKind.LexKind, lexer.Piece.Piece}
use Rattle.fcl_tokens.specs.declared.lexer.Piece.TheVariants as piece
use Rattle.fcl_tokens.specs.{declared.token.Token.Token, Cuts.CutsAreTokens}
use Rattle.fcl_tokens.specs.Lexing.{Lexed, in_front, lexed, next_piece, piece_of, tokenization}
use Rattle.fcl_tokens.specs.Tokens.{HasTokens, HasTokenFault, IsCut, IsFaulty, IsFront, IsSpelling, Lexeme}
use Rattle.fcl_tokens.specs.Tokens.{place_before, places_of}
use Rattle.fcl_tokens.proofs.CutLists.{same_front}
use Rattle.fcl_tokens.proofs.CutSpellings.{no_fault_in_nothing, one_fault, one_spelling, some_bytes}
use Rattle.fcl_tokens.proofs.CutPieces.{Found, PieceStands, piece_stands, together}

-- ---- from the cut to the text

abbrev token_in : Lexeme → Option Token
token_in l = l.token

-- the lexemes that give what is cut
abbrev CutStands : ℕ → List ℕ → Lexed → Type 0
CutStands at text (Ok l) =
    (lexemes : List Lexeme) × IsCut at lexemes text [] × (l.0 ≡ filter_map token_in lexemes)
    × (l.1 ≡ places_of at lexemes)
CutStands at text (Err e) =
    (lexemes : List Lexeme) × (rest : List ℕ) × IsCut at lexemes text rest × (e.at + length rest ≡ at + length text)
    × IsFaulty e.kind rest

skipped : (at n : ℕ) (text : List ℕ) (f : Found at text None n) (l : Lexed) → CutStands (at + n) f.behind l
    → CutStands at text l
skipped at n text f (Ok l) c =
    let len : at + n ≡ at + length f.front = ap (λ (k : ℕ). at + k) (sym f.len) in (
      record { bytes = f.front; token = None } ∷ c.0,
      (f.behind, f.parts, f.is, subst (λ (k : ℕ). IsCut k c.0 f.behind []) len c.1),
      c.2,
      c.3
          ∙ ap (λ (k : ℕ). places_of k c.0) len,
    )
skipped at n text f (Err e) c =
    let len : at + n ≡ at + length f.front = ap (λ (k : ℕ). at + k) (sym f.len) in (
      record { bytes = f.front; token = None } ∷ c.0,
      c.1,
      (f.behind, f.parts, f.is, subst (λ (k : ℕ). IsCut k c.0 f.behind c.1) len c.2),
      omega (arith, c.3, f.len, ap length f.parts, length-append f.front f.behind),
      c.4,
    )

taken : (at n : ℕ) (text : List ℕ) (t : Token) (f : Found at text (Some t) n) (l : Lexed)
    → CutStands (at + n) f.behind l → CutStands at text (in_front t at l)
taken at n text t f (Ok l) c =
    let len : at + n ≡ at + length f.front = ap (λ (k : ℕ). at + k) (sym f.len) in (
      record { bytes = f.front; token = Some t } ∷ c.0,
      (f.behind, f.parts, f.is, subst (λ (k : ℕ). IsCut k c.0 f.behind []) len c.1),
      ap (λ (ts : List Token). t ∷ ts) c.2,
      ap (λ (ps : List ℕ). at ∷ ps) (c.3 ∙ ap (λ (k : ℕ). places_of k c.0) len),
    )
taken at n text t f (Err e) c =
    let len : at + n ≡ at + length f.front = ap (λ (k : ℕ). at + k) (sym f.len) in (
      record { bytes = f.front; token = Some t } ∷ c.0,
      c.1,
      (f.behind, f.parts, f.is, subst (λ (k : ℕ). IsCut k c.0 f.behind c.1) len c.2),
      omega (arith, c.3, f.len, ap length f.parts, length-append f.front f.behind),
      c.4,
    )

behind_is : (at n : ℕ) (text : List ℕ) (t : Option Token) (f : Found at text t n) → drop n text ≡ f.behind
behind_is at n text t f = ap (λ (k : ℕ). drop k text) (sym f.len) ∙ ap (drop (length f.front)) f.parts
    ∙ drop-append_seam f.front f.behind

-- a lexeme is not empty
not_empty : (at n : ℕ) (text : List ℕ) (t : Option Token) → Found at text t n → 0 < n
not_empty at n text t f = omega (arith, f.len, some_bytes f.front (together at f.front t f.is.spells))

stands : (fuel at : ℕ) (text : List ℕ) → length text ≤ fuel → CutStands at text (lexed fuel at text)
unfolding lexed
stands zero at [] h = ([], refl, refl, refl)
stands zero at (b ∷ bytes) h = absurd (omega (arith, h))
stands (suc fuel) at [] h = ([], refl, refl, refl)
stands (suc fuel) at (b ∷ bytes) h =
    next (piece_of at (b ∷ bytes)) (piece_stands at b bytes) (λ n. stands fuel (at + n) (drop n (b ∷ bytes)))
  where
    next : (p : Piece) → PieceStands at (b ∷ bytes) p → ((n : ℕ) → length (drop n (b ∷ bytes)) ≤ fuel
        → CutStands (at + n) (drop n (b ∷ bytes)) (lexed fuel (at + n) (drop n (b ∷ bytes))))
        → CutStands at (b ∷ bytes) (next_piece at p (λ n. lexed fuel (at + n) (drop n (b ∷ bytes))))
    next (piece.Skip n) f again =
        skipped at n (b ∷ bytes) f (lexed fuel (at + n) (drop n (b ∷ bytes)))
        (subst (λ (l : List ℕ). CutStands (at + n) l (lexed fuel (at + n) (drop n (b ∷ bytes))))
        (behind_is at n (b ∷ bytes) None f)
        (again n (omega (arith, h, length-drop n (b ∷ bytes), not_empty at n (b ∷ bytes) None f))))
    next (piece.Token t n) f again =
        taken at n (b ∷ bytes) t f (lexed fuel (at + n) (drop n (b ∷ bytes)))
        (subst (λ (l : List ℕ). CutStands (at + n) l (lexed fuel (at + n) (drop n (b ∷ bytes))))
        (behind_is at n (b ∷ bytes) (Some t) f)
        (again n (omega (arith, h, length-drop n (b ∷ bytes), not_empty at n (b ∷ bytes) (Some t) f))))
    next (piece.Fault k) f again = ([], b ∷ bytes, refl, refl, f)

pub cut_has_tokens : (text : List ℕ) (ts : List Token) (ps : List ℕ) → tokenization text ≡ Ok (ts, ps)
    → HasTokens text ts ps
cut_has_tokens text ts ps h =
    let c : CutStands 0 text (Ok (ts, ps)) = subst (CutStands 0 text) h (stands (length text) 0 text (omega arith)) in
    record { lexemes = c.0; cut = c.1; are = c.2; stand = c.3 }

pub cut_has_fault : (text : List ℕ) (k : LexKind) (at : ℕ) → tokenization text ≡ Err (record { kind = k; at = at })
    → HasTokenFault text k at
cut_has_fault text k at h =
    let c : CutStands 0 text (Err (record { kind = k; at = at })) =
    subst (CutStands 0 text) h (stands (length text) 0 text (omega arith)) in
    record { lexemes = c.0; rest = c.1; cut = c.2; place = omega (arith, c.3); fault = c.4 }

-- ---- from the text to the cut

abbrev lexeme_piece : Option Token → ℕ → Piece
lexeme_piece None n = piece.Skip n
lexeme_piece (Some t) n = piece.Token t n

-- what stands at the front is what the lexer finds there
found_is : (at n : ℕ) (l : Lexeme) (behind : List ℕ) (t : Option Token) → IsFront at l behind
    → Found at (l.bytes ++ behind) t n
    → lexeme_piece t n ≡ lexeme_piece l.token (length l.bytes)
found_is at n l behind t front f =
    let shorter : length f.front ≤ length l.bytes =
    front.longest f.front f.behind f.parts (together at f.front t f.is.spells) in
    let longer : length l.bytes ≤ length f.front =
    f.is.longest l.bytes behind (sym f.parts) (together at l.bytes l.token front.spells) in
    let same = same_front f.front l.bytes f.behind behind (sym f.parts) (omega (arith, shorter, longer)) in
    let token : t ≡ l.token =
    one_spelling at l.bytes t l.token (subst (λ (bytes : List ℕ). IsSpelling at bytes t) same.0 f.is.spells)
    front.spells in
    let len : n ≡ length l.bytes = sym f.len ∙ ap length same.0 in
    ap (λ (u : Option Token). lexeme_piece u n) token ∙ ap (lexeme_piece l.token) len

front_piece : (at : ℕ) (l : Lexeme) (behind : List ℕ) (p : Piece) → IsFront at l behind
    → PieceStands at (l.bytes ++ behind) p
    → p ≡ lexeme_piece l.token (length l.bytes)
front_piece at l behind (piece.Skip n) front f = found_is at n l behind None front f
front_piece at l behind (piece.Token t n) front f = found_is at n l behind (Some t) front f
front_piece at l behind (piece.Fault k) front f = absurd (front.faultless k f)

fault_piece : (at : ℕ) (text : List ℕ) (k : LexKind) (p : Piece) → IsFaulty k text → PieceStands at text p
    → p ≡ piece.Fault k
fault_piece at text k (piece.Skip n) g f = absurd (f.is.faultless k (subst (IsFaulty k) f.parts g))
fault_piece at text k (piece.Token t n) g f = absurd (f.is.faultless k (subst (IsFaulty k) f.parts g))
fault_piece at text k (piece.Fault j) g f = ap (λ (x : LexKind). piece.Fault x) (one_fault text j k f g)

abbrev with_lexeme : ℕ → Option Token → Lexed → Lexed
with_lexeme at None r = r
with_lexeme at (Some t) r = in_front t at r

gone : (at n : ℕ) (t : Option Token) (go : ℕ → Lexed) → next_piece at (lexeme_piece t n) go ≡ with_lexeme at t (go n)
gone at n None go = refl
gone at n (Some t) go = refl

stepped : (fuel at b : ℕ) (tail : List ℕ) (t : Option Token) (behind : List ℕ)
    → IsFront at (record { bytes = b ∷ tail; token = t }) behind
    → lexed (suc fuel) at (b ∷ (tail ++ behind)) ≡ with_lexeme at t (lexed fuel (at + length (b ∷ tail)) behind)
unfolding lexed
stepped fuel at b tail t behind front =
    let text : List ℕ = b ∷ (tail ++ behind) in
    let go : ℕ → Lexed = λ n. lexed fuel (at + n) (drop n text) in
    ap (λ (p : Piece). next_piece at p go)
    (front_piece at (record { bytes = b ∷ tail; token = t }) behind (piece_of at text) front
    (piece_stands at b (tail ++ behind)))
    ∙ gone at (length (b ∷ tail)) t go
    ∙ ap (λ (l : List ℕ). with_lexeme at t (lexed fuel (at + length (b ∷ tail)) l)) (drop-append_seam (b ∷ tail) behind)

step : (fuel at : ℕ) (l : Lexeme) (behind : List ℕ) → IsFront at l behind
    → lexed (suc fuel) at (l.bytes ++ behind) ≡ with_lexeme at l.token
    (lexed fuel (at + length l.bytes) behind)
step fuel at l behind front = go l.bytes refl
  where
    go : (bytes : List ℕ) → bytes ≡ l.bytes
        → lexed (suc fuel) at (l.bytes ++ behind) ≡ with_lexeme at l.token (lexed fuel (at + length l.bytes) behind)
    go [] e = absurd (omega (arith, some_bytes l.bytes (together at l.bytes l.token front.spells), ap length e))
    go (b ∷ tail) e =
        subst (λ (bytes : List ℕ). lexed (suc fuel) at (bytes ++ behind) ≡ with_lexeme at l.token
        (lexed fuel (at + length bytes) behind)) e
        (stepped fuel at b tail l.token behind
        (subst (λ (bytes : List ℕ). IsFront at (record { bytes = bytes; token = l.token }) behind) (sym e) front))

with_placed : (at : ℕ) (t : Option Token) (ts : List Token) (ps : List ℕ)
    → with_lexeme at t (Ok (ts, ps)) ≡ Ok (cons_option t ts, place_before at t ps)
with_placed at None ts ps = refl
with_placed at (Some t) ts ps = refl

with_fault : (at : ℕ) (t : Option Token) (e : LexFault) → with_lexeme at t (Err e) ≡ Err e
with_fault at None e = refl
with_fault at (Some t) e = refl

nothing_left : (fuel at : ℕ) → lexed fuel at [] ≡ Ok ([], [])
unfolding lexed
nothing_left zero at = refl
nothing_left (suc fuel) at = refl

text_len : (at : ℕ) (l : Lexeme) (text behind : List ℕ) → text ≡ l.bytes ++ behind → IsFront at l behind
    → length behind < length text
text_len at l text behind e front =
    omega (
      arith,
      ap length e,
      length-append l.bytes behind,
      some_bytes l.bytes (together at l.bytes l.token front.spells),
    )

cut_lexed : (fuel at : ℕ) (lexemes : List Lexeme) (text : List ℕ) → IsCut at lexemes text [] → length text ≤ fuel
    → lexed fuel at text ≡ Ok (filter_map token_in lexemes, places_of at lexemes)
cut_lexed fuel at [] text c h = ap (lexed fuel at) c ∙ nothing_left fuel at
cut_lexed zero at (l ∷ lexemes) text c h = absurd (omega (arith, h, text_len at l text c.0 c.1 c.2))
cut_lexed (suc fuel) at (l ∷ lexemes) text c h =
    ap (lexed (suc fuel) at) c.1 ∙ step fuel at l c.0 c.2
    ∙ ap (with_lexeme at l.token)
    (cut_lexed fuel (at + length l.bytes) lexemes c.0 c.3 (omega (arith, h, text_len at l text c.0 c.1 c.2)))
    ∙ with_placed at l.token (filter_map token_in lexemes) (places_of (at + length l.bytes) lexemes)

fault_first : (fuel at : ℕ) (text : List ℕ) (k : LexKind) → IsFaulty k text → length text ≤ fuel
    → lexed fuel at text ≡ Err (record { kind = k; at = at })
unfolding lexed
fault_first fuel at [] k f h = absurd (no_fault_in_nothing k f)
fault_first zero at (b ∷ bytes) k f h = absurd (omega (arith, h))
fault_first (suc fuel) at (b ∷ bytes) k f h =
    ap (λ (p : Piece). next_piece at p (λ n. lexed fuel (at + n) (drop n (b ∷ bytes))))
    (fault_piece at (b ∷ bytes) k (piece_of at (b ∷ bytes)) f (piece_stands at b bytes))

cut_fails : (fuel at end : ℕ) (lexemes : List Lexeme) (text rest : List ℕ) (k : LexKind) → IsCut at lexemes text rest
    → IsFaulty k rest
    → end + length rest ≡ at + length text → length text ≤ fuel
    → lexed fuel at text ≡ Err (record { kind = k; at = end })
cut_fails fuel at end [] text rest k c f e h =
    ap (lexed fuel at) c ∙ fault_first fuel at rest k f (omega (arith, h, ap length c))
    ∙ ap (λ (n : ℕ). Err (record { kind = k; at = n })) (omega (arith, e, ap length c))
cut_fails zero at end (l ∷ lexemes) text rest k c f e h = absurd (omega (arith, h, text_len at l text c.0 c.1 c.2))
cut_fails (suc fuel) at end (l ∷ lexemes) text rest k c f e h =
    ap (lexed (suc fuel) at) c.1 ∙ step fuel at l c.0 c.2
    ∙ ap (with_lexeme at l.token) (cut_fails fuel (at + length l.bytes) end lexemes c.0 rest k c.3 f
    (omega (arith, e, ap length c.1, length-append l.bytes c.0)) (omega (arith, h, text_len at l text c.0 c.1 c.2)))
    ∙ with_fault at l.token (record { kind = k; at = end })

pub tokens_are_cut : (text : List ℕ) (ts : List Token) (ps : List ℕ) → HasTokens text ts ps
    → tokenization text ≡ Ok (ts, ps)
tokens_are_cut text ts ps h =
    cut_lexed (length text) 0 h.lexemes text h.cut (omega arith)
    ∙ ap (λ (l : List Token). Ok (l, places_of 0 h.lexemes)) (sym h.are)
    ∙ ap (λ (l : List ℕ). Ok (ts, l)) (sym h.stand)

pub fault_is_cut : (text : List ℕ) (k : LexKind) (at : ℕ) → HasTokenFault text k at
    → tokenization text ≡ Err (record { kind = k; at = at })
fault_is_cut text k at h =
    cut_fails (length text) 0 at h.lexemes text h.rest k h.cut h.fault (omega (arith, h.place)) (omega arith)

pub cuts_are_tokens_lem : CutsAreTokens
cuts_are_tokens_lem = record {
  tokens = λ text ts ps. (cut_has_tokens text ts ps, tokens_are_cut text ts ps);
  faults = λ text k at. (cut_has_fault text k at, fault_is_cut text k at);
}
