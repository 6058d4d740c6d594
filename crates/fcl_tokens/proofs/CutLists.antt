-- Runs, fronts and first occurrences in lists of bytes.
use Rattle.std.proofs.Common.{◌≡◌, ℕ, suc, ◌+◌, ◌≤◌, Bool, true, false, cond, List, [], ◌∷◌, ◌++◌, length, take, drop}
use Rattle.std.proofs.Common.{Option, Some, None, refl, sym, ap, subst, ◌∙◌, arith}
use Rattle.std.specs.Prelude.{◌==◌, if◌then◌else◌}
use Rattle.std.specs.List.{list_all, prefix_len, take_while}
use Rattle.std.proofs.lemmas.Bool.{and_parts, eqb-true}
use Rattle.std.proofs.lemmas.List.{take-append-drop, take-append-le}
use Rattle.std.proofs.lemmas.List.Folds.{length-prefix_len}
use Rattle.std.proofs.lemmas.List.Sums.{take_while-cons}
use Rattle.std.proofs.Math.Seq.{drop-append_seam, take-append_seam}
use Rattle.fcl_tokens.specs.Lexing.{run, comment_end, shifted, starts_close}

-- ---- fronts of one text

pub same_front : (a b x y : List ℕ) → a ++ x ≡ b ++ y → length a ≡ length b → (a ≡ b) × (x ≡ y)
same_front a b x y e len = (
  sym (take-append_seam a x) ∙ ap (take (length a)) e ∙ ap (λ (n : ℕ). take n (b ++ y)) len ∙ take-append_seam b y,
  sym (drop-append_seam a x) ∙ ap (drop (length a)) e ∙ ap (λ (n : ℕ). drop n (b ++ y)) len ∙ drop-append_seam b y,
)

-- of two fronts the longer begins with the other
pub begins_with : (a b x y : List ℕ) → a ++ x ≡ b ++ y → length a ≤ length b → (c : List ℕ) × (b ≡ a ++ c)
begins_with a b x y e len =
    let front : take (length a) b ≡ a = sym (take-append-le (length a) b y len) ∙ ap (take (length a)) (sym e)
    ∙ take-append_seam a x in
    (drop (length a) b, sym (take-append-drop (length a) b) ∙ ap (λ (l : List ℕ). l ++ drop (length a) b) front)

-- ---- runs

-- all pass, so the run at the front is as long at least
pub all_in_run : (p : ℕ → Bool) (front behind : List ℕ) → list_all p front ≡ true
    → length front ≤ prefix_len p (front ++ behind)
all_in_run p [] behind h = omega arith
all_in_run p (x ∷ front) behind h =
    let parts = and_parts (p x) (list_all p front) h in
    let more : prefix_len p (x ∷ (front ++ behind)) ≡ 1 + prefix_len p (front ++ behind) = rw parts.0 refl in
    omega (arith, more, all_in_run p front behind parts.1)

-- and where the next one does not pass it is just as long
pub run_ends : (p : ℕ → Bool) (front : List ℕ) (x : ℕ) (behind : List ℕ) → list_all p front ≡ true → p x ≡ false
    → prefix_len p (front ++ x ∷ behind) ≡ length front
run_ends p [] x behind h ends = rw ends refl
run_ends p (y ∷ front) x behind h ends =
    let parts = and_parts (p y) (list_all p front) h in
    let more : prefix_len p (y ∷ (front ++ x ∷ behind)) ≡ 1 + prefix_len p (front ++ x ∷ behind) = rw parts.0 refl in
    omega (arith, more, run_ends p front x behind parts.1 ends)

pub run_is : (p : ℕ → Bool) (bytes : List ℕ) → run p bytes ≡ prefix_len p bytes
run_is p bytes = length-prefix_len p bytes

pub run_passes : (p : ℕ → Bool) (bytes : List ℕ) → list_all p (take_while p bytes) ≡ true
run_passes p [] = refl
run_passes p (x ∷ xs) =
    subst (λ (l : List ℕ). list_all p l ≡ true) (sym (take_while-cons p x xs)) (go (p x) refl (run_passes p xs))
  where
    go : (b : Bool) → p x ≡ b → list_all p (take_while p xs) ≡ true
        → list_all p (cond b (x ∷ take_while p xs) []) ≡ true
    go true e more = rw e more
    go false e more = refl

-- the run at the front, and what is behind it
pub run_splits : (p : ℕ → Bool) (bytes : List ℕ) → bytes ≡ take_while p bytes ++ drop (run p bytes) bytes
run_splits p bytes = sym (take-append-drop (prefix_len p bytes) bytes)
    ∙ ap (λ (n : ℕ). take_while p bytes ++ drop n bytes) (sym (run_is p bytes))

-- ---- the end of a comment

-- the first `*)`, after how many bytes it is over
pub record FirstEnd (bytes : List ℕ) (n : ℕ) : Type 0 where
  pub inside : List ℕ
  pub behind : List ℕ
  pub parts : bytes ≡ inside ++ (42 ∷ 41 ∷ behind)
  pub len : length inside + 2 ≡ n
  pub first : (before after : List ℕ) → bytes ≡ before ++ (42 ∷ 41 ∷ after) → length inside ≤ length before

pub record EndHere (a : ℕ) (bytes : List ℕ) : Type 0 where
  pub rest : List ℕ
  pub star : a ≡ 42
  pub close : bytes ≡ 41 ∷ rest

ends_here : (a : ℕ) (bytes : List ℕ) → (if a == 42 then starts_close bytes else false) ≡ true → EndHere a bytes
ends_here a bytes h = go (a == 42) bytes refl h
  where
    go : (b : Bool) (bytes : List ℕ) → (a == 42) ≡ b → (if b then starts_close bytes else false) ≡ true
        → EndHere a bytes
    go true (c ∷ rest) e h =
        record { rest = rest; star = eqb-true a 42 e; close = ap (λ (n : ℕ). n ∷ rest) (eqb-true c 41 h) }
    go true [] e h = absurd cc
    go false bytes e h = absurd cc

head_or_zero : List ℕ → ℕ
head_or_zero [] = 0
head_or_zero (x ∷ xs) = x

tail_of : List ℕ → List ℕ
tail_of [] = []
tail_of (x ∷ xs) = xs

pub same_head : (a b : ℕ) (x y : List ℕ) → a ∷ x ≡ b ∷ y → a ≡ b
unfolding head_or_zero
same_head a b x y e = ap head_or_zero e

pub same_tail : (a b : ℕ) (x y : List ℕ) → a ∷ x ≡ b ∷ y → x ≡ y
unfolding tail_of
same_tail a b x y e = ap tail_of e

-- an end at the very front is found there
not_here : (a : ℕ) (bytes after : List ℕ) → (if a == 42 then starts_close bytes else false) ≡ false
    → a ∷ bytes ≡ 42 ∷ 41 ∷ after → ⊥
not_here a bytes after h e =
    let star : a ≡ 42 = same_head a 42 bytes (41 ∷ after) e in
    let close : bytes ≡ 41 ∷ after = same_tail a 42 bytes (41 ∷ after) e in
    let no : (if 42 == 42 then starts_close (41 ∷ after) else false) ≡ false = subst
    (λ (l : List ℕ). (if 42 == 42 then starts_close l else false) ≡ false) close
    (subst (λ (n : ℕ). (if n == 42 then starts_close bytes else false) ≡ false) star h) in
    cc

shifted_some : (o : Option ℕ) (n : ℕ) → shifted 1 o ≡ Some n → (m : ℕ) × (o ≡ Some m) × (1 + m ≡ n)
shifted_some None n h = absurd cc
shifted_some (Some m) n h = (m, refl, cc)

shifted_none : (o : Option ℕ) → shifted 1 o ≡ None → o ≡ None
shifted_none None h = refl
shifted_none (Some m) h = absurd cc

pub comment_ends : (bytes : List ℕ) (n : ℕ) → comment_end bytes ≡ Some n → FirstEnd bytes n
comment_ends [] n h = absurd cc
comment_ends (a ∷ bytes) n h = go (comment_ends bytes) (if a == 42 then starts_close bytes else false) refl h
  where
    go : ((n : ℕ) → comment_end bytes ≡ Some n → FirstEnd bytes n) → (b : Bool)
        → (if a == 42 then starts_close bytes else false) ≡ b
        → (if b then Some 2 else shifted 1 (comment_end bytes)) ≡ Some n → FirstEnd (a ∷ bytes) n
    go again true e h =
        let here = ends_here a bytes e in
        record {
          inside = [];
          behind = here.rest;
          parts = ap (λ (x : ℕ). x ∷ bytes) here.star ∙ ap (λ (l : List ℕ). 42 ∷ l) here.close;
          len = cc;
          first = λ before after k. omega arith;
        }
    go again false e h =
        let found = shifted_some (comment_end bytes) n h in
        let f = again found.0 found.1 in
        record {
          inside = a ∷ f.inside;
          behind = f.behind;
          parts = ap (λ (l : List ℕ). a ∷ l) f.parts;
          len = omega (arith, f.len, found.2);
          first = λ before after k. elim before as
              (λ (before : List ℕ). a ∷ bytes ≡ before ++ (42 ∷ 41 ∷ after) → suc (length f.inside) ≤ length before) [
                | [] ↦ λ k. absurd (not_here a bytes after e k)
                | x ∷ more ↦ λ k. omega (arith, f.first more after (same_tail a x bytes (more ++ (42 ∷ 41 ∷ after)) k))
              ] k;
        }

pub comment_open : (bytes : List ℕ) → comment_end bytes ≡ None → (before after : List ℕ)
    → bytes ≡ before ++ (42 ∷ 41 ∷ after) → ⊥
comment_open [] h [] after e = absurd cc
comment_open [] h (x ∷ before) after e = absurd cc
comment_open (a ∷ bytes) h before after e =
    go (comment_open bytes) (if a == 42 then starts_close bytes else false) refl h before e
  where
    go : (comment_end bytes ≡ None → (before after : List ℕ) → bytes ≡ before ++ (42 ∷ 41 ∷ after) → ⊥) → (b : Bool)
        → (if a == 42 then starts_close bytes else false) ≡ b
        → (if b then Some 2 else shifted 1 (comment_end bytes)) ≡ None → (before : List ℕ) → a ∷
        bytes ≡ before ++ (42 ∷ 41 ∷ after) → ⊥
    go again true w h before e = absurd cc
    go again false w h [] e = not_here a bytes after w e
    go again false w h (x ∷ before) e =
        again (shifted_none (comment_end bytes) h) before after (same_tail a x bytes (before ++ (42 ∷ 41 ∷ after)) e)
