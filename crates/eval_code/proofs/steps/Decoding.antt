-- The instructions of the code, from their bytes.
use Rattle.eval_code.proofs.Words.{[], ◌++◌, ◌+◌, ◌<◌, ◌∙◌, ◌∷◌, ◌≡◌, ◌≤◌, AgreeFrom, ap, arith, decode_at}
use Rattle.eval_code.proofs.Words.{DecodesWhereItStands, encode_of, get_or, Instr, length, List, plus, refl, six_from}
use Rattle.eval_code.proofs.Words.{length-append, Ok, stack_end, subst, ℕ}
use Rattle.cpu12_isa.specs.{Fits.EncodedIsShort, Memory.bytes_at, Code.decode_of, Code.Begins, Code.DecodesEncoded}
use Rattle.cpu12_isa.specs.{Code.FitsOperands}
use Rattle.eval_code.specs.{Standing.StandsWhere}
pub use Rattle.cpu12_isa.specs.Code.{code_bytes, FitCode}
use Rattle.eval_code.proofs.steps.Memory.{HasBytes, bytes_front, bytes_back}
use Rattle.eval_code.proofs.Sizes.{code_size}

-- these addresses go up by 1
abbrev GoUpFrom : ℕ → List ℕ → Type 0
GoUpFrom p [] = Unit {0}
GoUpFrom p (at ∷ ats) = (at ≡ p) × GoUpFrom (p + 1) ats

six_go_up : (p : ℕ) → p + 6 < 65536 → GoUpFrom p (six_from p)
six_go_up p h = (refl, (omega arith, (omega arith, (omega arith, (omega arith, (omega arith, tt))))))

-- what stands from a place on is read at such addresses
begins : (m : List ℕ) (p : ℕ) (ats bytes : List ℕ) → GoUpFrom p ats → length bytes ≤ length ats → HasBytes m p bytes
    → Begins (bytes_at m ats) bytes
begins m p ats [] up short h = tt
begins m p [] (b ∷ bytes) up short h = absurd (omega arith)
begins m p (at ∷ ats) (b ∷ bytes) up short h =
    (ap (λ (k : ℕ). get_or m k 0) up.0 ∙ h.0, begins m (p + 1) ats bytes up.1 (omega arith) h.1)

-- an instruction whose bytes stand at a place is decoded there
pub decodes_where_it_stands : DecodesEncoded → EncodedIsShort → DecodesWhereItStands
decodes_where_it_stands decodes short m p i fits room h =
    decodes m p i fits (begins m p (six_from p) (encode_of i) (six_go_up p room) (short i) h)

pub fit_append : (a b : List Instr) → FitCode a → FitCode b → FitCode (a ++ b)
fit_append [] b u v = v
fit_append (i ∷ a) b u v = (u.0, fit_append a b u.1 v)

-- the front and the back of code that stands
pub stands_front : (H : ℕ → Instr → Type 0) (p : ℕ) (a b : List Instr) → StandsWhere H p (a ++ b) → StandsWhere H p a
stands_front H p [] b h = tt
stands_front H p (i ∷ a) b h = (h.0, stands_front H (p + length (encode_of i)) a b h.1)

pub stands_back : (H : ℕ → Instr → Type 0) (p : ℕ) (a b : List Instr) → StandsWhere H p (a ++ b)
    → StandsWhere H (p + code_size a) b
stands_back H p [] b h = let e : p ≡ p + 0 = omega arith in subst (λ n. StandsWhere H n b) e h
stands_back H p (i ∷ a) b h =
    let e : p + length (encode_of i) + code_size a ≡ p + code_size (i ∷ a) = omega arith in
    subst (λ n. StandsWhere H n b) e (stands_back H (p + length (encode_of i)) a b h.1)

-- code stands where its bytes do, with six bytes behind it that are fetched
pub instructions_stand : DecodesWhereItStands → (H : ℕ → Instr → Type 0) (m : List ℕ) (p end : ℕ) (is : List Instr)
    → end < 65536
    → ((at : ℕ) (i : Instr) → p ≤ at → at + 6 ≤ end → FitsOperands i → decode_at m at ≡ Ok i → H at i)
    → FitCode is → HasBytes m p (code_bytes is) → p + length (code_bytes is) + 6 ≤ end → StandsWhere H p is
instructions_stand decodes H m p end [] high here u h room = tt
instructions_stand decodes H m p end (i ∷ is) high here u h room =
    let size = length-append (encode_of i) (code_bytes is) in (
      here p i (omega arith) (omega arith) u.0
          (decodes m p i u.0 (omega arith) (bytes_front m p (encode_of i) (code_bytes is) h)),
      instructions_stand decodes H m (p + length (encode_of i)) end is high (λ at j lo. here at j (omega arith)) u.1
          (bytes_back m p (encode_of i) (code_bytes is) h) (omega arith),
    )

-- the same instruction stands in memory
six : (m : List ℕ) (p : ℕ) (a b d e f g : ℕ) → get_or m p 0 ≡ a → get_or m (plus p 1) 0 ≡ b → get_or m (plus p 2) 0 ≡ d
    → get_or m (plus p 3) 0 ≡ e → get_or m (plus p 4) 0 ≡ f → get_or m (plus p 5) 0 ≡ g
    → bytes_at m (six_from p) ≡ a ∷ b ∷ d ∷ e ∷ f ∷ g ∷ []
six m p a b d e f g h1 h2 h3 h4 h5 h6 = cc

pub decode_same : (m n : List ℕ) (p : ℕ) → 0x2000 ≤ p → p + 6 < 65536 → AgreeFrom stack_end m n
    → decode_at n p ≡ decode_at m p
decode_same m n p lo hi h =
    let at : (k : ℕ) → k ≤ 5 → get_or n (plus p k) 0 ≡ get_or m (plus p k) 0 = λ k l. h (plus p k) (omega arith) in
    ap decode_of (six n p _ _ _ _ _ _ (h p lo) (at 1 (omega arith)) (at 2 (omega arith)) (at 3 (omega arith))
    (at 4 (omega arith)) (at 5 (omega arith)))
