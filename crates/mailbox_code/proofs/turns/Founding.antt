-- The mailbox form's code stands in its memory.
use Rattle.mailbox_code.proofs.Words.{[], ℕ, ◌*◌, ◌++◌, ◌+◌, ◌-◌, ◌<◌, ◌^◌, ◌∙◌, ◌∷◌, ◌≡◌, ◌≤◌, ap, ap₂, arith, Beq}
use Rattle.mailbox_code.proofs.Words.{Block, Bra, call_code, copy_code, HasBytes, Here, inr, Instr, IsApart, IsRising}
use Rattle.mailbox_code.proofs.Words.{IsValid, IsWithinLimits, JsrExtended, LdaaExtended, length, List, mailbox_code}
use Rattle.mailbox_code.proofs.Words.{mailbox_items, mailbox_map, MovbExtended, Orcc, refl, subst, suc}
use Rattle.mailbox_code.proofs.Words.{Width, zero}
use Rattle.eval_code.specs.Placed.{BlockIsShort, BlockRises, IsInOrder}
use Rattle.eval_code.proofs.Algebra.{bytes_back, bytes_front, length-code_bytes, code_size, code_size-append}
use Rattle.eval_code.proofs.Algebra.{fit_append, stands_back}
use Rattle.cpu12_isa.specs.Code.{code_bytes, encode_of, FitCode}
use Rattle.firmware_code.specs.Calls.{IsInCode}
use Rattle.firmware_code.specs.Frames.{IsStarted, start_code}
use Rattle.cpu12_isa.specs.declared.instr.Instr.TheVariants.{Rts}
use Rattle.firmware_code.proofs.Algebra.{whole_rises, whole_is_short}
use Rattle.mailbox_code.proofs.turns.Posting.{Post, HasTurn, free_ctx, post_ctx}

-- one copy more
pub copy_more : (from to n : ℕ)
    → copy_code from to (suc n) ≡ copy_code from to n ++ MovbExtended (from + n) (to + n) ∷ []
copy_more from to zero =
    let a : from ≡ from + 0 = omega arith in
    let b : to ≡ to + 0 = omega arith in
    ap₂ (λ (x y : ℕ). MovbExtended x y ∷ []) a b
copy_more from to (suc n) =
    let a : from + 1 + n ≡ from + suc n = omega arith in
    let b : to + 1 + n ≡ to + suc n = omega arith in
    ap (λ (is : List Instr). MovbExtended from to ∷ is)
    (copy_more (from + 1) (to + 1) n
    ∙ ap₂ (λ (x y : ℕ). copy_code (from + 1) (to + 1) n ++ MovbExtended x y ∷ []) a b)

-- six bytes a copy
code_size-copy : (from to n : ℕ) → code_size (copy_code from to n) ≡ 6 * n
code_size-copy from to zero = refl
code_size-copy from to (suc n) = omega (arith, code_size-copy (from + 1) (to + 1) n)

pub code_size-mailbox : (n : ℕ) → code_size (mailbox_code (mailbox_map n) n) ≡ 26 + 6 * n
code_size-mailbox n =
    omega (
      arith,
      code_size-append (copy_code 0x1020 0x1001 n) (call_code (mailbox_map n) n),
      code_size-copy 0x1020 0x1001 n,
    )

-- the memory map
pub mailbox_apart : (n : ℕ) → n ≤ 8 → IsApart (mailbox_map n)
mailbox_apart n few = record {
  inputs = omega arith;
  outputs = omega arith;
  slots = omega arith;
  eval = omega arith;
  eval_end = omega arith;
  tables = omega arith;
  tables_end = omega arith;
  singletons = omega arith;
  singletons_end = omega arith;
  weights = omega arith;
  weights_end = omega arith;
  rules = omega arith;
  rules_end = omega arith;
}

pub mailbox_started : (n : ℕ) → IsStarted (mailbox_map n)
mailbox_started n = record
    { low = omega arith; high = omega arith; wait = refl; ready = omega arith; apart = inr (omega arith) }

pub mailbox_inside : (n : ℕ) → n ≤ 8 → IsInCode (mailbox_map n)
mailbox_inside n few = record { from = omega arith; to = omega arith }

pub mailbox_in_order : (n : ℕ) → n ≤ 8 → IsInOrder (mailbox_map n) (mailbox_code (mailbox_map n) n) (Rts ∷ [])
mailbox_in_order n few =
    let size = length-code_bytes (mailbox_code (mailbox_map n) n) ∙ code_size-mailbox n in
    record {
      eval = omega arith;
      code = omega arith;
      tables = omega arith;
      singletons = omega arith;
      weights = omega arith;
      rules = omega arith;
    }

-- its items can be placed, and are few
pub mailbox_rises : BlockRises → (b : Block) (w : Width) → IsValid b → IsWithinLimits b
    → IsRising (mailbox_items (mailbox_map (length b.inputs)) b w)
mailbox_rises rises b w v limits =
    let n = length b.inputs in
    let l = mailbox_map n in
    whole_rises rises l b w (mailbox_code l n) (Rts ∷ []) (mailbox_in_order n v.few_inputs) v limits (omega arith)

pub length-mailbox_items : BlockIsShort → (b : Block) (w : Width) → IsValid b → IsWithinLimits b
    → length (mailbox_items (mailbox_map (length b.inputs)) b w) < 2 ^ 32
length-mailbox_items short b w v limits =
    let n = length b.inputs in
    let l = mailbox_map n in
    let few = v.few_inputs in
    let size = length-code_bytes (mailbox_code l n) ∙ code_size-mailbox n in
    whole_is_short short l b w (mailbox_code l n) (Rts ∷ []) v limits (omega arith)

-- the operands fit
fit_copy : (from to n : ℕ) → from + n < 2 ^ 16 → to + n < 2 ^ 16 → FitCode (copy_code from to n)
fit_copy from to zero f t = tt
fit_copy from to (suc n) f t =
    ((omega arith, omega arith), fit_copy (from + 1) (to + 1) n (omega arith) (omega arith))

fit_call : (n : ℕ) → n ≤ 8 → FitCode (call_code (mailbox_map n) n)
fit_call n few = (omega arith, (omega arith, (omega arith, (omega arith, (tt, tt)))))

abbrev turn_code : ℕ → List Instr
turn_code n = Beq 0xFB ∷ Orcc 0x10 ∷ (copy_code 0x1020 0x1001 n ++ call_code (mailbox_map n) n)

fit_turn : (n : ℕ) → n ≤ 8 → FitCode (turn_code n)
fit_turn n few = (
  omega arith,
  (
    omega arith,
    fit_append (copy_code 0x1020 0x1001 n) (call_code (mailbox_map n) n)
        (fit_copy 0x1020 0x1001 n (omega arith) (omega arith)) (fit_call n few),
  ),
)

pub fit_mailbox : (n : ℕ) → n ≤ 8 → FitCode (mailbox_code (mailbox_map n) n)
fit_mailbox n few = (omega arith, (omega arith, (omega arith, (omega arith, fit_turn n few))))

-- the code of a turn
pub start_bytes : (p : Post) → HasBytes p.image 0xC000 (code_bytes (mailbox_code (mailbox_map p.n) p.n))
    → HasBytes p.image 0xC000 (code_bytes (start_code (mailbox_map p.n)))
start_bytes p h = bytes_front p.image 0xC000 (code_bytes (start_code (mailbox_map p.n)))
    (code_bytes (LdaaExtended 0x1028 ∷ turn_code p.n)) h

pub has_turn : (p : Post) → HasBytes p.image 0xC000 (code_bytes (mailbox_code (mailbox_map p.n) p.n)) → HasTurn p
has_turn p h =
    let few = p.few in
    let h1 : HasBytes p.image 0xC008 (code_bytes (LdaaExtended 0x1028 ∷ turn_code p.n)) =
    bytes_back p.image 0xC000 (code_bytes (start_code (mailbox_map p.n)))
    (code_bytes (LdaaExtended 0x1028 ∷ turn_code p.n)) h in
    let h2 : HasBytes p.image 0xC00B (code_bytes (turn_code p.n)) =
    bytes_back p.image 0xC008 (encode_of (LdaaExtended 0x1028)) (code_bytes (turn_code p.n)) h1 in
    let size : length (code_bytes (turn_code p.n)) ≡ 15 + 6 * p.n =
    omega (
      arith,
      length-code_bytes (copy_code 0x1020 0x1001 p.n ++ call_code (mailbox_map p.n) p.n),
      code_size-append (copy_code 0x1020 0x1001 p.n) (call_code (mailbox_map p.n) p.n),
      code_size-copy 0x1020 0x1001 p.n,
    ) in
    record {
      look = p.laws.decodes p.image 0xC008 (LdaaExtended 0x1028) (omega arith) (omega arith)
          (bytes_front p.image 0xC008 (encode_of (LdaaExtended 0x1028)) (code_bytes (turn_code p.n)) h1);
      rest = p.laws.stand (free_ctx p) 0xC00B (turn_code p.n) (fit_turn p.n p.few) h2 (omega arith) (omega arith)
          (omega arith);
    }

-- the call and the way back
here_too : (p : Post) (at q : ℕ) (i : Instr) → at ≡ q → Here (free_ctx p) at i → Here (post_ctx p) q i
here_too p at q i e h =
    let again : Here (post_ctx p) at i =
    record { from = h.from; to = h.to; high = h.high; off = h.off; fits = h.fits; decoded = h.decoded } in
    subst (λ (k : ℕ). Here (post_ctx p) k i) e again

pub record HasCall (p : Post) : Type 0 where
  pub call : Here (post_ctx p) (0xC014 + 6 * p.n) (JsrExtended (0xC01A + 6 * p.n))
  pub back : Here (post_ctx p) (0xC017 + 6 * p.n) (Bra (239 - 6 * p.n))

pub has_call : (p : Post) → HasTurn p → HasCall p
has_call p h =
    let size = code_size-copy 0x1020 0x1001 p.n in
    let k = stands_back (Here (free_ctx p)) 0xC00F (copy_code 0x1020 0x1001 p.n) (call_code (mailbox_map p.n) p.n)
    h.rest.1.1 in
    record {
      call = here_too p (0xC00F + code_size (copy_code 0x1020 0x1001 p.n) + 3 + 2) (0xC014 + 6 * p.n)
          (JsrExtended (0xC01A + 6 * p.n)) (omega arith) k.1.1.0;
      back = here_too p (0xC00F + code_size (copy_code 0x1020 0x1001 p.n) + 3 + 2 + 3) (0xC017 + 6 * p.n)
          (Bra (239 - 6 * p.n)) (omega arith) k.1.1.1.0;
    }
