-- Where a run begins whose interrupts run code.
use Rattle.std.proofs.Common.{◌≡◌, ◌≢◌, ℕ, ◌+◌, ◌*◌, ◌^◌, ◌<◌, ◌≤◌, ◌⊎◌, inl, inr, Bool, false, cond, Option}
use Rattle.std.proofs.Common.{Some, None, List, [], ◌++◌, get_or, refl, ap, ap₂, sym, ◌∙◌, subst, arith, nat_cmp}
use Rattle.std.specs.BTreeMap.{is_at}
use Rattle.std.proofs.lemmas.Bool.{both_ways, cases_lt}
use Rattle.std.proofs.lemmas.List.{get_or_past}
use Rattle.cpu12_isa.specs.Agreement.{Agree}
use Rattle.cpu12_asm.specs.Bytes.{byte_at}
use Rattle.cpu12_asm.proofs.Algebra.{or_else, byte_at-append, is_at-other}
use Rattle.cpu12_parts.specs.State.{State}
use Rattle.cpu12_emul.specs.Image.{byte_or_zero, image_memory, HoldsImage, ImagesLoadAlike}
use Rattle.handler_check.specs.{Images.IsWhole, Running.HasImage}
use Rattle.firmware_code.specs.{declared.firmware.Firmware.Firmware, Arrivals.LeavesMapped}
use Rattle.eval_code.specs.{MemoryMaps.main_map, Evaluation.Reads, Evaluation.Writes}
use Rattle.alone_runs.specs.Answering.{FirstAlike}
use Rattle.handled_runs.specs.{Open.is_open_to_code, Joint.joint_bytes, Joint.joint_memory}
use Rattle.handled_runs.specs.SoundHandledProof.{not_open, code_open, in_code, HandlerStands}

-- what is open leaves the memory map alone
code_read : (at : ℕ) → Reads main_map at → is_open_to_code at ≡ false
code_read at (inl o) = not_open at (inl (omega (arith, o.1)))
code_read at (inr (inl o)) = not_open at (inl (omega (arith, o.1)))
code_read at (inr (inr (inl o))) = not_open at (inr (inr (inl (omega (arith, o.0), omega (arith, o.1)))))
code_read at (inr (inr (inr (inl o)))) = not_open at (inr (inr (inl (omega (arith, o.0), omega (arith, o.1)))))
code_read at (inr (inr (inr (inr (inl o))))) = not_open at (inr (inr (inl (omega (arith, o.0), omega (arith, o.1)))))
code_read at (inr (inr (inr (inr (inr (inl o)))))) =
    not_open at (inr (inr (inl (omega (arith, o.0), omega (arith, o.1)))))
code_read at (inr (inr (inr (inr (inr (inr o)))))) = absurd o

code_written : (at : ℕ) → Writes main_map at → is_open_to_code at ≡ false
code_written at (inl o) = not_open at (inl (omega (arith, o.1)))
code_written at (inr (inl o)) = not_open at (inl (omega (arith, o.1)))
code_written at (inr (inr o)) = absurd o

pub code_leaves : LeavesMapped is_open_to_code main_map
code_leaves = record {
  ready = refl;
  reads = code_read;
  writes = code_written;
  stack = λ at from to. not_open at (inr (inl (from, omega arith)));
  code = λ at from to. not_open at (inr (inr (inl (omega arith, omega arith))));
  reset = λ at from to. not_open at (inr (inr (inr (omega arith))));
}

-- the joint image's bytes
behind_vector : (firmware handler : List (ℕ × ℕ)) (at : ℕ) → 65522 ≢ at → 65523 ≢ at
    → byte_at (joint_bytes firmware handler) at ≡ or_else (byte_at handler at) (byte_at firmware at)
behind_vector firmware handler at a b =
    let rest = handler ++ firmware in
    ap (λ (t : Bool). cond t (Some 64) (cond (is_at (nat_cmp at) 65523) (Some 0) (byte_at rest at)))
    (is_at-other at 65522 (λ e. a (sym e)))
    ∙ ap (λ (t : Bool). cond t (Some 0) (byte_at rest at)) (is_at-other at 65523 (λ e. b (sym e)))
    ∙ byte_at-append at handler firmware

-- beside handlers with the same bytes it is the same memory
pub joint_alike : ImagesLoadAlike → (firmware handler other : List (ℕ × ℕ))
    → ((at : ℕ) → byte_at handler at ≡ byte_at other at)
    → joint_memory firmware handler ≡ joint_memory firmware other
joint_alike loads firmware handler other same =
    loads (joint_bytes firmware handler) (joint_bytes firmware other) (λ at.
    ap (λ (o : Option ℕ). cond (is_at (nat_cmp at) 65522) (Some 64) (cond (is_at (nat_cmp at) 65523) (Some 0) o))
    (byte_at-append at handler firmware ∙ ap (λ (o : Option ℕ). or_else o (byte_at firmware at)) (same at)
    ∙ sym (byte_at-append at other firmware)))

-- at a place that is not open it has the firmware's
none_shown : (handler : List (ℕ × ℕ)) (at : ℕ) → IsWhole handler → is_open_to_code at ≡ false
    → byte_at handler at ≡ None
none_shown handler at w shown = by (byte_at handler at) refl
  where
    by : (o : Option ℕ) → byte_at handler at ≡ o → byte_at handler at ≡ None
    by None e = e
    by (Some v) e = let r = in_code handler at v w e in absurd (both_ways (is_open_to_code at) shown (code_open at r.0 r.1))

not_vector : (at : ℕ) → is_open_to_code at ≡ false → (65522 ≢ at) × (65523 ≢ at)
not_vector at shown = (λ e. first e, λ e. second e)
  where
    first : 65522 ≡ at → ⊥
    first e = let t : is_open_to_code 65522 ≡ false = subst (λ (k : ℕ). is_open_to_code k ≡ false) (sym e) shown in cc

    second : 65523 ≡ at → ⊥
    second e = let t : is_open_to_code 65523 ≡ false = subst (λ (k : ℕ). is_open_to_code k ≡ false) (sym e) shown in cc

pub joint_agrees : HoldsImage → (firmware handler : List (ℕ × ℕ)) → IsWhole handler
    → Agree is_open_to_code (joint_memory firmware handler) (image_memory firmware)
joint_agrees holds firmware handler w =
    let a = holds (joint_bytes firmware handler) in
    let b = holds firmware in
    record { size = a.0 ∙ sym b.0; bytes = λ at shown. each at shown (cases_lt at 65536) }
  where
    each : (at : ℕ) → is_open_to_code at ≡ false → (at < 65536) ⊎ (65536 ≤ at)
        → get_or (joint_memory firmware handler) at 0 ≡ get_or (image_memory firmware) at 0
    each at shown (inl lt) =
        let a = holds (joint_bytes firmware handler) in
        let b = holds firmware in
        let v = not_vector at shown in
        a.1 at lt ∙ ap byte_or_zero
        (behind_vector firmware handler at v.0 v.1
        ∙ ap (λ (o : Option ℕ). or_else o (byte_at firmware at)) (none_shown handler at w shown)) ∙ sym (b.1 at lt)
    each at shown (inr ge) =
        let a = holds (joint_bytes firmware handler) in
        let b = holds firmware in
        let sa = a.0 in
        let sb = b.0 in
        get_or_past (joint_memory firmware handler) at 0 (omega arith)
        ∙ sym (get_or_past (image_memory firmware) at 0 (omega arith))

-- the handler's bytes stand in it
pub joint_has : HoldsImage → (firmware handler : List (ℕ × ℕ)) → IsWhole handler
    → HasImage handler (joint_memory firmware handler)
joint_has holds firmware handler w =
    let a = holds (joint_bytes firmware handler) in
    record {
      vector = ap₂ (λ (x y : ℕ). x * 2 ^ 8 + y) (a.1 65522 (omega arith)) (a.1 65523 (omega arith));
      bytes = λ at byte e.
          (let r = in_code handler at byte w e in
          let hi = r.1 in
          a.1 at (omega arith)
          ∙ ap byte_or_zero (behind_vector firmware handler at (λ z. omega arith) (λ z. omega arith)
          ∙ ap (λ (o : Option ℕ). or_else o (byte_at firmware at)) e));
    }

-- the handler stands in the first state
pub first_stands : (f : Firmware) (flags : ℕ) (handler : List (ℕ × ℕ)) (most : ℕ) (mem : List ℕ) (w : State)
    → IsWhole handler → FirstAlike is_open_to_code f flags mem w
    → HasImage handler mem → HandlerStands handler most [] w
first_stands f flags handler most mem w whole h has = record {
  image = record {
    vector = ap₂ (λ (x y : ℕ). x * 2 ^ 8 + y) (h.open_bytes 65522 refl) (h.open_bytes 65523 refl) ∙ has.vector;
    bytes = λ at byte e.
        (let r = in_code handler at byte whole e in h.open_bytes at (code_open at r.0 r.1) ∙ has.bytes at byte e);
  };
  back = λ k x lt. absurd (omega arith);
}
