-- What an outer interrupt writes as it enters the fast code.
use Rattle.two_level_runs.proofs.Words.{[], ◌%◌, ◌+◌, ◌<◌, ◌^◌, ◌∙◌, ◌∷◌, ◌≡◌, ◌≤◌, ◌⊎◌, arith, bytes_at, fast_map}
use Rattle.two_level_runs.proofs.Words.{frame_bytes, from, inl, inr, IsWritten, length, List, placed, plus}
use Rattle.two_level_runs.proofs.Words.{slice_index, State, subst, write_all, WritesStay, ℕ}
use Rattle.std.proofs.{Common.set, Common.get_or-set_same}
use Rattle.std.proofs.lemmas.List.{length-set}
use Rattle.cpu12_isa.proofs.Algebra.{read_placed, bytes_unwritten}
use Rattle.eval_code.specs.Evaluation.{HasBytes}
use Rattle.run_forms.proofs.Algebra.{placed_in}

-- memory in which the frame is pushed, and that in which the sample's bytes are written too
abbrev pub framed_mem : State → List ℕ
framed_mem v = write_all (placed (plus v.regs.sp 65527) (frame_bytes v.regs)) v.mem

abbrev pub entered_mem : List ℕ → State → List ℕ
entered_mem bytes v = write_all (placed fast_map.inputs bytes) (framed_mem v)

-- SP below the frame
pub frame_at : (sp : ℕ) → 0x1FF8 ≤ sp → sp ≤ 0x2000 → plus sp 65527 + 9 ≡ sp
frame_at sp lo hi = omega arith

-- a byte that is neither the frame's nor the sample's
pub stays : WritesStay → (bytes : List ℕ) (v : State) (at : ℕ) → length bytes ≤ 8 → 0x1FF8 ≤ v.regs.sp
    → v.regs.sp ≤ 0x2000
    → (at < 0x1401) ⊎ (0x1409 ≤ at) → (at < plus v.regs.sp 65527) ⊎ (v.regs.sp ≤ at)
    → slice_index (entered_mem bytes v) at ≡ slice_index v.mem at
stays stay bytes v at few lo hi out away =
    (stay (placed fast_map.inputs bytes) (framed_mem v)).1 at (not_sample out)
    ∙ (stay (placed (plus v.regs.sp 65527) (frame_bytes v.regs)) v.mem).1 at (not_frame away)
  where
    not_sample : (at < 0x1401) ⊎ (0x1409 ≤ at) → IsWritten (placed fast_map.inputs bytes) at → ⊥
    not_sample (inl l) w =
        (let r = placed_in bytes fast_map.inputs at (omega arith) w in absurd (omega (arith, r.0)))
    not_sample (inr l) w =
        (let r = placed_in bytes fast_map.inputs at (omega arith) w in absurd (omega (arith, r.1)))

    end : plus v.regs.sp 65527 + 9 ≡ v.regs.sp
    end = frame_at v.regs.sp lo hi

    not_frame : (at < plus v.regs.sp 65527) ⊎ (v.regs.sp ≤ at)
        → IsWritten (placed (plus v.regs.sp 65527) (frame_bytes v.regs)) at → ⊥
    not_frame (inl l) w =
        (let r = placed_in (frame_bytes v.regs) (plus v.regs.sp 65527) at (omega (arith, end)) w in
        absurd (omega (arith, r.0)))
    not_frame (inr l) w =
        (let r = placed_in (frame_bytes v.regs) (plus v.regs.sp 65527) at (omega (arith, end)) w in
        absurd (omega (arith, r.1, end)))

pub size_stays : WritesStay → (bytes : List ℕ) (v : State) → length (entered_mem bytes v) ≡ length v.mem
size_stays stay bytes v =
    (stay (placed fast_map.inputs bytes) (framed_mem v)).0
    ∙ (stay (placed (plus v.regs.sp 65527) (frame_bytes v.regs)) v.mem).0

-- the frame is read again
pub frame_read : WritesStay → (bytes : List ℕ) (v : State) → length v.mem ≡ 65536 → length bytes ≤ 8
    → 0x1FF8 ≤ v.regs.sp
    → v.regs.sp ≤ 0x2000 → bytes_at (entered_mem bytes v) (from (plus v.regs.sp 65527) 9) ≡ frame_bytes v.regs
frame_read stay bytes v size few lo hi =
    bytes_unwritten (placed fast_map.inputs bytes) (framed_mem v) 9 (plus v.regs.sp 65527) (omega arith) away
    ∙ read_placed (frame_bytes v.regs) (plus v.regs.sp 65527) v.mem (omega arith) (omega arith) size
  where
    away : (k : ℕ) → k < 9 → IsWritten (placed fast_map.inputs bytes) ((plus v.regs.sp 65527 + k) % 2 ^ 16) → ⊥
    away k l w =
        (let r = placed_in bytes fast_map.inputs ((plus v.regs.sp 65527 + k) % 2 ^ 16) (omega arith) w in
        absurd (omega (arith, r.1)))

-- and so are the sample's bytes
pub sample_read : WritesStay → (vs : List ℕ) (p : ℕ) (m : List ℕ) → length m ≡ 65536 → p + length vs ≤ 0x2000
    → HasBytes (write_all (placed p vs) m) p vs
sample_read stay [] p m size l = tt
sample_read stay (v ∷ vs) p m size l =
    let up : plus p 1 ≡ p + 1 = omega arith in
    let apart : IsWritten (placed (plus p 1) vs) p → ⊥ =
    λ w. (let r = placed_in vs (plus p 1) p (omega arith) w in absurd (omega (arith, r.0))) in
    let head = (stay (placed (plus p 1) vs) (set m p v)).1 p apart ∙ get_or-set_same m p v 0 (omega arith) in
    let rest = sample_read stay vs (plus p 1) (set m p v) (length-set m p v ∙ size) (omega arith) in
    (head, subst (λ (n : ℕ). HasBytes (write_all (placed (plus p 1) vs) (set m p v)) n vs) up rest)
