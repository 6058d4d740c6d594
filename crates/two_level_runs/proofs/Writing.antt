-- The writes of a sample's bytes, and the bytes of its answers, one after the other.
use Rattle.two_level_runs.proofs.Words.{[], ◌++◌, ◌∙◌, ◌∷◌, ◌≡◌, ap, arith, Byte, bytes_at, drop, entered, fast_map}
use Rattle.two_level_runs.proofs.Words.{from, length, List, pairs_of, placed, plus, refl, slice_index, State, suc}
use Rattle.two_level_runs.proofs.Words.{suspended, sym, take, wav, write_all, zero, ℕ}
use Rattle.std.proofs.{Common.append-nil}
use Rattle.firmware_runs.specs.Ports.{answers_at}
use Rattle.cpu12_emul.specs.{Take.pushed, Take.vectored}
use Rattle.std.proofs.lemmas.List.{drop_all}
use Rattle.cpu12_isa.specs.declared.instr.Write.{Write}
use Rattle.cpu12_emul.specs.Take as take

-- what enters the fast code with these writes enters it with the bytes that they put
pub entered_with : (ws : List Write) (bytes : List ℕ) (k next : ℕ) (s : State) → k ≡ length bytes
    → pairs_of (take k ws) ++ placed next (drop k bytes) ≡ placed fast_map.inputs bytes
    → take.entered (take (length bytes) ws) s ≡ entered bytes (suspended wav s)
entered_with ws bytes k next s all pairs =
    let v : State = pushed (suspended wav s) in
    let none : drop k bytes ≡ [] = drop_all k bytes (omega arith) in
    let put : pairs_of (take (length bytes) ws) ≡ placed fast_map.inputs bytes =
    ap (λ j. pairs_of (take j ws)) (sym all) ∙ sym (append-nil (pairs_of (take k ws)))
    ∙ ap (λ l. pairs_of (take k ws) ++ placed next l) (sym none) ∙ pairs in
    ap (λ (ps : List (ℕ × ℕ)). vectored (record v { mem = write_all ps v.mem })) put

-- narrow answers are the bytes there
pub answers_at-narrow : (n at : ℕ) (mem : List ℕ) → answers_at Byte n at mem ≡ bytes_at mem (from at n)
answers_at-narrow zero at mem = refl
answers_at-narrow (suc n) at mem =
    ap (λ (vs : List ℕ). slice_index mem at ∷ vs) (answers_at-narrow n (plus at 1) mem)
