-- The fast code and its answers stand where no open byte changes.
use Rattle.two_level_runs.proofs.Words.{◌*◌, ◌+◌, ◌-◌, ◌<◌, ◌∙◌, ◌≡◌, ◌≤◌, ap₂, AreBytes, AreOpenAlike, arith, Block}
use Rattle.two_level_runs.proofs.Words.{Byte, false, fast_map, FastSeen, FastStands, HasAnswers, HasFastCode}
use Rattle.two_level_runs.proofs.Words.{joint_memory, is_fast_ram, is_fast_rom, is_free, is_open_to_fast, length}
use Rattle.two_level_runs.proofs.Words.{Level, List, nat_tests, outputs_after, refl, State, true, Two, word_of, ℕ}
use Rattle.std.proofs.{Common.Option}

-- the fast block's ROM and RAM are open
pub rom_open : (at : ℕ) → 0x4000 ≤ at → at < 0x7F00 → is_open_to_fast at ≡ true
rom_open at lo hi =
    let a : is_free at ≡ false = grind (arith, nat_tests) in
    let b : is_fast_ram at ≡ false = grind (arith, nat_tests) in
    let c : is_fast_rom at ≡ true = grind (arith, nat_tests) in
    rw (a, b, c) refl

pub ram_open : (at : ℕ) → 0x1400 ≤ at → at < 0x162C → is_open_to_fast at ≡ true
ram_open at lo hi =
    let a : is_free at ≡ false = grind (arith, nat_tests) in
    let b : is_fast_ram at ≡ true = grind (arith, nat_tests) in
    rw (a, b) refl

-- what stands there stays
pub code_stays : (image m n : List ℕ) → AreOpenAlike is_open_to_fast m n → HasFastCode image m → HasFastCode image n
code_stays image m n alike h = record {
  rom = λ at lo hi. alike at (rom_open at lo hi) ∙ h.rom at lo hi;
  enters = ap₂ word_of (alike 65522 refl) (alike 65523 refl) ∙ h.enters;
}

pub outputs_stay : (b : Block) (answers : ℕ → ℕ) (m n : List ℕ) → length b.outputs ≤ 8
    → AreOpenAlike is_open_to_fast m n → HasAnswers fast_map b Byte answers m
    → HasAnswers fast_map b Byte answers n
outputs_stay b answers m n few alike h o from to =
    let at = fast_map.outputs + 1 * (o - 1) in
    let r = h o from to in
    (alike at (ram_open at (omega arith) (omega arith)) ∙ r.0, tt)

pub stands : (b : Block) (two : Two) (fast : List (List ℕ)) (done : List (Level × Option FastSeen))
    (w u : State) → length b.outputs ≤ 8 → AreOpenAlike is_open_to_fast w.mem u.mem → AreBytes u.mem
    → FastStands b two fast done w → FastStands b two fast done u
stands b two fast done w u few alike bytes h = record {
  bytes = bytes;
  code = code_stays (joint_memory two) w.mem u.mem alike h.code;
  outputs = outputs_stay b (outputs_after b fast done) w.mem u.mem few alike h.outputs;
  answers = h.answers;
  good = h.good;
}
