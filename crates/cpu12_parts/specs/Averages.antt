-- What WAV makes of whole lists (CPU12 Reference Manual, section 9.6).
-- Beside the promise.
use Rattle.std.specs.Prelude.{ℕ, ◌+◌, ◌*◌, ◌%◌, ◌^◌, List, [], ◌∷◌, ◌++◌}
use Rattle.cpu12_isa.specs.{declared.instr.Regs.Regs, Memory.plus, Memory.from, Memory.bytes_at}
use Rattle.cpu12_parts.specs.{declared.temps.Temps.TheVariants.Free, State.State, Parts.wav_end}

-- the sum of the products of two lists
abbrev pub dot : List ℕ → List ℕ → ℕ
dot [] vs = 0
dot (u ∷ us) [] = 0
dot (u ∷ us) (v ∷ vs) = u * v + dot us vs

-- the sum of a list
abbrev pub total : List ℕ → ℕ
total [] = 0
total (v ∷ vs) = v + total vs

-- the bytes at X and at Y, B of each
abbrev pub wav_read : Regs → List ℕ
wav_read r = from r.x r.b ++ from r.y r.b

-- WAV at once
abbrev pub wav_whole : ℕ → Regs → List ℕ → State
wav_whole flags r mem =
    let us = bytes_at mem (from r.x r.b) in
    let vs = bytes_at mem (from r.y r.b) in
    record { regs = wav_end flags r (dot us vs % 2 ^ 32) (total vs % 2 ^ 16) (plus r.pc 1); temps = Free; mem = mem }
