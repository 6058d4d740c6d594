-- A slow firmware whose interrupts serve levels is a sound form.
use Rattle.two_level_runs.proofs.Words.{◌*◌, ◌+◌, ◌<◌, ◌^◌, ◌∙◌, ◌≡◌, ◌≤◌, ap, AreBytes, AreInputBytes, AreOpenAlike}
use Rattle.two_level_runs.proofs.Words.{arith, FactsBeside, FastSeen, FastStands, given, inl, is_open_to_fast}
use Rattle.two_level_runs.proofs.Words.{IsGoodLevel, length, Level, two_level_form, List, MemoryMap, OnStackOrNone}
use Rattle.two_level_runs.proofs.Words.{Simulates, Sound, State, stepped, subst, suspended, sym, wav, WritesAgree}
use Rattle.two_level_runs.proofs.Words.{WritesAreQuiet, ℕ}
use Rattle.two_level_runs.proofs.Words.{slow_alone}
use Rattle.run_law.specs.{Soundness.GivenLeavesOwn}
use Rattle.alone_runs.proofs.Algebra.{given_leaves}
use Rattle.std.proofs.{Common.Option}
use Rattle.eval_code.specs.{MemoryMaps.main_map}
use Rattle.byte_scaling.specs.{declared.width.Width.Width, declared.width.Width.TheVariants.Byte, Widths.places}
use Rattle.alone_runs.specs.{Following.IsLow, OpenBytes.StepLeavesOpen}
use Rattle.firmware_code.specs.Arrivals.{LeavesMapped}
use Rattle.alone_runs.specs.SoundAloneProof.{LeavesPorts, given_alike, answered_alike, ended_alike}
use Rattle.two_level_runs.proofs.Bytes.{step_bytes, push_bytes, given_bytes}
use Rattle.two_level_runs.proofs.{Serving.open_apart, Standing.stands}
use Rattle.two_level_runs.proofs.LevelServing.{LevelLaws, Given, few_outputs, serves}

-- the slow firmware's memory map is the one that stands alone, and it answers bytes
map_is : (x : Given) → (slow_alone x.slow x.two).memory_map ≡ main_map
map_is x = let is = x.is_two in let alone = is.alone in let firmware = alone.firmware in firmware.memory_map

width_is : (x : Given) → x.two.firmware.width ≡ Byte
width_is x = let is = x.is_two in let alone = is.alone in alone.width

outputs_few : (x : Given) → x.two.firmware.outputs ≤ 4
outputs_few x =
    let is = x.is_two in
    let alone = is.alone in
    let firmware = alone.firmware in
    let valid = x.slow_valid in
    omega (arith, firmware.outputs, valid.few_outputs)

-- what is open leaves what is read from outside
ports_of : (x : Given) → LeavesMapped is_open_to_fast main_map → LeavesPorts is_open_to_fast (slow_alone x.slow x.two)
ports_of x leaves = record {
  ready = ap (λ (l : MemoryMap). is_open_to_fast l.sample_flag) (map_is x) ∙ leaves.ready;
  outputs = λ at from to. leaves.writes at (inl (
    subst (λ (l : MemoryMap). l.outputs ≤ at) (map_is x) from,
    end at (subst (λ (w : Width). at < main_map.outputs + places w * x.two.firmware.outputs) (width_is x)
        (subst (λ (l : MemoryMap). at < l.outputs + places x.two.firmware.width * x.two.firmware.outputs)
        (map_is x) to)),
  ));
}
  where
    end : (at : ℕ) → at < main_map.outputs + 1 * x.two.firmware.outputs → at < main_map.outputs + 8
    end at l = let few = outputs_few x in omega arith

-- a slow sample leaves the fast code and its answers, and memory one of bytes
pub level_gives : (x : Given) → LeavesMapped is_open_to_fast (slow_alone x.slow x.two).memory_map → (bytes : List ℕ)
    → AreInputBytes x.slow bytes
    → GivenLeavesOwn (two_level_form x.flags x.two x.samples) (FastStands x.fast x.two x.samples) bytes
level_gives x leaves bytes input done w own =
    stands x.fast x.two x.samples done w (given l bytes w) (few_outputs x) alike fit own
  where
    laws : LevelLaws
    laws = x.laws

    l : MemoryMap
    l = (slow_alone x.slow x.two).memory_map

    alike : AreOpenAlike is_open_to_fast w.mem (given l bytes w).mem
    alike =
        given_leaves laws.given_leaves_open is_open_to_fast l (map_is x) leaves x.slow x.slow_valid bytes input w

    inside : (l.samples < 2 ^ 16) × (l.sample_flag < 2 ^ 16)
    inside = subst (λ (m : MemoryMap). (m.samples < 2 ^ 16) × (m.sample_flag < 2 ^ 16)) (sym (map_is x))
        (omega arith, omega arith)

    fit : AreBytes (given l bytes w).mem
    fit = (let b = laws.bytes in given_bytes b.bytes_stay l bytes w inside.0 inside.1 input.fit own.bytes)

pub level_sound : (x : Given) → LeavesMapped is_open_to_fast (slow_alone x.slow x.two).memory_map
    → IsLow (slow_alone x.slow x.two) → WritesAgree → WritesAreQuiet
    → Sound OnStackOrNone is_open_to_fast (two_level_form x.flags x.two x.samples)
    (FactsBeside is_open_to_fast x.flags (slow_alone x.slow x.two))
    (IsGoodLevel (length x.samples)) (FastStands x.fast x.two x.samples)
level_sound x leaves_slow low agree quiet = record {
  apart = open_apart;
  shown = λ s p. (let facts = p.facts in facts.shown);
  gives = λ bytes w s l. given_alike agree is_open_to_fast (slow_alone x.slow x.two) bytes w s l;
  leaves = λ bytes w s l. l;
  answers = λ w s l. answered_alike is_open_to_fast (slow_alone x.slow x.two) ports low w s l;
  ends = λ m w s l. ended_alike is_open_to_fast (slow_alone x.slow x.two) ports low w s l;
  quiet = λ done a v s good p may begins own. serves x done a v s good
      (record { facts = p; begins = begins; stands = own });
  leaves_open = record {
    leaves = λ done bytes w o. o;
    pushes = λ done w s p l o.
        (let shown = (let facts = p.facts in facts.shown) in
        kept done w (suspended wav w) (let left = open_left w s p l in left.pushes)
        (push_bytes laws.bytes is_open_to_fast x.flags w s shown l o.bytes) o);
    steps = λ done w s p l o.
        (let shown = (let facts = p.facts in facts.shown) in
        kept done w (stepped x.flags w) (let left = open_left w s p l in left.steps)
        (step_bytes laws.bytes is_open_to_fast x.flags w s x.flags_fit shown l o.bytes) o);
  };
}
  where
    laws : LevelLaws
    laws = x.laws

    leaves : LeavesMapped is_open_to_fast main_map
    leaves = subst (λ (l : MemoryMap). LeavesMapped is_open_to_fast l) (map_is x) leaves_slow

    ports : LeavesPorts is_open_to_fast (slow_alone x.slow x.two)
    ports = ports_of x leaves

    kept : (done : List (Level × Option FastSeen)) (w u : State) → AreOpenAlike is_open_to_fast w.mem u.mem
        → AreBytes u.mem
        → FastStands x.fast x.two x.samples done w → FastStands x.fast x.two x.samples done u
    kept done w u alike bytes o = stands x.fast x.two x.samples done w u (few_outputs x) alike bytes o

    open_left : (w s : State) → FactsBeside is_open_to_fast x.flags (slow_alone x.slow x.two) s
        → Simulates OnStackOrNone is_open_to_fast w s → StepLeavesOpen is_open_to_fast x.flags w
    open_left w s p l = laws.steps_leave_open is_open_to_fast x.flags (slow_alone x.slow x.two) w s open_apart p l
