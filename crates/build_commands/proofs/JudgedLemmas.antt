-- Contents of each command make an output, or they are refused.
use Rattle.std.proofs.Common.{◌≡◌, ℕ, zero, suc, refl, arith, Bool, false, inl, inr}
use Rattle.std.specs.Prelude.{Result, Ok, Err, true}
use Rattle.command_parts.proofs.Algebra.{records_carry, result_of}
use Rattle.command_parts.specs.Judged.{BlocksAreJudged, CertsAreJudged, FirmwaresAreJudged, HalvingsAreJudged}
use Rattle.command_parts.specs.Judged.{HandlersAreJudged, HasResult, TwosAreJudged}
use Rattle.command_parts.specs.{Firmwares.GivesFirmware, Firmwares.firmware_in, Handlers.handler_in}
use Rattle.command_parts.specs.{Readings.last, Twos.twos_in}
use Rattle.cpu12_asm.specs.declared.image.Image.{Image}
use Rattle.cpu12_emul.specs.{Image.image_memory, Run.EndsRun, Run.is_at_rest, Step.Next, Step.next_of, Step.reset_with}
use Rattle.cpu12_emul.specs.declared.ends.RunEnd.{RunEnd}
use Rattle.cpu12_emul.specs.declared.ends.RunEnd.TheVariants as end
use Rattle.cpu12_parts.specs.State.{State}
use Rattle.fz_status.specs.declared.status.ImageFault.TheVariants as image
use Rattle.fz_status.specs.declared.status.Status.TheVariants as status
use Rattle.srecord.specs.{Laws.EachTextIsJudged as RecordsAreJudged, Texts.GivesImage}
use Rattle.build_commands.specs.Judged.{CertifyIsJudged, CheckIsJudged, CompileIsJudged, ExecIsJudged, HcheckIsJudged}
use Rattle.build_commands.specs.Judged.{AsmIsJudged, LcompileIsJudged}
use Rattle.build_commands.specs.Asm.{AsmIsSettled, AsmMakes}
use Rattle.cpu12_asm.specs.{Bytes.start_of, Giving.Given, Laws.EachSourceIsJudged, Laws.IsSourceAnswer}
use Rattle.cpu12_asm.specs.{Sources.assembled, declared.items.AsmFault.AsmFault}
use Rattle.build_commands.specs.Certify.{CertifyGives, CertifyIsSettled, certify_reading}
use Rattle.build_commands.specs.Check.{CheckGives, CheckIsSettled, check_reading}
use Rattle.build_commands.specs.{Compile.CompileIsSettled, Compile.bound_of, Exec.ExecMakes, Written.WritesFirmware}
use Rattle.build_commands.specs.{Hcheck.HcheckGives, Hcheck.HcheckIsSettled}
use Rattle.build_commands.specs.{Lcompile.LcompileGives, Lcompile.LcompileIsSettled}

-- ---- readings

pub certify_judged : BlocksAreJudged → HalvingsAreJudged → CertifyIsSettled → CertifyIsJudged
certify_judged blocks halvings made certify text small few =
    result_of (certify_reading certify text) (CertifyGives certify text) (
      blocks text few,
      λ block gives. halvings certify.format certify.targets block gives.spelled.valid small,
    )
    (λ given. (made certify text).some given)

pub check_judged : BlocksAreJudged → CertsAreJudged → CheckIsSettled → CheckIsJudged
check_judged blocks certs made check text cert few =
    result_of (check_reading check text cert) (CheckGives check text cert)
    (blocks text few, λ block gives. certs check.format block cert gives.spelled.valid)
    (λ given. (made check text cert).some (given.0.0, given.0.1, given.1.0, given.1.1))

pub compile_judged : FirmwaresAreJudged → CompileIsSettled → CompileIsJudged
compile_judged firmwares made compile text few =
    result_of (last (firmware_in compile.form text))
    (WritesFirmware (GivesFirmware compile.form text) (bound_of compile.form))
    (firmwares compile.form text few)
    (λ given. (made compile text).some
    (given.0.block, record { spelled = given.1.spelled; limits = given.1.limits }))

pub lcompile_judged : TwosAreJudged → LcompileIsSettled → LcompileIsJudged
lcompile_judged twos made slow fast slow_few fast_few =
    result_of (last (twos_in slow fast)) (LcompileGives slow fast) (twos slow fast slow_few fast_few)
    (λ given. (made slow fast).some (given.0.slow, given.0.fast, given.1.slow_is, given.1.fast_is))

pub hcheck_judged : HandlersAreJudged → HcheckIsSettled → HcheckIsJudged
hcheck_judged handlers made text =
    result_of (last (handler_in text)) (HcheckGives text) (handlers text) (λ given. (made text).some given)

-- ---- sources

pub asm_judged : EachSourceIsJudged → AsmIsSettled → AsmIsJudged
asm_judged sources made source = by_answer (assembled source) refl (sources source)
  where
    by_answer : (r : Result Given AsmFault) → assembled source ≡ r → IsSourceAnswer r → HasResult (AsmMakes source)
    by_answer (Ok given) is (image, ascending, holds) =
        let whole : Image = record { bytes = image; start = start_of image } in
        let output = (made source).some (
          whole,
          record {
            assembles = record { given = given; assembled = is; holds = holds };
            ascending = ascending;
            start = refl;
          },
        ) in
        (Ok output.0, output.1)
    by_answer (Err f) is other = (Err (status.Asm f), (other, is))

-- ---- runs: each ends

abbrev HasEnd : ℕ → ℕ → State → Type 0
HasEnd flags n s = (e : RunEnd) × ((t : State) × EndsRun flags n s e t)

module _ (flags : ℕ) where
  one_later : (n : ℕ) (s : State) (next : Next) → is_at_rest s ≡ false → next_of flags s ≡ Ok next
      → (e : RunEnd) (t : State) → EndsRun flags n next.state e t → HasEnd flags (suc n) s
  one_later n s next moves is (end.Arrived k) t ends =
      (end.Arrived (suc k), (t, (omega (arith, ends.0), (moves, (next, (is, ends.1))), ends.2)))
  one_later n s next moves is (end.Budget k) t ends =
      (end.Budget (suc k), (t, (omega (arith, ends.0), (moves, (next, (is, ends.1))), ends.2)))
  one_later n s next moves is (end.Trap pc byte) t ends = (
    end.Trap pc byte,
    (
      t,
      (
        suc ends.0,
        (omega (arith, ends.1.0), (moves, (next, (is, ends.1.1))), ends.1.2, ends.1.3, ends.1.4),
      ),
    ),
  )

  by_step : (n : ℕ) (s : State) → is_at_rest s ≡ false → ((next : Next) → HasEnd flags n next.state)
      → (r : Result Next ℕ) → next_of flags s ≡ r → HasEnd flags (suc n) s
  by_step n s moves ends (Ok next) is =
      let e = ends next in one_later n s next moves is e.0 e.1.0 e.1.1
  by_step n s moves ends (Err byte) is =
      (end.Trap s.regs.pc byte, (s, (zero, (omega arith, refl, moves, refl, is))))

  by_rest : (n : ℕ) (s : State) → (is_at_rest s ≡ false → HasEnd flags n s) → (r : Bool) → is_at_rest s ≡ r
      → HasEnd flags n s
  by_rest n s moves true is = (end.Arrived zero, (s, (omega arith, refl, is)))
  by_rest n s moves false is = moves is

  runs_end : (n : ℕ) (s : State) → HasEnd flags n s
  runs_end zero s = by_rest zero s (λ moves. (end.Budget zero, (s, (refl, refl, moves)))) (is_at_rest s) refl
  runs_end (suc n) s =
      by_rest (suc n) s (λ moves. by_step n s moves (λ next. runs_end n next.state) (next_of flags s) refl)
      (is_at_rest s) refl

pub exec_judged : RecordsAreJudged → ExecIsJudged
exec_judged records exec text = elim (records text) [
  | inr (f, has) ↦ (Err (status.Image (image.Records f)), (records_carry text f has, has))
  | inl (given, spelled) ↦
      let e = runs_end exec.flags exec.steps (reset_with (image_memory given.bytes)) in
      ended given spelled e.0 e.1.0 e.1.1
]
  where
    ended : (given : Image) → GivesImage text given → (e : RunEnd) (t : State)
        → EndsRun exec.flags exec.steps (reset_with (image_memory given.bytes)) e t → HasResult (ExecMakes exec text)
    ended given spelled (end.Arrived k) t ends = (
      Ok _,
      record {
        steps = k;
        last = t;
        arrives = record { image = given; spelled = spelled; ends = ends };
        output_is = refl;
      },
    )
    ended given spelled (end.Budget k) t ends =
        (Err (status.Budget k), (tt, (t, record { image = given; spelled = spelled; ends = ends })))
    ended given spelled (end.Trap pc byte) t ends =
        (Err (status.Trap pc byte), (tt, (t, record { image = given; spelled = spelled; ends = ends })))
