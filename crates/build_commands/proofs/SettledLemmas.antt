-- What each command makes is settled.
use Rattle.std.proofs.Common.{◌≡◌, ◌∙◌, ℕ, List, [], ◌∷◌, ap, refl, subst, sym}
use Rattle.std.specs.Prelude.{Err, Ok, Some, codes, length}
use Rattle.box_tree.specs.{Texts.lines_of, Trees.leaf_count}
use Rattle.byte_scaling.specs.declared.width.Width.TheVariants.{Byte}
use Rattle.cpu12_asm.specs.{Bytes.byte_at, Bytes.start_of, Giving.Given, Laws.AscendingBytesAreOne}
use Rattle.cpu12_asm.specs.{Laws.SourcesGiveBytes, Sources.assembled, declared.image.Image.Image}
use Rattle.cpu12_emul.specs.{Image.HoldsImage, Image.ImagesLoadAlike, Image.image_memory, Run.EndsRun}
use Rattle.cpu12_emul.specs.{Run.RunsEndOnce, Step.reset_with}
use Rattle.cpu12_emul.specs.declared.ends.RunEnd.{RunEnd}
use Rattle.cpu12_emul.specs.declared.ends.RunEnd.TheVariants as end
use Rattle.cpu12_parts.specs.State.{State}
use Rattle.error_certifier.specs.{Laws.HalvingsAreWithinTheirTargets, Targets.targets_of}
use Rattle.eval_code.specs.Bounds.{instruction_bound, steps_by}
use Rattle.srecord.specs.{Images.ImageText, Laws.FaultsAreOne, Laws.ImageTextsAreOne, Laws.ImagesAreOne}
use Rattle.srecord.specs.Laws.{ImagesHaveTexts}
use Rattle.two_level_code.specs.{Images.fast_most, Standing.TwoStandBeside}
use Rattle.fz_status.specs.{declared.status.Status.Status}
use Rattle.fz_status.specs.declared.status.ImageFault.TheVariants as image
use Rattle.fz_status.specs.declared.status.Status.TheVariants as status
use Rattle.build_commands.specs.{Asm.AsmAccepts, Asm.AsmIsSettled, Asm.AsmMakes, Asm.source_refusals}
use Rattle.build_commands.specs.Certify.{CertifyGives, CertifyIsSettled, certify_lines, certify_reading}
use Rattle.build_commands.specs.Check.{CheckAccepts, CheckGives, CheckIsSettled, check_lines, check_reading}
use Rattle.build_commands.specs.Compile.{CompileAccepts, CompileIsSettled, bound_of}
use Rattle.build_commands.specs.Exec.{Ends, ExecIsSettled, ExecMakes, exec_line, exec_refusals}
use Rattle.build_commands.specs.{Hcheck.HcheckGives, Hcheck.HcheckIsSettled}
use Rattle.build_commands.specs.Lcompile.{LcompileAccepts, LcompileGives, LcompileIsSettled, lcompile_lines}
use Rattle.build_commands.specs.Written.{WritesFirmware, WritesImage, compile_lines}
use Rattle.build_commands.specs.declared.{certify.Certify.Certify, check.Check.Check, compile.Compile.Compile}
use Rattle.build_commands.specs.declared.exec.Exec.{Exec}
use Rattle.build_commands.proofs.RecordLemmas.{RecordLaws, firmware_records, has_records, image_records, source_bytes}
use Rattle.command_parts.proofs.Algebra.{settled}
use Rattle.command_parts.specs.{Certs.CertsAreExact, Certs.HalvingsAreExact, Firmwares.BlocksAreExact}
use Rattle.command_parts.specs.Firmwares.{FirmwaresAreExact, GivenBlocksHaveFirmware, GivesFirmware, firmware_in}
use Rattle.command_parts.specs.{Handlers.HandlersAreExact, Handlers.handler_in, Images.GivenRecordsHaveNoFault}
use Rattle.command_parts.specs.{Lines.line, Readings.GivesSome, Readings.TellsContents, Readings.last}
use Rattle.command_parts.specs.SeenOutputs.{HasOutput, OutputsAreOne, SeenOutput, only_lines}
use Rattle.command_parts.specs.{Twos.GivenBlocksHaveTwos, Twos.TwosAreExact, Twos.twos_in}

-- the same lines with the records of the same image
writes_once : ImageTextsAreOne → (image others : Image) (place : ℕ) (lines again : List (List ℕ))
    (output other : SeenOutput)
    → image ≡ others → lines ≡ again → WritesImage image place lines output → WritesImage others place again other
    → output ≡ other
writes_once texts image others place lines again output other same put a b =
    let there : ImageText image.bytes image.start b.records =
    subst (λ (j : Image). ImageText j.bytes j.start b.records) (sym same) b.of_image in
    let records = texts image.bytes image.start a.records b.records a.of_image there in
    a.output_is ∙ (λ i. record { lines = put i; file = Some (place, records i) }) ∙ sym b.output_is

-- ---- asm

asm_made : ImagesHaveTexts → SourcesGiveBytes → (source : List ℕ) → AsmAccepts source → HasOutput (AsmMakes source)
asm_made texts gives source (image, a) =
    let given = a.assembles.given in
    let bytes = source_bytes image.bytes given.bytes a.assembles.holds (gives source given a.assembles.assembled) in
    let records = has_records texts image a.ascending a.start bytes in (
      _,
      record {
        image = image;
        assembles = a.assembles;
        ascending = a.ascending;
        start = a.start;
        writes = record { records = records.0; of_image = records.1; output_is = refl };
      },
    )

assembles_once : AscendingBytesAreOne → ImageTextsAreOne → (source : List ℕ) → OutputsAreOne (AsmMakes source)
assembles_once ascending texts source output other a b =
    let p = a.assembles in
    let q = b.assembles in
    let given : p.given ≡ q.given = let e : Ok p.given ≡ Ok q.given = sym p.assembled ∙ q.assembled in cc in
    let bytes : a.image.bytes ≡ b.image.bytes =
    ascending a.image.bytes b.image.bytes a.ascending b.ascending
    (λ at. p.holds.bytes at ∙ ap (λ (g : Given). byte_at g.bytes at) given ∙ sym (q.holds.bytes at)) in
    let start : a.image.start ≡ b.image.start = a.start ∙ ap start_of bytes ∙ sym b.start in
    writes_once texts a.image b.image 3 _ _ output other (λ i. record { bytes = bytes i; start = start i })
    (λ i. line (codes "bytes ") (length (bytes i)) ∷ []) a.writes b.writes

pub asm_settled : ImagesHaveTexts → ImageTextsAreOne → SourcesGiveBytes → AscendingBytesAreOne → AsmIsSettled
asm_settled texts written sources ascending source = record {
  one = assembles_once ascending written source;
  no_fault = λ output s a w. apart output s a w;
  some = asm_made texts sources source;
  contents = λ s w. (w.0, tells s w.1);
  one_fault = once;
}
  where
    once : (s t : Status) → AsmMakes source (Err s) → AsmMakes source (Err t) → s ≡ t
    once (status.Asm f) (status.Asm g) v w =
        let a : assembled source ≡ Err f = v.1 in
        let b : assembled source ≡ Err g = w.1 in
        let same : f ≡ g = cc in
        ap status.Asm same
    once (status.Asm f) t v w = absurd w.1
    once s t v w = absurd v.1

    apart : (output : SeenOutput) (s : Status) → AsmMakes source (Ok output) → AsmMakes source (Err s) → ⊥
    apart output (status.Asm f) a w =
        let yes = a.assembles.assembled in
        let no : assembled source ≡ Err f = w.1 in
        cc
    apart output s a w = w.1

    tells : (s : Status) → source_refusals source s → TellsContents s
    tells (status.Asm f) w = tt
    tells s w = absurd w

-- ---- certify

certify_made : HalvingsAreWithinTheirTargets → (certify : Certify) (text : List ℕ)
    → GivesSome (certify_reading certify text) → (output : SeenOutput) × CertifyGives certify text output
certify_made halvings certify text ((block, cert), (gives, halving)) =
    let good = halvings certify.format.kind block _ (targets_of block certify.targets) cert gives.spelled.valid
    halving in (
      _,
      record {
        block = block;
        gives = gives;
        cert = cert;
        halving = halving;
        within = good.1;
        out = _;
        spelled = record { good = good.0; lines = refl };
        output_is = refl;
      },
    )

certify_one : (certify : Certify) (text : List ℕ) (output other : SeenOutput) (a : CertifyGives certify text output)
    (b : CertifyGives certify text other) → a.cert ≡ b.cert → output ≡ other
certify_one certify text output other a b cert =
    let out : a.out ≡ b.out = a.spelled.lines
    ∙ (λ i. lines_of certify.format (cert i).claims (cert i).nodes) ∙ sym b.spelled.lines in
    a.output_is
    ∙ (λ i. record { lines = certify_lines (cert i).claims (leaf_count (cert i).nodes); file = Some (4, out i) })
    ∙ sym b.output_is

pub certify_settled : BlocksAreExact → HalvingsAreExact → HalvingsAreWithinTheirTargets → CertifyIsSettled
certify_settled blocks halvings within certify text =
    settled (certify_reading certify text) (CertifyGives certify text) (GivesSome (certify_reading certify text))
    (blocks text, λ block gives. halvings certify.format certify.targets block gives.spelled.valid)
    (λ output a. ((a.block, a.cert), (a.gives, a.halving)))
    (λ output other a b same. certify_one certify text output other a b (λ i. (same i).1))
    (certify_made within certify text)

-- ---- check

check_made : (check : Check) (text cert : List ℕ) → CheckAccepts check text cert
    → (output : SeenOutput) × CheckGives check text cert output
check_made check text cert (block, errors, given, accepts) =
    (_, record { block = block; gives = given; errors = errors; accepts = accepts; output_is = refl })

pub check_settled : BlocksAreExact → CertsAreExact → CheckIsSettled
check_settled blocks certs check text cert =
    settled (check_reading check text cert) (CheckGives check text cert) (CheckAccepts check text cert)
    (blocks text, λ block gives. certs check.format block cert gives.spelled.valid)
    (λ output a. ((a.block, a.errors), (a.gives, a.accepts)))
    (λ output other a b same. a.output_is
    ∙ (λ i. only_lines (check_lines (same i).1 (instruction_bound check.format.width (same i).0))) ∙ sym b.output_is)
    (check_made check text cert)

-- ---- compile

compile_made : RecordLaws → GivenBlocksHaveFirmware → (compile : Compile) (text : List ℕ) → CompileAccepts text
    → (output : SeenOutput)
    × WritesFirmware (GivesFirmware compile.form text) (bound_of compile.form) output
compile_made laws firmwares compile text (block, given) =
    let (firmware, gives) = firmwares compile.form text block given in
    let records =
    firmware_records laws compile.form block firmware given.spelled.valid given.limits gives.compiled in (
      _,
      record {
        block = block;
        firmware = firmware;
        gives = gives;
        writes = record { records = records.0; of_image = records.1; output_is = refl };
      },
    )

pub compile_settled : FirmwaresAreExact → GivenBlocksHaveFirmware → ImageTextsAreOne → RecordLaws → CompileIsSettled
compile_settled firmwares given_firmware texts laws compile text =
    let bound = bound_of compile.form in
    settled (last (firmware_in compile.form text)) (WritesFirmware (GivesFirmware compile.form text) bound)
    (CompileAccepts text) (firmwares compile.form text)
    (λ output a. (record { block = a.block; firmware = a.firmware }, a.gives))
    (λ output other a b same. writes_once texts a.firmware.image b.firmware.image 3 _ _ output other
    (λ i. (same i).firmware.image)
    (λ i. compile_lines (bound (same i).block) (steps_by (same i).block (bound (same i).block))
    (length (same i).firmware.image.bytes)) a.writes b.writes)
    (compile_made laws given_firmware compile text)

-- ---- exec

-- two runs of one image end alike
module _ (images : ImagesAreOne) (loads : ImagesLoadAlike) (ends : RunsEndOnce) (exec : Exec) (text : List ℕ) where
  ends_alike : (e f : RunEnd) (t u : State) → Ends exec text e t → Ends exec text f u → (e ≡ f) × (t ≡ u)
  ends_alike e f t u one other =
      let bytes = (images text one.image other.image one.spelled other.spelled).1 in
      let same = ap reset_with (loads one.image.bytes other.image.bytes bytes) in
      let there = subst (λ (s : State). EndsRun exec.flags exec.steps s e t) same one.ends in
      ends exec.flags exec.steps (reset_with (image_memory other.image.bytes)) t u e f there other.ends

  ends_once : OutputsAreOne (ExecMakes exec text)
  ends_once output other a b =
      let one = ends_alike (end.Arrived a.steps) (end.Arrived b.steps) a.last b.last a.arrives b.arrives in
      let arrived : end.Arrived a.steps ≡ end.Arrived b.steps = one.0 in
      let steps : a.steps ≡ b.steps = cc in
      a.output_is ∙ (λ i. only_lines (exec_line (one.1 i).regs (steps i) ∷ [])) ∙ sym b.output_is

-- the status of a run that ends so
abbrev of_end : RunEnd → Status
of_end (end.Arrived steps) = status.Ok
of_end (end.Trap pc byte) = status.Trap pc byte
of_end (end.Budget steps) = status.Budget steps

pub exec_settled : FaultsAreOne → GivenRecordsHaveNoFault → ImagesAreOne → ImagesLoadAlike → RunsEndOnce
    → ExecIsSettled
exec_settled faults records images loads ends exec text = record {
  one = ends_once images loads ends exec text;
  no_fault = λ output s a w. apart output s a w;
  some = λ a. (_, record { steps = a.0; last = a.1; arrives = a.2; output_is = refl });
  contents = λ s w. (w.0, tells s w.1);
  one_fault = once;
}
  where
    alike : (e f : RunEnd) → ((t : State) × Ends exec text e t) → ((u : State) × Ends exec text f u) → e ≡ f
    alike e f (t, a) (u, b) = (ends_alike images loads ends exec text e f t u a b).0

    once : (s t : Status) → ExecMakes exec text (Err s) → ExecMakes exec text (Err t) → s ≡ t
    once (status.Image (image.Records f)) (status.Image (image.Records g)) v w =
        ap (λ x. status.Image (image.Records x)) (faults text f g v.1 w.1)
    once (status.Image f) (status.Trap pc byte) v w = absurd (records text w.1.1.image f w.1.1.spelled v.1)
    once (status.Image f) (status.Budget n) v w = absurd (records text w.1.1.image f w.1.1.spelled v.1)
    once (status.Trap pc byte) (status.Image f) v w = absurd (records text v.1.1.image f v.1.1.spelled w.1)
    once (status.Budget n) (status.Image f) v w = absurd (records text v.1.1.image f v.1.1.spelled w.1)
    once (status.Trap pc byte) (status.Trap at got) v w =
        ap of_end (alike (end.Trap pc byte) (end.Trap at got) v.1 w.1)
    once (status.Trap pc byte) (status.Budget n) v w = ap of_end (alike (end.Trap pc byte) (end.Budget n) v.1 w.1)
    once (status.Budget n) (status.Trap pc byte) v w = ap of_end (alike (end.Budget n) (end.Trap pc byte) v.1 w.1)
    once (status.Budget m) (status.Budget n) v w = ap of_end (alike (end.Budget m) (end.Budget n) v.1 w.1)
    once (status.Image (image.Records f)) t v w = absurd w.1
    once (status.Trap pc byte) t v w = absurd w.1
    once (status.Budget n) t v w = absurd w.1
    once s t v w = absurd v.1

    apart : (output : SeenOutput) (s : Status) → ExecMakes exec text (Ok output) → ExecMakes exec text (Err s) → ⊥
    apart output (status.Image f) a w = records text a.arrives.image f a.arrives.spelled w.1
    apart output (status.Trap pc byte) a (carries, (state, other)) =
        let same = (ends_alike images loads ends exec text (end.Arrived a.steps) (end.Trap pc byte) a.last state
        a.arrives other).0 in
        cc
    apart output (status.Budget n) a (carries, (state, other)) =
        let same = (ends_alike images loads ends exec text (end.Arrived a.steps) (end.Budget n) a.last state a.arrives
        other).0 in
        cc
    apart output s a w = w.1

    tells : (s : Status) → exec_refusals exec text s → TellsContents s
    tells (status.Image f) w = tt
    tells (status.Trap pc byte) w = tt
    tells (status.Budget n) w = tt
    tells s w = absurd w

-- ---- hcheck

pub hcheck_settled : HandlersAreExact → HcheckIsSettled
hcheck_settled handlers text =
    settled (last (handler_in text)) (HcheckGives text) (GivesSome (last (handler_in text))) (handlers text)
    (λ output a. (record { image = a.image; handler = record { instrs = a.instrs } }, a.gives))
    (λ output other a b same. a.output_is
    ∙ (λ i. only_lines (line (codes "handler instructions ") (same i).1 ∷ [])) ∙ sym b.output_is)
    (λ a. (_, record { image = a.0.image; instrs = a.0.handler.instrs; gives = a.1; output_is = refl }))

-- ---- lcompile

lcompile_made : ImagesHaveTexts → HoldsImage → TwoStandBeside → GivenBlocksHaveTwos → (slow fast : List ℕ)
    → LcompileAccepts slow fast → (output : SeenOutput) × LcompileGives slow fast output
lcompile_made texts holds beside twos slow fast (slow_block, fast_block, slow_is, fast_is) =
    let (two, gives) = twos slow fast slow_block fast_block slow_is fast_is in
    let stands = beside slow_block fast_block two slow_is.spelled.valid slow_is.limits fast_is.spelled.valid
    fast_is.limits gives.both in
    let records = image_records texts holds _ two.firmware.image gives.both.image stands.0.bytes in (
      _,
      record {
        slow_block = slow_block;
        fast_block = fast_block;
        two = two;
        gives = gives;
        writes = record { records = records.0; of_image = records.1; output_is = refl };
      },
    )

pub lcompile_settled : TwosAreExact → GivenBlocksHaveTwos → ImagesHaveTexts → ImageTextsAreOne → HoldsImage
    → TwoStandBeside → LcompileIsSettled
lcompile_settled twos given_twos texts written holds beside slow fast =
    settled (last (twos_in slow fast)) (LcompileGives slow fast) (LcompileAccepts slow fast) (twos slow fast)
    (λ output a. (record { slow = a.slow_block; fast = a.fast_block; two = a.two }, a.gives))
    (λ output other a b same. writes_once written a.two.firmware.image b.two.firmware.image 4 _ _ output other
    (λ i. (same i).two.firmware.image)
    (λ i. lcompile_lines (instruction_bound Byte (same i).slow) (fast_most (instruction_bound Byte (same i).fast))
    (length (same i).two.firmware.image.bytes)) a.writes b.writes)
    (lcompile_made texts holds beside given_twos slow fast)
