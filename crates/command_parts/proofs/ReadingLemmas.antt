-- What each file of a command gives is one, and then nothing refuses it; and what refuses it is one.
use Rattle.std.proofs.Common.{◌≡◌, ◌≢◌, ◌∙◌, ◌-◌, ◌≤◌, ◌<◌, ℕ, zero, suc, List, [], ◌∷◌, length, take, ap, arith}
use Rattle.std.proofs.Common.{inl, inr, refl, subst, sym}
use Rattle.std.proofs.{lemmas.Bool.cases_lt, lemmas.List.Sums.sum_by-cons, Math.Seq.take-length}
use Rattle.std.specs.Prelude.{Result, Ok, Err}
use Rattle.firmware_code.specs.declared.firmware.Firmware.{Firmware}
use Rattle.alone_code.specs.Firmwares.{FirmwaresAreOne}
use Rattle.mailbox_code.specs.Mailboxes.{MailboxesAreOne}
use Rattle.box_tree.specs.declared.{cert.Cert.Cert, cert.CertFormat.CertFormat}
use Rattle.byte_scaling.specs.Widths.{parts}
use Rattle.cert_check.specs.Laws.{TextAnswersAreOne}
use Rattle.cpu12_asm.specs.{declared.image.Image.Image}
use Rattle.error_certifier.specs.{Laws.AnswersForTargetsAreOne, Targets.targets_of}
use Rattle.error_certifier.specs.declared.{certifier.NotReached.NotReached, targets.Targets.Targets}
use Rattle.fcl_check.specs.{OneBlock.SpelledBlocksAreOne, Texts.LoadFaultsAreOne}
use Rattle.fcl_syntax.specs.{Readings.FirstFaultsAreOne, View.view}
use Rattle.fuzzy_meaning.specs.declared.{block.Block.Block, block.Rule.Rule}
use Rattle.handler_check.specs.Images.{CountsAreOne, FaultsAreOne as HandlerFaultsAreOne, HandlersHaveNoFault}
use Rattle.rule_layout.specs.{Faults.LimitsHaveNoFault, Layouts.IsFaultOf, Layouts.IsFirstTooMany}
use Rattle.rule_layout.specs.{Layouts.conjunction_count, Layouts.rule_spread, declared.flat.LayoutFault.LayoutFault}
use Rattle.rule_layout.specs.declared.flat.LayoutFault.TheVariants as layout
use Rattle.srecord.specs.Laws.{FaultsAreOne as RecordFaultsAreOne, ImagesAreOne, ImagesHaveNoFault}
use Rattle.two_level_code.specs.{Alike.TwosAreOne, Images.IsTwoOf}
use Rattle.watched_code.specs.Alike.{WatchedFirmwaresAreOne}
use Rattle.fz_status.specs.{Refusals.Refuses, declared.status.CertRefusal.CertRefusal, declared.status.Status.Status}
use Rattle.fz_status.specs.Refusals.{CarriesNoMemory, of_fast}
use Rattle.fz_status.specs.declared.{status.FclFault.FclFault, status.ImageFault.ImageFault}
use Rattle.fz_status.specs.declared.status.FclFault.TheVariants as fcl
use Rattle.fz_status.specs.declared.status.FastFault.TheVariants as told
use Rattle.fz_status.specs.declared.status.ImageFault.TheVariants as image
use Rattle.fz_status.specs.declared.status.Status.TheVariants as status
use Rattle.command_parts.specs.Certs.{CertsAreExact, HalvingsAreExact, HasCertFault, StopsHalving, cert_in}
use Rattle.command_parts.specs.Certs.{cert_refusals, halving_in, target_refusals}
use Rattle.command_parts.specs.Firmwares.{BlocksAreExact, FirmwaresAreExact, GivesBlock, GivesFirmware, IsOfForm}
use Rattle.command_parts.specs.Firmwares.{RefusesText, block_in, text_refusals}
use Rattle.command_parts.specs.Images.{GivenRecordsHaveNoFault, ImagesAreExact, RefusesImage, image_in, image_refusals}
use Rattle.command_parts.specs.{Handlers.GivesHandler, Handlers.HandlersAreExact, Handlers.handler_refusals}
use Rattle.command_parts.specs.{Readings.TellsContents, Twos.GivesTwo, Twos.TwosAreExact, Twos.two_refusals}
use Rattle.command_parts.specs.declared.firmware.{Compiled.Compiled, Form.Form}
use Rattle.command_parts.specs.declared.firmware.Form.TheVariants.{Alone, Mailbox, Watched}
use Rattle.command_parts.specs.declared.twos.CompiledTwoLevel.{CompiledTwoLevel}
use Rattle.command_parts.proofs.{Algebra.exact_of, CertLemmas.certs_apart, CertLemmas.errors_are_one}
use Rattle.command_parts.proofs.{CertLemmas.refusals_are_one, HandlerLemmas.handler_faults_are_one}
use Rattle.command_parts.proofs.ImageLemmas.{image_faults_are_one, images_apart}

-- ---- blocks and their firmware

fewer_conjunctions : (rules : List Rule) (m n : ℕ) → m ≤ n
    → conjunction_count (take m rules) ≤ conjunction_count (take n rules)
fewer_conjunctions rules zero n le = omega arith
fewer_conjunctions rules (suc m) zero le = absurd (omega (arith, le))
fewer_conjunctions [] (suc m) (suc n) le = omega arith
fewer_conjunctions (r ∷ rules) (suc m) (suc n) le =
    let rest = fewer_conjunctions rules m n (omega (arith, le)) in
    omega (
      arith,
      rest,
      sum_by-cons (λ r. length (rule_spread r)) r (take m rules),
      sum_by-cons (λ r. length (rule_spread r)) r (take n rules),
    )

no_sooner : (rules : List Rule) (m n : ℕ) → IsFirstTooMany rules m → IsFirstTooMany rules n → m < n → ⊥
no_sooner rules m n a b less =
    let fewer = fewer_conjunctions rules m (n - 1) (omega (arith, less)) in omega (arith, fewer, a.over, b.before)

-- too many conjunctions of the first rules are too many of all
all_too_many : (rules : List Rule) (n : ℕ) → IsFirstTooMany rules n → conjunction_count rules ≤ 512 → ⊥
all_too_many rules n a few =
    let fewer = fewer_conjunctions rules n (length rules) a.to in
    let all = subst (λ rs. conjunction_count (take n rules) ≤ conjunction_count rs) (take-length rules) fewer in
    omega (arith, all, a.over, few)

layout_faults_are_one : (b : Block) (f g : LayoutFault) → f ≢ layout.Memory → g ≢ layout.Memory → IsFaultOf b f
    → IsFaultOf b g → f ≡ g
layout_faults_are_one b layout.Memory g c d v w = absurd (c refl)
layout_faults_are_one b f layout.Memory c d v w = absurd (d refl)
layout_faults_are_one b (layout.TooManyRules m) (layout.TooManyRules n) c d v w = elim (cases_lt m n) [
  | inl less ↦ absurd (no_sooner b.rules m n v w less)
  | inr up ↦ elim (cases_lt n m) [
    | inl less ↦ absurd (no_sooner b.rules n m w v less)
    | inr down ↦ let same : m ≡ n = omega (arith, up, down) in ap layout.TooManyRules same
  ]
]
layout_faults_are_one b (layout.TooManyRules m) (layout.ListTooLong n) c d v w =
    absurd (all_too_many b.rules m v w.few_conjunctions)
layout_faults_are_one b (layout.ListTooLong m) (layout.TooManyRules n) c d v w =
    absurd (all_too_many b.rules n w v.few_conjunctions)
layout_faults_are_one b (layout.ListTooLong m) (layout.ListTooLong n) c d v w =
    ap layout.ListTooLong (v.bytes ∙ sym w.bytes)

text_has : (text : List ℕ) (s : Status) → text_refusals text s
    → (f : FclFault) × (s ≡ status.Fcl f) × RefusesText text f
text_has text (status.Fcl f) w = (f, refl, w)
text_has text s w = absurd w

pub blocks_exact : FirstFaultsAreOne → LoadFaultsAreOne → SpelledBlocksAreOne → LimitsHaveNoFault → BlocksAreExact
blocks_exact syntax load blocks limits text =
    exact_of (block_in text) status.Fcl (RefusesText text) (λ f. tt) (text_has text)
    (λ block other a b. blocks text block other a.spelled b.spelled) apart once
  where
    once : (f g : FclFault) → CarriesNoMemory (status.Fcl f) → CarriesNoMemory (status.Fcl g) → RefusesText text f
        → RefusesText text g → f ≡ g
    once (fcl.Syntax f) (fcl.Syntax g) c d v w = ap fcl.Syntax ((syntax text).0 f g v w)
    once (fcl.Syntax f) (fcl.Load g) c d v w = absurd ((syntax text).1 f (view w.tree) v w.spelled)
    once (fcl.Syntax f) (fcl.Layout g) c d v w = absurd ((syntax text).1 f (view w.1.tree) v w.1.spelled)
    once (fcl.Load f) (fcl.Syntax g) c d v w = absurd ((syntax text).1 g (view v.tree) w v.spelled)
    once (fcl.Load f) (fcl.Load g) c d v w = ap fcl.Load ((load text).0 f g v w)
    once (fcl.Load f) (fcl.Layout g) c d v w = absurd ((load text).1 f w.0 v w.1)
    once (fcl.Layout f) (fcl.Syntax g) c d v w = absurd ((syntax text).1 g (view v.1.tree) w v.1.spelled)
    once (fcl.Layout f) (fcl.Load g) c d v w = absurd ((load text).1 g v.0 w v.1)
    once (fcl.Layout f) (fcl.Layout g) c d v w =
        let same = blocks text v.0 w.0 v.1 w.1 in
        ap fcl.Layout (layout_faults_are_one w.0 f g c d (subst (λ (b : Block). IsFaultOf b f) same v.2) w.2)

    apart : (block : Block) (f : FclFault) → GivesBlock text block → CarriesNoMemory (status.Fcl f)
        → RefusesText text f → ⊥
    apart block (fcl.Syntax f) a carries w = (syntax text).1 f (view a.spelled.tree) w a.spelled.spelled
    apart block (fcl.Load f) a carries w = (load text).1 f block w a.spelled
    apart block (fcl.Layout f) a carries w =
        let same = blocks text w.0 block w.1 a.spelled in
        limits block f a.limits carries (subst (λ (b : Block). IsFaultOf b f) same w.2)

-- the firmware of a form is the block's
abbrev pub FirmwaresOfForms : Type 0
FirmwaresOfForms = (form : Form) (block : Block) (f g : Firmware) → IsOfForm form block f → IsOfForm form block g
    → f ≡ g

pub of_forms : FirmwaresAreOne → MailboxesAreOne → WatchedFirmwaresAreOne → FirmwaresOfForms
of_forms alone mailboxes watched (Alone width) block f g a b = alone block f g (a.1 ∙ sym b.1) a.0 b.0
of_forms alone mailboxes watched Mailbox block f g a b = mailboxes block f g (a.1 ∙ sym b.1) a.0 b.0
of_forms alone mailboxes watched Watched block f g a b = watched block f g a b

pub firmwares_exact : BlocksAreExact → FirmwaresOfForms → FirmwaresAreExact
firmwares_exact blocks firmwares form text = record {
  one = one;
  apart = λ c s a w. (blocks text).apart c.block s (record { spelled = a.spelled; limits = a.limits }) w;
  contents = (blocks text).contents;
  refused_once = (blocks text).refused_once;
}
  where
    one : (c d : Compiled) → GivesFirmware form text c.block c.firmware → GivesFirmware form text d.block d.firmware
        → c ≡ d
    one c d a b =
        let block = (blocks text).one c.block d.block (record { spelled = a.spelled; limits = a.limits })
        (record { spelled = b.spelled; limits = b.limits }) in
        let there = subst (λ (x : Block). IsOfForm form x c.firmware) block a.compiled in
        let firmware = firmwares form d.block c.firmware d.firmware there b.compiled in
        (λ i. record { block = block i; firmware = firmware i })

pub twos_exact : BlocksAreExact → TwosAreOne → TwosAreExact
twos_exact blocks twos slow fast = record { one = one; apart = apart; contents = tells; refused_once = once }
  where
    one : (c d : CompiledTwoLevel) → GivesTwo slow fast c.slow c.fast c.two → GivesTwo slow fast d.slow d.fast d.two
        → c ≡ d
    one c d a b =
        let of_slow = (blocks slow).one c.slow d.slow a.slow_is b.slow_is in
        let of_fast = (blocks fast).one c.fast d.fast a.fast_is b.fast_is in
        let both = subst (λ (x : Block). IsTwoOf x d.fast c.two) of_slow
        (subst (λ (x : Block). IsTwoOf c.slow x c.two) of_fast a.both) in
        let two = twos d.slow d.fast c.two d.two both b.both in
        (λ i. record { slow = of_slow i; fast = of_fast i; two = two i })

    apart : (c : CompiledTwoLevel) (s : Status) → GivesTwo slow fast c.slow c.fast c.two
        → Refuses (two_refusals slow fast) s → ⊥
    apart c (status.Fcl f) a w = (blocks slow).apart c.slow (status.Fcl f) a.slow_is w
    apart c (status.Fast (told.Fcl f)) a w = (blocks fast).apart c.fast (status.Fcl f) a.fast_is (w.0, w.1.1)
    apart c s a w = w.1

    tells : (s : Status) → two_refusals slow fast s → TellsContents s
    tells (status.Fcl f) w = tt
    tells (status.Fast (told.Fcl f)) w = tt
    tells s w = absurd w

    once : (s t : Status) → Refuses (two_refusals slow fast) s → Refuses (two_refusals slow fast) t → s ≡ t
    once (status.Fcl f) (status.Fcl g) v w = (blocks slow).refused_once (status.Fcl f) (status.Fcl g) v w
    once (status.Fcl f) (status.Fast (told.Fcl g)) v w =
        absurd ((blocks slow).apart w.1.0.0 (status.Fcl f) w.1.0.1 v)
    once (status.Fast (told.Fcl f)) (status.Fcl g) v w =
        absurd ((blocks slow).apart v.1.0.0 (status.Fcl g) v.1.0.1 w)
    once (status.Fast (told.Fcl f)) (status.Fast (told.Fcl g)) v w =
        ap of_fast ((blocks fast).refused_once (status.Fcl f) (status.Fcl g) (v.0, v.1.1) (w.0, w.1.1))
    once (status.Fcl f) t v w = absurd w.1
    once (status.Fast (told.Fcl f)) t v w = absurd w.1
    once s t v w = absurd v.1

-- ---- images and handlers

image_has : (text : List ℕ) (wanted : Image) (s : Status) → image_refusals text wanted s
    → (f : ImageFault) × (s ≡ status.Image f) × RefusesImage text wanted f
image_has text wanted (status.Image f) w = (f, refl, w)
image_has text wanted s w = absurd w

pub images_exact : RecordFaultsAreOne → ImagesAreOne → ImagesHaveNoFault → ImagesAreExact
images_exact faults one good text wanted =
    exact_of (image_in text wanted) status.Image (RefusesImage text wanted) (λ f. tt) (image_has text wanted)
    (λ u v a b. refl) (λ u f a carries w. images_apart one good text wanted f a w)
    (λ f g c d v w. image_faults_are_one faults one good text wanted f g v w)

pub handlers_exact : RecordFaultsAreOne → ImagesAreOne → GivenRecordsHaveNoFault → HandlersHaveNoFault
    → HandlerFaultsAreOne → CountsAreOne → HandlersAreExact
handlers_exact record_faults images records handlers faults counts text = record {
  one = λ a b g h. (let bytes = (images text a.image b.image g.spelled h.spelled).1 in
      let instrs = counts a.image.bytes b.image.bytes a.handler.instrs b.handler.instrs bytes g.handler h.handler in
      (λ i. ((λ at. bytes at i), instrs i)));
  apart = λ a s g w. apart a.image a.handler.instrs s g w;
  contents = tells;
  refused_once = once;
}
  where
    apart : (image : Image) (instrs : ℕ) (s : Status) → GivesHandler text image instrs
        → Refuses (handler_refusals text) s → ⊥
    apart image instrs (status.Image f) g w = records text image f g.spelled w.1
    apart image instrs (status.Handler f) g (carries, (other, spelled, fault)) =
        handlers image.bytes other.bytes instrs f (images text image other g.spelled spelled).1 g.handler fault
    apart image instrs s g w = w.1

    tells : (s : Status) → handler_refusals text s → TellsContents s
    tells (status.Handler f) w = tt
    tells (status.Image f) w = tt
    tells s w = absurd w

    once : (s t : Status) → Refuses (handler_refusals text) s → Refuses (handler_refusals text) t → s ≡ t
    once (status.Image (image.Records f)) (status.Image (image.Records g)) v w =
        ap (λ x. status.Image (image.Records x)) (record_faults text f g v.1 w.1)
    once (status.Image f) (status.Handler g) v w = absurd (records text w.1.0 f w.1.1 v.1)
    once (status.Handler f) (status.Image g) v w = absurd (records text v.1.0 g v.1.1 w.1)
    once (status.Handler f) (status.Handler g) v w =
        ap status.Handler (handler_faults_are_one faults v.1.0.bytes w.1.0.bytes
        (images text v.1.0 w.1.0 v.1.1 w.1.1).1 f g v.1.2 w.1.2)
    once (status.Image (image.Records f)) t v w = absurd w.1
    once (status.Handler f) t v w = absurd w.1
    once s t v w = absurd v.1

-- ---- certificates

cert_has : (format : CertFormat) (block : Block) (cert : List ℕ) (s : Status) → cert_refusals format block cert s
    → (f : CertRefusal) × (s ≡ status.Cert f) × HasCertFault format block cert f
cert_has format block cert (status.Cert f) w = (f, refl, w)
cert_has format block cert s w = absurd w

pub certs_exact : TextAnswersAreOne → CertsAreExact
certs_exact answers format block cert valid =
    exact_of (cert_in format block cert) status.Cert (HasCertFault format block cert) (λ f. tt)
    (cert_has format block cert) (λ es fs a b. errors_are_one answers format block cert es fs valid a b)
    (λ es f a carries w. certs_apart answers format block cert es f valid a w)
    (λ f g c d v w. refusals_are_one answers format block cert f g valid v w)

stop_has : (format : CertFormat) (targets : Targets) (block : Block) (s : Status)
    → target_refusals format targets block s
    → (stop : NotReached) × (s ≡ status.NotReached stop) × StopsHalving format targets block stop
stop_has format targets block (status.NotReached stop) w = (stop, refl, w)
stop_has format targets block s w = absurd w

one_cert : (x y : Result Cert NotReached) (cert other : Cert) → x ≡ y → x ≡ Ok cert → y ≡ Ok other → cert ≡ other
one_cert x y cert other same is also = cc

one_stop : (x y : Result Cert NotReached) (stop other : NotReached) → x ≡ y → x ≡ Err stop → y ≡ Err other
    → stop ≡ other
one_stop x y stop other same is also = cc

not_both : (x y : Result Cert NotReached) (cert : Cert) (stop : NotReached) → x ≡ y → x ≡ Ok cert → y ≡ Err stop → ⊥
not_both x y cert stop same is also = cc

pub halvings_exact : AnswersForTargetsAreOne → HalvingsAreExact
halvings_exact answers format targets block valid =
    exact_of (halving_in format targets block) status.NotReached (StopsHalving format targets block) (λ f. tt)
    (stop_has format targets block)
    (λ cert other a b. one_cert (Ok cert) (Ok other) cert other
    (answers format.kind block (parts format.width) (targets_of block targets) (Ok cert) (Ok other) valid a b) refl
    refl)
    (λ cert stop a carries w. not_both (Ok cert) (Err stop) cert stop
    (answers format.kind block (parts format.width) (targets_of block targets) (Ok cert) (Err stop) valid a w.stops)
    refl refl)
    (λ stop other c d v w. one_stop (Err stop) (Err other) stop other
    (answers format.kind block (parts format.width) (targets_of block targets) (Err stop) (Err other) valid v.stops
    w.stops) refl refl)
