-- Each file gives something or is refused, and so does a reading of several.
use Rattle.std.proofs.Common.{◌≡◌, ◌≢◌, ◌⊎◌, ◌∙◌, inl, inr, ℕ, zero, suc, ◌+◌, ◌-◌, ◌<◌, ◌≤◌, List, [], ◌∷◌, ◌++◌, length}
use Rattle.std.proofs.Common.{map, take, Option, Some, None, refl, sym, ap, subst, arith}
use Rattle.std.proofs.{lemmas.Bool.cases_lt, lemmas.Bool.cases_eq, Math.Seq.take-length}
use Rattle.cpu12_asm.proofs.Algebra.{highest}
use Rattle.cpu12_asm.specs.Bytes.{IsFirstDifference, byte_at}
use Rattle.std.specs.Prelude.{Result, Ok, Err}
use Rattle.byte_scaling.specs.{Widths.parts, declared.width.Width.Width}
use Rattle.byte_scaling.specs.declared.width.Width.TheVariants.{Byte, Word}
use Rattle.cert_check.specs.Laws.{EachCertTextIsJudged, IsTextAnswer}
use Rattle.cert_check.specs.declared.text.TextFault.{TextFault}
use Rattle.cert_check.specs.declared.text.TextFault.TheVariants as refusal
use Rattle.cert_check.specs.TextFaults.{HasTextFault, of_text, of_cert}
use Rattle.error_certifier.specs.{Laws.EachBlockIsHalved, Laws.CellsAreOutOfReach, Laws.IsAnswerFor, Targets.targets_of}
use Rattle.error_certifier.specs.declared.certifier.NotReached.{NotReached}
use Rattle.error_certifier.specs.declared.certifier.NotReached.TheVariants as stop
use Rattle.std.specs.List.{flat_map}
use Rattle.std.specs.Str.{str_to_ascii_lowercase}
use Rattle.box_tree.specs.declared.cert.Cert.{Cert}
use Rattle.fcl_check.specs.{Faults.kinds, Places.first, Texts.EachTextIsJudged, Texts.HasLoadFault}
use Rattle.fcl_check.specs.{declared.fault.LoadFault.LoadFault}
use Rattle.fcl_check.specs.declared.fault.LoadFault.TheVariants as load
use Rattle.fcl_syntax.specs.{Text.IsFirstFault}
use Rattle.fcl_syntax.specs.declared.text.SyntaxFault.TheVariants as syntax
use Rattle.fuzzy_meaning.specs.{declared.block.Block.Block, declared.block.Rule.Rule}
use Rattle.rule_layout.specs.Layouts.{IsWithinLimits, IsFaultOf, IsFirstTooMany, conjunction_count, list_size}
use Rattle.rule_layout.specs.declared.flat.LayoutFault.{LayoutFault}
use Rattle.rule_layout.specs.declared.flat.LayoutFault.TheVariants as layout
use Rattle.fz_status.specs.{Refusals.Refuses, Refusals.CarriesNoMemory, declared.status.Status.Status}
use Rattle.fz_status.specs.declared.status.CertRefusal.TheVariants as told
use Rattle.fz_status.specs.declared.status.ImageFault.TheVariants as image
use Rattle.handler_check.specs.Images.{EachImageIsJudged, IsFault}
use Rattle.handler_check.specs.declared.faults.HandlerFault.{HandlerFault}
use Rattle.handler_check.specs.declared.faults.HandlerFault.TheVariants as handler
use Rattle.srecord.specs.Laws.{EachTextIsJudged as RecordsAreJudged}
use Rattle.fz_status.specs.declared.status.FclFault.TheVariants as fcl
use Rattle.fz_status.specs.declared.status.FastFault.TheVariants as fast
use Rattle.fz_status.specs.declared.status.Status.TheVariants as status
use Rattle.command_parts.specs.Judged.{BlocksAreJudged, CertsAreJudged, FirmwaresAreJudged, HalvingsAreJudged, IsJudged}
use Rattle.command_parts.specs.Judged.{HandlersAreJudged, ImagesAreJudged, TwosAreJudged}
use Rattle.command_parts.specs.Firmwares.{GivenBlocksHaveFirmware, GivesBlock, text_refusals}
use Rattle.command_parts.specs.{Certs.cert_in, Certs.halving_in, Twos.GivenBlocksHaveTwos, Twos.two_refusals}
use Rattle.command_parts.proofs.{Algebra.records_carry, CertLemmas.check_carries, CertLemmas.text_carries}
use Rattle.command_parts.proofs.NumberLemmas.{each_millionths}

some_parts : (width : Width) → 1 ≤ parts width
some_parts Byte = omega arith
some_parts Word = omega arith

-- ---- certificates and halvings

pub certs_judged : EachCertTextIsJudged → CertsAreJudged
certs_judged texts format block cert valid =
    let answer = texts block (parts format.width) format cert valid (some_parts format.width) in
    by_answer answer.0 answer.1
  where
    refused : (r : TextFault) → HasTextFault block (parts format.width) format cert r
        → (s : Status) × Refuses (cert_in format block cert).refuses s
    refused _ (of_text f has) =
        (status.Cert (told.Text f), (text_carries format cert f has, of_text f has))
    refused _ (of_cert c f spelled has) =
        (status.Cert (told.Check f), (check_carries block (parts format.width) c f has, of_cert c f spelled has))

    by_answer : (answer : Result (List ℕ) TextFault) → IsTextAnswer block (parts format.width) format cert answer
        → IsJudged (cert_in format block cert)
    by_answer (Ok errors) is = inl (errors, is)
    by_answer (Err r) is = inr (refused r is)

pub halvings_judged : EachBlockIsHalved → CellsAreOutOfReach → HalvingsAreJudged
halvings_judged blocks reach format targets block valid small =
    let answer = blocks format.kind block (parts format.width) (targets_of block targets) valid
    (some_parts format.width) (each_millionths block targets small) in
    by_answer answer.0 answer.1 answer.2
  where
    by_answer : (answer : Result Cert NotReached)
        → IsAnswerFor format.kind block (parts format.width) (targets_of block targets) answer
        → answer ≢ Err stop.Memory → IsJudged (halving_in format targets block)
    by_answer (Ok cert) is other = inl (cert, is)
    by_answer (Err s) is other = inr (
      status.NotReached s,
      (
        (λ e. other (ap Err e)),
        record {
          stops = is;
          out_of_reach = reach format.kind block (parts format.width) (targets_of block targets) s valid
              (some_parts format.width) is;
        },
      ),
    )

-- ---- texts

-- kinds of load faults, none of which is want of memory
abbrev fine_and : LoadFault → Type 0 → Type 0
fine_and load.Memory rest = ⊥
fine_and f rest = rest

abbrev AreFine : List ((ℕ → LoadFault) × List ℕ) → ℕ → Type 0
AreFine [] n = Unit {0}
AreFine (k ∷ ks) n = fine_and (k.0 n) (AreFine ks n)

both_fine : (f : LoadFault) (rest : Type 0) → fine_and f rest → (f ≢ load.Memory) × rest
both_fine load.Memory rest fine = absurd fine
both_fine f rest fine = (λ e. cc, fine)

no_memory : (ks : List ((ℕ → LoadFault) × List ℕ)) → ((n : ℕ) → AreFine ks n)
    → first (flat_map (λ k. map k.0 k.1) ks) ≡ Some load.Memory → ⊥
no_memory [] fine e = cc
no_memory (k ∷ ks) fine e =
    by_places (no_memory ks (λ n. (both_fine (k.0 n) (AreFine ks n) (fine n)).1)) k.1 e
  where
    by_places : (first (flat_map (λ k. map k.0 k.1) ks) ≡ Some load.Memory → ⊥) → (ns : List ℕ)
        → first (map k.0 ns ++ flat_map (λ k. map k.0 k.1) ks) ≡ Some load.Memory → ⊥
    by_places rest [] e = rest e
    by_places rest (n ∷ ns) e =
        (both_fine (k.0 n) (AreFine ks n) (fine n)).0 (let same : k.0 n ≡ load.Memory = cc in same)

load_carries : (text : List ℕ) (f : LoadFault) → HasLoadFault text f → f ≢ load.Memory
load_carries text f has e =
    no_memory (kinds (str_to_ascii_lowercase text) has.tree) (λ n. tt) (has.first ∙ ap (λ g. Some g) e)

first_many : (rules : List Rule) (n : ℕ) → n ≤ length rules → 512 < conjunction_count (take n rules)
    → (m : ℕ) × IsFirstTooMany rules m
first_many rules zero few over_it = absurd (omega (arith, over_it))
first_many rules (suc n) few over_it = elim (cases_lt 512 (conjunction_count (take n rules))) [
  | inl sooner ↦ first_many rules n (omega (arith, few)) sooner
  | inr before ↦
      let back : n ≡ suc n - 1 = omega arith in (
        suc n,
        record {
          from = omega arith;
          to = few;
          before = subst (λ k. conjunction_count (take k rules) ≤ 512) back before;
          over = over_it;
        },
      )
]

limits_or : (b : Block) → IsWithinLimits b ⊎ ((f : LayoutFault) × IsFaultOf b f × (f ≢ layout.Memory))
limits_or b = elim (cases_lt 512 (conjunction_count b.rules)) [
  | inl many ↦
      let m = first_many b.rules (length b.rules) (omega arith)
      (subst (λ rs. 512 < conjunction_count rs) (sym (take-length b.rules)) many) in
      inr (layout.TooManyRules m.0, m.1, λ e. (let z : ⊥ = cc in z))
  | inr few ↦ elim (cases_lt 9984 (list_size b)) [
    | inl long ↦ inr (
      layout.ListTooLong (list_size b),
      record { few_conjunctions = few; bytes = refl; over = long },
      λ e. (let z : ⊥ = cc in z),
    )
    | inr short ↦ inl (record { few_conjunctions = few; short_list = short })
  ]
]

pub blocks_judged : EachTextIsJudged → BlocksAreJudged
blocks_judged texts text few = elim (texts text few) [
  | inl (e, first_is) ↦ inr (status.Fcl (fcl.Syntax e), ((λ z. subst (IsFirstFault text) z first_is), first_is))
  | inr (inl (f, has)) ↦ inr (status.Fcl (fcl.Load f), (load_carries text f has, has))
  | inr (inr (block, spelled)) ↦ elim (limits_or block) [
    | inl limits ↦ inl (block, record { spelled = spelled; limits = limits })
    | inr (f, has, other) ↦ inr (status.Fcl (fcl.Layout f), (other, (block, spelled, has)))
  ]
]

pub firmwares_judged : BlocksAreJudged → GivenBlocksHaveFirmware → FirmwaresAreJudged
firmwares_judged blocks firmwares form text few = elim (blocks text few) [
  | inr refused ↦ inr refused
  | inl (block, gives) ↦
      let f = firmwares form text block gives in inl (record { block = block; firmware = f.0 }, f.1)
]

pub twos_judged : BlocksAreJudged → GivenBlocksHaveTwos → TwosAreJudged
twos_judged blocks twos slow_text fast_text slow_few fast_few = elim (blocks slow_text slow_few) [
  | inr (s, refused) ↦ inr (s, (refused.0, slow_refuses s refused.1))
  | inl (slow, slow_is) ↦ elim (blocks fast_text fast_few) [
    | inr (s, refused) ↦ inr (fast_refuses slow slow_is s refused.0 refused.1)
    | inl (quick, fast_is) ↦
        let two = twos slow_text fast_text slow quick slow_is fast_is in
        inl (record { slow = slow; fast = quick; two = two.0 }, two.1)
  ]
]
  where
    slow_refuses : (s : Status) → text_refusals slow_text s → two_refusals slow_text fast_text s
    slow_refuses (status.Fcl f) w = w
    slow_refuses s w = absurd w

    fast_refuses : (slow : Block) → GivesBlock slow_text slow → (s : Status) → CarriesNoMemory s → text_refusals fast_text s
        → (t : Status) × Refuses (two_refusals slow_text fast_text) t
    fast_refuses slow slow_is (status.Fcl f) carries w = (status.Fast (fast.Fcl f), (carries, ((slow, slow_is), w)))
    fast_refuses slow slow_is s carries w = absurd w

-- ---- handlers

image_carries : (image : List (ℕ × ℕ)) (f : HandlerFault) → IsFault image f → f ≢ handler.Memory
image_carries image f has e = subst (IsFault image) e has

pub handlers_judged : RecordsAreJudged → EachImageIsJudged → HandlersAreJudged
handlers_judged records images text = elim (records text) [
  | inr (f, has) ↦ inr (status.Image (image.Records f), (records_carry text f has, has))
  | inl (given, spelled) ↦ elim (images given.bytes) [
    | inl (instrs, is) ↦
        inl (record { image = given; handler = record { instrs = instrs } }, record { spelled = spelled; handler = is })
    | inr (f, has) ↦ inr (status.Handler f, (image_carries given.bytes f has, (given, spelled, has)))
  ]
]

-- ---- records that are to give an image

alike_or : (o p : Option ℕ) → (o ≡ p) ⊎ (o ≢ p)
alike_or None None = inl refl
alike_or None (Some n) = inr (λ e. (let z : ⊥ = cc in z))
alike_or (Some m) None = inr (λ e. (let z : ⊥ = cc in z))
alike_or (Some m) (Some n) = elim (cases_eq m n) [
  | inl same ↦ inl (ap (λ k. Some k) same)
  | inr other ↦ inr (λ e. other (let same : m ≡ n = cc in same))
]

module _ (xs ys : List (ℕ × ℕ)) where
  abbrev AreAlikeBelow : ℕ → Type 0
  AreAlikeBelow n = (q : ℕ) → q < n → byte_at xs q ≡ byte_at ys q

  below_or_first : (n : ℕ) → AreAlikeBelow n ⊎ ((at : ℕ) × IsFirstDifference xs ys at)
  below_or_first zero = inl (λ q l. absurd (omega arith))
  below_or_first (suc n) = elim (below_or_first n) [
    | inr found ↦ inr found
    | inl before ↦ elim (alike_or (byte_at xs n) (byte_at ys n)) [
      | inr differs ↦ inr (n, record { differs = differs; before = before })
      | inl same ↦ inl (λ q l. elim (cases_lt q n) [
        | inl less ↦ before q less
        | inr last ↦
            let e : n ≡ q = omega (arith, last, l) in subst (λ k. byte_at xs k ≡ byte_at ys k) e same
      ])
    ]
  ]

  alike_or_first : ((q : ℕ) → byte_at xs q ≡ byte_at ys q) ⊎ ((at : ℕ) × IsFirstDifference xs ys at)
  alike_or_first = elim (below_or_first ((highest xs).0 + (highest ys).0)) [
    | inr found ↦ inr found
    | inl before ↦ inl (λ q. elim (cases_lt q ((highest xs).0 + (highest ys).0)) [
      | inl less ↦ before q less
      | inr past ↦ (highest xs).1 q (omega (arith, past)) ∙ sym ((highest ys).1 q (omega (arith, past)))
    ])
  ]

pub images_judged : RecordsAreJudged → ImagesAreJudged
images_judged records text wanted = elim (records text) [
  | inr (f, has) ↦ inr (status.Image (image.Records f), (records_carry text f has, has))
  | inl (given, spelled) ↦ elim (alike_or_first given.bytes wanted.bytes) [
    | inr (at, first_is) ↦ inr (
      status.Image (image.Byte at (byte_at given.bytes at) (byte_at wanted.bytes at)),
      (tt, (given, spelled, first_is, refl, refl)),
    )
    | inl same ↦ elim (cases_eq given.start wanted.start) [
      | inr other ↦
          inr (status.Image (image.Start given.start wanted.start), (tt, (given, spelled, same, other, refl, refl)))
      | inl start ↦ inl (
        tt,
        record {
          given = spelled.given;
          lines_give = spelled.lines_give;
          bytes = λ q. sym (same q) ∙ spelled.bytes q;
          start = spelled.start ∙ ap (λ n. Some n) start;
        },
      )
    ]
  ]
]
