-- Records that give an image are not refused, and others are refused in one way.
use Rattle.std.proofs.Common.{◌≡◌, ◌<◌, ℕ, List, ◌∙◌, ap, arith, inl, inr, sym}
use Rattle.std.proofs.lemmas.Bool.{cases_lt}
use Rattle.cpu12_asm.specs.{Bytes.IsFirstDifference, Bytes.byte_at, declared.image.Image.Image}
use Rattle.fz_status.specs.declared.status.ImageFault.{ImageFault}
use Rattle.fz_status.specs.declared.status.ImageFault.TheVariants as fault
use Rattle.srecord.specs.{Laws.FaultsAreOne, Laws.ImagesAreOne, Laws.ImagesHaveNoFault, Texts.GivesImage}
use Rattle.command_parts.specs.Images.{RefusesImage, RefusesRecords}

pub records_apart : (good : ImagesHaveNoFault) (text : List ℕ) (image : Image) (f : ImageFault) → GivesImage text image
    → RefusesRecords text f → ⊥
records_apart good text image (fault.Records f) gives refuses = good text image f gives refuses
records_apart good text image (fault.Byte at got wanted) gives refuses = refuses
records_apart good text image (fault.Start got wanted) gives refuses = refuses

pub images_apart : ImagesAreOne → ImagesHaveNoFault → (records : List ℕ) (wanted : Image) (f : ImageFault)
    → GivesImage records wanted → RefusesImage records wanted f → ⊥
images_apart one good records image (fault.Records f) is why = good records image f is why
images_apart one good records image (fault.Byte at got wanted) is why =
    why.2.differs ((one records why.0 image why.1 is).1 at)
images_apart one good records image (fault.Start got wanted) is why =
    why.3 (why.4 ∙ (one records why.0 image why.1 is).0 ∙ sym why.5)

-- ---- the first difference from the image that is wanted is one

no_sooner : (given other wanted : List (ℕ × ℕ)) → ((q : ℕ) → byte_at given q ≡ byte_at other q) → (at to : ℕ)
    → IsFirstDifference given wanted at → IsFirstDifference other wanted to → at < to → ⊥
no_sooner given other wanted same at to a b less = a.differs (same at ∙ b.before at less)

places_are_one : (given other wanted : List (ℕ × ℕ)) → ((q : ℕ) → byte_at given q ≡ byte_at other q) → (at to : ℕ)
    → IsFirstDifference given wanted at → IsFirstDifference other wanted to → at ≡ to
places_are_one given other wanted same at to a b = elim (cases_lt at to) [
  | inl less ↦ absurd (no_sooner given other wanted same at to a b less)
  | inr up ↦ elim (cases_lt to at) [
    | inl less ↦ absurd (no_sooner other given wanted (λ q. sym (same q)) to at b a less)
    | inr down ↦ omega (arith, up, down)
  ]
]

pub image_faults_are_one : FaultsAreOne → ImagesAreOne → ImagesHaveNoFault → (records : List ℕ) (wanted : Image)
    (f g : ImageFault) → RefusesImage records wanted f → RefusesImage records wanted g → f ≡ g
image_faults_are_one faults one good records wanted (fault.Records f) (fault.Records g) v w =
    ap fault.Records (faults records f g v w)
image_faults_are_one faults one good records wanted (fault.Records f) (fault.Byte at got byte) v w =
    absurd (good records w.0 f w.1 v)
image_faults_are_one faults one good records wanted (fault.Records f) (fault.Start got start) v w =
    absurd (good records w.0 f w.1 v)
image_faults_are_one faults one good records wanted (fault.Byte at got byte) (fault.Records g) v w =
    absurd (good records v.0 g v.1 w)
image_faults_are_one faults one good records wanted (fault.Start got start) (fault.Records g) v w =
    absurd (good records v.0 g v.1 w)
image_faults_are_one faults one good records wanted (fault.Byte at got byte) (fault.Start there start) v w =
    absurd (v.2.differs ((one records v.0 w.0 v.1 w.1).1 at ∙ w.2 at))
image_faults_are_one faults one good records wanted (fault.Start there start) (fault.Byte at got byte) v w =
    absurd (w.2.differs ((one records w.0 v.0 w.1 v.1).1 at ∙ v.2 at))
image_faults_are_one faults one good records wanted (fault.Byte at got byte) (fault.Byte to other wants) v w =
    let same = (one records v.0 w.0 v.1 w.1).1 in
    let place : at ≡ to = places_are_one v.0.bytes w.0.bytes wanted.bytes same at to v.2 w.2 in
    let gives : got ≡ other = v.3 ∙ same at ∙ ap (byte_at w.0.bytes) place ∙ sym w.3 in
    let asks : byte ≡ wants = v.4 ∙ ap (byte_at wanted.bytes) place ∙ sym w.4 in
    (λ i. fault.Byte (place i) (gives i) (asks i))
image_faults_are_one faults one good records wanted (fault.Start got start) (fault.Start other begins) v w =
    let gives : got ≡ other = v.4 ∙ (one records v.0 w.0 v.1 w.1).0 ∙ sym w.4 in
    let asks : start ≡ begins = v.5 ∙ sym w.5 in
    (λ i. fault.Start (gives i) (asks i))
