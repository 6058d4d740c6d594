-- What is judged of an image's cut is said of the image.
use Rattle.handler_check.proofs.Words.{◌∙◌, ◌≡◌, ◌≢◌, Bool, false, HandlerFault, HandlersRunAsTakes, Instr}
use Rattle.handler_check.proofs.Words.{is_trapped, IsAccepted, IsCut, IsFault, IsFirstFault, IsHandler, IsWhole, List}
use Rattle.handler_check.proofs.Words.{Memory, ℕ}
use Rattle.handler_check.specs.{declared.faults.Handler.Handler, Running.RunsAsTakes}
use Rattle.std.specs.Prelude.{Result, Ok, Err, IfOk, IfErr}
use Rattle.handler_check.proofs.Extents.{fault_is}

pub accepted_by : (image : List (ℕ × ℕ)) (is : List Instr) (trapped : Bool) (r : Result Handler HandlerFault)
    → IsWhole image → IsCut image is → is_trapped image is ≡ trapped → IfOk r (λ h. trapped ≡ false)
    → IfOk r (λ h. IsAccepted is h.instrs)
    → IfOk r (λ h. IsHandler image h.instrs)
accepted_by image is trapped (Ok h) w c t e a = record { whole = w; code = is; cut = c; ends = t ∙ e; accepted = a }
accepted_by image is trapped (Err f) w c t e a = tt

pub fault_by : (image : List (ℕ × ℕ)) (is : List Instr) (trapped : Bool) (r : Result Handler HandlerFault)
    → IsWhole image → IsCut image is → is_trapped image is ≡ trapped
    → IfErr r (λ f. f ≢ Memory → IsFirstFault is trapped f)
    → IfErr r (λ f. f ≢ Memory → IsFault image f)
fault_by image is trapped (Ok h) w c t a = tt
fault_by image is trapped (Err f) w c t a = λ n. fault_is image is trapped w c t f (a n)

pub takes_by : HandlersRunAsTakes → (image : List (ℕ × ℕ)) (r : Result Handler HandlerFault)
    → IfOk r (λ h. IsHandler image h.instrs) → IfOk r (λ h. RunsAsTakes image h.instrs)
takes_by law image (Ok h) k = law image h.instrs k
takes_by law image (Err f) k = tt
