-- Known bytes of readers.
use Rattle.std.proofs.Common.{arith, ◌≡◌, ◌<◌, ℕ, List, length, take, ap, ◌∙◌}
use Rattle.std.specs.Prelude.{Option, Some, None, IfSome, option_map}
use Rattle.std.proofs.lemmas.List.{length-take, take_all}

-- fewer bytes than were asked for are all
pub all_of_taken : (known : Option (List ℕ)) (n : ℕ) (bytes : List ℕ) → IfSome (option_map (take n) known)
    (λ xs. bytes ≡ xs) → length bytes < n → IfSome known (λ xs. bytes ≡ xs)
all_of_taken None n bytes h l = tt
all_of_taken (Some xs) n bytes h l = h ∙ take_all n xs (omega (arith, ap length h, length-take n xs))
