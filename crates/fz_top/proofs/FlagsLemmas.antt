-- FLAGS of a command is a byte.
use Rattle.std.proofs.Common.{◌≡◌, ◌<◌, ◌^◌, ℕ, List, refl, subst, arith}
use Rattle.std.specs.Prelude.{Option, Some, None, option_and_then, option_map}
use Rattle.fz_status.specs.Words.{Text, word_at, flags_of}
use Rattle.command_parts.specs.Words.{FlagsAreBytes}
use Rattle.build_commands.specs.{Certify.certify_in, Check.check_in, Compile.compile_in, Exec.exec_in}
use Rattle.run_commands.specs.{Debug.debug_with, Generate.generate_in, Run.run_with}
use Rattle.form_commands.specs.Forms.{form_run}
use Rattle.fz_top.specs.{Accepted.run_flags, Commands.command_in, Commands.command_named, Commands.name_in}
use Rattle.fz_top.specs.declared.{command.Command.Command, command.Name.Name}
use Rattle.fz_top.specs.declared.command.Command.TheVariants.{Asm, Certify, Check, Compile, Debug, Exec, Generate}
use Rattle.fz_top.specs.declared.command.Command.TheVariants.{Hcheck, Hrun, Lcompile, Lrun, Mrun, Run, Srun}
use Rattle.fz_top.specs.declared.command.Name.TheVariants as name

-- a command that is made of FLAGS
of_flags : FlagsAreBytes → {C : Type 0} (outer : C → Command) (inner : ℕ → C) (text : List ℕ) (command : Command)
    → ((n : ℕ) → run_flags (outer (inner n)) ≡ n) → option_map outer (option_map inner (flags_of text)) ≡ Some command
    → run_flags command < 2 ^ 8
of_flags bytes {C} outer inner text command has is = go (flags_of text) refl is
  where
    go : (o : Option ℕ) → flags_of text ≡ o → option_map outer (option_map inner o) ≡ Some command
        → run_flags command < 2 ^ 8
    go None e h = absurd (let bad : None ≡ Some command = h in cc)
    go (Some n) e h = (let same : outer (inner n) ≡ command = cc in
        subst (λ (c : Command). run_flags c < 2 ^ 8) same (omega (arith, has n, bytes text n e)))

-- one that has none
without : {C : Type 0} (outer : C → Command) (o : Option C) (command : Command) → ((c : C) → run_flags (outer c) ≡ 0)
    → option_map outer o ≡ Some command → run_flags command < 2 ^ 8
without outer None command none h = absurd (let bad : None ≡ Some command = h in cc)
without outer (Some c) command none h = (let same : outer c ≡ command = cc in
    subst (λ (d : Command). run_flags d < 2 ^ 8) same (omega (arith, none c)))

alone : (named command : Command) → run_flags named ≡ 0 → Some named ≡ Some command → run_flags command < 2 ^ 8
alone named command none h = (let same : named ≡ command = cc in
    subst (λ (d : Command). run_flags d < 2 ^ 8) same (omega (arith, none)))

byte_form : FlagsAreBytes → (n : Name) (words : List Text) (command : Command) → command_named n words ≡ Some command
    → run_flags command < 2 ^ 8
unfolding command_named
byte_form bytes name.Asm words command is = alone Asm command refl is
byte_form bytes (name.Certify format) words command is = without Certify (certify_in format words) command (λ c. refl) is
byte_form bytes (name.Check format) words command is = alone (Check (check_in format)) command refl is
byte_form bytes (name.Compile form) words command is = alone (Compile (compile_in form)) command refl is
byte_form bytes name.Debug words command is = of_flags bytes Debug debug_with (word_at words 6) command (λ n. refl) is
byte_form bytes name.Exec words command is = without Exec (exec_in words) command (λ c. refl) is
byte_form bytes name.Generate words command is = without Generate (generate_in words) command (λ c. refl) is
byte_form bytes name.Hcheck words command is = alone Hcheck command refl is
byte_form bytes (name.Hrun kind) words command is =
    of_flags bytes Hrun (form_run kind) (word_at words 7) command (λ n. refl) is
byte_form bytes name.Lcompile words command is = alone Lcompile command refl is
byte_form bytes (name.Lrun kind) words command is =
    of_flags bytes Lrun (form_run kind) (word_at words 10) command (λ n. refl) is
byte_form bytes (name.Mrun kind) words command is =
    of_flags bytes Mrun (form_run kind) (word_at words 7) command (λ n. refl) is
byte_form bytes (name.Run format) words command is =
    of_flags bytes Run (run_with format) (word_at words 7) command (λ n. refl) is
byte_form bytes (name.Srun kind) words command is =
    of_flags bytes Srun (form_run kind) (word_at words 8) command (λ n. refl) is

pub byte_flags : FlagsAreBytes → (words : List Text) (command : Command)
    → command_in words ≡ Some command → run_flags command < 2 ^ 8
byte_flags bytes words command is = go (name_in words) is
  where
    go : (o : Option Name) → option_and_then (λ n. command_named n words) o ≡ Some command → run_flags command < 2 ^ 8
    go None h = absurd (let bad : None ≡ Some command = h in cc)
    go (Some n) h = byte_form bytes n words command h
