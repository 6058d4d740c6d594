-- The names that most proofs of this crate cite, passed on from one place.
pub use Rattle.cpu12_emul.specs.Step.{Left, Next, applied, next_of}
pub use Rattle.cpu12_isa.proofs.Algebra.{bit, unwritten}
pub use Rattle.cpu12_isa.specs.Code.{Begins, DecodesEncoded, FitCode, FitsOperands, StandsAt, code_bytes, decode_at}
pub use Rattle.cpu12_isa.specs.Code.{encode_of, six_from}
pub use Rattle.cpu12_isa.specs.Memory.{bytes_at, placed, plus, word_of}
pub use Rattle.cpu12_isa.specs.declared.instr.Instr.TheVariants.{Bcc, Bcs, Beq, Bne, Bra}
pub use Rattle.cpu12_isa.specs.declared.instr.Instr.TheVariants.{LdaaImmediate, Psha, Pula, Rti}
pub use Rattle.handler_check.specs.Cut.{HasCode, IsAt, IsFrom, code_end, code_limit, code_start, size_of}
pub use Rattle.handler_check.specs.Faults.{Applies, IsFirst, IsFirstFault, Meets, place_of, rank}
pub use Rattle.handler_check.specs.Images.{Gives, IsCut, IsFault, IsHandler, IsOutside, IsWhole, is_trapped}
pub use Rattle.handler_check.specs.Judging.{AreFirsts, AreJudged, Has, Passes}
pub use Rattle.handler_check.specs.Paths.{FitsHeight, GoesForward, IsIn, Path, branches_to, falls_to, height_after}
pub use Rattle.handler_check.specs.Paths.{Fits, IsForward, falls, given, height_behind, is_allowed, kind_of, leads}
pub use Rattle.handler_check.specs.Paths.{target, targets, writes, written_by}
pub use Rattle.handler_check.specs.declared.kinds.Kind.TheVariants.{Branches, Jumps, Pulls, Pushes, Returns, Writes}
pub use Rattle.handler_check.specs.Running.{AcceptedIsTake, CanBegin, HandlersRunAsTakes, HasHandler, Returned}
pub use Rattle.handler_check.specs.Running.{at_code, step_limit}
pub use Rattle.handler_check.specs.declared.faults.HandlerFault.TheVariants.{Backward, Dead, Empty, Falls, Height}
pub use Rattle.handler_check.specs.declared.faults.HandlerFault.TheVariants.{Memory, NotFree, Outside, Refused}
pub use Rattle.handler_check.specs.declared.faults.HandlerFault.TheVariants.{Target, Trap}
pub use Rattle.std.proofs.Common.{Bool, List, None, Ok, Option, Result, Some, [], ap, arith, false, get_or}
pub use Rattle.std.proofs.Common.{inl, inr, length, length-append, nat_le, nat_lt, refl, replicate, subst, suc, sym}
pub use Rattle.std.proofs.Common.{take, true, unwrap_or, zero, ℕ, ◌%◌, ◌&&◌, ◌++◌, ◌+◌, ◌-◌, ◌<◌, ◌^◌, ◌||◌, ◌∙◌, ◌∷◌}
pub use Rattle.std.proofs.Common.{◌≡◌, ◌≢◌, ◌≤◌, ◌⊎◌}
pub use Rattle.std.proofs.lemmas.Bool.{cases_eq, cases_lt, false≢true, or_parts}
pub use Rattle.std.specs.Prelude.{IsSome, if◌then◌else◌, is_some, slice_get, ◌==◌}
pub use Rattle.cpu12_asm.specs.{Bytes.byte_at}
pub use Rattle.cpu12_emul.specs.{Simulation.AreOpen, Simulation.TakesQuietly, Take.framed, Take.pairs_of}
pub use Rattle.cpu12_emul.specs.{Take.returned, declared.ends.Stepped.TheVariants.Plain}
pub use Rattle.cpu12_isa.specs.{Act.write_all, Agreement.Agree, Agreement.IsWritten, Agreement.WritesAgree}
pub use Rattle.cpu12_isa.specs.{Meaning.effect, Regions.is_free, Regions.is_hidden}
pub use Rattle.cpu12_isa.specs.{Registers.frame_bytes, Registers.pulled}
pub use Rattle.cpu12_isa.specs.{declared.instr.Instr.Instr, declared.instr.Regs.Regs, declared.instr.Write.Write}
pub use Rattle.cpu12_parts.specs.{Laws.IsOff, Laws.addresses, State.State, declared.temps.Temps.Temps}
pub use Rattle.handler_check.specs.{Accepted.IsAccepted, Accepted.May, PathSummaries.IsSummary, PathSummaries.led_all}
pub use Rattle.handler_check.specs.{PathSummaries.summary_at, declared.faults.HandlerFault.HandlerFault}
pub use Rattle.handler_check.specs.{declared.path_summaries.PathSummary.PathSummary, declared.kinds.Kind.Kind}
pub use Rattle.std.proofs.{Math.ListN.set, lemmas.Bool.Decides.nat_tests, lemmas.List.length-set}
unfoldable pub use Rattle.handler_check.specs.{Running.until_rti}
