-- The names that most proofs of this crate cite, passed on from one place.
pub use Rattle.cpu12_isa.specs.declared.instr.Instr.TheVariants.{Beq, Bra, JsrExtended, LdaaExtended, MovbExtended}
pub use Rattle.cpu12_isa.specs.declared.instr.Instr.TheVariants.{Orcc}
pub use Rattle.firmware_code.specs.Settings.{Here, Lives, Setting, Stands}
pub use Rattle.mailbox_code.specs.Mailboxes.{call_code, copy_code, is_postable, mailbox_bound, mailbox_code}
pub use Rattle.mailbox_code.specs.Mailboxes.{mailbox_items, mailbox_map}
pub use Rattle.mailbox_code.specs.Turns.{IsAt, IsChoice, IsCopied, IsLook, IsMaskedStep, MailboxTakesPosts, TakesTurns}
pub use Rattle.std.proofs.Common.{Bool, List, [], ap, ap₂, arith, false, get_or, get_or-set_other, get_or-set_same, inl}
pub use Rattle.std.proofs.Common.{inr, length, length-append, nat_lt, refl, set, subst, suc, sym, true, zero, ℕ, ◌*◌}
pub use Rattle.std.proofs.Common.{◌++◌, ◌+◌, ◌-◌, ◌<◌, ◌^◌, ◌∙◌, ◌∷◌, ◌≡◌, ◌≤◌, ◌⊎◌}
pub use Rattle.byte_scaling.specs.{Widths.places, declared.width.Width.Width}
pub use Rattle.cpu12_asm.specs.{Items.IsRising}
pub use Rattle.cpu12_emul.specs.{Image.image_memory}
pub use Rattle.cpu12_isa.specs.{Flags.has, Memory.plus, Regions.is_free, declared.instr.Instr.Instr}
pub use Rattle.cpu12_parts.proofs.{Algebra.execution_on}
pub use Rattle.cpu12_parts.specs.{Executions.Execution, State.State, Whole.after_plain}
pub use Rattle.eval_code.specs.{Evaluation.HasAnswers, Evaluation.HasBytes, Firing.AreInputBytes, Items.IsApart}
pub use Rattle.eval_code.specs.{Widths.bytes_of, declared.memory_map.MemoryMap.MemoryMap}
pub use Rattle.fuzzy_meaning.specs.{Blocks.IsValid, declared.block.Block.Block}
pub use Rattle.mailbox_code.specs.{Laws.LowerLaws}
pub use Rattle.rule_layout.specs.{Layouts.IsWithinLimits}
pub use Rattle.std.proofs.{lemmas.Bool.Decides.nat_tests}
pub use Rattle.std.specs.{Prelude.if◌then◌else◌, Prelude.◌==◌}
unfoldable pub use Rattle.eval_code.specs.{Bounds.steps_by}
