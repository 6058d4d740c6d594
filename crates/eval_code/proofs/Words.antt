-- The names that most proofs of this crate cite, passed on from one place.
pub use Rattle.cpu12_asm.specs.Items.{IsRising, IsRisingFrom, given_by, given_from, item_bytes, place_after}
pub use Rattle.cpu12_asm.specs.Items.{place_behind}
pub use Rattle.cpu12_isa.specs.Fits.{AreBytes, EncodedAreBytes, FitsRegs, StaysFit}
pub use Rattle.cpu12_isa.specs.declared.instr.Instr.TheVariants.{Andcc, Beq, Bra, ClrExtended, Coma, CpxImmediate}
pub use Rattle.cpu12_isa.specs.declared.instr.Instr.TheVariants.{Ediv, LdaaExtended, LdaaImmediate, LdabImmediate}
pub use Rattle.cpu12_isa.specs.declared.instr.Instr.TheVariants.{LdxImmediate, LdyImmediate, Mem, Orcc, StaaExtended}
pub use Rattle.cpu12_isa.specs.declared.instr.Instr.TheVariants.{StabExtended, TransferYD}
pub use Rattle.cpu12_parts.specs.Rules.{element_bytes, elements_of, named, rules_target}
pub use Rattle.eval_code.specs.Bounds.{complement_count, element_count, entry_count, revw_bound, input_term_count}
pub use Rattle.eval_code.specs.Bounds.{output_bound, output_term_count}
pub use Rattle.eval_code.specs.Code.{block_code, eval_code, eval_code_over, fuzzify_code, input_slots}
pub use Rattle.eval_code.specs.Code.{output_code, outputs_code, quotient_code, rules_code, slots_code, terms_before}
pub use Rattle.eval_code.specs.Data.{bytes_of_word, rule_bytes, rule_bytes_by, singleton_bytes, singleton_bytes_of}
pub use Rattle.eval_code.specs.Data.{table_bytes, weight_bytes, weight_bytes_by}
pub use Rattle.eval_code.specs.Evaluation.{HasBytes, HasEval, Reads, Writes, put}
pub use Rattle.eval_code.specs.Firing.{AreInputBytes, RulesGiveMasses, fired, least_of, raised_to, slot_before}
pub use Rattle.eval_code.specs.Firing.{slots_after, slots_before}
pub use Rattle.fuzzy_meaning.specs.Blocks.{IsValid, IsValidInput, IsValidOutput, IsWithin}
pub use Rattle.rule_layout.specs.Layouts.{IsBelow, IsWithinLimits, LayoutLaw, conjunction_count, element_width}
pub use Rattle.rule_layout.specs.Layouts.{instruction_of, rule_spread}
pub use Rattle.rule_layout.specs.Lists.{at_address, list_bytes, list_words, marked}
pub use Rattle.rule_layout.specs.Slots.{complement_slot, input_terms, number_in, out_slot, output_terms}
pub use Rattle.rule_layout.specs.Slots.{singleton_count, term_count, term_slot, terms_from}
pub use Rattle.std.proofs.Common.{All, Bool, List, None, Ok, Option, Some, [], ap, append-nil, append_assoc, ap₂}
pub use Rattle.std.proofs.Common.{arith, cond, div-lt_iff_lt-mul, drop, false, flat_map, get_or, get_or-set_other}
pub use Rattle.std.proofs.Common.{get_or-set_same, inl, inr, length, length-append, length-drop, length-set}
pub use Rattle.std.proofs.Common.{length-take, map, max, min, nat_cmp, nat_lt, option_map, refl, replicate, set}
pub use Rattle.std.proofs.Common.{slice_get, subst, subst₂, suc, sum_by, sym, take, take-append-drop, take_at, true}
pub use Rattle.std.proofs.Common.{zero, ℕ, ⊎_elim, ◌%◌, ◌*◌, ◌++◌, ◌+◌, ◌-◌, ◌/◌, ◌<◌, ◌^◌, ◌||◌, ◌∙◌, ◌∷◌, ◌≡◌, ◌≢◌}
pub use Rattle.std.proofs.Common.{◌≤◌, ◌⊎◌}
pub use Rattle.byte_scaling.specs.{Cells.NearestIsByte, Cells.nearest_byte, Widths.parts, Widths.places}
pub use Rattle.byte_scaling.specs.{declared.width.Width.TheVariants.Word, declared.width.Width.Width}
pub use Rattle.cpu12_asm.proofs.{Algebra.byte_at-append, Algebra.byte_at-placed, Algebra.or_else}
pub use Rattle.cpu12_asm.specs.{Bytes.byte_at, Bytes.placed, Laws.GiveBytes, declared.items.Item.Item}
pub use Rattle.cpu12_asm.specs.{declared.items.Item.TheVariants.Byte, declared.items.Item.TheVariants.Op}
pub use Rattle.cpu12_asm.specs.{declared.items.Item.TheVariants.Place}
pub use Rattle.cpu12_emul.specs.{Image.HoldsImage, Image.byte_or_zero, Image.image_memory}
pub use Rattle.cpu12_isa.proofs.{Algebra.fits_opened, Algebra.fits_put}
pub use Rattle.cpu12_isa.specs.{Agreement.AgreeFrom, Code.code_bytes, Code.decode_at, Code.encode_of, Code.six_from}
pub use Rattle.cpu12_isa.specs.{Flags.has, Flags.opened, Memory.from, Memory.plus, Plain.interrupt_masks}
pub use Rattle.cpu12_isa.specs.{Regions.stack_end}
pub use Rattle.cpu12_isa.specs.{declared.instr.Ccr.Ccr, declared.instr.Instr.Instr, declared.instr.Regs.Regs}
pub use Rattle.cpu12_parts.specs.{Averages.dot, Averages.total, Parts.weighted, State.State, Touching.Each}
pub use Rattle.cpu12_parts.specs.{Whole.after_plain}
pub use Rattle.eval_code.specs.{Items.IsApart, Items.bytes_at, Items.code_at}
pub use Rattle.eval_code.specs.{Standing.DecodesWhereItStands, Widths.answer, Widths.bytes_of}
pub use Rattle.eval_code.specs.{declared.memory_map.MemoryMap.MemoryMap}
pub use Rattle.fuzzy_meaning.specs.{declared.block.Block.Block, declared.block.Input.Input}
pub use Rattle.fuzzy_meaning.specs.{declared.block.Output.Output, declared.block.Rule.Rule}
pub use Rattle.fuzzy_meaning.specs.{declared.block.Trapezoid.Trapezoid}
pub use Rattle.fz_num.specs.{declared.dec.Dec.Dec}
pub use Rattle.point_slope.specs.{Bytes.byte_mass, Bytes.literal_grade, Tables.grade_of, Tables.row_of}
pub use Rattle.point_slope.specs.{Tables.rows_of}
pub use Rattle.rule_layout.specs.{declared.flat.Conjunction.Conjunction, declared.flat.RuleInstruction.RuleInstruction}
pub use Rattle.rule_layout.specs.{declared.flat.Slot.Slot, declared.flat.Slot.TheVariants.Complement}
pub use Rattle.rule_layout.specs.{declared.flat.Slot.TheVariants.Out, declared.flat.Slot.TheVariants.Term}
pub use Rattle.std.proofs.{lemmas.Bool.Decides.nat_tests, lemmas.Bool.cases_eq, lemmas.Bool.cases_lt}
pub use Rattle.std.proofs.{lemmas.Grind.flat_map-append, lemmas.List.Elements.All-get_or}
pub use Rattle.std.proofs.{lemmas.List.Elements.All-nil, lemmas.List.FromFn.length-range_with_len}
pub use Rattle.std.proofs.{lemmas.List.Sums.sum_by-cons, lemmas.List.Sums.sum_by-le, lemmas.List.length-map}
pub use Rattle.std.proofs.{lemmas.List.map-append, lemmas.List.set-get_or}
pub use Rattle.std.specs.{BTreeMap.is_at, List.range_with_len, Option.option_map_or, Prelude.if◌then◌else◌}
pub use Rattle.std.specs.{Prelude.◌==◌}
unfoldable pub use Rattle.rule_layout.specs.Layouts.{conjunctions_of, flat_of, list_size, weights_of}
unfoldable pub use Rattle.eval_code.specs.{Bounds.instruction_bound, Bounds.steps_by, Items.block_items}
unfoldable pub use Rattle.rule_layout.specs.{Slots.slots_of}
