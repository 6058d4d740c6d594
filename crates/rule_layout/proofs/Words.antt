-- The names that most proofs of this crate cite, passed on from one place.
pub use Rattle.fuzzy_meaning.proofs.Algebra.{IsMonoid, evaluate_pushed_parts-take, part_falls, parts_fall}
pub use Rattle.fuzzy_meaning.specs.Conditions.{Condition, Conditions, all, also, any, conditions, end, is, negation}
pub use Rattle.fuzzy_meaning.specs.Conditions.{nodes, total_nodes}
pub use Rattle.rule_layout.specs.Layouts.{IsBelow, conjunction_count, conjunction_of, instruction_by, rule_conjunctions}
pub use Rattle.rule_layout.specs.Layouts.{rule_spread, rule_weights}
pub use Rattle.rule_layout.specs.Sizes.{IsCountable, IsSizeOf, IsSizeOfRules, IsSmall, entry_count, rule_entries}
pub use Rattle.rule_layout.specs.Slots.{complement_slot, conclusion_number, has_complement, input_terms}
pub use Rattle.rule_layout.specs.Slots.{is_complemented, is_same_slot, literal_number, literal_slot, number_in}
pub use Rattle.rule_layout.specs.Slots.{out_slot, output_terms, singleton_count, term_count, term_slot, terms_from}
pub use Rattle.rule_layout.specs.Spreading.{Literal, choices, spread_literal, spread_of, spread_parts, spreads}
pub use Rattle.rule_layout.specs.Spreading.{total_length}
pub use Rattle.rule_layout.specs.Steps.{IsSpreadable, table_conjunction, table_conjunctions, with_conclusions}
pub use Rattle.rule_layout.specs.Tables.{AreUsed, IsInTable, IsNumbering, is_marked, place_of, table_literal}
pub use Rattle.rule_layout.specs.Tables.{table_literals, table_number}
pub use Rattle.std.proofs.Common.{Bool, Global, List, None, Ok, Option, Some, Vec, [], add-one, ap, append_assoc, ap₂}
pub use Rattle.std.proofs.Common.{arith, drop, false, filter, get_or, inl, inr, length, map, max, min, not, refl}
pub use Rattle.std.proofs.Common.{replicate, rules, subst, suc, sym, take, true, zero, ℕ, ⊎_elim, ◌*◌, ◌++◌, ◌+◌, ◌-◌}
pub use Rattle.std.proofs.Common.{◌<◌, ◌||◌, ◌∙◌, ◌∷◌, ◌≡◌, ◌≢◌, ◌≤◌, ◌⊎◌}
pub use Rattle.std.proofs.lemmas.List.Elements.{All-append, All-cons, All-head, All-map, All-nil, All-tail}
pub use Rattle.std.proofs.lemmas.List.{append-nil, drop_more, get_or-map, length-append, length-map, length-take}
pub use Rattle.std.proofs.lemmas.List.{map-append, take_all, take_more}
pub use Rattle.std.specs.Prelude.{All, IsSomeAnd, flat_map, nat_le, slice_get, sum_by, ◌&&◌, ◌==◌}
pub use Rattle.byte_scaling.specs.{Weights.weight_byte_of}
pub use Rattle.fuzzy_meaning.specs.{Blocks.HasSingleton, Blocks.HasTerm, Blocks.IsValid, Trees.tree}
pub use Rattle.fuzzy_meaning.specs.{declared.block.Block.Block, declared.block.Rule.Rule}
pub use Rattle.fuzzy_meaning.specs.{declared.condition.Node.Node, declared.condition.Node.TheVariants.And}
pub use Rattle.fuzzy_meaning.specs.{declared.condition.Node.TheVariants.Or}
pub use Rattle.rule_layout.specs.{Grid.AllFitGrid, Grid.FitsGrid, Grid.IsInGrid, Lists.at_address, Lists.marked}
pub use Rattle.rule_layout.specs.{Truths.greatest_conjunction, Truths.least_literal}
pub use Rattle.rule_layout.specs.{declared.flat.Conjunction.Conjunction, declared.flat.Flat.Flat}
pub use Rattle.rule_layout.specs.{declared.flat.RuleInstruction.TheVariants.Rev, declared.flat.RuleInstruction.TheVariants.Revw}
pub use Rattle.rule_layout.specs.{declared.flat.Slot.Slot, declared.flat.Slot.TheVariants.Complement}
pub use Rattle.rule_layout.specs.{declared.flat.Slot.TheVariants.Out, declared.flat.Slot.TheVariants.Term}
pub use Rattle.rule_layout.specs.{declared.sizes.Size.Size}
pub use Rattle.std.proofs.{Math.Nat.mul-le-mul_left, Math.Nat.mul-le-mul_right, lemmas.Bool.Decides.nat_tests}
pub use Rattle.std.proofs.{lemmas.Bool.false≢true, lemmas.List.Sums.sum_by-append, lemmas.List.Sums.sum_by-cons}
pub use Rattle.std.specs.{List.list_any, List.range_with_len}
unfoldable pub use Rattle.rule_layout.specs.Layouts.{conjunctions_of, flat_of, instruction_of, weights_of}
unfoldable pub use Rattle.rule_layout.specs.{Slots.slots_of}
