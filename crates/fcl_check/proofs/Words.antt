-- The names that most proofs of this crate cite, passed on from one place.
pub use Rattle.fcl_check.specs.ByLetters.{HoldsSections, at_letters, count_of, names_of, variable_in}
pub use Rattle.fcl_check.specs.Faults.{Pair, and_pairs, ands_pairs, conclusions_of, direction, first_fault}
pub use Rattle.fcl_check.specs.Faults.{is_declared_as, is_over, is_some_direction, is_whole, kinds, line_at}
pub use Rattle.fcl_check.specs.Faults.{missing_part, mistaken, mistaken_in, mistaken_section, not_pairs, nots_pairs}
pub use Rattle.fcl_check.specs.Faults.{or_pairs, output_line_at, repeated, repeated_lines, repeated_section}
pub use Rattle.fcl_check.specs.Faults.{rule_line_at, same_declared, same_rule_line, same_section, too_many, twice}
pub use Rattle.fcl_check.specs.Faults.{unknown, unknown_in, unknown_pair, unknown_section, weight_outside}
pub use Rattle.fcl_check.specs.Faults.{without_section, wrong_side}
pub use Rattle.fcl_check.specs.Loaded.{IsBlockOf, IsInputNamed, IsInputOf, IsOutputNamed, IsOutputOf, IsRuleOf}
pub use Rattle.fcl_check.specs.Loaded.{IsTermOf, IsVariableNamed, abscissa_of, and_condition, ands_conditions}
pub use Rattle.fcl_check.specs.Loaded.{conclusion_of, default_number, given_or, input_range, literal_of}
pub use Rattle.fcl_check.specs.Loaded.{not_condition, nots_conditions, number_of, or_condition, or_zero, output_hull}
pub use Rattle.fcl_check.specs.Loaded.{output_range, widened}
pub use Rattle.fcl_check.specs.Names.{Declared, as_defuzzify, as_fuzzify, declared_as, declared_by, declared_in}
pub use Rattle.fcl_check.specs.Names.{is_direction, is_named, letters, number_in, section_name, section_of}
pub use Rattle.fcl_check.specs.Names.{singleton_names, singleton_of, singletons_of, term_names, term_number, term_of}
pub use Rattle.fcl_check.specs.Names.{terms_of, variable_number}
pub use Rattle.fcl_check.specs.Places.{at_each, at_if, at_some, drop_while, first, last}
pub use Rattle.fcl_check.specs.Sections.{Ends, abscissas, bad_fuzzy_range, bad_range, default_line, default_of}
pub use Rattle.fcl_check.specs.Sections.{defuzzy_range, empty_range, ends_of, fallback_number, falling_in}
pub use Rattle.fcl_check.specs.Sections.{falling_points, fuzzy_range, has_one, has_shape, has_zero, hull_of}
pub use Rattle.fcl_check.specs.Sections.{incomplete, is_empty_range, lies_in, method_line, number_line}
pub use Rattle.fcl_check.specs.Sections.{numbers_outside, output_numbers, output_range_line, outside_in, points_of}
pub use Rattle.fcl_check.specs.Sections.{points_outside, range_line, reach, shapeless_terms, terms_over_limit, value}
pub use Rattle.fcl_check.specs.Sections.{without_terms, x_of}
pub use Rattle.fcl_check.specs.WellFormed.{HasSection, IsKnown, IsWellFormedDefuzzify, IsWellFormedFuzzify}
pub use Rattle.fcl_check.specs.WellFormed.{IsWellFormedRule}
pub use Rattle.fcl_syntax.specs.Annotations.{IsClean, Sym, either_text, plain}
pub use Rattle.fcl_syntax.specs.Grammar.{TAnd, TAnds, TNot, TNots, TOr, and_of, and_text, ands_text, behind}
pub use Rattle.fcl_syntax.specs.Grammar.{block_text, conclusion_text, conclusions_text, each, end_text, group, is}
pub use Rattle.fcl_syntax.specs.Grammar.{less, lone, more_ands, more_nots, neg, no_ands, no_nots, not_text, nots_text}
pub use Rattle.fcl_syntax.specs.Grammar.{or_of, or_text, part_text, rule_item_text, rule_line_text, rulebase_text}
pub use Rattle.fcl_syntax.specs.Grammar.{section_text, semicolon_text, weight_text}
pub use Rattle.fcl_syntax.specs.Offsets.{OffsetsAscend, offsets}
pub use Rattle.fcl_syntax.specs.View.{view, view_part, view_rule_item, view_rule_line, view_section, view_weight}
pub use Rattle.fcl_tokens.specs.Offsets.{AscendWithin, offset_of}
pub use Rattle.std.proofs.Common.{Bool, Err, List, None, Option, Some, [], ap, arith, cond, drop, false, get_or, inl}
pub use Rattle.std.proofs.Common.{inr, length, map, not, option_and_then, option_map, refl, rules, subst, suc, sym}
pub use Rattle.std.proofs.Common.{take, tests, true, zero, ℕ, ◌&&◌, ◌*◌, ◌++◌, ◌+◌, ◌-◌, ◌<◌, ◌||◌, ◌∙◌, ◌∷◌, ◌≡◌}
pub use Rattle.std.proofs.Common.{◌≤◌, ◌⊎◌}
pub use Rattle.std.proofs.lemmas.List.{append-nil, at_drop_more, length-map, map-append, take_all, take_more}
pub use Rattle.std.specs.List.{AllByRecursion, AllZip, cons_option, filter, filter_map, find, flat_map, list_all}
pub use Rattle.std.specs.List.{list_any, take_while}
pub use Rattle.std.specs.Prelude.{All, IsSome, if◌then◌else◌, int_lt, is_none, is_some, nat_le, pos, slice_get}
pub use Rattle.std.specs.Prelude.{sum_by, ℤ, ◌<ℤ◌, ◌≤ℤ◌}
pub use denote.Enum.Bare.{sameb}
pub use Rattle.fcl_check.specs.{Corners.AreCornersOf, Spans.ends_in, Steps.extended, Texts.SpelledBlocksAreValid}
pub use Rattle.fcl_check.specs.{declared.fault.LoadFault.LoadFault, declared.build.inputs.Corners.Corners}
pub use Rattle.fcl_check.specs.{declared.names.Variable.Variable}
pub use Rattle.fcl_syntax.specs.{contracts.tree.Direction.the_type, declared.tree.Conclusion.Conclusion}
pub use Rattle.fcl_syntax.specs.{declared.tree.Declaration.Declaration}
pub use Rattle.fcl_syntax.specs.{declared.tree.Defuzzify.Defuzzify, declared.tree.DefuzzyLine.DefuzzyLine}
pub use Rattle.fcl_syntax.specs.{declared.tree.Direction.Direction, declared.tree.Direction.TheVariants.Input}
pub use Rattle.fcl_syntax.specs.{declared.tree.Direction.TheVariants.Output}
pub use Rattle.fcl_syntax.specs.{declared.tree.FallbackValue.FallbackValue, declared.tree.FunctionBlock.FunctionBlock}
pub use Rattle.fcl_syntax.specs.{declared.tree.Fuzzify.Fuzzify, declared.tree.FuzzyLine.FuzzyLine}
pub use Rattle.fcl_syntax.specs.{declared.tree.Name.Name, declared.tree.Part.Part, declared.tree.Point.Point}
pub use Rattle.fcl_syntax.specs.{declared.tree.Range.Range, declared.tree.Rule.Rule as RuleNode}
pub use Rattle.fcl_syntax.specs.{declared.tree.SignedNumber.SignedNumber, declared.tree.Singleton.Singleton}
pub use Rattle.fcl_syntax.specs.{declared.tree.Term.Term, declared.tree.Weight.Weight}
pub use Rattle.fcl_tokens.specs.{declared.token.Token.Token}
pub use Rattle.fuzzy_meaning.specs.{Blocks.HasTerm, Blocks.IsInScale, Blocks.rule_size, Conditions.Condition}
pub use Rattle.fuzzy_meaning.specs.{declared.block.Block.Block, declared.block.Rule.Rule}
pub use Rattle.fuzzy_meaning.specs.{declared.block.Trapezoid.Trapezoid}
pub use Rattle.fz_num.specs.{declared.dec.Dec.Dec}
pub use Rattle.std.proofs.{Math.Bool.or-false, lemmas.Bool.Decides.nat_tests}
pub use Rattle.std.proofs.{lemmas.Bool.cases_Bool, lemmas.Fn.says_at, lemmas.Grind.flat_map-append, lemmas.Int.ints}
pub use Rattle.std.proofs.{lemmas.Iterator.Search.any_from_yields_List, lemmas.Iterator.YieldsList-from_slice}
pub use Rattle.std.proofs.{lemmas.List.Elements.All-from_recursion, lemmas.List.Elements.filter-append}
pub use Rattle.std.proofs.{lemmas.List.Elements.filter_map-append, lemmas.List.Sums.take_while-cons}
pub use Rattle.std.proofs.{lemmas.Option.same_Some, lemmas.Slice.Eq.bytes_eq-Decides}
pub use Rattle.std.proofs.{lemmas.Slice.Zip.all_zipped_more}
pub use Rattle.std.specs.{BTreeMap.BTreeMap, Borrow.Bor, Fn.FnReturnsAt, Option.option_or, Ordering.int_eq}
pub use Rattle.std.specs.{Str.str_to_ascii_lowercase}
