-- What has to unfold for the beginnings of the grammar's rules to compute.
use Rattle.educe_grammar.specs.Names.{name, segment_name, lifetime, mere_token, simple_path}
use Rattle.educe_grammar.specs.Types.{lifetime_bounds, for_lifetime, for_all, constant, angle_arg, angle_args, round_args, type_args, type_segment, type_segments, type_path, qualified_self, qualified, bound_path, bound, bounds, round_form, reference, pointer, square_form, fn_param, fn_qualifiers, fn_pointer, plain_form, one_bound_form, any_bounds_form, plain_type, any_type}
use Rattle.educe_grammar.specs.Expressions.{some_trees, group, tree, expr_segment, expr_path, init, inits, path_tail, primary, member, postfix, prefix, unary, link, expression, qualified_expr_path, local_expr_path, any_expr_path, macro_group, operation}
use Rattle.educe_grammar.specs.Generics.{bounded_lifetime, lifetime_param, bounded_name, type_param, any_constant, typed_const, const_param, generic_param, generic_params, params, lifetime_predicate, bounded_type, type_predicate, any_predicate, predicate, predicates, where_clause}
use Rattle.educe_grammar.specs.Attributes.{meta_path, written_group, unread_value, unread, meta, metas, outer_meta, attribute, attributes}
use Rattle.educe_grammar.specs.Definitions.{mod_path, scope, visibility, named_field, tuple_field, named_fields, tuple_fields, variant_fields, variant, struct_body, enum_body, struct_item, enum_item, definition}
use Rattle.educe_grammar.proofs.Sets.{are_disjoint, is_within}
use Rattle.educe_grammar.proofs.Apart.{apart, within, ways_apart, way_within, all_apart, all_within}
use Rattle.educe_grammar.proofs.Looks.{joined, tidy, before, operator_ways}
use Rattle.educe_grammar.proofs.Fronts.{fronts}
use Rattle.educe_grammar.proofs.PartFronts.{part_fronts}
use Rattle.educe_grammar.proofs.Deciding.{decides}

-- the tests of beginnings, the beginnings and the rules of the parts
unfoldable pub computed : Unit {0}
unfolding are_disjoint is_within apart within ways_apart way_within all_apart all_within joined tidy before operator_ways fronts part_fronts decides name segment_name lifetime mere_token simple_path lifetime_bounds for_lifetime for_all constant angle_arg angle_args round_args type_args type_segment type_segments type_path qualified_self qualified bound_path bound bounds round_form reference pointer square_form fn_param fn_qualifiers fn_pointer plain_form one_bound_form any_bounds_form plain_type any_type some_trees group tree expr_segment expr_path init inits path_tail primary member postfix prefix unary link expression qualified_expr_path local_expr_path any_expr_path macro_group operation
computed = tt

-- the rules of generics, definitions and the rest
unfoldable pub more_computed : Unit {0}
unfolding bounded_lifetime lifetime_param bounded_name type_param any_constant typed_const const_param generic_param generic_params params lifetime_predicate bounded_type type_predicate any_predicate predicate predicates where_clause meta_path written_group unread_value unread meta metas outer_meta attribute attributes mod_path scope visibility named_field tuple_field named_fields tuple_fields variant_fields variant struct_body enum_body struct_item enum_item definition
more_computed = tt
