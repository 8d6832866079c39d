-- Generic parameters and where-clauses (Rust Reference, Generic parameters).
use Rattle.std.specs.Prelude.{Bool, List, [], ◌∷◌}
use Rattle.educe_tokens.specs.Bracket.TheVariants.{Curly}
use Rattle.educe_tokens.specs.declared.written.Written.{Written}
use Rattle.educe_tree.specs.declared.ident.Ident.{Ident}
use Rattle.educe_tree.specs.declared.lifetime.Lifetime.{Lifetime}
use Rattle.educe_tree.specs.declared.generics.GenericParam.{GenericParam}
use Rattle.educe_tree.specs.declared.generics.GenericParam.TheVariants as param
use Rattle.educe_tree.specs.declared.generics.WherePredicate.{WherePredicate}
use Rattle.educe_grammar.specs.declared.terminal.Keyword.TheVariants as keyword
use Rattle.educe_grammar.specs.declared.terminal.Terminal.TheVariants as terminal
use Rattle.educe_grammar.specs.Ahead.{one, start, finish, Look}
use Rattle.educe_grammar.specs.Rules.{Rule, token, empty, both, made, either, prefer, written, part, types}
use Rattle.educe_grammar.specs.Combining.{at, at_sign, at_word, at_colon, at_angle, unit, skipping, leaving, flag, sign, word, behind_colon, commas, in_angles}
use Rattle.educe_grammar.specs.Names.{name, lifetime}
use Rattle.educe_grammar.specs.Types.{lifetime_bounds, for_all, constant, bounds}

-- ---- parameters

-- Rule for a lifetime and its optional bounds; the truth value says whether bounds follow it.
unfoldable pub bounded_lifetime : Rule (Lifetime × Bool)
bounded_lifetime = both lifetime (flag at_colon (behind_colon lifetime_bounds))

-- The lifetime parameter of what was read and its tokens.
abbrev pub lifetime_param_of : (Lifetime × Bool) × Written → GenericParam
lifetime_param_of p = param.Lifetime (record { lifetime = p.0.0; written = p.1 })

-- Rule for a lifetime parameter, as `'a: 'b`.
unfoldable pub lifetime_param : Rule GenericParam
lifetime_param = made lifetime_param_of (written bounded_lifetime)

-- Rule for a name and its optional bounds; the truth value says whether bounds follow it.
unfoldable pub bounded_name : Rule (Ident × Bool)
bounded_name = both name (flag at_colon (behind_colon bounds))

-- The type parameter of what was read and its tokens.
abbrev pub type_param_of : (Ident × Bool) × Written → GenericParam
type_param_of p = param.TypeParam (record { ident = p.0.0; written = p.1 })

-- Rule for a type parameter, as `T: Trait = Default`, whose default isn't kept.
unfoldable pub type_param : Rule GenericParam
type_param = leaving (made type_param_of (written bounded_name)) (flag (at_sign 61) (skipping (sign 61) (part types)))

-- Rule for the name and the type of a const parameter.
unfoldable pub typed_const : Rule Ident
typed_const = skipping (word keyword.Const) (leaving name (behind_colon (part types)))

-- The const parameter of what was read and its tokens.
abbrev pub const_param_of : Ident × Written → GenericParam
const_param_of p = param.Const (record { ident = p.0; written = p.1 })

-- Rule for a constant: a name, or a constant argument that is no name.
unfoldable pub any_constant : Rule (Unit {0})
any_constant = either (at (one terminal.Name)) (unit (token terminal.Name)) constant

-- Rule for a const parameter, as `const N: usize = 1`, whose default isn't kept.
unfoldable pub const_param : Rule GenericParam
const_param = leaving (made const_param_of (written typed_const)) (flag (at_sign 61) (skipping (sign 61) any_constant))

-- Rule for a generic parameter.
unfoldable pub generic_param : Rule GenericParam
generic_param =
    either (at (one terminal.Lifetime)) lifetime_param
    (either (at_word keyword.Const) const_param type_param)

-- Rule for optional generic parameters in angle brackets.
unfoldable pub generic_params : Rule (List GenericParam)
generic_params = either at_angle (in_angles generic_param) (empty [])

-- Rule for the generic parameters of a header, without its angle brackets, up to the end of the tokens.
unfoldable pub params : Rule (List GenericParam)
params = commas (at finish) generic_param

-- ---- where-clauses

-- The predicate of what was read and its tokens.
abbrev pub predicate_of : (Unit {0}) × Written → WherePredicate
predicate_of p = record { written = p.1 }

-- Rule for a predicate about a lifetime, as `'a: 'b`.
unfoldable pub lifetime_predicate : Rule (Unit {0})
lifetime_predicate = unit (both lifetime (behind_colon lifetime_bounds))

-- Rule for a type with its bounds, as `T: Trait`.
unfoldable pub bounded_type : Rule (Unit {0})
bounded_type = unit (both (part types) (behind_colon bounds))

-- Rule for a predicate about a type, as `for<'a> T: Trait`, its leading `for` included.
unfoldable pub type_predicate : Rule (Unit {0})
type_predicate = prefer (terminal.Word keyword.For) (skipping for_all bounded_type) bounded_type

-- The content of a predicate.
unfoldable pub any_predicate : Rule (Unit {0})
any_predicate = either (at (one terminal.Lifetime)) lifetime_predicate type_predicate

-- Rule for a predicate with its tokens.
unfoldable pub predicate : Rule WherePredicate
predicate = made predicate_of (written any_predicate)

-- A lookahead: what follows a where clause.
abbrev pub behind_where : Look
behind_where = (start Curly ∷ []) ∷ (one (terminal.Sign 59) ∷ []) ∷ (finish ∷ []) ∷ []

-- Rule for the predicates of a where-clause.
unfoldable pub predicates : Rule (List WherePredicate)
predicates = commas behind_where predicate

-- Rule for an optional where-clause.
unfoldable pub where_clause : Rule (List WherePredicate)
where_clause = either (at_word keyword.Where) (skipping (word keyword.Where) predicates) (empty [])
