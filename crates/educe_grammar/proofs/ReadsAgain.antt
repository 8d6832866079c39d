-- What the grammar has, its programs read; and a list of tokens is one tree at most.
use Rattle.std.proofs.Common.{◌≡◌, ℕ, suc, [], refl, ap, sym, ◌∙◌, Ok, Err, arith}
use Rattle.educe_grammar.specs.Steps.{Tokens, Outcome}
use Rattle.educe_grammar.specs.Ahead.{begins_pair, begins_lone, sees, at_end, finish, sees_any}
use Rattle.educe_grammar.specs.Rules.{Rule}
use Rattle.educe_grammar.specs.Combining.{at}
use Rattle.educe_grammar.specs.Names.{name}
use Rattle.educe_grammar.specs.Types.{any_type}
use Rattle.educe_grammar.specs.Expressions.{expr_path, expression}
use Rattle.educe_grammar.specs.Generics.{generic_param, params, predicate, predicates}
use Rattle.educe_grammar.specs.Attributes.{metas}
use Rattle.educe_grammar.specs.Definitions.{definition}
use Rattle.educe_grammar.specs.Reads.{Reads, read}
use Rattle.educe_grammar.proofs.Computed.{computed, more_computed}
use Rattle.educe_grammar.proofs.Deciding.{finish_seen}
use Rattle.educe_grammar.proofs.Known.{always, inside}
use Rattle.educe_grammar.proofs.Knot.{known, read_whole}
use Rattle.educe_grammar.proofs.TypesAgain.{again_any_type}
use Rattle.educe_grammar.proofs.OperandsAgain.{again_expr_path}
use Rattle.educe_grammar.proofs.ExpressionsAgain.{again_expression}
use Rattle.educe_grammar.proofs.GenericsAgain.{again_generic_param, again_params, again_predicate, again_predicates}
use Rattle.educe_grammar.proofs.DefinitionsAgain.{again_definition}
use Rattle.educe_grammar.proofs.ScopeApart.{no_scope}

-- what is by the rule is read to its end
abbrev pub ReadsAgain : {A : Type 0} → Rule A → Type 0
ReadsAgain {A = A} g = (budget : ℕ) (tokens : Tokens) (x : A) → Reads budget g tokens x → read budget g tokens ≡ Ok (x, [])

-- a list of tokens has one value at most
abbrev pub OneReading : {A : Type 0} → Rule A → Type 0
OneReading {A = A} g = (budget : ℕ) (tokens : Tokens) (x y : A) → Reads budget g tokens x → Reads budget g tokens y → x ≡ y

-- a name
pub name_again : ReadsAgain name
unfolding computed
name_again budget tokens x h = read_whole name budget (always (known budget) name budget (omega arith) refl) tokens x h tt

-- a type
pub any_type_again : ReadsAgain any_type
unfolding sees_any sees begins_pair begins_lone at_end
any_type_again budget tokens x h = read_whole any_type budget (again_any_type (known budget) budget (omega arith)) tokens x h refl

-- a path of an expression
pub expr_path_again : ReadsAgain expr_path
unfolding sees_any begins_pair
expr_path_again budget tokens x h = read_whole expr_path budget (again_expr_path (known budget) budget (omega arith)) tokens x h refl

-- an expression
pub expression_again : ReadsAgain expression
unfolding sees_any sees begins_pair at_end
expression_again budget tokens x h = read_whole expression budget (again_expression (known budget) budget (omega arith)) tokens x h refl

-- the metas of an attribute
pub metas_again : ReadsAgain metas
unfolding computed more_computed
metas_again budget tokens x h = read_whole metas budget (inside (known (suc budget)) metas (at finish) budget (omega arith) refl) tokens x h finish_seen

-- a generic parameter
pub generic_param_again : ReadsAgain generic_param
unfolding sees_any sees at_end
generic_param_again budget tokens x h = read_whole generic_param budget (again_generic_param (known (suc budget)) budget (omega arith)) tokens x h refl

-- the generic parameters of a header
pub params_again : ReadsAgain params
params_again budget tokens x h = read_whole params budget (again_params (known (suc budget)) budget (omega arith)) tokens x h finish_seen

-- a predicate of a where-clause
pub predicate_again : ReadsAgain predicate
unfolding sees_any sees at_end
predicate_again budget tokens x h = read_whole predicate budget (again_predicate (known (suc budget)) budget (omega arith)) tokens x h refl

-- the predicates of a where-clause
pub predicates_again : ReadsAgain predicates
unfolding sees_any sees at_end
predicates_again budget tokens x h = read_whole predicates budget (again_predicates (known (suc budget)) budget (omega arith)) tokens x h refl

-- a definition
pub definition_again : ReadsAgain definition
definition_again budget tokens x h = read_whole definition budget (again_definition (known (suc budget)) no_scope budget (omega arith)) tokens x h tt

-- the value that was read
abbrev value_or : {A : Type 0} → A → Outcome A → A
value_or x (Ok p) = p.0
value_or x (Err e) = x

-- what is read is one value
pub one_reading : {A : Type 0} (g : Rule A) → ReadsAgain g → OneReading g
one_reading g again budget tokens x y h k = ap (value_or x) (sym (again budget tokens x h) ∙ again budget tokens y k)
