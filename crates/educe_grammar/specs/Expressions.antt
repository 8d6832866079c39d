-- Expressions (Rust Reference, Expressions).
use Rattle.std.specs.Prelude.{Bool, true, false, not, ◌&&◌, ◌||◌, List, [], ◌∷◌, Option, Some, None, codes}
use Rattle.std.specs.Str.{bytes_eq}
use Rattle.std.specs.List.{list_all}
use Rattle.educe_tokens.specs.Bracket.TheVariants.{Round, Square, Curly}
use Rattle.educe_tokens.specs.declared.token.Token.{Token}
use Rattle.educe_tokens.specs.declared.written.Written.{Written}
use Rattle.educe_tree.specs.declared.ident.Ident.{Ident}
use Rattle.educe_tree.specs.declared.expr.Expr.{Expr}
use Rattle.educe_tree.specs.declared.expr.ExprForm.{ExprForm}
use Rattle.educe_tree.specs.declared.expr.ExprForm.TheVariants as form
use Rattle.educe_tree.specs.declared.expr.ExprPath.{ExprPath}
use Rattle.educe_tree.specs.declared.ty.Ty.{Ty}
use Rattle.educe_tree.specs.declared.path.Path.{Path, out-Path}
use Rattle.educe_tree.specs.declared.path.Segment.{Segment, out-Segment}
use Rattle.educe_tree.specs.declared.path.Args.TheVariants as args
use Rattle.educe_tree.specs.declared.path.AngleArg.{AngleArg}
use Rattle.educe_grammar.specs.declared.ending.Ending.{Ending}
use Rattle.educe_grammar.specs.declared.ending.Ending.TheVariants.{Name}
use Rattle.educe_grammar.specs.declared.ending.Link.{Link}
use Rattle.educe_grammar.specs.declared.ending.Link.TheVariants.{Cast, Binary}
use Rattle.educe_grammar.specs.declared.ending.Tail.{Tail}
use Rattle.educe_grammar.specs.declared.ending.Tail.TheVariants as tail
use Rattle.educe_grammar.specs.declared.operator.Operator.TheVariants.{Joins, Compares, Less, ShiftsLeft, Calculates}
use Rattle.educe_grammar.specs.declared.terminal.Keyword.TheVariants as keyword
use Rattle.educe_grammar.specs.declared.terminal.Terminal.TheVariants as terminal
use Rattle.educe_grammar.specs.Terminals.{accepts}
use Rattle.educe_grammar.specs.Steps.{Tokens, Found}
use Rattle.educe_grammar.specs.Ahead.{one, start, stop, lone, pair, Look, is_sign, begins_pair}
use Rattle.educe_grammar.specs.Rules as rule
use Rattle.educe_grammar.specs.Rules.{Rule, token, empty, both, made, checked, either, nest, binary, many, chain, sliced, written, part, exprs, trees}
use Rattle.educe_grammar.specs.Combining.{at, at_sign, at_word, at_colons, at_angle, unit, skipping, optional, flag, sign, word, colons, behind_colon, commas, in_round}
use Rattle.educe_grammar.specs.Names.{segment_name}
use Rattle.educe_grammar.specs.Types.{path_of, segment_of, angle_args, has_no_args, is_path, qualified_self, qualified_path, plain_type}

-- ---- token trees

-- Lookahead for a token tree.
abbrev pub at_tree : Look
at_tree = (one terminal.Leaf ∷ []) ∷ (start Round ∷ []) ∷ (start Square ∷ []) ∷ (start Curly ∷ []) ∷ []

-- Any number of token trees.
unfoldable pub some_trees : Rule (Unit {0})
some_trees = unit (many at_tree (part trees))

-- Rule for a bracket pair around token trees.
unfoldable pub group : Rule (Unit {0})
group = either (at (start Round)) (nest Round some_trees) (either (at (start Square)) (nest Square some_trees) (nest Curly some_trees))

-- Rule for a token tree: one token, or a bracket pair around token trees.
unfoldable pub tree : Rule (Unit {0})
tree = either (at (one terminal.Leaf)) (unit (token terminal.Leaf)) group

-- ---- paths in expressions

-- A segment with its arguments, if it has any.
abbrev pub segment_with : Ident × Option (List AngleArg) → Segment
segment_with p = elim p.1 [ None ↦ segment_of p.0 args.None | Some found ↦ segment_of p.0 (args.Angle found) ]

-- Lookahead for `::<`.
abbrev pub at_turbofish : Look
at_turbofish = (pair 58 58 ∷ lone 60 61 ∷ []) ∷ []

-- Rule for a segment of a path in an expression.
unfoldable pub expr_segment : Rule Segment
expr_segment = made segment_with (both segment_name (optional at_turbofish (skipping colons angle_args)))

-- A path without a type before it.
abbrev pub local_path : Bool × List Segment → Option Ty × Path
local_path p = (None, path_of p.0 p.1)

-- A path without a type before it is no word of a scope.
abbrev pub is_local_path : Option Ty × Path → Bool
is_local_path p = is_path p.1

-- A path behind its type.
abbrev pub qualified_expr : (Ty × Option (Path × Ending)) × List Segment → Option Ty × Path
qualified_expr p = (Some p.0.0, qualified_path p.0.1 p.1)

-- The tree of either path, with its tokens.
abbrev pub expr_path_of : (Option Ty × Path) × Written → ExprPath
expr_path_of p = record { self_type = p.0.0; path = p.0.1; written = p.1 }

-- Rule for a qualified path, as `<T as A>::b`.
unfoldable pub qualified_expr_path : Rule (Option Ty × Path)
qualified_expr_path = made qualified_expr (both qualified_self (skipping colons (rule.path expr_segment)))

-- Rule for a path that is not qualified.
unfoldable pub local_expr_path : Rule (Option Ty × Path)
local_expr_path = checked is_local_path (made local_path (both (flag at_colons colons) (rule.path expr_segment)))

-- A path behind its type, or one without a type before it.
unfoldable pub any_expr_path : Rule (Option Ty × Path)
any_expr_path = either at_angle qualified_expr_path local_expr_path

-- Rule for a path in an expression.
unfoldable pub expr_path : Rule ExprPath
expr_path = made expr_path_of (written any_expr_path)

-- None of the segments has arguments.
abbrev pub no_segment_args : List Segment → Bool
no_segment_args found = list_all (λ s. has_no_args (out-Segment s).args) found

-- No type stands before the path.
abbrev pub has_no_self : Option Ty → Bool
has_no_self None = true
has_no_self (Some t) = false

-- No type stands before the path, and no segment has arguments.
abbrev pub is_mod_path : ExprPath → Bool
is_mod_path p = has_no_self p.self_type && no_segment_args (out-Path p.path).segments

-- ---- what follows a path

-- The token is the word `self`.
abbrev pub is_self : Token → Bool
is_self t = bytes_eq t.spelling (codes "self")

-- Each `self` in the list is followed by `::`.
unfoldable pub self_begins_paths : Tokens → Bool
self_begins_paths [] = true
self_begins_paths (t ∷ ts) = (not (is_self t) || begins_pair 58 58 ts) && self_begins_paths ts

-- Each `self` in the group of a macro stands before `::`.
abbrev pub is_macro_group : Unit {0} × Tokens → Bool
is_macro_group p = self_begins_paths p.1

-- The bracket pair of a macro call.
unfoldable pub macro_group : Rule (Unit {0})
macro_group = unit (checked is_macro_group (sliced group))

-- Lookahead that distinguishes a field with a value from a field that is its name alone.
abbrev pub at_value : Look
at_value = (one terminal.NameOrIndex ∷ lone 58 58 ∷ []) ∷ []

-- Rule for one field of a struct expression: with a value, or its name alone.
unfoldable pub init : Rule (Unit {0})
init =
    either at_value (unit (both (token terminal.NameOrIndex) (behind_colon (part exprs))))
    (unit (token terminal.Name))

-- A lookahead: what follows the fields of an expression.
abbrev pub behind_fields : Look
behind_fields = (stop Curly ∷ []) ∷ (pair 46 46 ∷ []) ∷ []

-- Rule for the fields of a struct expression.
unfoldable pub inits : Rule (Unit {0})
inits = unit (both (commas behind_fields init) (flag (at (pair 46 46)) (both (rule.operator 46 46) (part exprs))))

-- Rule for what follows a path: nothing, the fields of a struct, or the input of a macro call.
unfoldable pub path_tail : Rule Tail
path_tail =
    either (at (start Curly)) (made (λ _. tail.Fields) (nest Curly inits))
    (either (at (lone 33 61)) (made (λ _. tail.Call) (rule.lone 33 61 macro_group))
    (empty tail.Nothing))

-- The path fits what follows it: that of a macro is not qualified and has no arguments.
abbrev pub fits_tail : ExprPath × Tail → Bool
fits_tail p = elim p.1 [ tail.Nothing ↦ true | tail.Fields ↦ true | tail.Call ↦ is_mod_path p.0 ]

-- The form of a path with what follows it.
abbrev pub tail_form : Tail → ExprForm
tail_form tail.Nothing = form.Path
tail_form tail.Fields = form.Other
tail_form tail.Call = form.Other

-- ---- operands

-- Rule for an operand without prefixes and postfixes.
unfoldable pub primary : Rule ExprForm
primary =
    either (at (one terminal.Literal)) (made (λ _. form.Literal) (token terminal.Literal))
    (either (at (one terminal.Truth)) (made (λ _. form.Truth) (token terminal.Truth))
    (either (at (start Round)) (made (λ _. form.Other) (in_round (part exprs)))
    (made (λ p. tail_form p.1) (checked fits_tail (both expr_path path_tail)))))

-- Rule for a field or a method call, after `.`.
unfoldable pub member : Rule (Unit {0})
member =
    either (at (one terminal.Name)) (unit (both (token terminal.Name) (flag at_colons (skipping colons angle_args))))
    (unit (token terminal.Int))

-- A lookahead: a postfix.
abbrev pub at_postfix : Look
at_postfix = (start Round ∷ []) ∷ (start Square ∷ []) ∷ (lone 46 46 ∷ []) ∷ []

-- Rule for a postfix of an operand.
unfoldable pub postfix : Rule (Unit {0})
postfix =
    either (at (start Round)) (unit (in_round (part exprs)))
    (either (at (start Square)) (unit (nest Square (part exprs)))
    (rule.lone 46 46 member))

-- A lookahead: a prefix.
abbrev pub at_prefix : Look
at_prefix = (one terminal.PrefixSign ∷ []) ∷ (one (terminal.Sign 38) ∷ []) ∷ []

-- The prefix is `-`.
abbrev pub is_minus : Found (accepts terminal.PrefixSign) → Bool
is_minus found = is_sign 45 found.token.kind

-- Rule for a prefix operator; the value says whether it is `-`.
unfoldable pub prefix : Rule Bool
prefix =
    either (at_sign 38) (made (λ _. false) (both (sign 38) (flag (at_word keyword.Mut) (word keyword.Mut))))
    (made is_minus (token terminal.PrefixSign))

-- The form of an operand behind one prefix: one `-` and a literal, or any other.
abbrev pub negated_form : Bool → ExprForm → ExprForm
negated_form true form.Literal = form.Negated
negated_form true found = form.Other
negated_form false found = form.Other

-- The form of an operand behind any prefixes and before any postfixes.
abbrev pub unary_form : List Bool → ExprForm → List (Unit {0}) → ExprForm
unary_form [] found [] = found
unary_form (minus ∷ []) found [] = negated_form minus found
unary_form prefixes found postfixes = form.Other

-- Rule for an operand with its prefixes and postfixes.
unfoldable pub unary : Rule ExprForm
unary = made (λ p. unary_form p.0 p.1.0 p.1.1) (both (chain at_prefix prefix) (both primary (chain at_postfix postfix)))

-- ---- operators

-- Lookahead for a link of an expression: `as` or an operator.
abbrev pub at_link : Look
at_link =
    (one (terminal.Word keyword.As) ∷ []) ∷ (one (terminal.Sign 43) ∷ []) ∷ (one (terminal.Sign 45) ∷ []) ∷ (one (terminal.Sign 42) ∷ [])
    ∷ (one (terminal.Sign 47) ∷ []) ∷ (one (terminal.Sign 37) ∷ []) ∷ (one (terminal.Sign 94) ∷ []) ∷ (one (terminal.Sign 38) ∷ [])
    ∷ (one (terminal.Sign 124) ∷ []) ∷ (one (terminal.Sign 60) ∷ []) ∷ (one (terminal.Sign 62) ∷ []) ∷ (pair 61 61 ∷ []) ∷ (pair 33 61 ∷ []) ∷ []

-- Rule for a link of an expression: a cast, or an operator and its second operand.
unfoldable pub link : Rule Link
link =
    either (at_word keyword.As) (made (λ t. Cast t.1) (skipping (word keyword.As) plain_type))
    (made (λ p. Binary p.0) (binary unary))

-- Comparisons don't chain: between any two of them there is `&&` or `||`. The truth value says whether one may come.
unfoldable pub compares_once : Bool → List Link → Bool
compares_once may [] = true
compares_once may (Cast ending ∷ more) = compares_once may more
compares_once may (Binary Joins ∷ more) = compares_once true more
compares_once may (Binary Compares ∷ more) = may && compares_once false more
compares_once may (Binary Less ∷ more) = may && compares_once false more
compares_once may (Binary ShiftsLeft ∷ more) = compares_once may more
compares_once may (Binary Calculates ∷ more) = compares_once may more

-- The operator begins with `<`, and isn't `<=`.
abbrev pub begins_with_less : Link → Bool
begins_with_less (Cast ending) = false
begins_with_less (Binary Joins) = false
begins_with_less (Binary Compares) = false
begins_with_less (Binary Less) = true
begins_with_less (Binary ShiftsLeft) = true
begins_with_less (Binary Calculates) = false

-- One link may stand before the next, by the rule of casts.
abbrev pub may_stand_before : Link → Link → Bool
may_stand_before (Cast Name) next = not (begins_with_less next)
may_stand_before first next = true

-- A cast to a type that ends with a name is followed by neither `<` nor `<<`.
unfoldable pub casts_end : List Link → Bool
casts_end [] = true
casts_end (l ∷ []) = true
casts_end (l ∷ next ∷ more) = may_stand_before l next && casts_end (next ∷ more)

-- The links obey the rules of comparisons and of casts.
abbrev pub links_fit : List Link → Bool
links_fit found = compares_once true found && casts_end found

-- The form of an operand and its links.
abbrev pub linked_form : ExprForm × List Link → ExprForm
linked_form p = elim p.1 [ [] ↦ p.0 | _ ∷ _ ↦ form.Other ]

-- The expression of a form and its tokens.
abbrev pub expr_of : ExprForm × Written → Expr
expr_of p = record { form = p.0; written = p.1 }

-- Operands with casts and operators between.
unfoldable pub operation : Rule ExprForm
operation = made linked_form (both unary (checked links_fit (chain at_link link)))

-- Rule for an expression.
unfoldable pub expression : Rule Expr
expression = made expr_of (written operation)
