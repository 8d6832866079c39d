-- The values of parameters, computed.
use Rattle.std.specs.Prelude.{ℕ, Bool, true, false, ◌&&◌, ◌||◌, if◌then◌else◌, List, [], ◌∷◌, length, codes, encode_utf8_all, nat_le, Option, Some, None, is_some, Result, Ok, Err}
use Rattle.educe_tokens.specs.declared.error.EduceError.{EduceError}
use Rattle.educe_tokens.specs.declared.error.Kind.{Kind}
use Rattle.educe_tokens.specs.declared.error.Kind.TheVariants as error
use Rattle.educe_tokens.specs.declared.span.Span.{Span}
use Rattle.educe_tokens.specs.declared.span.TheConstants.{SOURCE_LIMIT}
use Rattle.educe_syntax.specs.Laws.{RuleLaws, lawful_name, lawful_path, lawful_expression, lawful_predicates}
use Rattle.educe_syntax.specs.Meta.{Meta}
use Rattle.educe_syntax.specs.MetaPath.{MetaPath}
use Rattle.educe_syntax.specs.Rules.{Rule}
use Rattle.educe_syntax.specs.Steps.{Tokens}
use Rattle.educe_syntax.specs.Terminal.TheVariants.{Sign}
use Rattle.educe_syntax.specs.Terminals.{accepts}
use Rattle.educe_attrs_values.specs.declared.choices.IdentOrBool.{IdentOrBool}
use Rattle.educe_attrs_values.specs.declared.choices.IdentOrBool.TheVariants as choice
use Rattle.educe_attrs_values.specs.declared.choices.WherePredicatesOrBool.{WherePredicatesOrBool}
use Rattle.educe_attrs_values.specs.declared.choices.WherePredicatesOrBool.TheVariants as bound
use Rattle.educe_attrs_values.specs.declared.fault.Fault.{Fault}
use Rattle.educe_attrs_values.specs.declared.fault.Fault.TheVariants as fault
use Rattle.educe_attrs_values.specs.declared.kind.ValueKind.{ValueKind}
use Rattle.educe_attrs_values.specs.declared.kind.ValueKind.TheVariants as kind
use Rattle.educe_attrs_values.specs.declared.opening.Opened.{Opened}
use Rattle.educe_attrs_values.specs.declared.source.Source.{Source}
use Rattle.educe_attrs_values.specs.declared.stop.Stop.{Stop}
use Rattle.educe_attrs_values.specs.declared.stop.Stop.TheVariants.{Memory, Refused}
use Rattle.educe_attrs_values.specs.Chains.{and_then, map_ok, map_err}
use Rattle.educe_attrs_values.specs.Decisions.{lexed, parsed}
use Rattle.educe_attrs_values.specs.Integers.{integer_in}
use Rattle.educe_attrs_values.specs.Kinds.{ValueOf, bare}
use Rattle.educe_attrs_values.specs.Refusals.{refusal, missing, wrong, not_carried}
use Rattle.educe_attrs_values.specs.Sources.{value_source, value_place}
use Rattle.educe_attrs_values.specs.Texts.{only_text}
use Rattle.educe_bound_traits.specs.OneWord.{is_one_word}

-- ---- values by a rule

-- The fault of tokens, as they stand or in the text of a string, by the kind of the parser's error.
abbrev pub fault_by : Bool → Span → List (List ℕ) → Kind → Fault
fault_by quoted place words error.Alloc = fault.Memory
fault_by true place words error.TooDeep = fault.TooDeepText
fault_by false place words error.TooDeep = fault.TooDeep place
fault_by quoted place words error.NotCarried = fault.NotCarried words
fault_by quoted place words _ = fault.Wrong

-- Why tokens are no value, by the error of what reads them.
abbrev pub fault_of : Bool → EduceError → Fault
fault_of quoted e = fault_by quoted e.span e.words e.kind

-- The value's own tokens.
abbrev pub standing : Tokens → Opened
standing tokens = record { tokens = tokens; quoted = false }

-- The tokens of the text of a string.
abbrev pub of_string : Tokens → Opened
of_string tokens = record { tokens = tokens; quoted = true }

-- The tokens of a text, if it is within the limits.
abbrev pub opened_text : List ℕ → Result Opened Fault
opened_text text = if nat_le (length (encode_utf8_all text)) SOURCE_LIMIT then map_ok of_string (map_err (fault_of true) (lexed text)) else Err fault.Wrong

-- The tokens to parse: those of the text where the value is a string, else its own.
abbrev pub opened_by : Option (List ℕ) → Tokens → Result Opened Fault
opened_by None tokens = Ok (standing tokens)
opened_by (Some text) tokens = opened_text text

-- The tokens that are read for a value: those of the text of a string, or the tokens themselves.
abbrev pub opened : Tokens → Result Opened Fault
opened tokens = opened_by (only_text tokens) tokens

-- The value of the tokens by a rule, or the fault.
abbrev pub found : {A : Type 0} {g : Rule A} → RuleLaws g → Opened → Result A Fault
found laws o = map_err (fault_of o.quoted) (parsed laws o.tokens)

-- The value of tokens, or of the text where they are a string, by a rule.
abbrev pub plain : {A : Type 0} {g : Rule A} → RuleLaws g → Tokens → Result A Fault
plain laws tokens = and_then (found laws) (opened tokens)

-- ---- values of each kind

-- The truth value of the token `true` or `false`.
abbrev pub truth_in : Tokens → Option Bool
truth_in tokens = if is_one_word (codes "true") tokens then Some true else if is_one_word (codes "false") tokens then Some false else None

-- The value, or the fault that it is wrong.
abbrev pub or_wrong : {A : Type 0} → Option A → Result A Fault
or_wrong (Some x) = Ok x
or_wrong None = Err fault.Wrong

-- There is a text, and it is empty.
abbrev pub is_empty_text : Option (List ℕ) → Bool
is_empty_text None = false
is_empty_text (Some []) = true
is_empty_text (Some (c ∷ cs)) = false

-- The name that the tokens or the text of a string are, as a choice.
abbrev pub named : Tokens → Result IdentOrBool Fault
named tokens = map_ok choice.Ident (plain lawful_name tokens)

-- A truth value, `false` for an empty string, or else a name.
abbrev pub name_or : Option Bool → Tokens → Result IdentOrBool Fault
name_or (Some b) tokens = Ok (choice.Bool b)
name_or None tokens = if is_empty_text (only_text tokens) then Ok (choice.Bool false) else named tokens

-- What tokens are as a name or a truth value.
abbrev pub name_in : Tokens → Result IdentOrBool Fault
name_in tokens = name_or (truth_in tokens) tokens

-- The tokens are `*`.
abbrev pub is_star : Tokens → Bool
is_star [] = false
is_star (t ∷ []) = accepts (Sign 42) t
is_star (t ∷ u ∷ ts) = false

-- The value may be predicates: it is in brackets, or a string.
abbrev pub may_be_predicates : Source → Bool
may_be_predicates s = s.enclosed || is_some (only_text s.tokens)

-- The predicates that the tokens or the text of a string are, as a choice.
abbrev pub bounded : Tokens → Result WherePredicatesOrBool Fault
bounded tokens = map_ok bound.WherePredicates (plain lawful_predicates tokens)

-- A truth value, `*` in brackets, or else predicates.
abbrev pub bound_or : Option Bool → Source → Result WherePredicatesOrBool Fault
bound_or (Some b) s = Ok (bound.Bool b)
bound_or None s =
    if s.enclosed && is_star s.tokens then Ok bound.All else
    if may_be_predicates s then bounded s.tokens else Err fault.Wrong

-- What tokens are as a bound.
abbrev pub bound_in : Source → Result WherePredicatesOrBool Fault
bound_in s = bound_or (truth_in s.tokens) s

-- The value of this kind that the tokens are.
abbrev pub reading : (k : ValueKind) → Source → Result (ValueOf k) Fault
reading kind.Ident s = plain lawful_name s.tokens
reading kind.Name s = name_in s.tokens
reading kind.Truth s = or_wrong (truth_in s.tokens)
reading kind.Flag s = or_wrong (truth_in s.tokens)
reading kind.Path s = plain lawful_path s.tokens
reading kind.Integer s = or_wrong (integer_in s.tokens)
reading kind.Expr s = found lawful_expression (standing s.tokens)
reading kind.Bound s = bound_in s

-- ---- values of parameters

-- The value of the kind, or the rejection of the fault at this place.
abbrev pub or_refused : {A : Type 0} → ValueKind → MetaPath → Span → Result A Fault → Result A Stop
or_refused k path place (Ok x) = Ok x
or_refused k path place (Err fault.Wrong) = Err (Refused (wrong k path place))
or_refused k path place (Err (fault.TooDeep deep)) = Err (Refused (refusal error.TooDeep deep []))
or_refused k path place (Err fault.TooDeepText) = Err (Refused (refusal error.TooDeep place []))
or_refused k path place (Err (fault.NotCarried words)) = Err (Refused (not_carried place words))
or_refused k path place (Err fault.Memory) = Err Memory

-- The value that the parameter alone means, or the rejection of a missing value.
abbrev pub or_missing : {A : Type 0} → ValueKind → MetaPath → Option A → Result A Stop
or_missing k path (Some x) = Ok x
or_missing k path None = Err (Refused (missing k path))

-- The value of these tokens, or of the parameter alone where there are none.
abbrev pub value_among : (k : ValueKind) → MetaPath → Span → Option Source → Result (ValueOf k) Stop
value_among k path place None = or_missing k path (bare k)
value_among k path place (Some s) = or_refused k path place (reading k s)

-- The value of this kind that the parameter of this path has.
abbrev pub value_of : (k : ValueKind) → MetaPath → Meta → Result (ValueOf k) Stop
value_of k path meta = value_among k path (value_place meta) (value_source meta)
