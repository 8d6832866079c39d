-- Predicates of where clauses as tokens, and the predicates that the bound of a trait asks for.
use Rattle.std.specs.Prelude.{◌≡◌, ℕ, Bool, true, false, not, List, [], ◌++◌, map, filter, codes}
use Rattle.std.specs.List.{AllByRecursion, filter_map}
use Rattle.educe_tokens.specs.Lexes.{Lexeme}
use Rattle.educe_tokens.specs.Quote.{quoted}
use Rattle.educe_tokens.specs.Copied.{unjoin}
use Rattle.educe_syntax.specs.Alike.{lexemes_aside}
use Rattle.educe_grammar.specs.Readings.{IsReadPredicate}
use Rattle.educe_syntax.specs.GenericParam.{GenericParam}
use Rattle.educe_syntax.specs.GenericParam.TheVariants as param
use Rattle.educe_syntax.specs.WherePredicate.{WherePredicate}
use Rattle.educe_syntax.specs.Ty.{Ty}
use Rattle.educe_bound_classes.specs.Classes.{type_name}
use Rattle.educe_bound_classes.specs.Exceptions.{Exceptions, clone_exceptions, copy_exceptions, debug_exceptions, equality_exceptions, order_exceptions, hash_exceptions, default_exceptions}
use Rattle.educe_bound_classes.specs.Needs.{param_of, AreOwn, Suffices, AreMinimal}
use Rattle.educe_bound_traits.specs.Paths.{trait_path}
use Rattle.educe_bound.specs.declared.bound.Bound.{Bound}
use Rattle.educe_bound.specs.declared.bound.Bound.TheVariants.{Disabled, Auto, All, Custom}
use Rattle.educe_bound_traits.specs.declared.traits.Trait.{Trait}
use Rattle.educe_bound_traits.specs.declared.traits.Trait.TheVariants as trait

-- ---- predicates

-- A predicate as its tokens, spans and jointness aside.
abbrev pub Key : Type 0
Key = List Lexeme

-- The tokens of a predicate, spans and jointness aside.
abbrev pub key_of : WherePredicate → Key
key_of predicate = lexemes_aside predicate.written.tokens

-- The tokens of each predicate, spans and jointness aside.
abbrev pub keys_of : List WherePredicate → List Key
keys_of predicates = map key_of predicates

-- Each predicate is the reading of its tokens, within the limits.
abbrev pub AreRead : List WherePredicate → Type 0
AreRead predicates = AllByRecursion IsReadPredicate predicates

-- ---- what a trait asks for

-- The tokens after the type in a predicate that asks for the trait, jointness included.
abbrev pub behind : Trait → List Lexeme
behind which = quoted (codes ":") ++ quoted (trait_path which)

-- The tokens after the type in a predicate that asks for the trait, jointness aside.
abbrev pub asks_for : Trait → List Lexeme
asks_for which = map unjoin (behind which)

-- The types that the trait treats specially.
abbrev pub exceptions_of : Trait → Exceptions
exceptions_of trait.Debug = debug_exceptions
exceptions_of trait.Clone = clone_exceptions
exceptions_of trait.Copy = copy_exceptions
exceptions_of trait.PartialEq = equality_exceptions
exceptions_of trait.Eq = equality_exceptions
exceptions_of trait.PartialOrd = order_exceptions
exceptions_of trait.Ord = order_exceptions
exceptions_of trait.Hash = hash_exceptions
exceptions_of trait.Default = default_exceptions

-- ---- parameters

-- The parameter is a lifetime.
abbrev pub is_lifetime : GenericParam → Bool
is_lifetime (param.Lifetime p) = true
is_lifetime (param.TypeParam p) = false
is_lifetime (param.Const p) = false

-- The parameters in the order of an impl: lifetimes first (Rust Reference, Generic parameters).
abbrev pub lifetimes_first : List GenericParam → List GenericParam
lifetimes_first params = filter is_lifetime params ++ filter (λ p. not (is_lifetime p)) params

-- ---- modes

-- The predicates that a bound lists are readings of their tokens.
abbrev pub IsReadBound : Bound → Type 0
IsReadBound Disabled = Unit {0}
IsReadBound Auto = Unit {0}
IsReadBound All = Unit {0}
IsReadBound (Custom predicates) = AreRead predicates

-- The predicate `Param : Trait` for each type parameter.
abbrev pub on_each_param : List GenericParam → Trait → List Key
on_each_param params which = map (param_of (asks_for which)) (filter_map type_name params)

-- The predicates that a bound asks for, given the types of fields, the exceptions, and the name and parameters of the
-- definition: none; what the types need, in the order of first need and each once; one for each type parameter; or
-- those of the list.
abbrev pub AreByBound : Bound → Exceptions → List GenericParam → List ℕ → Trait → List Ty → List Key → Type 0
AreByBound Disabled ex params self which types own = own ≡ []
AreByBound Auto ex params self which types own = AreOwn ex params self (asks_for which) types own
AreByBound All ex params self which types own = own ≡ on_each_param params which
AreByBound (Custom predicates) ex params self which types own = own ≡ keys_of predicates

-- Under the automatic bound each of the types can be derived from the predicates.
abbrev pub SufficeBy : Bound → Exceptions → List GenericParam → List ℕ → Trait → List Ty → List Key → Type 0
SufficeBy Disabled ex params self which types own = Unit {0}
SufficeBy Auto ex params self which types own = Suffices ex params self (asks_for which) types own
SufficeBy All ex params self which types own = Unit {0}
SufficeBy (Custom predicates) ex params self which types own = Unit {0}

-- Under the automatic bound none of the predicates can be dropped.
abbrev pub AreMinimalBy : Bound → Exceptions → List GenericParam → List ℕ → Trait → List Ty → List Key → Type 0
AreMinimalBy Disabled ex params self which types own = Unit {0}
AreMinimalBy Auto ex params self which types own = AreMinimal ex params self (asks_for which) types own
AreMinimalBy All ex params self which types own = Unit {0}
AreMinimalBy (Custom predicates) ex params self which types own = Unit {0}

-- The predicates by which fields of these types may be copied out of a packed struct: `Copy`, by the same bound; none
-- where the bound lists its predicates.
abbrev pub AreCopies : Bound → List GenericParam → List ℕ → List Ty → List Key → Type 0
AreCopies Disabled params self types found = found ≡ []
AreCopies Auto params self types found = AreOwn copy_exceptions params self (asks_for trait.Copy) types found
AreCopies All params self types found = found ≡ on_each_param params trait.Copy
AreCopies (Custom predicates) params self types found = found ≡ []
