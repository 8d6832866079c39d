-- What a trait asks for types, given as the tokens of predicates.
use Rattle.std.specs.List.{AllByRecursion}
use Rattle.std.specs.Prelude.{IfSome, ℕ, List, ◌∷◌, ◌++◌}
use Rattle.educe_tokens.specs.TokenKind.TheVariants as kind
use Rattle.educe_tokens.specs.Lexes.{Lexeme}
use Rattle.educe_tree.specs.declared.generics.GenericParam.{GenericParam}
use Rattle.educe_tree.specs.declared.ty.Ty.{Ty}
use Rattle.educe_grammar.specs.Types.{any_type}
use Rattle.educe_grammar.specs.Readings.{IsName}
use Rattle.educe_grammar.specs.Reads.{Reads}
use Rattle.educe_grammar.specs.Alike.{lexemes_aside}
use Rattle.educe_bound_classes.specs.Exceptions.{Exceptions}
use Rattle.educe_bound_classes.specs.Deriving.{AreDistinct, Needs, AllNeed, AllDerivable, IsAutomatic, IsMinimal}
use Rattle.educe_bound_classes.specs.Classes.{type_name, class_of}

-- The type is the reading of its tokens, as they were written.
abbrev pub IsReading : Ty → Type 0
IsReading ty = (budget : ℕ) × Reads budget any_type ty.written.tokens ty

-- The name of each type parameter is a name.
abbrev pub AreNames : List GenericParam → Type 0
AreNames params = AllByRecursion (λ p. IfSome (type_name p) IsName) params

-- The tokens of `Type : Trait`, where the list is what follows the type.
abbrev pub own_of : List Lexeme → Ty → List Lexeme
own_of bound ty = lexemes_aside ty.written.tokens ++ bound

-- The tokens of `Param : Trait`, where the list is what follows the parameter.
abbrev pub param_of : List Lexeme → List ℕ → List Lexeme
param_of bound name = record { kind = kind.Ident; spelling = name } ∷ bound

module _ (ex : Exceptions) (params : List GenericParam) (self : List ℕ) (bound : List Lexeme) where
  -- The predicates that the types need.
  abbrev pub AllAsk : List Ty → List (List Lexeme) → Type 0
  AllAsk types asked = AllNeed (class_of params ex self) (own_of bound) (param_of bound) types asked

  -- The predicates that a type needs.
  abbrev pub Asks : Ty → List (List Lexeme) → Type 0
  Asks ty asked = Needs (class_of params ex self) (own_of bound) (param_of bound) ty asked

  -- The predicates of the automatic mode, each once.
  abbrev pub AreOwn : List Ty → List (List Lexeme) → Type 0
  AreOwn types own = IsAutomatic (class_of params ex self) (own_of bound) (param_of bound) types own

  -- Each of the types can be derived from the predicates.
  abbrev pub Suffices : List Ty → List (List Lexeme) → Type 0
  Suffices types own = AllDerivable (class_of params ex self) (own_of bound) (param_of bound) own types

  -- Without any one of the predicates, one of the types can't be derived.
  abbrev pub AreMinimal : List Ty → List (List Lexeme) → Type 0
  AreMinimal types own = IsMinimal (class_of params ex self) (own_of bound) (param_of bound) types own

-- The predicates of the automatic mode suffice, whatever the exceptions are.
abbrev pub AlwaysSuffice : Type 0
AlwaysSuffice =
    (ex : Exceptions) (params : List GenericParam) (self : List ℕ) (bound : List Lexeme) (types : List Ty) (own : List (List Lexeme))
    → AreOwn ex params self bound types own → Suffices ex params self bound types own

-- None of the predicates of the automatic mode can be dropped, where the types are readings of their tokens.
abbrev pub AreAlwaysMinimal : Type 0
AreAlwaysMinimal =
    (ex : Exceptions) (params : List GenericParam) (self : List ℕ) (bound : List Lexeme) (types : List Ty) (own : List (List Lexeme))
    → AllByRecursion IsReading types → AreOwn ex params self bound types own → AreMinimal ex params self bound types own

-- The predicates of the automatic mode are pairwise distinct.
abbrev pub AreAlwaysDistinct : Type 0
AreAlwaysDistinct =
    (ex : Exceptions) (params : List GenericParam) (self : List ℕ) (bound : List Lexeme) (types : List Ty) (own : List (List Lexeme))
    → AreOwn ex params self bound types own → AreDistinct own
