-- What types ask for, given by the tokens of the predicates.
use Rattle.std.specs.Prelude.{◌≡◌, ℕ, List, ◌++◌, map}
use Rattle.std.specs.Borrow.{Bor}
use Rattle.std.specs.List.{AllByRecursion}
use Rattle.educe_tokens.specs.Lexes.{Lexeme}
use Rattle.educe_tree.specs.declared.generics.GenericParam.{GenericParam}
use Rattle.educe_tree.specs.declared.ty.Ty.{Ty}
use Rattle.educe_grammar.specs.Readings.{IsName, IsReadType}
use Rattle.educe_bound_classes.specs.Classes.{class_of}
use Rattle.educe_bound_classes.specs.Deriving.{other}
use Rattle.educe_bound_classes.specs.Exceptions.{Exceptions}
use Rattle.educe_bound_classes.specs.declared.needs.Asked.{Asked}
use Rattle.educe_bound_classes.specs.declared.needs.Asked.TheVariants.{Itself, Param}
use Rattle.educe_bound_classes.specs.Needs.{AreNames, own_of, param_of, Asks, AllAsk}

-- The types that are borrowed.
abbrev pub types_of : List (Bor Ty) → List Ty
types_of types = map (λ ty. ty.now) types

-- The tokens of the predicate that is asked for, with these tokens after the type or the parameter.
abbrev pub key_of : List Lexeme → Asked → List Lexeme
key_of bound (Itself ty) = own_of bound ty.now
key_of bound (Param name) = param_of bound name.now.text

-- The tokens of each predicate that is asked for.
abbrev pub keys_of : List Lexeme → List Asked → List (List Lexeme)
keys_of bound asked = map (key_of bound) asked

-- The type is the reading of its tokens, and its class asks for a predicate on the type itself.
pub record IsAskedType (params : List GenericParam) (ex : Exceptions) (self : List ℕ) (ty : Ty) : Type 0 where
  pub reads : IsReadType ty
  pub class : class_of params ex self ty ≡ other

-- What is asked for is a predicate on such a type, or on a parameter whose name is a name.
abbrev pub IsAskedRead : List GenericParam → Exceptions → List ℕ → Asked → Type 0
IsAskedRead params ex self (Itself ty) = IsAskedType params ex self ty.now
IsAskedRead params ex self (Param name) = IsName name.now.text

-- Each predicate that is asked for is on such a type, or on a parameter whose name is a name.
abbrev pub AreAskedRead : List GenericParam → Exceptions → List ℕ → List Asked → Type 0
AreAskedRead params ex self asked = AllByRecursion (IsAskedRead params ex self) asked

-- The new list is the old one and what the type needs; if the type and the old list consist of readings of tokens, so
-- does the new list.
pub record Adds (ex : Exceptions) (params : List GenericParam) (self : List ℕ) (ty : Ty) (old new : List Asked) : Type 0 where
  pub keys : (bound : List Lexeme) → (more : List (List Lexeme)) × Asks ex params self bound ty more × (keys_of bound new ≡ keys_of bound old ++ more)
  pub read : AreNames params → IsReadType ty → AreAskedRead params ex self old → AreAskedRead params ex self new

-- The new list is the old one and what the types need; if the types and the old list consist of readings of tokens, so
-- does the new list.
pub record AddsAll (ex : Exceptions) (params : List GenericParam) (self : List ℕ) (types : List Ty) (old new : List Asked) : Type 0 where
  pub keys : (bound : List Lexeme) → (more : List (List Lexeme)) × AllAsk ex params self bound types more × (keys_of bound new ≡ keys_of bound old ++ more)
  pub read : AreNames params → AllByRecursion IsReadType types → AreAskedRead params ex self old → AreAskedRead params ex self new

-- The new list is the old one and the predicates on these names; if these are names and the old list consists of
-- readings of tokens, so does the new list.
pub record AddsNames (names : List (List ℕ)) (old new : List Asked) : Type 0 where
  pub keys : (bound : List Lexeme) → keys_of bound new ≡ keys_of bound old ++ map (param_of bound) names
  pub read : (ex : Exceptions) (params : List GenericParam) (self : List ℕ) → AllByRecursion IsName names → AreAskedRead params ex self old → AreAskedRead params ex self new
