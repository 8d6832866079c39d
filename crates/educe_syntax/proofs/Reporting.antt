-- The errors of definitions: of a union, and of a name that is given twice; or out of memory.
use Rattle.std.proofs.Common.{◌≡◌, ◌⊎◌, inl, inr, sym, subst}
use Rattle.educe_tokens.specs.declared.token.Token.{Token}
use Rattle.educe_tokens.specs.declared.error.EduceError.{EduceError}
use Rattle.educe_tokens.specs.declared.error.Kind.TheVariants.{Alloc}
use Rattle.educe_tokens.specs.Refusals.{placeless}
use Rattle.educe_tree.specs.declared.derive.DeriveInput.{DeriveInput}
use Rattle.educe_grammar.specs.Definitions.{definition}
use Rattle.educe_grammar.specs.Parsed.{IsWhole}
use Rattle.educe_grammar.specs.Refusal.{IsUnion, union_of, IsRefusalOf}
use Rattle.educe_grammar.specs.Steps.{Tokens}
use Rattle.educe_syntax.specs.Answers.{IsDuplicateError}

-- out of memory
pub memory_refused : (tokens : Tokens) (e : EduceError) → e ≡ placeless Alloc → IsRefusalOf tokens e
memory_refused tokens e short = subst (IsRefusalOf tokens) (sym short) IsRefusalOf.memory

-- the rejection of a union has a cause
pub union_refused : (tokens : Tokens) (word : Token) (e : EduceError) → IsUnion tokens word → (e ≡ placeless Alloc) ⊎ (e ≡ union_of word) → IsRefusalOf tokens e
union_refused tokens word e is (inl short) = memory_refused tokens e short
union_refused tokens word e is (inr reported) = subst (IsRefusalOf tokens) (sym reported) (IsRefusalOf.union word is)

-- the rejection of a duplicate name has a cause
pub name_refused : (tokens : Tokens) (found : DeriveInput) (e : EduceError) → IsWhole definition tokens found → IsDuplicateError found e → IsRefusalOf tokens e
name_refused tokens found e whole (inl short) = memory_refused tokens e short
name_refused tokens found e whole (inr (name, twice, reported)) = subst (IsRefusalOf tokens) (sym reported) (IsRefusalOf.repeated found name whole twice)
