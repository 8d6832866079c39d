-- The results of calls that run a program on a whole list of tokens.
use Rattle.std.specs.Prelude.{◌≡◌, [], Some, Result, Ok, Err, ◌⊎◌}
use Rattle.educe_tokens.specs.declared.error.EduceError.{EduceError}
use Rattle.educe_tokens.specs.declared.error.Kind.TheVariants.{Alloc}
use Rattle.educe_tokens.specs.Refusals.{placeless}
use Rattle.educe_tree.specs.declared.derive.DeriveInput.{DeriveInput}
use Rattle.educe_grammar.specs.declared.parse_error.ParseError.{ParseError}
use Rattle.educe_grammar.specs.Naming.{Named, scopes, duplicate_of, IsRepeatedIn}
use Rattle.educe_grammar.specs.Parsed.{stop_of, refusal_of}
use Rattle.educe_grammar.specs.Steps.{Tokens, Parser}

-- The result is the value of the program, where it leaves no tokens; else the error where it stops. Out of memory is
-- always possible.
abbrev pub IsAnswer : {A : Type 0} → Parser A → Tokens → Result A EduceError → Type 0
IsAnswer program tokens (Ok x) = program tokens ≡ Ok (x, [])
IsAnswer program tokens (Err e) = (e ≡ placeless Alloc) ⊎ ((error : ParseError) × (stop_of (program tokens) ≡ Some error) × (e ≡ refusal_of tokens error))

-- The error is that of a duplicate name of the definition, or out of memory.
abbrev pub IsDuplicateError : DeriveInput → EduceError → Type 0
IsDuplicateError found e = (e ≡ placeless Alloc) ⊎ ((name : Named) × IsRepeatedIn name (scopes found) × (e ≡ duplicate_of name))
