-- The numbers of constants, and of key functions (Rust Reference, Enumerations: discriminants; documentation of the primitive
-- integer types, `wrapping_add`).
use Rattle.std.specs.Prelude.{ℤ, pos, ◌+ℤ◌, ◌==◌, Bool, ◌||◌, List, [], ◌∷◌, ◌++◌, length, Option, Some, None, if◌then◌else◌, option_and_then}
use Rattle.std.specs.Option.{option_map}
use Rattle.educe_tokens.specs.Text.{text_of}
use Rattle.educe_tokens.specs.WrittenLexemes.{written_lexemes}
use Rattle.educe_tree.specs.declared.derive.DeriveInput.{DeriveInput}
use Rattle.educe_tree.specs.declared.expr.Expr.{Expr}
use Rattle.educe_tree.specs.declared.ident.Ident.{Ident}
use Rattle.educe_discriminants.specs.Literals.{literal_number}
use Rattle.educe_discriminants.specs.Ranges.{wrapped}
use Rattle.educe_body_values.specs.declared.answers.Answer.{Answer}
use Rattle.educe_body_values.specs.declared.answers.Answer.TheVariants as answer
use Rattle.educe_body_values.specs.declared.answers.Answers.{Answers}
use Rattle.educe_body_values.specs.declared.callee.Callee.TheVariants.{Written}
use Rattle.educe_body_values.specs.declared.environment.Binding.{Binding}
use Rattle.educe_body_values.specs.declared.environment.Referent.TheVariants.{Inert}
use Rattle.educe_body_forms.specs.declared.key_function.Constant.{Constant}
use Rattle.educe_body_forms.specs.declared.key_function.Distance.{Distance}
use Rattle.educe_body_forms.specs.declared.key_function.KeyArm.{KeyArm}
use Rattle.educe_body_forms.specs.declared.pattern.Pattern.{Pattern}
use Rattle.educe_body_values.specs.declared.value.Value.{Value}
use Rattle.educe_body_values.specs.Answering.{answer_of}
use Rattle.educe_body_values.specs.Matching.{fits}
use Rattle.educe_body_values.specs.Scoping.{names_bound}

-- ---- expressions

-- The number that is answered.
abbrev pub answered_number : Option Answer → Option ℤ
answered_number None = None
answered_number (Some (answer.Truth b)) = None
answered_number (Some (answer.Order o)) = None
answered_number (Some (answer.PartialOrder p)) = None
answered_number (Some (answer.Number n)) = Some n
answered_number (Some (answer.Part n)) = None
answered_number (Some (answer.Made x)) = None

-- The number that the table answers for the text of an expression.
abbrev pub text_number : Answers → Expr → Option ℤ
text_number table value = answered_number (answer_of table (Written (text_of (written_lexemes value.written))) None None)

-- The first number, or else the second.
abbrev pub or_number : Option ℤ → Option ℤ → Option ℤ
or_number None other = other
or_number (Some n) other = Some n

-- The number of an expression: what a literal, or a minus and a literal, writes; of any other text, what the table answers.
abbrev pub number_of : Answers → Expr → Option ℤ
number_of table value = or_number (literal_number value.written.tokens) (text_number table value)

-- The number of an expression where these names are in scope: a text that has one of them among its identifiers has no number.
abbrev pub number_in : Answers → List Binding → Expr → Option ℤ
number_in table names value = if names_bound names value.written.tokens then None else number_of table value

-- ---- constants

-- The number behind another one: with a distance, the sum wraps in the type of the distance.
abbrev pub behind : Option Distance → ℤ → ℤ
behind None n = n
behind (Some distance) n = wrapped distance.ty (n +ℤ pos distance.steps)

-- The number of a constant, where these names are in scope.
abbrev pub constant_number : Answers → List Binding → Constant → Option ℤ
constant_number table names constant = option_map (behind constant.distance) (number_in table names constant.value)

-- ---- key functions

-- The parameter of a key function, which no constant reads.
abbrev pub parameter : Ident → Binding
parameter this = record { name = this.text; referent = Inert }

-- The pattern names no field: `..` stands in their place, or it has none.
abbrev pub is_bare : Pattern → Bool
is_bare pattern = pattern.rest || (length pattern.fields == 0)

-- The number of a key's arm; a pattern that names fields gives none.
abbrev pub bare_number : Answers → List Binding → KeyArm → Option ℤ
bare_number table names arm = if is_bare arm.pattern then constant_number table names arm.constant else None

-- The number that a key function gives for a value: that of the first arm whose pattern fits.
abbrev pub arms_number : DeriveInput → Answers → List Binding → List KeyArm → Value → Option ℤ
arms_number definition table names [] value = None
arms_number definition table names (arm ∷ arms) value =
    if fits definition arm.pattern value then bare_number table names arm else arms_number definition table names arms value

-- The number that a key function gives for a value that may be missing; the parameter is in scope.
abbrev pub key_number : DeriveInput → Answers → List Binding → Ident → List KeyArm → Option Value → Option ℤ
key_number definition table names this arms value = option_and_then (arms_number definition table (names ++ parameter this ∷ []) arms) value
