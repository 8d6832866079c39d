-- Default values, as generated code writes them (documentation of `educe`, Default).
use Rattle.std.specs.Prelude.{◌≡◌, Bool, true, false, not, ◌&&◌, ◌||◌, if◌then◌else◌, List, [], ◌∷◌, ◌++◌, codes, Option, Some, None}
use Rattle.educe_tokens.specs.LiteralKind.{LiteralKind}
use Rattle.educe_tokens.specs.LiteralKind.TheVariants.{Int, Str, ByteStr, Char, Byte}
use Rattle.educe_tokens.specs.TokenKind.{TokenKind}
use Rattle.educe_tokens.specs.TokenKind.TheVariants.{Ident, Lifetime, Literal, Punct, Start, Stop, Doc}
use Rattle.educe_tokens.specs.declared.token.Token.{Token}
use Rattle.educe_tokens.specs.declared.written.Written.{Written}
use Rattle.educe_tokens.specs.Lexes.{Lexeme}
use Rattle.educe_tokens.specs.Quote.{quoted}
use Rattle.educe_tokens.specs.WrittenLexemes.{written_lexemes}
use Rattle.educe_syntax.specs.Expr.{Expr}
use Rattle.educe_syntax.specs.ExprForm.TheVariants.{Other}
use Rattle.educe_syntax.specs.Ty.{Ty}
use Rattle.educe_attrs_generated.specs.Types.{is_primitive, is_integer, is_text, is_bytes}
use Rattle.educe_bound_traits.specs.OneWord.{is_word}

-- ---- one literal or truth value

-- The token is a literal.
abbrev pub is_literal : TokenKind → Bool
is_literal (Literal l) = true
is_literal Ident = false
is_literal Lifetime = false
is_literal (Punct c joint) = false
is_literal (Start b) = false
is_literal (Stop b) = false
is_literal Doc = false

-- The token is `true` or `false`.
abbrev pub is_truth : Token → Bool
is_truth t = is_word (codes "true") t || is_word (codes "false") t

-- The type is that of literals of this kind: any integer type for integers, a reference to `str` for strings, and a
-- reference to an array of `u8` for byte strings.
abbrev pub fits_literal : LiteralKind → List Token → Bool
fits_literal Int ty = is_integer ty
fits_literal Str ty = is_text ty
fits_literal ByteStr ty = is_bytes ty
fits_literal Char ty = is_primitive (codes "char") ty
fits_literal Byte ty = is_primitive (codes "u8") ty

-- The type is that of literals of this kind of token, or of truth values, which are identifiers.
abbrev pub fits_kind : TokenKind → List Token → Bool
fits_kind (Literal l) ty = fits_literal l ty
fits_kind Ident ty = is_primitive (codes "bool") ty
fits_kind Lifetime ty = false
fits_kind (Punct c joint) ty = false
fits_kind (Start b) ty = false
fits_kind (Stop b) ty = false
fits_kind Doc ty = false

-- There is a type, and a token of this kind has it.
abbrev pub fits : TokenKind → Option Ty → Bool
fits kind None = false
fits kind (Some ty) = fits_kind kind ty.written.tokens

-- ---- default values

-- The value is converted: it is one literal or truth value, and there is no type that it has.
abbrev pub is_converted : List Token → Option Ty → Bool
is_converted [] ty = false
is_converted (t ∷ []) ty = (is_literal t.kind || is_truth t) && not (fits t.kind ty)
is_converted (t ∷ u ∷ ts) ty = false

-- The tokens of the conversion `:: core :: convert :: Into :: into ( value )`.
abbrev pub into : List Lexeme → List Lexeme
into value = quoted (codes ":: core :: convert :: Into :: into (") ++ (value ++ quoted (codes ")"))

-- The tokens of the value for a field of the type, if there is one.
abbrev pub adjusted : Written → Option Ty → List Lexeme
adjusted value ty = if is_converted value.tokens ty then into (written_lexemes value) else written_lexemes value

-- The answer is the value for a field of the type: converted by a call, or unchanged with its spans.
pub record IsAdjusted (value : Expr) (ty : Option Ty) (answer : Expr) : Type 0 where
  pub tokens : written_lexemes answer.written ≡ adjusted value.written ty
  pub kept : is_converted value.written.tokens ty ≡ false → answer ≡ value
  pub call : is_converted value.written.tokens ty ≡ true → answer.form ≡ Other
