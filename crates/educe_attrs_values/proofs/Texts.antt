-- The texts of strings.
use Rattle.std.proofs.Common.{◌≡◌, ℕ, List, [], ◌∷◌, refl, sym, ◌∙◌, ap, Option, Some, Result, Ok, Err, IfOk, option_map}
use Rattle.std.specs.declared.alloc.AllocError.{AllocError}
use Rattle.educe_tokens.specs.LiteralKind.TheVariants.{Int, Str, ByteStr, Char, Byte}
use Rattle.educe_tokens.specs.StringValue as value
use Rattle.educe_tokens.specs.TokenKind.{TokenKind}
use Rattle.educe_tokens.specs.TokenKind.TheVariants as token
use Rattle.educe_tokens.specs.declared.token.Token.{Token}
use Rattle.educe_attrs_values.specs.Texts.{text_of_kind, text_in, only_text}

module _ {S : Type 0} (text_of : S → List ℕ) (t : Token) (is : t.kind ≡ token.Literal Str) where
  same_text : value.text_in t ≡ text_in t
  same_text = ap (λ k. value.text_of_kind k t.spelling) is ∙ sym (ap (λ k. text_of_kind k t.spelling) is)

  -- the value of a string is its text
  pub text_found : (r : Result (Option S) AllocError) → IfOk r (λ found. option_map text_of found ≡ value.text_in t) → IfOk r (λ found. option_map text_of found ≡ text_in t)
  text_found (Ok found) h = h ∙ same_text
  text_found (Err e) h = tt

-- ---- tokens that are one string

-- a token with a text is a string
pub text_kind : (k : TokenKind) (spelling text : List ℕ) → text_of_kind k spelling ≡ Some text → k ≡ token.Literal Str
text_kind (token.Literal Str) spelling text h = refl
text_kind (token.Literal Int) spelling text h = absurd (cc)
text_kind (token.Literal ByteStr) spelling text h = absurd (cc)
text_kind (token.Literal Char) spelling text h = absurd (cc)
text_kind (token.Literal Byte) spelling text h = absurd (cc)
text_kind token.Ident spelling text h = absurd (cc)
text_kind token.Lifetime spelling text h = absurd (cc)
text_kind (token.Punct c joint) spelling text h = absurd (cc)
text_kind (token.Start b) spelling text h = absurd (cc)
text_kind (token.Stop b) spelling text h = absurd (cc)
text_kind token.Doc spelling text h = absurd (cc)

-- tokens with a text are one string
pub only_string : (tokens : List Token) (text : List ℕ) → only_text tokens ≡ Some text → (t : Token) × (tokens ≡ t ∷ []) × (t.kind ≡ token.Literal Str)
only_string [] text h = absurd (cc)
only_string (t ∷ []) text h = (t, refl, text_kind t.kind t.spelling text h)
only_string (t ∷ u ∷ ts) text h = absurd (cc)
