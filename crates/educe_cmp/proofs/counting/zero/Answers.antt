use Rattle.std.proofs.Common.{◌≡◌, ℕ, Bool, true, false, cond, List, [], ◌∷◌, ◌++◌, IsTrue, refl, sym, ap, ◌∙◌, subst, arith}
use Rattle.std.specs.Prelude.{codes}
use Rattle.std.proofs.lemmas.Fmt.{decimal_digit}
use Rattle.educe_tokens.specs.Appends.{Appends}
use Rattle.educe_tokens.specs.Copied.{may_be_copied}
use Rattle.educe_tokens.specs.Lexes.{lexemes}
use Rattle.educe_tokens.specs.LiteralKind.TheVariants.{Int}
use Rattle.educe_tokens.specs.Pieces.{spells}
use Rattle.educe_tokens.specs.Quote.{word_lexeme}
use Rattle.educe_tokens.specs.TokenKind.TheVariants.{Ident, Literal}
use Rattle.educe_tokens.specs.declared.token.Token.{Token}
use Rattle.educe_cmp.proofs.counting.zero.Goals as goal

-- the tokens of a list to which this word alone was pushed
one_word : (none one : List Token) (pushed text : List ℕ) → none ≡ [] → pushed ≡ text → Appends (word_lexeme pushed ∷ []) none one → lexemes one ≡ word_lexeme text ∷ []
one_word none one pushed text empty is appended =
    ap lexemes (appended.joined ∙ ap (λ tokens. tokens ++ appended.more) empty) ∙ appended.same ∙ ap (λ word. word_lexeme word ∷ []) is

-- one word may be copied, be it an identifier or an integer
word_copied : (is_ident : Bool) (text : List ℕ) → IsTrue (may_be_copied (record { kind = cond is_ident Ident (Literal Int); spelling = text } ∷ []))
word_copied true text = refl
word_copied false text = refl

-- a list that is the token of a word may be copied
list_copied : (tokens : List Token) (text : List ℕ) → lexemes tokens ≡ word_lexeme text ∷ [] → IsTrue (may_be_copied (lexemes tokens))
list_copied tokens text is = subst (λ found. IsTrue (may_be_copied found)) (sym is) (word_copied (spells Ident text) text)

pub new-requires : goal.new-requires
new-requires c =
    list_copied c.in_ok-into_slice.field-0 c.in_ok-index_word.field-0.text
    (ap lexemes c.in_ok-into_slice.ensures ∙ one_word _ _ _ _ c.new-tokens.ensures refl c.in_ok-push_word.ensures.ok)

pub returns : goal.returns
returns c =
    ap lexemes (c.new.ensures ∙ c.in_ok-into_slice.ensures)
    ∙ one_word _ _ _ (codes "0") c.new-tokens.ensures (c.in_ok-index_word.ensures ∙ decimal_digit 0 (omega arith)) c.in_ok-push_word.ensures.ok
