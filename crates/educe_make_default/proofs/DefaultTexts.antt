-- Default values, as they are written, may stand side by side with other tokens.
use Rattle.std.proofs.Common.{◌≡◌, IsTrue, List, codes, refl, sym, ap, ◌∙◌, subst}
use Rattle.educe_tokens.specs.declared.token.Token.{Token}
use Rattle.educe_tokens.specs.Copied.{copied, may_be_copied}
use Rattle.educe_tokens.specs.Lexes.{lexemes}
use Rattle.educe_tokens.specs.Quote.{quoted}
use Rattle.educe_tokens.specs.WrittenLexemes.{written_lexemes}
use Rattle.educe_tokens.proofs.Copying.{copied-written, may_be_copied-written}
use Rattle.educe_tokens.proofs.Printable.{IsPrintable, printable-written, printable-append, printable-quoted}
use Rattle.educe_syntax.specs.Ty.{Ty}
use Rattle.educe_meaning.specs.Making.{default_tokens}

-- the call of `Default::default` for a type
default_printable : (ty : Ty) → IsPrintable (default_tokens ty)
default_printable ty =
    printable-append (quoted (codes "<")) _ (printable-quoted (codes "<") refl)
    (printable-append (written_lexemes ty.written) _ (printable-written ty.written) (printable-quoted (codes "as :: core :: default :: Default > :: default ( )") refl))

-- its tokens may be copied
pub default_fits : (tokens : List Token) (ty : Ty) → lexemes tokens ≡ default_tokens ty → IsTrue (may_be_copied (lexemes tokens))
default_fits tokens ty is = subst (λ xs. IsTrue (may_be_copied xs)) (sym is) (may_be_copied-written (default_tokens ty) (default_printable ty).written)

-- and are their copies
pub default_kept : (tokens : List Token) (ty : Ty) → lexemes tokens ≡ default_tokens ty → copied (lexemes tokens) ≡ default_tokens ty
default_kept tokens ty is = ap copied is ∙ copied-written (default_tokens ty) (default_printable ty).written
