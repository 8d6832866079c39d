-- The attributes of generated items, and converted values, may stand side by side with other tokens.
use Rattle.std.proofs.Common.{◌≡◌, Bool, true, false, IsTrue, List, [], ◌++◌, codes, refl, sym, ap, ◌∙◌, subst, append_assoc}
use Rattle.std.specs.Prelude.{if◌then◌else◌}
use Rattle.educe_tokens.specs.Bracket.TheVariants.{Round, Square}
use Rattle.educe_tokens.specs.declared.token.Token.{Token}
use Rattle.educe_tokens.specs.declared.written.Written.{Written}
use Rattle.educe_tokens.specs.Copied.{copied, may_be_copied}
use Rattle.educe_tokens.specs.Lexes.{Lexeme, lexemes}
use Rattle.educe_tokens.specs.Quote.{quoted}
use Rattle.educe_tokens.specs.WrittenLexemes.{written_lexemes}
use Rattle.educe_tokens.proofs.Printable.{IsPrintable, printable-nil, printable-written, printable-append, printable-brackets, printable-flat_map, printable-quoted as template}
use Rattle.educe_tokens.proofs.Copying.{copied-written, may_be_copied-written}
use Rattle.educe_syntax.specs.Attribute.{Attribute}
use Rattle.educe_syntax.specs.Meta.{Meta}
use Rattle.educe_syntax.specs.Meta.TheVariants as said
use Rattle.educe_syntax.specs.MetaPath.{MetaPath}
use Rattle.educe_attrs_values.specs.Sources.{inside}
use Rattle.educe_attrs_generated.specs.Lints.{sets_level, expects, attribute, allowing, allowed, lint_of_list, lint_of, lints, impl_attributes}
use Rattle.educe_attrs_generated.specs.Adjusted.{into}

-- ---- attributes

-- tokens in the brackets of an attribute
in_attribute : (inner : List Lexeme) → IsPrintable inner → IsPrintable (quoted (codes "# [") ++ (inner ++ quoted (codes "]")))
unfolding quoted
in_attribute inner h = printable-append (quoted (codes "#")) _ (template (codes "#") refl) (printable-brackets Square inner h)

-- tokens in round brackets
in_round : (inner : List Lexeme) → IsPrintable inner → IsPrintable (quoted (codes "(") ++ (inner ++ quoted (codes ")")))
unfolding quoted
in_round inner h = printable-brackets Round inner h

-- the attribute of a path and what stands behind it
attribute_printable : (path : MetaPath) (behind : List Lexeme) → IsPrintable behind → IsPrintable (attribute path behind)
attribute_printable path behind h =
    let inner : IsPrintable (written_lexemes path.written ++ behind) = printable-append (written_lexemes path.written) behind (printable-written path.written) h in
    subst (λ xs. IsPrintable (quoted (codes "# [") ++ xs)) (append_assoc (written_lexemes path.written) behind (quoted (codes "]"))) (in_attribute _ inner)

-- the attribute that allows lints
allowing_printable : (list : List Token) → IsTrue (may_be_copied (lexemes list)) → IsPrintable (allowing (lexemes list))
unfolding quoted
allowing_printable list h =
    let lints : Written = record { tokens = list; written = h } in
    let inner : IsPrintable (quoted (codes "allow") ++ (quoted (codes "(") ++ (written_lexemes lints ++ quoted (codes ")")))) =
    printable-append (quoted (codes "allow")) _ (template (codes "allow") refl) (in_round (written_lexemes lints) (printable-written lints)) in
    subst (λ xs. IsPrintable (quoted (codes "# [ allow (") ++ xs)) (append_assoc (written_lexemes lints) (quoted (codes ")")) (quoted (codes "]"))) (in_attribute _ inner)

-- what is there or not
either_printable : (test : Bool) (xs : List Lexeme) → IsPrintable xs → IsPrintable (if test then xs else [])
either_printable true xs h = h
either_printable false xs h = printable-nil

-- either of two lists
both_printable : (test : Bool) (xs ys : List Lexeme) → IsPrintable xs → IsPrintable ys → IsPrintable (if test then xs else ys)
both_printable true xs ys h g = h
both_printable false xs ys h g = g

allowed_by : (tokens : List Token) (test : Bool) → may_be_copied (lexemes (inside tokens)) ≡ test → IsPrintable (if test then allowing (lexemes (inside tokens)) else [])
allowed_by tokens true e = allowing_printable (inside tokens) e
allowed_by tokens false e = printable-nil

-- the attribute for an `expect` list
allowed_printable : (tokens : List Token) → IsPrintable (allowed tokens)
allowed_printable tokens = allowed_by tokens (may_be_copied (lexemes (inside tokens))) refl

-- the attribute for a list
of_list_printable : (path : MetaPath) (list : Written) → IsPrintable (lint_of_list path list)
of_list_printable path list =
    both_printable (sets_level path) _ _ (attribute_printable path (written_lexemes list) (printable-written list))
    (either_printable (expects path) _ (allowed_printable list.tokens))

-- the attribute for an attribute
lint_printable : (meta : Meta) → IsPrintable (lint_of meta)
lint_printable (said.Word path) = either_printable (sets_level path) _ (attribute_printable path [] printable-nil)
lint_printable (said.List path list place) = of_list_printable path list
lint_printable (said.NameValue path value place) =
    either_printable (sets_level path) _
    (attribute_printable path _ (printable-append (quoted (codes "=")) (written_lexemes value.written) (template _ refl) (printable-written value.written)))
lint_printable (said.Doc t) = printable-nil
lint_printable (said.Unread path behind place) = either_printable (sets_level path) _ (attribute_printable path (written_lexemes behind) (printable-written behind))

-- the lint attributes
pub lints_printable : (attributes : List Attribute) → IsPrintable (lints attributes)
lints_printable attributes = printable-flat_map (λ (a : Attribute). lint_of a.meta) (λ a. lint_printable a.meta) attributes

-- the attributes of an impl
pub impl_attributes_printable : (attributes : List Attribute) → IsPrintable (impl_attributes attributes)
impl_attributes_printable attributes = printable-append (quoted (codes "# [ automatically_derived ]")) (lints attributes) (template _ refl) (lints_printable attributes)

-- ---- values

-- a converted value
pub into_printable : (value : Written) → IsPrintable (into (written_lexemes value))
unfolding quoted
into_printable value =
    printable-append (quoted (codes ":: core :: convert :: Into :: into")) _ (template (codes ":: core :: convert :: Into :: into") refl) (in_round (written_lexemes value) (printable-written value))

-- ---- lists that are printable

-- their tokens may be copied
pub fits : (tokens : List Token) (found : List Lexeme) → lexemes tokens ≡ found → IsPrintable found → IsTrue (may_be_copied (lexemes tokens))
fits tokens found is h = subst (λ xs. IsTrue (may_be_copied xs)) (sym is) (may_be_copied-written found h.written)

-- tokens that are printed are their own copies
pub kept : (tokens : List Token) (found : List Lexeme) → lexemes tokens ≡ found → IsPrintable found → copied (lexemes tokens) ≡ lexemes tokens
kept tokens found is h = ap copied is ∙ copied-written found h.written ∙ sym is
