-- Names and lifetimes whose text and place are a token's.
use Rattle.std.proofs.Common.{◌≡◌, ℕ, List, [], IsTrue, true, sym, subst, Ok}
use mathlib.Core.HLevel.{is_prop→PathP}
use Rattle.educe_tokens.specs.Pieces.{spells}
use Rattle.educe_tokens.specs.TokenKind.TheVariants as kind
use Rattle.educe_tokens.specs.declared.token.Token.{Token}
use Rattle.educe_tree.specs.declared.ident.Ident.{Ident}
use Rattle.educe_tree.specs.declared.lifetime.Lifetime.{Lifetime}
use Rattle.educe_grammar.specs.declared.terminal.Terminal.TheVariants as terminal
use Rattle.educe_grammar.specs.Names.{word_kind, lifetime_kind, name_of, segment_name_of, lifetime_of, name, segment_name, lifetime}
use Rattle.educe_grammar.specs.NotedReads.{read}
use Rattle.educe_grammar.specs.Noting.{run}
use Rattle.educe_grammar.specs.declared.parse_stream.ParseStream.{ParseStream}
use Rattle.educe_grammar.specs.Steps.{Tokens, expect}
use Rattle.educe_grammar.specs.Terminals.{some_words, segment_words, accepts}
use Rattle.educe_grammar.proofs.Steps.{IsTrue-prop}

-- names of one text and one place are equal
ident_same : (a b : Ident) → a.text ≡ b.text → a.span ≡ b.span → a ≡ b
ident_same a b text span = λ i. record {
  text = text i;
  span = span i;
  spelled = is_prop→PathP (λ j. IsTrue (spells kind.Ident (text j))) (λ j. IsTrue-prop _) a.spelled b.spelled i;
}

-- lifetimes of one text and one place are equal
lifetime_same : (a b : Lifetime) → a.text ≡ b.text → a.span ≡ b.span → a ≡ b
lifetime_same a b text span = λ i. record {
  text = text i;
  span = span i;
  spelled = is_prop→PathP (λ j. IsTrue (spells kind.Lifetime (text j))) (λ j. IsTrue-prop _) a.spelled b.spelled i;
}

-- a name is an identifier
pub name_kind : (t : Token) → IsTrue (accepts terminal.Name t) → t.kind ≡ kind.Ident
unfolding accepts
name_kind t passes = word_kind (some_words true []) t.kind t.spelling passes

-- the name of a segment is an identifier
pub segment_kind : (t : Token) → IsTrue (accepts terminal.PathSegment t) → t.kind ≡ kind.Ident
unfolding accepts
segment_kind t passes = word_kind segment_words t.kind t.spelling passes

-- a lifetime is one
pub lifetime_kind_of : (t : Token) → IsTrue (accepts terminal.Lifetime t) → t.kind ≡ kind.Lifetime
unfolding accepts
lifetime_kind_of t passes = lifetime_kind t.kind t.spelling passes

-- a name is read where its token is taken
pub read_name : (budget : ℕ) (s : ParseStream) (rest : Tokens) (t : Token) (passes : IsTrue (accepts terminal.Name t)) (found : Ident)
    → expect (accepts terminal.Name) s.cursor ≡ Ok (record { token = t; passes = passes }, rest) → found.text ≡ t.spelling → found.span ≡ t.span
    → read budget name s ≡ Ok (found, record { cursor = rest; selves = s.selves })
unfolding run name
read_name budget s rest t passes found taken text span =
    rw taken (λ i. Ok (ident_same (name_of (record { token = t; passes = passes })) found (sym text) (sym span) i, record { cursor = rest; selves = s.selves }))

-- the name of a segment is read where its token is taken
pub read_segment_name : (budget : ℕ) (s : ParseStream) (rest : Tokens) (t : Token) (passes : IsTrue (accepts terminal.PathSegment t)) (found : Ident)
    → expect (accepts terminal.PathSegment) s.cursor ≡ Ok (record { token = t; passes = passes }, rest) → found.text ≡ t.spelling → found.span ≡ t.span
    → read budget segment_name s ≡ Ok (found, record { cursor = rest; selves = s.selves })
unfolding run segment_name
read_segment_name budget s rest t passes found taken text span =
    rw taken (λ i. Ok (ident_same (segment_name_of (record { token = t; passes = passes })) found (sym text) (sym span) i, record { cursor = rest; selves = s.selves }))

-- a lifetime is read where its token is taken
pub read_lifetime : (budget : ℕ) (s : ParseStream) (rest : Tokens) (t : Token) (passes : IsTrue (accepts terminal.Lifetime t)) (found : Lifetime)
    → expect (accepts terminal.Lifetime) s.cursor ≡ Ok (record { token = t; passes = passes }, rest) → found.text ≡ t.spelling → found.span ≡ t.span
    → read budget lifetime s ≡ Ok (found, record { cursor = rest; selves = s.selves })
unfolding run lifetime
read_lifetime budget s rest t passes found taken text span =
    rw taken (λ i. Ok (lifetime_same (lifetime_of (record { token = t; passes = passes })) found (sym text) (sym span) i, record { cursor = rest; selves = s.selves }))

-- what a token of this kind is spelled stays one
pub ident_spelled : (t : Token) (text : List ℕ) → t.kind ≡ kind.Ident → text ≡ t.spelling → IsTrue (spells kind.Ident text)
ident_spelled t text is same = subst (λ text. IsTrue (spells kind.Ident text)) (sym same) (subst (λ k. IsTrue (spells k t.spelling)) is t.spelled)

-- the spelling of a lifetime token spells a lifetime
pub lifetime_spelled : (t : Token) (text : List ℕ) → t.kind ≡ kind.Lifetime → text ≡ t.spelling → IsTrue (spells kind.Lifetime text)
lifetime_spelled t text is same = subst (λ text. IsTrue (spells kind.Lifetime text)) (sym same) (subst (λ k. IsTrue (spells k t.spelling)) is t.spelled)
