-- Tokens that are one word, as it is spelled.
use Rattle.std.proofs.Common.{◌≡◌, ℕ, true, List, [], ◌∷◌, refl, sym, subst, ◌∙◌}
use Rattle.std.specs.Str.{bytes_eq}
use Rattle.std.proofs.lemmas.Bool.{and_parts, and_from}
use Rattle.std.proofs.lemmas.Slice.Eq.{bytes_eq-Decides}
use Rattle.educe_tokens.specs.TokenKind.{TokenKind}
use Rattle.educe_tokens.specs.TokenKind.TheVariants as kind
use Rattle.educe_tokens.specs.declared.token.Token.{Token}
use Rattle.educe_tree.specs.Words.{IsOneWord}
use Rattle.educe_grammar.specs.declared.terminal.Terminal.TheVariants.{AnyWord}
use Rattle.educe_grammar.specs.Terminals.{accepts, all_words, set_of, token_in}
use Rattle.educe_grammar.specs.Names.{word_kind}
use Rattle.educe_bound_traits.specs.OneWord.{is_word, is_one_word}

-- an identifier is a word
ident_accepted : (k : TokenKind) (text : List ℕ) → k ≡ kind.Ident → token_in (set_of AnyWord) k text ≡ true
ident_accepted k text h = subst (λ k. token_in (set_of AnyWord) k text ≡ true) (sym h) refl

-- a token is the word
word_holds : (text : List ℕ) (t : Token) → t.kind ≡ kind.Ident → t.spelling ≡ text → is_word text t ≡ true
unfolding accepts
word_holds text t ident spelled = and_from _ _ (ident_accepted t.kind t.spelling ident) ((bytes_eq-Decides text t.spelling).1 (sym spelled))

-- the word is an identifier of this text
word_is : (text : List ℕ) (t : Token) → is_word text t ≡ true → (t.kind ≡ kind.Ident) × (t.spelling ≡ text)
unfolding accepts
word_is text t h =
    let parts = and_parts (accepts AnyWord t) (bytes_eq text t.spelling) h in
    (word_kind all_words t.kind t.spelling parts.0, sym ((bytes_eq-Decides text t.spelling).0 parts.1))

pub one_word_to : (text : List ℕ) (tokens : List Token) → is_one_word text tokens ≡ true → IsOneWord tokens text
one_word_to text [] h = absurd (cc)
one_word_to text (t ∷ []) h = word_is text t h
one_word_to text (t ∷ u ∷ ts) h = absurd (cc)

pub one_word_from : (text : List ℕ) (tokens : List Token) → IsOneWord tokens text → is_one_word text tokens ≡ true
one_word_from text [] h = absurd h
one_word_from text (t ∷ []) h = word_holds text t h.0 h.1
one_word_from text (t ∷ u ∷ ts) h = absurd h

-- one word is not two texts
pub one_text : (tokens : List Token) (text other : List ℕ) → IsOneWord tokens text → IsOneWord tokens other → text ≡ other
one_text [] text other h k = absurd h
one_text (t ∷ []) text other h k = sym h.1 ∙ k.1
one_text (t ∷ u ∷ ts) text other h k = absurd h
