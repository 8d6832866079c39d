use Rattle.std.proofs.Common.{◌≡◌, ◌∙◌, ℕ, List, [], ◌∷◌, map, refl, sym, ap}
use Rattle.educe_tokens.specs.declared.token.Token.{Token}
use Rattle.educe_tokens.specs.Lexes.{Lexeme}
use Rattle.educe_tokens.specs.Same.{AreSameTokens, lexemes_aside}
use Rattle.educe_body_values.specs.Callees.{built_in_named, spellings}
use Rattle.educe_body_values.proofs.Tables.{first_named-ascii}
use Rattle.educe_body_values.proofs.callee.built_in.Goals as goal

-- the spellings of tokens are those of what they are, jointness and spans aside
spellings_aside : (tokens : List Token) → map (λ (x : Lexeme). x.spelling) (lexemes_aside tokens) ≡ spellings tokens
spellings_aside [] = refl
spellings_aside (t ∷ ts) = ap (λ (more : List (List ℕ)). t.spelling ∷ more) (spellings_aside ts)

-- lists of the same tokens have the same spellings
same_spelled : (ts us : List Token) → AreSameTokens ts us → spellings ts ≡ spellings us
same_spelled ts us same = sym (spellings_aside ts) ∙ ap (map (λ (x : Lexeme). x.spelling)) same ∙ spellings_aside us

named_is : goal.returns-clause-named
unfolding built_in_named
named_is c =
    c.named.ensures ∙ first_named-ascii _ _ refl
    ∙ ap (λ (tokens : List Token). built_in_named (spellings tokens)) (c.as_slice.ensures ∙ c.tokens.ensures)

pub returns-clause-named : goal.returns-clause-named
returns-clause-named = named_is

pub returns-clause-same : goal.returns-clause-same
returns-clause-same c = λ other same. ap built_in_named (sym (same_spelled c.args.path.now.written.tokens other.written.tokens same)) ∙ sym (named_is c)
