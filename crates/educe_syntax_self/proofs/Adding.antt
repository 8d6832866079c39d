-- What follows from adding tokens that lie nowhere.
use Rattle.std.proofs.Common.{◌≡◌, false, List, [], ◌∷◌, ◌++◌, map, length, take, get_or, ◌+◌, ◌<◌, ℕ, refl, sym, ap, subst, ◌∙◌, append_assoc, codes}
use Rattle.std.proofs.lemmas.List.{map-append, flat_map_more, take_more, append-nil, append_cancel_left}
use Rattle.std.specs.List.{flat_map}
use Rattle.educe_tokens.specs.Appends.{Appends, AppendsNowhere, LieNowhere}
use Rattle.educe_tokens.specs.Lexes.{Lexeme, lexeme_of, lexemes}
use Rattle.educe_tokens.specs.Quote.{quoted}
use Rattle.educe_tree.specs.declared.generics.GenericParam.{GenericParam}
use Rattle.educe_grammar.specs.Steps.{Tokens}
use Rattle.educe_syntax_self.specs.Heads.{Adds, punct, opening, behind_comma, argument_of}

-- nothing is added
pub Adds-nil : (tokens : Tokens) → Adds [] tokens tokens
Adds-nil tokens = record { more = []; joined = sym (append-nil tokens); same = refl; nowhere = tt }

-- two lists that lie nowhere
nowhere_both : (ts us : Tokens) → LieNowhere ts → LieNowhere us → LieNowhere (ts ++ us)
nowhere_both [] us first second = second
nowhere_both (t ∷ ts) us first second = (first.0, nowhere_both ts us first.1 second)

-- some are added, and then others
pub Adds-append : {xs ys : List Lexeme} {first second third : Tokens} → Adds xs first second → Adds ys second third → Adds (xs ++ ys) first third
Adds-append {first = first} front back = record {
  more = front.more ++ back.more;
  joined = back.joined ∙ ap (λ t. t ++ back.more) front.joined ∙ append_assoc first front.more back.more;
  same = map-append lexeme_of front.more back.more ∙ cc (front.same, back.same);
  nowhere = nowhere_both front.more back.more front.nowhere back.nowhere;
}

-- tokens are added, by equal lexemes
pub Adds-same : {xs ys : List Lexeme} {old new : Tokens} → xs ≡ ys → Adds xs old new → Adds ys old new
Adds-same e grown = record { more = grown.more; joined = grown.joined; same = grown.same ∙ e; nowhere = grown.nowhere }

-- what is appended, and lies nowhere, is added
pub Adds-both : {xs : List Lexeme} {old new : Tokens} → Appends xs old new → AppendsNowhere old new → Adds xs old new
Adds-both {old = old} found nowhere = record {
  more = found.more;
  joined = found.joined;
  same = found.same;
  nowhere = subst LieNowhere (append_cancel_left old nowhere.more found.more (sym nowhere.joined ∙ found.joined)) nowhere.nowhere;
}

-- what is added to no tokens is all that there is
pub lexemes-Adds : {xs : List Lexeme} {old new : Tokens} → old ≡ [] → Adds xs old new → lexemes new ≡ xs
lexemes-Adds e grown = ap lexemes (grown.joined ∙ ap (λ t. t ++ grown.more) e) ∙ grown.same

-- what is added to no tokens has the span of no place
pub nowhere-Adds : {xs : List Lexeme} {old new : Tokens} → old ≡ [] → Adds xs old new → LieNowhere new
nowhere-Adds e grown = subst LieNowhere (sym (grown.joined ∙ ap (λ t. t ++ grown.more) e)) grown.nowhere

-- ---- arguments

-- one more argument
pub more_taken : (params : List GenericParam) (i : ℕ) (p : GenericParam) → i < length params → p ≡ get_or params i p
    → flat_map behind_comma (map argument_of (take i params)) ++ behind_comma (argument_of p) ≡ flat_map behind_comma (map argument_of (take (i + 1) params))
more_taken params i p within is =
    flat_map_more behind_comma [] (map argument_of (take i params)) (argument_of p)
    ∙ ap (flat_map behind_comma) (sym (map-append argument_of (take i params) (p ∷ [])) ∙ ap (map argument_of) (ap (λ q. take i params ++ q ∷ []) is ∙ sym (take_more params i p within)))

-- ---- templates

pub comma_quoted : quoted (codes ",") ≡ punct 44 false ∷ []
unfolding quoted
comma_quoted = refl

pub opening_quoted : quoted (codes ":: <") ≡ opening
unfolding quoted
opening_quoted = refl

pub closing_quoted : quoted (codes ">") ≡ punct 62 false ∷ []
unfolding quoted
closing_quoted = refl
