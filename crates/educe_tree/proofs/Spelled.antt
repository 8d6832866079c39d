-- The spellings of tokens, one behind the other.
use Rattle.std.proofs.Common.{◌≡◌, ℕ, ◌+◌, ◌<◌, List, [], ◌∷◌, ◌++◌, length, take, get_or, ap, sym, ◌∙◌, append-nil}
use Rattle.std.specs.List.{flat_map}
use Rattle.std.proofs.lemmas.List.{take_more}
use Rattle.std.proofs.lemmas.Grind.{flat_map-append}
use Rattle.educe_tokens.specs.declared.token.Token.{Token}

abbrev spelling_of : Token → List ℕ
spelling_of token = token.spelling

-- with one token more, its spelling stands behind the others
pub spelled_more : (tokens : List Token) (i : ℕ) (next d : Token) → i < length tokens → next ≡ get_or tokens i d
    → flat_map (λ (token : Token). token.spelling) (take i tokens) ++ next.spelling ≡ flat_map (λ (token : Token). token.spelling) (take (i + 1) tokens)
spelled_more tokens i next d within is =
    ap (λ (token : Token). flat_map spelling_of (take i tokens) ++ token.spelling) is
    ∙ ap (λ ss. flat_map spelling_of (take i tokens) ++ ss) (sym (append-nil (spelling_of (get_or tokens i d))))
    ∙ sym (ap (λ ts. flat_map spelling_of ts) (take_more tokens i d within) ∙ flat_map-append spelling_of (take i tokens) (get_or tokens i d ∷ []))
