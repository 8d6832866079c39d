-- What follows from one growth of a token list after another.
use Rattle.std.proofs.Common.{◌≡◌, List, [], ◌∷◌, ◌++◌, map, refl, sym, ap, ◌∙◌, append_assoc}
use Rattle.std.proofs.lemmas.List.{map-append, append-nil}
use Rattle.educe_tokens.specs.declared.span.Span.{Span}
use Rattle.educe_tokens.specs.declared.token.Token.{Token}
use Rattle.educe_tokens.specs.Brackets.{kinds}
use Rattle.educe_tokens.specs.Copied.{copied_kind, copied}
use Rattle.educe_tokens.specs.Lexes.{Lexeme, lexeme_of, lexemes}
use Rattle.educe_tokens.specs.Appends.{Appends, AppendsAt, HasPrefix}
use Rattle.educe_tokens.proofs.Tokens.{span_of}

-- nothing is appended
pub Appends-nil : (tokens : List Token) → Appends [] tokens tokens
Appends-nil tokens = record { more = []; joined = sym (append-nil tokens); same = refl }

-- one growth, then another
pub Appends-append : {xs ys : List Lexeme} {first second third : List Token} → Appends xs first second → Appends ys second third → Appends (xs ++ ys) first third
Appends-append {first = first} front back = record {
  more = front.more ++ back.more;
  joined = back.joined ∙ ap (λ t. t ++ back.more) front.joined ∙ append_assoc first front.more back.more;
  same = map-append lexeme_of front.more back.more ∙ cc (front.same, back.same);
}

-- what grew begins with what was there
pub HasPrefix-Appends : {xs : List Lexeme} {first second : List Token} → Appends xs first second → HasPrefix first second
HasPrefix-Appends grown = record { more = grown.more; joined = grown.joined }

-- a list begins with itself
pub HasPrefix-same : (tokens : List Token) → HasPrefix tokens tokens
HasPrefix-same tokens = record { more = []; joined = sym (append-nil tokens) }

-- a front of a front is a front
pub HasPrefix-trans : {first second third : List Token} → HasPrefix first second → HasPrefix second third → HasPrefix first third
HasPrefix-trans {first = first} front back = record {
  more = front.more ++ back.more;
  joined = back.joined ∙ ap (λ t. t ++ back.more) front.joined ∙ append_assoc first front.more back.more;
}

-- one more token that has the kind and the spelling
pub Appends-push : (tokens : List Token) (token : Token) → Appends (lexeme_of token ∷ []) tokens (tokens ++ token ∷ [])
Appends-push tokens token = record { more = token ∷ []; joined = refl; same = refl }

-- a list grows by lexemes where it grows by equal ones
pub Appends-same : {xs ys : List Lexeme} {old new : List Token} → xs ≡ ys → Appends xs old new → Appends ys old new
Appends-same e grown = record { more = grown.more; joined = grown.joined; same = grown.same ∙ e }

-- what is appended to no tokens is all that there is
pub lexemes-Appends : {xs : List Lexeme} {old new : List Token} → old ≡ [] → Appends xs old new → lexemes new ≡ xs
lexemes-Appends e grown = ap lexemes (grown.joined ∙ ap (λ t. t ++ grown.more) e) ∙ grown.same

-- ---- copies

-- copies of some of the tokens were appended, and these are left
pub record Copies (all rest old new : List Token) : Type 0 where
  pub more : List Token
  pub joined : new ≡ old ++ more
  pub same : lexemes more ++ copied (lexemes rest) ≡ copied (lexemes all)
  pub placed : map span_of more ++ map span_of rest ≡ map span_of all

-- nothing was appended
pub Copies-nil : (all tokens : List Token) → Copies all all tokens tokens
Copies-nil all tokens = record { more = []; joined = sym (append-nil tokens); same = refl; placed = refl }

-- one more
pub Copies-push : {all old mid new : List Token} (t copy : Token) (rest : List Token) → Copies all (t ∷ rest) old mid → new ≡ mid ++ copy ∷ []
    → copy.kind ≡ copied_kind t.kind (kinds (lexemes rest)) → copy.spelling ≡ t.spelling → copy.span ≡ t.span → Copies all rest old new
Copies-push {old = old} t copy rest front is kind spelling span =
    let kept : lexeme_of copy ≡ record { kind = copied_kind t.kind (kinds (lexemes rest)); spelling = t.spelling } = λ i. record { kind = kind i; spelling = spelling i } in
    record {
      more = front.more ++ copy ∷ [];
      joined = is ∙ ap (λ tokens. tokens ++ copy ∷ []) front.joined ∙ append_assoc old front.more (copy ∷ []);
      same =
          ap (λ found. found ++ copied (lexemes rest)) (map-append lexeme_of front.more (copy ∷ []))
          ∙ append_assoc (lexemes front.more) (lexeme_of copy ∷ []) (copied (lexemes rest))
          ∙ ap (λ (x : Lexeme). lexemes front.more ++ x ∷ copied (lexemes rest)) kept
          ∙ front.same;
      placed =
          ap (λ places. places ++ map span_of rest) (map-append span_of front.more (copy ∷ []))
          ∙ append_assoc (map span_of front.more) (copy.span ∷ []) (map span_of rest)
          ∙ ap (λ (place : Span). map span_of front.more ++ place ∷ map span_of rest) span
          ∙ front.placed;
    }

-- all
pub Appends-Copies : {all old new : List Token} → Copies all [] old new → Appends (copied (lexemes all)) old new
Appends-Copies done = record { more = done.more; joined = done.joined; same = sym (append-nil (lexemes done.more)) ∙ done.same }

pub AppendsAt-Copies : {all old new : List Token} → Copies all [] old new → AppendsAt (map span_of all) old new
AppendsAt-Copies done = record { more = done.more; joined = done.joined; placed = sym (append-nil (map span_of done.more)) ∙ done.placed }
