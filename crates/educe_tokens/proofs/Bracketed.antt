-- Why the brackets of tokens are rejected, token by token.
use Rattle.std.proofs.Common.{◌≡◌, ℕ, suc, ◌+◌, ◌<◌, ◌≤◌, true, Some, List, [], ◌∷◌, ◌++◌, length, take, drop, get_or, refl, sym, ap, ◌∙◌, subst, arith, encode_utf8_all, append-nil}
use Rattle.std.proofs.Math.Seq.{split_at, take-suc}
use Rattle.std.proofs.lemmas.List.{take_all}
use Rattle.educe_tokens_pieces.specs.declared.kind.Bracket.{Bracket}
use Rattle.educe_tokens.specs.declared.brackets.BracketError.{BracketError}
use Rattle.educe_tokens.specs.declared.brackets.BracketError.TheVariants.{WrongClose, TooDeep, Alloc}
use Rattle.educe_tokens.specs.declared.error.EduceError.{EduceError}
use Rattle.educe_tokens.specs.declared.token.Token.{Token}
use Rattle.educe_tokens.specs.Brackets.{open_after, closes, depth_after, nests, kinds, NestsWithin}
use Rattle.educe_tokens.specs.Causes.{open_behind, empty_at, Meets, IsLexicalCauseWithin}
use Rattle.educe_tokens.specs.Lexes.{lexemes, Lexes}
use Rattle.educe_tokens.specs.Refusals.{syntax_at}
use Rattle.educe_tokens.specs.Steps.{IsCauseOfKind, refusal_of}
use Rattle.educe_tokens.proofs.Opened.{open_behind-push, closes_behind, nests-push}
use Rattle.educe_tokens.proofs.Uncaused.{kinds_around}

-- a token of a list, with those before it and those behind it
token_split : (ts : List Token) (i : ℕ) (t : Token) → i < length ts → t ≡ get_or ts i t → ts ≡ take i ts ++ t ∷ drop (suc i) ts
token_split ts i t h e = split_at ts i t h ∙ ap (λ x. take i ts ++ x ∷ drop (suc i) ts) (sym e)

-- the kinds of one more token that a loop has
kinds_item : (ts : List Token) (i : ℕ) (t : Token) → i < length ts → t ≡ get_or ts i t → kinds (lexemes (take (i + 1) ts)) ≡ kinds (lexemes (take i ts)) ++ t.kind ∷ []
kinds_item ts i t h e =
    let one : suc i ≡ i + 1 = omega arith in
    let front : take (i + 1) ts ≡ take i ts ++ t ∷ [] = ap (λ k. take k ts) (sym one) ∙ take-suc ts i t h ∙ ap (λ x. take i ts ++ x ∷ []) (sym e) in
    ap (λ (us : List Token). kinds (lexemes us)) front ∙ kinds_around (take i ts) t []

-- what is open behind one more token that a loop has
pub opened_item : (ts : List Token) (i : ℕ) (t : Token) (outer inner : List Bracket) → i < length ts → t ≡ get_or ts i t
    → open_behind [] (kinds (lexemes (take i ts))) ≡ Some outer → open_after outer t.kind ≡ Some inner → open_behind [] (kinds (lexemes (take (i + 1) ts))) ≡ Some inner
opened_item ts i t outer inner h e opened after = ap (open_behind []) (kinds_item ts i t h e) ∙ open_behind-push [] outer (kinds (lexemes (take i ts))) t.kind opened ∙ after

-- it nests no deeper than it may
pub shallow_item : {limit : ℕ} → (ts : List Token) (i : ℕ) (t : Token) (outer : List Bracket) → i < length ts → t ≡ get_or ts i t
    → open_behind [] (kinds (lexemes (take i ts))) ≡ Some outer → NestsWithin limit (lexemes (take i ts)) → depth_after (length outer) t.kind ≤ limit → NestsWithin limit (lexemes (take (i + 1) ts))
shallow_item {limit} ts i t outer h e opened shallow within =
    subst (λ ks. nests limit 0 ks ≡ true) (sym (kinds_item ts i t h e)) (nests-push limit [] outer (kinds (lexemes (take i ts))) t.kind opened shallow within)

-- the token that is rejected meets those brackets
meets : {limit : ℕ} → (text : List ℕ) (ts : List Token) (i : ℕ) (t : Token) (outer : List Bracket) → Lexes text ts → i < length ts → t ≡ get_or ts i t → open_behind [] (kinds (lexemes (take i ts))) ≡ Some outer
    → NestsWithin limit (lexemes (take i ts)) → Meets limit text (take i ts) t (drop (suc i) ts) outer
meets text ts i t outer lexes h e opened shallow = record { lexes = subst (Lexes text) (token_split ts i t h e) lexes; opened = opened; shallow = shallow }

-- why a token that a loop has is rejected
pub refused_token : {limit : ℕ} → (text : List ℕ) (before behind : List Token) (t : Token) (outer : List Bracket) (cause : BracketError) → Meets limit text before t behind outer → IsCauseOfKind limit outer t.kind cause → IsLexicalCauseWithin limit text (refusal_of cause t.span)
refused_token text before behind t outer WrongClose met is = IsLexicalCauseWithin.wrong_close before t behind outer met is
refused_token text before behind t outer TooDeep met is = IsLexicalCauseWithin.too_deep before t behind outer is.0 met is.1 is.2
refused_token text before behind t outer Alloc met is = IsLexicalCauseWithin.memory

-- the rejection of a token that the loop stops at has a cause
pub token_cause : {limit : ℕ} → (text : List ℕ) (ts : List Token) (i : ℕ) (t : Token) (outer : List Bracket) (cause : BracketError) (e : EduceError) → i < length ts → t ≡ get_or ts i t
    → open_behind [] (kinds (lexemes (take i ts))) ≡ Some outer → NestsWithin limit (lexemes (take i ts)) → IsCauseOfKind limit outer t.kind cause → e ≡ refusal_of cause t.span → Lexes text ts → IsLexicalCauseWithin limit text e
token_cause {limit} text ts i t outer cause e h at opened shallow is refused lexes =
    subst (IsLexicalCauseWithin limit text) (sym refused) (refused_token text (take i ts) (drop (suc i) ts) t outer cause (meets text ts i t outer lexes h at opened shallow) is)

-- the first of a list that is not empty
at_least_one : {limit : ℕ} → (text : List ℕ) (ts : List Token) (outer : List Bracket) → 0 < length outer → open_behind [] (kinds (lexemes ts)) ≡ Some outer → NestsWithin limit (lexemes ts) → Lexes text ts → IsLexicalCauseWithin limit text (syntax_at (empty_at (length (encode_utf8_all text))))
at_least_one text ts [] some opened shallow lexes = absurd (omega arith)
at_least_one text ts (o ∷ outer) some opened shallow lexes = IsLexicalCauseWithin.unclosed ts o outer lexes opened shallow

-- where the tokens are all taken, they nest no deeper than they may
pub all_shallow : (limit : ℕ) → (ts : List Token) (i : ℕ) → length ts ≤ i → NestsWithin limit (lexemes (take i ts)) → NestsWithin limit (lexemes ts)
all_shallow limit ts i all shallow = subst (λ (us : List Token). NestsWithin limit (lexemes us)) (take_all i ts all) shallow

-- brackets that are open at the end are rejected there
pub unclosed_cause : {limit : ℕ} → (text : List ℕ) (ts : List Token) (i end : ℕ) (outer : List Bracket) (e : EduceError) → length ts ≤ i → 0 < length outer
    → open_behind [] (kinds (lexemes (take i ts))) ≡ Some outer → NestsWithin limit (lexemes (take i ts)) → e ≡ syntax_at (empty_at end) → Lexes text ts → length (encode_utf8_all text) ≡ end → IsLexicalCauseWithin limit text e
unclosed_cause {limit} text ts i end outer e all some opened shallow is lexes bytes =
    let whole = sym (ap (λ (us : List Token). open_behind [] (kinds (lexemes us))) (take_all i ts all)) ∙ opened in
    subst (IsLexicalCauseWithin limit text) (sym (is ∙ ap (λ k. syntax_at (empty_at k)) (sym bytes))) (at_least_one text ts outer some whole (all_shallow limit ts i all shallow) lexes)

-- no brackets, where there is none
none_open : (outer : List Bracket) → length outer ≡ 0 → closes outer [] ≡ true
none_open [] none = refl
none_open (o ∷ outer) none = absurd (omega (arith, none))

-- where none is open at the end, all close in order
pub all_closed : (ts : List Token) (i : ℕ) (outer : List Bracket) → length ts ≤ i → length outer ≡ 0 → open_behind [] (kinds (lexemes (take i ts))) ≡ Some outer → closes [] (kinds (lexemes ts)) ≡ true
all_closed ts i outer all none opened =
    let whole = sym (ap (λ (us : List Token). open_behind [] (kinds (lexemes us))) (take_all i ts all)) ∙ opened in
    sym (ap (closes []) (append-nil (kinds (lexemes ts)))) ∙ closes_behind [] outer (kinds (lexemes ts)) [] whole ∙ none_open outer none
