-- A text with tokens whose brackets close in order, not too deep, has no cause to be rejected.
use Rattle.std.proofs.Common.{◌≡◌, ◌≢◌, ℕ, ◌+◌, ◌⊎◌, inl, inr, true, false, Some, None, List, [], ◌∷◌, ◌++◌, length, refl, sym, ap, ◌∙◌, subst, arith, append-nil, Result, Ok, Err, IfOk, IfErr}
use Rattle.std.proofs.lemmas.Bool.{and_parts, false≢true}
use Rattle.educe_tokens_pieces.specs.declared.kind.Bracket.{Bracket}
use Rattle.educe_tokens_pieces.specs.declared.kind.TokenKind.{TokenKind}
use Rattle.educe_tokens_pieces.specs.declared.kind.TokenKind.TheVariants.{Start}
use Rattle.educe_tokens_pieces.specs.declared.kind.UncarriedKind.{UncarriedKind}
use Rattle.educe_tokens_pieces.specs.declared.kind.PieceKind.{PieceKind}
use Rattle.educe_tokens_pieces.specs.declared.kind.PieceKind.TheVariants.{Uncarried}
use Rattle.educe_tokens_scan.specs.Reading.{Piece, Reads, FitsNone}
use Rattle.educe_tokens_scan.proofs.Readings.{reads_on}
use Rattle.educe_tokens.specs.declared.error.EduceError.{EduceError}
use Rattle.educe_tokens.specs.declared.error.Kind.TheVariants.{TooDeep, Alloc}
use Rattle.educe_tokens.specs.declared.token.Token.{Token}
use Rattle.educe_tokens.specs.Lexes.{Lexeme, lexemes, Lexes, LexesAside, is_carried, are_carried}
use Rattle.educe_tokens.specs.Brackets.{open_after, closes, kinds, depth_after, nests, IsBalanced, NestsWithin}
use Rattle.educe_tokens.specs.Causes.{open_behind, IsLexicalCauseWithin, Gives}
use Rattle.educe_tokens.specs.Steps.{IsReadingWithin}
use Rattle.educe_tokens.proofs.Opened.{closes_after, closes-cons, closes_behind, nests_behind, depth_within}
use Rattle.educe_tokens.proofs.Unique.{lexes_aside, lexes_aside_one, lexes_one}

-- an unsupported literal is none of the pieces that are carried
pub not_carried : (kind : UncarriedKind) (k : PieceKind) (s : List ℕ) → k ≡ Uncarried kind → is_carried (record { kind = k; spelling = s }) ≡ false
not_carried kind k s is = ap (λ x. is_carried (record { kind = x; spelling = s })) is

-- no pieces that are all carried have a literal among them that is not
carried_among : (before behind : List Piece) (p : Piece) → are_carried (before ++ p ∷ behind) ≡ true → is_carried p ≡ false → ⊥
carried_among [] behind p all none = false≢true (sym none ∙ (and_parts (is_carried p) _ all).0)
carried_among (x ∷ before) behind p all none = carried_among before behind p (and_parts (is_carried x) _ all).1 none

-- where no front is a piece, nothing is read
stops : (rest : List ℕ) (us : List Piece) → rest ≢ [] → FitsNone rest → Reads rest us [] → ⊥
stops rest [] some none reads = some reads
stops rest (u ∷ us) some none reads = none u reads.0 reads.1 reads.2

-- the kinds of the tokens before one, of it and of those behind it
pub kinds_around : (before : List Token) (token : Token) (behind : List Token) → kinds (lexemes (before ++ token ∷ behind)) ≡ kinds (lexemes before) ++ token.kind ∷ kinds (lexemes behind)
kinds_around [] token behind = refl
kinds_around (t ∷ before) token behind = ap (λ ks. t.kind ∷ ks) (kinds_around before token behind)

-- these are the kinds of the tokens of the text, however they were found
kinds_met : (text : List ℕ) (found : List Lexeme) (before : List Token) (token : Token) (behind : List Token) → LexesAside text found → Lexes text (before ++ token ∷ behind)
    → kinds found ≡ kinds (lexemes before) ++ token.kind ∷ kinds (lexemes behind)
kinds_met text found before token behind lexes own =
    ap kinds (lexes_aside_one text found (lexemes (before ++ token ∷ behind)) lexes (lexes_aside text _ own)) ∙ kinds_around before token behind

-- a bracket that closes wrongly keeps the brackets from closing in order
wrong : (ks more : List TokenKind) (kind : TokenKind) (outer : List Bracket) → open_behind [] ks ≡ Some outer → open_after outer kind ≡ None → closes [] (ks ++ kind ∷ more) ≡ true → ⊥
wrong ks more kind outer opened none balanced =
    false≢true (sym (closes_behind [] outer ks (kind ∷ more) opened ∙ closes-cons outer kind more ∙ ap (λ o. closes_after o more) none) ∙ balanced)

-- brackets that are open at the end keep the brackets from closing in order
left_open : (ks : List TokenKind) (innermost : Bracket) (outer : List Bracket) → open_behind [] ks ≡ Some (innermost ∷ outer) → closes [] ks ≡ true → ⊥
left_open ks innermost outer opened balanced =
    false≢true (sym (closes_behind [] (innermost ∷ outer) ks [] opened) ∙ ap (closes []) (append-nil ks) ∙ balanced)

-- a bracket that opens too deep keeps them from nesting within the limit
deep : {limit : ℕ} → (ks more : List TokenKind) (kind : TokenKind) (outer : List Bracket) (b : Bracket) → open_behind [] ks ≡ Some outer → kind ≡ Start b → length outer ≡ limit → nests limit 0 (ks ++ kind ∷ more) ≡ true → ⊥
deep {limit} ks more kind outer b opened opens full shallow =
    let within = depth_within limit (length outer) kind more (nests_behind limit [] outer ks (kind ∷ more) opened shallow) in
    let beyond : depth_after (length outer) kind ≡ length outer + 1 = ap (depth_after (length outer)) opens in
    omega (arith, within, beyond, full)

-- the one cause that a text has whose tokens are these, their spans aside, and whose brackets close in order: they nest too
-- deep
pub cause_if_balanced : {limit : ℕ} → (text : List ℕ) (found : List Lexeme) → LexesAside text found → IsBalanced found → (e : EduceError) → IsLexicalCauseWithin limit text e → ((e.kind ≡ TooDeep) × (NestsWithin limit found → ⊥)) ⊎ (e.kind ≡ Alloc)
cause_if_balanced {limit} text found lexes balanced e (IsLexicalCauseWithin.not_carried before literal kind rest reads carried is) =
    let on = reads_on text rest (before ++ literal ∷ []) lexes.pieces reads lexes.reads in
    let all = subst (λ ps. are_carried ps ≡ true) (on.1 ∙ append_one before literal on.0) lexes.carried in
    absurd (carried_among before on.0 literal all (not_carried kind literal.kind literal.spelling is))
  where
    append_one : (xs : List Piece) (x : Piece) (ys : List Piece) → (xs ++ x ∷ []) ++ ys ≡ xs ++ x ∷ ys
    append_one [] x ys = refl
    append_one (z ∷ xs) x ys = ap (λ l. z ∷ l) (append_one xs x ys)
cause_if_balanced {limit} text found lexes balanced e (IsLexicalCauseWithin.no_piece before rest reads carried some none) =
    let on = reads_on text rest before lexes.pieces reads lexes.reads in
    absurd (stops rest on.0 some none on.2)
cause_if_balanced {limit} text found lexes balanced e (IsLexicalCauseWithin.wrong_close before token behind outer meets none) =
    let same = kinds_met text found before token behind lexes meets.lexes in
    absurd (wrong (kinds (lexemes before)) (kinds (lexemes behind)) token.kind outer meets.opened none (subst (λ ks. closes [] ks ≡ true) same balanced))
cause_if_balanced {limit} text found lexes balanced e (IsLexicalCauseWithin.unclosed tokens innermost outer own opened within) =
    let same = ap kinds (lexes_aside_one text found (lexemes tokens) lexes (lexes_aside text tokens own)) in
    absurd (left_open (kinds (lexemes tokens)) innermost outer opened (subst (λ ks. closes [] ks ≡ true) same balanced))
cause_if_balanced {limit} text found lexes balanced e (IsLexicalCauseWithin.too_deep before token behind outer b meets opens full) =
    let same = kinds_met text found before token behind lexes meets.lexes in
    inl (refl, λ shallow. deep (kinds (lexemes before)) (kinds (lexemes behind)) token.kind outer b meets.opened opens full (subst (λ ks. nests limit 0 ks ≡ true) same shallow))
cause_if_balanced {limit} text found lexes balanced e IsLexicalCauseWithin.memory = inr refl

-- a text with such tokens, their spans aside, has no cause
no_cause_aside : {limit : ℕ} → (text : List ℕ) (found : List Lexeme) → LexesAside text found → IsBalanced found → NestsWithin limit found → (e : EduceError) → IsLexicalCauseWithin limit text e → e.kind ≡ Alloc
no_cause_aside text found lexes balanced shallow e cause = elim (cause_if_balanced text found lexes balanced e cause) [ inl deeper ↦ absurd (deeper.1 shallow) | inr alloc ↦ alloc ]

-- a text with such tokens has no cause
pub no_cause : {limit : ℕ} → (text : List ℕ) (tokens : List Token) → Lexes text tokens → IsBalanced (lexemes tokens) → NestsWithin limit (lexemes tokens) → (e : EduceError) → IsLexicalCauseWithin limit text e → e.kind ≡ Alloc
no_cause text tokens lexes balanced shallow e cause = no_cause_aside text (lexemes tokens) (lexes_aside text tokens lexes) balanced shallow e cause

-- a text that is read has no cause of rejection
pub reading_uncaused : {limit : ℕ} → (text : List ℕ) (tokens : List Token) → IsReadingWithin limit text tokens → (e : EduceError) → IsLexicalCauseWithin limit text e → e.kind ≡ Alloc
reading_uncaused text tokens reading = no_cause text tokens reading.lexes reading.balanced reading.shallow

-- the tokens of a text are the answer, unless memory is short
pub gives_one : (limit : ℕ) → (text : List ℕ) (r : Result (List Token) EduceError) → IfOk r (IsReadingWithin limit text) → IfErr r (IsLexicalCauseWithin limit text) → (tokens : List Token) → Lexes text tokens → IsBalanced (lexemes tokens) → NestsWithin limit (lexemes tokens) → Gives r tokens
gives_one limit text (Ok found) ok err tokens lexes balanced shallow = lexes_one text found tokens ok.lexes lexes
gives_one limit text (Err e) ok err tokens lexes balanced shallow = no_cause text tokens lexes balanced shallow e err

-- lexemes of a text are those of the answer, unless memory is short
pub gives_aside : (limit : ℕ) → (text : List ℕ) (r : Result (List Token) EduceError) → IfOk r (IsReadingWithin limit text) → IfErr r (IsLexicalCauseWithin limit text) → (found : List Lexeme) → LexesAside text found → IsBalanced found → NestsWithin limit found
    → IfOk r (λ tokens. lexemes tokens ≡ found) × IfErr r (λ e. e.kind ≡ Alloc)
gives_aside limit text (Ok own) ok err found lexes balanced shallow = (lexes_aside_one text (lexemes own) found (lexes_aside text own ok.lexes) lexes, tt)
gives_aside limit text (Err e) ok err found lexes balanced shallow = (tt, no_cause_aside text found lexes balanced shallow e err)

-- tokens that close in order and nest deeper are rejected for that, unless memory is short
pub refuses_deep : (limit : ℕ) → (text : List ℕ) (r : Result (List Token) EduceError) → IfOk r (IsReadingWithin limit text) → IfErr r (IsLexicalCauseWithin limit text) → (found : List Lexeme) → LexesAside text found → IsBalanced found → (NestsWithin limit found → ⊥)
    → IfOk r (λ _. ⊥) × IfErr r (λ e. (e.kind ≡ TooDeep) ⊎ (e.kind ≡ Alloc))
refuses_deep limit text (Ok own) ok err found lexes balanced deeper = (deeper (subst (NestsWithin limit) (lexes_aside_one text (lexemes own) found (lexes_aside text own ok.lexes) lexes) ok.shallow), tt)
refuses_deep limit text (Err e) ok err found lexes balanced deeper = (tt, elim (cause_if_balanced text found lexes balanced e err) [ inl deep ↦ inl deep.0 | inr alloc ↦ inr alloc ])
