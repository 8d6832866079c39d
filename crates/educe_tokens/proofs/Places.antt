-- Where tokens and rejections lie in their source.
use Rattle.std.proofs.Common.{◌≡◌, ℕ, ◌+◌, ◌-◌, Bool, true, false, cond, List, [], ◌∷◌, ◌++◌, length, take, drop, map, filter, refl, sym, ap, ◌∙◌, subst, arith, rules, append_assoc, chars, IsUtf8, encode_utf8_all, Result, Ok, Err, IfOk}
use Rattle.std.specs.Prelude.{slice_range}
use Rattle.std.specs.List.{AllByRecursion}
use Rattle.std.specs.Str.{IsCharBoundary}
use Rattle.std.proofs.Math.Utf8.{scalars}
use Rattle.std.proofs.Math.Seq.{take-append_seam, drop-append_seam}
use Rattle.std.proofs.lemmas.Bool.{and_parts}
use Rattle.std.proofs.lemmas.Str.{IsCharBoundary-start, IsCharBoundary-end, IsCharBoundary-at_seam, encodes-append, encodes-chars, scalars-chars}
use Rattle.educe_tokens_scan.specs.Reading.{Piece, Reads}
use Rattle.educe_tokens.specs.declared.error.EduceError.{EduceError}
use Rattle.educe_tokens.specs.declared.span.Span.{Span}
use Rattle.educe_tokens.specs.declared.token.Token.{Token}
use Rattle.educe_tokens.specs.Causes.{empty_at, last_of, IsLexicalCauseWithin}
use Rattle.educe_tokens.specs.Lexes.{lexeme_of, lexemes, Lexes, is_token, piece_of, end_of, span_at, spans}
use Rattle.educe_tokens.specs.Message.{HasWords}
use Rattle.educe_tokens.specs.Slices.{IsCutOut, IsSlice}
use Rattle.educe_tokens.specs.Steps.{IsReadingWithin}
use Rattle.educe_tokens.proofs.Bytes.{bytes-append}
use Rattle.educe_tokens.proofs.Lists.{cons_parts, nil_not_cons}
use Rattle.educe_tokens.proofs.Tokens.{span_of}

-- ---- in characters

-- the text has this spelling behind a front of so many bytes as the span begins at, and the span ends with it
pub record LiesAt (text : List ℕ) (span : Span) (spelling : List ℕ) : Type 0 where
  pub before : List ℕ
  pub behind : List ℕ
  pub split : text ≡ before ++ (spelling ++ behind)
  pub starts : span.start ≡ length (encode_utf8_all before)
  pub ends : span.end ≡ span.start + length (encode_utf8_all spelling)

-- where the token lies among the characters
abbrev pub TokenLiesAt : List ℕ → Token → Type 0
TokenLiesAt text t = LiesAt text t.span t.spelling

-- the first of these is a token, or it is none, and the tokens are those that are
first_lies : (text : List ℕ) (b : Bool) (p : Piece) (s : Span) (fs : List Piece) (ss : List Span) (tokens : List Token)
    → cond b (p ∷ fs) fs ≡ map piece_of (lexemes tokens) → cond b (s ∷ ss) ss ≡ map span_of tokens → LiesAt text s p.spelling
    → ((ts : List Token) → fs ≡ map piece_of (lexemes ts) → ss ≡ map span_of ts → AllByRecursion (TokenLiesAt text) ts) → AllByRecursion (TokenLiesAt text) tokens
first_lies text true p s fs ss [] a b here more = absurd (nil_not_cons p fs (sym a))
first_lies text true p s fs ss (t ∷ ts) a b here more =
    let one = cons_parts _ _ _ _ a in
    let place = cons_parts _ _ _ _ b in
    let spelled : p.spelling ≡ t.spelling = ap (λ (x : Piece). x.spelling) one.0 in (
      subst (λ cs. LiesAt text t.span cs) spelled (subst (λ x. LiesAt text x p.spelling) place.0 here),
      more ts one.1 place.1,
    )
first_lies text false p s fs ss tokens a b here more = more tokens a b

-- nothing is among no pieces
none_lie : (text : List ℕ) (tokens : List Token) → ◌≡◌ {A = List Piece} [] (map piece_of (lexemes tokens)) → AllByRecursion (TokenLiesAt text) tokens
none_lie text [] a = tt
none_lie text (t ∷ ts) a = absurd (nil_not_cons (piece_of (lexeme_of t)) (map piece_of (lexemes ts)) a)

-- the tokens among pieces lie where their spans say
pieces_lie : (text front rest : List ℕ) (start : ℕ) (ps : List Piece) (tokens : List Token) → text ≡ front ++ rest → start ≡ length (encode_utf8_all front) → Reads rest ps []
    → filter is_token ps ≡ map piece_of (lexemes tokens) → spans start ps ≡ map span_of tokens → AllByRecursion (TokenLiesAt text) tokens
pieces_lie text front rest start [] tokens whole at reads a b = none_lie text tokens a
pieces_lie text front rest start (p ∷ ps) tokens whole at reads a b =
    let split : text ≡ front ++ (p.spelling ++ reads.0) = whole ∙ ap (λ t. front ++ t) reads.1 in
    let here : LiesAt text (span_at start p) p.spelling = record { before = front; behind = reads.0; split = split; starts = at; ends = refl } in
    let next = start + length (encode_utf8_all p.spelling) in
    let further : next ≡ length (encode_utf8_all (front ++ p.spelling)) = ap (λ n. n + length (encode_utf8_all p.spelling)) at ∙ sym (bytes-append front p.spelling) in
    first_lies text (is_token p) p (span_at start p) (filter is_token ps) (spans next ps) tokens a b here
    (λ ts. pieces_lie text (front ++ p.spelling) reads.0 next ps ts (split ∙ sym (append_assoc front p.spelling reads.0)) further reads.4)

-- the tokens of a text lie where their spans say
pub tokens_lie : (text : List ℕ) (tokens : List Token) → Lexes text tokens → AllByRecursion (TokenLiesAt text) tokens
tokens_lie text tokens lexes = pieces_lie text [] text 0 lexes.pieces tokens refl refl lexes.reads lexes.tokens_are lexes.spans_are

-- ---- in bytes

-- what holds of each holds of each by what follows from it
each_weaker : {X : Type 0} (P Q : X → Type 0) (xs : List X) → ((x : X) → P x → Q x) → AllByRecursion P xs → AllByRecursion Q xs
each_weaker P Q [] weaker all = tt
each_weaker P Q (x ∷ xs) weaker all = (weaker x all.0, each_weaker P Q xs weaker all.1)

-- the one behind a front is one of all
each_at : {X : Type 0} (P : X → Type 0) (before behind : List X) (x : X) → AllByRecursion P (before ++ x ∷ behind) → P x
each_at P [] behind x all = all.0
each_at P (y ∷ before) behind x all = each_at P before behind x all.1

-- the bytes of three parts
bytes_of_parts : (source before middle behind : List ℕ) → IsUtf8 source → chars source ≡ before ++ (middle ++ behind) → source ≡ encode_utf8_all before ++ (encode_utf8_all middle ++ encode_utf8_all behind)
bytes_of_parts source before middle behind utf8 split =
    sym (encodes-chars source utf8) ∙ ap encode_utf8_all split ∙ encodes-append before (middle ++ behind) ∙ ap (λ bs. encode_utf8_all before ++ bs) (encodes-append middle behind)

-- the middle of three parts is cut out by their lengths
cut_middle : (source xs ys zs : List ℕ) (start end : ℕ) → source ≡ xs ++ (ys ++ zs) → start ≡ length xs → end ≡ start + length ys → slice_range source start end ≡ ys
cut_middle source xs ys zs start end whole from to =
    let long : end - start ≡ length ys = omega arith in
    let rest : drop start source ≡ ys ++ zs = (λ i. drop (from i) (whole i)) ∙ drop-append_seam xs (ys ++ zs) in
    (λ i. take (long i) (rest i)) ∙ take-append_seam ys zs

-- ---- where characters begin

-- the characters behind a front are characters
scalar_rest : (xs ys : List ℕ) → scalars (xs ++ ys) ≡ true → scalars ys ≡ true
scalar_rest [] ys all = all
scalar_rest (x ∷ xs) ys all = scalar_rest xs ys (and_parts _ _ all).1

-- characters are encoded as a text
utf8_of : (cs : List ℕ) → scalars cs ≡ true → IsUtf8 (encode_utf8_all cs)
utf8_of cs all = search rules

-- a character begins, or the text ends, behind a front of its characters
boundary : (source before behind : List ℕ) → IsUtf8 source → chars source ≡ before ++ behind → IsCharBoundary source (length (encode_utf8_all before))
boundary source before behind utf8 split =
    let all = scalar_rest before behind (subst (λ cs. scalars cs ≡ true) split (scalars-chars source utf8)) in
    let whole = sym (encodes-chars source utf8) ∙ ap encode_utf8_all split ∙ encodes-append before behind in
    IsCharBoundary-at_seam source (encode_utf8_all before) (encode_utf8_all behind) whole (utf8_of behind all)

-- where it lies a character begins, and one begins, or the text ends, behind it
pub lies_placed : (source : List ℕ) (span : Span) (spelling : List ℕ) → IsUtf8 source → LiesAt (chars source) span spelling → IsCharBoundary source span.start × IsCharBoundary source span.end
lies_placed source span spelling utf8 lies =
    let last = lies.ends ∙ ap (λ n. n + length (encode_utf8_all spelling)) lies.starts ∙ sym (bytes-append lies.before spelling) in (
      subst (IsCharBoundary source) (sym lies.starts) (boundary source lies.before (spelling ++ lies.behind) utf8 lies.split),
      subst (IsCharBoundary source) (sym last) (boundary source (lies.before ++ spelling) lies.behind utf8 (lies.split ∙ sym (append_assoc lies.before spelling lies.behind))),
    )

-- ---- what is cut out

-- what lies there among the characters is cut out of the bytes
pub span_cut : (source : List ℕ) (span : Span) (spelling : List ℕ) → IsUtf8 source → LiesAt (chars source) span spelling → IsCutOut source span spelling
span_cut source span spelling utf8 lies =
    let whole = bytes_of_parts source lies.before spelling lies.behind utf8 lies.split in
    let places = lies_placed source span spelling utf8 lies in
    let ends = lies.ends in
    record {
      ordered = omega arith;
      starts = places.0;
      ends = places.1;
      cut = cut_middle source (encode_utf8_all lies.before) (encode_utf8_all spelling) (encode_utf8_all lies.behind) span.start span.end whole lies.starts lies.ends;
    }

-- each token's span cuts its spelling out of the source
pub tokens_sliced : (source : List ℕ) (tokens : List Token) → IsUtf8 source → Lexes (chars source) tokens → AllByRecursion (IsSlice source) tokens
tokens_sliced source tokens utf8 lexes = each_weaker (TokenLiesAt (chars source)) (IsSlice source) tokens (λ t. span_cut source t.span t.spelling utf8) (tokens_lie (chars source) tokens lexes)

-- each token's span cuts its spelling out of the source, where the answer is no rejection
pub answer_sliced : (limit : ℕ) → (source : List ℕ) (r : Result (List Token) EduceError) → IsUtf8 source → IfOk r (IsReadingWithin limit (chars source)) → IfOk r (λ tokens. AllByRecursion (IsSlice source) tokens)
answer_sliced limit source (Ok tokens) utf8 reading = tokens_sliced source tokens utf8 reading.lexes
answer_sliced limit source (Err e) utf8 reading = tt

-- ---- where tokens begin

-- each token begins where a character does
tokens_placed : (source : List ℕ) (tokens : List Token) → IsUtf8 source → Lexes (chars source) tokens → AllByRecursion (λ (t : Token). IsCharBoundary source t.span.start) tokens
tokens_placed source tokens utf8 lexes =
    each_weaker (TokenLiesAt (chars source)) (λ (t : Token). IsCharBoundary source t.span.start) tokens (λ t lies. (lies_placed source t.span t.spelling utf8 lies).0) (tokens_lie (chars source) tokens lexes)

-- ---- rejections

-- the characters of pieces, and how many bytes they have
pub record HasFront (text rest : List ℕ) (start end : ℕ) : Type 0 where
  pub front : List ℕ
  pub split : text ≡ front ++ rest
  pub bytes : end ≡ start + length (encode_utf8_all front)

-- the pieces of a front are characters of the text
pub front_of : (text rest : List ℕ) (start : ℕ) (ps : List Piece) → Reads text ps rest → HasFront text rest start (end_of start ps)
front_of text rest start [] reads = record { front = []; split = reads; bytes = omega arith }
front_of text rest start (p ∷ ps) reads =
    let more = front_of reads.0 rest (start + length (encode_utf8_all p.spelling)) ps reads.4 in
    let parts = bytes-append p.spelling more.front in
    let bytes = more.bytes in
    record {
      front = p.spelling ++ more.front;
      split = reads.1 ∙ ap (λ t. p.spelling ++ t) more.split ∙ sym (append_assoc p.spelling more.front rest);
      bytes = omega arith;
    }

-- a front of a reading is read, and then the others
reads_first : (text rest : List ℕ) (ps qs : List Piece) → Reads text (ps ++ qs) rest → (more : List ℕ) × Reads text ps more
reads_first text rest [] qs reads = (text, refl)
reads_first text rest (p ∷ ps) qs reads = let on = reads_first reads.0 rest ps qs reads.4 in (on.0, (reads.0, reads.1, reads.2, reads.3, on.1))

-- pieces end where a character begins, or the text ends
ends_placed : (source rest : List ℕ) (ps : List Piece) → IsUtf8 source → Reads (chars source) ps rest → IsCharBoundary source (end_of 0 ps)
ends_placed source rest ps utf8 reads =
    let before = front_of (chars source) rest 0 ps reads in
    let bytes = before.bytes in
    let same : end_of 0 ps ≡ length (encode_utf8_all before.front) = omega arith in
    subst (IsCharBoundary source) (sym same) (boundary source before.front rest utf8 before.split)

-- what holds of a span that may stand in front, and of the other one, holds of the last
last_from : (P : Span → Type 0) (b : Bool) (place other : Span) (more : List Span) → P place → P other → ((s : Span) → P s → P (last_of more s)) → P (last_of (cond b (place ∷ more) more) other)
last_from P true place other more one none on = on place one
last_from P false place other more one none on = on other none

-- the last token among pieces begins where a character does, if the other place does
last_placed : (source front text rest : List ℕ) (start : ℕ) (ps : List Piece) (other : Span) → IsUtf8 source → chars source ≡ front ++ text → start ≡ length (encode_utf8_all front) → Reads text ps rest
    → IsCharBoundary source other.start → IsCharBoundary source (last_of (spans start ps) other).start
last_placed source front text rest start [] other utf8 whole at reads placed = placed
last_placed source front text rest start (p ∷ ps) other utf8 whole at reads placed =
    let next = start + length (encode_utf8_all p.spelling) in
    let split : chars source ≡ (front ++ p.spelling) ++ reads.0 = whole ∙ ap (λ t. front ++ t) reads.1 ∙ sym (append_assoc front p.spelling reads.0) in
    let further : next ≡ length (encode_utf8_all (front ++ p.spelling)) = ap (λ n. n + length (encode_utf8_all p.spelling)) at ∙ sym (bytes-append front p.spelling) in
    last_from (λ s. IsCharBoundary source s.start) (is_token p) (span_at start p) other (spans next ps) (subst (IsCharBoundary source) (sym at) (boundary source front text utf8 whole)) placed
    (λ s begins. last_placed source (front ++ p.spelling) reads.0 rest next ps s utf8 split further reads.4 begins)

-- the end of the text is a place
end_placed : (source : List ℕ) → IsUtf8 source → IsCharBoundary source (length (encode_utf8_all (chars source)))
end_placed source utf8 = subst (λ (bs : List ℕ). IsCharBoundary source (length bs)) (sym (encodes-chars source utf8)) (IsCharBoundary-end source)

-- a token that is met is one of the text
met_placed : (source : List ℕ) (before : List Token) (token : Token) (behind : List Token) → IsUtf8 source → Lexes (chars source) (before ++ token ∷ behind) → IsCharBoundary source token.span.start
met_placed source before token behind utf8 lexes =
    each_at (λ (t : Token). IsCharBoundary source t.span.start) before behind token (tokens_placed source (before ++ token ∷ behind) utf8 lexes)

-- each rejection lies where a character begins, or at the end
pub cause_placed : {limit : ℕ} → (source : List ℕ) (e : EduceError) → IsUtf8 source → IsLexicalCauseWithin limit (chars source) e → IsCharBoundary source e.span.start
cause_placed source e utf8 (IsLexicalCauseWithin.not_carried before literal kind rest reads carried is) =
    let first = reads_first (chars source) rest before (literal ∷ []) reads in
    ends_placed source first.0 before utf8 first.1
cause_placed source e utf8 (IsLexicalCauseWithin.no_piece before rest reads carried some none) =
    last_placed source [] (chars source) rest 0 before (empty_at (length (encode_utf8_all (chars source)))) utf8 refl refl reads (end_placed source utf8)
cause_placed source e utf8 (IsLexicalCauseWithin.wrong_close before token behind outer meets none) = met_placed source before token behind utf8 meets.lexes
cause_placed source e utf8 (IsLexicalCauseWithin.unclosed tokens innermost outer lexes opened shallow) = end_placed source utf8
cause_placed source e utf8 (IsLexicalCauseWithin.too_deep before token behind outer b meets opens full) = met_placed source before token behind utf8 meets.lexes
cause_placed source e utf8 IsLexicalCauseWithin.memory = IsCharBoundary-start source utf8

-- each rejection has the words of its kind
pub cause_words : {limit : ℕ} → (text : List ℕ) (e : EduceError) → IsLexicalCauseWithin limit text e → HasWords e.kind e.words
cause_words text e (IsLexicalCauseWithin.not_carried before literal kind rest reads carried is) = refl
cause_words text e (IsLexicalCauseWithin.no_piece before rest reads carried some none) = refl
cause_words text e (IsLexicalCauseWithin.wrong_close before token behind outer meets none) = refl
cause_words text e (IsLexicalCauseWithin.unclosed tokens innermost outer lexes opened shallow) = refl
cause_words text e (IsLexicalCauseWithin.too_deep before token behind outer b meets opens full) = refl
cause_words text e IsLexicalCauseWithin.memory = refl
