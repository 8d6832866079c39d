-- A text has one lexical cause to be rejected, out of memory aside.
use Rattle.std.proofs.Common.{◌≡◌, ◌≢◌, ℕ, ◌+◌, ◌≤◌, true, Option, Some, None, List, [], ◌∷◌, ◌++◌, length, refl, sym, ap, ◌∙◌, subst, arith, nat_le, encode_utf8_all}
use Rattle.std.proofs.lemmas.Bool.{and_parts, false≢true}
use Rattle.educe_tokens_pieces.specs.declared.kind.Bracket.{Bracket}
use Rattle.educe_tokens_pieces.specs.declared.kind.TokenKind.{TokenKind}
use Rattle.educe_tokens_pieces.specs.declared.kind.TokenKind.TheVariants.{Start}
use Rattle.educe_tokens_pieces.specs.declared.kind.UncarriedKind.{UncarriedKind}
use Rattle.educe_tokens_pieces.specs.declared.kind.PieceKind.TheVariants.{Uncarried}
use Rattle.educe_tokens_scan.specs.Scan.{piece_at}
use Rattle.educe_tokens_scan.specs.Reading.{Piece, IsPiece, Reads, FitsNone}
use Rattle.educe_tokens_scan.proofs.Readings.{one_piece, piece_finds, none_not_found, no_piece_at_end}
use Rattle.educe_tokens.specs.declared.error.EduceError.{EduceError}
use Rattle.educe_tokens.specs.declared.error.Kind.TheVariants.{Alloc}
use Rattle.educe_tokens.specs.declared.token.Token.{Token}
use Rattle.educe_tokens.specs.Lexes.{lexemes, Lexes, is_carried, are_carried, end_of, span_at, spans}
use Rattle.educe_tokens.specs.Brackets.{open_after, kinds, depth_after, nests, IsShallow}
use Rattle.educe_tokens.specs.Causes.{empty_at, last_of, open_behind, Meets, IsLexicalCauseWithin}
use Rattle.educe_tokens.specs.Refusals.{syntax_at, too_deep_at, not_carried_at}
use Rattle.educe_tokens.proofs.Lists.{cons_parts}
use Rattle.educe_tokens.proofs.Opened.{none_is_not_some, same_some, depth_of, depth_within}
use Rattle.educe_tokens.proofs.Unique.{lexes_one}
use Rattle.educe_tokens.proofs.Uncaused.{not_carried, kinds_around}

-- ---- where a reading stops

-- no piece that is carried stands at the front
abbrev Blocked : List ℕ → Type 0
Blocked more = (p : Piece) (rest : List ℕ) → more ≡ p.spelling ++ rest → IsPiece p rest → is_carried p ≡ true → ⊥

-- the text is pieces that are carried, and then this, which goes on by none
record Stops (text : List ℕ) (before : List Piece) (more : List ℕ) : Type 0 where
  pub reads : Reads text before more
  pub carried : are_carried before ≡ true
  pub blocked : Blocked more

-- a reading stops once
stops_once : (text : List ℕ) (ps qs : List Piece) (x y : List ℕ) → Stops text ps x → Stops text qs y → (ps ≡ qs) × (x ≡ y)
stops_once text [] [] x y a b = (refl, sym a.reads ∙ b.reads)
stops_once text [] (q ∷ qs) x y a b =
    let r = b.reads in absurd (a.blocked q r.0 (sym a.reads ∙ r.1) r.2 (and_parts (is_carried q) (are_carried qs) b.carried).0)
stops_once text (p ∷ ps) [] x y a b =
    let r = a.reads in absurd (b.blocked p r.0 (sym b.reads ∙ r.1) r.2 (and_parts (is_carried p) (are_carried ps) a.carried).0)
stops_once text (p ∷ ps) (q ∷ qs) x y a b =
    let r = a.reads in
    let s = b.reads in
    let same = one_piece p q r.0 s.0 r.2 s.2 (sym r.1 ∙ s.1) in
    let on = stops_once r.0 ps qs x y
    (record { reads = r.4; carried = (and_parts (is_carried p) (are_carried ps) a.carried).1; blocked = a.blocked })
    (record { reads = subst (λ t. Reads t qs y) (sym same.1) s.4; carried = (and_parts (is_carried q) (are_carried qs) b.carried).1; blocked = b.blocked }) in
    ((λ i. same.0 i ∷ on.0 i), on.1)

-- the last piece of a reading apart
last_piece : (text : List ℕ) (before : List Piece) (p : Piece) (rest : List ℕ) → Reads text (before ++ p ∷ []) rest → Reads text before (p.spelling ++ rest) × IsPiece p rest
last_piece text [] p rest reads = (reads.1 ∙ ap (λ more. p.spelling ++ more) reads.4, subst (IsPiece p) reads.4 reads.2)
last_piece text (q ∷ before) p rest reads =
    let on = last_piece reads.0 before p rest reads.4 in ((reads.0, reads.1, reads.2, reads.3, on.0), on.1)

-- an unsupported literal stops it
stops_at_literal : (text : List ℕ) (before : List Piece) (literal : Piece) (kind : UncarriedKind) (rest : List ℕ) → Reads text (before ++ literal ∷ []) rest → are_carried before ≡ true
    → literal.kind ≡ Uncarried kind → Stops text before (literal.spelling ++ rest)
stops_at_literal text before literal kind rest reads carried is =
    let last = last_piece text before literal rest reads in record {
      reads = last.0;
      carried = carried;
      blocked = λ p more whole piece passes.
          let same = one_piece literal p rest more last.1 piece whole in
          false≢true (sym (not_carried kind literal.kind literal.spelling is) ∙ ap is_carried same.0 ∙ passes);
    }

-- a place where no piece fits stops it
stops_at_none : (text : List ℕ) (before : List Piece) (rest : List ℕ) → Reads text before rest → are_carried before ≡ true → FitsNone rest → Stops text before rest
stops_at_none text before rest reads carried none = record { reads = reads; carried = carried; blocked = λ p more whole piece passes. none p more whole piece }

-- no piece stands in the empty text
no_piece_in_nothing : (p : Piece) (rest : List ℕ) → [] ≡ p.spelling ++ rest → IsPiece p rest → ⊥
no_piece_in_nothing p rest whole piece = none_not_found _ (sym no_piece_at_end ∙ ap piece_at whole ∙ piece_finds p rest piece)

-- the end stops it
stops_at_end : (text : List ℕ) (tokens : List Token) (lexes : Lexes text tokens) → Stops text lexes.pieces []
stops_at_end text tokens lexes = record { reads = lexes.reads; carried = lexes.carried; blocked = λ p rest whole piece passes. no_piece_in_nothing p rest whole piece }

-- a text that is tokens has no other stop
literal_not_read : (text : List ℕ) (before : List Piece) (literal : Piece) (kind : UncarriedKind) (rest : List ℕ) (tokens : List Token) → Reads text (before ++ literal ∷ []) rest
    → are_carried before ≡ true → literal.kind ≡ Uncarried kind → Lexes text tokens → ⊥
literal_not_read text before literal kind rest tokens reads carried is lexes =
    let same = stops_once text lexes.pieces before [] (literal.spelling ++ rest) (stops_at_end text tokens lexes) (stops_at_literal text before literal kind rest reads carried is) in
    no_piece_in_nothing literal rest same.1 (last_piece text before literal rest reads).1

none_not_read : (text : List ℕ) (before : List Piece) (rest : List ℕ) (tokens : List Token) → Reads text before rest → are_carried before ≡ true → rest ≢ [] → FitsNone rest → Lexes text tokens → ⊥
none_not_read text before rest tokens reads carried some none lexes =
    some (sym (stops_once text lexes.pieces before [] rest (stops_at_end text tokens lexes) (stops_at_none text before rest reads carried none)).1)

-- of an unsupported literal and a place where no piece fits one stops it
literal_or_none : (text : List ℕ) (before other : List Piece) (literal : Piece) (kind : UncarriedKind) (rest more : List ℕ) → Reads text (before ++ literal ∷ []) rest → are_carried before ≡ true
    → literal.kind ≡ Uncarried kind → Reads text other more → are_carried other ≡ true → FitsNone more → ⊥
literal_or_none text before other literal kind rest more reads carried is reads_other carried_other none =
    let same = stops_once text other before more (literal.spelling ++ rest) (stops_at_none text other more reads_other carried_other none) (stops_at_literal text before literal kind rest reads carried is) in
    none literal rest same.1 (last_piece text before literal rest reads).1

-- ---- where brackets stop

-- the kind closes a wrong bracket, or opens one too deep
abbrev IsBad : List Bracket → TokenKind → Type 0
IsBad outer kind = (inner : List Bracket) → open_after outer kind ≡ Some inner → depth_after (length outer) kind ≤ 128 → ⊥

-- behind one more token
opens_on : (outer inner : List Bracket) (kind : TokenKind) (more : List TokenKind) → open_behind outer (kind ∷ more) ≡ Some inner
    → (mid : List Bracket) × (open_after outer kind ≡ Some mid) × (open_behind mid more ≡ Some inner)
opens_on outer inner kind more h =
    let Goal : Option (List Bracket) → Type 0 = λ opened. open_after outer kind ≡ opened → (elim opened [ None ↦ None | Some mid ↦ open_behind mid more ]) ≡ Some inner
    → (mid : List Bracket) × (open_after outer kind ≡ Some mid) × (open_behind mid more ≡ Some inner) in
    let step : (opened : Option (List Bracket)) → Goal opened = λ opened. elim opened as Goal [
      | None ↦ λ is e. absurd (none_is_not_some inner e)
      | Some mid ↦ λ is e. (mid, is, e)
    ] in
    step (open_after outer kind) refl h

-- a bad kind doesn't go on
bad_stays : (outer inner : List Bracket) (kind : TokenKind) (more : List TokenKind) → IsBad outer kind → open_behind outer (kind ∷ more) ≡ Some inner → nests 128 (length outer) (kind ∷ more) ≡ true → ⊥
bad_stays outer inner kind more bad opened shallow =
    let on = opens_on outer inner kind more opened in
    bad on.0 on.1 (depth_within 128 (length outer) kind more shallow)

-- a bad kind in the middle of more tokens doesn't go on
bad_among : (outer mid inner : List Bracket) (ks : List TokenKind) (kind : TokenKind) (more : List TokenKind) → open_behind outer ks ≡ Some mid → IsBad mid kind
    → open_behind outer (ks ++ kind ∷ more) ≡ Some inner → nests 128 (length outer) (ks ++ kind ∷ more) ≡ true → ⊥
bad_among outer mid inner [] kind more opened bad whole shallow =
    bad_stays mid inner kind more bad (subst (λ o. open_behind o (kind ∷ more) ≡ Some inner) (same_some outer mid opened) whole)
    (subst (λ (o : List Bracket). nests 128 (length o) (kind ∷ more) ≡ true) (same_some outer mid opened) shallow)
bad_among outer mid inner (k ∷ ks) kind more opened bad whole shallow =
    let a = opens_on outer mid k ks opened in
    let b = opens_on outer inner k (ks ++ kind ∷ more) whole in
    let same = same_some a.0 b.0 (sym a.1 ∙ b.1) in
    bad_among a.0 mid inner ks kind more a.2 bad (subst (λ o. open_behind o (ks ++ kind ∷ more) ≡ Some inner) (sym same) b.2)
    (subst (λ (d : ℕ). nests 128 d (ks ++ kind ∷ more) ≡ true) (depth_of outer a.0 k a.1) (and_parts (nat_le (depth_after (length outer) k) 128) _ shallow).1)

-- kinds of tokens up to one that is bad, where those before go on
record BadAt (outer : List Bracket) (before : List Token) (token : Token) : Type 0 where
  pub inner : List Bracket
  pub opened : open_behind outer (kinds (lexemes before)) ≡ Some inner
  pub shallow : nests 128 (length outer) (kinds (lexemes before)) ≡ true
  pub bad : IsBad inner token.kind

-- the first bad token is one
bad_once : (outer : List Bracket) (before other : List Token) (t u : Token) (behind after : List Token) → before ++ t ∷ behind ≡ other ++ u ∷ after → BadAt outer before t → BadAt outer other u → t ≡ u
bad_once outer [] [] t u behind after same a b = (cons_parts t u behind after same).0
bad_once outer [] (v ∷ other) t u behind after same a b =
    let is = cons_parts t v behind (other ++ u ∷ after) same in
    absurd (bad_stays outer b.inner v.kind (kinds (lexemes other))
    (subst (λ (k : TokenKind). IsBad outer k) (ap (λ (x : Token). x.kind) is.0) (subst (λ o. IsBad o t.kind) (sym (same_some outer a.inner a.opened)) a.bad)) b.opened b.shallow)
bad_once outer (v ∷ before) [] t u behind after same a b =
    let is = cons_parts v u (before ++ t ∷ behind) after same in
    absurd (bad_stays outer a.inner v.kind (kinds (lexemes before))
    (subst (λ (k : TokenKind). IsBad outer k) (sym (ap (λ (x : Token). x.kind) is.0)) (subst (λ o. IsBad o u.kind) (sym (same_some outer b.inner b.opened)) b.bad)) a.opened a.shallow)
bad_once outer (v ∷ before) (w ∷ other) t u behind after same a b =
    let is = cons_parts v w (before ++ t ∷ behind) (other ++ u ∷ after) same in
    let kind : v.kind ≡ w.kind = ap (λ (x : Token). x.kind) is.0 in
    let one = opens_on outer a.inner v.kind (kinds (lexemes before)) a.opened in
    let two = opens_on outer b.inner w.kind (kinds (lexemes other)) b.opened in
    let mid = same_some one.0 two.0 (sym one.1 ∙ ap (open_after outer) kind ∙ two.1) in
    let deep = depth_of outer one.0 v.kind one.1 in
    let deep_other = depth_of outer two.0 w.kind two.1 in
    bad_once one.0 before other t u behind after is.1
    (record { inner = a.inner; opened = one.2; shallow = subst (λ (d : ℕ). nests 128 d (kinds (lexemes before)) ≡ true) deep (and_parts (nat_le (depth_after (length outer) v.kind) 128) _ a.shallow).1; bad = a.bad })
    (subst (λ o. BadAt o other u) (sym mid)
    (record { inner = b.inner; opened = two.2; shallow = subst (λ (d : ℕ). nests 128 d (kinds (lexemes other)) ≡ true) deep_other (and_parts (nat_le (depth_after (length outer) w.kind) 128) _ b.shallow).1; bad = b.bad }))

-- a bracket that closes wrongly is bad
wrong_is_bad : (text : List ℕ) (before : List Token) (token : Token) (behind : List Token) (outer : List Bracket) → Meets 128 text before token behind outer → open_after outer token.kind ≡ None → BadAt [] before token
wrong_is_bad text before token behind outer meets none = record {
  inner = outer;
  opened = meets.opened;
  shallow = meets.shallow;
  bad = λ inner opens deep. none_is_not_some inner (sym none ∙ opens);
}

-- a bracket that opens too deep is bad
deep_is_bad : (text : List ℕ) (before : List Token) (token : Token) (behind : List Token) (outer : List Bracket) (b : Bracket) → Meets 128 text before token behind outer → token.kind ≡ Start b → length outer ≡ 128
    → BadAt [] before token
deep_is_bad text before token behind outer b meets opens full = record {
  inner = outer;
  opened = meets.opened;
  shallow = meets.shallow;
  bad = λ inner is within. let more : depth_after (length outer) token.kind ≡ length outer + 1 = ap (depth_after (length outer)) opens in omega (arith, within, more, full);
}

-- where a token is bad, no brackets are open behind all tokens, or they nest too deep
bad_not_open : (text : List ℕ) (tokens before : List Token) (token : Token) (behind : List Token) (inner : List Bracket) → Lexes text (before ++ token ∷ behind) → BadAt [] before token → Lexes text tokens
    → open_behind [] (kinds (lexemes tokens)) ≡ Some inner → IsShallow (lexemes tokens) → ⊥
bad_not_open text tokens before token behind inner own at lexes opened shallow =
    let same : kinds (lexemes tokens) ≡ kinds (lexemes before) ++ token.kind ∷ kinds (lexemes behind) =
    ap (λ ts. kinds (lexemes ts)) (lexes_one text tokens (before ++ token ∷ behind) lexes own) ∙ kinds_around before token behind in
    bad_among [] at.inner inner (kinds (lexemes before)) token.kind (kinds (lexemes behind)) at.opened at.bad
    (subst (λ ks. open_behind [] ks ≡ Some inner) same opened) (subst (λ ks. nests 128 0 ks ≡ true) same shallow)

-- ---- causes

-- why tokens of a text are rejected, by what stops first: `not_carried`, `no_piece`, or brackets
module _ (text : List ℕ) where
  -- tokens, and a token that is bad
  bad_alone : (before other : List Token) (t u : Token) (behind after : List Token) → Lexes text (before ++ t ∷ behind) → Lexes text (other ++ u ∷ after) → BadAt [] before t → BadAt [] other u → t ≡ u
  bad_alone before other t u behind after a b one two = bad_once [] before other t u behind after (lexes_one text (before ++ t ∷ behind) (other ++ u ∷ after) a b) one two

  opens_not_wrong : (t u : Token) (outer : List Bracket) (b : Bracket) → t ≡ u → open_after outer t.kind ≡ None → u.kind ≡ Start b → ⊥
  opens_not_wrong t u outer b same none opens =
      none_is_not_some (b ∷ outer) (sym none ∙ ap (open_after outer) (ap (λ (x : Token). x.kind) same ∙ opens))

  -- two causes are one, out of memory aside
  pub cause_alone : (e f : EduceError) → IsLexicalCauseWithin 128 text e → IsLexicalCauseWithin 128 text f → e.kind ≢ Alloc → f.kind ≢ Alloc → e ≡ f
  cause_alone e f IsLexicalCauseWithin.memory also kind kind_also = absurd (kind refl)
  cause_alone e f cause IsLexicalCauseWithin.memory kind kind_also = absurd (kind_also refl)
  cause_alone e f (IsLexicalCauseWithin.not_carried p l k x reads carried is) (IsLexicalCauseWithin.not_carried q m j y reads_also carried_also is_also) kind kind_also =
      let one = stops_once text p q (l.spelling ++ x) (m.spelling ++ y) (stops_at_literal text p l k x reads carried is) (stops_at_literal text q m j y reads_also carried_also is_also) in
      let literal = (one_piece l m x y (last_piece text p l x reads).1 (last_piece text q m y reads_also).1 one.1).0 in
      (λ i. not_carried_at (span_at (end_of 0 (one.0 i)) (literal i)) (literal i).spelling)
  cause_alone e f (IsLexicalCauseWithin.not_carried p l k x reads carried is) (IsLexicalCauseWithin.no_piece q y reads_also carried_also some none) kind kind_also =
      absurd (literal_or_none text p q l k x y reads carried is reads_also carried_also none)
  cause_alone e f (IsLexicalCauseWithin.no_piece p x reads carried some none) (IsLexicalCauseWithin.not_carried q m j y reads_also carried_also is_also) kind kind_also =
      absurd (literal_or_none text q p m j y x reads_also carried_also is_also reads carried none)
  cause_alone e f (IsLexicalCauseWithin.no_piece p x reads carried some none) (IsLexicalCauseWithin.no_piece q y reads_also carried_also some_also none_also) kind kind_also =
      let one = stops_once text p q x y (stops_at_none text p x reads carried none) (stops_at_none text q y reads_also carried_also none_also) in
      ap (λ ps. syntax_at (last_of (spans 0 ps) (empty_at (length (encode_utf8_all text))))) one.0
  cause_alone e f (IsLexicalCauseWithin.not_carried p l k x reads carried is) (IsLexicalCauseWithin.wrong_close b t c o meets none) kind kind_also = absurd (literal_not_read text p l k x (b ++ t ∷ c) reads carried is meets.lexes)
  cause_alone e f (IsLexicalCauseWithin.not_carried p l k x reads carried is) (IsLexicalCauseWithin.unclosed ts n o lexes opened shallow) kind kind_also = absurd (literal_not_read text p l k x ts reads carried is lexes)
  cause_alone e f (IsLexicalCauseWithin.not_carried p l k x reads carried is) (IsLexicalCauseWithin.too_deep b t c o r meets opens full) kind kind_also = absurd (literal_not_read text p l k x (b ++ t ∷ c) reads carried is meets.lexes)
  cause_alone e f (IsLexicalCauseWithin.no_piece p x reads carried some none) (IsLexicalCauseWithin.wrong_close b t c o meets wrong) kind kind_also = absurd (none_not_read text p x (b ++ t ∷ c) reads carried some none meets.lexes)
  cause_alone e f (IsLexicalCauseWithin.no_piece p x reads carried some none) (IsLexicalCauseWithin.unclosed ts n o lexes opened shallow) kind kind_also = absurd (none_not_read text p x ts reads carried some none lexes)
  cause_alone e f (IsLexicalCauseWithin.no_piece p x reads carried some none) (IsLexicalCauseWithin.too_deep b t c o r meets opens full) kind kind_also = absurd (none_not_read text p x (b ++ t ∷ c) reads carried some none meets.lexes)
  cause_alone e f (IsLexicalCauseWithin.wrong_close b t c o meets wrong) (IsLexicalCauseWithin.not_carried p l k x reads carried is) kind kind_also = absurd (literal_not_read text p l k x (b ++ t ∷ c) reads carried is meets.lexes)
  cause_alone e f (IsLexicalCauseWithin.unclosed ts n o lexes opened shallow) (IsLexicalCauseWithin.not_carried p l k x reads carried is) kind kind_also = absurd (literal_not_read text p l k x ts reads carried is lexes)
  cause_alone e f (IsLexicalCauseWithin.too_deep b t c o r meets opens full) (IsLexicalCauseWithin.not_carried p l k x reads carried is) kind kind_also = absurd (literal_not_read text p l k x (b ++ t ∷ c) reads carried is meets.lexes)
  cause_alone e f (IsLexicalCauseWithin.wrong_close b t c o meets wrong) (IsLexicalCauseWithin.no_piece p x reads carried some none) kind kind_also = absurd (none_not_read text p x (b ++ t ∷ c) reads carried some none meets.lexes)
  cause_alone e f (IsLexicalCauseWithin.unclosed ts n o lexes opened shallow) (IsLexicalCauseWithin.no_piece p x reads carried some none) kind kind_also = absurd (none_not_read text p x ts reads carried some none lexes)
  cause_alone e f (IsLexicalCauseWithin.too_deep b t c o r meets opens full) (IsLexicalCauseWithin.no_piece p x reads carried some none) kind kind_also = absurd (none_not_read text p x (b ++ t ∷ c) reads carried some none meets.lexes)
  cause_alone e f (IsLexicalCauseWithin.unclosed ts n o lexes opened shallow) (IsLexicalCauseWithin.unclosed us m p also opened_also shallow_also) kind kind_also = refl
  cause_alone e f (IsLexicalCauseWithin.unclosed ts n o lexes opened shallow) (IsLexicalCauseWithin.wrong_close b t c p meets wrong) kind kind_also =
      absurd (bad_not_open text ts b t c (n ∷ o) meets.lexes (wrong_is_bad text b t c p meets wrong) lexes opened shallow)
  cause_alone e f (IsLexicalCauseWithin.unclosed ts n o lexes opened shallow) (IsLexicalCauseWithin.too_deep b t c p r meets opens full) kind kind_also =
      absurd (bad_not_open text ts b t c (n ∷ o) meets.lexes (deep_is_bad text b t c p r meets opens full) lexes opened shallow)
  cause_alone e f (IsLexicalCauseWithin.wrong_close b t c p meets wrong) (IsLexicalCauseWithin.unclosed ts n o lexes opened shallow) kind kind_also =
      absurd (bad_not_open text ts b t c (n ∷ o) meets.lexes (wrong_is_bad text b t c p meets wrong) lexes opened shallow)
  cause_alone e f (IsLexicalCauseWithin.too_deep b t c p r meets opens full) (IsLexicalCauseWithin.unclosed ts n o lexes opened shallow) kind kind_also =
      absurd (bad_not_open text ts b t c (n ∷ o) meets.lexes (deep_is_bad text b t c p r meets opens full) lexes opened shallow)
  cause_alone e f (IsLexicalCauseWithin.wrong_close b t c o meets wrong) (IsLexicalCauseWithin.wrong_close d u g p also wrong_also) kind kind_also =
      ap (λ (x : Token). syntax_at x.span) (bad_alone b d t u c g meets.lexes also.lexes (wrong_is_bad text b t c o meets wrong) (wrong_is_bad text d u g p also wrong_also))
  cause_alone e f (IsLexicalCauseWithin.too_deep b t c o r meets opens full) (IsLexicalCauseWithin.too_deep d u g p s also opens_also full_also) kind kind_also =
      ap (λ (x : Token). too_deep_at x.span) (bad_alone b d t u c g meets.lexes also.lexes (deep_is_bad text b t c o r meets opens full) (deep_is_bad text d u g p s also opens_also full_also))
  cause_alone e f (IsLexicalCauseWithin.wrong_close b t c o meets wrong) (IsLexicalCauseWithin.too_deep d u g p s also opens full) kind kind_also =
      absurd (opens_not_wrong t u o s (bad_alone b d t u c g meets.lexes also.lexes (wrong_is_bad text b t c o meets wrong) (deep_is_bad text d u g p s also opens full)) wrong opens)
  cause_alone e f (IsLexicalCauseWithin.too_deep d u g p s also opens full) (IsLexicalCauseWithin.wrong_close b t c o meets wrong) kind kind_also =
      absurd (opens_not_wrong t u o s (bad_alone b d t u c g meets.lexes also.lexes (wrong_is_bad text b t c o meets wrong) (deep_is_bad text d u g p s also opens full)) wrong opens)
