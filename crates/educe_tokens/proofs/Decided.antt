-- Each text has tokens whose brackets close in order, not too deep, or a cause of a rejection.
use Rattle.std.proofs.Common.{◌≡◌, ◌≢◌, ℕ, zero, suc, ◌+◌, ◌<◌, ◌≤◌, ◌⊎◌, inl, inr, Bool, true, false, cond, Option, Some, None, List, [], ◌∷◌, ◌++◌, length, map, take, drop, refl, sym, ap, ◌∙◌, subst, arith, append-nil, append_assoc, encode_utf8_all}
use Rattle.std.proofs.Math.Nat.{eq-or-lt_of_le}
use Rattle.std.proofs.lemmas.Bool.{and_parts}
use Rattle.std.proofs.lemmas.List.{length-drop}
use Rattle.educe_tokens_pieces.specs.declared.kind.Bracket.{Bracket}
use Rattle.educe_tokens_pieces.specs.declared.kind.TokenKind.{TokenKind}
use Rattle.educe_tokens_pieces.specs.declared.kind.TokenKind.TheVariants.{Ident, Lifetime, Literal, Punct, Start, Stop, Doc}
use Rattle.educe_tokens_pieces.specs.declared.kind.PieceKind.{PieceKind}
use Rattle.educe_tokens_pieces.specs.declared.kind.PieceKind.TheVariants.{Blank, Comment, Token as TokenPiece, Uncarried}
use Rattle.educe_tokens_pieces.specs.Pieces.{is_piece}
use Rattle.educe_tokens_scan.specs.Scan.{piece_at}
use Rattle.educe_tokens_scan.proofs.Readings.{IsFound, found_is}
use Rattle.educe_tokens.specs.declared.brackets.BracketError.{BracketError}
use Rattle.educe_tokens.specs.declared.brackets.BracketError.TheVariants as bracket
use Rattle.educe_tokens.specs.declared.span.Span.{Span}
use Rattle.educe_tokens.specs.declared.token.Token.{Token}
use Rattle.educe_tokens.specs.declared.error.Kind.TheVariants.{Alloc}
use Rattle.educe_tokens.specs.Brackets.{same_bracket, open_after, closes, depth_after, nests, kinds, IsShallow}
use Rattle.educe_tokens.specs.Causes.{empty_at, last_of, open_behind, IsLexicalCause, IsLexicalCauseWithin, HasCause}
use Rattle.educe_tokens.specs.Lexes.{lexemes, Lexes}
use Rattle.educe_tokens.specs.Refusals.{syntax_at, not_carried_at}
use Rattle.educe_tokens.specs.Steps.{IsCauseOfPiece, IsCauseOfKind, IsReading, refusal_of}
use Rattle.educe_tokens.proofs.Tokens.{span_of}
use Rattle.educe_tokens.proofs.Opened.{open_behind-push, closes_behind, depth_of, nests-push}
use Rattle.educe_tokens.proofs.Uncaused.{kinds_around}
use Rattle.educe_tokens.proofs.Bracketed.{refused_token}
use Rattle.educe_tokens.proofs.Lexed.{Before, before_all, before_push, piece_cause, lexes_all, stuck_cause}

-- ---- one more token behind open brackets

-- behind the token at most 128 brackets are open
record GoesOn (outer : List Bracket) (kind : TokenKind) : Type 0 where
  pub inner : List Bracket
  pub opened : open_after outer kind ≡ Some inner
  pub within : length inner ≤ 128

-- the token is rejected for another cause than out of memory
record IsRefused (outer : List Bracket) (kind : TokenKind) : Type 0 where
  pub cause : BracketError
  pub is_cause : IsCauseOfKind 128 outer kind cause
  pub is_told : cause ≢ bracket.Alloc

-- a bracket that closes the innermost one, or another
closing : (o b : Bracket) (outer : List Bracket) (same : Bool) → length (o ∷ outer) ≤ 128 → same_bracket o b ≡ same → GoesOn (o ∷ outer) (Stop b) ⊎ IsRefused (o ∷ outer) (Stop b)
closing o b outer true within is = inl (record { inner = outer; opened = ap (λ s. cond s (Some outer) None) is; within = omega (arith, within) })
closing o b outer false within is = inr (record { cause = bracket.WrongClose; is_cause = ap (λ s. cond s (Some outer) None) is; is_told = λ same. cc })

-- each token goes on or is rejected
one_more : (outer : List Bracket) (kind : TokenKind) → length outer ≤ 128 → GoesOn outer kind ⊎ IsRefused outer kind
one_more outer (Start b) within =
    elim (eq-or-lt_of_le within) [
      | inl full ↦ inr (record { cause = bracket.TooDeep; is_cause = (b, refl, full); is_told = λ same. cc })
      | inr less ↦ inl (record { inner = b ∷ outer; opened = refl; within = omega (arith, less) })
    ]
one_more [] (Stop b) within = inr (record { cause = bracket.WrongClose; is_cause = refl; is_told = λ same. cc })
one_more (o ∷ outer) (Stop b) within = closing o b outer (same_bracket o b) within refl
one_more outer Ident within = inl (record { inner = outer; opened = refl; within = within })
one_more outer Lifetime within = inl (record { inner = outer; opened = refl; within = within })
one_more outer (Literal l) within = inl (record { inner = outer; opened = refl; within = within })
one_more outer (Punct c joint) within = inl (record { inner = outer; opened = refl; within = within })
one_more outer Doc within = inl (record { inner = outer; opened = refl; within = within })

-- the rejection of such a token is not out of memory
told : (cause : BracketError) (place : Span) → cause ≢ bracket.Alloc → (refusal_of cause place).kind ≢ Alloc
told bracket.WrongClose place other = λ same. cc
told bracket.TooDeep place other = λ same. cc
told bracket.Alloc place other = absurd (other refl)

module _ (text : List ℕ) where
  -- ---- the brackets of its tokens

  -- the text has tokens whose brackets close in order, not too deep; or a cause
  abbrev IsDecided : Type 0
  IsDecided = ((tokens : List Token) × IsReading text tokens) ⊎ HasCause (IsLexicalCause text)

  -- where all tokens are taken, by the brackets that are open
  at_end : (tokens : List Token) (outer : List Bracket) → Lexes text tokens → open_behind [] (kinds (lexemes tokens)) ≡ Some outer → IsShallow (lexemes tokens) → IsDecided
  at_end tokens [] lexes opened shallow =
      let ks = kinds (lexemes tokens) in
      inl (tokens, record { lexes = lexes; balanced = sym (ap (closes []) (append-nil ks)) ∙ closes_behind [] [] ks [] opened; shallow = shallow })
  at_end tokens (o ∷ outer) lexes opened shallow =
      inr (record { error = syntax_at (empty_at (length (encode_utf8_all text))); is_told = λ same. cc; stands = IsLexicalCauseWithin.unclosed tokens o outer lexes opened shallow })

  -- where some tokens are taken, by the others
  brackets_from : (before behind : List Token) (outer : List Bracket) → Lexes text (before ++ behind) → open_behind [] (kinds (lexemes before)) ≡ Some outer → IsShallow (lexemes before) → length outer ≤ 128 → IsDecided
  brackets_from before [] outer lexes opened shallow within = at_end before outer (subst (Lexes text) (append-nil before) lexes) opened shallow
  brackets_from before (t ∷ behind) outer lexes opened shallow within =
      elim (one_more outer t.kind within) [
        | inl goes ↦ (let ks = kinds (lexemes before) in
            let same = kinds_around before t [] in
            let depth : depth_after (length outer) t.kind ≤ 128 = omega (arith, depth_of outer goes.inner t.kind goes.opened, goes.within) in
            brackets_from (before ++ t ∷ []) behind goes.inner (subst (Lexes text) (sym (append_assoc before (t ∷ []) behind)) lexes)
            (ap (open_behind []) same ∙ open_behind-push [] outer ks t.kind opened ∙ goes.opened)
            (subst (λ ks. nests 128 0 ks ≡ true) (sym same) (nests-push 128 [] outer ks t.kind opened shallow depth)) goes.within)
        | inr stops ↦ inr (record {
          error = refusal_of stops.cause t.span;
          is_told = told stops.cause t.span stops.is_told;
          stands = refused_token text before behind t outer stops.cause (record { lexes = lexes; opened = opened; shallow = shallow }) stops.is_cause;
        })
      ]

  -- ---- its pieces

  -- the text has tokens, or a cause
  abbrev IsCut : Type 0
  IsCut = ((tokens : List Token) × Lexes text tokens) ⊎ HasCause (IsLexicalCause text)

  module _ (rest : List ℕ) (old : List Token) (start : ℕ) (before : Before text rest old start) where
    -- where what is said of the rest behind so many characters is known
    module _ (n : ℕ) (more : (new : List Token) → Before text (drop n rest) new (start + length (encode_utf8_all (take n rest))) → IsCut) where
      abbrev span : Span
      span = record { start = start; end = start + length (encode_utf8_all (take n rest)) }

      -- by the kind of the piece that these characters are
      one_piece : (kind : PieceKind) → IsFound rest (Some (kind, n)) → IsCut
      one_piece Blank found = more old (before_push text rest old start Blank n span before found refl refl old refl)
      one_piece Comment found = more old (before_push text rest old start Comment n span before found refl refl old refl)
      one_piece (TokenPiece kind) found =
          let token : Token = record { kind = kind; span = span; spelling = take n rest; spelled = (and_parts (is_piece (TokenPiece kind) (take n rest)) _ found.0).0 } in
          more (old ++ token ∷ []) (before_push text rest old start (TokenPiece kind) n span before found refl refl (old ++ token ∷ []) (token, refl, refl, refl, refl))
      one_piece (Uncarried kind) found =
          inr (record {
            error = not_carried_at span (take n rest);
            is_told = λ same. cc;
            stands = piece_cause text rest old start (Uncarried kind) n span before found refl refl _ (IsCauseOfPiece.not_carried kind);
          })

    -- where something is left, by the piece that the scan finds at its front
    next_piece : 0 < length rest → (found : Option (PieceKind × ℕ)) → piece_at rest ≡ found
        → ((n : ℕ) → 0 < n → n ≤ length rest → (new : List Token) → Before text (drop n rest) new (start + length (encode_utf8_all (take n rest))) → IsCut) → IsCut
    next_piece some None none more =
        inr (record {
          error = syntax_at (last_of (map span_of old) (empty_at (length (encode_utf8_all text))));
          is_told = λ same. cc;
          stands = stuck_cause text rest old start (length (encode_utf8_all text)) _ before some none refl refl;
        })
    next_piece some (Some (kind, n)) is more =
        let found = found_is rest (piece_at rest) kind n refl is in
        one_piece n (more n found.1 found.2) kind found

  -- where some pieces are taken, by the rest
  pieces_from : (bound : ℕ) (rest : List ℕ) (old : List Token) (start : ℕ) → length rest ≤ bound → Before text rest old start → IsCut
  pieces_from bound [] old start within before = inl (old, lexes_all text [] old start before refl)
  pieces_from zero (c ∷ cs) old start within before = absurd (omega (arith, within))
  pieces_from (suc bound) (c ∷ cs) old start within before =
      next_piece (c ∷ cs) old start before (omega arith) (piece_at (c ∷ cs)) refl
      (λ n some fits new. pieces_from bound (drop n (c ∷ cs)) new (start + length (encode_utf8_all (take n (c ∷ cs)))) (omega (arith, within, some, fits, length-drop n (c ∷ cs))))

-- A text is a reading, or there is a cause why it is none.
pub decided : (text : List ℕ) → ((tokens : List Token) × IsReading text tokens) ⊎ HasCause (IsLexicalCause text)
decided text =
    elim (pieces_from text (length text) text [] 0 (omega arith) (before_all text)) [
      | inl read ↦ brackets_from text [] read.0 [] read.1 refl refl (omega arith)
      | inr cause ↦ inr cause
    ]
