-- What lies next in a text, as a part of it.
use Rattle.std.proofs.Common.{◌≡◌, ℕ, ◌+◌, ◌-◌, ◌≤◌, ◌<◌, ◌^◌, List, ◌++◌, length, take, drop, refl, sym, ap, ◌∙◌, subst, arith, take-append-drop, chars, IsUtf8, encode_utf8_all, String, Global}
use Rattle.std.specs.Prelude.{slice_range}
use Rattle.std.specs.Str.{IsCharBoundary}
use Rattle.std.specs.String.{string_bytes}
use Rattle.std.specs.declared.rc.Rc.{Rc}
use Rattle.std.proofs.lemmas.List.{take-take, length-take-le, length-drop}
use Rattle.std.proofs.lemmas.Str.{IsCharBoundary-start, IsCharBoundary-end, IsCharBoundary-from_rest, IsCharBoundary-from_take, IsUtf8-between, IsUtf8-string_bytes, IsUtf8-drop, IsUtf8-take, chars_from_encodes, encodes-chars}
use Rattle.educe_tokens_pieces.specs.declared.kind.PieceKind.{PieceKind}
use Rattle.educe_tokens_scan.specs.InPlace.{IsFront}
use Rattle.educe_tokens.specs.declared.span.Span.{Span}
use Rattle.educe_tokens.specs.declared.token.Token.{Token}
use Rattle.educe_tokens.specs.declared.spelling.Text.{Text}
use Rattle.educe_tokens.specs.declared.spelling.Text.TheVariants.{Short, Part}
use Rattle.educe_tokens.specs.Kept.{bytes_of, characters_of, IsCut}
use Rattle.educe_tokens.specs.Slices.{IsCutOut, IsPlace, cut_out}
use Rattle.educe_tokens.proofs.Parts.{range-range}
use Rattle.educe_tokens.proofs.Lexed.{Before, ends_there}
use Rattle.educe_tokens.proofs.Places.{LiesAt, front_of, span_cut}

-- what parts are of
abbrev Source : Type 0
Source = Rc (String Global) Global

-- ---- a part of a text

module _ (bs : List ℕ) (start end : ℕ) (utf8 : IsUtf8 bs) (ordered : start ≤ end) (starts : IsCharBoundary bs start) (ends : IsCharBoundary bs end) where
  -- it is a text
  pub part_utf8 : IsUtf8 (slice_range bs start end)
  part_utf8 = IsUtf8-between bs start end utf8 ordered starts ends

  -- it is as long as its ends are apart
  pub part_length : start + length (slice_range bs start end) ≡ end
  part_length =
      let rest = length-drop start bs in
      let within = ends.0 in
      let long = length-take-le (end - start) (drop start bs) (omega arith) in
      omega arith

  -- a place in it is a place in the text
  pub part_place : (k : ℕ) → IsCharBoundary (slice_range bs start end) k → IsCharBoundary bs (start + k)
  part_place k at =
      let long = part_length in
      let within = at.0 in
      let short : k ≤ end - start = omega arith in
      let rest = length-drop start bs in
      let inside = ends.0 in
      let front = subst IsUtf8 (take-take k (end - start) (drop start bs) short) (IsUtf8-take (slice_range bs start end) k part_utf8 at) in
      IsCharBoundary-from_rest bs start k starts.0 (IsCharBoundary-from_take (drop start bs) k (IsUtf8-drop bs start utf8 starts) (omega arith) front)

-- what is kept is a text
kept_utf8 : (kept : Text) → IsCut kept → IsUtf8 (bytes_of kept)
kept_utf8 (Short bytes len) cut = cut.1
kept_utf8 (Part source start end) cut = part_utf8 (string_bytes source.value) start end (IsUtf8-string_bytes source.value) cut.0 cut.1 cut.2

-- the bytes of a kept text are those of its characters
pub kept_bytes : (kept : Text) (text : List ℕ) → characters_of kept ≡ text → IsCut kept → encode_utf8_all text ≡ bytes_of kept
kept_bytes kept text is cut = ap encode_utf8_all (sym is) ∙ encodes-chars (bytes_of kept) (kept_utf8 kept cut)

-- a whole source is a part of itself
pub whole_cut : (source : Source) (text : List ℕ) (end : ℕ) → string_bytes source.value ≡ text → end ≡ length text → end < 2 ^ 32 → IsCut (Part source 0 end)
whole_cut source text end is long fits =
    let bs = string_bytes source.value in
    let same : end ≡ length bs = long ∙ ap length (sym is) in
    (omega arith, IsCharBoundary-start bs (IsUtf8-string_bytes source.value), subst (IsCharBoundary bs) (sym same) (IsCharBoundary-end bs), fits)

-- the bytes of a short text are those of its characters
pub short_bytes : (kept : Text) (text bytes : List ℕ) (len : ℕ) → kept ≡ Short bytes len → characters_of kept ≡ text → IsCut kept → encode_utf8_all text ≡ take len bytes
short_bytes kept text bytes len is view cut = kept_bytes kept text view cut ∙ ap bytes_of is

-- which is no longer than it may be
pub short_cut : (kept : Text) (bytes : List ℕ) (len : ℕ) → kept ≡ Short bytes len → IsCut kept → (len ≤ 15) × IsUtf8 (take len bytes)
short_cut kept bytes len is cut = subst IsCut is cut

-- what a part of a part is
pub record PartOf (source : Source) (first start end : ℕ) (text : List ℕ) : Type 0 where
  pub fits : first + end < 2 ^ 32
  pub cut : IsCut (Part source (first + start) (first + end))
  pub same : characters_of (Part source (first + start) (first + end)) ≡ chars (slice_range (encode_utf8_all text) start end)

pub part_of : (kept : Text) (text : List ℕ) (source copy : Source) (first last start end : ℕ) → kept ≡ Part source first last → copy.value ≡ source.value → characters_of kept ≡ text → IsCut kept
    → start ≤ end → IsCharBoundary (encode_utf8_all text) start → IsCharBoundary (encode_utf8_all text) end → PartOf copy first start end text
part_of kept text source copy first last start end is copied view cut ordered starts ends =
    let bs = string_bytes copy.value in
    let utf8 = IsUtf8-string_bytes copy.value in
    let same : string_bytes source.value ≡ bs = ap string_bytes (sym copied) in
    let own : (first ≤ last) × IsCharBoundary bs first × IsCharBoundary bs last × (last < 2 ^ 32) =
    subst (λ (b : List ℕ). (first ≤ last) × IsCharBoundary b first × IsCharBoundary b last × (last < 2 ^ 32)) same (subst IsCut is cut) in
    let bytes : encode_utf8_all text ≡ slice_range bs first last = kept_bytes kept text view cut ∙ ap bytes_of is ∙ ap (λ b. slice_range b first last) same in
    let place : (k : ℕ) → IsCharBoundary (encode_utf8_all text) k → IsCharBoundary bs (first + k) = λ k at. part_place bs first last utf8 own.0 own.1 own.2 k (subst (λ b. IsCharBoundary b k) bytes at) in
    let long = part_length bs first last utf8 own.0 own.1 own.2 in
    let whole = ap length bytes in
    let within = ends.0 in
    let fits = own.3 in
    let inside : first + end ≤ last = omega arith in
    record {
      fits = omega arith;
      cut = (omega arith, place start starts, place end ends, omega arith);
      same = ap chars (sym (range-range bs first last start end ordered inside) ∙ ap (λ b. slice_range b start end) (sym bytes));
    }

-- ---- what comes next

-- a front of the rest lies where the tokens before end
pub next_lies : (text rest : List ℕ) (tokens : List Token) (start n : ℕ) (span : Span) → Before text rest tokens start → span.start ≡ start → span.end ≡ start + length (encode_utf8_all (take n rest)) → LiesAt text span (take n rest)
next_lies text rest tokens start n span b starts ends =
    let before = front_of text rest 0 b.ps b.reads in
    record {
      before = before.front;
      behind = drop n rest;
      split = before.split ∙ ap (λ t. before.front ++ t) (sym (take-append-drop n rest));
      starts = (let bytes = before.bytes in let offset = b.offset in omega arith);
      ends = ends ∙ ap (λ k. k + length (encode_utf8_all (take n rest))) (sym starts);
    }

module _ (source text rest : List ℕ) (tokens : List Token) (start n : ℕ) (span : Span) (utf8 : IsUtf8 source) (spelled : chars source ≡ text) (b : Before text rest tokens start)
    (starts : span.start ≡ start) (ends : span.end ≡ start + length (encode_utf8_all (take n rest))) where
  -- it is cut out of the bytes
  cut : IsCutOut source span (take n rest)
  cut = span_cut source span (take n rest) utf8 (subst (λ t. LiesAt t span (take n rest)) (sym spelled) (next_lies text rest tokens start n span b starts ends))

  -- which are those of the text
  whole : source ≡ encode_utf8_all text
  whole = sym (encodes-chars source utf8) ∙ ap encode_utf8_all spelled

  -- the span of the next piece is a place of the text
  pub next_place : IsPlace text span
  next_place = record { ordered = cut.ordered; starts = subst (λ bs. IsCharBoundary bs span.start) whole cut.starts; ends = subst (λ bs. IsCharBoundary bs span.end) whole cut.ends }

  -- the characters in the span of the next piece are those of the prefix
  pub next_cut : cut_out text span ≡ take n rest
  next_cut =
      let utf8_front = subst IsUtf8 cut.cut (part_utf8 source span.start span.end utf8 cut.ordered cut.starts cut.ends) in
      ap (λ bs. chars (slice_range bs span.start span.end)) (sym whole) ∙ ap chars cut.cut ∙ sym (chars_from_encodes (take n rest) (encode_utf8_all (take n rest)) utf8_front refl)

-- a piece at the start of what is left of a source, in a text of the same characters
module _ (source text rest : List ℕ) (tokens : List Token) (kind : PieceKind) (m : ℕ) (span : Span) (utf8 : IsUtf8 source) (more : IsUtf8 rest) (same : text ≡ chars source)
    (b : Before (chars source) (chars rest) tokens (length source - length rest)) (f : IsFront rest (kind, m)) (starts : span.start ≡ length source - length rest) (ends : span.end ≡ length source - length rest + m) where
  there : span.end ≡ length source - length rest + length (encode_utf8_all (take f.count (chars rest)))
  there = ends_there source rest tokens kind m span more b f starts ends

  pub front_place : IsPlace text span
  front_place = subst (λ t. IsPlace t span) (sym same) (next_place source (chars source) (chars rest) tokens (length source - length rest) f.count span utf8 refl b starts there)

  pub front_cut : cut_out text span ≡ chars (take m rest)
  front_cut = ap (λ t. cut_out t span) same ∙ next_cut source (chars source) (chars rest) tokens (length source - length rest) f.count span utf8 refl b starts there ∙ sym f.front
