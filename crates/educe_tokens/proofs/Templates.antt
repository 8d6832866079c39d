-- The text of a template's tokens is the template.
use Rattle.std.proofs.Common.{◌≡◌, ℕ, Bool, true, false, ◌||◌, IsTrue, cond, List, [], ◌∷◌, ◌++◌, ◌+◌, length, map, refl, sym, ap, ◌∙◌, subst, append_assoc, append-nil, chars, arith, ⊎_elim}
use Rattle.std.specs.Prelude.{◌==◌}
use Rattle.std.specs.Char.{is_ascii}
use Rattle.std.specs.List.{list_all, flat_map, join_with_byte, count_by}
use Rattle.std.proofs.lemmas.Bool.{or_cases, and_parts, and_from, false≢true}
use Rattle.std.proofs.lemmas.Bool.Decides.{nat_tests}
use Rattle.std.proofs.lemmas.List.{map-append, append_cancel_left}
use Rattle.std.proofs.lemmas.List.Folds.{list_all-append}
use Rattle.std.proofs.lemmas.List.Splits.{join_with_byte-slice_split, length-slice_split}
use Rattle.educe_tokens_pieces.specs.declared.kind.TokenKind.{TokenKind}
use Rattle.educe_tokens_pieces.specs.declared.kind.TokenKind.TheVariants.{Ident}
use Rattle.educe_tokens_pieces.specs.Chars.{begins, is_punct}
use Rattle.educe_tokens.specs.declared.kept_template.KeptTemplate.{KeptTemplate}
use Rattle.educe_tokens.specs.declared.token.Token.{Token}
use Rattle.educe_tokens.specs.Appends.{Appends, AppendsAt, AppendsNowhere, LieNowhere}
use Rattle.educe_tokens.specs.declared.span.Span.{Span}
use Rattle.educe_tokens.specs.Brackets.{kinds}
use Rattle.educe_tokens.specs.Copied.{copied_kind, copied}
use Rattle.educe_tokens.specs.Lexes.{Lexeme, lexeme_of, lexemes}
use Rattle.educe_tokens.specs.Parts.{tokens_nowhere, template_tokens, copied_tokens}
use Rattle.educe_tokens.specs.Quote.{is_name_start, is_name_part, is_bracket, is_mark, mark_kind, mark_lexemes, is_template_word, template_words, is_template, word_lexemes, quoted}
use Rattle.educe_tokens.specs.Spelled.{are_spelled}
use Rattle.educe_tokens.specs.Text.{joins_next, text_behind}
use Rattle.educe_tokens.proofs.Ascii.{chars-ascii}
use Rattle.educe_tokens.proofs.Lists.{cons_parts, nil_not_cons}
use Rattle.educe_tokens.proofs.Printable.{words_spelled}
use Rattle.educe_tokens.proofs.Tokens.{same_tokens, span_of}

-- ---- what a template spells

apart_if : (b : Bool) (x y : TokenKind) → joins_next x ≡ false → joins_next y ≡ false → joins_next (cond b x y) ≡ false
apart_if true x y h g = h
apart_if false x y h g = g

-- a bracket or a punct by itself is not joint
mark_apart : (c : ℕ) → joins_next (mark_kind c) ≡ false
mark_apart c =
    apart_if (c == 40) _ _ refl (apart_if (c == 41) _ _ refl (apart_if (c == 91) _ _ refl (apart_if (c == 93) _ _ refl (apart_if (c == 123) _ _ refl (apart_if (c == 125) _ _ refl refl)))))

abbrev space : Bool → List ℕ
space joint = cond joint [] (32 ∷ [])

-- a word that begins no name
mark_text : (joint : Bool) (word : List ℕ) (rest : List Lexeme) → is_mark word ≡ true → text_behind joint (mark_lexemes word ++ rest) ≡ space joint ++ (word ++ text_behind false rest)
mark_text joint [] rest h = absurd (false≢true h)
mark_text joint (c ∷ []) rest h = ap (λ b. space joint ++ (c ∷ text_behind b rest)) (mark_apart c)
mark_text joint (c ∷ d ∷ []) rest h = refl
mark_text joint (c ∷ d ∷ e ∷ cs) rest h = absurd (false≢true h)

marked_word : (word : List ℕ) → IsTrue (is_template_word word) → begins is_name_start word ≡ false → is_mark word ≡ true
marked_word [] h start = absurd (false≢true h)
marked_word (c ∷ cs) h start = ⊎_elim (λ e. absurd (false≢true (sym start ∙ (and_parts _ _ e).0))) (λ e. e) (or_cases _ _ h)

word_text : (joint : Bool) (word : List ℕ) (rest : List Lexeme) → IsTrue (is_template_word word) → text_behind joint (word_lexemes word ++ rest) ≡ space joint ++ (word ++ text_behind false rest)
word_text joint word rest h =
    let P : Bool → Type 0 = λ b. begins is_name_start word ≡ b → text_behind joint (cond b (record { kind = Ident; spelling = word } ∷ []) (mark_lexemes word) ++ rest) ≡ space joint ++ (word ++ text_behind false rest) in
    let split : (b : Bool) → P b = λ b. elim b as P [ true ↦ λ _. refl | false ↦ λ start. mark_text joint word rest (marked_word word h start) ] in
    split (begins is_name_start word) refl

words_text : (joint : Bool) (word : List ℕ) (words : List (List ℕ)) (rest : List Lexeme) → list_all is_template_word (word ∷ words) ≡ true
    → text_behind joint (flat_map word_lexemes (word ∷ words) ++ rest) ≡ space joint ++ (join_with_byte 32 (word ∷ words) ++ text_behind false rest)
words_text joint word [] rest h =
    ap (λ (xs : List Lexeme). text_behind joint (xs ++ rest)) (append-nil (word_lexemes word)) ∙ word_text joint word rest (and_parts _ _ h).0
words_text joint word (next ∷ words) rest h =
    let parts = and_parts (is_template_word word) (list_all is_template_word (next ∷ words)) h in
    ap (λ (xs : List Lexeme). text_behind joint xs) (append_assoc (word_lexemes word) (flat_map word_lexemes (next ∷ words)) rest)
    ∙ word_text joint word (flat_map word_lexemes (next ∷ words) ++ rest) parts.0
    ∙ ap (λ cs. space joint ++ (word ++ cs)) (words_text false next words rest parts.1)
    ∙ ap (λ cs. space joint ++ cs) (sym (append_assoc word (32 ∷ join_with_byte 32 (next ∷ words)) (text_behind false rest)))

split_text : (joint : Bool) (words : List (List ℕ)) (text : List ℕ) (rest : List Lexeme) → join_with_byte 32 words ≡ text → list_all is_template_word words ≡ true → ¬ (words ≡ [])
    → text_behind joint (flat_map word_lexemes words ++ rest) ≡ space joint ++ (text ++ text_behind false rest)
split_text joint [] text rest e h some = absurd (some refl)
split_text joint (word ∷ words) text rest e h some = words_text joint word words rest h ∙ ap (λ cs. space joint ++ (cs ++ text_behind false rest)) e

some_words : (text : List ℕ) → ¬ (template_words text ≡ [])
some_words text e =
    let count : length (template_words text) ≡ count_by (λ c. c == 32) text + 1 = length-slice_split (λ c. c == 32) text in
    let none : length (template_words text) ≡ 0 = ap length e in
    omega arith

-- the text of a template's tokens, behind what is joint or not, and of those behind it
pub template_text : (joint : Bool) (text : List ℕ) (rest : List Lexeme) → IsTrue (is_template text) → text_behind joint (quoted text ++ rest) ≡ space joint ++ (text ++ text_behind false rest)
unfolding quoted
template_text joint text rest h = split_text joint (template_words text) text rest (join_with_byte-slice_split 32 text) h (some_words text)

-- ---- its characters

part_ascii : (c : ℕ) → is_name_part c ≡ true → is_ascii c ≡ true
part_ascii c h = grind (arith, nat_tests)

start_part : (c : ℕ) → is_name_start c ≡ true → is_name_part c ≡ true
start_part c h = grind (arith, nat_tests)

mark_ascii : (c : ℕ) → (is_bracket c || is_punct c) ≡ true → is_ascii c ≡ true
mark_ascii c h = grind (arith, nat_tests)

names_ascii : (cs : List ℕ) → list_all is_name_part cs ≡ true → list_all is_ascii cs ≡ true
names_ascii [] h = refl
names_ascii (c ∷ cs) h = let parts = and_parts (is_name_part c) _ h in and_from _ _ (part_ascii c parts.0) (names_ascii cs parts.1)

pair_ascii : (c d : ℕ) → is_mark (c ∷ d ∷ []) ≡ true → list_all is_ascii (c ∷ d ∷ []) ≡ true
pair_ascii c d h = grind (arith, nat_tests)

marks_ascii : (word : List ℕ) → is_mark word ≡ true → list_all is_ascii word ≡ true
marks_ascii [] h = refl
marks_ascii (c ∷ []) h = and_from _ _ (mark_ascii c h) refl
marks_ascii (c ∷ d ∷ []) h = pair_ascii c d h
marks_ascii (c ∷ d ∷ e ∷ cs) h = absurd (false≢true h)

word_ascii : (word : List ℕ) → is_template_word word ≡ true → list_all is_ascii word ≡ true
word_ascii [] h = refl
word_ascii (c ∷ cs) h = ⊎_elim (λ e. let parts = and_parts (is_name_start c) _ e in and_from _ _ (part_ascii c (start_part c parts.0)) (names_ascii cs parts.1)) (λ e. marks_ascii (c ∷ cs) e) (or_cases _ _ h)

joined_ascii : (words : List (List ℕ)) → list_all is_template_word words ≡ true → list_all is_ascii (join_with_byte 32 words) ≡ true
joined_ascii [] h = refl
joined_ascii (word ∷ []) h = word_ascii word (and_parts _ _ h).0
joined_ascii (word ∷ next ∷ words) h =
    let parts = and_parts (is_template_word word) (list_all is_template_word (next ∷ words)) h in
    list_all-append is_ascii word (32 ∷ join_with_byte 32 (next ∷ words)) ∙ and_from _ _ (word_ascii word parts.0) (joined_ascii (next ∷ words) parts.1)

pub template_chars : (text : List ℕ) → IsTrue (is_template text) → chars text ≡ text
template_chars text h = chars-ascii text (ap (list_all is_ascii) (sym (join_with_byte-slice_split 32 text)) ∙ joined_ascii (template_words text) h)

-- ---- its tokens

pub lexemes_nowhere : (found : List Lexeme) (h : IsTrue (are_spelled found)) → lexemes (tokens_nowhere found h) ≡ found
lexemes_nowhere [] h = refl
lexemes_nowhere (x ∷ xs) h = ap (λ (more : List Lexeme). x ∷ more) (lexemes_nowhere xs _)

pub lie_nowhere : (found : List Lexeme) (h : IsTrue (are_spelled found)) → LieNowhere (tokens_nowhere found h)
lie_nowhere [] h = tt
lie_nowhere (x ∷ xs) h = (refl, lie_nowhere xs _)

-- what is appended with these tokens
pub Appends-nowhere : {old new : List Token} (found : List Lexeme) (h : IsTrue (are_spelled found)) → new ≡ old ++ tokens_nowhere found h → Appends found old new
Appends-nowhere found h e = record { more = tokens_nowhere found h; joined = e; same = lexemes_nowhere found h }

pub AppendsNowhere-nowhere : {old new : List Token} (found : List Lexeme) (h : IsTrue (are_spelled found)) → new ≡ old ++ tokens_nowhere found h → AppendsNowhere old new
AppendsNowhere-nowhere found h e = record { more = tokens_nowhere found h; joined = e; nowhere = lie_nowhere found h }

-- tokens that lie nowhere lie at the same places
places_nowhere : (us ts : List Token) → lexemes us ≡ lexemes ts → LieNowhere us → LieNowhere ts → map span_of us ≡ map span_of ts
places_nowhere [] [] e h g = refl
places_nowhere [] (t ∷ ts) e h g = absurd (nil_not_cons _ _ e)
places_nowhere (u ∷ us) [] e h g = absurd (nil_not_cons _ _ (sym e))
places_nowhere (u ∷ us) (t ∷ ts) e h g = let same = cons_parts _ _ _ _ e in λ i. (h.0 ∙ sym g.0) i ∷ places_nowhere us ts same.1 h.1 g.1 i

-- what is appended, and lies nowhere, is these tokens
pub appended_nowhere : {old new : List Token} (found : List Lexeme) (h : IsTrue (are_spelled found)) → Appends found old new → AppendsNowhere old new → new ≡ old ++ tokens_nowhere found h
appended_nowhere {old = old} found h grown placed =
    let one : grown.more ≡ placed.more = append_cancel_left old grown.more placed.more (sym grown.joined ∙ placed.joined) in
    let nowhere = subst LieNowhere (sym one) placed.nowhere in
    let same = grown.same ∙ sym (lexemes_nowhere found h) in
    grown.joined ∙ ap (λ more. old ++ more) (same_tokens grown.more (tokens_nowhere found h) same (places_nowhere _ _ same nowhere (lie_nowhere found h)))

-- the tokens of a template are spelled
pub quoted_spelled : (text : List ℕ) → IsTrue (is_template text) → IsTrue (are_spelled (quoted text))
unfolding quoted
quoted_spelled text h = words_spelled (template_words text) h

-- what stands behind a template that was put
pub put_template : (joint : Bool) (template : KeptTemplate) (old new : List ℕ) (more : List Token) → new ≡ old ++ (space joint ++ chars template.text.now)
    → new ++ text_behind false (lexemes more) ≡ old ++ text_behind joint (lexemes (template_tokens template ++ more))
put_template joint template old new more e =
    let text = template.text.now in
    let rest = text_behind false (lexemes more) in
    let same : lexemes (template_tokens template ++ more) ≡ quoted text ++ lexemes more =
    map-append lexeme_of (template_tokens template) more ∙ ap (λ (xs : List Lexeme). xs ++ lexemes more) (lexemes_nowhere (quoted text) template.spelled)
    in
    ap (λ cs. cs ++ rest) (e ∙ ap (λ cs. old ++ (space joint ++ cs)) (template_chars text template.is_template))
    ∙ append_assoc old (space joint ++ text) rest
    ∙ ap (λ cs. old ++ cs) (append_assoc (space joint) text rest ∙ sym (template_text joint text (lexemes more) template.is_template))
    ∙ ap (λ (xs : List Lexeme). old ++ text_behind joint xs) (sym same)

-- ---- copies

pub lexemes-copied : (ts : List Token) → lexemes (copied_tokens ts) ≡ copied (lexemes ts)
lexemes-copied [] = refl
lexemes-copied (t ∷ ts) = ap (λ (more : List Lexeme). record { kind = copied_kind t.kind (kinds (lexemes ts)); spelling = t.spelling } ∷ more) (lexemes-copied ts)

pub spans-copied : (ts : List Token) → map span_of (copied_tokens ts) ≡ map span_of ts
spans-copied [] = refl
spans-copied (t ∷ ts) = ap (λ (more : List Span). t.span ∷ more) (spans-copied ts)

pub Appends-copied : {old new : List Token} (ts : List Token) → new ≡ old ++ copied_tokens ts → Appends (copied (lexemes ts)) old new
Appends-copied ts e = record { more = copied_tokens ts; joined = e; same = lexemes-copied ts }

pub AppendsAt-copied : {old new : List Token} (ts : List Token) → new ≡ old ++ copied_tokens ts → AppendsAt (map span_of ts) old new
AppendsAt-copied ts e = record { more = copied_tokens ts; joined = e; placed = spans-copied ts }

-- what is appended, and lies at the places of the tokens, is their copies
pub appended_copies : {old new : List Token} (ts : List Token) → Appends (copied (lexemes ts)) old new → AppendsAt (map span_of ts) old new → new ≡ old ++ copied_tokens ts
appended_copies {old = old} ts grown placed =
    let one : grown.more ≡ placed.more = append_cancel_left old grown.more placed.more (sym grown.joined ∙ placed.joined) in
    let places : map span_of grown.more ≡ map span_of (copied_tokens ts) = ap (map span_of) one ∙ placed.placed ∙ sym (spans-copied ts) in
    grown.joined ∙ ap (λ more. old ++ more) (same_tokens grown.more (copied_tokens ts) (grown.same ∙ sym (lexemes-copied ts)) places)
