-- Sets of tokens: which have no token in common, and which lie within another.
use Rattle.std.proofs.Common.{◌≡◌, ℕ, Bool, true, false, not, ◌&&◌, ◌||◌, ◌==◌, List, [], ◌∷◌, refl, sym, subst, ◌∙◌, ⊎_elim}
use Rattle.std.specs.List.{list_any, list_all}
use Rattle.std.specs.Str.{bytes_eq}
use Rattle.std.proofs.lemmas.Bool.{false≢true, both_ways, not-true, and_parts, and_left, or_cases, or_from, or_left, or_right, false_from_ne_true, eqb-true, eq-eqb}
use Rattle.std.proofs.lemmas.Slice.Eq.{bytes_eq-Decides}
use Rattle.educe_tokens.specs.TokenKind.{TokenKind}
use Rattle.educe_tokens.specs.TokenKind.TheVariants as kind
use Rattle.educe_tokens.specs.LiteralKind.{LiteralKind}
use Rattle.educe_tokens.specs.LiteralKind.TheVariants as literal
use Rattle.educe_tree.specs.Names.{is_name, is_keyword}
use Rattle.educe_grammar.specs.declared.terminal.Keyword.{Keyword}
use Rattle.educe_grammar.specs.declared.terminal.Keyword.TheVariants.{As, Const, Crate, Dyn, Enum, Extern, False, Fn, For, In, Mut, Pub, SelfType, SelfValue, Struct, Super, True, Underscore, Unsafe, Where}
use Rattle.educe_grammar.specs.Terminals.{text_of, Words, some_words, all_words, Literals, no_literals, ints, strs, all_literals, Signs, these_signs, all_signs, TokenSet, word_in, literal_in, sign_in, token_in}
use Rattle.educe_grammar.proofs.Crossed.{fails_everywhere, holds_too}

-- ---- words

-- the words are spelled alike
abbrev pub is_same_word : Keyword → Keyword → Bool
is_same_word w v = bytes_eq (text_of w) (text_of v)

-- there is no word
abbrev pub no_word : List Keyword → Bool
no_word words = list_all (λ _. false) words

-- no identifier is in both
abbrev pub words_apart : Words → Words → Bool
words_apart (some_words names words) (some_words others more) = not (names && others) && list_all (λ w. list_all (λ v. not (is_same_word w v)) more) words
words_apart (some_words names words) all_words = not names && no_word words
words_apart all_words (some_words others more) = not others && no_word more
words_apart all_words all_words = false

-- each identifier of the first is in the other
abbrev pub words_within : Words → Words → Bool
words_within (some_words names words) (some_words others more) = (not names || others) && list_all (λ w. list_any (λ v. is_same_word w v) more) words
words_within (some_words names words) all_words = true
words_within all_words (some_words others more) = false
words_within all_words all_words = true

-- no keyword is a name
no_name : (w : Keyword) → is_name kind.Ident (text_of w) ≡ false
unfolding is_keyword
no_name As = refl
no_name Const = refl
no_name Crate = refl
no_name Dyn = refl
no_name Enum = refl
no_name Extern = refl
no_name False = refl
no_name Fn = refl
no_name For = refl
no_name In = refl
no_name Mut = refl
no_name Pub = refl
no_name SelfType = refl
no_name SelfValue = refl
no_name Struct = refl
no_name Super = refl
no_name True = refl
no_name Underscore = refl
no_name Unsafe = refl
no_name Where = refl

-- the text of a keyword is that text alone
spells : (w : Keyword) (text : List ℕ) → bytes_eq (text_of w) text ≡ true → text_of w ≡ text
spells w text h = (bytes_eq-Decides (text_of w) text).0 h

-- a name is spelled as no keyword
name_apart : (w : Keyword) (text : List ℕ) → is_name kind.Ident text ≡ true → bytes_eq (text_of w) text ≡ false
name_apart w text h = false_from_ne_true (bytes_eq (text_of w) text) (λ same. both_ways (is_name kind.Ident text)
    (subst (λ t. is_name kind.Ident t ≡ false) (spells w text same) (no_name w)) h)

-- a name is none of the keywords
name_not_in : (words : List Keyword) (text : List ℕ) → is_name kind.Ident text ≡ true → list_any (λ word. bytes_eq (text_of word) text) words ≡ false
name_not_in [] text h = refl
name_not_in (w ∷ words) text h = or_from (bytes_eq (text_of w) text) _ (name_apart w text h) (name_not_in words text h)

-- a keyword is no name
word_no_name : (words : List Keyword) (text : List ℕ) → list_any (λ word. bytes_eq (text_of word) text) words ≡ true → is_name kind.Ident text ≡ false
word_no_name words text h = false_from_ne_true (is_name kind.Ident text) (λ name. both_ways (list_any (λ word. bytes_eq (text_of word) text) words) (name_not_in words text name) h)

-- words that are spelled apart are two words
spelled_apart : (text : List ℕ) (w v : Keyword) → not (is_same_word w v) ≡ true → bytes_eq (text_of w) text ≡ true → bytes_eq (text_of v) text ≡ false
spelled_apart text w v h is = false_from_ne_true (bytes_eq (text_of v) text) (λ other. both_ways (is_same_word w v) (not-true (is_same_word w v) h)
    ((bytes_eq-Decides (text_of w) (text_of v)).1 (spells w text is ∙ sym (spells v text other))))

-- words that are spelled alike are one
spelled_alike : (text : List ℕ) (w v : Keyword) → is_same_word w v ≡ true → bytes_eq (text_of w) text ≡ true → bytes_eq (text_of v) text ≡ true
spelled_alike text w v h is = (bytes_eq-Decides (text_of v) text).1 (sym ((bytes_eq-Decides (text_of w) (text_of v)).0 h) ∙ spells w text is)

-- where there is no word nothing is one of them
no_word_in : (words : List Keyword) (text : List ℕ) → no_word words ≡ true → list_any (λ word. bytes_eq (text_of word) text) words ≡ false
no_word_in [] text h = refl
no_word_in (w ∷ words) text h = absurd (false≢true h)

-- not both, and one
not_both : (a b : Bool) → not (a && b) ≡ true → a ≡ true → b ≡ false
not_both true true h one = absurd (false≢true h)
not_both true false h one = refl
not_both false b h one = absurd (false≢true one)

-- what a implies holds beside c where a does
only_where : (a b c : Bool) → (not a || b) ≡ true → (a && c) ≡ true → (b && c) ≡ true
only_where true b c h one = and_both b c h one
  where
    and_both : (b c : Bool) → b ≡ true → c ≡ true → (b && c) ≡ true
    and_both true c h one = one
    and_both false c h one = h
only_where false b c h one = absurd (false≢true one)

-- no identifier is in two disjoint sets of words
pub words_apart_sound : (s t : Words) (text : List ℕ) → words_apart s t ≡ true → word_in s text ≡ true → word_in t text ≡ false
words_apart_sound (some_words names words) (some_words others more) text h is =
    let parts = and_parts (not (names && others)) _ h in
    ⊎_elim
    (λ name. let both = and_parts names (is_name kind.Ident text) name in
    or_from (others && is_name kind.Ident text) _ (and_left others (is_name kind.Ident text) (not_both names others parts.0 both.0)) (name_not_in more text both.1))
    (λ word. or_from (others && is_name kind.Ident text) _ (no_and others (is_name kind.Ident text) (word_no_name words text word))
    (fails_everywhere (λ w v. not (is_same_word w v)) (λ w. bytes_eq (text_of w) text) (λ v. bytes_eq (text_of v) text) (spelled_apart text) words more parts.1 word))
    (or_cases (names && is_name kind.Ident text) _ is)
  where
    no_and : (a b : Bool) → b ≡ false → (a && b) ≡ false
    no_and true b h = h
    no_and false b h = refl
words_apart_sound (some_words names words) all_words text h is =
    let parts = and_parts (not names) (no_word words) h in
    absurd (both_ways (word_in (some_words names words) text)
    (or_from (names && is_name kind.Ident text) _ (and_left names (is_name kind.Ident text) (not-true names parts.0)) (no_word_in words text parts.1)) is)
words_apart_sound all_words (some_words others more) text h is =
    let parts = and_parts (not others) (no_word more) h in
    or_from (others && is_name kind.Ident text) _ (and_left others (is_name kind.Ident text) (not-true others parts.0)) (no_word_in more text parts.1)
words_apart_sound all_words all_words text h is = absurd (false≢true h)

-- each identifier of a subset of words is in the larger set
pub words_within_sound : (s t : Words) (text : List ℕ) → words_within s t ≡ true → word_in s text ≡ true → word_in t text ≡ true
words_within_sound (some_words names words) (some_words others more) text h is =
    let parts = and_parts (not names || others) _ h in
    ⊎_elim
    (λ name. or_left (others && is_name kind.Ident text) _ (only_where names others (is_name kind.Ident text) parts.0 name))
    (λ word. or_right (others && is_name kind.Ident text) _
    (holds_too is_same_word (λ w. bytes_eq (text_of w) text) (λ v. bytes_eq (text_of v) text) (spelled_alike text) words more parts.1 word))
    (or_cases (names && is_name kind.Ident text) _ is)
words_within_sound (some_words names words) all_words text h is = refl
words_within_sound all_words (some_words others more) text h is = absurd (false≢true h)
words_within_sound all_words all_words text h is = refl

-- ---- literals and signs

-- no literal is in both
abbrev pub literals_apart : Literals → Literals → Bool
literals_apart no_literals t = true
literals_apart ints no_literals = true
literals_apart ints ints = false
literals_apart ints strs = true
literals_apart ints all_literals = false
literals_apart strs no_literals = true
literals_apart strs ints = true
literals_apart strs strs = false
literals_apart strs all_literals = false
literals_apart all_literals no_literals = true
literals_apart all_literals ints = false
literals_apart all_literals strs = false
literals_apart all_literals all_literals = false

-- each literal of the first is in the other
abbrev pub literals_within : Literals → Literals → Bool
literals_within no_literals t = true
literals_within ints no_literals = false
literals_within ints ints = true
literals_within ints strs = false
literals_within ints all_literals = true
literals_within strs no_literals = false
literals_within strs ints = false
literals_within strs strs = true
literals_within strs all_literals = true
literals_within all_literals no_literals = false
literals_within all_literals ints = false
literals_within all_literals strs = false
literals_within all_literals all_literals = true

-- an integer is no string
int_or_str : (l : LiteralKind) → literal_in ints l ≡ true → literal_in strs l ≡ false
int_or_str literal.Int h = refl
int_or_str literal.Str h = absurd (false≢true h)
int_or_str literal.ByteStr h = refl
int_or_str literal.Char h = refl
int_or_str literal.Byte h = refl

-- a string is no integer
str_or_int : (l : LiteralKind) → literal_in strs l ≡ true → literal_in ints l ≡ false
str_or_int literal.Int h = absurd (false≢true h)
str_or_int literal.Str h = refl
str_or_int literal.ByteStr h = refl
str_or_int literal.Char h = refl
str_or_int literal.Byte h = refl

-- no literal is in two disjoint sets of literals
literals_apart_sound : (s t : Literals) (l : LiteralKind) → literals_apart s t ≡ true → literal_in s l ≡ true → literal_in t l ≡ false
literals_apart_sound no_literals t l h is = absurd (false≢true is)
literals_apart_sound ints no_literals l h is = refl
literals_apart_sound ints ints l h is = absurd (false≢true h)
literals_apart_sound ints strs l h is = int_or_str l is
literals_apart_sound ints all_literals l h is = absurd (false≢true h)
literals_apart_sound strs no_literals l h is = refl
literals_apart_sound strs ints l h is = str_or_int l is
literals_apart_sound strs strs l h is = absurd (false≢true h)
literals_apart_sound strs all_literals l h is = absurd (false≢true h)
literals_apart_sound all_literals no_literals l h is = refl
literals_apart_sound all_literals ints l h is = absurd (false≢true h)
literals_apart_sound all_literals strs l h is = absurd (false≢true h)
literals_apart_sound all_literals all_literals l h is = absurd (false≢true h)

-- each literal of a subset of literals is in the larger set
literals_within_sound : (s t : Literals) (l : LiteralKind) → literals_within s t ≡ true → literal_in s l ≡ true → literal_in t l ≡ true
literals_within_sound no_literals t l h is = absurd (false≢true is)
literals_within_sound ints no_literals l h is = absurd (false≢true h)
literals_within_sound ints ints l h is = is
literals_within_sound ints strs l h is = absurd (false≢true h)
literals_within_sound ints all_literals l h is = refl
literals_within_sound strs no_literals l h is = absurd (false≢true h)
literals_within_sound strs ints l h is = absurd (false≢true h)
literals_within_sound strs strs l h is = is
literals_within_sound strs all_literals l h is = refl
literals_within_sound all_literals no_literals l h is = absurd (false≢true h)
literals_within_sound all_literals ints l h is = absurd (false≢true h)
literals_within_sound all_literals strs l h is = absurd (false≢true h)
literals_within_sound all_literals all_literals l h is = refl

-- no sign is in both
abbrev pub signs_apart : Signs → Signs → Bool
signs_apart (these_signs signs) (these_signs more) = list_all (λ c. list_all (λ d. not (c == d)) more) signs
signs_apart (these_signs signs) all_signs = list_all (λ _. false) signs
signs_apart all_signs (these_signs more) = list_all (λ _. false) more
signs_apart all_signs all_signs = false

-- each sign of the first is in the other
abbrev pub signs_within : Signs → Signs → Bool
signs_within (these_signs signs) (these_signs more) = list_all (λ c. list_any (λ d. c == d) more) signs
signs_within (these_signs signs) all_signs = true
signs_within all_signs (these_signs more) = false
signs_within all_signs all_signs = true

-- signs that differ aren't one
sign_apart : (e c d : ℕ) → not (c == d) ≡ true → (c == e) ≡ true → (d == e) ≡ false
sign_apart e c d h is = false_from_ne_true (d == e) (λ other. both_ways (c == d) (not-true (c == d) h)
    (eq-eqb c d (eqb-true c e is ∙ sym (eqb-true d e other))))

-- signs that are alike are one
sign_alike : (e c d : ℕ) → (c == d) ≡ true → (c == e) ≡ true → (d == e) ≡ true
sign_alike e c d h is = eq-eqb d e (sym (eqb-true c d h) ∙ eqb-true c e is)

-- where there is no sign nothing is one of them
no_sign_in : (signs : List ℕ) (e : ℕ) → list_all (λ _. false) signs ≡ true → list_any (λ d. d == e) signs ≡ false
no_sign_in [] e h = refl
no_sign_in (c ∷ signs) e h = absurd (false≢true h)

-- no punctuation character is in two disjoint sets
signs_apart_sound : (s t : Signs) (e : ℕ) → signs_apart s t ≡ true → sign_in s e ≡ true → sign_in t e ≡ false
signs_apart_sound (these_signs signs) (these_signs more) e h is = fails_everywhere (λ c d. not (c == d)) (λ c. c == e) (λ d. d == e) (sign_apart e) signs more h is
signs_apart_sound (these_signs signs) all_signs e h is = absurd (both_ways (list_any (λ d. d == e) signs) (no_sign_in signs e h) is)
signs_apart_sound all_signs (these_signs more) e h is = no_sign_in more e h
signs_apart_sound all_signs all_signs e h is = absurd (false≢true h)

-- each punctuation character of a subset is in the larger set
signs_within_sound : (s t : Signs) (e : ℕ) → signs_within s t ≡ true → sign_in s e ≡ true → sign_in t e ≡ true
signs_within_sound (these_signs signs) (these_signs more) e h is = holds_too ◌==◌ (λ c. c == e) (λ d. d == e) (sign_alike e) signs more h is
signs_within_sound (these_signs signs) all_signs e h is = refl
signs_within_sound all_signs (these_signs more) e h is = absurd (false≢true h)
signs_within_sound all_signs all_signs e h is = refl

-- ---- sets

-- the sets have no token in common
unfoldable pub are_disjoint : TokenSet → TokenSet → Bool
are_disjoint s t =
    words_apart s.words t.words && (not (s.lifetimes && t.lifetimes) && (literals_apart s.literals t.literals && signs_apart s.signs t.signs))

-- each token of the first set is in the other
unfoldable pub is_within : TokenSet → TokenSet → Bool
is_within s t =
    words_within s.words t.words && ((not s.lifetimes || t.lifetimes) && (literals_within s.literals t.literals && signs_within s.signs t.signs))

-- the four parts of such a test
parts_of : (a b c d : Bool) → (a && (b && (c && d))) ≡ true → (a ≡ true) × (b ≡ true) × (c ≡ true) × (d ≡ true)
parts_of true true c d h = let parts = and_parts c d h in (refl, refl, parts.0, parts.1)
parts_of true false c d h = absurd (false≢true h)
parts_of false b c d h = absurd (false≢true h)

-- what sets without a common token are part by part
disjoint_parts : (s t : TokenSet) → are_disjoint s t ≡ true
    → (words_apart s.words t.words ≡ true) × (not (s.lifetimes && t.lifetimes) ≡ true) × (literals_apart s.literals t.literals ≡ true) × (signs_apart s.signs t.signs ≡ true)
unfolding are_disjoint
disjoint_parts s t h = parts_of (words_apart s.words t.words) (not (s.lifetimes && t.lifetimes)) (literals_apart s.literals t.literals) (signs_apart s.signs t.signs) h

-- what a set within another is part by part
within_parts : (s t : TokenSet) → is_within s t ≡ true
    → (words_within s.words t.words ≡ true) × ((not s.lifetimes || t.lifetimes) ≡ true) × (literals_within s.literals t.literals ≡ true) × (signs_within s.signs t.signs ≡ true)
unfolding is_within
within_parts s t h = parts_of (words_within s.words t.words) (not s.lifetimes || t.lifetimes) (literals_within s.literals t.literals) (signs_within s.signs t.signs) h

-- A token of the first set isn't in the other.
pub disjoint_sound : (s t : TokenSet) (k : TokenKind) (text : List ℕ) → are_disjoint s t ≡ true → token_in s k text ≡ true → token_in t k text ≡ false
disjoint_sound s t kind.Ident text h is = words_apart_sound s.words t.words text (disjoint_parts s t h).0 is
disjoint_sound s t kind.Lifetime text h is = not_both s.lifetimes t.lifetimes (disjoint_parts s t h).1 is
disjoint_sound s t (kind.Literal l) text h is = literals_apart_sound s.literals t.literals l (disjoint_parts s t h).2 is
disjoint_sound s t (kind.Punct c joint) text h is = signs_apart_sound s.signs t.signs c (disjoint_parts s t h).3 is
disjoint_sound s t (kind.Start b) text h is = refl
disjoint_sound s t (kind.Stop b) text h is = refl
disjoint_sound s t kind.Doc text h is = refl

-- A token of the first set is in the other.
pub within_sound : (s t : TokenSet) (k : TokenKind) (text : List ℕ) → is_within s t ≡ true → token_in s k text ≡ true → token_in t k text ≡ true
within_sound s t kind.Ident text h is = words_within_sound s.words t.words text (within_parts s t h).0 is
within_sound s t kind.Lifetime text h is = implied s.lifetimes t.lifetimes (within_parts s t h).1 is
  where
    implied : (a b : Bool) → (not a || b) ≡ true → a ≡ true → b ≡ true
    implied true b h one = h
    implied false b h one = absurd (false≢true one)
within_sound s t (kind.Literal l) text h is = literals_within_sound s.literals t.literals l (within_parts s t h).2 is
within_sound s t (kind.Punct c joint) text h is = signs_within_sound s.signs t.signs c (within_parts s t h).3 is
within_sound s t (kind.Start b) text h is = absurd (false≢true is)
within_sound s t (kind.Stop b) text h is = absurd (false≢true is)
within_sound s t kind.Doc text h is = absurd (false≢true is)
