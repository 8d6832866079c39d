-- The steps of the evaluator's loops.
use Rattle.std.proofs.Common.{Bor, chars, ◌≡◌, ℕ, zero, suc, ◌+◌, ◌<◌, ◌≤◌, ◌&&◌, Bool, true, false, List, [], ◌∷◌, ◌++◌, Option, Some, None, map, drop, get_or, length, refl, ap, arith, sym, ◌∙◌}
use Rattle.std.specs.Prelude.{codes, if◌then◌else◌}
use Rattle.std.specs.Cmp.Lexicographic.{pointwise}
use Rattle.std.specs.Option.{option_map}
use Rattle.std.specs.Str.{bytes_eq}
use Rattle.std.proofs.lemmas.List.{drop_more}
use Rattle.educe_tree.specs.TokenLaws.{ascii_chars}
use Rattle.educe_tokens.specs.declared.token.Token.{Token}
use Rattle.educe_tokens.specs.declared.word.Word.{Word}
use Rattle.educe_tree.specs.declared.data.Field.{Field}
use Rattle.educe_body_values.specs.declared.value.FieldValue.{FieldValue}
use Rattle.educe_body_values.specs.declared.environment.Referent.{Referent}
use Rattle.educe_body_values.specs.declared.environment.Referent.TheVariants.{This}
use Rattle.educe_body_values.specs.declared.environment.Binding.{Binding}
use Rattle.educe_body_values.specs.Callees.{path_of, spellings, segment_is}
use Rattle.educe_body_forms.specs.Keys.{key_of, keys_from}
use Rattle.educe_body_values.specs.Meaning.{part_of, place_named, first_bindings, all_bound, param_referent}

and-false : (b : Bool) → (b && false) ≡ false
and-false true = refl
and-false false = refl

is_path-short : (tokens : List Token) (word : List ℕ) (words : List (List ℕ)) → length tokens < 3 → pointwise bytes_eq (spellings tokens) (path_of (word ∷ words)) ≡ false
is_path-short [] word words short = refl
is_path-short (a ∷ []) word words short = and-false (bytes_eq a.spelling (codes ":"))
is_path-short (a ∷ b ∷ []) word words short =
    ap (λ (t : Bool). bytes_eq a.spelling (codes ":") && t) (and-false (bytes_eq b.spelling (codes ":"))) ∙ and-false (bytes_eq a.spelling (codes ":"))
is_path-short (a ∷ b ∷ c ∷ more) word words short = absurd (omega arith)

-- fewer than three tokens are no path of one word or more
pub path_of-short : (tokens : List Token) (words : List (Bor (List ℕ))) (i : ℕ) → length tokens < 3 → i < length words
    → pointwise bytes_eq (spellings tokens) (path_of (map (λ word. chars word.now) (drop i words))) ≡ false
path_of-short tokens words i short inside =
    let none : Bor (List ℕ) = record { ref_ptr = (0, 0); now = [] } in
    rw (drop_more words i none inside)
    (is_path-short tokens (chars (get_or words i none).now) (map (λ word. chars word.now) (drop (i + 1) words)) short)

-- four tests in a row are three and one
four_tests : (p q r s : Bool) → (p && (q && (r && s))) ≡ ((p && q && r) && s)
four_tests true true true s = refl
four_tests true true false s = refl
four_tests true false r s = refl
four_tests false q r s = refl

is_path-step : (tokens : List Token) (word : List ℕ) (words : List (List ℕ)) (a b c : Token) → 3 ≤ length tokens
    → a ≡ get_or tokens 0 a → b ≡ get_or tokens 1 b → c ≡ get_or tokens 2 c
    → pointwise bytes_eq (spellings tokens) (path_of (word ∷ words)) ≡ (segment_is a b c word && pointwise bytes_eq (spellings (drop 3 tokens)) (path_of words))
is_path-step [] word words a b c long x y z = absurd (omega arith)
is_path-step (t ∷ []) word words a b c long x y z = absurd (omega arith)
is_path-step (t ∷ u ∷ []) word words a b c long x y z = absurd (omega arith)
is_path-step (t ∷ u ∷ v ∷ more) word words a b c long x y z =
    four_tests (bytes_eq t.spelling (codes ":")) (bytes_eq u.spelling (codes ":")) (bytes_eq v.spelling word) (pointwise bytes_eq (spellings more) (path_of words))
    ∙ (λ i. segment_is (sym x i) (sym y i) (sym z i) word && pointwise bytes_eq (spellings more) (path_of words))

-- three tokens are a path of more words where they are the first of these and the rest is a path of the others
pub path_of-step : (tokens : List Token) (words : List (Bor (List ℕ))) (i : ℕ) (a b c : Token) → 3 ≤ length tokens → i < length words
    → a ≡ get_or tokens 0 a → b ≡ get_or tokens 1 b → c ≡ get_or tokens 2 c
    → pointwise bytes_eq (spellings tokens) (path_of (map (λ word. chars word.now) (drop i words)))
    ≡ (segment_is a b c (chars (get_or words i (record { ref_ptr = (0, 0); now = [] })).now)
    && pointwise bytes_eq (spellings (drop 3 tokens)) (path_of (map (λ word. chars word.now) (drop (i + 1) words))))
path_of-step tokens words i a b c long inside x y z =
    let none : Bor (List ℕ) = record { ref_ptr = (0, 0); now = [] } in
    rw (drop_more words i none inside)
    (is_path-step tokens (chars (get_or words i none).now) (map (λ word. chars word.now) (drop (i + 1) words)) a b c long x y z)

-- no value has a key
pub part_of-nil : (keys : List (List ℕ)) (key : List ℕ) → part_of keys [] key ≡ None
part_of-nil [] key = refl
part_of-nil (k ∷ keys) key = refl

-- a field of another key may be left out
pub part_of-drop : (fields : List Field) (values : List FieldValue) (key : List ℕ) (start i at more : ℕ) (field : Field)
    → at ≡ start + i → more ≡ at + 1 → i < length fields → bytes_eq (key_of at (get_or fields i field)) key ≡ false
    → part_of (keys_from more (drop (suc i) fields)) (drop (suc i) values) key ≡ part_of (keys_from at (drop i fields)) (drop i values) key
part_of-drop [] values key start i at more field here next inside differs = absurd (omega arith)
part_of-drop (f ∷ fields) [] key start zero at more field here next inside differs = part_of-nil (keys_from more fields) key
part_of-drop (f ∷ fields) (x ∷ values) key start zero at more field here next inside differs =
    rw differs (ap (λ n. part_of (keys_from n fields) values key) next)
part_of-drop (f ∷ fields) [] key start (suc i) at more field here next inside differs =
    part_of-nil (keys_from more (drop (suc i) fields)) key ∙ sym (part_of-nil (keys_from at (drop i fields)) key)
part_of-drop (f ∷ fields) (x ∷ values) key start (suc i) at more field here next inside differs =
    part_of-drop fields values key (start + 1) i at more field (omega arith) next (omega arith) differs

-- a place in what is left of a list, counted from where that begins
abbrev pub counted_from : ℕ → Option ℕ → Option ℕ
counted_from start found = option_map (λ place. start + place) found

-- from the beginning it is the place itself
pub counted_from-zero : (found : Option ℕ) → counted_from 0 found ≡ found
counted_from-zero None = refl
counted_from-zero (Some place) = ap Some (omega arith)

-- from one item further on
pub counted_from-next : (start : ℕ) (found : Option ℕ) → counted_from (start + 1) found ≡ counted_from start (option_map (λ place. place + 1) found)
counted_from-next start None = refl
counted_from-next start (Some place) = ap Some (omega arith)

-- the place of a key in what is left of the fields, by whether the next one has it
pub place_named-step : (fields : List Field) (i : ℕ) (field : Field) (key : List ℕ) (b : Bool) → i < length fields → field ≡ get_or fields i field → bytes_eq (key_of i field) key ≡ b
    → place_named (keys_from i (drop i fields)) key ≡ (if b then Some 0 else option_map (λ place. place + 1) (place_named (keys_from (i + 1) (drop (i + 1) fields)) key))
place_named-step fields i field key b inside is test =
    ap (λ (fields : List Field). place_named (keys_from i fields) key) (drop_more fields i field inside ∙ ap (λ (f : Field). f ∷ drop (i + 1) fields) (sym is))
    ∙ ap (λ (b : Bool). if b then Some 0 else option_map (λ place. place + 1) (place_named (keys_from (i + 1) (drop (i + 1) fields)) key)) test

abbrev bound_to : List ℕ → Referent → Binding
bound_to name referent = record { name = name; referent = referent }

self_name : chars (codes "self") ≡ codes "self"
self_name = ascii_chars (codes "self") refl

-- the bindings that `self` and the parameters make
pub first_bindings-made : (none one names : List Binding) (self : List ℕ) (params : List Word) (referent : Referent) → none ≡ [] → self ≡ chars (codes "self") → one ≡ none ++ bound_to self This ∷ []
    → referent ≡ param_referent params → names ≡ one ++ all_bound referent params → names ≡ first_bindings params
first_bindings-made none one names self params referent empty text made is added =
    let start : one ≡ bound_to (codes "self") This ∷ [] = made ∙ ap (λ (bs : List Binding). bs ++ bound_to self This ∷ []) empty ∙ ap (λ (name : List ℕ). bound_to name This ∷ []) (text ∙ self_name) in
    added ∙ ap (λ (bs : List Binding). bs ++ all_bound referent params) start ∙ ap (λ (referent : Referent). bound_to (codes "self") This ∷ all_bound referent params) is
