-- A table of paths whose words are ASCII.
use Rattle.std.proofs.Common.{◌≡◌, ◌∙◌, ℕ, zero, suc, ◌<◌, length, get_or, ◌&&◌, Bor, Bool, true, List, [], ◌∷◌, Option, Some, None, map, chars, refl, ap, arith}
use Rattle.std.specs.Prelude.{if◌then◌else◌}
use Rattle.std.specs.Char.{is_ascii}
use Rattle.std.specs.Cmp.Lexicographic.{pointwise}
use Rattle.std.specs.List.{list_all}
use Rattle.std.specs.Str.{bytes_eq}
use Rattle.std.proofs.lemmas.Bool.{and_parts}
use Rattle.std.proofs.lemmas.Bool.Decides.{nat_tests}
use Rattle.educe_body_values.specs.declared.callee.BuiltIn.{BuiltIn}
use Rattle.educe_body_values.specs.Callees.{first_named, path_of, texts, are_ascii}
use Rattle.educe_tree.specs.TokenLaws.{ascii_chars}

abbrev pub table_ascii : List (List (Bor (List ℕ)) × BuiltIn) → Bool
table_ascii [] = true
table_ascii (known ∷ more) = are_ascii known.0 && table_ascii more

-- the function of the first path of the table, whose words are taken as they stand
abbrev pub first_with : List (List (Bor (List ℕ)) × BuiltIn) → List (List ℕ) → Option BuiltIn
first_with [] path = None
first_with (known ∷ more) path = if pointwise bytes_eq path (path_of (texts known.0)) then Some known.1 else first_with more path

map_chars-texts : (words : List (Bor (List ℕ))) → are_ascii words ≡ true → map (λ word. chars word.now) words ≡ texts words
map_chars-texts [] ascii = refl
map_chars-texts (word ∷ words) ascii =
    let here = ascii_chars word.now (grind (arith, nat_tests)) in
    let rest = map_chars-texts words (grind (arith, nat_tests)) in
    ap (λ (text : List ℕ). text ∷ map (λ word. chars word.now) words) here ∙ ap (λ (more : List (List ℕ)). word.now ∷ more) rest

-- the characters of ASCII words are their bytes; at a literal table the premise is `refl`
pub first_named-ascii : (known : List (List (Bor (List ℕ)) × BuiltIn)) (path : List (List ℕ)) → table_ascii known ≡ true → first_named known path ≡ first_with known path
unfolding first_named
first_named-ascii [] path ascii = refl
first_named-ascii (known ∷ more) path ascii =
    let here = map_chars-texts known.0 (grind (arith, nat_tests)) in
    let rest = first_named-ascii more path (grind (arith, nat_tests)) in
    ap (λ (words : List (List ℕ)). if pointwise bytes_eq path (path_of words) then Some known.1 else first_named more path) here
    ∙ ap (λ (other : Option BuiltIn). if pointwise bytes_eq path (path_of (texts known.0)) then Some known.1 else other) rest

-- a word of ASCII words is ASCII
pub ascii_at : (words : List (Bor (List ℕ))) (i : ℕ) (d : Bor (List ℕ)) → are_ascii words ≡ true → i < length words → list_all is_ascii (get_or words i d).now ≡ true
ascii_at [] i d ascii inside = absurd (omega arith)
ascii_at (w ∷ words) zero d ascii inside = (and_parts _ _ ascii).0
ascii_at (w ∷ words) (suc i) d ascii inside = ascii_at words i d (and_parts _ _ ascii).1 (omega arith)
