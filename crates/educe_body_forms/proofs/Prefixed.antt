-- A prefix and the key of a field behind it are one identifier.
use Rattle.std.proofs.Common.{◌≡◌, ℕ, ◌<◌, ◌^◌, true, IsTrue, List, [], ◌∷◌, ◌++◌, refl, ◌∙◌, arith}
use Rattle.std.specs.Char.{digit_value}
use Rattle.std.specs.Fmt.{decimal}
use Rattle.std.specs.Int.{IsInRange}
use Rattle.std.specs.List.{list_all}
use Rattle.std.specs.Str.Parse.{AllDigits}
use Rattle.std.proofs.lemmas.Bool.{and_from}
use Rattle.std.proofs.lemmas.Bool.Decides.{nat_tests}
use Rattle.std.proofs.lemmas.Fmt.{decimal_is_IsNumeral}
use Rattle.std.proofs.lemmas.Str.Parse.{digit_from_value}
use Rattle.unicode_ident.specs.Ident.{is_xid_continue}
use Rattle.unicode_ident.proofs.IdentLemmas.{is_xid_continue-ascii}
use Rattle.educe_tokens.specs.TokenKind.TheVariants.{Ident}
use Rattle.educe_tokens.specs.Pieces.{spells}
use Rattle.educe_tokens.specs.Spells.{IsWord}
use Rattle.educe_tree.specs.Names.{unraw}
use Rattle.educe_names.proofs.PlainNames.{all_continue, longer_word, plain_is_word, unraw_run, word_spells}

-- a digit goes on with a word
digit_continues : (c : ℕ) → digit_value c < 10 → is_xid_continue c ≡ true
digit_continues c h =
    let range : IsInRange 48 57 c = digit_from_value c h in
    let small : c < 128 = omega arith in
    is_xid_continue-ascii c small ∙ grind (arith, nat_tests)

digits_continue : (digits : List ℕ) → AllDigits 10 digits → list_all is_xid_continue digits ≡ true
digits_continue [] h = refl
digits_continue (c ∷ cs) h = and_from _ _ (digit_continues c h.0) (digits_continue cs h.1)

-- the decimal digits of a place go on with a word
decimal_continues : (n : ℕ) → n < 2 ^ 64 → list_all is_xid_continue (decimal n) ≡ true
decimal_continues n small = digits_continue (decimal n) (decimal_is_IsNumeral n small).0.1

-- which have no `r#`
pub unraw_decimal : (n : ℕ) → n < 2 ^ 64 → unraw (decimal n) ≡ decimal n
unraw_decimal n small = unraw_run (decimal n) (decimal_continues n small)

-- a prefix and a name without `r#` are an identifier
pub name_spells : (prefix name : List ℕ) → IsWord prefix → IsTrue (spells Ident name) → IsTrue (spells Ident (prefix ++ unraw name))
name_spells prefix name own h = word_spells (prefix ++ unraw name) (longer_word prefix (unraw name) own (all_continue (unraw name) (plain_is_word name h)))

-- a prefix and the decimal digits of a place are one
pub index_spells : (prefix : List ℕ) (n : ℕ) → IsWord prefix → n < 2 ^ 64 → IsTrue (spells Ident (prefix ++ decimal n))
index_spells prefix n own small = word_spells (prefix ++ decimal n) (longer_word prefix (decimal n) own (decimal_continues n small))
