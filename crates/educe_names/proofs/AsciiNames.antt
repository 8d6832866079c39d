-- An ASCII identifier is a word.
use Rattle.std.proofs.Common.{◌≡◌, ℕ, ◌<◌, true, ◌||◌, IsTrue, List, [], ◌∷◌, refl, ap, ◌∙◌, arith, chars}
use Rattle.std.specs.Prelude.{◌==◌}
use Rattle.std.specs.Char.{is_ascii}
use Rattle.std.specs.List.{list_all}
use Rattle.std.proofs.lemmas.Bool.{and_parts, and_from, false≢true}
use Rattle.std.proofs.lemmas.Bool.Decides.{nat_tests}
use Rattle.unicode_ident.specs.Ident.{is_xid_continue}
use Rattle.unicode_ident.proofs.IdentLemmas.{is_xid_start-ascii, is_xid_continue-ascii}
use Rattle.educe_tokens.specs.Chars.{is_word_start}
use Rattle.educe_tokens.specs.Quote.{is_name_start, is_name_part, is_ascii_name}
use Rattle.educe_tokens.specs.Spells.{IsWord}
use Rattle.educe_tree.specs.TokenLaws.{ascii_chars}

part_small : (c : ℕ) → is_name_part c ≡ true → c < 128
part_small c h = grind (arith, nat_tests)

part_ascii : (c : ℕ) → is_name_part c ≡ true → is_ascii c ≡ true
part_ascii c h = grind (arith, nat_tests)

start_part : (c : ℕ) → is_name_start c ≡ true → is_name_part c ≡ true
start_part c h = grind (arith, nat_tests)

starts : (c : ℕ) → is_name_start c ≡ true → is_word_start c ≡ true
starts c h = ap (λ b. b || (c == 95)) (is_xid_start-ascii c (part_small c (start_part c h))) ∙ h

continue : (cs : List ℕ) → list_all is_name_part cs ≡ true → list_all is_xid_continue cs ≡ true
continue [] h = refl
continue (c ∷ cs) h =
    let parts = and_parts (is_name_part c) (list_all is_name_part cs) h in
    and_from (is_xid_continue c) (list_all is_xid_continue cs) (is_xid_continue-ascii c (part_small c parts.0) ∙ parts.0) (continue cs parts.1)

are_ascii : (cs : List ℕ) → list_all is_name_part cs ≡ true → list_all is_ascii cs ≡ true
are_ascii [] h = refl
are_ascii (c ∷ cs) h =
    let parts = and_parts (is_name_part c) (list_all is_name_part cs) h in
    and_from (is_ascii c) (list_all is_ascii cs) (part_ascii c parts.0) (are_ascii cs parts.1)

pub ascii_is_word : (name : List ℕ) → IsTrue (is_ascii_name name) → IsWord (chars name)
ascii_is_word [] h = absurd (false≢true h)
ascii_is_word (c ∷ cs) h =
    let parts = and_parts (is_name_start c) (list_all is_name_part cs) h in
    let ascii = and_from (is_ascii c) (list_all is_ascii cs) (part_ascii c (start_part c parts.0)) (are_ascii cs parts.1) in record {
      first = c;
      more = cs;
      is = ascii_chars (c ∷ cs) ascii;
      starts = starts c parts.0;
      continues = continue cs parts.1;
    }
