-- Words as identifiers, and identifiers without `r#`, which are words.
use Rattle.std.proofs.Common.{◌≡◌, ℕ, ⊎_elim, ◌&&◌, true, false, IsTrue, List, [], ◌∷◌, ◌++◌, refl, sym, ap, ◌∙◌, subst, arith}
use Rattle.std.specs.Prelude.{◌==◌}
use Rattle.std.specs.List.{list_all}
use Rattle.std.proofs.lemmas.Bool.{and_parts, and_from, and_right, or_left, cond-false, ne_eqb, false≢true}
use Rattle.std.proofs.lemmas.List.Folds.{list_all-append}
use Rattle.unicode_ident.specs.Ident.{is_xid_continue}
use Rattle.unicode_ident.proofs.IdentLemmas.{is_xid_continue-ascii}
use Rattle.educe_tokens_pieces.proofs.Classes.{word_continues}
use Rattle.educe_tokens_scan.proofs.SpellLaws.{spells_sound}
use Rattle.educe_tokens.specs.TokenKind.TheVariants.{Ident}
use Rattle.educe_tokens.specs.Chars.{is_word_start}
use Rattle.educe_tokens.specs.Pieces.{spells}
use Rattle.educe_tokens.specs.Spells.{IsWord}
use Rattle.educe_tree.specs.Names.{unraw}

-- ---- words

-- all of a word goes on with a word
pub all_continue : (text : List ℕ) → IsWord text → list_all is_xid_continue text ≡ true
all_continue text word = ap (list_all is_xid_continue) word.is ∙ and_from (is_xid_continue word.first) (list_all is_xid_continue word.more) (word_continues word.first word.starts) word.continues

-- a word spells an identifier
pub word_spells : (text : List ℕ) → IsWord text → IsTrue (spells Ident text)
word_spells text word = ap (spells Ident) word.is ∙ or_left _ _ (and_from (is_word_start word.first) (list_all is_xid_continue word.more) word.starts word.continues)

-- a word, and what goes on with it, are one
pub longer_word : (word rest : List ℕ) → IsWord word → list_all is_xid_continue rest ≡ true → IsWord (word ++ rest)
longer_word word rest own more = record {
  first = own.first;
  more = own.more ++ rest;
  is = ap (λ w. w ++ rest) own.is;
  starts = own.starts;
  continues = list_all-append is_xid_continue own.more rest ∙ and_from _ _ own.continues more;
}

-- ---- names without `r#`

-- a text of characters that go on with a word has no `r#`
pub unraw_run : (text : List ℕ) → list_all is_xid_continue text ≡ true → unraw text ≡ text
unraw_run [] h = refl
unraw_run (c ∷ []) h = refl
unraw_run (c ∷ d ∷ cs) h =
    let goes : is_xid_continue d ≡ true = (and_parts (is_xid_continue d) _ (and_parts (is_xid_continue c) _ h).1).0 in
    let other : (d == 35) ≡ false = ne_eqb d 35 (λ e. false≢true (sym (is_xid_continue-ascii 35 (omega arith)) ∙ ap is_xid_continue (sym e) ∙ goes)) in
    cond-false ((c == 114) && (d == 35)) cs (c ∷ d ∷ cs) (and_right (c == 114) (d == 35) other)

-- a word has no `r#`
pub unraw_word : (text : List ℕ) → IsWord text → unraw text ≡ text
unraw_word text word = unraw_run text (all_continue text word)

-- an identifier without `r#` is a word
pub plain_is_word : (text : List ℕ) → IsTrue (spells Ident text) → IsWord (unraw text)
plain_is_word text h =
    ⊎_elim (λ word. subst IsWord (sym (unraw_word text word)) word) (λ raw. subst (λ t. IsWord (unraw t)) (sym raw.is) raw.own) (spells_sound Ident text h)
