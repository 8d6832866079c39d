-- What a name behind some `_` clashes with, and that it is a word.
use Rattle.std.proofs.Common.{◌≡◌, ◌≢◌, ℕ, zero, suc, ◌<◌, ◌&&◌, Bool, true, false, List, [], ◌∷◌, ◌++◌, length, refl, sym, ap, ◌∙◌, arith, chars}
use Rattle.std.specs.Prelude.{nat_eq}
use Rattle.std.specs.Str.{IsAscii}
use Rattle.std.proofs.lemmas.Bool.{and_right, or_right, eq-eqb, ne_eqb, eqb-true, eqb-false}
use Rattle.std.proofs.lemmas.Str.{chars-append, chars-IsAscii, IsUtf8-from_ascii}
use Rattle.std.proofs.lemmas.Str.Ascii.{IsAscii-nil, IsAscii-cons}
use Rattle.unicode_ident.specs.Ident.{is_xid_start}
use Rattle.educe_tokens.specs.TokenKind.TheVariants as kind
use Rattle.educe_tokens.specs.Chars.{is_word_start}
use Rattle.educe_tokens.specs.Pieces.{spells}
use Rattle.educe_tokens.specs.Spells.{IsWord}
use Rattle.educe_names.specs.declared.fewest.Clash.{Clash}
use Rattle.educe_names.specs.declared.fewest.Clash.TheVariants.{Whole, Front}
use Rattle.educe_names.specs.Chosen.{underscored, clash}
use Rattle.educe_names.proofs.PlainNames.{all_continue, word_spells}

-- ---- clashes

turned : (c d : ℕ) → nat_eq c d ≡ nat_eq d c
turned c d = split (nat_eq c d) refl
  where
    split : (b : Bool) → nat_eq c d ≡ b → nat_eq c d ≡ nat_eq d c
    split true h = h ∙ sym (eq-eqb d c (sym (eqb-true c d h)))
    split false h = h ∙ sym (ne_eqb d c (λ e. eqb-false c d h (sym e)))

-- a name behind one more `_` clashes with a word as the name does with the rest of it, if the word begins with `_`
clash_cons : (how : Clash) (c : ℕ) (cs name : List ℕ) (k : ℕ) → clash how (c ∷ cs) (underscored (suc k) name) ≡ (nat_eq c 95 && clash how cs (underscored k name))
clash_cons Whole c cs name k = refl
clash_cons Front c cs name k = ap (λ b. b && clash Front cs (underscored k name)) (turned 95 c)

clash_empty : (how : Clash) (name : List ℕ) (k : ℕ) → clash how [] (underscored (suc k) name) ≡ false
clash_empty Whole name k = refl
clash_empty Front name k = refl

-- behind `_` the rest of the word is compared with the name behind one less
pub clash_underscore : (how : Clash) (cs name : List ℕ) (k : ℕ) → clash how (95 ∷ cs) (underscored (suc k) name) ≡ clash how cs (underscored k name)
clash_underscore how cs name k = clash_cons how 95 cs name k

-- with a word that does not begin with `_` there is no clash
pub clash_other : (how : Clash) (word name : List ℕ) (k : ℕ) → ((more : List ℕ) → word ≢ 95 ∷ more) → clash how word (underscored (suc k) name) ≡ false
clash_other how [] name k none = clash_empty how name k
clash_other how (c ∷ cs) name k none =
    clash_cons how c cs name k ∙ ap (λ b. b && clash how cs (underscored k name)) (ne_eqb c 95 (λ e. none cs (ap (λ x. x ∷ cs) e)))

-- a word with fewer characters than the name has `_` does not clash
pub clash_long : (how : Clash) (word name : List ℕ) (k : ℕ) → length word < k → clash how word (underscored k name) ≡ false
clash_long how word name zero less = absurd (omega arith)
clash_long how [] name (suc k) less = clash_empty how name k
clash_long how (c ∷ cs) name (suc k) less = clash_cons how c cs name k ∙ and_right _ _ (clash_long how cs name k (omega arith))

-- ---- texts

-- one more `_` at the end of some
pub underscored_more : (k : ℕ) → underscored k [] ++ 95 ∷ [] ≡ underscored (suc k) []
underscored_more zero = refl
underscored_more (suc k) = ap (λ cs. 95 ∷ cs) (underscored_more k)

underscored-append : (k : ℕ) (xs : List ℕ) → underscored k [] ++ xs ≡ underscored k xs
underscored-append zero xs = refl
underscored-append (suc k) xs = ap (λ cs. 95 ∷ cs) (underscored-append k xs)

underscored-ascii : (k : ℕ) → IsAscii (underscored k [])
underscored-ascii zero = IsAscii-nil
underscored-ascii (suc k) = IsAscii-cons 95 (underscored k []) (omega arith) (underscored-ascii k)

-- the characters of a name behind some `_`
pub chars-underscored : (k : ℕ) (name : List ℕ) → chars (underscored k [] ++ name) ≡ underscored k (chars name)
chars-underscored k name =
    chars-append (underscored k []) name (IsUtf8-from_ascii (underscored k []) (underscored-ascii k))
    ∙ ap (λ cs. cs ++ chars name) (chars-IsAscii (underscored k []) (underscored-ascii k)) ∙ underscored-append k (chars name)

-- ---- names

underscore_starts : is_word_start 95 ≡ true
underscore_starts = or_right (is_xid_start 95) (nat_eq 95 95) refl

-- a word behind some `_` is a word
pub underscored_is_word : (k : ℕ) (name : List ℕ) → IsWord name → IsWord (underscored k name)
underscored_is_word zero name word = word
underscored_is_word (suc k) name word = record {
  first = 95;
  more = underscored k name;
  is = refl;
  starts = underscore_starts;
  continues = all_continue (underscored k name) (underscored_is_word k name word);
}

-- a word behind some `_` spells an identifier
pub underscored_spells : (k : ℕ) (name text : List ℕ) → text ≡ underscored k name → IsWord name → spells kind.Ident text ≡ true
underscored_spells k name text is word = ap (spells kind.Ident) is ∙ word_spells (underscored k name) (underscored_is_word k name word)
