-- What the kind of a token can't be at once.
use Rattle.std.proofs.Common.{◌≡◌, ℕ, true, false, ◌==◌, List, [], ◌∷◌, refl, sym, ◌∙◌}
use Rattle.std.proofs.lemmas.Bool.{false≢true, and_parts, or_left, eqb-true, eq-eqb}
use Rattle.educe_tokens.specs.TokenKind.{TokenKind}
use Rattle.educe_tokens.specs.TokenKind.TheVariants as kind
use Rattle.educe_tokens.specs.Bracket.{Bracket}
use Rattle.educe_tokens.specs.Bracket.TheVariants.{Round, Square, Curly}
use Rattle.educe_tokens.specs.Brackets.{same_bracket}
use Rattle.educe_grammar.specs.Terminals.{TokenSet, only_signs, token_in}
use Rattle.educe_grammar.specs.Ahead.{is_sign, is_joint, is_start, is_stop, is_doc}

-- ---- signs and brackets

-- a token is one sign only
pub one_sign : (c d : ℕ) (k : TokenKind) → is_sign c k ≡ true → is_sign d k ≡ true → c ≡ d
one_sign c d (kind.Punct e joint) first second = sym (eqb-true e c first) ∙ eqb-true e d second
one_sign c d kind.Ident first second = absurd (false≢true first)
one_sign c d kind.Lifetime first second = absurd (false≢true first)
one_sign c d (kind.Literal l) first second = absurd (false≢true first)
one_sign c d (kind.Start b) first second = absurd (false≢true first)
one_sign c d (kind.Stop b) first second = absurd (false≢true first)
one_sign c d kind.Doc first second = absurd (false≢true first)

-- a joint sign is that sign
pub joint_sign : (c : ℕ) (k : TokenKind) → is_joint c k ≡ true → is_sign c k ≡ true
joint_sign c (kind.Punct e joint) h = (and_parts (e == c) joint h).0
joint_sign c kind.Ident h = absurd (false≢true h)
joint_sign c kind.Lifetime h = absurd (false≢true h)
joint_sign c (kind.Literal l) h = absurd (false≢true h)
joint_sign c (kind.Start b) h = absurd (false≢true h)
joint_sign c (kind.Stop b) h = absurd (false≢true h)
joint_sign c kind.Doc h = absurd (false≢true h)

-- a sign is in the set of that sign
pub sign_token : (c : ℕ) (k : TokenKind) (text : List ℕ) → is_sign c k ≡ true → token_in (only_signs (c ∷ [])) k text ≡ true
sign_token c (kind.Punct e joint) text h = or_left (c == e) false (eq-eqb c e (sym (eqb-true e c h)))
sign_token c kind.Ident text h = absurd (false≢true h)
sign_token c kind.Lifetime text h = absurd (false≢true h)
sign_token c (kind.Literal l) text h = absurd (false≢true h)
sign_token c (kind.Start b) text h = absurd (false≢true h)
sign_token c (kind.Stop b) text h = absurd (false≢true h)
sign_token c kind.Doc text h = absurd (false≢true h)

-- brackets that are tested alike are one
pub bracket_is : (b c : Bracket) → same_bracket b c ≡ true → b ≡ c
bracket_is Round Round h = refl
bracket_is Round Square h = absurd (false≢true h)
bracket_is Round Curly h = absurd (false≢true h)
bracket_is Square Round h = absurd (false≢true h)
bracket_is Square Square h = refl
bracket_is Square Curly h = absurd (false≢true h)
bracket_is Curly Round h = absurd (false≢true h)
bracket_is Curly Square h = absurd (false≢true h)
bracket_is Curly Curly h = refl

-- a token of a set is no bracket and no documentation
pub no_start : (s : TokenSet) (b : Bracket) (k : TokenKind) (text : List ℕ) → token_in s k text ≡ true → is_start b k ≡ false
no_start s b (kind.Start c) text h = absurd (false≢true h)
no_start s b (kind.Stop c) text h = refl
no_start s b kind.Ident text h = refl
no_start s b kind.Lifetime text h = refl
no_start s b (kind.Literal l) text h = refl
no_start s b (kind.Punct c joint) text h = refl
no_start s b kind.Doc text h = refl

-- a token of a set is no closing bracket
pub no_stop : (s : TokenSet) (b : Bracket) (k : TokenKind) (text : List ℕ) → token_in s k text ≡ true → is_stop b k ≡ false
no_stop s b (kind.Start c) text h = refl
no_stop s b (kind.Stop c) text h = absurd (false≢true h)
no_stop s b kind.Ident text h = refl
no_stop s b kind.Lifetime text h = refl
no_stop s b (kind.Literal l) text h = refl
no_stop s b (kind.Punct c joint) text h = refl
no_stop s b kind.Doc text h = refl

-- a token of a set is no documentation
pub no_doc : (s : TokenSet) (k : TokenKind) (text : List ℕ) → token_in s k text ≡ true → is_doc k ≡ false
no_doc s (kind.Start c) text h = refl
no_doc s (kind.Stop c) text h = refl
no_doc s kind.Ident text h = refl
no_doc s kind.Lifetime text h = refl
no_doc s (kind.Literal l) text h = refl
no_doc s (kind.Punct c joint) text h = refl
no_doc s kind.Doc text h = absurd (false≢true h)

-- a bracket that opens closes none
pub start_no_stop : (b c : Bracket) (k : TokenKind) → is_start b k ≡ true → is_stop c k ≡ false
start_no_stop b c (kind.Start d) h = refl
start_no_stop b c (kind.Stop d) h = absurd (false≢true h)
start_no_stop b c kind.Ident h = refl
start_no_stop b c kind.Lifetime h = refl
start_no_stop b c (kind.Literal l) h = refl
start_no_stop b c (kind.Punct d joint) h = refl
start_no_stop b c kind.Doc h = refl

-- an opening bracket is no documentation
pub start_no_doc : (b : Bracket) (k : TokenKind) → is_start b k ≡ true → is_doc k ≡ false
start_no_doc b (kind.Start d) h = refl
start_no_doc b (kind.Stop d) h = refl
start_no_doc b kind.Ident h = refl
start_no_doc b kind.Lifetime h = refl
start_no_doc b (kind.Literal l) h = refl
start_no_doc b (kind.Punct d joint) h = refl
start_no_doc b kind.Doc h = absurd (false≢true h)

-- a closing bracket is no documentation
pub stop_no_doc : (b : Bracket) (k : TokenKind) → is_stop b k ≡ true → is_doc k ≡ false
stop_no_doc b (kind.Start d) h = refl
stop_no_doc b (kind.Stop d) h = refl
stop_no_doc b kind.Ident h = refl
stop_no_doc b kind.Lifetime h = refl
stop_no_doc b (kind.Literal l) h = refl
stop_no_doc b (kind.Punct d joint) h = refl
stop_no_doc b kind.Doc h = absurd (false≢true h)

-- a token is one bracket only
pub one_start : (b c : Bracket) (k : TokenKind) → is_start b k ≡ true → is_start c k ≡ true → b ≡ c
one_start b c (kind.Start d) first second = bracket_is b d first ∙ sym (bracket_is c d second)
one_start b c (kind.Stop d) first second = absurd (false≢true first)
one_start b c kind.Ident first second = absurd (false≢true first)
one_start b c kind.Lifetime first second = absurd (false≢true first)
one_start b c (kind.Literal l) first second = absurd (false≢true first)
one_start b c (kind.Punct d joint) first second = absurd (false≢true first)
one_start b c kind.Doc first second = absurd (false≢true first)

-- whether it opens or closes
pub one_stop : (b c : Bracket) (k : TokenKind) → is_stop b k ≡ true → is_stop c k ≡ true → b ≡ c
one_stop b c (kind.Stop d) first second = bracket_is b d first ∙ sym (bracket_is c d second)
one_stop b c (kind.Start d) first second = absurd (false≢true first)
one_stop b c kind.Ident first second = absurd (false≢true first)
one_stop b c kind.Lifetime first second = absurd (false≢true first)
one_stop b c (kind.Literal l) first second = absurd (false≢true first)
one_stop b c (kind.Punct d joint) first second = absurd (false≢true first)
one_stop b c kind.Doc first second = absurd (false≢true first)

-- a bracket is like itself
pub same_bracket_refl : (b : Bracket) → same_bracket b b ≡ true
same_bracket_refl Round = refl
same_bracket_refl Square = refl
same_bracket_refl Curly = refl
