-- First sets: how the texts of a rule may begin, and whether the lookaheads of a rule tell its cases apart.
use Rattle.std.specs.Prelude.{◌≡◌, ℕ, zero, suc, Bool, true, false, ◌&&◌, if◌then◌else◌, List, [], ◌∷◌, ◌++◌, length, map}
use Rattle.std.specs.List.{list_all, flat_map}
use Rattle.educe_tokens.specs.Lexes.{Lexeme}
use Rattle.educe_tokens.specs.Quote.{quoted}
use Rattle.educe_text.specs.Prefixes.{Tokens}
use Rattle.educe_text.specs.Signs.{Sign, exactly, MatchesOne, agrees, differs, is_sign, may_follow}
use Rattle.educe_text.specs.Rules.{Lookahead, begins, lacks, sees, TextRule, quote, leaf, both, made, checked, either, many, Spells}

-- For each number, what at most so many first tokens may be.
abbrev pub FirstSet : Type 0
FirstSet = ℕ → List (List Sign)

-- The list begins as the first set says.
abbrev pub BeginsIn : FirstSet → Tokens → Type 0
BeginsIn firsts ts = (n : ℕ) → MatchesOne (firsts n) ts

-- The first set of any list.
abbrev pub any_tokens : FirstSet
any_tokens n = [] ∷ []

-- The first set of these tokens and what follows.
unfoldable pub behind_lexemes : List Lexeme → FirstSet → FirstSet
behind_lexemes [] more n = more n
behind_lexemes (l ∷ ls) more zero = [] ∷ []
behind_lexemes (l ∷ ls) more (suc n) = map (λ ss. exactly l ∷ ss) (behind_lexemes ls more n)

-- The sign before each.
abbrev pub each_behind : List (List Sign) → Sign → List (List Sign)
each_behind all s = map (λ ss. s ∷ ss) all

-- The first set of a token of one of these signs; behind it follows what follows the part, if the part is one token.
abbrev pub behind_signs : List Sign → Bool → FirstSet → FirstSet
behind_signs signs single more zero = [] ∷ []
behind_signs signs single more (suc n) = flat_map (each_behind (if single then more n else [] ∷ [])) signs

-- The first set of the texts of a rule, given that of what follows.
unfoldable pub first_set : {A : Type 0} → TextRule A → FirstSet → FirstSet
first_set (quote text) more n = behind_lexemes (quoted text) more n
first_set (leaf l) more n = behind_signs l.firsts l.single more n
first_set (both g h) more n = first_set g (first_set h more) n
first_set (made f g) more n = first_set g more n
first_set (checked test g) more n = first_set g more n
first_set (either look g h) more n = first_set g more n ++ first_set h more n
first_set (many look g) more n = first_set g any_tokens n ++ more n

-- Each list that begins so begins with these tokens.
abbrev pub all_agree : List Lexeme → FirstSet → Bool
all_agree ls firsts = list_all (agrees ls) (firsts (length ls))

-- No list that begins so begins with these tokens.
abbrev pub all_differ : List Lexeme → FirstSet → Bool
all_differ ls firsts = list_all (differs ls) (firsts (length ls))

-- The lookahead holds of each list that begins as the one says, and of none that begins as the other says. Of a test nothing is
-- computed.
abbrev pub tells : Lookahead → FirstSet → FirstSet → Bool
tells (begins text) one other = all_agree (quoted text) one && all_differ (quoted text) other
tells (lacks text) one other = all_differ (quoted text) one && all_agree (quoted text) other
tells (sees test) one other = true

-- Where what follows begins so, each lookahead of the rule tells, each part may be followed by what follows it, and nothing that
-- is repeated is empty.
unfoldable pub decides : {A : Type 0} → TextRule A → FirstSet → Bool
decides (quote text) more = true
decides (leaf l) more = may_follow l.follower (more 1)
decides (both g h) more = decides g (first_set h more) && decides h more
decides (made f g) more = decides g more
decides (checked test g) more = decides g more
decides (either look g h) more = decides g more && (decides h more && tells look (first_set g more) (first_set h more))
decides (many look g) more =
    decides g (first_set (many look g) more) && (list_all is_sign (first_set g any_tokens 1) && tells look (first_set g any_tokens) more)

-- ---- lookaheads that are tests

-- The list begins with a text of the rule, and then with what may follow.
pub record IsAhead {A : Type 0} (g : TextRule A) (more : FirstSet) (tokens : Tokens) : Type 0 where
  pub front : Tokens
  pub rest : Tokens
  pub value : A
  pub same : tokens ≡ front ++ rest
  pub spells : Spells g front value
  pub follows : BeginsIn more rest

-- A lookahead that is a test holds of the lists of the one kind, and of none of the other.
abbrev pub IsTold : Lookahead → (Tokens → Type 0) → (Tokens → Type 0) → Type 0
IsTold (begins text) Yes No = Unit {0}
IsTold (lacks text) Yes No = Unit {0}
IsTold (sees test) Yes No = ((ts : Tokens) → Yes ts → test ts ≡ true) × ((ts : Tokens) → No ts → test ts ≡ false)

-- The lookaheads of the rule that are tests tell its cases apart.
unfoldable pub TestsTell : {A : Type 0} → TextRule A → FirstSet → Type 0
TestsTell (quote text) more = Unit {0}
TestsTell (leaf l) more = Unit {0}
TestsTell (both g h) more = TestsTell g (first_set h more) × TestsTell h more
TestsTell (made f g) more = TestsTell g more
TestsTell (checked test g) more = TestsTell g more
TestsTell (either look g h) more = TestsTell g more × TestsTell h more × IsTold look (IsAhead g more) (IsAhead h more)
TestsTell (many look g) more = TestsTell g (first_set (many look g) more) × IsTold look (IsAhead g any_tokens) (BeginsIn more)

-- The lookahead is no test.
abbrev pub is_plain : Lookahead → Bool
is_plain (begins text) = true
is_plain (lacks text) = true
is_plain (sees test) = false

-- No lookahead of the rule is a test.
unfoldable pub has_no_test : {A : Type 0} → TextRule A → Bool
has_no_test (quote text) = true
has_no_test (leaf l) = true
has_no_test (both g h) = has_no_test g && has_no_test h
has_no_test (made f g) = has_no_test g
has_no_test (checked test g) = has_no_test g
has_no_test (either look g h) = is_plain look && (has_no_test g && has_no_test h)
has_no_test (many look g) = is_plain look && has_no_test g
