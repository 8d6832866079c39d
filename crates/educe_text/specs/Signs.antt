-- What is known of the first tokens of a list.
use Rattle.std.specs.Prelude.{◌⊎◌, Bool, true, false, ◌&&◌, if◌then◌else◌, IsTrue, List, [], ◌∷◌}
use Rattle.std.specs.List.{list_all}
use Rattle.educe_tokens.specs.Lexes.{Lexeme, lexeme_of}
use Rattle.educe_text.specs.Prefixes.{Tokens, same_lexeme}

-- What is known of one token.
pub data Sign : Type 0 where
  -- it is this
  exactly : Lexeme → Sign
  -- it passes this test
  passing : (Lexeme → Bool) → Sign

-- The token is as the sign says.
abbrev pub passes : Sign → Lexeme → Bool
passes (exactly l) m = same_lexeme l m
passes (passing test) m = test m

-- The list begins with tokens as the signs say.
abbrev pub Matches : List Sign → Tokens → Type 0
Matches [] ts = Unit {0}
Matches (s ∷ ss) [] = ⊥
Matches (s ∷ ss) (t ∷ ts) = IsTrue (passes s (lexeme_of t)) × Matches ss ts

-- The list begins as one of these says.
abbrev pub MatchesOne : List (List Sign) → Tokens → Type 0
MatchesOne [] ts = ⊥
MatchesOne (ss ∷ more) ts = Matches ss ts ⊎ MatchesOne more ts

-- Each list that matches the signs begins with these tokens.
abbrev pub agrees : List Lexeme → List Sign → Bool
agrees [] ss = true
agrees (l ∷ ls) [] = false
agrees (l ∷ ls) (exactly m ∷ ss) = same_lexeme l m && agrees ls ss
agrees (l ∷ ls) (passing test ∷ ss) = false

-- No list that matches the signs begins with these tokens.
abbrev pub differs : List Lexeme → List Sign → Bool
differs [] ss = false
differs (l ∷ ls) [] = false
differs (l ∷ ls) (s ∷ ss) = if passes s l then differs ls ss else true

-- There is a sign, so no list that matches is empty.
abbrev pub is_sign : List Sign → Bool
is_sign [] = false
is_sign (s ∷ ss) = true

-- ---- what may follow a part

-- What may follow a part that has a grammar of its own, so that the part ends there.
pub data Follower : Type 0 where
  -- any tokens, or none
  anything : Follower
  -- a token that passes this test
  only : (Lexeme → Bool) → Follower

-- The list may follow.
abbrev pub MayFollow : Follower → Tokens → Type 0
MayFollow anything ts = Unit {0}
MayFollow (only test) [] = ⊥
MayFollow (only test) (t ∷ ts) = IsTrue (test (lexeme_of t))

-- Each list that matches the signs begins with a token that passes.
abbrev pub begins_with : (Lexeme → Bool) → List Sign → Bool
begins_with test [] = false
begins_with test (exactly l ∷ ss) = test l
begins_with test (passing other ∷ ss) = false

-- Each list that matches one of these may follow.
abbrev pub may_follow : Follower → List (List Sign) → Bool
may_follow anything all = true
may_follow (only test) all = list_all (begins_with test) all
