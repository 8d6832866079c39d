-- Rules that begin with an opener, and rules each of whose levels does.
use Rattle.std.proofs.Common.{◌≡◌, ℕ, ◌==◌, Bool, true, false, ◌&&◌, ◌||◌, List, [], ◌∷◌, ◌++◌, refl, ap, sym, subst, inl, inr, codes}
use Rattle.std.specs.List.{list_any, list_all}
use Rattle.std.specs.Str.{bytes_eq}
use Rattle.educe_tokens.specs.Bracket.{Bracket}
use Rattle.educe_tokens.specs.TokenKind.{TokenKind}
use Rattle.educe_tokens.specs.TokenKind.TheVariants as kind
use Rattle.educe_tokens.specs.declared.token.Token.{Token}
use Rattle.educe_grammar.specs.declared.terminal.Keyword.{Keyword}
use Rattle.educe_grammar.specs.declared.terminal.Keyword.TheVariants.{As, Dyn}
use Rattle.educe_grammar.specs.declared.terminal.Terminal.{Terminal}
use Rattle.educe_grammar.specs.declared.terminal.Terminal.TheVariants as terminal
use Rattle.educe_grammar.specs.Terminals.{some_words, only_words, only_signs, token_in, accepts}
use Rattle.educe_grammar.specs.Steps.{Tokens}
use Rattle.educe_grammar.specs.Ahead as ahead
use Rattle.educe_grammar.specs.Ahead.{Ahead, begins, meets, Look, sees_any, sees, begins_pair, begins_lone, is_sign, is_start}
use Rattle.educe_grammar.specs.Depth.{opening_signs, is_opener}
use Rattle.educe_grammar.specs.Reading.{Parts, Parses, Linked}
use Rattle.educe_grammar.specs.Rules.{Rule, token, documentation, empty, both, made, checked, either, prefer, operator, lone, binary, nest, angles, under, arrow, list, many, chain, path, sliced, written, part}
use Rattle.educe_grammar.proofs.Beginnings.{both_hold, one_holds, eq_true, seen_front, sign_accepted, joint_sign, paired, loned, operated, opening}
use Rattle.educe_grammar.proofs.Balanced.{start_kind}

-- ---- tokens

-- the character is one that opens
abbrev pub opens_sign : ℕ → Bool
opens_sign c = list_any (λ d. d == c) opening_signs

-- each token that is asked for is an opener
abbrev pub opens_with : Terminal → Bool
opens_with (terminal.Word As) = true
opens_with (terminal.Word Dyn) = true
opens_with (terminal.Sign c) = opens_sign c
opens_with terminal.PrefixSign = true
opens_with asked = false

-- a character of a list of such is one
sign_opens : (signs : List ℕ) (c : ℕ) → list_all opens_sign signs ≡ true → list_any (λ d. d == c) signs ≡ true → opens_sign c ≡ true
sign_opens [] c all is = absurd (cc)
sign_opens (d ∷ signs) c all is =
    let parts = both_hold (opens_sign d) (list_all opens_sign signs) all in
    elim (one_holds (d == c) (list_any (λ d. d == c) signs) is) [
      | inl e ↦ subst (λ x. opens_sign x ≡ true) (eq_true d c e) parts.0
      | inr more ↦ sign_opens signs c parts.1 more
    ]

-- a punct of a list of such is an opener
signs_open : (signs : List ℕ) (k : TokenKind) (text : List ℕ) → list_all opens_sign signs ≡ true → token_in (only_signs signs) k text ≡ true → is_opener k text ≡ true
signs_open signs (kind.Punct c joint) text all is = sign_opens signs c all is
signs_open signs kind.Ident text all is = absurd (cc)
signs_open signs kind.Lifetime text all is = absurd (cc)
signs_open signs (kind.Literal l) text all is = absurd (cc)
signs_open signs (kind.Start b) text all is = absurd (cc)
signs_open signs (kind.Stop b) text all is = absurd (cc)
signs_open signs kind.Doc text all is = absurd (cc)

-- the words `as` and `dyn` are openers
word_opens : (word : Keyword) (k : TokenKind) (text : List ℕ) → opens_with (terminal.Word word) ≡ true → token_in (only_words (some_words false (word ∷ []))) k text ≡ true → is_opener k text ≡ true
word_opens As kind.Ident text opens is = first (bytes_eq (codes "as") text) (bytes_eq (codes "dyn") text) is
  where
    first : (a b : Bool) → (a || false) ≡ true → (a || b) ≡ true
    first true b h = refl
    first false b h = absurd (cc)
word_opens Dyn kind.Ident text opens is = second (bytes_eq (codes "as") text) (bytes_eq (codes "dyn") text) is
  where
    second : (a b : Bool) → (b || false) ≡ true → (a || b) ≡ true
    second true b h = refl
    second false true h = refl
    second false false h = absurd (cc)
word_opens word kind.Ident text opens is = absurd (cc)
word_opens word kind.Lifetime text opens is = absurd (cc)
word_opens word (kind.Literal l) text opens is = absurd (cc)
word_opens word (kind.Punct c joint) text opens is = absurd (cc)
word_opens word (kind.Start b) text opens is = absurd (cc)
word_opens word (kind.Stop b) text opens is = absurd (cc)
word_opens word kind.Doc text opens is = absurd (cc)

-- a list of one such character
one_sign : (c : ℕ) → opens_sign c ≡ true → list_all opens_sign (c ∷ []) ≡ true
one_sign c h = rw h refl

-- a token that is asked for is an opener, where each of them is
pub terminal_opens : (asked : Terminal) (t : Token) → opens_with asked ≡ true → accepts asked t ≡ true → opening t ≡ true
unfolding accepts
terminal_opens (terminal.Word word) t opens is = word_opens word t.kind t.spelling opens is
terminal_opens (terminal.Sign c) t opens is = signs_open (c ∷ []) t.kind t.spelling (one_sign c opens) is
terminal_opens terminal.PrefixSign t opens is = signs_open (45 ∷ 33 ∷ 42 ∷ []) t.kind t.spelling refl is
terminal_opens asked t opens is = absurd (cc)

-- a punct is an opener, where its character opens
pub punct_opens : (c : ℕ) (t : Token) → opens_sign c ≡ true → is_sign c t.kind ≡ true → opening t ≡ true
punct_opens c t opens is = terminal_opens (terminal.Sign c) t opens (sign_accepted c t is)

-- an opening bracket is an opener
pub start_opens : (b : Bracket) (t : Token) → is_start b t.kind ≡ true → opening t ≡ true
start_opens b t is = ap (λ k. is_opener k t.spelling) (start_kind b t.kind is)

-- ---- beginnings

-- what is looked for is an opener
abbrev pub is_opening : Ahead → Bool
is_opening (ahead.one asked) = opens_with asked
is_opening (ahead.start b) = true
is_opening (ahead.stop b) = false
is_opening ahead.doc = false
is_opening (ahead.pair c d) = opens_sign c
is_opening (ahead.lone c d) = opens_sign c
is_opening ahead.finish = false

-- what is looked for begins with an opener
abbrev pub begins_opening : List Ahead → Bool
begins_opening [] = false
begins_opening (a ∷ more) = is_opening a

-- each beginning that is looked for is an opener
abbrev pub is_opening_look : Look → Bool
is_opening_look look = list_all begins_opening look

-- a first token that passes one test passes another
first_passes : (test other : Token → Bool) (ts : Tokens) → ((t : Token) → test t ≡ true → other t ≡ true) → sees test ts ≡ true → sees other ts ≡ true
unfolding sees
first_passes test other [] into h = absurd (cc)
first_passes test other (t ∷ ts) into h = into t h

-- the list begins with an opener
pub lone_opens : (c d : ℕ) (ts : Tokens) → opens_sign c ≡ true → begins_lone c d ts ≡ true → sees opening ts ≡ true
unfolding sees
lone_opens c d ts opens is = let p = loned c d ts is in subst (λ us. sees opening us ≡ true) (sym p.whole) (punct_opens c p.first opens p.is)

-- a list that begins with an operator of two puncts begins with an opener
pub pair_opens : (c d : ℕ) (ts : Tokens) → opens_sign c ≡ true → begins_pair c d ts ≡ true → sees opening ts ≡ true
unfolding sees
pair_opens c d ts opens is = let p = paired c d ts is in subst (λ us. sees opening us ≡ true) (sym p.whole) (punct_opens c p.first opens (joint_sign c p.first.kind p.joins))

-- where it stands first, the list begins with an opener
ahead_opens : (a : Ahead) (ts : Tokens) → is_opening a ≡ true → begins a ts ≡ true → sees opening ts ≡ true
ahead_opens (ahead.one asked) ts opens is = first_passes (accepts asked) opening ts (λ t h. terminal_opens asked t opens h) is
ahead_opens (ahead.start b) ts opens is = first_passes (ahead.opens b) opening ts (λ t h. start_opens b t h) is
ahead_opens (ahead.stop b) ts opens is = absurd (cc)
ahead_opens ahead.doc ts opens is = absurd (cc)
ahead_opens (ahead.pair c d) ts opens is = pair_opens c d ts opens is
ahead_opens (ahead.lone c d) ts opens is = lone_opens c d ts opens is
ahead_opens ahead.finish ts opens is = absurd (cc)

-- a list that begins with a sequence of tests, the first of an opener, begins with an opener
way_opens : (way : List Ahead) (ts : Tokens) → begins_opening way ≡ true → meets way ts ≡ true → sees opening ts ≡ true
way_opens [] ts opens is = absurd (cc)
way_opens (a ∷ more) ts opens is = ahead_opens a ts opens (both_hold (begins a ts) _ is).0

-- where such a beginning is seen, the list begins with an opener
pub look_opens : (look : Look) (ts : Tokens) → is_opening_look look ≡ true → sees_any look ts ≡ true → sees opening ts ≡ true
unfolding sees_any
look_opens [] ts opens is = absurd (cc)
look_opens (way ∷ look) ts opens is =
    let parts = both_hold (begins_opening way) (list_all begins_opening look) opens in
    elim (one_holds (meets way ts) (list_any (λ way. meets way ts) look) is) [
      | inl met ↦ way_opens way ts parts.0 met
      | inr more ↦ look_opens look ts parts.1 more
    ]

-- ---- rules

-- what the rule allows begins with an opener
unfoldable pub begins_with_opener : {A : Type 0} → Rule A → Bool
begins_with_opener (token asked) = opens_with asked
begins_with_opener documentation = false
begins_with_opener (empty x) = false
begins_with_opener (both g h) = begins_with_opener g
begins_with_opener (made f g) = begins_with_opener g
begins_with_opener (checked test g) = begins_with_opener g
begins_with_opener (either look g h) = begins_with_opener g && begins_with_opener h
begins_with_opener (prefer asked g h) = begins_with_opener g && begins_with_opener h
begins_with_opener (operator c d) = opens_sign c
begins_with_opener (lone c d g) = opens_sign c
begins_with_opener (binary g) = true
begins_with_opener (nest b g) = true
begins_with_opener (angles g) = true
begins_with_opener (under asked g) = opens_with asked
begins_with_opener (arrow g) = true
begins_with_opener (list separator stop g) = false
begins_with_opener (many look g) = false
begins_with_opener (chain look g) = false
begins_with_opener (path g) = begins_with_opener g
begins_with_opener (sliced g) = begins_with_opener g
begins_with_opener (written g) = begins_with_opener g
begins_with_opener (part p) = false

-- a list whose first token is an opener begins with one
first_opens : (t : Token) (ts us : Tokens) → us ≡ t ∷ ts → opening t ≡ true → sees opening us ≡ true
unfolding sees
first_opens t ts us whole opens = subst (λ us. sees opening us ≡ true) (sym whole) opens

-- where a rule begins with an opener, what it allows does
pub rule_opens : (parts : Parts) {A : Type 0} (g : Rule A) → begins_with_opener g ≡ true → (budget : ℕ) (tokens : Tokens) (x : A) → Parses parts budget g tokens x → sees opening tokens ≡ true
unfolding Parses begins_with_opener
rule_opens parts (token asked) opens budget tokens x is = first_opens x.token [] tokens is (terminal_opens asked x.token opens x.passes)
rule_opens parts documentation opens budget tokens x is = absurd (cc)
rule_opens parts (empty y) opens budget tokens x is = absurd (cc)
rule_opens parts (both g h) opens budget tokens x is =
    subst (λ us. sees opening us ≡ true) (sym is.2) (seen_front opening is.0 is.1 (rule_opens parts g opens budget is.0 x.0 is.3))
rule_opens parts (made f g) opens budget tokens x is = rule_opens parts g opens budget tokens is.0 is.2
rule_opens parts (checked test g) opens budget tokens x is = rule_opens parts g opens budget tokens x is.1
rule_opens parts (either look g h) opens budget tokens x (inl is) = rule_opens parts g (both_hold (begins_with_opener g) (begins_with_opener h) opens).0 budget tokens x is
rule_opens parts (either look g h) opens budget tokens x (inr is) = rule_opens parts h (both_hold (begins_with_opener g) (begins_with_opener h) opens).1 budget tokens x is
rule_opens parts (prefer asked g h) opens budget tokens x (inl is) = rule_opens parts g (both_hold (begins_with_opener g) (begins_with_opener h) opens).0 budget tokens x is
rule_opens parts (prefer asked g h) opens budget tokens x (inr is) = rule_opens parts h (both_hold (begins_with_opener g) (begins_with_opener h) opens).1 budget tokens x is.1
rule_opens parts (operator c d) opens budget tokens x is = pair_opens c d tokens opens is.1
rule_opens parts (lone c d g) opens budget tokens x is = lone_opens c d tokens opens is.3
rule_opens parts (binary g) opens budget tokens x is =
    let p = operated tokens x.0 is.0 is.1 in subst (λ us. sees opening us ≡ true) (sym p.whole) (seen_front opening p.op p.behind p.opens)
rule_opens parts (nest b g) opens budget tokens x is = first_opens is.first (is.inside ++ is.last ∷ []) tokens is.is (start_opens b is.first is.opens)
rule_opens parts (angles g) opens budget tokens x is = lone_opens 60 61 tokens refl is.1
rule_opens parts (under asked g) opens budget tokens x is = first_opens is.first is.inside tokens is.is (terminal_opens asked is.first opens is.opens)
rule_opens parts (arrow g) opens budget tokens x is = pair_opens 45 62 tokens refl is.5
rule_opens parts (list separator stop g) opens budget tokens x is = absurd (cc)
rule_opens parts (many look g) opens budget tokens x is = absurd (cc)
rule_opens parts (chain look g) opens budget tokens x is = absurd (cc)
rule_opens parts (path g) opens budget tokens x (Linked.last {x = y} us is) = rule_opens parts g opens budget us y is
rule_opens parts (path g) opens budget tokens x (Linked.more {x = y} front rest first second is between others) =
    seen_front opening front (first ∷ second ∷ rest) (rule_opens parts g opens budget front y is)
rule_opens parts (sliced g) opens budget tokens x is = rule_opens parts g opens budget tokens x.0 is.0
rule_opens parts (written g) opens budget tokens x is = rule_opens parts g opens budget tokens x.0 is.0
rule_opens parts (part p) opens budget tokens x is = absurd (cc)

-- Each link of a chain, and what stands before each level that nests, is an opener, so that a program that finds too
-- many of them has passed as many openers.
unfoldable pub is_ready : {A : Type 0} → Rule A → Bool
is_ready (token asked) = true
is_ready documentation = true
is_ready (empty x) = true
is_ready (both g h) = is_ready g && is_ready h
is_ready (made f g) = is_ready g
is_ready (checked test g) = is_ready g
is_ready (either look g h) = is_ready g && is_ready h
is_ready (prefer asked g h) = is_ready g && is_ready h
is_ready (operator c d) = true
is_ready (lone c d g) = is_ready g
is_ready (binary g) = is_ready g
is_ready (nest b g) = is_ready g
is_ready (angles g) = is_ready g
is_ready (under asked g) = opens_with asked && is_ready g
is_ready (arrow g) = is_ready g
is_ready (list separator stop g) = is_ready g
is_ready (many look g) = is_ready g
is_ready (chain look g) = is_opening_look look && (begins_with_opener g && is_ready g)
is_ready (path g) = is_ready g
is_ready (sliced g) = is_ready g
is_ready (written g) = is_ready g
is_ready (part p) = true
