-- Copies of tokens, in which puncts may lose the jointness that no operator rests on; and which tests answer the same of them.
use Rattle.std.proofs.Common.{◌≡◌, ℕ, zero, suc, ◌==◌, Bool, true, false, not, ◌&&◌, List, [], ◌∷◌, ◌++◌, length, drop, refl, ap, sym, subst, ◌∙◌, ◌⊎◌, inl, inr, None}
use Rattle.std.proofs.lemmas.Bool.{both_ways, and_right, false≢true}
use Rattle.educe_tokens.specs.TokenKind.{TokenKind}
use Rattle.educe_tokens.specs.TokenKind.TheVariants as kind
use Rattle.educe_tokens.specs.declared.token.Token.{Token}
use Rattle.educe_tokens.specs.Brackets.{kinds}
use Rattle.educe_tokens.specs.Copied.{copied, copied_kind, unjoined}
use Rattle.educe_tokens.specs.Lexes.{Lexeme, lexemes, lexeme_of}
use Rattle.educe_tokens.specs.Text.{is_punct_behind}
use Rattle.educe_tokens_pieces.specs.Chars.{is_slash_or_star}
use Rattle.educe_tokens.proofs.Lists.{cons_parts, nil_not_cons}
use Rattle.educe_grammar.specs.Ahead.{is_sign, is_joint, begins_pair, begins_lone}
use Rattle.educe_grammar.specs.Alike.{lexeme_aside, AreEqualAside}
use Rattle.educe_grammar.specs.Operators.{of_length, pair_of, pair_operator, single_operator, longer_of, operator_at}
use Rattle.educe_grammar.specs.Steps.{Tokens}
use Rattle.educe_grammar.proofs.Beginnings.{eq_true}

-- ---- copies

-- the kind of the first token; no token counts as an identifier
unfoldable pub next_kind : Tokens → TokenKind
next_kind [] = kind.Ident
next_kind (t ∷ ts) = t.kind

-- the two characters open a comment
abbrev pub opens_comment : ℕ → ℕ → Bool
opens_comment c d = (c == 47) && is_slash_or_star d

-- the second kind is a punct with which the first, a punct, opens no comment
abbrev pub joins : TokenKind → TokenKind → Bool
joins (kind.Punct c joint) next = is_punct_behind c (next ∷ [])
joins kind.Ident next = false
joins kind.Lifetime next = false
joins (kind.Literal l) next = false
joins (kind.Start b) next = false
joins (kind.Stop b) next = false
joins kind.Doc next = false

-- the token, before one of this kind, or the same that isn't joint where it need not be
pub record IsCopy (t u : Token) (next : TokenKind) : Type 0 where
  pub kind_is : (u.kind ≡ t.kind) ⊎ ((u.kind ≡ unjoined t.kind) × (joins t.kind next ≡ false))
  pub spelling_is : u.spelling ≡ t.spelling

-- each token is a copy
abbrev pub Copy : Tokens → Tokens → Type 0
Copy [] [] = Unit {0}
Copy [] (u ∷ us) = ⊥
Copy (t ∷ ts) [] = ⊥
Copy (t ∷ ts) (u ∷ us) = IsCopy t u (next_kind ts) × Copy ts us

-- ---- what is copied is a copy

-- the kind is the same behind more
first_behind : (c : ℕ) (k : TokenKind) (more : List TokenKind) → is_punct_behind c (k ∷ []) ≡ is_punct_behind c (k ∷ more)
first_behind c (kind.Punct d joint) more = refl
first_behind c kind.Ident more = refl
first_behind c kind.Lifetime more = refl
first_behind c (kind.Literal l) more = refl
first_behind c (kind.Start b) more = refl
first_behind c (kind.Stop b) more = refl
first_behind c kind.Doc more = refl

next_behind : (c : ℕ) (ts : Tokens) → is_punct_behind c (next_kind ts ∷ []) ≡ is_punct_behind c (kinds (lexemes ts))
unfolding next_kind
next_behind c [] = refl
next_behind c (t ∷ ts) = first_behind c t.kind (kinds (lexemes ts))

-- the kind that is copied
copied_is : (k : TokenKind) (ts : Tokens) → (copied_kind k (kinds (lexemes ts)) ≡ k) ⊎ ((copied_kind k (kinds (lexemes ts)) ≡ unjoined k) × (joins k (next_kind ts) ≡ false))
copied_is (kind.Punct c false) ts = inl refl
copied_is (kind.Punct c true) ts = step (is_punct_behind c (kinds (lexemes ts))) refl
  where
    step : (b : Bool) → is_punct_behind c (kinds (lexemes ts)) ≡ b → (copied_kind (kind.Punct c true) (kinds (lexemes ts)) ≡ kind.Punct c true) ⊎ ((copied_kind (kind.Punct c true) (kinds (lexemes ts)) ≡ kind.Punct c false) × (joins (kind.Punct c true) (next_kind ts) ≡ false))
    step true e = inl (ap (λ (j : Bool). kind.Punct c j) e)
    step false e = inr (ap (λ (j : Bool). kind.Punct c j) e, next_behind c ts ∙ e)
copied_is kind.Ident ts = inl refl
copied_is kind.Lifetime ts = inl refl
copied_is (kind.Literal l) ts = inl refl
copied_is (kind.Start b) ts = inl refl
copied_is (kind.Stop b) ts = inl refl
copied_is kind.Doc ts = inl refl

-- what copying makes is a copy
pub copy_of : (ts us : Tokens) → lexemes us ≡ copied (lexemes ts) → Copy ts us
copy_of [] [] is = tt
copy_of [] (u ∷ us) is = absurd (nil_not_cons (lexeme_of u) (lexemes us) (sym is))
copy_of (t ∷ ts) [] is = absurd (nil_not_cons _ _ is)
copy_of (t ∷ ts) (u ∷ us) is =
    let e = cons_parts _ _ _ _ is in
    let k : u.kind ≡ copied_kind t.kind (kinds (lexemes ts)) = ap (λ (l : Lexeme). l.kind) e.0 in (
      record {
        kind_is = elim (copied_is t.kind ts) [ inl same ↦ inl (k ∙ same) | inr other ↦ inr (k ∙ other.0, other.1) ];
        spelling_is = ap (λ (l : Lexeme). l.spelling) e.0;
      },
      copy_of ts us e.1,
    )

-- ---- aside

-- nothing is joint twice
unjoined_twice : (k : TokenKind) → unjoined (unjoined k) ≡ unjoined k
unjoined_twice (kind.Punct c joint) = refl
unjoined_twice kind.Ident = refl
unjoined_twice kind.Lifetime = refl
unjoined_twice (kind.Literal l) = refl
unjoined_twice (kind.Start b) = refl
unjoined_twice (kind.Stop b) = refl
unjoined_twice kind.Doc = refl

-- a copy is the same token, jointness aside
pub copy_aside : (t u : Token) (next : TokenKind) → IsCopy t u next → lexeme_aside t ≡ lexeme_aside u
copy_aside t u next c =
    let k : unjoined t.kind ≡ unjoined u.kind = elim c.kind_is [ inl e ↦ ap unjoined (sym e) | inr e ↦ sym (ap unjoined e.0 ∙ unjoined_twice t.kind) ] in
    λ i. record { kind = k i; spelling = sym c.spelling_is i }

pub copies_aside : (ts us : Tokens) → Copy ts us → AreEqualAside ts us
copies_aside [] [] c = refl
copies_aside [] (u ∷ us) c = absurd c
copies_aside (t ∷ ts) [] c = absurd c
copies_aside (t ∷ ts) (u ∷ us) c = λ i. copy_aside t u (next_kind ts) c.0 i ∷ copies_aside ts us c.1 i

-- ---- lists

-- there are as many
pub copy_length : (ts us : Tokens) → Copy ts us → length us ≡ length ts
copy_length [] [] c = refl
copy_length [] (u ∷ us) c = absurd c
copy_length (t ∷ ts) [] c = absurd c
copy_length (t ∷ ts) (u ∷ us) c = ap suc (copy_length ts us c.1)

-- without the first tokens
pub copy_drop : (n : ℕ) (ts us : Tokens) → Copy ts us → Copy (drop n ts) (drop n us)
copy_drop zero ts us c = c
copy_drop (suc n) [] [] c = c
copy_drop (suc n) [] (u ∷ us) c = absurd c
copy_drop (suc n) (t ∷ ts) [] c = absurd c
copy_drop (suc n) (t ∷ ts) (u ∷ us) c = copy_drop n ts us c.1

-- the last token need not be joint
joins_last : (k : TokenKind) → joins k kind.Ident ≡ false
joins_last (kind.Punct c joint) = refl
joins_last kind.Ident = refl
joins_last kind.Lifetime = refl
joins_last (kind.Literal l) = refl
joins_last (kind.Start b) = refl
joins_last (kind.Stop b) = refl
joins_last kind.Doc = refl

-- a token that need not be joint before more tokens need not be joint
joins_front : (k : TokenKind) (front rest : Tokens) → joins k (next_kind (front ++ rest)) ≡ false → joins k (next_kind front) ≡ false
unfolding next_kind
joins_front k [] rest e = joins_last k
joins_front k (t ∷ ts) rest e = e

-- The copy of one list and then another.
pub record Split (front rest us : Tokens) : Type 0 where
  pub first : Tokens
  pub later : Tokens
  pub is : us ≡ first ++ later
  pub one : Copy front first
  pub other : Copy rest later

pub copy_split : (front rest us : Tokens) → Copy (front ++ rest) us → Split front rest us
copy_split [] rest us c = record { first = []; later = us; is = refl; one = tt; other = c }
copy_split (t ∷ ts) rest [] c = absurd c
copy_split (t ∷ ts) rest (u ∷ us) c =
    let s = copy_split ts rest us c.1 in
    let k : (u.kind ≡ t.kind) ⊎ ((u.kind ≡ unjoined t.kind) × (joins t.kind (next_kind ts) ≡ false)) =
    elim c.0.kind_is [ inl e ↦ inl e | inr e ↦ inr (e.0, joins_front t.kind ts rest e.1) ] in
    record { first = u ∷ s.first; later = s.later; is = ap (λ vs. u ∷ vs) s.is; one = (record { kind_is = k; spelling_is = c.0.spelling_is }, s.one); other = s.other }

-- The copy of a token and those behind it.
pub record Led (t : Token) (ts us : Tokens) : Type 0 where
  pub first : Token
  pub rest : Tokens
  pub is : us ≡ first ∷ rest
  pub same : lexeme_aside t ≡ lexeme_aside first
  pub others : Copy ts rest

pub copy_led : (t : Token) (ts us : Tokens) → Copy (t ∷ ts) us → Led t ts us
copy_led t ts [] c = absurd c
copy_led t ts (u ∷ us) c = record { first = u; rest = us; is = refl; same = copy_aside t u (next_kind ts) c.0; others = c.1 }

-- nothing is copied as nothing
pub copy_none : (us : Tokens) → Copy [] us → us ≡ []
copy_none [] c = refl
copy_none (u ∷ us) c = absurd c

-- ---- operators of two puncts

sign_unjoined : (c : ℕ) (k : TokenKind) → is_sign c (unjoined k) ≡ is_sign c k
sign_unjoined c (kind.Punct d joint) = refl
sign_unjoined c kind.Ident = refl
sign_unjoined c kind.Lifetime = refl
sign_unjoined c (kind.Literal l) = refl
sign_unjoined c (kind.Start b) = refl
sign_unjoined c (kind.Stop b) = refl
sign_unjoined c kind.Doc = refl

-- a sign is a sign
sign_same : (c : ℕ) (t u : Token) (next : TokenKind) → IsCopy t u next → is_sign c u.kind ≡ is_sign c t.kind
sign_same c t u next copy = elim copy.kind_is [ inl e ↦ ap (is_sign c) e | inr e ↦ ap (is_sign c) e.0 ∙ sign_unjoined c t.kind ]

-- what is not joint is none
joint_unjoined : (c : ℕ) (k : TokenKind) → is_joint c (unjoined k) ≡ false
joint_unjoined c (kind.Punct d joint) = and_right (d == c) false refl
joint_unjoined c kind.Ident = refl
joint_unjoined c kind.Lifetime = refl
joint_unjoined c (kind.Literal l) = refl
joint_unjoined c (kind.Start b) = refl
joint_unjoined c (kind.Stop b) = refl
joint_unjoined c kind.Doc = refl

-- of two puncts of which the first need not be joint with the second
comment_pair : (c d e f : ℕ) (joint : Bool) → not (opens_comment e f) ≡ false → opens_comment c d ≡ false → (((e == c) && joint) && (f == d)) ≡ false
comment_pair c d e f joint opens none = step (e == c) (f == d) refl refl
  where
    step : (p q : Bool) → (e == c) ≡ p → (f == d) ≡ q → ((p && joint) && q) ≡ false
    step false q first second = refl
    step true false first second = and_right joint false refl
    step true true first second =
        absurd (both_ways (opens_comment c d) none
        (subst (λ n. opens_comment n d ≡ true) (eq_true e c first) (subst (λ n. opens_comment e n ≡ true) (eq_true f d second) (holds (opens_comment e f) opens))))
      where
        holds : (b : Bool) → not b ≡ false → b ≡ true
        holds true h = refl
        holds false h = sym h

no_pair : (c d : ℕ) (k next : TokenKind) → joins k next ≡ false → opens_comment c d ≡ false → (is_joint c k && is_sign d next) ≡ false
no_pair c d (kind.Punct e joint) (kind.Punct f i) h none = comment_pair c d e f joint h none
no_pair c d (kind.Punct e joint) kind.Ident h none = and_right ((e == c) && joint) false refl
no_pair c d (kind.Punct e joint) kind.Lifetime h none = and_right ((e == c) && joint) false refl
no_pair c d (kind.Punct e joint) (kind.Literal l) h none = and_right ((e == c) && joint) false refl
no_pair c d (kind.Punct e joint) (kind.Start b) h none = and_right ((e == c) && joint) false refl
no_pair c d (kind.Punct e joint) (kind.Stop b) h none = and_right ((e == c) && joint) false refl
no_pair c d (kind.Punct e joint) kind.Doc h none = and_right ((e == c) && joint) false refl
no_pair c d kind.Ident next h none = refl
no_pair c d kind.Lifetime next h none = refl
no_pair c d (kind.Literal l) next h none = refl
no_pair c d (kind.Start b) next h none = refl
no_pair c d (kind.Stop b) next h none = refl
no_pair c d kind.Doc next h none = refl

-- an operator of two puncts stays in a copy
pub pair_same : (c d : ℕ) (ts us : Tokens) → opens_comment c d ≡ false → Copy ts us → begins_pair c d us ≡ begins_pair c d ts
unfolding begins_pair next_kind
pair_same c d [] [] none copy = refl
pair_same c d [] (u ∷ us) none copy = absurd copy
pair_same c d (t ∷ ts) [] none copy = absurd copy
pair_same c d (t ∷ []) (u ∷ []) none copy = refl
pair_same c d (t ∷ []) (u ∷ v ∷ us) none copy = absurd copy.1
pair_same c d (t ∷ s ∷ ts) (u ∷ []) none copy = absurd copy.1
pair_same c d (t ∷ s ∷ ts) (u ∷ v ∷ us) none copy = elim copy.0.kind_is [
  | inl e ↦ (λ i. is_joint c (e i) && sign_same d s v (next_kind ts) copy.1.0 i)
  | inr e ↦ (ap (λ b. b && is_sign d v.kind) (ap (is_joint c) e.0 ∙ joint_unjoined c t.kind) ∙ sym (no_pair c d t.kind s.kind e.1 none))
]

-- one punct stays in a copy
pub lone_same : (c d : ℕ) (ts us : Tokens) → opens_comment c d ≡ false → Copy ts us → begins_lone c d us ≡ begins_lone c d ts
unfolding begins_lone
lone_same c d [] [] none copy = refl
lone_same c d [] (u ∷ us) none copy = absurd copy
lone_same c d (t ∷ ts) [] none copy = absurd copy
lone_same c d (t ∷ ts) (u ∷ us) none copy = λ i. sign_same c t u (next_kind ts) copy.0 i && not (pair_same c d (t ∷ ts) (u ∷ us) none copy i)

-- ---- operators with two operands

single_unjoined : (k : TokenKind) → single_operator (unjoined k) ≡ single_operator k
single_unjoined (kind.Punct c joint) = refl
single_unjoined kind.Ident = refl
single_unjoined kind.Lifetime = refl
single_unjoined (kind.Literal l) = refl
single_unjoined (kind.Start b) = refl
single_unjoined (kind.Stop b) = refl
single_unjoined kind.Doc = refl

single_same : (t u : Token) (next : TokenKind) → IsCopy t u next → single_operator u.kind ≡ single_operator t.kind
single_same t u next copy = elim copy.kind_is [ inl e ↦ ap single_operator e | inr e ↦ ap single_operator e.0 ∙ single_unjoined t.kind ]

-- whether the second is joint makes no difference
second_unjoined : (k next : TokenKind) → pair_operator k (unjoined next) ≡ pair_operator k next
second_unjoined (kind.Punct c true) (kind.Punct d joint) = refl
second_unjoined (kind.Punct c true) kind.Ident = refl
second_unjoined (kind.Punct c true) kind.Lifetime = refl
second_unjoined (kind.Punct c true) (kind.Literal l) = refl
second_unjoined (kind.Punct c true) (kind.Start b) = refl
second_unjoined (kind.Punct c true) (kind.Stop b) = refl
second_unjoined (kind.Punct c true) kind.Doc = refl
second_unjoined (kind.Punct c false) next = refl
second_unjoined kind.Ident next = refl
second_unjoined kind.Lifetime next = refl
second_unjoined (kind.Literal l) next = refl
second_unjoined (kind.Start b) next = refl
second_unjoined (kind.Stop b) next = refl
second_unjoined kind.Doc next = refl

-- a first that is not joint makes none
first_unjoined : (k next : TokenKind) → pair_operator (unjoined k) next ≡ None
first_unjoined (kind.Punct c joint) next = refl
first_unjoined kind.Ident next = refl
first_unjoined kind.Lifetime next = refl
first_unjoined (kind.Literal l) next = refl
first_unjoined (kind.Start b) next = refl
first_unjoined (kind.Stop b) next = refl
first_unjoined kind.Doc next = refl

-- no operator begins a comment
no_operator : (k next : TokenKind) → joins k next ≡ false → pair_operator k next ≡ None
no_operator (kind.Punct c true) (kind.Punct d i) h = slash (c == 47) refl h
  where
    slash : (b : Bool) → (c == 47) ≡ b → not (b && is_slash_or_star d) ≡ false → pair_of c d ≡ None
    slash true e h = subst (λ (n : ℕ). pair_of n d ≡ None) (sym (eq_true c 47 e)) refl
    slash false e h = absurd (false≢true (sym h))
no_operator (kind.Punct c true) kind.Ident h = refl
no_operator (kind.Punct c true) kind.Lifetime h = refl
no_operator (kind.Punct c true) (kind.Literal l) h = refl
no_operator (kind.Punct c true) (kind.Start b) h = refl
no_operator (kind.Punct c true) (kind.Stop b) h = refl
no_operator (kind.Punct c true) kind.Doc h = refl
no_operator (kind.Punct c false) next h = refl
no_operator kind.Ident next h = refl
no_operator kind.Lifetime next h = refl
no_operator (kind.Literal l) next h = refl
no_operator (kind.Start b) next h = refl
no_operator (kind.Stop b) next h = refl
no_operator kind.Doc next h = refl

-- the longest operator is the same
pub operator_same : (ts us : Tokens) → Copy ts us → operator_at us ≡ operator_at ts
unfolding operator_at next_kind
operator_same [] [] copy = refl
operator_same [] (u ∷ us) copy = absurd copy
operator_same (t ∷ ts) [] copy = absurd copy
operator_same (t ∷ []) (u ∷ []) copy = ap (λ o. of_length 1 o) (single_same t u kind.Ident copy.0)
operator_same (t ∷ []) (u ∷ v ∷ us) copy = absurd copy.1
operator_same (t ∷ s ∷ ts) (u ∷ []) copy = absurd copy.1
operator_same (t ∷ s ∷ ts) (u ∷ v ∷ us) copy =
    let second : pair_operator u.kind v.kind ≡ pair_operator u.kind s.kind =
    elim copy.1.0.kind_is [ inl e ↦ ap (pair_operator u.kind) e | inr e ↦ ap (pair_operator u.kind) e.0 ∙ second_unjoined u.kind s.kind ] in
    let first : pair_operator u.kind s.kind ≡ pair_operator t.kind s.kind =
    elim copy.0.kind_is [
      | inl e ↦ ap (λ k. pair_operator k s.kind) e
      | inr e ↦ (ap (λ k. pair_operator k s.kind) e.0 ∙ first_unjoined t.kind s.kind ∙ sym (no_operator t.kind s.kind e.1))
    ] in
    λ i. longer_of ((second ∙ first) i) (single_same t u s.kind copy.0 i)
