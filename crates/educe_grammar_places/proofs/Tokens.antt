-- Lists of tokens that have one copy: what the grammar asks of them.
use Rattle.std.proofs.Common.{◌≡◌, ℕ, zero, suc, ◌==◌, Bool, true, false, not, ◌&&◌, List, [], ◌∷◌, ◌++◌, length, drop, refl, ap, sym, subst, ◌∙◌, Option, Some, None}
use Rattle.std.proofs.lemmas.Bool.{eqb-true}
use Rattle.educe_tokens.specs.Bracket.{Bracket}
use Rattle.educe_tokens.specs.TokenKind.{TokenKind}
use Rattle.educe_tokens.specs.TokenKind.TheVariants as kind
use Rattle.educe_tokens.specs.declared.token.Token.{Token}
use Rattle.educe_tokens.specs.Brackets.{kinds, open_after, closes}
use Rattle.educe_tokens.specs.Copied.{copied_kind, copied, unjoined, may_be_copied}
use Rattle.educe_tokens.specs.Lexes.{Lexeme, lexemes}
use Rattle.educe_tokens.specs.Same.{lexeme_aside, AreSameTokens}
use Rattle.educe_tokens.specs.Text.{is_punct_behind, is_no_doc, have_no_doc}
use Rattle.educe_tokens.specs.Chars.{is_slash_or_star}
use Rattle.educe_tokens.proofs.Lists.{cons_parts}
use Rattle.educe_grammar.specs.Ahead as ahead
use Rattle.educe_grammar.specs.Ahead.{is_sign, is_joint, is_start, is_stop, is_doc, opens, documents, begins_pair, begins_lone}
use Rattle.educe_grammar.specs.Operators.{pair_operator, single_operator, of_length, longer_of, operator_at}
use Rattle.educe_grammar.specs.Steps.{Tokens}
use Rattle.educe_grammar.proofs.Aside.{aside_more}
use Rattle.educe_grammar_places.specs.Copies.{HaveOneCopy, IsOneCopy, AreOneCopy}

-- ---- one token

unjoined_copied : (k : TokenKind) (ks : List TokenKind) → unjoined (copied_kind k ks) ≡ unjoined k
unjoined_copied (kind.Punct c joint) ks = refl
unjoined_copied kind.Ident ks = refl
unjoined_copied kind.Lifetime ks = refl
unjoined_copied (kind.Literal l) ks = refl
unjoined_copied (kind.Start b) ks = refl
unjoined_copied (kind.Stop b) ks = refl
unjoined_copied kind.Doc ks = refl

-- the kinds are equal, jointness aside
same_kinds : (t u : Token) (ks ls : List TokenKind) → IsOneCopy t ks u ls → unjoined t.kind ≡ unjoined u.kind
same_kinds t u ks ls same = sym (unjoined_copied t.kind ks) ∙ ap unjoined same.0 ∙ unjoined_copied u.kind ls

-- so are the tokens
pub same_token : (t u : Token) (ks ls : List TokenKind) → IsOneCopy t ks u ls → lexeme_aside t ≡ lexeme_aside u
same_token t u ks ls same = let e = same_kinds t u ks ls same in λ i. record { kind = e i; spelling = same.1 i }

start_aside : (b : Bracket) (k : TokenKind) → is_start b k ≡ is_start b (unjoined k)
start_aside b (kind.Punct e joint) = refl
start_aside b kind.Ident = refl
start_aside b kind.Lifetime = refl
start_aside b (kind.Literal l) = refl
start_aside b (kind.Start c) = refl
start_aside b (kind.Stop c) = refl
start_aside b kind.Doc = refl

stop_aside : (b : Bracket) (k : TokenKind) → is_stop b k ≡ is_stop b (unjoined k)
stop_aside b (kind.Punct e joint) = refl
stop_aside b kind.Ident = refl
stop_aside b kind.Lifetime = refl
stop_aside b (kind.Literal l) = refl
stop_aside b (kind.Start c) = refl
stop_aside b (kind.Stop c) = refl
stop_aside b kind.Doc = refl

doc_aside : (k : TokenKind) → is_doc k ≡ is_doc (unjoined k)
doc_aside (kind.Punct e joint) = refl
doc_aside kind.Ident = refl
doc_aside kind.Lifetime = refl
doc_aside (kind.Literal l) = refl
doc_aside (kind.Start c) = refl
doc_aside (kind.Stop c) = refl
doc_aside kind.Doc = refl

-- tests of kinds answer the same
kind_same : (f : TokenKind → Bool) → ((k : TokenKind) → f k ≡ f (unjoined k)) → (t u : Token) → lexeme_aside t ≡ lexeme_aside u → f t.kind ≡ f u.kind
kind_same f aside t u same = aside t.kind ∙ ap (λ (l : Lexeme). f l.kind) same ∙ sym (aside u.kind)

pub opens_same : (b : Bracket) (t u : Token) → lexeme_aside t ≡ lexeme_aside u → opens b t ≡ opens b u
opens_same b t u same = kind_same (is_start b) (start_aside b) t u same

pub closes_same : (b : Bracket) (t u : Token) → lexeme_aside t ≡ lexeme_aside u → ahead.closes b t ≡ ahead.closes b u
closes_same b t u same = kind_same (is_stop b) (stop_aside b) t u same

pub documents_same : (t u : Token) → lexeme_aside t ≡ lexeme_aside u → documents t ≡ documents u
documents_same t u same = kind_same is_doc doc_aside t u same

-- all tokens
pub same_tokens : (ts us : Tokens) → AreOneCopy ts us → AreSameTokens ts us
same_tokens [] [] same = refl
same_tokens [] (u ∷ us) same = absurd same
same_tokens (t ∷ ts) [] same = absurd same
same_tokens (t ∷ ts) (u ∷ us) same = aside_more t u ts us (same_token t u _ _ same.0) (same_tokens ts us same.1)

-- ---- two puncts

any_false : (a b : Bool) → (a && false) ≡ (b && false)
any_false true true = refl
any_false true false = refl
any_false false true = refl
any_false false false = refl

and_true : (a : Bool) → a ≡ (a && true)
and_true true = refl
and_true false = refl

-- no slash, so no comment is opened
pair_kept : (c e : ℕ) (joint second slash : Bool) → (c == 47) ≡ false → (((e == c) && joint) && second) ≡ (((e == c) && (joint && not ((e == 47) && slash))) && second)
pair_kept c e joint second slash apart = go (e == c) refl
  where
    go : (b : Bool) → (e == c) ≡ b → ((b && joint) && second) ≡ ((b && (joint && not ((e == 47) && slash))) && second)
    go false is = refl
    go true is =
        let other : (e == 47) ≡ false = ap (λ n. n == 47) (eqb-true e c is) ∙ apart in
        ap (λ j. j && second) (and_true joint) ∙ ap (λ q. (joint && not (q && slash)) && second) (sym other)

-- two puncts that open no comment are such in the copies
pair_seen : (c d : ℕ) (k l : TokenKind) (ks : List TokenKind) → (c == 47) ≡ false → (is_joint c k && is_sign d l) ≡ (is_joint c (copied_kind k (l ∷ ks)) && is_sign d (unjoined l))
pair_seen c d (kind.Punct e joint) (kind.Punct f other) ks apart = pair_kept c e joint (f == d) (is_slash_or_star f) apart
pair_seen c d (kind.Punct e joint) kind.Ident ks apart = any_false _ _
pair_seen c d (kind.Punct e joint) kind.Lifetime ks apart = any_false _ _
pair_seen c d (kind.Punct e joint) (kind.Literal l) ks apart = any_false _ _
pair_seen c d (kind.Punct e joint) (kind.Start b) ks apart = any_false _ _
pair_seen c d (kind.Punct e joint) (kind.Stop b) ks apart = any_false _ _
pair_seen c d (kind.Punct e joint) kind.Doc ks apart = any_false _ _
pair_seen c d kind.Ident l ks apart = refl
pair_seen c d kind.Lifetime l ks apart = refl
pair_seen c d (kind.Literal m) l ks apart = refl
pair_seen c d (kind.Start b) l ks apart = refl
pair_seen c d (kind.Stop b) l ks apart = refl
pair_seen c d kind.Doc l ks apart = refl

-- both lists begin with such two, or neither does
pub pair_same : (c d : ℕ) (ts us : Tokens) → (c == 47) ≡ false → AreOneCopy ts us → begins_pair c d ts ≡ begins_pair c d us
unfolding begins_pair
pair_same c d [] [] apart same = refl
pair_same c d [] (u ∷ us) apart same = absurd same
pair_same c d (t ∷ ts) [] apart same = absurd same
pair_same c d (t ∷ []) (u ∷ []) apart same = refl
pair_same c d (t ∷ []) (u ∷ w ∷ us) apart same = absurd same.1
pair_same c d (t ∷ v ∷ ts) (u ∷ []) apart same = absurd same.1
pair_same c d (t ∷ v ∷ ts) (u ∷ w ∷ us) apart same =
    let second = same_kinds v w _ _ same.1.0 in
    let step : (is_joint c (copied_kind t.kind (v.kind ∷ kinds (lexemes ts))) && is_sign d (unjoined v.kind)) ≡ (is_joint c (copied_kind u.kind (w.kind ∷ kinds (lexemes us))) && is_sign d (unjoined w.kind)) =
    λ i. is_joint c (same.0.0 i) && is_sign d (second i) in
    pair_seen c d t.kind v.kind (kinds (lexemes ts)) apart ∙ step ∙ sym (pair_seen c d u.kind w.kind (kinds (lexemes us)) apart)

sign_aside : (c : ℕ) (k : TokenKind) → is_sign c k ≡ is_sign c (unjoined k)
sign_aside c (kind.Punct e joint) = refl
sign_aside c kind.Ident = refl
sign_aside c kind.Lifetime = refl
sign_aside c (kind.Literal l) = refl
sign_aside c (kind.Start b) = refl
sign_aside c (kind.Stop b) = refl
sign_aside c kind.Doc = refl

-- both lists begin with the punct alone, or neither does
pub lone_same : (c d : ℕ) (ts us : Tokens) → (c == 47) ≡ false → AreOneCopy ts us → begins_lone c d ts ≡ begins_lone c d us
unfolding begins_lone
lone_same c d [] [] apart same = refl
lone_same c d [] (u ∷ us) apart same = absurd same
lone_same c d (t ∷ ts) [] apart same = absurd same
lone_same c d (t ∷ ts) (u ∷ us) apart same =
    let first : is_sign c t.kind ≡ is_sign c u.kind = sign_aside c t.kind ∙ ap (is_sign c) (same_kinds t u _ _ same.0) ∙ sym (sign_aside c u.kind) in
    let pair = pair_same c d (t ∷ ts) (u ∷ us) apart same in
    λ i. first i && not (pair i)

-- ---- operators

-- no operator begins with a slash and another punct
slash_pairs : (e f : ℕ) (slash : Bool) → pair_operator (kind.Punct e true) (kind.Punct f false) ≡ pair_operator (kind.Punct e (not ((e == 47) && slash))) (kind.Punct f false)
slash_pairs e f slash = go (e == 47) refl
  where
    none : (s : Bool) → pair_operator (kind.Punct 47 true) (kind.Punct f false) ≡ pair_operator (kind.Punct 47 (not s)) (kind.Punct f false)
    none true = refl
    none false = refl

    go : (b : Bool) → (e == 47) ≡ b → pair_operator (kind.Punct e true) (kind.Punct f false) ≡ pair_operator (kind.Punct e (not (b && slash))) (kind.Punct f false)
    go false is = refl
    go true is = subst (λ n. pair_operator (kind.Punct n true) (kind.Punct f false) ≡ pair_operator (kind.Punct n (not slash)) (kind.Punct f false)) (sym (eqb-true e 47 is)) (none slash)

-- the operator of two tokens is that of the copies
operator_seen : (k l : TokenKind) (ks : List TokenKind) → pair_operator k l ≡ pair_operator (copied_kind k (l ∷ ks)) (unjoined l)
operator_seen (kind.Punct e true) (kind.Punct f other) ks = slash_pairs e f (is_slash_or_star f)
operator_seen (kind.Punct e false) (kind.Punct f other) ks = refl
operator_seen (kind.Punct e true) kind.Ident ks = refl
operator_seen (kind.Punct e false) kind.Ident ks = refl
operator_seen (kind.Punct e true) kind.Lifetime ks = refl
operator_seen (kind.Punct e false) kind.Lifetime ks = refl
operator_seen (kind.Punct e true) (kind.Literal l) ks = refl
operator_seen (kind.Punct e false) (kind.Literal l) ks = refl
operator_seen (kind.Punct e true) (kind.Start b) ks = refl
operator_seen (kind.Punct e false) (kind.Start b) ks = refl
operator_seen (kind.Punct e true) (kind.Stop b) ks = refl
operator_seen (kind.Punct e false) (kind.Stop b) ks = refl
operator_seen (kind.Punct e true) kind.Doc ks = refl
operator_seen (kind.Punct e false) kind.Doc ks = refl
operator_seen kind.Ident l ks = refl
operator_seen kind.Lifetime l ks = refl
operator_seen (kind.Literal m) l ks = refl
operator_seen (kind.Start b) l ks = refl
operator_seen (kind.Stop b) l ks = refl
operator_seen kind.Doc l ks = refl

single_aside : (k : TokenKind) → single_operator k ≡ single_operator (unjoined k)
single_aside (kind.Punct e joint) = refl
single_aside kind.Ident = refl
single_aside kind.Lifetime = refl
single_aside (kind.Literal l) = refl
single_aside (kind.Start b) = refl
single_aside (kind.Stop b) = refl
single_aside kind.Doc = refl

single_same : (t u : Token) (ks ls : List TokenKind) → IsOneCopy t ks u ls → single_operator t.kind ≡ single_operator u.kind
single_same t u ks ls same = single_aside t.kind ∙ ap single_operator (same_kinds t u ks ls same) ∙ sym (single_aside u.kind)

-- both lists begin with the same operator, or with none
pub operator_same : (ts us : Tokens) → AreOneCopy ts us → operator_at ts ≡ operator_at us
unfolding operator_at
operator_same [] [] same = refl
operator_same [] (u ∷ us) same = absurd same
operator_same (t ∷ ts) [] same = absurd same
operator_same (t ∷ []) (u ∷ []) same = ap (of_length 1) (single_same t u _ _ same.0)
operator_same (t ∷ []) (u ∷ w ∷ us) same = absurd same.1
operator_same (t ∷ v ∷ ts) (u ∷ []) same = absurd same.1
operator_same (t ∷ v ∷ ts) (u ∷ w ∷ us) same =
    let second = same_kinds v w _ _ same.1.0 in
    let step : pair_operator (copied_kind t.kind (v.kind ∷ kinds (lexemes ts))) (unjoined v.kind) ≡ pair_operator (copied_kind u.kind (w.kind ∷ kinds (lexemes us))) (unjoined w.kind) =
    λ i. pair_operator (same.0.0 i) (second i) in
    let pair = operator_seen t.kind v.kind (kinds (lexemes ts)) ∙ step ∙ sym (operator_seen u.kind w.kind (kinds (lexemes us))) in
    let single = single_same t u _ _ same.0 in
    λ i. longer_of (pair i) (single i)

-- ---- parts of lists

-- the list is two parts that have one copy with two others
pub record Split (front rest us : Tokens) : Type 0 where
  pub first : Tokens
  pub second : Tokens
  pub is : us ≡ first ++ second
  pub front_same : AreOneCopy front first
  pub rest_same : AreOneCopy rest second

-- at an end no punct is joint
ended : Tokens → TokenKind → TokenKind
ended [] k = unjoined k
ended (t ∷ ts) k = k

-- whether a punct is behind stands with the first token
behind_first : (c : ℕ) (l : TokenKind) (ks ls : List TokenKind) → is_punct_behind c (l ∷ ks) ≡ is_punct_behind c (l ∷ ls)
behind_first c (kind.Punct d other) ks ls = refl
behind_first c kind.Ident ks ls = refl
behind_first c kind.Lifetime ks ls = refl
behind_first c (kind.Literal l) ks ls = refl
behind_first c (kind.Start b) ks ls = refl
behind_first c (kind.Stop b) ks ls = refl
behind_first c kind.Doc ks ls = refl

copied_first : (k l : TokenKind) (ks ls : List TokenKind) → copied_kind k (l ∷ ks) ≡ copied_kind k (l ∷ ls)
copied_first (kind.Punct c joint) l ks ls = ap (λ b. kind.Punct c (joint && b)) (behind_first c l ks ls)
copied_first kind.Ident l ks ls = refl
copied_first kind.Lifetime l ks ls = refl
copied_first (kind.Literal m) l ks ls = refl
copied_first (kind.Start b) l ks ls = refl
copied_first (kind.Stop b) l ks ls = refl
copied_first kind.Doc l ks ls = refl

copied_last : (k : TokenKind) (ks : List TokenKind) → copied_kind k [] ≡ unjoined (copied_kind k ks)
copied_last (kind.Punct c true) ks = refl
copied_last (kind.Punct c false) ks = refl
copied_last kind.Ident ks = refl
copied_last kind.Lifetime ks = refl
copied_last (kind.Literal m) ks = refl
copied_last (kind.Start b) ks = refl
copied_last (kind.Stop b) ks = refl
copied_last kind.Doc ks = refl

-- the copy of a token in a part, from that in the whole
shorter : (k : TokenKind) (front rest : Tokens) → copied_kind k (kinds (lexemes front)) ≡ ended front (copied_kind k (kinds (lexemes (front ++ rest))))
unfolding ended
shorter k [] rest = copied_last k _
shorter k (v ∷ front) rest = copied_first k v.kind _ _

same_ended : (front first : Tokens) (k l : TokenKind) → AreOneCopy front first → k ≡ l → ended front k ≡ ended first l
unfolding ended
same_ended [] [] k l same e = ap unjoined e
same_ended [] (u ∷ us) k l same e = absurd same
same_ended (t ∷ ts) [] k l same e = absurd same
same_ended (t ∷ ts) (u ∷ us) k l same e = e

-- a list that has one copy with two parts is two such parts
pub split : (front rest us : Tokens) → AreOneCopy (front ++ rest) us → Split front rest us
split [] rest us same = record { first = []; second = us; is = refl; front_same = tt; rest_same = same }
split (t ∷ front) rest [] same = absurd same
split (t ∷ front) rest (u ∷ us) same =
    let f = split front rest us same.1 in
    let whole : copied_kind t.kind (kinds (lexemes (front ++ rest))) ≡ copied_kind u.kind (kinds (lexemes (f.first ++ f.second))) = same.0.0 ∙ ap (λ vs. copied_kind u.kind (kinds (lexemes vs))) f.is in
    let first : copied_kind t.kind (kinds (lexemes front)) ≡ copied_kind u.kind (kinds (lexemes f.first)) =
    shorter t.kind front rest ∙ same_ended front f.first _ _ f.front_same whole ∙ sym (shorter u.kind f.first f.second) in
    record { first = u ∷ f.first; second = f.second; is = ap (λ vs. u ∷ vs) f.is; front_same = ((first, same.0.1), f.front_same); rest_same = f.rest_same }

-- the list is a token and others
pub record Uncons (t : Token) (rest us : Tokens) : Type 0 where
  pub first : Token
  pub others : Tokens
  pub is : us ≡ first ∷ others
  pub same : lexeme_aside t ≡ lexeme_aside first
  pub rest_same : AreOneCopy rest others

pub uncons : (t : Token) (rest us : Tokens) → AreOneCopy (t ∷ rest) us → Uncons t rest us
uncons t rest [] same = absurd same
uncons t rest (u ∷ us) same = record { first = u; others = us; is = refl; same = same_token t u _ _ same.0; rest_same = same.1 }

pub nothing_else : (us : Tokens) → AreOneCopy [] us → us ≡ []
nothing_else [] same = refl
nothing_else (u ∷ us) same = absurd same

pub same_drop : (n : ℕ) (ts us : Tokens) → AreOneCopy ts us → AreOneCopy (drop n ts) (drop n us)
same_drop zero ts us same = same
same_drop (suc n) [] [] same = same
same_drop (suc n) [] (u ∷ us) same = absurd same
same_drop (suc n) (t ∷ ts) [] same = absurd same
same_drop (suc n) (t ∷ ts) (u ∷ us) same = same_drop n ts us same.1

pub same_length : (ts us : Tokens) → AreOneCopy ts us → length ts ≡ length us
same_length [] [] same = refl
same_length [] (u ∷ us) same = absurd same
same_length (t ∷ ts) [] same = absurd same
same_length (t ∷ ts) (u ∷ us) same = ap suc (same_length ts us same.1)

-- ---- copies

-- token by token
pub each_copy : (ts us : Tokens) → HaveOneCopy ts us → AreOneCopy ts us
each_copy [] [] same = tt
each_copy [] (u ∷ us) same = absurd (cc)
each_copy (t ∷ ts) [] same = absurd (cc)
each_copy (t ∷ ts) (u ∷ us) same =
    let e = cons_parts _ _ (copied (lexemes ts)) (copied (lexemes us)) same in
    ((ap (λ (l : Lexeme). l.kind) e.0, ap (λ (l : Lexeme). l.spelling) e.0), each_copy ts us e.1)

-- and back
pub one_copy : (ts us : Tokens) → AreOneCopy ts us → HaveOneCopy ts us
one_copy [] [] same = refl
one_copy [] (u ∷ us) same = absurd same
one_copy (t ∷ ts) [] same = absurd same
one_copy (t ∷ ts) (u ∷ us) same = let e = one_copy ts us same.1 in λ i. record { kind = same.0.0 i; spelling = same.0.1 i } ∷ e i

-- ---- what may be copied

open_aside : (outer : List Bracket) (k : TokenKind) → open_after outer k ≡ open_after outer (unjoined k)
open_aside outer (kind.Punct c joint) = refl
open_aside outer kind.Ident = refl
open_aside outer kind.Lifetime = refl
open_aside outer (kind.Literal l) = refl
open_aside outer (kind.Start b) = refl
open_aside outer (kind.Stop b) = refl
open_aside outer kind.Doc = refl

brackets_same : (outer : List Bracket) (ts us : Tokens) → AreOneCopy ts us → closes outer (kinds (lexemes ts)) ≡ closes outer (kinds (lexemes us))
brackets_same outer [] [] same = refl
brackets_same outer [] (u ∷ us) same = absurd same
brackets_same outer (t ∷ ts) [] same = absurd same
brackets_same outer (t ∷ ts) (u ∷ us) same =
    step outer (λ inner. brackets_same inner ts us same.1) (open_after outer t.kind)
    ∙ ap (after (kinds (lexemes us))) (open_aside outer t.kind ∙ ap (open_after outer) (same_kinds t u _ _ same.0) ∙ sym (open_aside outer u.kind))
    ∙ back outer u.kind
  where
    after : List TokenKind → Option (List Bracket) → Bool
    after more o = elim o [ None ↦ false | Some inner ↦ closes inner more ]

    step : (outer : List Bracket) → ((inner : List Bracket) → closes inner (kinds (lexemes ts)) ≡ closes inner (kinds (lexemes us))) → (o : Option (List Bracket)) → after (kinds (lexemes ts)) o ≡ after (kinds (lexemes us)) o
    step outer each None = refl
    step outer each (Some inner) = each inner

    back : (outer : List Bracket) (k : TokenKind) → after (kinds (lexemes us)) (open_after outer k) ≡ closes outer (k ∷ kinds (lexemes us))
    back [] k = refl
    back (o ∷ outer) k = refl

no_doc_aside : (k : TokenKind) → is_no_doc k ≡ is_no_doc (unjoined k)
no_doc_aside (kind.Punct c joint) = refl
no_doc_aside kind.Ident = refl
no_doc_aside kind.Lifetime = refl
no_doc_aside (kind.Literal l) = refl
no_doc_aside (kind.Start b) = refl
no_doc_aside (kind.Stop b) = refl
no_doc_aside kind.Doc = refl

docs_same : (ts us : Tokens) → AreOneCopy ts us → have_no_doc (kinds (lexemes ts)) ≡ have_no_doc (kinds (lexemes us))
docs_same [] [] same = refl
docs_same [] (u ∷ us) same = absurd same
docs_same (t ∷ ts) [] same = absurd same
docs_same (t ∷ ts) (u ∷ us) same =
    let first = no_doc_aside t.kind ∙ ap is_no_doc (same_kinds t u _ _ same.0) ∙ sym (no_doc_aside u.kind) in
    let more = docs_same ts us same.1 in
    λ i. first i && more i

-- both lists may be copied, or neither
pub may_same : (ts us : Tokens) → AreOneCopy ts us → may_be_copied (lexemes ts) ≡ may_be_copied (lexemes us)
may_same ts us same = let c = brackets_same [] ts us same in let d = docs_same ts us same in λ i. c i && d i

-- ---- signs

-- the same sign, or none
pub sign_same : (c : ℕ) (t u : Token) → lexeme_aside t ≡ lexeme_aside u → is_sign c t.kind ≡ is_sign c u.kind
sign_same c t u same = kind_same (is_sign c) (sign_aside c) t u same
