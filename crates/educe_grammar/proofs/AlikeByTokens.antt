-- Tokens that are equal aside are alike types: expressions inside of them end at the same bracket, and the other rules decide the same.
use Rattle.std.proofs.Common.{◌≡◌, ℕ, zero, suc, Bool, true, false, ◌&&◌, ◌||◌, List, [], ◌∷◌, ◌++◌, map, refl, ap, sym, subst, ◌∙◌, ◌⊎◌, inl, inr, ⊎_elim, Option, Some, None, Ok, arith}
use Rattle.std.proofs.lemmas.Bool.{false≢true, both_ways, and_parts, or_cases}
use Rattle.educe_tokens.specs.Bracket.{Bracket}
use Rattle.educe_tokens.specs.Bracket.TheVariants.{Round, Square, Curly}
use Rattle.educe_tokens.specs.TokenKind.{TokenKind}
use Rattle.educe_tokens.specs.TokenKind.TheVariants as kind
use Rattle.educe_tokens.specs.declared.token.Token.{Token}
use Rattle.educe_tokens.specs.Brackets as brackets
use Rattle.educe_tokens.specs.Lexes.{Lexeme}
use Rattle.educe_tree.specs.declared.expr.Expr.{Expr}
use Rattle.educe_tree.specs.declared.ty.Ty.{Ty}
use Rattle.educe_grammar.specs.Steps.{Tokens}
use Rattle.educe_grammar.specs.Ahead.{is_stop, closes, sees, at_end, begins_pair, begins_lone, sees_any}
use Rattle.educe_grammar.specs.Reading.{Parses}
use Rattle.educe_grammar.specs.Running.{run}
use Rattle.educe_grammar.specs.Rules.{Part, part, types, plains, exprs, trees}
use Rattle.educe_grammar.specs.Reads.{parts_below, readers_below, Reads}
use Rattle.educe_grammar.specs.Expressions.{expression}
use Rattle.educe_grammar.specs.Types.{any_type, plain_type}
use Rattle.educe_grammar.specs.Alike.{kind_aside, lexeme_aside, lexemes_aside, AreEqualAside, AlikeTypes}
use Rattle.educe_grammar.proofs.Computed.{computed}
use Rattle.educe_grammar.proofs.Sound.{parts_sound}
use Rattle.educe_grammar.proofs.Unrolling.{read_below}
use Rattle.educe_grammar.proofs.Balanced.{kinds_of, kinds-append, stop_kind, IsBalanced, balanced_closes, balanced_below}
use Rattle.educe_grammar.proofs.Aside.{aside_first, aside_rest, aside_as, aside_more, aside_empty, is_steady, loosened, loose, apart_aside, colons_settled}
use Rattle.educe_grammar.proofs.ReadsAgain.{any_type_again}
use Rattle.educe_grammar.proofs.ReadAlike.{ends_of, settles, Agree, rule_agree}
use Rattle.educe_grammar.proofs.TypesAlike.{Kin, types_related, plains_related}

-- ---- brackets

-- which brackets a token opens or closes doesn't rest on jointness
open_aside : (outer : List Bracket) (k : TokenKind) → brackets.open_after outer k ≡ brackets.open_after outer (kind_aside k)
open_aside outer (kind.Punct c joint) = refl
open_aside outer kind.Ident = refl
open_aside outer kind.Lifetime = refl
open_aside outer (kind.Literal l) = refl
open_aside outer (kind.Start b) = refl
open_aside outer (kind.Stop b) = refl
open_aside outer kind.Doc = refl

-- whether brackets close in order doesn't depend on jointness
closes_aside : (outer : List Bracket) (ks : List TokenKind) → brackets.closes outer ks ≡ brackets.closes outer (map kind_aside ks)
closes_aside [] [] = refl
closes_aside (o ∷ outer) [] = refl
closes_aside outer (k ∷ ks) = same_after (λ inner. closes_aside inner ks) (brackets.open_after outer k) ∙ ap (after (map kind_aside ks)) (open_aside outer k)
  where
    after : List TokenKind → Option (List Bracket) → Bool
    after more o = elim o [ None ↦ false | Some inner ↦ brackets.closes inner more ]

    same_after : ((inner : List Bracket) → brackets.closes inner ks ≡ brackets.closes inner (map kind_aside ks)) → (o : Option (List Bracket)) → after ks o ≡ after (map kind_aside ks) o
    same_after more None = refl
    same_after more (Some inner) = more inner

-- the kinds of tokens, jointness aside
kinds_aside : (ts : Tokens) → map kind_aside (kinds_of ts) ≡ map (λ (l : Lexeme). l.kind) (lexemes_aside ts)
kinds_aside [] = refl
kinds_aside (t ∷ ts) = ap (λ ks. kind_aside t.kind ∷ ks) (kinds_aside ts)

-- lists that are equal aside both close in order, or neither does
same_closes : (ts us : Tokens) → AreEqualAside ts us → brackets.closes [] (kinds_of ts) ≡ brackets.closes [] (kinds_of us)
same_closes ts us same =
    let e : map kind_aside (kinds_of ts) ≡ map kind_aside (kinds_of us) = kinds_aside ts ∙ ap (map (λ (l : Lexeme). l.kind)) same ∙ sym (kinds_aside us) in
    closes_aside [] (kinds_of ts) ∙ ap (brackets.closes []) e ∙ sym (closes_aside [] (kinds_of us))

-- ---- fronts of lists that are equal aside

-- The front of the one goes further, by tokens that stand behind that of the other.
record Further (front rest longer : Tokens) : Type 0 where
  first : Token
  more : Tokens
  behind : Tokens
  is : rest ≡ first ∷ more ++ behind
  same : AreEqualAside (front ++ first ∷ more) longer

-- a front of one list is a front of the other
record Fronted (ts front : Tokens) : Type 0 where
  part_of : Tokens
  behind : Tokens
  is : ts ≡ part_of ++ behind
  same : AreEqualAside part_of front

fronted : (ts front rest : Tokens) → AreEqualAside ts (front ++ rest) → Fronted ts front
fronted ts [] rest same = record { part_of = []; behind = ts; is = refl; same = refl }
fronted [] (u ∷ front) rest same = absurd (aside_empty u (front ++ rest) same)
fronted (t ∷ ts) (u ∷ front) rest same =
    let f = fronted ts front rest (aside_rest t u ts (front ++ rest) same) in
    record { part_of = t ∷ f.part_of; behind = f.behind; is = ap (λ us. t ∷ us) f.is; same = aside_more t u f.part_of front (aside_first t u ts (front ++ rest) same) f.same }

-- the list goes further than an empty front
further_none : (rest : Tokens) (u : Token) (front left : Tokens) → AreEqualAside rest (u ∷ front ++ left) → Further [] rest (u ∷ front)
further_none [] u front left same = absurd (aside_empty u (front ++ left) same)
further_none (t ∷ rest) u front left same =
    let f = fronted rest front left (aside_rest t u rest (front ++ left) same) in
    record { first = t; more = f.part_of; behind = f.behind; is = ap (λ us. t ∷ us) f.is; same = aside_more t u f.part_of front (aside_first t u rest (front ++ left) same) f.same }

-- one more token before both
further_more : (t u : Token) (front rest longer : Tokens) → lexeme_aside t ≡ lexeme_aside u → Further front rest longer → Further (t ∷ front) rest (u ∷ longer)
further_more t u front rest longer first f =
    record { first = f.first; more = f.more; behind = f.behind; is = f.is; same = aside_more t u (front ++ f.first ∷ f.more) longer first f.same }

-- of two fronts one goes further, or they are equal and behind both stands the same
fronts_of : (front longer rest left : Tokens) → AreEqualAside (front ++ rest) (longer ++ left) → (AreEqualAside front longer × AreEqualAside rest left) ⊎ (Further front rest longer ⊎ Further longer left front)
fronts_of [] [] rest left same = inl (refl, same)
fronts_of [] (u ∷ longer) rest left same = inr (inl (further_none rest u longer left same))
fronts_of (t ∷ front) [] rest left same = inr (inr (further_none left t front rest (sym same)))
fronts_of (t ∷ front) (u ∷ longer) rest left same =
    let first = aside_first t u (front ++ rest) (longer ++ left) same in
    elim (fronts_of front longer rest left (aside_rest t u (front ++ rest) (longer ++ left) same)) [
      | inl e ↦ inl (aside_more t u front longer first e.0, e.1)
      | inr (inl f) ↦ inr (inl (further_more t u front rest longer first f))
      | inr (inr f) ↦ inr (inr (further_more u t longer left front (sym first) f))
    ]

-- ---- expressions

-- a closing bracket stands first
stop_first : (t : Token) (ts : Tokens) → sees_any (ends_of exprs) (t ∷ ts) ≡ true → (b : Bracket) × (is_stop b t.kind ≡ true)
unfolding sees_any sees
stop_first t ts h =
    ⊎_elim (λ a. (Round, (and_parts (closes Round t) true a).0))
    (λ o. ⊎_elim (λ a. (Square, (and_parts (closes Square t) true a).0))
    (λ o. ⊎_elim (λ a. (Curly, (and_parts (closes Curly t) true a).0)) (λ never. absurd (false≢true never)) (or_cases (closes Curly t && true) false o))
    (or_cases (closes Square t && true) ((closes Curly t && true) || false) o))
    (or_cases (closes Round t && true) ((closes Square t && true) || ((closes Curly t && true) || false)) h)

-- what is balanced goes no further than to a closing bracket
no_further : (front rest longer : Tokens) → IsBalanced front → IsBalanced longer → sees_any (ends_of exprs) rest ≡ true → Further front rest longer → ⊥
no_further front rest longer whole all ends f =
    let stops = stop_first f.first (f.more ++ f.behind) (subst (λ us. sees_any (ends_of exprs) us ≡ true) f.is ends) in
    let open_there : brackets.closes [] (kinds_of (front ++ f.first ∷ f.more)) ≡ false =
    ap (brackets.closes []) (kinds-append front (f.first ∷ f.more)) ∙ whole [] (f.first.kind ∷ kinds_of f.more)
    ∙ ap (λ k. brackets.closes [] (k ∷ kinds_of f.more)) (stop_kind stops.0 f.first.kind stops.1) in
    both_ways (brackets.closes [] (kinds_of longer)) (sym (same_closes (front ++ f.first ∷ f.more) longer f.same) ∙ open_there) (balanced_closes longer all)

-- an expression has the tokens that it was read from
expr_tokens : (bound budget : ℕ) (ts : Tokens) (x : Expr) → parts_below bound budget exprs ts x → x.written.tokens ≡ ts
unfolding parts_below Parses expression
expr_tokens zero budget ts x is = absurd is
expr_tokens (suc bound) budget ts x is = ap (λ (e : Expr). e.written.tokens) is.1 ∙ is.2.1

-- Expressions in lists that are equal aside, with closing brackets behind them, have equal tokens and end at the same place.
exprs_agree : (i j b c : ℕ) → Agree (readers_below i b exprs) (readers_below j c exprs) (ends_of exprs) (Kin exprs)
unfolding Parses
exprs_agree i j b c ts us rest left x y same h k s t =
    let v = parts_sound i b exprs ts rest x h in
    let w = parts_sound j c exprs us left y k in
    let whole : IsBalanced v.front = balanced_below i (part exprs) b v.front x v.is_in in
    let all : IsBalanced w.front = balanced_below j (part exprs) c w.front y w.is_in in
    elim (fronts_of v.front w.front rest left (aside_as v.whole w.whole same)) [
      | inl e ↦ (aside_as (sym (expr_tokens i b v.front x v.is_in)) (sym (expr_tokens j c w.front y w.is_in)) e.0, e.1)
      | inr (inl f) ↦ absurd (no_further v.front rest w.front whole all s f)
      | inr (inr f) ↦ absurd (no_further w.front left v.front all whole t f)
    ]

-- ---- types

-- each look-ahead of types settles
types_settle : settles any_type (ends_of types) ≡ true
unfolding settles is_steady loosened loose apart_aside colons_settled computed
types_settle = refl

-- each look-ahead of types settles in which `dyn` has one bound
plains_settle : settles plain_type (ends_of plains) ≡ true
unfolding settles is_steady loosened loose apart_aside colons_settled computed
plains_settle = refl

-- parts that are read of lists that are equal aside are related
parts_agree : (i j b c : ℕ) (p : Part) → Agree (readers_below i b p) (readers_below j c p) (ends_of p) (Kin p)
unfolding readers_below sees_any
parts_agree zero j b c p ts us rest left x y same h k s t = absurd (cc)
parts_agree (suc i) zero b c p ts us rest left x y same h k s t = absurd (cc)
parts_agree (suc i) (suc j) b c types ts us rest left x y same h k s t =
    let a = rule_agree Kin i j (parts_agree i j) any_type (ends_of types) types_settle b c ts us rest left x y same h k s t in (types_related x y a.0, a.1)
parts_agree (suc i) (suc j) b c plains ts us rest left x y same h k s t =
    let a = rule_agree Kin i j (parts_agree i j) plain_type (ends_of plains) plains_settle b c ts us rest left x y same h k s t in (plains_related x y a.0, a.1)
parts_agree (suc i) (suc j) b c exprs ts us rest left x y same h k s t = exprs_agree (suc i) (suc j) b c ts us rest left x y same h k s t
parts_agree (suc i) (suc j) b c trees ts us rest left x y same h k s t = absurd (false≢true s)

-- an empty list may stand behind a type
type_ends : sees_any (ends_of types) [] ≡ true
unfolding sees_any sees at_end
type_ends = refl

-- Types of tokens that are equal aside are alike, whatever the budgets.
pub types_alike : (b c : ℕ) (ts us : Tokens) (x y : Ty) → AreEqualAside ts us → Reads b any_type ts x → Reads c any_type us y → AlikeTypes x y
types_alike b c ts us x y same p q =
    let h : run (readers_below (suc b)) b any_type ts ≡ Ok (x, []) = sym (read_below b any_type ts) ∙ any_type_again b ts x p in
    let k : run (readers_below (suc c)) c any_type us ≡ Ok (y, []) = sym (read_below c any_type us) ∙ any_type_again c us y q in
    types_related x y (rule_agree Kin (suc b) (suc c) (parts_agree (suc b) (suc c)) any_type (ends_of types) types_settle b c ts us [] [] x y same h k type_ends type_ends).0
