-- Predicates that ask for a trait are predicates: behind a type stand `:` and the path of the trait.
use Rattle.std.proofs.Common.{◌≡◌, ℕ, suc, Bool, true, false, not, ◌&&◌, IsTrue, List, [], ◌∷◌, ◌++◌, codes, refl, ap, sym, subst, ◌∙◌, inl, inr, Some}
use Rattle.educe_tokens.specs.TokenKind.TheVariants as kind
use Rattle.educe_tokens.specs.Lexes.{Lexeme, lexeme_of, lexemes}
use Rattle.educe_tokens.specs.Quote.{quoted}
use Rattle.educe_tokens.specs.declared.token.Token.{Token}
use Rattle.educe_tokens.specs.declared.written.Written.{Written}
use Rattle.educe_tokens.proofs.Lists.{cons_parts, nil_not_cons}
use Rattle.educe_tree.specs.Names.{is_keyword}
use Rattle.educe_tree.specs.declared.path.Path.{out-roll-Path}
use Rattle.educe_tree.specs.declared.ty.Ty.{Ty}
use Rattle.educe_bound_traits.specs.declared.traits.Trait.{Trait}
use Rattle.educe_bound_traits.specs.declared.traits.Trait.TheVariants as trait
use Rattle.educe_grammar.specs.declared.terminal.Keyword.TheVariants as keyword
use Rattle.educe_grammar.specs.declared.terminal.Terminal.TheVariants as terminal
use Rattle.educe_grammar.specs.Ahead.{is_sign, is_joint, sees, begins_pair, begins_lone}
use Rattle.educe_grammar.specs.Combining.{behind_colon}
use Rattle.educe_grammar.specs.Generics.{bounded_type, type_predicate, any_predicate, predicate}
use Rattle.educe_grammar.specs.Names.{segment_name, segment_name_of}
use Rattle.educe_grammar.specs.Parsed.{depth_limit, IsWhole}
use Rattle.educe_grammar.specs.Reading.{Parses, Listed, Linked}
use Rattle.educe_grammar.specs.Reads.{parts}
use Rattle.educe_grammar.specs.Rules.{types}
use Rattle.educe_grammar.specs.Steps.{Tokens}
use Rattle.educe_grammar.specs.Terminals.{accepts, set_of, token_in}
use Rattle.educe_grammar.specs.Types.{BoundRead, SegmentRead, are_scope, bound, bound_path, bounds, is_path_read, may_follow, no_args, path_read, segment_read, type_args, type_path, type_segment, type_segments, any_type}
use Rattle.educe_grammar.proofs.Computed.{computed}
use Rattle.educe_grammar.proofs.Knot.{known}
use Rattle.educe_grammar.proofs.Known.{not_empty}
use Rattle.educe_grammar.proofs.Unrolling.{parts_roll}
use Rattle.educe_bound.specs.Predicates.{behind}

-- ---- tokens by their kinds and spellings

-- The first token of a list and the others.
record Taken (l : Lexeme) (ls : List Lexeme) (ts : Tokens) : Type 0 where
  first : Token
  rest : Tokens
  is : ts ≡ first ∷ rest
  one : lexeme_of first ≡ l
  others : lexemes rest ≡ ls

taken : (l : Lexeme) (ls : List Lexeme) (ts : Tokens) → lexemes ts ≡ l ∷ ls → Taken l ls ts
taken l ls [] is = absurd (nil_not_cons l ls is)
taken l ls (t ∷ ts) is = let e = cons_parts _ _ _ _ is in record { first = t; rest = ts; is = refl; one = e.0; others = e.1 }

-- a colon
abbrev colon : Bool → Lexeme
colon joint = record { kind = kind.Punct 58 joint; spelling = 58 ∷ [] }

-- an identifier
abbrev word : List ℕ → Lexeme
word text = record { kind = kind.Ident; spelling = text }

-- `: :: a :: b :: c`
abbrev asks_path : List ℕ → List ℕ → List ℕ → List Lexeme
asks_path a b c =
    colon false ∷ colon true ∷ colon false ∷ word a ∷ colon true ∷ colon false ∷ word b ∷ colon true ∷ colon false ∷ word c ∷ []

-- ---- paths of three words

-- the text is a segment of a path
abbrev IsSegment : List ℕ → Type 0
IsSegment text = token_in (set_of terminal.PathSegment) kind.Ident text ≡ true

segment_found : (text : List ℕ) (t : Token) → lexeme_of t ≡ word text → IsSegment text → IsTrue (accepts terminal.PathSegment t)
unfolding accepts
segment_found text t is segment = ap (λ (l : Lexeme). token_in (set_of terminal.PathSegment) l.kind l.spelling) is ∙ segment

-- two colons, the first joint with the second
colons_pair : (t u : Token) (rest : Tokens) → lexeme_of t ≡ colon true → lexeme_of u ≡ colon false → begins_pair 58 58 (t ∷ u ∷ rest) ≡ true
unfolding begins_pair
colons_pair t u rest first second = λ i. is_joint 58 ((first i).kind) && is_sign 58 ((second i).kind)

-- a colon that is not joint stands alone
colon_lone : (t : Token) (rest : Tokens) → lexeme_of t ≡ colon false → begins_lone 58 58 (t ∷ rest) ≡ true
unfolding begins_lone begins_pair
colon_lone t [] is = ap (λ (l : Lexeme). is_sign 58 l.kind && true) is
colon_lone t (u ∷ rest) is = ap (λ (l : Lexeme). is_sign 58 l.kind && not (is_joint 58 l.kind && is_sign 58 u.kind)) is

-- a segment without arguments
abbrev pub segment_of : (t : Token) → IsTrue (accepts terminal.PathSegment t) → SegmentRead
segment_of t passes = segment_read (segment_name_of (record { token = t; passes = passes }), no_args)

pub segment_reads : (budget : ℕ) (t : Token) (passes : IsTrue (accepts terminal.PathSegment t)) → Parses parts budget type_segment (t ∷ []) (segment_of t passes)
unfolding Parses type_segment segment_name type_args
segment_reads budget t passes =
    ((segment_name_of (record { token = t; passes = passes }), no_args), refl, (t ∷ [], [], refl, (record { token = t; passes = passes }, refl, refl), inr (inr (refl, refl))))

-- the path of a bound
path_reads : (budget : ℕ) (a b c : List ℕ) → IsSegment a → IsSegment b → IsSegment c → (ts : Tokens) → lexemes ts ≡ asks_path a b c → (found : List BoundRead) × Parses parts budget (behind_colon bounds) ts found
unfolding Parses may_follow bounds bound bound_path type_path type_segments
path_reads budget a b c is_a is_b is_c ts is =
    let t0 = taken _ _ ts is in
    let t1 = taken _ _ t0.rest t0.others in
    let t2 = taken _ _ t1.rest t1.others in
    let t3 = taken _ _ t2.rest t2.others in
    let t4 = taken _ _ t3.rest t3.others in
    let t5 = taken _ _ t4.rest t4.others in
    let t6 = taken _ _ t5.rest t5.others in
    let t7 = taken _ _ t6.rest t6.others in
    let t8 = taken _ _ t7.rest t7.others in
    let t9 = taken _ _ t8.rest t8.others in
    let none : t9.rest ≡ [] = no_more t9.rest t9.others in
    let last : t8.rest ≡ t9.first ∷ [] = t9.is ∙ ap (λ us. t9.first ∷ us) none in
    let second : t5.rest ≡ t6.first ∷ t7.first ∷ t8.first ∷ t9.first ∷ [] =
    t6.is ∙ ap (λ us. t6.first ∷ us) (t7.is ∙ ap (λ us. t7.first ∷ us) (t8.is ∙ ap (λ us. t8.first ∷ us) last)) in
    let first : t2.rest ≡ t3.first ∷ t4.first ∷ t5.first ∷ t6.first ∷ t7.first ∷ t8.first ∷ t9.first ∷ [] =
    t3.is ∙ ap (λ us. t3.first ∷ us) (t4.is ∙ ap (λ us. t4.first ∷ us) (t5.is ∙ ap (λ us. t5.first ∷ us) second)) in
    let whole : ts ≡ t0.first ∷ t1.first ∷ t2.first ∷ t2.rest = t0.is ∙ ap (λ us. t0.first ∷ us) (t1.is ∙ ap (λ us. t1.first ∷ us) t2.is) in
    let p3 = segment_found a t3.first t3.one is_a in
    let p6 = segment_found b t6.first t6.one is_b in
    let p9 = segment_found c t9.first t9.one is_c in
    let found : List SegmentRead = segment_of t3.first p3 ∷ segment_of t6.first p6 ∷ segment_of t9.first p9 ∷ [] in
    let linked : Linked (Parses parts budget type_segment) (t3.first ∷ t4.first ∷ t5.first ∷ t6.first ∷ t7.first ∷ t8.first ∷ t9.first ∷ []) found =
    Linked.more (t3.first ∷ []) (t6.first ∷ t7.first ∷ t8.first ∷ t9.first ∷ []) t4.first t5.first (segment_reads budget t3.first p3) (colons_pair t4.first t5.first _ t4.one t5.one)
    (Linked.more (t6.first ∷ []) (t9.first ∷ []) t7.first t8.first (segment_reads budget t6.first p6) (colons_pair t7.first t8.first _ t7.one t8.one)
    (Linked.last (t9.first ∷ []) (segment_reads budget t9.first p9))) in
    let read = path_read (true, found) in
    let rest : Tokens = t1.first ∷ t2.first ∷ t2.rest in
    let is_path : is_path_read read ≡ true = ap (λ r. not (are_scope r.leading r.segments)) (out-roll-Path _) in
    let path : Parses parts budget type_path rest read =
    (is_path, ((true, found), refl, (t1.first ∷ t2.first ∷ [], t2.rest, refl, inl (tt, refl, (refl, colons_pair t1.first t2.first [] t1.one t2.one)), (refl, subst (λ us. Linked (Parses parts budget type_segment) us found) (sym first) linked)))) in
    let one : Parses parts budget bound rest (Some read.0, read.1) =
    inr (inr (read, refl, ((false, read), refl, ([], rest, refl, inr (refl, refl), ((false, read), refl, ([], rest, refl, inr (refl, refl), path)))))) in (
      (Some read.0, read.1) ∷ [],
      (t0.first, rest, whole, ap (begins_lone 58 58) whole ∙ colon_lone t0.first rest t0.one, Listed.last rest one),
    )
  where
    no_more : (us : Tokens) → lexemes us ≡ [] → us ≡ []
    no_more [] is = refl
    no_more (u ∷ us) is = absurd (nil_not_cons (lexeme_of u) (lexemes us) (sym is))

-- what stands behind the type is by the rule
pub behind_reads : (budget : ℕ) (which : Trait) (ts : Tokens) → lexemes ts ≡ behind which → (found : List BoundRead) × Parses parts budget (behind_colon bounds) ts found
unfolding quoted is_keyword
behind_reads budget trait.Debug ts is = path_reads budget (codes "core") (codes "fmt") (codes "Debug") refl refl refl ts is
behind_reads budget trait.Clone ts is = path_reads budget (codes "core") (codes "clone") (codes "Clone") refl refl refl ts is
behind_reads budget trait.Copy ts is = path_reads budget (codes "core") (codes "marker") (codes "Copy") refl refl refl ts is
behind_reads budget trait.PartialEq ts is = path_reads budget (codes "core") (codes "cmp") (codes "PartialEq") refl refl refl ts is
behind_reads budget trait.Eq ts is = path_reads budget (codes "core") (codes "cmp") (codes "Eq") refl refl refl ts is
behind_reads budget trait.PartialOrd ts is = path_reads budget (codes "core") (codes "cmp") (codes "PartialOrd") refl refl refl ts is
behind_reads budget trait.Ord ts is = path_reads budget (codes "core") (codes "cmp") (codes "Ord") refl refl refl ts is
behind_reads budget trait.Hash ts is = path_reads budget (codes "core") (codes "hash") (codes "Hash") refl refl refl ts is
behind_reads budget trait.Default ts is = path_reads budget (codes "core") (codes "default") (codes "Default") refl refl refl ts is

-- ---- predicates

-- no type is empty
type_filled : (ty : Ty) → IsWhole any_type [] ty → ⊥
unfolding computed
type_filled ty is = not_empty (known (suc depth_limit)) any_type depth_limit refl ty is

-- what the first list does not begin with, both do not
still_unseen : (test : Token → Bool) (front rest : Tokens) → (front ≡ [] → ⊥) → sees test front ≡ false → sees test (front ++ rest) ≡ false
unfolding sees
still_unseen test [] rest filled h = absurd (filled refl)
still_unseen test (t ∷ ts) rest filled h = h

-- Behind a type that does not begin with `for`, `:` and the path of a trait make a predicate.
pub asked_reads : (which : Trait) (front back : Tokens) (ty : Ty) (w : Written) → IsWhole any_type front ty → sees (accepts (terminal.Word keyword.For)) front ≡ false → lexemes back ≡ behind which
    → w.tokens ≡ front ++ back → IsWhole predicate w.tokens (record { written = w })
unfolding Parses predicate any_predicate type_predicate bounded_type
asked_reads which front back ty w reads other is whole =
    let bound = behind_reads depth_limit which back is in
    let unseen : sees (accepts (terminal.Word keyword.For)) w.tokens ≡ false =
    ap (sees (accepts (terminal.Word keyword.For))) whole ∙ still_unseen _ front back (λ none. type_filled ty (subst (λ us. IsWhole any_type us ty) none reads)) other in
    ((tt, w), refl, (inr (inr (unseen, ((ty, bound.0), refl, (front, back, whole, parts_roll depth_limit types front ty reads, bound.1)))), refl))
