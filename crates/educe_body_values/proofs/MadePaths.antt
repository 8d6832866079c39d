-- A path that the program makes is the reading of its tokens.
use mathlib.Core.HLevel.{is_prop→PathP}
use Rattle.std.proofs.Common.{◌≡◌, ℕ, ◌&&◌, Bool, true, false, not, IsTrue, List, [], ◌∷◌, map, None, refl, sym, ap, subst, ◌∙◌, inl, inr}
use Rattle.std.specs.List.{list_all}
use Rattle.std.proofs.lemmas.Bool.{and_parts}
use Rattle.educe_tokens.specs.TokenKind.TheVariants as kind
use Rattle.educe_tokens.specs.Pieces.{spells}
use Rattle.educe_tokens.specs.declared.span.Span.{Span}
use Rattle.educe_tokens.specs.declared.token.Token.{Token}
use Rattle.educe_tokens.specs.Appends.{no_place, LieNowhere}
use Rattle.educe_tokens.specs.Lexes.{Lexeme, lexeme_of, lexemes}
use Rattle.educe_tokens.specs.Quote.{quoted}
use Rattle.educe_tokens.proofs.Lists.{cons_parts, nil_not_cons}
use Rattle.educe_tree.specs.Names.{is_keyword}
use Rattle.educe_tree.specs.declared.ident.Ident.{Ident}
use Rattle.educe_tree.specs.declared.expr.ExprPath.{ExprPath}
use Rattle.educe_tree.specs.declared.path.Args.{Args}
use Rattle.educe_tree.specs.declared.path.Args.TheVariants as args
use Rattle.educe_tree.specs.declared.path.Path.{Path, out-Path, roll-Path, roll-out-Path}
use Rattle.educe_tree.specs.declared.path.Segment.{Segment, out-Segment, roll-Segment, roll-out-Segment}
use Rattle.educe_grammar.specs.declared.terminal.Terminal.TheVariants as terminal
use Rattle.educe_grammar.specs.Ahead.{begins_pair, is_joint, is_sign}
use Rattle.educe_grammar.specs.Expressions.{expr_segment, local_expr_path, any_expr_path, expr_path}
use Rattle.educe_grammar.specs.Names.{segment_name, segment_name_of}
use Rattle.educe_grammar.specs.Parsed.{depth_limit, IsWhole}
use Rattle.educe_grammar.specs.Reading.{Parses, Linked}
use Rattle.educe_grammar.specs.Reads.{Reads}
use Rattle.educe_grammar.specs.Terminals.{accepts, set_of, token_in, word_in, segment_words}
use Rattle.educe_grammar.specs.Types.{segment_of, path_of, are_scope}
use Rattle.educe_grammar.proofs.Steps.{IsTrue-prop}
use Rattle.educe_body_values.specs.declared.callee.BuiltIn.{BuiltIn}
use Rattle.educe_body_values.specs.declared.callee.BuiltIn.TheVariants.{Ne, Cmp, PartialCmp, Hash, Clone, CloneFrom}
use Rattle.educe_body_values.specs.BuiltIn.{path_lexemes, said_by, name_alone, IsMade, IsBuiltIn}
use Rattle.educe_body_values.specs.Callees.{path_names}

-- ---- the tokens of paths of names

abbrev colon : Bool → Lexeme
colon joint = record { kind = kind.Punct 58 joint; spelling = 58 ∷ [] }

abbrev name_lexeme : List ℕ → Lexeme
name_lexeme name = record { kind = kind.Ident; spelling = name }

-- each name behind `::`
abbrev names_lexemes : List (List ℕ) → List Lexeme
names_lexemes [] = []
names_lexemes (name ∷ names) = colon true ∷ colon false ∷ name_lexeme name ∷ names_lexemes names

-- the names may be segments
abbrev are_segments : List (List ℕ) → Bool
are_segments names = list_all (λ name. word_in segment_words name) names

-- ---- a segment

-- names of one text and one place are equal
ident_same : (a b : Ident) → a.text ≡ b.text → a.span ≡ b.span → a ≡ b
ident_same a b text span = λ i. record {
  text = text i;
  span = span i;
  spelled = is_prop→PathP (λ j. IsTrue (spells kind.Ident (text j))) (λ j. IsTrue-prop _) a.spelled b.spelled i;
}

-- the token is the name of the segment
name_reads : (budget : ℕ) (t : Token) (ident : Ident) → t.kind ≡ kind.Ident → IsTrue (word_in segment_words t.spelling) → ident.text ≡ t.spelling → ident.span ≡ t.span
    → Reads budget segment_name (t ∷ []) ident
unfolding Parses segment_name accepts
name_reads budget t ident is word text span =
    let passes : IsTrue (accepts terminal.PathSegment t) = subst (λ k. IsTrue (token_in (set_of terminal.PathSegment) k t.spelling)) (sym is) word in
    (record { token = t; passes = passes }, ident_same ident (segment_name_of (record { token = t; passes = passes })) text span, refl)

-- a segment that says a name alone is made of it
alone_is : (s : Segment) (name : List ℕ) → said_by s ≡ name_alone name → s ≡ segment_of (out-Segment s).ident args.None
alone_is s name said =
    sym (roll-out-Segment s) ∙ (λ i. roll-Segment (record { ident = (out-Segment s).ident; args = ap (λ (p : List ℕ × Span × Args). p.2) said i }))

-- a token is the segment that says it as a name alone
segment_reads : (budget : ℕ) (t : Token) (s : Segment) (name : List ℕ) → lexeme_of t ≡ name_lexeme name → t.span ≡ no_place → said_by s ≡ name_alone name → IsTrue (word_in segment_words name)
    → Reads budget expr_segment (t ∷ []) s
unfolding Parses expr_segment
segment_reads budget t s name is place said known =
    let spelling : t.spelling ≡ name = ap (λ (l : Lexeme). l.spelling) is in
    let word : IsTrue (word_in segment_words t.spelling) = subst (λ text. IsTrue (word_in segment_words text)) (sym spelling) known in
    let text : (out-Segment s).ident.text ≡ t.spelling = ap (λ (p : List ℕ × Span × Args). p.0) said ∙ sym spelling in
    let span : (out-Segment s).ident.span ≡ t.span = ap (λ (p : List ℕ × Span × Args). p.1) said ∙ sym place in (
      ((out-Segment s).ident, None),
      alone_is s name said,
      (t ∷ [], [], refl, name_reads budget t (out-Segment s).ident (ap (λ (l : Lexeme). l.kind) is) word text span, inr (refl, refl)),
    )

-- ---- segments with `::` between

-- `::`
pair_is : (a b : Token) (rest : List Token) → lexeme_of a ≡ colon true → lexeme_of b ≡ colon false → begins_pair 58 58 (a ∷ b ∷ rest) ≡ true
unfolding begins_pair
pair_is a b rest first second =
    ap (λ (l : Lexeme). is_joint 58 l.kind && is_sign 58 b.kind) first ∙ ap (λ (l : Lexeme). is_joint 58 (kind.Punct 58 true) && is_sign 58 l.kind) second

-- a name, and further ones each behind `::`
linked : (budget : ℕ) (t : Token) (more : List Token) (name : List ℕ) (names : List (List ℕ)) (segments : List Segment)
    → lexemes (t ∷ more) ≡ name_lexeme name ∷ names_lexemes names → LieNowhere (t ∷ more) → map said_by segments ≡ map name_alone (name ∷ names)
    → are_segments (name ∷ names) ≡ true → Linked (Reads budget expr_segment) (t ∷ more) segments
linked budget t more name names [] is nowhere said known = absurd (nil_not_cons _ _ said)
linked budget t [] name [] (s ∷ []) is nowhere said known =
    Linked.last (t ∷ []) (segment_reads budget t s name (cons_parts _ _ _ _ is).0 nowhere.0 (cons_parts _ _ _ _ said).0 (and_parts _ _ known).0)
linked budget t [] name [] (s ∷ s2 ∷ ss) is nowhere said known = absurd (nil_not_cons _ _ (sym (cons_parts _ _ _ _ said).1))
linked budget t [] name (n ∷ ns) (s ∷ ss) is nowhere said known = absurd (nil_not_cons _ _ (cons_parts _ _ _ _ is).1)
linked budget t (a ∷ more) name [] (s ∷ ss) is nowhere said known = absurd (nil_not_cons _ _ (sym (cons_parts _ _ _ _ is).1))
linked budget t (a ∷ []) name (n ∷ ns) (s ∷ ss) is nowhere said known =
    absurd (nil_not_cons _ _ (cons_parts _ _ _ _ (cons_parts _ _ _ _ is).1).1)
linked budget t (a ∷ b ∷ []) name (n ∷ ns) (s ∷ ss) is nowhere said known =
    absurd (nil_not_cons _ _ (cons_parts _ _ _ _ (cons_parts _ _ _ _ (cons_parts _ _ _ _ is).1).1).1)
linked budget t (a ∷ b ∷ c ∷ rest) name (n ∷ ns) (s ∷ ss) is nowhere said known =
    let front = cons_parts _ _ _ _ is in
    let first = cons_parts _ _ _ _ front.1 in
    let second = cons_parts _ _ _ _ first.1 in
    let told = cons_parts _ _ _ _ said in
    let may = and_parts _ _ known in
    Linked.more (t ∷ []) (c ∷ rest) a b (segment_reads budget t s name front.0 nowhere.0 told.0 may.0) (pair_is a b (c ∷ rest) first.0 second.0)
    (linked budget c rest n ns ss second.1 nowhere.1.1.1 told.1 may.1)

-- ---- the path

-- the tree is the path that was read
path_is : (path : Path) → (out-Path path).leading ≡ true → path ≡ path_of true (out-Path path).segments
path_is path leading = sym (roll-out-Path path) ∙ (λ i. roll-Path (record { leading = leading i; segments = (out-Path path).segments }))

-- the tokens `::` and a path of names
reads_from : (budget : ℕ) (tokens : List Token) (name : List ℕ) (names : List (List ℕ)) (path : ExprPath)
    → tokens ≡ path.written.tokens → lexemes tokens ≡ names_lexemes (name ∷ names) → LieNowhere tokens → path.self_type ≡ None → (out-Path path.path).leading ≡ true
    → map said_by (out-Path path.path).segments ≡ map name_alone (name ∷ names) → are_segments (name ∷ names) ≡ true → Reads budget expr_path tokens path
unfolding Parses expr_path any_expr_path local_expr_path
reads_from budget [] name names path same is nowhere unqualified leading said known = absurd (nil_not_cons _ _ is)
reads_from budget (a ∷ []) name names path same is nowhere unqualified leading said known = absurd (nil_not_cons _ _ (cons_parts _ _ _ _ is).1)
reads_from budget (a ∷ b ∷ []) name names path same is nowhere unqualified leading said known =
    absurd (nil_not_cons _ _ (cons_parts _ _ _ _ (cons_parts _ _ _ _ is).1).1)
reads_from budget (a ∷ b ∷ c ∷ rest) name names path same is nowhere unqualified leading said known =
    let first = cons_parts _ _ _ _ is in
    let second = cons_parts _ _ _ _ first.1 in
    let tail = linked budget c rest name names (out-Path path.path).segments second.1 nowhere.1.1 said known in
    let whole : path ≡ record { self_type = None; path = path.path; written = path.written } = λ i. record { self_type = unqualified i; path = path.path; written = path.written } in (
      ((None, path.path), path.written),
      whole,
      (
        inr (
          ap (λ (front : Bool). not (are_scope front (out-Path path.path).segments)) leading,
          (
            (true, (out-Path path.path).segments),
            (λ i. (None, path_is path.path leading i)),
            (a ∷ b ∷ [], c ∷ rest, refl, inl (tt, refl, (refl, pair_is a b [] first.0 second.0)), tail),
          ),
        ),
        sym same,
      ),
    )

-- a path that was made with these tokens and names is the reading of its tokens
made_reads : (name : List ℕ) (names : List (List ℕ)) (path : ExprPath) → are_segments (name ∷ names) ≡ true → IsMade (names_lexemes (name ∷ names)) (name ∷ names) path
    → IsWhole expr_path path.written.tokens path
made_reads name names path known made = reads_from depth_limit path.written.tokens name names path refl made.held made.nowhere made.unqualified made.leading made.segments known

-- the path that is made for a built-in function is the reading of its tokens
pub built_in_reads : (which : BuiltIn) (path : ExprPath) → IsMade (path_lexemes which) (path_names which) path → IsBuiltIn which path
unfolding quoted is_keyword
built_in_reads Ne path made = record { made = made; reads = made_reads _ _ path refl made }
built_in_reads Cmp path made = record { made = made; reads = made_reads _ _ path refl made }
built_in_reads PartialCmp path made = record { made = made; reads = made_reads _ _ path refl made }
built_in_reads Hash path made = record { made = made; reads = made_reads _ _ path refl made }
built_in_reads Clone path made = record { made = made; reads = made_reads _ _ path refl made }
built_in_reads CloneFrom path made = record { made = made; reads = made_reads _ _ path refl made }
