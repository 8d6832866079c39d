-- The predicates of the automatic bounds are predicates, and so are those of a list that is read.
use Rattle.std.proofs.Common.{◌≡◌, ℕ, Bool, true, false, not, ◌&&◌, ◌||◌, List, [], ◌∷◌, ◌++◌, codes, refl, ap, sym, subst, ◌∙◌, inl, inr, Option, Some, None, append-nil}
use Rattle.std.specs.Prelude.{if◌then◌else◌}
use Rattle.std.specs.Str.{bytes_eq}
use Rattle.std.proofs.lemmas.Bool.{cases_Bool, both_ways, false≢true}
use Rattle.std.proofs.lemmas.Slice.Eq.{bytes_eq-Decides}
use Rattle.educe_tokens.specs.TokenKind.TheVariants as kind
use Rattle.educe_tokens.specs.Copied.{copied, may_be_copied}
use Rattle.educe_tokens.specs.WrittenLexemes.{written_lexemes}
use Rattle.educe_tokens.specs.Lexes.{Lexeme, lexeme_of, lexemes}
use Rattle.educe_tokens.specs.declared.token.Token.{Token}
use Rattle.educe_tokens.specs.declared.written.Written.{Written}
use Rattle.educe_tokens.proofs.Lists.{cons_parts, nil_not_cons}
use Rattle.educe_tree.specs.Names.{is_name, is_keyword}
use Rattle.educe_tree.specs.declared.generics.GenericParam.{GenericParam}
use Rattle.educe_tree.specs.declared.generics.WherePredicate.{WherePredicate}
use Rattle.educe_tree.specs.declared.path.Args.TheVariants as args
use Rattle.educe_tree.specs.declared.path.Path.{out-roll-Path}
use Rattle.educe_tree.specs.declared.path.Segment.{out-roll-Segment}
use Rattle.educe_tree.specs.declared.ty.Ty.{Ty, out-Ty, out-roll-Ty}
use Rattle.educe_grammar.specs.declared.terminal.Keyword.TheVariants as keyword
use Rattle.educe_grammar.specs.declared.terminal.Terminal.TheVariants as terminal
use Rattle.educe_grammar.specs.Ahead.{sees, sees_any}
use Rattle.educe_grammar.specs.Combining.{at_word}
use Rattle.educe_grammar.specs.Generics.{predicate, predicates}
use Rattle.educe_grammar.specs.Names.{segment_name_of}
use Rattle.educe_grammar.specs.Parsed.{depth_limit, IsWhole}
use Rattle.educe_grammar.specs.Reading.{Parses, Listed, Linked}
use Rattle.educe_grammar.specs.Readings.{IsReadPredicate}
use Rattle.educe_grammar.specs.Reads.{Reads, parts}
use Rattle.educe_grammar.specs.Rules.{Rule, Typed, made, under, checked}
use Rattle.educe_grammar.specs.Steps.{Tokens}
use Rattle.educe_grammar.specs.Terminals.{accepts, set_of, token_in}
use Rattle.educe_grammar.specs.Types.{any_bounds_form, any_type, are_scope, bounds, bounds_form, fn_of, fn_pointer, has_no_args, is_path_read, is_scope_word, may_follow, never_of, path_form, path_read, plain_form, pointer, qualified, reference, round_form, some_bounds, square_form, type_path, type_segments, untyped_of}
use Rattle.educe_grammar.specs.Combining.{sign}
use Rattle.educe_grammar.proofs.Apart.{all_apart}
use Rattle.educe_grammar.proofs.Computed.{computed}
use Rattle.educe_grammar.proofs.Deciding.{no_token}
use Rattle.educe_grammar.proofs.Aside.{accepts_same, sees_same}
use Rattle.educe_grammar.proofs.Knot.{known}
use Rattle.educe_grammar.proofs.Known.{firsts, begins_not}
use Rattle.educe_grammar.proofs.Looks.{anything}
use Rattle.educe_grammar.proofs.Sets.{are_disjoint, disjoint_sound}
use Rattle.educe_bound_classes.specs.Asked.{IsAskedType}
use Rattle.educe_bound_classes.specs.Classes.{class_of, class_by, is_unconditional, is_unconditional_form, mentions, names_in, parts_of}
use Rattle.educe_bound_classes.specs.Questions.{uses_params}
use Rattle.educe_bound_classes.specs.Deriving.{other}
use Rattle.educe_bound_classes.specs.Exceptions.{Exceptions}
use Rattle.educe_bound_classes.proofs.ClassLaws.{unconditional-FnPtr}
use Rattle.educe_bound_classes.proofs.OneName.{name_accepted}
use Rattle.educe_attrs_values.specs.declared.choices.WherePredicatesOrBool.{WherePredicatesOrBool}
use Rattle.educe_attrs_values.specs.declared.choices.WherePredicatesOrBool.TheVariants as value
use Rattle.educe_attrs_values.specs.declared.source.Source.{Source}
use Rattle.educe_attrs_values.specs.Values.{IsBound}
use Rattle.educe_bound_traits.specs.declared.traits.Trait.{Trait}
use Rattle.educe_bound.specs.Bounds.{bound_of}
use Rattle.educe_bound.specs.Laws.{PredicateLaws}
use Rattle.educe_bound.specs.Predicates.{AreRead, IsReadBound, behind}
use Rattle.educe_bound.proofs.AskedReads.{segment_of, segment_reads, asked_reads}
use Rattle.educe_bound.proofs.CopiedTokens.{copy_of, copies_aside}
use Rattle.educe_bound.proofs.CopiedParts.{copied_type}

-- the tokens begin with `for`
abbrev begins_for : Tokens → Bool
begins_for ts = sees (accepts (terminal.Word keyword.For)) ts

-- ---- function pointers

-- what the rule reads does not begin with `for`
apart_for : {A : Type 0} (g : Rule A) (budget : ℕ) (front : Tokens) (x : A) → all_apart (firsts g anything) (at_word keyword.For) ≡ true → Parses parts budget g front x → begins_for front ≡ true → ⊥
apart_for g budget front x apart is begins =
    let none = begins_not (known depth_limit) g (at_word keyword.For) budget front [] x apart is in
    both_ways (begins_for front) (no_token (terminal.Word keyword.For) front (ap (sees_any (at_word keyword.For)) (sym (append-nil front)) ∙ none)) begins

module _ (params : List GenericParam) (ex : Exceptions) where
  fn_unconditional : (inputs : List Ty) (o : Option Typed) → is_unconditional_form params ex (fn_of (inputs, o)).0 ≡ true
  fn_unconditional inputs None = unconditional-FnPtr params ex inputs None
  fn_unconditional inputs (Some output) = unconditional-FnPtr params ex inputs (Some output.0)

  -- of a type that begins with `for` nothing is asked
  for_unconditional : (budget : ℕ) (ts : Tokens) (ty : Ty) → Reads budget any_type ts ty → begins_for ts ≡ true → is_unconditional params ex ty ≡ true
  unfolding Parses any_type any_bounds_form plain_form fn_pointer computed
  for_unconditional budget ts ty is begins =
      ap (λ (t : Ty). is_unconditional_form params ex t.form) is.1
      ∙ ap (λ r. is_unconditional_form params ex r.form) (out-roll-Ty (record { form = is.0.0.0; written = is.0.1 }))
      ∙ (elim is.2.0 [
        | inl w ↦ absurd (apart_for (made bounds_form (under (terminal.Word keyword.Dyn) (checked some_bounds bounds))) budget ts is.0.0 refl w begins)
        | inr (inl w) ↦ absurd (apart_for round_form budget ts is.0.0 refl w begins)
        | inr (inr (inl w)) ↦ absurd (apart_for (made never_of (sign 33)) budget ts is.0.0 refl w begins)
        | inr (inr (inr (inl w))) ↦ absurd (apart_for reference budget ts is.0.0 refl w begins)
        | inr (inr (inr (inr (inl w)))) ↦ absurd (apart_for pointer budget ts is.0.0 refl w begins)
        | inr (inr (inr (inr (inr (inl w))))) ↦ absurd (apart_for square_form budget ts is.0.0 refl w begins)
        | inr (inr (inr (inr (inr (inr (inl w)))))) ↦ absurd (apart_for qualified budget ts is.0.0 refl w begins)
        | inr (inr (inr (inr (inr (inr (inr (inl w))))))) ↦ ap (λ f. is_unconditional_form params ex f.0) w.1 ∙ fn_unconditional w.0.0 w.0.1
        | inr (inr (inr (inr (inr (inr (inr (inr w))))))) ↦ absurd (apart_for (made path_form type_path) budget ts is.0.0 refl w begins)
      ])

  -- where the type itself is asked, not nothing is
  not_other : (self : List ℕ) (a b : Bool) (o : Option (List Ty)) (c : Bool) (names : List (List ℕ)) → class_by params ex self a b o c names ≡ other → a ≡ true → ⊥
  not_other self true b o c names is nothing = cc
  not_other self false b o c names is nothing = absurd (false≢true nothing)

  other_asks : (self : List ℕ) (ty : Ty) → class_of params ex self ty ≡ other → is_unconditional params ex ty ≡ true → ⊥
  other_asks self ty is nothing =
      not_other self (is_unconditional params ex ty) (uses_params params ty) (parts_of params ex ty) (mentions params ex self ty) (names_in params ex ty) is nothing

  -- The predicate that a type needs of itself is one.
  pub itself_asked : (self : List ℕ) (which : Trait) (ty : Ty) (w : Written) (front back : Tokens) → IsWhole any_type (out-Ty ty).written.tokens ty → class_of params ex self ty ≡ other
      → lexemes front ≡ copied (lexemes (out-Ty ty).written.tokens) → lexemes back ≡ behind which → w.tokens ≡ front ++ back → IsWhole predicate w.tokens (record { written = w })
  itself_asked self which ty w front back is asked same path whole =
      let own = (out-Ty ty).written.tokens in
      let copy = copied_type depth_limit own front ty same is in
      let first : begins_for own ≡ begins_for front =
      sees_same (accepts (terminal.Word keyword.For)) (accepts_same (terminal.Word keyword.For)) own front (copies_aside own front (copy_of own front same)) in
      let unseen : begins_for own ≡ false =
      elim (cases_Bool (begins_for own)) [ inl begins ↦ absurd (other_asks self ty asked (for_unconditional depth_limit own ty is begins)) | inr none ↦ none ] in
      asked_reads which front back copy.0 w copy.1 (sym first ∙ unseen) path whole

-- ---- parameters

-- a name is none of `self`, `super` and `crate`
apart_from : (word text : List ℕ) → is_name kind.Ident word ≡ false → is_name kind.Ident text ≡ true → bytes_eq text word ≡ false
apart_from word text never named =
    elim (cases_Bool (bytes_eq text word)) [
      | inl same ↦ absurd (both_ways (is_name kind.Ident text) (ap (is_name kind.Ident) ((bytes_eq-Decides text word).0 same) ∙ never) named)
      | inr unlike ↦ unlike
    ]

scope_apart : (text : List ℕ) → is_name kind.Ident text ≡ true → is_scope_word text ≡ false
unfolding is_keyword
scope_apart text name = λ i.
    if apart_from (codes "self") text refl name i then true else if apart_from (codes "super") text refl name i then true else apart_from (codes "crate") text refl name i

-- a name is in the set of names
name_in_set : (text : List ℕ) → is_name kind.Ident text ≡ true → token_in (set_of terminal.Name) kind.Ident text ≡ true
name_in_set text name = ap (λ b. b || false) name

-- `for` is no name
name_no_for : (t : Token) → t.kind ≡ kind.Ident → is_name kind.Ident t.spelling ≡ true → begins_for (t ∷ []) ≡ false
unfolding sees accepts are_disjoint
name_no_for t ident name =
    ap (λ k. token_in (set_of (terminal.Word keyword.For)) k t.spelling) ident ∙ disjoint_sound (set_of terminal.Name) (set_of (terminal.Word keyword.For)) kind.Ident t.spelling refl (name_in_set t.spelling name)

-- a name is a type
name_reads : (budget : ℕ) (t : Token) (ident : t.kind ≡ kind.Ident) (name : is_name kind.Ident t.spelling ≡ true) (w : Written) → w.tokens ≡ t ∷ [] → (ty : Ty) × Reads budget any_type (t ∷ []) ty
unfolding Parses any_type any_bounds_form plain_form type_path type_segments may_follow
name_reads budget t ident name w alone =
    let passes = name_accepted t ident name in
    let read = path_read (false, segment_of t passes ∷ []) in
    let is_path : is_path_read read ≡ true =
    ap (λ r. not (are_scope r.leading r.segments)) (out-roll-Path _) ∙ ap (λ r. not (is_scope_word r.ident.text && has_no_args r.args)) (out-roll-Segment (record { ident = segment_name_of (record { token = t; passes = passes }); args = args.None }))
    ∙ ap (λ (b : Bool). not (b && true)) (scope_apart t.spelling name) in (
      untyped_of (path_form read, w),
      (
        (path_form read, w),
        refl,
        (
          inr (inr (inr (inr (inr (inr (inr (inr (read, refl, (is_path, ((false, segment_of t passes ∷ []), refl, ([], t ∷ [], refl, inr (refl, refl), (refl, Linked.last (t ∷ []) (segment_reads budget t passes))))))))))))),
          alone,
        ),
      ),
    )

-- The predicate that is asked of a parameter is one.
pub param_asked : (which : Trait) (text : List ℕ) (w own : Written) (t : Token) (back : Tokens) → is_name kind.Ident text ≡ true → lexeme_of t ≡ record { kind = kind.Ident; spelling = text } → own.tokens ≡ t ∷ []
    → lexemes back ≡ behind which → w.tokens ≡ t ∷ back → IsWhole predicate w.tokens (record { written = w })
param_asked which text w own t back named is alone path whole =
    let ident = ap (λ (l : Lexeme). l.kind) is in
    let name = ap (λ (l : Lexeme). is_name kind.Ident l.spelling) is ∙ named in
    let read = name_reads depth_limit t ident name own alone in
    asked_reads which (t ∷ []) back read.0 w read.1 (name_no_for t ident name) path whole

-- ---- lists of predicates

one_read : (ts : Tokens) (p : WherePredicate) → IsWhole predicate ts p → IsReadPredicate p
unfolding Parses predicate
one_read ts p is = subst (λ us. IsWhole predicate us p) (sym (ap (λ (q : WherePredicate). q.written.tokens) is.1 ∙ is.2.1)) is

listed_read : (separates : Token → Bool) {ts : Tokens} {ps : List WherePredicate} → Listed (Parses parts depth_limit predicate) separates ts ps → AreRead ps
listed_read separates Listed.none = tt
listed_read separates (Listed.last {x = x} ts is) = (one_read ts x is, tt)
listed_read separates (Listed.more {x = x} front rest separator is between others) = (one_read front x is, listed_read separates others)

-- Each predicate of a list that is read is one.
pub predicates_read : (ts : Tokens) (ps : List WherePredicate) → IsWhole predicates ts ps → AreRead ps
unfolding Parses predicates
predicates_read ts ps is = listed_read _ is

-- ---- laws

-- tokens of which the first are these, and the others those
record Parted (ls ms : List Lexeme) (ts : Tokens) : Type 0 where
  front : Tokens
  back : Tokens
  is : ts ≡ front ++ back
  first : lexemes front ≡ ls
  later : lexemes back ≡ ms

parted : (ls ms : List Lexeme) (ts : Tokens) → lexemes ts ≡ ls ++ ms → Parted ls ms ts
parted [] ms ts is = record { front = []; back = ts; is = refl; first = refl; later = is }
parted (l ∷ ls) ms [] is = absurd (nil_not_cons l (ls ++ ms) is)
parted (l ∷ ls) ms (t ∷ ts) is =
    let e = cons_parts _ _ _ _ is in
    let p = parted ls ms ts e.1 in
    record { front = t ∷ p.front; back = p.back; is = ap (λ us. t ∷ us) p.is; first = λ i. e.0 i ∷ p.first i; later = p.later }

-- what a type needs of itself
type_law : (params : List GenericParam) (ex : Exceptions) (self : List ℕ) (which : Trait) (ty : Ty) (p : WherePredicate) → IsAskedType params ex self ty
    → lexemes p.written.tokens ≡ written_lexemes (out-Ty ty).written ++ behind which → IsReadPredicate p
type_law params ex self which ty p is tokens =
    let t = parted _ _ p.written.tokens tokens in itself_asked params ex self which ty p.written t.front t.back is.reads is.class t.first t.later t.is

-- what is asked of a parameter
param_law : (which : Trait) (text : List ℕ) (p : WherePredicate) → is_name kind.Ident text ≡ true
    → lexemes p.written.tokens ≡ record { kind = kind.Ident; spelling = text } ∷ behind which → IsReadPredicate p
param_law which text p named tokens = step p.written.tokens refl tokens
  where
    step : (ts : Tokens) → p.written.tokens ≡ ts → lexemes ts ≡ record { kind = kind.Ident; spelling = text } ∷ behind which → IsReadPredicate p
    step [] whole is = absurd (nil_not_cons _ _ is)
    step (t ∷ ts) whole is =
        let e = cons_parts _ _ _ _ is in
        let own : Written = record { tokens = t ∷ []; written = ap (λ (l : Lexeme). may_be_copied (l ∷ [])) e.0 } in
        param_asked which text p.written own t ts named e.0 refl e.1 whole

-- what a parameter `bound` says
bound_law : (value : WherePredicatesOrBool) (s : Source) → IsBound s value → IsReadBound (bound_of value)
bound_law (value.WherePredicates ps) s (IsBound.quoted text found only reads) = predicates_read reads.inner found reads.whole
bound_law (value.WherePredicates ps) s (IsBound.standing found enclosed truth star text reads) = predicates_read s.tokens found reads
bound_law (value.Bool true) s is = tt
bound_law (value.Bool false) s is = tt
bound_law value.All s is = tt

pub laws : PredicateLaws
laws = record { types = type_law; params = param_law; lists = predicates_read; bounds = bound_law }
