-- The predicates that ask for a trait: their tokens, and that these may be copied.
use Rattle.std.proofs.Common.{◌≡◌, IsTrue, List, [], ◌∷◌, ◌++◌, map, refl, sym, ap, ◌∙◌, subst, append-nil}
use Rattle.std.specs.Prelude.{IfSome, true}
use Rattle.std.specs.List.{AllByRecursion, filter_map}
use Rattle.educe_tokens.specs.TokenKind.TheVariants as kind
use Rattle.educe_tree.specs.Names.{is_name}
use Rattle.std.proofs.lemmas.Bool.{and_from}
use Rattle.std.proofs.lemmas.List.{map-append}
use Rattle.std.proofs.lemmas.List.Elements.{filter_map-append}
use Rattle.educe_tokens.specs.declared.token.Token.{Token}
use Rattle.educe_tokens.specs.Lexes.{Lexeme, lexemes}
use Rattle.educe_tokens.specs.Brackets.{kinds}
use Rattle.educe_tokens.specs.Copied.{copied, copied_kind, may_be_copied, unjoin, unjoined}
use Rattle.educe_tokens.specs.Quote.{quoted}
use Rattle.educe_tokens.specs.Text.{IsWellFormed, is_written}
use Rattle.educe_tokens.specs.ToTokens.{EndsApart}
use Rattle.educe_tokens.proofs.Copying.{copied_kinds, may_be_copied-written}
use Rattle.educe_tokens.proofs.Writing.{written-append}
use Rattle.educe_syntax.specs.Alike.{lexemes_aside}
use Rattle.educe_syntax.specs.GenericParam.{GenericParam}
use Rattle.educe_syntax.specs.GenericParam.TheVariants as param
use Rattle.educe_syntax.specs.TypeParam.{TypeParam}
use Rattle.educe_bound_classes.specs.Classes.{type_name}
use Rattle.educe_bound_classes.specs.Needs.{param_of}
use Rattle.educe_bound_traits.specs.declared.traits.Trait.{Trait}
use Rattle.educe_bound_traits.specs.declared.traits.Trait.TheVariants as trait
use Rattle.educe_bound.specs.Predicates.{Key, asks_for, behind, on_each_param}

-- it may stand beside other tokens
behind_written : (which : Trait) → IsTrue (is_written (behind which))
unfolding quoted
behind_written trait.Debug = refl
behind_written trait.Clone = refl
behind_written trait.Copy = refl
behind_written trait.PartialEq = refl
behind_written trait.Eq = refl
behind_written trait.PartialOrd = refl
behind_written trait.Ord = refl
behind_written trait.Hash = refl
behind_written trait.Default = refl

-- the tokens of a predicate may be copied
pub may_be_asked : (tokens : List Token) (front : List Lexeme) (which : Trait) → lexemes tokens ≡ front ++ behind which → IsWellFormed front → EndsApart front
    → IsTrue (may_be_copied (lexemes tokens))
may_be_asked tokens front which is well apart =
    subst (λ xs. IsTrue (may_be_copied xs)) (sym is)
    (may_be_copied-written (front ++ behind which) (written-append front (behind which) (and_from _ _ well apart) (behind_written which)))

-- tokens aside are their lexemes, unjoined
aside_of : (tokens : List Token) → lexemes_aside tokens ≡ map unjoin (lexemes tokens)
aside_of [] = refl
aside_of (t ∷ tokens) = λ i. unjoin (record { kind = t.kind; spelling = t.spelling }) ∷ aside_of tokens i

-- the key of a predicate
pub asked_key_is : (tokens : List Token) (front : List Lexeme) (which : Trait) → lexemes tokens ≡ front ++ behind which → lexemes_aside tokens ≡ map unjoin front ++ asks_for which
asked_key_is tokens front which is = aside_of tokens ∙ ap (map unjoin) is ∙ map-append unjoin front (behind which)

-- copies are the same aside
first_kind : (x : Lexeme) (xs : List Lexeme) → unjoined (copied_kind x.kind (kinds xs)) ≡ unjoined x.kind
first_kind x xs = let all = copied_kinds (x ∷ xs) in cc

copied_unjoined : (xs : List Lexeme) → map unjoin (copied xs) ≡ map unjoin xs
copied_unjoined [] = refl
copied_unjoined (x ∷ xs) = λ i. record { kind = first_kind x xs i; spelling = x.spelling } ∷ copied_unjoined xs i

pub copied_aside : (tokens : List Token) → map unjoin (copied (lexemes tokens)) ≡ lexemes_aside tokens
copied_aside tokens = copied_unjoined (lexemes tokens) ∙ sym (aside_of tokens)

-- ---- type parameters

-- one more parameter
on_more : (front : List GenericParam) (p : GenericParam) (which : Trait) → on_each_param (front ++ p ∷ []) which ≡ on_each_param front which ++ on_each_param (p ∷ []) which
on_more front p which = ap (map (param_of (asks_for which))) (filter_map-append type_name front (p ∷ [])) ∙ map-append (param_of (asks_for which)) (filter_map type_name front) (filter_map type_name (p ∷ []))

-- a type parameter
pub on_type_param : (front : List GenericParam) (p : GenericParam) (t : TypeParam) (which : Trait) → p ≡ param.TypeParam t
    → on_each_param (front ++ p ∷ []) which ≡ on_each_param front which ++ param_of (asks_for which) t.ident.text ∷ []
on_type_param front p t which is = on_more front p which ∙ ap (λ (p : GenericParam). on_each_param front which ++ on_each_param (p ∷ []) which) is

-- another one asks nothing
none_of : (p : GenericParam) (which : Trait) → ((t : TypeParam) → p ≡ param.TypeParam t → ⊥) → on_each_param (p ∷ []) which ≡ []
none_of (param.Lifetime p) which other = refl
none_of (param.TypeParam p) which other = absurd (other p refl)
none_of (param.Const p) which other = refl

pub on_other : (front : List GenericParam) (p : GenericParam) (which : Trait) → ((t : TypeParam) → p ≡ param.TypeParam t → ⊥) → on_each_param (front ++ p ∷ []) which ≡ on_each_param front which
on_other front p which other = on_more front p which ∙ ap (λ (ks : List Key). on_each_param front which ++ ks) (none_of p which other) ∙ append-nil (on_each_param front which)

-- ---- names

-- the parameter's name is one, if it is that of a type
abbrev pub IsNamed : GenericParam → Type 0
IsNamed p = IfSome (type_name p) (λ n. is_name kind.Ident n ≡ true)

-- what holds of each of a list and one more
pub all_parts : {A : Type 0} (P : A → Type 0) (xs : List A) (x : A) → AllByRecursion P (xs ++ x ∷ []) → AllByRecursion P xs × P x
all_parts P [] x all = (tt, all.0)
all_parts P (y ∷ ys) x all = let rest = all_parts P ys x all.1 in ((all.0, rest.0), rest.1)
