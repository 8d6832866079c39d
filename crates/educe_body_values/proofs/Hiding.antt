-- A text of the user's whose names are words of the input has no name in scope, where those are no words of it.
use Rattle.std.proofs.Common.{◌≡◌, ℕ, Bool, true, false, not, List, [], ◌∷◌, Option, Some, None, map, refl, sym, ap, ◌∙◌, subst, chars, IsUtf8, encode_utf8_all}
use Rattle.std.specs.Prelude.{codes}
use Rattle.std.specs.List.{AllByRecursion}
use Rattle.std.specs.Str.{bytes_eq}
use Rattle.std.proofs.lemmas.Bool.{and_left, and_right, or_from, cond-false}
use Rattle.std.proofs.lemmas.Bool.Decides.{same_from_decides}
use Rattle.std.proofs.lemmas.Slice.Eq.{bytes_eq-Decides}
use Rattle.std.proofs.lemmas.Str.{encodes-chars}
use Rattle.educe_tokens.specs.declared.token.Token.{Token}
use Rattle.educe_tokens.specs.Lexes.{Lexeme, lexemes}
use Rattle.educe_tokens.specs.Quote.{quoted}
use Rattle.educe_tokens.specs.WrittenLexemes.{written_lexemes}
use Rattle.educe_tree.specs.Names.{unraw}
use Rattle.educe_tree.specs.TokenLaws.{lawful_copies}
use Rattle.educe_tree.specs.declared.expr.Expr.{Expr}
use Rattle.educe_tree.specs.declared.expr.ExprPath.{ExprPath}
use Rattle.educe_names.specs.Words.{HasWord}
use Rattle.educe_body_values.specs.declared.answers.Answers.{Answers}
use Rattle.educe_body_values.specs.declared.callee.BuiltIn.{BuiltIn}
use Rattle.educe_body_values.specs.declared.callee.BuiltIn.TheVariants.{Ne, Cmp, PartialCmp, Hash, Clone, CloneFrom}
use Rattle.educe_body_values.specs.declared.environment.Binding.{Binding}
use Rattle.educe_body_values.specs.BuiltIn.{path_lexemes, IsBuiltIn}
use Rattle.educe_body_values.specs.Callees.{built_in, built_in_named, as_callee, callee_or_text, callee_of, spellings}
use Rattle.educe_body_values.specs.Constants.{number_of, number_in}
use Rattle.educe_body_values.specs.Scoping.{hides, is_ident, is_hidden, is_bound, names_bound, named_in, callee_in, IsApart, own_self, apart, AreOwnNames}

module _ (input : List Token) where
  hides-none : (binding : Binding) (name : List ℕ) → IsApart input binding → HasWord input name → hides binding name ≡ false
  hides-none binding name (own_self is) has = and_left _ _ (ap not ((bytes_eq-Decides binding.name (codes "self")).1 is))
  hides-none binding name (apart no_word) has = and_right _ _ (by_test (bytes_eq (unraw binding.name) name) refl)
    where
      by_test : (b : Bool) → bytes_eq (unraw binding.name) name ≡ b → bytes_eq (unraw binding.name) name ≡ false
      by_test true h = absurd (no_word (subst (HasWord input) (sym ((bytes_eq-Decides (unraw binding.name) name).0 h)) has))
      by_test false h = h

  hidden-none : (names : List Binding) (name : List ℕ) → AllByRecursion (IsApart input) names → HasWord input name → is_hidden names name ≡ false
  hidden-none [] name each has = refl
  hidden-none (b ∷ names) name each has = or_from (hides b name) (is_hidden names name) (hides-none b name each.0 has) (hidden-none names name each.1 has)

  bound-none : (names : List Binding) (token : Token) → AllByRecursion (IsApart input) names → (is_ident token.kind ≡ true → HasWord input (unraw token.spelling)) → is_bound names token ≡ false
  bound-none names token each own = by_kind (is_ident token.kind) refl
    where
      by_kind : (b : Bool) → is_ident token.kind ≡ b → is_bound names token ≡ false
      by_kind true h = and_right (is_ident token.kind) (is_hidden names (unraw token.spelling)) (hidden-none names (unraw token.spelling) each (own h))
      by_kind false h = and_left (is_ident token.kind) (is_hidden names (unraw token.spelling)) h

  -- a text whose identifiers are words of the input has no name in scope
  pub names_bound-none : (names : List Binding) (tokens : List Token) → AllByRecursion (IsApart input) names → AreOwnNames input tokens → names_bound names tokens ≡ false
  names_bound-none names [] each own = refl
  names_bound-none names (t ∷ tokens) each own = or_from (is_bound names t) (names_bound names tokens) (bound-none names t each own.0) (names_bound-none names tokens each own.1)

  -- the path of such a text calls what it names
  pub callee_in-own : (names : List Binding) (path : ExprPath) → AllByRecursion (IsApart input) names → AreOwnNames input path.written.tokens → callee_in names path ≡ Some (callee_of path)
  callee_in-own names path each own = by_path (built_in path)
    where
      by_path : (o : Option BuiltIn) → named_in names path o ≡ Some (callee_or_text path o)
      by_path None = cond-false (names_bound names path.written.tokens) _ _ (names_bound-none names path.written.tokens each own)
      by_path (Some which) = refl

  -- and the expression of such a text has its number
  pub number_in-own : (table : Answers) (names : List Binding) (value : Expr) → AllByRecursion (IsApart input) names → AreOwnNames input value.written.tokens → number_in table names value ≡ number_of table value
  number_in-own table names value each own = cond-false (names_bound names value.written.tokens) None (number_of table value) (names_bound-none names value.written.tokens each own)

-- a path that is built in calls its function in any scope
pub callee_in-built_in : (names : List Binding) (path : ExprPath) (which : BuiltIn) → built_in path ≡ Some which → callee_in names path ≡ Some (as_callee which)
callee_in-built_in names path which is = ap (named_in names path) is

spelling_list : (tokens : List Token) → map (λ (x : Lexeme). x.spelling) (lexemes tokens) ≡ spellings tokens
spelling_list [] = refl
spelling_list (t ∷ tokens) = ap (λ texts. t.spelling ∷ texts) (spelling_list tokens)

-- the spellings of the path of a function name it
path_named : (which : BuiltIn) → built_in_named (map (λ (x : Lexeme). x.spelling) (path_lexemes which)) ≡ Some which
unfolding quoted built_in_named
path_named Ne = refl
path_named Cmp = refl
path_named PartialCmp = refl
path_named Hash = refl
path_named Clone = refl
path_named CloneFrom = refl

-- a path that is printed as generated code writes it calls its function in any scope
pub callee_in-printed : (names : List Binding) (path : ExprPath) (which : BuiltIn) → written_lexemes path.written ≡ path_lexemes which → callee_in names path ≡ Some (as_callee which)
callee_in-printed names path which is =
    callee_in-built_in names path which
    (ap built_in_named (sym (spelling_list path.written.tokens) ∙ sym (lawful_copies.spellings (lexemes path.written.tokens)) ∙ ap (map (λ (x : Lexeme). x.spelling)) is) ∙ path_named which)

-- the path that is made for a built-in function calls it, whatever names are in scope
pub callee_in-made : (names : List Binding) (path : ExprPath) (which : BuiltIn) → IsBuiltIn which path → callee_in names path ≡ Some (as_callee which)
callee_in-made names path which is = callee_in-printed names path which is.made.tokens

-- two texts are equal where their characters are
pub chars_test : (a b : List ℕ) → IsUtf8 a → IsUtf8 b → bytes_eq a b ≡ bytes_eq (chars a) (chars b)
chars_test a b utf8_a utf8_b =
    let spelled = bytes_eq-Decides (chars a) (chars b) in
    same_from_decides (bytes_eq a b) (bytes_eq (chars a) (chars b)) (bytes_eq-Decides a b)
    ((λ h. sym (encodes-chars a utf8_a) ∙ ap encode_utf8_all (spelled.0 h) ∙ encodes-chars b utf8_b), (λ e. spelled.1 (ap chars e)))
