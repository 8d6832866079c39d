-- The head of a definition whose names are names is one.
use Rattle.std.proofs.Common.{◌≡◌, ℕ, true, false, List, [], ◌∷◌, ◌++◌, map, refl}
use Rattle.std.specs.List.{AllByRecursion, flat_map}
use Rattle.std.proofs.lemmas.Bool.{and_from, or_left}
use Rattle.educe_tokens.specs.TokenKind.TheVariants as kind
use Rattle.educe_tree.specs.Names.{is_name}
use Rattle.educe_tree.specs.declared.generics.GenericParam.{GenericParam}
use Rattle.educe_tree.specs.declared.generics.GenericParam.TheVariants as param
use Rattle.educe_grammar.specs.declared.terminal.Terminal.TheVariants as terminal
use Rattle.educe_grammar.specs.Readings.{IsName, IsNamed}
use Rattle.educe_syntax_self.specs.Heads.{name, punct, behind_comma, head_of, argument_of, is_a, is_argument, ends_arguments, is_arguments, is_head}

-- the token of a name is one
name_is : (text : List ℕ) → IsName text → is_a terminal.Name (name text) ≡ true
name_is text named = or_left (is_name kind.Ident text) false named

-- the name of a parameter may be an argument
argument_is : (p : GenericParam) → IsNamed p → is_argument (argument_of p) ≡ true
argument_is (param.Lifetime p) named = refl
argument_is (param.TypeParam p) named = name_is p.ident.text named
argument_is (param.Const p) named = name_is p.ident.text named

-- the names of further parameters may be arguments
end_is : (more : List GenericParam) → AllByRecursion IsNamed more → ends_arguments (flat_map behind_comma (map argument_of more) ++ punct 62 false ∷ []) ≡ true
unfolding ends_arguments
end_is [] named = refl
end_is (p ∷ more) named = and_from (is_argument (argument_of p)) _ (argument_is p named.0) (end_is more named.1)

-- the head is one
pub head_is : (text : List ℕ) (params : List GenericParam) → IsName text → AllByRecursion IsNamed params → is_head (head_of text (map argument_of params)) ≡ true
unfolding is_head is_arguments
head_is text [] named each = name_is text named
head_is text (p ∷ more) named each = and_from (is_a terminal.Name (name text)) _ (name_is text named) (and_from (is_argument (argument_of p)) _ (argument_is p each.0) (end_is more each.1))
