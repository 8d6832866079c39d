-- The paths by which generated code calls the functions that are built in.
use Rattle.std.specs.Prelude.{ℕ, ◌≡◌, true, List, None, map, codes}
use Rattle.educe_tokens.specs.declared.span.Span.{Span}
use Rattle.educe_tokens.specs.Appends.{no_place, LieNowhere}
use Rattle.educe_tokens.specs.Lexes.{Lexeme, lexemes}
use Rattle.educe_tokens.specs.Quote.{quoted}
use Rattle.educe_tokens.specs.WrittenLexemes.{written_lexemes}
use Rattle.educe_tree.specs.declared.expr.ExprPath.{ExprPath}
use Rattle.educe_tree.specs.declared.path.Args.{Args}
use Rattle.educe_tree.specs.declared.path.Args.TheVariants as args
use Rattle.educe_tree.specs.declared.path.Path.{out-Path}
use Rattle.educe_tree.specs.declared.path.Segment.{Segment, out-Segment}
use Rattle.educe_grammar.specs.Expressions.{expr_path}
use Rattle.educe_grammar.specs.Parsed.{IsWhole}
use Rattle.educe_body_values.specs.declared.callee.BuiltIn.{BuiltIn}
use Rattle.educe_body_values.specs.declared.callee.BuiltIn.TheVariants.{Ne, Cmp, PartialCmp, Hash, Clone, CloneFrom}
use Rattle.educe_body_values.specs.Callees.{path_names}

-- The tokens of the path of a built-in function.
abbrev pub path_lexemes : BuiltIn → List Lexeme
path_lexemes Ne = quoted (codes ":: core :: cmp :: PartialEq :: ne")
path_lexemes Cmp = quoted (codes ":: core :: cmp :: Ord :: cmp")
path_lexemes PartialCmp = quoted (codes ":: core :: cmp :: PartialOrd :: partial_cmp")
path_lexemes Hash = quoted (codes ":: core :: hash :: Hash :: hash")
path_lexemes Clone = quoted (codes ":: core :: clone :: Clone :: clone")
path_lexemes CloneFrom = quoted (codes ":: core :: clone :: Clone :: clone_from")

-- What a segment says: its name, where that lies, and its arguments.
abbrev pub said_by : Segment → List ℕ × Span × Args
said_by segment = ((out-Segment segment).ident.text, (out-Segment segment).ident.span, (out-Segment segment).args)

-- What a segment says that the program makes: a name without arguments, with the span 0 to 0.
abbrev pub name_alone : List ℕ → List ℕ × Span × Args
name_alone name = (name, no_place, args.None)

-- The path of these tokens and names, behind `::` and no type; no name has arguments, and nothing lies anywhere.
pub record IsMade (found : List Lexeme) (names : List (List ℕ)) (path : ExprPath) : Type 0 where
  pub held : lexemes path.written.tokens ≡ found
  pub tokens : written_lexemes path.written ≡ found
  pub nowhere : LieNowhere path.written.tokens
  pub unqualified : path.self_type ≡ None
  pub leading : (out-Path path.path).leading ≡ true
  pub segments : map said_by (out-Path path.path).segments ≡ map name_alone names

-- The path by which generated code calls the function: it is made so, and it is the reading of its tokens.
pub record IsBuiltIn (which : BuiltIn) (path : ExprPath) : Type 0 where
  pub made : IsMade (path_lexemes which) (path_names which) path
  pub reads : IsWhole expr_path path.written.tokens path
