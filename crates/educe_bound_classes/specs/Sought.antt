-- What is searched for in a type, as a question.
use Rattle.std.specs.Prelude.{Bool, false, List}
use Rattle.std.specs.List.{list_any}
use Rattle.educe_tokens.specs.declared.token.Token.{Token}
use Rattle.educe_tree.specs.declared.path.Path.{Path}
use Rattle.educe_bound_classes.specs.declared.sought.Sought.{Sought}
use Rattle.educe_bound_classes.specs.declared.sought.Sought.TheVariants.{Parameter, Derived}
use Rattle.educe_bound_classes.specs.Names.{params_of}
use Rattle.educe_bound_classes.specs.Params.{is_param}
use Rattle.educe_bound_classes.specs.Paths.{begins_with}
use Rattle.educe_bound_classes.specs.Walk.{Question}
use Rattle.educe_bound_classes.specs.Questions.{is_param_word, mentions_at}

-- The path, which may follow a self type, is what is searched for.
abbrev pub sought_at : Sought → Bool → Path → Bool
sought_at (Parameter names) behind p = begins_with (is_param (params_of names)) p
sought_at (Derived names self) behind p = mentions_at (params_of names) self.now behind p

-- A word of the tokens is what is searched for.
abbrev pub sought_in : Sought → List Token → Bool
sought_in (Parameter names) tokens = list_any (λ t. is_param_word (params_of names) t) tokens
sought_in (Derived names self) tokens = false

-- The question whether it occurs in a type.
abbrev pub sought_by : Sought → Question
sought_by sought = record {
  at_path = λ behind p. sought_at sought behind p;
  at_words = λ tokens. sought_in sought tokens;
  passes_references = λ mutable. false;
  passes_pointers = false;
  passes_path = λ p. false;
}
