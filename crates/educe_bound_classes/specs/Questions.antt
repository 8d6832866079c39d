-- The questions that are asked about types.
use Rattle.std.specs.Prelude.{ℕ, Bool, false, not, ◌&&◌, ◌||◌, List, codes}
use Rattle.std.specs.List.{list_any}
use Rattle.std.specs.Str.{bytes_eq}
use Rattle.educe_tokens.specs.TokenKind.{TokenKind}
use Rattle.educe_tokens.specs.TokenKind.TheVariants as kind
use Rattle.educe_tokens.specs.declared.token.Token.{Token}
use Rattle.educe_tree.specs.declared.generics.GenericParam.{GenericParam}
use Rattle.educe_tree.specs.declared.path.Path.{Path, out-Path}
use Rattle.educe_tree.specs.declared.ty.Ty.{Ty}
use Rattle.educe_bound_classes.specs.Params.{is_param, is_type_param}
use Rattle.educe_bound_classes.specs.Paths.{begins_with}
use Rattle.educe_bound_classes.specs.Walk.{Question, in_type}

-- The token of this kind and spelling is a word that is the name of a parameter.
abbrev pub is_param_at : List GenericParam → TokenKind → List ℕ → Bool
is_param_at params kind.Ident text = is_param params text
is_param_at params kind.Lifetime text = false
is_param_at params (kind.Literal l) text = false
is_param_at params (kind.Punct c joint) text = false
is_param_at params (kind.Start b) text = false
is_param_at params (kind.Stop b) text = false
is_param_at params kind.Doc text = false

-- The token is a word that is the name of a parameter.
abbrev pub is_param_word : List GenericParam → Token → Bool
is_param_word params t = is_param_at params t.kind t.spelling

-- The question whether a type uses a type or const parameter.
abbrev pub use_of : List GenericParam → Question
use_of params = record {
  at_path = λ behind p. begins_with (is_param params) p;
  at_words = λ tokens. list_any (λ t. is_param_word params t) tokens;
  passes_references = λ mutable. false;
  passes_pointers = false;
  passes_path = λ p. false;
}

-- The type uses a type or const parameter.
abbrev pub uses_params : List GenericParam → Ty → Bool
uses_params params ty = in_type (use_of params) ty

-- The path mentions the derived type of this name: it has no self type, does not begin with a type parameter, and has a segment
-- of the name or begins with `Self`.
abbrev pub mentions_at : List GenericParam → List ℕ → Bool → Path → Bool
mentions_at params self behind p =
    not behind && (not (begins_with (is_type_param params) p)
    && (list_any (λ s. bytes_eq self s.ident.text) (out-Path p).segments || begins_with (λ text. bytes_eq (codes "Self") text) p))

-- The question whether a type mentions the derived type of this name.
abbrev pub mention_of : List GenericParam → List ℕ → Question
mention_of params self = record {
  at_path = λ behind p. mentions_at params self behind p;
  at_words = λ tokens. false;
  passes_references = λ mutable. false;
  passes_pointers = false;
  passes_path = λ p. false;
}
