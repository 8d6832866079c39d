-- Names that are copied.
use Rattle.std.proofs.Common.{◌≡◌, ap, ◌∙◌}
use Rattle.educe_tokens.specs.Appends.{no_place}
use Rattle.educe_syntax.specs.Ident.{Ident}
use Rattle.educe_meaning.specs.Arms.{IsName}

-- a copy of a name at no place
pub name_copied : (name copy : Ident) → copy ≡ name → name.span ≡ no_place → IsName name.text copy
name_copied name copy same nowhere = record {
  is = ap (λ (n : Ident). n.text) same;
  nowhere = ap (λ (n : Ident). n.span) same ∙ nowhere;
}
