use Rattle.std.proofs.Common.{Bool, ap, sym, ◌∙◌}
use Rattle.educe_syntax.specs.Ident.{Ident}
use Rattle.educe_meaning.specs.Steps.{reference_form}
use Rattle.educe_handlers.proofs.reading.reference.Goals as goal

pub returns-then-copied : goal.returns-then-copied
returns-then-copied c = record {
  base_name = c.in_ok-base.base;
  key = c.in_ok-key.key;
  is = ap (λ (copied : Bool). reference_form copied c.in_ok-base.base c.in_ok-key.key) (sym c.if-copied.true);
  base_is = ap (λ (name : Ident). name.text) c.in_ok-base.ensures;
  nowhere = ap (λ (name : Ident). name.span) c.in_ok-base.ensures ∙ c.requires;
  key_is = c.in_ok-key.ensures;
}

pub returns-else-copied : goal.returns-else-copied
returns-else-copied c = record {
  base_name = c.in_ok-base.base;
  key = c.in_ok-key.key;
  is = ap (λ (copied : Bool). reference_form copied c.in_ok-base.base c.in_ok-key.key) (sym c.if-copied.false);
  base_is = ap (λ (name : Ident). name.text) c.in_ok-base.ensures;
  nowhere = ap (λ (name : Ident). name.span) c.in_ok-base.ensures ∙ c.requires;
  key_is = c.in_ok-key.ensures;
}
