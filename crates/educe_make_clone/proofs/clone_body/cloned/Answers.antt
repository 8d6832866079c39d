use Rattle.std.proofs.Common.{List, ap, refl, subst}
use Rattle.std.specs.List.{AllZip}
use Rattle.std.specs.Option.{option_map}
use Rattle.educe_syntax.specs.Ident.{Ident}
use Rattle.educe_handlers.specs.Readings.{reading_of}
use Rattle.educe_meaning.specs.CloneBodies.{IsCloneInit}
use Rattle.educe_settings.specs.Settings.{Kept}
use Rattle.educe_make_clone.proofs.clone_body.cloned.Goals as goal

pub returns : goal.returns
returns c = λ definition are. record {
  variant = c.in_ok-name_of.field-0;
  variant_is = ap (option_map (λ (i : Ident). i.text)) c.in_ok-name_of.ensures;
  inits = c.in_ok-inits.inits;
  is = refl;
  inits_are = subst (λ (kept : List Kept). AllZip (IsCloneInit (reading_of c.args.reading)) kept c.in_ok-inits.inits) are c.in_ok-inits.ensures;
}
