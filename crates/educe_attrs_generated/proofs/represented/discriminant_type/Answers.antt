use Rattle.std.proofs.Common.{sym, ap, ◌∙◌}
use Rattle.educe_attrs_generated.specs.Represented.{last_type}
use Rattle.educe_attrs_generated.proofs.Held.{one_held}
use Rattle.educe_attrs_generated.proofs.represented.discriminant_type.Goals as goal

pub returns-clause-only : goal.returns-clause-only
returns-clause-only c ty own =
    own.is
    ∙ ap last_type (one_held c.args.attributes.now own.held c.in_ok-held.held own.are_held c.in_ok-held.ensures)
    ∙ sym (c.last_type.ensures ∙ ap last_type c.as_slice.ensures)
