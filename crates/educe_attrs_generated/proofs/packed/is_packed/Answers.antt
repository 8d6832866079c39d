use Rattle.std.proofs.Common.{sym, ap, subst, ◌∙◌}
use Rattle.std.specs.Prelude.{IsTrue}
use Rattle.std.specs.List.{list_any}
use Rattle.educe_attrs_generated.specs.Packed.{says_packed}
use Rattle.educe_attrs_generated.proofs.Held.{one_held}
use Rattle.educe_attrs_generated.proofs.packed.is_packed.Goals as goal

pub returns : goal.returns
returns c =
    let is = c.one_says_packed.ensures ∙ ap (list_any says_packed) c.as_slice.ensures in (
      (λ says. record { held = c.in_ok-held.held; are_held = c.in_ok-held.ensures; says = sym is ∙ says }),
      (λ packed.
          is ∙ subst (λ held. IsTrue (list_any says_packed held)) (one_held c.args.attributes.now packed.held c.in_ok-held.held packed.are_held c.in_ok-held.ensures) packed.says),
    )
