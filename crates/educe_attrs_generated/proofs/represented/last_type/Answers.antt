use Rattle.std.proofs.Common.{sym, ap, ◌∙◌, rules}
use borrow.Author.Tests.{tests}
use Rattle.std.specs.Prelude.{None}
use Rattle.std.specs.List.{last_or}
use Rattle.std.specs.Option.{unwrap_or}
use Rattle.std.proofs.lemmas.Iterator.{YieldsList-from_slice, items_from_drains}
use Rattle.std.proofs.lemmas.Iterator.Consumers.{YieldsList-from_filter_map}
use Rattle.std.proofs.lemmas.List.{map-id}
use Rattle.educe_discriminants.specs.declared.discriminant_type.DiscriminantType.TheVariants.{ISize}
use Rattle.educe_attrs_generated.specs.Represented.{type_of}
use Rattle.educe_attrs_generated.proofs.represented.last_type.Goals as goal

pub returns : goal.returns
returns c =
    let ran = c.last.ensures.ran in
    let items =
    items_from_drains ran.0 (ran.1.1.0, ran.1.1.1, λ _. (ran.1.0, ran.1.1.2))
    (YieldsList-from_filter_map _ type_of (YieldsList-from_slice c.args.metas.now (cc)) c.filter_map.ensures.closure (λ x r q k. search (rules, tests)))
    in
    c.unwrap_or.ensures ∙ ap (λ o. unwrap_or o ISize) (ran.2 ∙ ap (last_or None) (sym (map-id ran.0) ∙ items))
