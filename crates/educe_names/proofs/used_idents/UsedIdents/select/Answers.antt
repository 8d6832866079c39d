use Rattle.std.proofs.Common.{◌∙◌, ap, chars}
use Rattle.educe_names.proofs.Underscored.{underscored_spells}
use Rattle.educe_names.proofs.used_idents.UsedIdents.select.Goals as goal

pub invariant_of-ident : goal.invariant_of-ident
invariant_of-ident c =
    let free = c.in_ok-free.ensures in
    record { spelled = underscored_spells free.count (chars c.args.name.now) c.in_ok-text.text (c.in_ok-text.ensures ∙ ap chars c.deref.ensures ∙ free.is) c.requires }
