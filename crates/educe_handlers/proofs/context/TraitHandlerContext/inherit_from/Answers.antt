use Rattle.std.proofs.Common.{List, [], ◌++◌, ap, sym, ◌∙◌, append-nil}
use Rattle.std.proofs.lemmas.List.{append_assoc}
use Rattle.educe_syntax.specs.WherePredicate.{WherePredicate}
use Rattle.educe_handlers.proofs.Inherited.{inherited_more}
use Rattle.educe_bound_classes.specs.Deriving.{Extends}
use Rattle.educe_bound.specs.Predicates.{keys_of}
use Rattle.educe_handlers.proofs.context.TraitHandlerContext.inherit_from.Goals as goal

pub loop-which-init : goal.loop-which-init
loop-which-init c = record { added = Extends.done (keys_of c.args.own.now); kept = record { more = []; joined = sym (append-nil c.args.own.now) }; read = λ all read. read }

pub loop-which-preserved : goal.loop-which-preserved
loop-which-preserved c =
    let before = c.loop-which.invariant in
    let inherited = c.in_ok-inherit.ensures in
    record {
      added = inherited_more c.args.self.now c.args.prerequisites.now c.loop-which.which-index _ _ _ _ c.loop-which-test.true before.added inherited.ok;
      kept = record {
        more = before.kept.more ++ inherited.kept.more;
        joined = inherited.kept.joined ∙ ap (λ (own : List WherePredicate). own ++ inherited.kept.more) before.kept.joined ∙ append_assoc c.args.own.now before.kept.more inherited.kept.more;
      };
      read = λ all read. inherited.read all (before.read all read);
    }
