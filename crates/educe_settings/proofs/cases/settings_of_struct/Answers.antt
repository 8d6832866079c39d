use Rattle.std.proofs.Common.{[], ◌∷◌, ap, ◌∙◌}
use Rattle.educe_settings.proofs.Lists.{one_pushed}
use Rattle.educe_settings.proofs.Uncaused.{case_unranked}
use Rattle.educe_settings.proofs.cases.settings_of_struct.Goals as goal

pub returns-clause-are : goal.returns-clause-are
returns-clause-are c = one_pushed _ _ _ c.new-all.ensures c.in_ok-push.ensures.ok ∙ ap (λ own. own ∷ []) c.in_ok-settings.ensures.are

pub returns-clause-uncaused : goal.returns-clause-uncaused
returns-clause-uncaused c = case_unranked c.args.task.trait_ c.args.task.ast.now c.args.fields.now c.requires.unranked c.in_ok-settings.ensures.uncaused
