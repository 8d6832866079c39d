use Rattle.std.proofs.Common.{sym, ◌∙◌, rules}
use Rattle.educe_settings.proofs.Kept.{kept_pushed, kept_skipped}
use Rattle.educe_settings.proofs.ranks.kept_fields.Goals.{then-is_kept+in_ok-push, else-is_kept}
use Rattle.educe_settings.proofs.ranks.kept_fields.Goals as goal

pub loop-place-preserved : goal.loop-place-preserved
loop-place-preserved c =
    let fields = c.args.fields.now in
    let settings = c.args.settings.now in
    let i = c.loop-place.place in
    let field = c.index-fields-place.result in
    let own = c.index-settings-place.result in
    elim c.if-is_kept.branch [
      | then-is_kept+in_ok-push w ↦ rw w.kept-is (kept_pushed fields settings c.requires i field field own own c.loop-place-test.true c.index-fields-place.is c.index-settings-place.is
          c.loop-place.kept.items w.push.new.self.items _ c.loop-place.invariant (sym c.is_kept.ensures ∙ w.if-is_kept.true) w.in_ok-push.ensures.items (search rules))
      | else-is_kept w ↦ rw w.kept-is (kept_skipped fields settings c.requires i field field own own c.loop-place-test.true c.index-fields-place.is c.index-settings-place.is
          c.loop-place.kept.items c.loop-place.invariant (sym c.is_kept.ensures ∙ w.if-is_kept.false))
    ]
