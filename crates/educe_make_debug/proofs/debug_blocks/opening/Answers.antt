use Rattle.std.proofs.Common.{ap, sym, ◌∙◌}
use Rattle.educe_body_forms.specs.declared.literal_text.LiteralText.{LiteralText}
use Rattle.educe_make_debug.proofs.EntryKeys.{tuple_opening, struct_opening}
use Rattle.educe_make_debug.proofs.debug_blocks.opening.Goals as goal

pub returns-then-not-case : goal.returns-then-not-case
returns-then-not-case c =
    let case = c.args.case.now in
    tuple_opening c.in_ok-duplicate.field-0 case.unit case.named case.name.text c.requires c.if-not-case.true (ap (λ (l : LiteralText). l.text) c.in_ok-duplicate.ensures)

pub returns-in_ok-duplicate-2 : goal.returns-in_ok-duplicate-2
returns-in_ok-duplicate-2 c =
    let case = c.args.case.now in
    struct_opening c.in_ok-duplicate-2.field-0 case.unit case.named case.name.text c.requires c.if-not-case.false (sym c.is_shown.ensures ∙ c.if-is_shown.true)
    (ap (λ (l : LiteralText). l.text) c.in_ok-duplicate-2.ensures)
