use Rattle.std.proofs.Common.{List, ◌++◌, ap, ◌∙◌}
use Rattle.educe_body_forms.specs.declared.form.Form.{Form}
use Rattle.educe_make_debug.specs.DebugNames.{names_of}
use Rattle.educe_make_debug.proofs.ShownBlocks.{with_helper}
use Rattle.educe_make_debug.proofs.debug_body.with_helper.Goals as goal

pub returns : goal.returns
returns c =
    with_helper (names_of c.args.names.now) c.args.helper c.in_ok-own.own c.in_ok-formatter.formatter c.args.forms _ c.if-not-helper.false c.in_ok-own.ensures c.in_ok-formatter.ensures
    (c.in_ok-append.ensures.ok ∙ ap (λ (front : List Form). front ++ c.args.forms) c.in_ok-block.ensures)
