use Rattle.std.proofs.Common.{ap}
use Rattle.educe_body_forms.specs.declared.form.Form.{Call}
use Rattle.educe_settings.specs.Ranked.{how_of}
use Rattle.educe_handlers.proofs.CalledPaths.{called_is}
use Rattle.educe_settings.proofs.Lists.{two_pushed}
use Rattle.educe_meaning.specs.Comparing.{comparison}
use Rattle.educe_cmp.proofs.comparing.compared.Goals as goal

pub returns : goal.returns
returns c =
    let first = c.in_ok-read.field-0 in
    let second = c.in_ok-read-2.field-0 in
    let arguments = two_pushed _ _ _ first second c.in_ok-arguments.ensures c.in_ok-push.ensures.ok c.in_ok-push-2.ensures.ok in
    record {
      path = c.in_ok-path.path;
      first = first;
      second = second;
      is = ap (Call c.in_ok-path.path) arguments;
      path_is = called_is (comparison c.args.which) (how_of c.args.ranked.now.how) c.args.plain.now c.in_ok-path.path c.requires.plain c.in_ok-path.ensures;
      first_is = c.in_ok-read.ensures;
      second_is = c.in_ok-read-2.ensures;
    }
