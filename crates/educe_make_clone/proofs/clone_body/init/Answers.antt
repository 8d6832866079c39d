use Rattle.std.proofs.Common.{ap}
use Rattle.educe_body_values.specs.declared.callee.BuiltIn.TheVariants.{Clone}
use Rattle.educe_body_forms.specs.declared.form.Form.{Call}
use Rattle.educe_settings.specs.Ranked.{how_of}
use Rattle.educe_handlers.proofs.CalledPaths.{called_is}
use Rattle.educe_make_clone.proofs.clone_body.init.Goals as goal

pub returns : goal.returns
returns c =
    let own = c.in_ok-read.field-0 in
    record {
      key_is = c.in_ok-key.ensures;
      path = c.in_ok-path.path;
      path_is = called_is Clone (how_of c.args.ranked.now.how) c.args.plain.now c.in_ok-path.path c.requires.plain c.in_ok-path.ensures;
      own = own;
      own_is = c.in_ok-read.ensures;
      is = ap (Call c.in_ok-path.path) c.in_ok-arguments.ensures;
    }
