use Rattle.std.proofs.Common.{◌∷◌, [], ◌++◌, List, ap, ◌∙◌}
use Rattle.educe_body_values.specs.declared.callee.BuiltIn.TheVariants.{Hash}
use Rattle.educe_body_forms.specs.declared.form.Form.{Form, Local, Call, HashPart}
use Rattle.educe_settings.specs.Ranked.{how_of}
use Rattle.educe_handlers.proofs.CalledPaths.{called_is}
use Rattle.educe_make_hash.proofs.feeding.feed.Goals as goal

pub returns : goal.returns
returns c =
    let hasher = c.in_ok-same_name.field-0 in
    let arguments = c.in_ok-push.ensures.ok ∙ ap (λ (forms : List Form). forms ++ Local hasher ∷ []) c.in_ok-arguments.ensures in
    record {
      path = c.in_ok-path.path;
      path_is = called_is Hash (how_of c.args.how) c.args.plain.now c.in_ok-path.path c.requires.plain c.in_ok-path.ensures;
      hasher = hasher;
      hasher_is = c.in_ok-same_name.ensures;
      is = ap HashPart (c.in_ok-new.ensures ∙ ap (Call c.in_ok-path.path) arguments);
    }
