use Rattle.educe_body_forms.specs.declared.form.Form.{AssignField}
use Rattle.educe_settings.specs.Ranked.{how_of}
use Rattle.educe_handlers.proofs.CalledPaths.{called_is}
use Rattle.educe_meaning.specs.CloneBodies.{assigning}
use Rattle.educe_make_clone.proofs.clone_from_body.assignment.Goals as goal

pub returns : goal.returns
returns c =
    record {
      key = c.in_ok-key.key;
      key_is = c.in_ok-key.ensures;
      path = c.in_ok-path.path;
      path_is = called_is (assigning c.args.copied) (how_of c.args.ranked.now.how) c.args.plain.now c.in_ok-path.path c.requires.plain c.in_ok-path.ensures;
      read = c.in_ok-read.read;
      read_is = c.in_ok-read.ensures;
      is = (λ i. AssignField c.in_ok-key.key c.in_ok-path.path (c.in_ok-read-2.ensures i) (c.hands_over-handed.ensures i));
    }
