use Rattle.std.proofs.Common.{refl}
use Rattle.std.specs.Prelude.{codes}
use Rattle.educe_tokens.specs.Quote.{quoted}
use Rattle.educe_body_forms.specs.declared.form.Form.{Pasted}
use Rattle.educe_meaning.specs.Making.{IsNewBody}
use Rattle.educe_handlers.proofs.Formed.{function_with}
use Rattle.educe_make_default.proofs.default_handling.new_item.Goals as goal

pub from_template-requires-clause-written : goal.from_template-requires-clause-written
unfolding quoted
from_template-requires-clause-written c = refl

pub returns : goal.returns
returns c = record {
  which_is = refl;
  attributes_are = c.in_ok-attributes.ensures;
  generics_are = refl;
  ident_is = c.in_ok-ident.ensures;
  functions_are = function_with (codes "new") IsNewBody _ _ c.in_ok-functions.ensures (record {
    params_are = c.in_ok-body.ensures.params;
    form = Pasted c.in_ok-text.text;
    block_is = c.in_ok-body.ensures.block;
    form_is = record { text = c.in_ok-text.text; is = refl; tokens_are = c.in_ok-text.ensures.printed };
  });
}
