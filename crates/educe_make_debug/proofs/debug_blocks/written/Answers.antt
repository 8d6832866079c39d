use Rattle.std.proofs.Common.{◌≡◌, ◌∷◌, [], ap}
use Rattle.std.proofs.lemmas.Result.{IfOk-weaker}
use Rattle.educe_body_forms.specs.declared.form.Form.{WriteText}
use Rattle.educe_body_forms.specs.declared.literal_text.LiteralText.{LiteralText}
use Rattle.educe_meaning.specs.ShownBodies.{IsWritten}
use Rattle.educe_make_debug.specs.DebugNames.{names_of}
use Rattle.educe_make_debug.proofs.debug_blocks.written.Goals as goal

pub returns : goal.returns
returns c =
    let formatter = c.in_ok-formatter.formatter in
    let literal = c.in_ok-duplicate.field-0 in
    IfOk-weaker c.block_of.result (λ block. block ≡ WriteText formatter literal ∷ []) (IsWritten (names_of c.args.names.now) c.args.name.now.text)
    (λ block is. record {
      formatter = formatter;
      formatter_is = c.in_ok-formatter.ensures;
      literal = literal;
      literal_is = record { is = ap (λ (l : LiteralText). l.text) c.in_ok-duplicate.ensures };
      block_is = is;
    }) c.block_of.ensures
