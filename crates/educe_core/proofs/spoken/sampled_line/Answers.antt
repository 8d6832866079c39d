use Rattle.std.proofs.Common.{◌∙◌, ap, sym, length, count_by}
use Rattle.educe_core.specs.Expansion.{text_of_expansion, items_of_expansion}
use Rattle.educe_core.specs.Sample.{sample_line, is_impl}
use Rattle.educe_core.proofs.Causes.{memory_cause}
use Rattle.educe_core.proofs.Places.{cause_placed}
use Rattle.educe_core.proofs.spoken.sampled_line.Goals as goal

pub returns-in-Ok-clause-cause : goal.returns-in-Ok-clause-cause
returns-in-Ok-clause-cause c = memory_cause c.args.input.now c.alloc.result c.alloc.ensures

pub returns-in-Ok-clause-placed : goal.returns-in-Ok-clause-placed
returns-in-Ok-clause-placed c = cause_placed c.args.input.now c.utf8.input c.alloc.result (memory_cause c.args.input.now c.alloc.result c.alloc.ensures)

pub returns-in-Ok-sample_line-clause-done : goal.returns-in-Ok-sample_line-clause-done
returns-in-Ok-sample_line-clause-done c =
    let input = c.args.input.now in
    let counted = c.in-Ok.ensures.counted in
    let items = items_of_expansion c.in-Ok.expansion in
    let text = text_of_expansion c.in-Ok.expansion in
    record {
      tokens = counted.0;
      items = items;
      written = text;
      reads = counted.1.0;
      expands = c.in-Ok.ensures.done;
      is = c.in-Ok-sample_line.ensures ∙ ap (λ n. sample_line c.args.count (length input) n (count_by is_impl items) (length text)) (sym counted.1.1);
    }
