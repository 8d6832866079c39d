use Rattle.std.proofs.Common.{sym, subst}
use Rattle.educe_attrs_rows.specs.Causes.{IsCause}
use Rattle.educe_attrs_rows.proofs.MetaLaws.{meta_says, meta_uncaused, stop_cause}
use Rattle.educe_attrs_rows.proofs.Reported.{cause_words}
use Rattle.educe_attrs_rows.proofs.reader.read_meta.Goals as goal

pub returns-in-Ok : goal.returns-in-Ok
returns-in-Ok c = record {
  said = meta_says c.args.row.now c.args.meta.now c.in-Ok.values c.in-Ok.ensures;
  cause = tt;
  words = tt;
  uncaused = meta_uncaused c.args.row.now c.args.meta.now c.in-Ok.values c.in-Ok.ensures;
}

pub returns-in-Err : goal.returns-in-Err
returns-in-Err c =
    let cause : IsCause c.args.row.now c.args.meta.now c.error_of.result =
    subst (IsCause c.args.row.now c.args.meta.now) (sym c.error_of.ensures) (stop_cause c.args.row.now c.args.meta.now c.in-Err.stop c.in-Err.ensures) in
    record {
      said = tt;
      cause = cause;
      words = cause_words c.args.row.now c.args.meta.now c.error_of.result cause;
      uncaused = tt;
    }
