use Rattle.std.proofs.Common.{◌≡◌, ◌++◌, string_bytes}
use Rattle.std.specs.Prelude.{codes}
use Rattle.educe_core.specs.Sample.{sample_variants}
use Rattle.educe_core.proofs.sample.sample_text.Given as goal

abbrev pub invariant-loop-place : goal.invariant-loop-place
invariant-loop-place l = string_bytes l.text ≡ codes "#[educe(PartialEq, PartialOrd, Ord, Hash)] #[repr(u16)] enum Sample<T> {" ++ sample_variants l.place
