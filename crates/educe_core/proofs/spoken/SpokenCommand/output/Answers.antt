use Rattle.std.proofs.Common.{◌≡◌, ◌≢◌, IfOk, IfErr, string_bytes, sym, subst}
use Rattle.educe_tokens.specs.declared.error.EduceError.{EduceError}
use Rattle.educe_tokens.specs.declared.error.Kind.TheVariants.{Alloc}
use Rattle.educe_core.specs.declared.spoken.Spoken.{Spoken}
use Rattle.educe_core.specs.Spoken.{meaning}
use Rattle.educe_core.proofs.spoken.SpokenCommand.output.Goals as goal

pub returns-in-Expand-clause-cause : goal.returns-in-Expand-clause-cause
returns-in-Expand-clause-cause c = subst (λ (s : Spoken). IfErr c.expanded_text.result ((meaning s).IsCause c.args.input.now)) (sym c.in-Expand.is) c.expanded_text.ensures.cause

pub returns-in-Expand-clause-invalid : goal.returns-in-Expand-clause-invalid
returns-in-Expand-clause-invalid c =
    subst (λ (s : Spoken). IfOk c.expanded_text.result (λ x. (e : EduceError) → e.kind ≢ Alloc → (meaning s).IsCause c.args.input.now e → ⊥)) (sym c.in-Expand.is) c.expanded_text.ensures.invalid

pub returns-in-Sample-clause-done : goal.returns-in-Sample-clause-done
returns-in-Sample-clause-done c =
    subst (λ (s : Spoken). IfOk c.sampled_line.result (λ text. (meaning s).IsOutput c.args.input.now (string_bytes text))) (sym c.in-Sample.is) c.sampled_line.ensures.done

pub returns-in-Sample-clause-cause : goal.returns-in-Sample-clause-cause
returns-in-Sample-clause-cause c = subst (λ (s : Spoken). IfErr c.sampled_line.result ((meaning s).IsCause c.args.input.now)) (sym c.in-Sample.is) c.sampled_line.ensures.cause

pub returns-in-Sample-clause-invalid : goal.returns-in-Sample-clause-invalid
returns-in-Sample-clause-invalid c =
    subst (λ (s : Spoken). IfOk c.sampled_line.result (λ x. (e : EduceError) → e.kind ≢ Alloc → (meaning s).IsCause c.args.input.now e → ⊥)) (sym c.in-Sample.is) c.sampled_line.ensures.invalid

pub returns-in-Expand-clause-valid : goal.returns-in-Expand-clause-valid
returns-in-Expand-clause-valid c =
    subst (λ (s : Spoken). (meaning s).IsValid c.args.input.now → IfErr c.expanded_text.result (λ (e : EduceError). e.kind ≡ Alloc)) (sym c.in-Expand.is) c.expanded_text.ensures.valid

pub returns-in-Sample-clause-valid : goal.returns-in-Sample-clause-valid
returns-in-Sample-clause-valid c =
    subst (λ (s : Spoken). (meaning s).IsValid c.args.input.now → IfErr c.sampled_line.result (λ (e : EduceError). e.kind ≡ Alloc)) (sym c.in-Sample.is) c.sampled_line.ensures.valid
