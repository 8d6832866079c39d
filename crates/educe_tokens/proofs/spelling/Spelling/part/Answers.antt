use Rattle.std.proofs.Common.{refl, arith, sym, ap, ◌∙◌, subst, chars}
use Rattle.std.specs.Prelude.{slice_range}
use Rattle.std.specs.Str.{IsCharBoundary}
use Rattle.educe_tokens.proofs.Cutting.{short_bytes, part_of}
use Rattle.educe_tokens.proofs.spelling.Spelling.part.Goals as goal

pub range-requires-clause-start_boundary : goal.range-requires-clause-start_boundary
range-requires-clause-start_boundary c =
    let bytes = short_bytes c.self.inside.text c.args.self.now c.in-Short.bytes c.in-Short.len c.in-Short.is c.self.view_is c.self.invariant ∙ sym c.short_str-whole.ensures in
    λ _. subst (λ bs. IsCharBoundary bs c.args.start) bytes c.requires.start

pub range-requires-clause-end_boundary : goal.range-requires-clause-end_boundary
range-requires-clause-end_boundary c =
    let bytes = short_bytes c.self.inside.text c.args.self.now c.in-Short.bytes c.in-Short.len c.in-Short.is c.self.view_is c.self.invariant ∙ sym c.short_str-whole.ensures in
    subst (λ bs. IsCharBoundary bs c.args.end) bytes c.requires.end

pub returns-in-Short : goal.returns-in-Short
returns-in-Short c =
    let bytes = short_bytes c.self.inside.text c.args.self.now c.in-Short.bytes c.in-Short.len c.in-Short.is c.self.view_is c.self.invariant ∙ sym c.short_str-whole.ensures in
    ap chars (c.short-text.ensures.bytes ∙ c.range.ensures.value ∙ ap (λ bs. slice_range bs c.args.start c.args.end) (sym bytes))

pub overflow_add-result : goal.overflow_add-result
overflow_add-result c =
    let part = part_of c.self.inside.text c.args.self.now c.in-Part.source c.in-Part.source c.in-Part.first _ c.args.start c.args.end c.in-Part.is refl c.self.view_is c.self.invariant c.requires.start_le_end c.requires.start c.requires.end in
    let fits = part.fits in
    let ordered = c.requires.start_le_end in
    omega arith

pub overflow_add-result-in-Part : goal.overflow_add-result-in-Part
overflow_add-result-in-Part c =
    let part = part_of c.self.inside.text c.args.self.now c.in-Part.source c.in-Part.source c.in-Part.first _ c.args.start c.args.end c.in-Part.is refl c.self.view_is c.self.invariant c.requires.start_le_end c.requires.start c.requires.end in
    let fits = part.fits in
    omega arith

pub invariant_of-result-in-Part : goal.invariant_of-result-in-Part
invariant_of-result-in-Part c =
    let part = part_of c.self.inside.text c.args.self.now c.in-Part.source c.in_ok-source-in-Part.source c.in-Part.first _ c.args.start c.args.end c.in-Part.is c.in_ok-source-in-Part.ensures.cases c.self.view_is c.self.invariant c.requires.start_le_end c.requires.start c.requires.end in
    part.cut

pub returns-in_ok-source-in-Part : goal.returns-in_ok-source-in-Part
returns-in_ok-source-in-Part c =
    let part = part_of c.self.inside.text c.args.self.now c.in-Part.source c.in_ok-source-in-Part.source c.in-Part.first _ c.args.start c.args.end c.in-Part.is c.in_ok-source-in-Part.ensures.cases c.self.view_is c.self.invariant c.requires.start_le_end c.requires.start c.requires.end in
    part.same
