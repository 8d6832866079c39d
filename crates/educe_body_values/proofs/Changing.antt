-- Whether an assignment stands in forms that hold forms, as equations on the lists and the boxed forms that they were made of.
use denote.Hole.Carrier.{hidden}
use mathlib.Core.Former.{Count}
use Rattle.std.proofs.Common.{◌≡◌, Bool, true, false, ◌||◌, List, Option, Some, None, refl, sym, ap, ◌∙◌}
use Rattle.std.specs.declared.cmp.Ordering.{Ordering}
use Rattle.educe_tokens.specs.declared.written.Written.{Written}
use Rattle.educe_tree.specs.declared.data.FieldForm.{FieldForm}
use Rattle.educe_tree.specs.declared.expr.ExprPath.{ExprPath}
use Rattle.educe_tree.specs.declared.ident.Ident.{Ident}
use Rattle.educe_body_forms.specs.declared.form.Form.{Form, Call, Not, IfReturn, Return, SomeOf, MatchOrdering, MatchValue, IfLet, Block, HashPart, Construct, BuilderEntry, MethodArgument, Row_of-Form, end_of-Form, more_of-Form, Row_of-Arm, end_of-Arm, more_of-Arm, Row_of-Init, end_of-Init, more_of-Init, back-Form-MatchOrdering-2, items-the_row-Form, items_hidden-the_row-Form-0, items_shown-the_row-Form-0, items-the_row-Arm, items_hidden-the_row-Arm-2, items-the_row-Init, items_hidden-the_row-Init-3}
use Rattle.educe_body_forms.specs.declared.form.Arm.{Arm}
use Rattle.educe_body_forms.specs.declared.form.Init.{Init}
use Rattle.educe_body_forms.specs.declared.form.Form.TheBlock.{hidden-the_row-Form-1}
use Rattle.educe_body_forms.specs.declared.pattern.Pattern.{Pattern}
use Rattle.educe_body_forms.specs.declared.shown.ArgumentNames.{ArgumentNames}
use Rattle.educe_body_forms.specs.declared.shown.EntryKey.{EntryKey}
use Rattle.educe_body_values.specs.Changing.{assigns, row_assigns, held_assigns, arms_assign, inits_assign, any_assigns, others_assign, arms_assigning, inits_assigning}
use Rattle.educe_body_values.proofs.Rows.{row_of, arms_of, inits_of}

-- ---- rows

row_assigns-items : (n : Count) (row : Row_of-Form n) → row_assigns row ≡ any_assigns (items-the_row-Form n row)
row_assigns-items n end_of-Form = refl
row_assigns-items n (more_of-Form x rest) = ap (λ b. assigns x || b) (row_assigns-items _ rest)

arms_assign-items : (n : Count) (row : Row_of-Arm n) → arms_assign row ≡ arms_assigning (items-the_row-Arm n row)
arms_assign-items n end_of-Arm = refl
arms_assign-items n (more_of-Arm pattern braced comma shape row rest) =
    let forms = row_assigns-items _ row ∙ ap any_assigns (sym (items_shown-the_row-Form-0 shape row)) in
    λ i. forms i || arms_assign-items _ rest i

inits_assign-items : (n : Count) (row : Row_of-Init n) → inits_assign row ≡ inits_assigning (items-the_row-Init n row)
inits_assign-items n end_of-Init = refl
inits_assign-items n (more_of-Init key x rest) = ap (λ b. assigns x || b) (inits_assign-items _ rest)

or_false : (b : Bool) → (b || false) ≡ b
or_false true = refl
or_false false = refl

-- the forms of a block
block_assigns : (forms : List Form) → row_assigns (row_of (Block forms)).1 ≡ any_assigns forms
block_assigns forms = let row = row_of (Block forms) in row_assigns-items row.0 row.1 ∙ ap any_assigns (items_hidden-the_row-Form-0 forms)

-- a block that may be missing
held-others : (held : Option (List Form)) → held_assigns (back-Form-MatchOrdering-2 held) ≡ others_assign held
held-others None = refl
held-others (Some forms) = block_assigns forms

-- ---- forms

pub assigns-Call : (path : ExprPath) (arguments : List Form) → assigns (Call path arguments) ≡ any_assigns arguments
assigns-Call path arguments =
    let row = row_of (Call path arguments) in
    row_assigns-items row.0 row.1 ∙ ap any_assigns (items_hidden-the_row-Form-0 arguments)

pub assigns-Not : (held : Form) → assigns (Not held) ≡ assigns held
unfolding hidden-the_row-Form-1 hidden
assigns-Not held = or_false (assigns held)

pub assigns-SomeOf : (held : Form) → assigns (SomeOf held) ≡ assigns held
unfolding hidden-the_row-Form-1 hidden
assigns-SomeOf held = or_false (assigns held)

pub assigns-IfReturn : (held : Form) → assigns (IfReturn held) ≡ assigns held
unfolding hidden-the_row-Form-1 hidden
assigns-IfReturn held = or_false (assigns held)

pub assigns-Return : (held : Form) → assigns (Return held) ≡ assigns held
unfolding hidden-the_row-Form-1 hidden
assigns-Return held = or_false (assigns held)

pub assigns-HashPart : (held : Form) → assigns (HashPart held) ≡ assigns held
unfolding hidden-the_row-Form-1 hidden
assigns-HashPart held = or_false (assigns held)

pub assigns-MatchOrdering : (matched : Form) (partial : Bool) (held : Option (List Form)) (above below : Ordering)
    → assigns (MatchOrdering matched partial held above below) ≡ (assigns matched || others_assign held)
unfolding hidden-the_row-Form-1 hidden
assigns-MatchOrdering matched partial held above below = λ i. or_false (assigns matched) i || held-others held i

pub assigns-MatchValue : (name : Ident) (arms : List Arm) → assigns (MatchValue name arms) ≡ arms_assigning arms
assigns-MatchValue name arms =
    let row = arms_of (MatchValue name arms) in
    arms_assign-items row.0 row.1 ∙ ap arms_assigning (items_hidden-the_row-Arm-2 arms)

pub assigns-IfLet : (pattern : Pattern) (name : Ident) (forms : List Form) (others : Option (List Form))
    → assigns (IfLet pattern name forms others) ≡ (any_assigns forms || others_assign others)
assigns-IfLet pattern name forms others = λ i. block_assigns forms i || held-others others i

pub assigns-Block : (forms : List Form) → assigns (Block forms) ≡ any_assigns forms
assigns-Block forms = block_assigns forms

pub assigns-Construct : (name : Option Ident) (written : FieldForm) (inits : List Init) → assigns (Construct name written inits) ≡ inits_assigning inits
assigns-Construct name written inits =
    let row = inits_of (Construct name written inits) in
    inits_assign-items row.0 row.1 ∙ ap inits_assigning (items_hidden-the_row-Init-3 inits)

pub assigns-BuilderEntry : (builder : Ident) (key : EntryKey) (held : Form) (by_reference : Bool) → assigns (BuilderEntry builder key held by_reference) ≡ assigns held
unfolding hidden-the_row-Form-1 hidden
assigns-BuilderEntry builder key held by_reference = or_false (assigns held)

pub assigns-MethodArgument : (own : ArgumentNames) (held : Form) (type : Written) (path : ExprPath) → assigns (MethodArgument own held type path) ≡ assigns held
unfolding hidden-the_row-Form-1 hidden
assigns-MethodArgument own held type path = or_false (assigns held)
