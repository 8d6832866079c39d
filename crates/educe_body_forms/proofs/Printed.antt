-- The tokens of forms that hold forms, as equations on the lists and the boxed forms that they were made of.
use denote.Hole.Carrier.{hidden}
use mathlib.Core.Former.{Count}
use Rattle.std.proofs.Common.{◌≡◌, Bool, true, false, Option, Some, None, List, [], ◌++◌, refl, sym, ap, ◌∙◌, codes}
use Rattle.std.specs.List.{flat_map}
use Rattle.std.specs.declared.cmp.Ordering.{Ordering}
use Rattle.std.specs.declared.cmp.Ordering.TheVariants.{Equal}
use Rattle.educe_tokens.specs.declared.word.Word.{Word}
use Rattle.educe_tokens.specs.Lexes.{Lexeme}
use Rattle.educe_tokens.specs.Quote.{quoted}
use Rattle.educe_tokens.specs.declared.written.Written.{Written}
use Rattle.educe_tokens.specs.WrittenLexemes.{written_lexemes}
use Rattle.educe_tree.specs.declared.expr.ExprPath.{ExprPath}
use Rattle.educe_tree.specs.declared.data.FieldForm.{FieldForm}
use Rattle.educe_tree.specs.declared.data.FieldForm.TheVariants.{Named, Unnamed, Unit}
use Rattle.educe_tree.specs.declared.ident.Ident.{Ident}
use Rattle.educe_body_forms.specs.declared.form.Form.{Form, Call, Call', Not, IfReturn, Return, SomeOf, MatchOrdering, MatchValue, MatchValue', IfLet, Block, Block', HashPart, Construct, Construct', AssignField, AssignThrough, BuilderEntry, MethodArgument, Row_of-Form, end_of-Form, more_of-Form, Row_of-Arm, end_of-Arm, more_of-Arm, Row_of-Init, end_of-Init, more_of-Init, items-the_row-Form, items_hidden-the_row-Form-0, items_shown-the_row-Form-0, items-the_row-Arm, items_hidden-the_row-Arm-2, items-the_row-Init, items_hidden-the_row-Init-3}
use Rattle.educe_body_forms.specs.declared.form.Arm.{Arm}
use Rattle.educe_body_forms.specs.declared.form.Init.{Init}
use Rattle.educe_body_forms.specs.declared.form.Form.TheBlock.{hidden-the_row-Form-1}
use Rattle.educe_body_forms.specs.declared.pattern.Pattern.{Pattern}
use Rattle.educe_body_forms.specs.declared.shown.ArgumentNames.{ArgumentNames}
use Rattle.educe_body_forms.specs.declared.shown.EntryKey.{EntryKey}
use Rattle.educe_body_forms.specs.Printing.{separated}
use Rattle.educe_body_forms.specs.Printouts.{Printout, name, each, in_round, in_curly}
use Rattle.educe_body_forms.specs.Tokens.{order_printout, in_some, other_arms, pattern_printout, if_let_head, if_let_printout, in_form, keyed, self_printout, construct_printout, field_assignment, through_assignment, in_braces, comma_where, form_printout, form_lexemes, init_printout, in_a_row, arms_in_a_row, inits_in_a_row, arguments, behind_comma, arms_with, else_with, arm_printout, match_value_printout}
use Rattle.educe_body_forms.specs.ShownPrintouts.{entry_printout, method_argument}

-- the forms that a call or a block holds
abbrev row_of : Form → (n : Count) × Row_of-Form n
row_of (Call' path shape row) = (_, row)
row_of (Block' shape row) = (_, row)
row_of _ = (_, end_of-Form)

-- the arms that a match holds
abbrev arms_of : Form → (n : Count) × Row_of-Arm n
arms_of (MatchValue' value shape row) = (_, row)
arms_of _ = (_, end_of-Arm)

-- the tokens of the forms of a row, behind one another
in_a_row-items : (n : _) (row : Row_of-Form n) → (in_a_row row).tokens ≡ flat_map form_lexemes (items-the_row-Form n row)
in_a_row-items n end_of-Form = refl
in_a_row-items n (more_of-Form x rest) = ap (λ found. form_lexemes x ++ found) (in_a_row-items _ rest)

-- the tokens of the forms of a row, a comma before each
behind_comma-items : (n : _) (row : Row_of-Form n) → (behind_comma row).tokens ≡ flat_map (λ form. quoted (codes ",") ++ form_lexemes form) (items-the_row-Form n row)
behind_comma-items n end_of-Form = refl
behind_comma-items n (more_of-Form x rest) = ap (λ found. (quoted (codes ",") ++ form_lexemes x) ++ found) (behind_comma-items _ rest)

-- the tokens of the forms of a row, with commas between
arguments-items : (n : _) (row : Row_of-Form n) → (arguments row).tokens ≡ (separated form_printout (items-the_row-Form n row)).tokens
arguments-items n end_of-Form = refl
arguments-items n (more_of-Form x rest) = ap (λ found. form_lexemes x ++ found) (behind_comma-items _ rest)

-- a call, by the tokens of its arguments
pub form_lexemes-Call : (path : ExprPath) (args : List Form) → form_lexemes (Call path args) ≡ written_lexemes path.written ++ (in_round (separated form_printout args)).tokens
form_lexemes-Call path args =
    let row = row_of (Call path args) in
    ap (λ found. written_lexemes path.written ++ (quoted (codes "(") ++ found ++ quoted (codes ")")))
    (arguments-items row.0 row.1 ∙ ap (λ forms. (separated form_printout forms).tokens) (items_hidden-the_row-Form-0 args))

-- the forms of a block, behind one another
block-items : (forms : List Form) → (in_a_row (row_of (Block forms)).1).tokens ≡ flat_map form_lexemes forms
block-items forms =
    let row = row_of (Block forms) in
    in_a_row-items row.0 row.1 ∙ ap (flat_map form_lexemes) (items_hidden-the_row-Form-0 forms)

-- a block, by its forms
pub form_lexemes-Block : (forms : List Form) → form_lexemes (Block forms) ≡ (in_curly (each form_printout forms)).tokens
form_lexemes-Block forms = ap (λ found. quoted (codes "{") ++ found ++ quoted (codes "}")) (block-items forms)

-- an `if let`, by its forms and the others
pub form_lexemes-IfLet : (pattern : Pattern) (value : Ident) (forms : List Form) (others : Option (List Form)) → form_lexemes (IfLet pattern value forms others)
    ≡ (if_let_printout pattern value (in_curly (each form_printout forms))).tokens ++ (else_with others).tokens
form_lexemes-IfLet pattern value forms None =
    ap (λ found. (if_let_head pattern value).tokens ++ (quoted (codes "{") ++ found ++ quoted (codes "}")) ++ []) (block-items forms)
form_lexemes-IfLet pattern value forms (Some others) =
    λ i. (if_let_head pattern value).tokens ++ (quoted (codes "{") ++ block-items forms i ++ quoted (codes "}"))
    ++ (quoted (codes "else") ++ (quoted (codes "{") ++ block-items others i ++ quoted (codes "}")))

-- a printout has the same tokens as the printouts of these forms, with or without braces
in_braces-same : (braced : Bool) (inside : Printout) (forms : List Form) → inside.tokens ≡ flat_map form_lexemes forms
    → (in_braces braced inside).tokens ≡ (in_braces braced (each form_printout forms)).tokens
in_braces-same false inside forms same = same
in_braces-same true inside forms same = ap (λ found. quoted (codes "{") ++ found ++ quoted (codes "}")) same

-- the tokens of the arms of a row, behind one another
arms_in_a_row-items : (n : _) (row : Row_of-Arm n) → (arms_in_a_row row).tokens ≡ flat_map (λ arm. (arm_printout arm).tokens) (items-the_row-Arm n row)
arms_in_a_row-items n end_of-Arm = refl
arms_in_a_row-items n (more_of-Arm pattern braced comma shape row rest) =
    let forms = in_braces-same braced (in_a_row row) (items-the_row-Form _ row) (in_a_row-items _ row) in
    let block = forms ∙ ap (λ (forms : List Form). (in_braces braced (each form_printout forms)).tokens) (sym (items_shown-the_row-Form-0 shape row)) in
    let others = arms_in_a_row-items _ rest in
    λ i. (pattern_printout pattern).tokens ++ quoted (codes "=>") ++ block i ++ (comma_where comma).tokens ++ others i

-- a match on a value, by its arms
pub form_lexemes-MatchValue : (value : Ident) (arms : List Arm) → form_lexemes (MatchValue value arms) ≡ (match_value_printout value arms).tokens
form_lexemes-MatchValue value arms =
    let row = arms_of (MatchValue value arms) in
    ap (λ found. quoted (codes "match") ++ (name value).tokens ++ (quoted (codes "{") ++ found ++ quoted (codes "}")))
    (arms_in_a_row-items row.0 row.1 ∙ ap (flat_map (λ (arm : Arm). (arm_printout arm).tokens)) (items_hidden-the_row-Arm-2 arms))

-- the fields that a value is built of
abbrev inits_of : Form → (n : Count) × Row_of-Init n
inits_of (Construct' variant form shape row) = (_, row)
inits_of _ = (_, end_of-Init)

-- the tokens of the fields of a row, behind one another
inits_in_a_row-items : (n : _) (row : Row_of-Init n) → (inits_in_a_row row).tokens ≡ flat_map (λ init. (init_printout init).tokens) (items-the_row-Init n row)
inits_in_a_row-items n end_of-Init = refl
inits_in_a_row-items n (more_of-Init key value rest) = ap (λ found. (keyed key (form_printout value)).tokens ++ found) (inits_in_a_row-items _ rest)

-- printouts with the same tokens have them in the brackets of a form
in_form-same : (form : FieldForm) (x y : Printout) → x.tokens ≡ y.tokens → (in_form form x).tokens ≡ (in_form form y).tokens
in_form-same Named x y same = ap (λ found. quoted (codes "{") ++ found ++ quoted (codes "}")) same
in_form-same Unnamed x y same = ap (λ found. quoted (codes "(") ++ found ++ quoted (codes ")")) same
in_form-same Unit x y same = refl

-- a value that is built, by its fields
pub form_lexemes-Construct : (variant : Option Ident) (form : FieldForm) (inits : List Init) → form_lexemes (Construct variant form inits) ≡ (construct_printout variant form (each init_printout inits)).tokens
form_lexemes-Construct variant form inits =
    let row = inits_of (Construct variant form inits) in
    let same = inits_in_a_row-items row.0 row.1 ∙ ap (flat_map (λ (init : Init). (init_printout init).tokens)) (items_hidden-the_row-Init-3 inits) in
    ap (λ found. (self_printout variant).tokens ++ found) (in_form-same form (inits_in_a_row row.1) (each init_printout inits) same)

-- forms with one form in a box, by what that is printed as
pub form_lexemes-SomeOf : (inner : Form) → form_lexemes (SomeOf inner) ≡ (in_some (form_printout inner)).tokens
unfolding hidden-the_row-Form-1 hidden
form_lexemes-SomeOf inner = refl

pub form_lexemes-Not : (inner : Form) → form_lexemes (Not inner) ≡ quoted (codes "!") ++ form_lexemes inner
unfolding hidden-the_row-Form-1 hidden
form_lexemes-Not inner = refl

pub form_lexemes-IfReturn : (test : Form) → form_lexemes (IfReturn test) ≡ quoted (codes "if") ++ form_lexemes test ++ quoted (codes "{ return false ; }")
unfolding hidden-the_row-Form-1 hidden
form_lexemes-IfReturn test = refl

pub form_lexemes-Return : (inner : Form) → form_lexemes (Return inner) ≡ quoted (codes "return") ++ form_lexemes inner ++ quoted (codes ";")
unfolding hidden-the_row-Form-1 hidden
form_lexemes-Return inner = refl

pub form_lexemes-HashPart : (inner : Form) → form_lexemes (HashPart inner) ≡ form_lexemes inner ++ quoted (codes ";")
unfolding hidden-the_row-Form-1 hidden
form_lexemes-HashPart inner = refl

-- a match on an order, by what is matched and the arms
pub form_lexemes-MatchOrdering : (matched : Form) (partial : Bool) (held : Option (List Form)) (greater less : Ordering) → form_lexemes (MatchOrdering matched partial held greater less)
    ≡ quoted (codes "match") ++ form_lexemes matched ++ (arms_with partial held greater less).tokens
unfolding hidden-the_row-Form-1 hidden
form_lexemes-MatchOrdering matched partial None above below = refl
form_lexemes-MatchOrdering matched partial (Some block) above below =
    let equal = λ (found : List Lexeme). (order_printout Equal).tokens ++ quoted (codes "=>") ++ (quoted (codes "{") ++ found ++ quoted (codes "}")) ++ quoted (codes ",") in
    ap (λ found. quoted (codes "match") ++ form_lexemes matched ++ (quoted (codes "{") ++ (equal found ++ (other_arms partial above below).tokens) ++ quoted (codes "}")))
    (block-items block)

-- an assignment to a field, by what is assigned
pub form_lexemes-AssignField : (key : Word) (path : ExprPath) (value : Form) (handed : Bool) → form_lexemes (AssignField key path value handed)
    ≡ (field_assignment handed key path.written (form_printout value)).tokens
unfolding hidden-the_row-Form-1 hidden
form_lexemes-AssignField key path value handed = refl

-- an assignment through a name, by what is assigned
pub form_lexemes-AssignThrough : (target : Ident) (path : ExprPath) (value : Form) (handed : Bool) → form_lexemes (AssignThrough target path value handed)
    ≡ (through_assignment handed target path.written (form_printout value)).tokens
unfolding hidden-the_row-Form-1 hidden
form_lexemes-AssignThrough target path value handed = refl

-- an entry of a builder, by its value
pub form_lexemes-BuilderEntry : (builder : Ident) (key : EntryKey) (value : Form) (by_reference : Bool) → form_lexemes (BuilderEntry builder key value by_reference)
    ≡ (entry_printout builder key by_reference (form_printout value)).tokens
unfolding hidden-the_row-Form-1 hidden
form_lexemes-BuilderEntry builder key value by_reference = refl

-- the argument of a method, by what the method is called on
pub form_lexemes-MethodArgument : (names : ArgumentNames) (value : Form) (ty : Written) (path : ExprPath) → form_lexemes (MethodArgument names value ty path)
    ≡ (method_argument names (form_printout value) ty path.written).tokens
unfolding hidden-the_row-Form-1 hidden
form_lexemes-MethodArgument names value ty path = refl
