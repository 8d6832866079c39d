-- In which bodies an assignment stands: in those of `clone_from`, and in no others.
use Rattle.std.proofs.Common.{◌≡◌, ℕ, Bool, true, false, ◌||◌, List, [], ◌∷◌, ◌++◌, Option, Some, None, refl, sym, ap, ◌∙◌}
use Rattle.std.specs.List.{AllZip, list_any}
use Rattle.std.specs.Prelude.{codes}
use Rattle.std.specs.declared.cmp.Ordering.TheVariants.{Less, Greater}
use Rattle.std.proofs.lemmas.Bool.{false≢true}
use Rattle.educe_tokens.specs.Lexes.{Lexeme}
use Rattle.educe_tokens.specs.declared.word.Word.{Word}
use Rattle.educe_syntax.specs.DeriveInput.{DeriveInput}
use Rattle.educe_syntax.specs.ExprPath.{ExprPath}
use Rattle.educe_syntax.specs.Ident.{Ident}
use Rattle.educe_syntax.specs.FieldShape.{FieldShape}
use Rattle.educe_syntax.specs.Shape.{Shape}
use Rattle.educe_syntax.specs.Shape.TheVariants.{Struct, Enum}
use Rattle.educe_syntax.specs.Variant.{Variant}
use Rattle.educe_body_forms.specs.declared.comparison.Comparison.{Comparison}
use Rattle.educe_body_forms.specs.declared.comparison.Comparison.TheVariants.{PartialEq, PartialOrd, Ord}
use Rattle.educe_body_forms.specs.declared.form.Arm.{Arm}
use Rattle.educe_body_forms.specs.declared.form.Form.{Form, Local, Return, MatchValue, IfLet}
use Rattle.educe_body_forms.specs.declared.form.Form as form
use Rattle.educe_body_forms.specs.declared.form.Init.{Init}
use Rattle.educe_body_forms.specs.declared.form.Known.TheVariants.{Truth}
use Rattle.educe_body_values.specs.Changing.{assigns, any_assigns, others_assign}
use Rattle.educe_body_values.proofs.Changing.{assigns-Call, assigns-Not, assigns-SomeOf, assigns-IfReturn, assigns-Return, assigns-MatchOrdering, assigns-MatchValue, assigns-IfLet, assigns-Construct, assigns-BuilderEntry, assigns-MethodArgument}
use Rattle.educe_meaning.specs.Arms.{Names, IsMatchOnSelf, IsOtherwise, returns_at_once, IsVariantBlock, IsArm, IsMatch, in_answer, is_partial, IsDecision, are_units, IsKeyed, IsEnumBlock}
use Rattle.educe_meaning.specs.Blocks.{HasSteps}
use Rattle.educe_meaning.specs.CloneBodies.{CloneNames, IsCloneInit, IsCloneConstruct, IsCloneArm, AreAssignments, IsFromArm, IsFromBlockFor}
use Rattle.educe_meaning.specs.Comparing.{neutral}
use Rattle.educe_meaning.specs.Making.{IsPasted, IsInit, IsConstruct, IsMaking}
use Rattle.educe_settings.specs.Defaults.{Choice, by_value, of_struct, of_variant}
use Rattle.educe_settings.specs.Settings.{Kept, How, plainly, by_method, by_order, kept_fields}
use Rattle.educe_meaning.specs.ShownBodies.{DebugNames, IsEntry, is_lent, ArePlain, AreByMethod, AreFormsBy, AreEntries, IsBuilt, IsArmBlock, IsDebugArm, IsDebugBlockFor, HasHelper}
use Rattle.educe_settings.specs.Shown.{ShownCase, struct_shown, variant_shown, shown_fields}
use Rattle.educe_meaning.specs.Showing.{form_of, shown_key}
use Rattle.educe_meaning.specs.Steps.{Reading, of_base, bound, reference_form, IsRead, tested, step_of, IsStep, AreSteps, if_greater, if_less}
use Rattle.educe_bound_traits.specs.declared.traits.Trait.TheVariants as trait
use Rattle.educe_body_values.specs.declared.shape.ShapeForm.{ShapeForm}

-- ---- lists

none_of : (a b : Bool) → a ≡ false → b ≡ false → (a || b) ≡ false
none_of a b first second = λ i. first i || second i

-- what follows from the second of two that do not hold stands in its place
none_then : (a b c : Bool) → (a || b) ≡ false → (b ≡ false → c ≡ false) → (a || c) ≡ false
none_then true b c none more = absurd (false≢true (sym none))
none_then false b c none more = more none

-- where no assignment stands in two lists, none stands in their join
still_joined : (xs ys : List Form) → any_assigns xs ≡ false → any_assigns ys ≡ false → any_assigns (xs ++ ys) ≡ false
still_joined [] ys front back = back
still_joined (x ∷ xs) ys front back = none_then (assigns x) (any_assigns xs) (any_assigns (xs ++ ys)) front (λ none. still_joined xs ys none back)

-- a test that holds of nothing that is so related holds of none of a list
still_zip : {X Y : Type 0} (R : X → Y → Type 0) (test : Y → Bool) → ((x : X) (y : Y) → R x y → test y ≡ false) → (xs : List X) (ys : List Y) → AllZip R xs ys → list_any test ys ≡ false
still_zip R test still [] [] are = refl
still_zip R test still [] (y ∷ ys) are = absurd are
still_zip R test still (x ∷ xs) [] are = absurd are
still_zip R test still (x ∷ xs) (y ∷ ys) are = none_of (test y) (list_any test ys) (still x y are.0) (still_zip R test still xs ys are.1)

-- a list of one form
pub still_one : (x : Form) (block : List Form) → block ≡ x ∷ [] → assigns x ≡ false → any_assigns block ≡ false
still_one x block is still = ap any_assigns is ∙ none_of (assigns x) false still refl

-- a match on `self` in none of whose arms an assignment stands
still_match : (IsOwn : Variant → Arm → Type 0) → ((v : Variant) (arm : Arm) → IsOwn v arm → any_assigns arm.block ≡ false) → (variants : List Variant) (block : List Form)
    → (m : IsMatchOnSelf IsOwn variants block) → assigns (MatchValue m.value m.arms) ≡ false
still_match IsOwn still variants block m = assigns-MatchValue m.value m.arms ∙ still_zip IsOwn (λ arm. any_assigns arm.block) still variants m.arms m.arms_are

-- ---- comparisons

still_reference : (copied : Bool) (base : Ident) (key : Word) → assigns (reference_form copied base key) ≡ false
still_reference false base key = refl
still_reference true base key = refl

-- what reads a field does not assign
still_read : (reading : Reading) (kept : Kept) (x : Form) → IsRead reading kept x → assigns x ≡ false
still_read (of_base copied base) kept x is = ap assigns is.is ∙ still_reference copied is.base_name is.key
still_read (bound prefix) kept x is = ap assigns is.is

still_tested : (which : Comparison) (how : How) (x : Form) → assigns x ≡ false → assigns (tested which how x) ≡ false
still_tested PartialEq plainly x still = still
still_tested PartialEq (by_method path) x still = assigns-Not x ∙ still
still_tested PartialEq (by_order path) x still = assigns-Not x ∙ still
still_tested PartialOrd plainly x still = still
still_tested PartialOrd (by_method path) x still = still
still_tested PartialOrd (by_order path) x still = assigns-SomeOf x ∙ still
still_tested Ord how x still = still

still_step : (which : Comparison) (reverse : Bool) (x : Form) → assigns x ≡ false → assigns (step_of which reverse x) ≡ false
still_step PartialEq reverse x still = assigns-IfReturn x ∙ still
still_step PartialOrd reverse x still = assigns-MatchOrdering x true None (if_greater reverse) (if_less reverse) ∙ none_of (assigns x) false still refl
still_step Ord reverse x still = assigns-MatchOrdering x false None (if_greater reverse) (if_less reverse) ∙ none_of (assigns x) false still refl

-- no step assigns
still_steps : (which : Comparison) (own others : Reading) (ordered : List Kept) (steps : List Form) → AreSteps which own others ordered steps → any_assigns steps ≡ false
still_steps which own others ordered steps are = still_zip (IsStep which own others) assigns one ordered steps are
  where
    one : (k : Kept) (x : Form) → IsStep which own others k x → assigns x ≡ false
    one k x is =
        let c = is.comparison_is in
        let call : assigns is.compares ≡ false =
        ap assigns c.is ∙ assigns-Call c.path (c.first ∷ c.second ∷ [])
        ∙ none_of (assigns c.first) (assigns c.second || false) (still_read own k c.first c.first_is) (none_of (assigns c.second) false (still_read others k c.second c.second_is) refl) in
        ap assigns is.is ∙ still_step which k.reverse (tested which k.how is.compares) (still_tested which k.how is.compares call)

-- the block of a struct does not assign
pub still_struct : (which : Comparison) (own others : Reading) (ordered : List Kept) (block : List Form) → HasSteps which own others ordered block → any_assigns block ≡ false
still_struct which own others ordered block k =
    ap any_assigns k.block_is ∙ still_joined k.steps (form.Known (neutral which) ∷ []) (still_steps which own others ordered k.steps k.steps_are) refl

still_otherwise : (which : Comparison) (others : Option (List Form)) → IsOtherwise which others → others_assign others ≡ false
still_otherwise PartialEq others is = ap others_assign is ∙ none_of (assigns (Return (form.Known (Truth false)))) false (assigns-Return (form.Known (Truth false))) refl
still_otherwise PartialOrd others is = ap others_assign is
still_otherwise Ord others is = ap others_assign is

-- the forms in the arms of an enum do not assign
still_arms : (which : Comparison) (d : DeriveInput) (names : Names) (variants : List Variant) (block : List Form) → IsMatch which d names variants block → any_assigns block ≡ false
still_arms which d names variants block m =
    ap any_assigns m.block_is
    ∙ none_of (assigns (MatchValue m.value m.arms)) false (assigns-MatchValue m.value m.arms ∙ still_zip (IsArm which d names) (λ arm. any_assigns arm.block) one variants m.arms m.arms_are) refl
  where
    of_block : (once : Bool) (v : Variant) (block : List Form) → IsVariantBlock once which d names v block → any_assigns block ≡ false
    of_block true v block is = still_one (Return (form.Known (neutral which))) block is (assigns-Return (form.Known (neutral which)))
    of_block false v block is =
        still_one (IfLet is.inner is.value is.steps is.others) block is.block_is
        (assigns-IfLet is.inner is.value is.steps is.others
        ∙ none_of (any_assigns is.steps) (others_assign is.others) (still_steps which (bound names.own) (bound names.others) is.ordered is.steps is.steps_are) (still_otherwise which is.others is.others_are))

    one : (v : Variant) (arm : Arm) → IsArm which d names v arm → any_assigns arm.block ≡ false
    one v arm is = of_block (returns_at_once which v) v arm.block is.block_is

still_answer : (which : Comparison) (x : Form) → assigns x ≡ false → assigns (in_answer which x) ≡ false
still_answer PartialEq x still = still
still_answer PartialOrd x still = assigns-SomeOf x ∙ still
still_answer Ord x still = still

still_decision : (which : Comparison) (d : DeriveInput) (names : Names) (variants : List Variant) (compares : Form) (units : Bool) (x : Form) → assigns compares ≡ false
    → IsDecision which d names variants compares units x → assigns x ≡ false
still_decision which d names variants compares true x still is = ap assigns is ∙ still_answer which compares still
still_decision which d names variants compares false x still (block, block_is, is) =
    ap assigns is ∙ assigns-MatchOrdering compares (is_partial which) (Some block) Greater Less
    ∙ none_of (assigns compares) (any_assigns block) still (still_arms which d names variants block block_is)

still_keyed : (which : Comparison) (d : DeriveInput) (names : Names) (variants : List Variant) (block : List Form) → IsKeyed which d names variants block → any_assigns block ≡ false
still_keyed which d names variants block k =
    let c = k.comparison_is in
    let compares : assigns k.compares ≡ false =
    ap assigns c.is ∙ assigns-Call c.path (c.first ∷ c.second ∷ []) ∙ none_of (assigns c.first) (assigns c.second || false) (ap assigns c.first_is.is) (none_of (assigns c.second) false (ap assigns c.second_is.is) refl) in
    ap any_assigns k.block_is
    ∙ none_of (assigns k.keys) (assigns k.decision || false) (ap assigns k.keys_are.is)
    (none_of (assigns k.decision) false (still_decision which d names variants k.compares (are_units variants) k.decision compares k.decision_is) refl)

-- the block of an enum does not assign
pub still_enum : (which : Comparison) (d : DeriveInput) (names : Names) (variants : List Variant) (block : List Form) → IsEnumBlock which d names variants block → any_assigns block ≡ false
still_enum which d names [] block is = ap any_assigns is
still_enum PartialEq d names (v ∷ vs) block is = still_arms PartialEq d names (v ∷ vs) block is
still_enum PartialOrd d names (v ∷ vs) block is = still_keyed PartialOrd d names (v ∷ vs) block is
still_enum Ord d names (v ∷ vs) block is = still_keyed Ord d names (v ∷ vs) block is

-- ---- what is built

-- tokens that are pasted do not assign
pub still_pasted : (tokens : List Lexeme) (x : Form) → IsPasted tokens x → assigns x ≡ false
still_pasted tokens x is = ap assigns is.is

still_construct : (d : DeriveInput) (name : Option (List ℕ)) (shape : FieldShape) (x : Form) → IsConstruct d name shape x → assigns x ≡ false
still_construct d name shape x is =
    ap assigns is.is ∙ assigns-Construct is.variant shape.form is.inits
    ∙ still_zip (IsInit d) (λ init. assigns init.value) (λ f init of. ap assigns of.value_is.is) shape.fields is.inits is.inits_are

-- the form that makes a default value does not assign
pub still_making : (d : DeriveInput) (choice : Choice) (x : Form) → IsMaking d choice x → assigns x ≡ false
still_making d (by_value said) x is = ap assigns is.is
still_making d (of_struct shape) x is = still_construct d None shape x is
still_making d (of_variant place v) x is = still_construct d (Some v.ident.text) v.fields x is

-- the form that clones does not assign
pub still_clone : (d : DeriveInput) (reading : Reading) (name : Option (List ℕ)) (shape : FieldShape) (x : Form) → IsCloneConstruct d reading name shape x → assigns x ≡ false
still_clone d reading name shape x is =
    ap assigns is.is ∙ assigns-Construct is.variant shape.form is.inits
    ∙ still_zip (IsCloneInit reading) (λ init. assigns init.value) one (kept_fields trait.Clone d shape.fields) is.inits is.inits_are
  where
    one : (k : Kept) (init : Init) → IsCloneInit reading k init → assigns init.value ≡ false
    one k init of = ap assigns of.is ∙ assigns-Call of.path (of.own ∷ []) ∙ none_of (assigns of.own) false (still_read reading k of.own of.own_is) refl

-- a match each arm of which clones does not assign
pub still_clones : (d : DeriveInput) (names : CloneNames) (variants : List Variant) (block : List Form) (m : IsMatchOnSelf (IsCloneArm d names) variants block) → assigns (MatchValue m.value m.arms) ≡ false
still_clones d names variants block m = still_match (IsCloneArm d names) one variants block m
  where
    one : (v : Variant) (arm : Arm) → IsCloneArm d names v arm → any_assigns arm.block ≡ false
    one v arm is = still_one is.form arm.block is.block_is (still_clone d (bound names.sources) (Some v.ident.text) v.fields is.form is.form_is)

-- ---- what is shown

module _ (d : DeriveInput) (names : DebugNames) where
  still_entry : (shape : ShapeForm) (text : List ℕ) (lent : Bool) (held x : Form) → IsEntry names shape text lent held x → assigns held ≡ false → assigns x ≡ false
  still_entry shape text lent held x is still = ap assigns is.is ∙ assigns-BuilderEntry is.builder is.key held lent ∙ still

  still_plain : (shape : ShapeForm) (text : List ℕ) (reading : Reading) (k : Kept) (forms : List Form) → ArePlain names shape text reading k forms → any_assigns forms ≡ false
  still_plain shape text reading k forms is = still_one is.entry forms is.are (still_entry shape text (is_lent reading) is.read is.entry is.entry_is (still_read reading k is.read is.read_is))

  still_method : (shape : ShapeForm) (text : List ℕ) (reading : Reading) (k : Kept) (path : ExprPath) (forms : List Form) → AreByMethod names shape text reading k path forms → any_assigns forms ≡ false
  still_method shape text reading k path forms is =
      let argument = is.argument_is in
      let held : assigns is.argument ≡ false = ap assigns argument.is ∙ assigns-MethodArgument argument.own is.read k.field.ty.written path ∙ still_read reading k is.read is.read_is in
      ap any_assigns is.are
      ∙ none_of (assigns is.argument) (assigns is.entry || false) held (none_of (assigns is.entry) false (still_entry shape text true (Local is.local) is.entry is.entry_is refl) refl)

  still_forms : (shape : ShapeForm) (text : List ℕ) (reading : Reading) (k : Kept) (how : How) (forms : List Form) → AreFormsBy names shape text reading k how forms → any_assigns forms ≡ false
  still_forms shape text reading k plainly forms is = still_plain shape text reading k forms is
  still_forms shape text reading k (by_method path) forms is = still_method shape text reading k path forms is
  still_forms shape text reading k (by_order path) forms is = still_method shape text reading k path forms is

  still_entries : (case : ShownCase) (reading : Reading) (kept : List Kept) (forms : List Form) → AreEntries d names case reading kept forms → any_assigns forms ≡ false
  still_entries case reading [] forms is = ap any_assigns is
  still_entries case reading (k ∷ kept) forms (own, more, is, first, rest) =
      ap any_assigns is
      ∙ still_joined own more (still_forms (form_of case) (shown_key case.named d k) reading k k.how own first) (still_entries case reading kept more rest)

  still_built : (reading : Reading) (case : ShownCase) (block : List Form) → IsBuilt d names reading case block → any_assigns block ≡ false
  still_built reading case block k = ap any_assigns k.block_is ∙ still_joined k.entries (form.Finish k.last ∷ []) (still_entries case reading (shown_fields d case) k.entries k.entries_are) refl

  still_arm : (unit : Bool) (case : ShownCase) (block : List Form) → IsArmBlock unit d names case block → any_assigns block ≡ false
  still_arm true case block k = ap any_assigns k.block_is
  still_arm false case block k = still_built (bound names.prefix) case block k

  still_shown : (shape : Shape) (forms : List Form) → IsDebugBlockFor d names shape forms → any_assigns forms ≡ false
  still_shown (Struct shape) forms k = still_built (of_base k.copied (codes "self")) (struct_shown d shape) forms k.built
  still_shown (Enum []) forms k = ap any_assigns k.block_is
  still_shown (Enum (v ∷ vs)) forms k =
      still_one (MatchValue k.value k.arms) forms k.block_is (still_match (IsDebugArm d names) (λ v arm is. still_arm (variant_shown d v).unit (variant_shown d v) arm.block is.block_is) (v ∷ vs) forms k)

  -- the block of `fmt` does not assign
  pub still_helper : (maps : Bool) (shape : Shape) (forms block : List Form) → IsDebugBlockFor d names shape forms → HasHelper maps names forms block → any_assigns block ≡ false
  still_helper false shape forms block k helper = ap any_assigns helper ∙ still_shown shape forms k
  still_helper true shape forms block k helper = ap any_assigns helper.4 ∙ still_shown shape forms k

-- ---- `clone_from`

or_true : (b : Bool) → (b || true) ≡ true
or_true true = refl
or_true false = refl

some_of : (a b : Bool) → a ≡ true → (a || b) ≡ true
some_of a b first = ap (λ a. a || b) first

from_struct : (copied : Bool) (source : List ℕ) (kept : List Kept) (block : List Form) → AreAssignments copied source kept block → any_assigns block ≡ true
from_struct copied source [] block is = ap any_assigns is.block_is
from_struct copied source (k ∷ kept) [] are = absurd are
from_struct copied source (k ∷ kept) (x ∷ block) are = some_of (assigns x) (any_assigns block) (ap assigns are.0.is)

from_arms : (d : DeriveInput) (names : CloneNames) (v : Variant) (vs : List Variant) (arms : List Arm) → AllZip (IsFromArm d names) (v ∷ vs) arms → list_any (λ arm. any_assigns arm.block) arms ≡ true
from_arms d names v vs [] are = absurd are
from_arms d names v vs (arm ∷ arms) are =
    let is = are.0 in
    let others = Some (is.whole ∷ []) in
    let whole : others_assign others ≡ true = some_of (assigns is.whole) false (ap assigns is.whole_is.is) in
    let first : assigns (IfLet is.inner is.value is.steps others) ≡ true = assigns-IfLet is.inner is.value is.steps others ∙ ap (λ b. any_assigns is.steps || b) whole ∙ or_true (any_assigns is.steps) in
    some_of (any_assigns arm.block) (list_any (λ arm. any_assigns arm.block) arms) (ap any_assigns is.block_is ∙ some_of (assigns (IfLet is.inner is.value is.steps others)) false first)

-- in its block an assignment stands, or a discard
pub from_assigns : (d : DeriveInput) (names : CloneNames) (shape : Shape) (block : List Form) → IsFromBlockFor d names shape block → any_assigns block ≡ true
from_assigns d names (Struct shape) block k = from_struct k.copied names.source (kept_fields trait.Clone d shape.fields) block k.steps_are
from_assigns d names (Enum []) block k = ap any_assigns k.block_is
from_assigns d names (Enum (v ∷ vs)) block k =
    ap any_assigns k.block_is ∙ some_of (assigns (MatchValue k.value k.arms)) false (assigns-MatchValue k.value k.arms ∙ from_arms d names v vs k.arms k.arms_are)
