-- The functions of the blocks of `Clone` and of `Copy` evaluate to what they mean.
use Rattle.std.proofs.Common.{◌≡◌, ◌≢◌, ◌≤◌, ◌^◌, ◌↔◌, Bool, true, false, List, [], ◌∷◌, Some, None, length, refl, sym, ap, ◌∙◌, subst}
use Rattle.std.specs.Prelude.{IsTrue, if◌then◌else◌, codes}
use Rattle.std.specs.List.{AllByRecursion, flat_map}
use Rattle.std.proofs.lemmas.Bool.{false≢true}
use Rattle.std.proofs.lemmas.Option.{same_Some}
use Rattle.std.proofs.lemmas.Slice.Eq.{bytes_eq-Decides}
use Rattle.educe_syntax.specs.DeriveInput.{DeriveInput}
use Rattle.educe_syntax.specs.Few.{shape_fields, all_fields}
use Rattle.educe_syntax.specs.Field.{Field}
use Rattle.educe_syntax.specs.Refusal.{IsDefinition}
use Rattle.educe_syntax.specs.Shape.{Shape}
use Rattle.educe_syntax.specs.Shape.TheVariants.{Struct, Enum}
use Rattle.educe_syntax.specs.Variant.{Variant}
use Rattle.educe_bound_traits.specs.declared.traits.Trait.{Trait}
use Rattle.educe_bound_traits.specs.declared.traits.Trait.TheVariants as trait
use Rattle.educe_attrs.specs.Fields.{HaveNoCauses}
use Rattle.educe_body_values.specs.Changing.{assigns}
use Rattle.educe_body_values.specs.Meaning.{first_bindings, start, form_value, list_value, outcome_of, own_of, changed_or_given, ended, value}
use Rattle.educe_body_forms.specs.declared.body.Body.{Body}
use Rattle.educe_body_items.specs.declared.items.Function.{Function}
use Rattle.educe_body_items.specs.declared.items.Item.{Item}
use Rattle.educe_body_values.specs.declared.outcome.Outcome.TheVariants.{Made}
use Rattle.educe_body_values.specs.declared.flow.Thing.TheVariants.{Nothing}
use Rattle.educe_body_forms.specs.declared.form.Form.{Form, MatchValue}
use Rattle.educe_body_forms.specs.declared.form.Form as form
use Rattle.educe_meaning.specs.Blocks.{scene_of, scene_with, Clones, ClonesFrom, AreCloneFunctions, IsCloneBlock, IsCopyBlock, Evaluates, EachEvaluates}
use Rattle.educe_settings.specs.Cases.{is_struct, fields_in}
use Rattle.educe_meaning.specs.CloneBodies.{CloneNames, AreCloneNames, AreAssignments, IsCloneBlockFor, IsCloneBody, IsFromBlockFor, IsFromBody}
use Rattle.educe_meaning.specs.CloneLaws.{CloneLaws}
use Rattle.educe_meaning.specs.Cloning.{fields_cloned, clone_from_of}
use Rattle.educe_settings.specs.Copying.{copies_whole}
use Rattle.educe_meaning.specs.Hashing.{valued}
use Rattle.educe_settings.specs.Packed.{AreCopied}
use Rattle.educe_settings.specs.Listed.{listed}
use Rattle.educe_meaning.specs.Making.{HasOneForm, placed_value}
use Rattle.educe_settings.specs.Rows.{field_row}
use Rattle.educe_settings.specs.Settings.{is_kept, kept_fields}
use Rattle.educe_meaning.specs.Steps.{of_base}
use Rattle.educe_meaning.proofs.AllKept.{AreKept}
use Rattle.educe_meaning.proofs.Arms.{is_of}
use Rattle.educe_meaning.proofs.CloneEnums.{AreAllKept, enum_clones}
use Rattle.educe_meaning.proofs.CloneNames.{marker_scope, clone_arm_scope}
use Rattle.educe_meaning.proofs.CloneStructs.{struct_clones, struct_clones_from}
use Rattle.educe_settings.proofs.Elements.{each_joined, each_apart}
use Rattle.educe_meaning.proofs.Fitting.{enum_of, struct_fits, are_fit, function_means, none_evaluate, markers_evaluate}
use Rattle.educe_meaning.proofs.FromEnums.{enum_clones_from}
use Rattle.educe_meaning.proofs.Making.{one_form}
use Rattle.educe_meaning.proofs.Still.{still_clone, still_clones, from_assigns}
use Rattle.educe_meaning.proofs.Structs.{names_for, env_of}
use Rattle.educe_meaning.proofs.Unignored.{all_kept}

-- ---- whether fields are read by copies

-- two tests of one thing have one outcome
same_test : {P : Type 0} (a b : Bool) → IsTrue a ↔ P → IsTrue b ↔ P → a ≡ b
same_test true true first second = refl
same_test true false first second = absurd (false≢true (second.1 (first.0 refl)))
same_test false true first second = absurd (false≢true (first.1 (second.0 refl)))
same_test false false first second = refl

-- the fields of an enum are not read by copies
enum_not_copied : (d : DeriveInput) (copied : Bool) → is_struct d.shape ≡ false → AreCopied d copied → copied ≡ false
enum_not_copied d true other are = absurd (false≢true (sym other ∙ (are.is.0 refl).0))
enum_not_copied d false other are = refl

-- ---- the functions

-- the two functions have two names
names_apart : codes "clone" ≢ codes "clone_from"
names_apart same = false≢true ((bytes_eq-Decides (codes "clone") (codes "clone_from")).1 same)

module _ (d : DeriveInput) (is : IsDefinition d.tokens d) (small : length d.tokens ≤ 2 ^ 64) (uncaused : HaveNoCauses trait.Clone (field_row trait.Clone) (listed d) (all_fields d)) where
  -- each field takes part
  every : AreKept trait.Clone d (all_fields d)
  every = all_kept trait.Clone d refl refl refl (all_fields d) uncaused

  struct_every : (fields : List Field) → all_fields d ≡ fields → AreKept trait.Clone d fields
  struct_every fields same = subst (AreKept trait.Clone d) same every

  enum_every : (variants : List Variant) → d.shape ≡ Enum variants → AreAllKept d variants
  enum_every variants same = each_apart (λ field. is_kept trait.Clone d field ≡ true) fields_in variants (struct_every (flat_map fields_in variants) (ap shape_fields same))

  -- the body of `clone` where the value is copied as a whole
  copying_clones : copies_whole d ≡ true → (body : Body) → HasOneForm (λ x. x ≡ form.WholeCopy) body → Clones d body
  copying_clones copies body k table a other found has means =
      let meant : Some (Made a) ≡ Some found = ap (λ (b : Bool). if b then Some (Made a) else placed_value a.variant (fields_cloned table (valued trait.Clone d a))) (sym copies) ∙ means in
      one_form (scene_with d a other table) body k.form found k.params_are k.block_is (ap assigns k.form_is)
      (ap (λ (x : Form). outcome_of (form_value (scene_with d a other table) (env_of a (first_bindings [])) x)) k.form_is ∙ same_Some (Made a) found meant)

  module _ (names : CloneNames) (are : AreCloneNames d names) where
    -- where it is not
    body_clones : copies_whole d ≡ false → (body : Body) → IsCloneBody d names body → Clones d body
    body_clones copies body k table a other found has means = by_shape d.shape refl k.block_is
      where
        meant : placed_value a.variant (fields_cloned table (valued trait.Clone d a)) ≡ Some found
        meant = ap (λ (b : Bool). if b then Some (Made a) else placed_value a.variant (fields_cloned table (valued trait.Clone d a))) (sym copies) ∙ means

        by_shape : (shape : Shape) → d.shape ≡ shape → IsCloneBlockFor d names shape body.block → value body (scene_with d a other table) ≡ found
        by_shape (Struct shape) same block =
            let fits = struct_fits trait.Clone d is small uncaused shape same in
            one_form (scene_with d a other table) body block.form found k.params_are block.block_is
            (still_clone d (of_base block.copied (codes "self")) None shape block.form block.form_is)
            (struct_clones d shape body.block same fits.differ fits.methods (struct_every shape.fields (ap shape_fields same)) block table a other found has meant)
        by_shape (Enum []) same block = absurd (is_of d [] (enum_of d is small [] same) a has).inside
        by_shape (Enum (v ∷ vs)) same block =
            one_form (scene_with d a other table) body (MatchValue block.value block.arms) found k.params_are block.block_is
            (still_clones d names (v ∷ vs) body.block block)
            (enum_clones d (v ∷ vs) (are_fit trait.Clone d is small uncaused (v ∷ vs) same) (enum_every (v ∷ vs) same) names are table a other has body.block block found meant)

    -- the body of `clone_from`
    body_clones_from : (body : Body) → IsFromBody d names body → ClonesFrom d body
    body_clones_from body k table a b copied found copied_are has_a has_b means =
        (λ i. ended (k.params_are i) body.block (list_value (scene_of d a b table) (start (k.params_are i) (Some a)) Nothing body.block))
        ∙ (λ i. changed_or_given (from_assigns d names d.shape body.block k.block_is i) (list_value (scene_of d a b table) (env_of a (names_for (k.param_is i))) Nothing body.block)) ∙ by_shape d.shape refl k.block_is
      where
        by_shape : (shape : Shape) → d.shape ≡ shape → IsFromBlockFor d names shape body.block
            → own_of (list_value (scene_of d a b table) (env_of a (names_for names.source)) Nothing body.block) ≡ found
        by_shape (Struct shape) same block =
            let fits = struct_fits trait.Clone d is small uncaused shape same in
            let steps = subst (λ (copied : Bool). AreAssignments copied names.source (kept_fields trait.Clone d shape.fields) body.block)
            (same_test block.copied copied block.copied_are.is copied_are.is) block.steps_are in
            struct_clones_from d names are table a b copied shape body.block same fits.differ fits.methods (struct_every shape.fields (ap shape_fields same)) steps found has_a has_b means
        by_shape (Enum []) same block = absurd (is_of d [] (enum_of d is small [] same) a has_a).inside
        by_shape (Enum (v ∷ vs)) same block =
            let plain = enum_not_copied d copied (ap is_struct same) copied_are in
            enum_clones_from d (v ∷ vs) (are_fit trait.Clone d is small uncaused (v ∷ vs) same) (enum_every (v ∷ vs) same) names are table a b has_a has_b body.block block found
            (subst (λ (copied : Bool). clone_from_of table copied d a b ≡ Some found) plain means)

    -- the functions of the impl
    functions_evaluate : (copies : Bool) → copies_whole d ≡ copies → (functions : List Function) → AreCloneFunctions copies d names functions → AllByRecursion (Evaluates trait.Clone d) functions
    functions_evaluate true copies functions k =
        function_means (Evaluates trait.Clone d) (codes "clone") (HasOneForm (λ x. x ≡ form.WholeCopy))
        (λ f named right. ((λ _. copying_clones copies f.body right), (λ other. absurd (names_apart (sym named ∙ other))))) functions k
    functions_evaluate false copies functions k =
        subst (AllByRecursion (Evaluates trait.Clone d)) (sym k.are)
        (each_joined (Evaluates trait.Clone d) k.first k.second
        (function_means (Evaluates trait.Clone d) (codes "clone") (IsCloneBody d names)
        (λ f named right. ((λ _. body_clones copies f.body right), (λ other. absurd (names_apart (sym named ∙ other))))) k.first k.clone_is)
        (function_means (Evaluates trait.Clone d) (codes "clone_from") (IsFromBody d names)
        (λ f named right. ((λ other. absurd (names_apart (sym other ∙ named))), (λ _. body_clones_from f.body right))) k.second k.clone_from_is))

  -- the functions of the block evaluate to what their traits mean
  block_evaluates : (items : List Item) → IsCloneBlock d items → AllByRecursion (EachEvaluates d) items
  block_evaluates items k =
      let EachOf : Trait → Type 0 = λ which. AllByRecursion (Evaluates which d) k.item.functions in
      let own = functions_evaluate k.names k.names_are (copies_whole d) refl k.item.functions k.impl_is.functions_are in
      subst (AllByRecursion (EachEvaluates d)) (sym k.are) (subst EachOf (sym k.impl_is.which_is) own, markers_evaluate d k.markers)

-- the block of `Copy` has none
copy_evaluates : (d : DeriveInput) (items : List Item) → IsCopyBlock d items → AllByRecursion (EachEvaluates d) items
copy_evaluates d items k = subst (AllByRecursion (EachEvaluates d)) (sym k.are) (none_evaluate trait.Copy d k.item k.impl_is, tt)

-- the laws of `Clone` hold
pub lawful_clones : CloneLaws
lawful_clones = record {
  kept = λ d uncaused. all_kept trait.Clone d refl refl refl (all_fields d) uncaused;
  arm_scope = clone_arm_scope;
  marker_scope = marker_scope;
  evaluates = λ d items is small uncaused block. block_evaluates d is small uncaused items block;
  copy_evaluates = copy_evaluates;
}
