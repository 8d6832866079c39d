use Rattle.std.proofs.Common.{ap, subst, ◌∙◌, [], ◌∷◌, List, map}
use Rattle.std.specs.Prelude.{IfOk}
use Rattle.educe_tree.specs.declared.derive.Shape.TheVariants.{Struct, Enum}
use Rattle.educe_grammar.specs.Naming.{Named, field_names, variant_names, IsEarliest}
use Rattle.educe_syntax.proofs.Seen.{scopes_same}
use Rattle.educe_syntax.proofs.duplicate_names.first_duplicate.Goals as goal

pub returns-in_ok-names-in-Struct : goal.returns-in_ok-names-in-Struct
returns-in_ok-names-in-Struct c =
    let lifetimes = c.in_ok-names.names.items in
    let types = c.in_ok-names-2.names.items in
    let first = c.in_ok-found.ensures [] tt in
    let second = c.in_ok-found-2.ensures (lifetimes ∷ []) first in
    let all = c.earliest-in-Struct.ensures (lifetimes ∷ types ∷ []) second in
    let fields = c.in_ok-names-in-Struct.ensures ∙ ap field_names c.as_slice.ensures in
    let same = ap (λ (names : List Named). lifetimes ∷ types ∷ names ∷ []) fields
    ∙ scopes_same c.args.ast.now (Struct c.in-Struct.shape) c.as_slice-params.result.now lifetimes types c.as_slice-params.ensures
    c.in_ok-names.ensures c.in_ok-names-2.ensures c.in-Struct.is in
    subst (λ (lists : List (List Named)). IfOk c.earliest-in-Struct.result (λ found. IsEarliest found lists)) same all

pub returns-in_ok-found-in-Enum : goal.returns-in_ok-found-in-Enum
returns-in_ok-found-in-Enum c =
    let lifetimes = c.in_ok-names.names.items in
    let types = c.in_ok-names-2.names.items in
    let names = c.in_ok-names-in-Enum.names.items in
    let first = c.in_ok-found.ensures [] tt in
    let second = c.in_ok-found-2.ensures (lifetimes ∷ []) first in
    let third = c.in_ok-found-in-Enum.ensures (lifetimes ∷ types ∷ []) second in
    let all = c.earliest_of_fields.ensures (lifetimes ∷ types ∷ names ∷ []) third in
    let variants = c.in_ok-names-in-Enum.ensures ∙ ap variant_names c.as_slice-in-Enum.ensures in
    let fields = ap (map (λ v. field_names v.fields.fields)) c.as_slice-in-Enum-2.ensures in
    let same = (λ i. lifetimes ∷ types ∷ variants i ∷ fields i)
    ∙ scopes_same c.args.ast.now (Enum c.in-Enum.variants) c.as_slice-params.result.now lifetimes types c.as_slice-params.ensures
    c.in_ok-names.ensures c.in_ok-names-2.ensures c.in-Enum.is in
    subst (λ (lists : List (List Named)). IfOk c.earliest_of_fields.result (λ found. IsEarliest found lists)) same all
