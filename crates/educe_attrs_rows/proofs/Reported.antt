-- The errors of attributes have messages, and start at boundaries of tokens; so do the ranks that attributes give.
use Rattle.std.proofs.Common.{◌≡◌, List, [], ◌∷◌, ◌++◌, Option, Some, None, refl, sym, subst, arith, encode_utf8_all}
use Rattle.std.specs.Prelude.{Bool, not, IfSome}
use Rattle.std.proofs.lemmas.Option.{same_Some}
use Rattle.educe_tokens.specs.declared.error.EduceError.{EduceError}
use Rattle.educe_tokens.specs.declared.token.Token.{Token}
use Rattle.educe_tokens.specs.Message.{HasWords}
use Rattle.educe_syntax.specs.Expr.{Expr}
use Rattle.educe_syntax.specs.Laws.{lawful_metas}
use Rattle.educe_syntax.specs.Meta.{Meta}
use Rattle.educe_syntax.specs.Meta.TheVariants as said
use Rattle.educe_syntax.specs.MetaPath.{MetaPath}
use Rattle.educe_syntax.specs.Placed.{IsMetaPlaced, AreMetasPlaced}
use Rattle.educe_attrs_values.specs.declared.choices.IdentOrBool.{IdentOrBool}
use Rattle.educe_attrs_values.specs.declared.choices.IdentOrBool.TheVariants as shown
use Rattle.educe_attrs_values.specs.Kinds.{ValueOf}
use Rattle.educe_attrs_values.specs.Reports.{HasMessage, IsBoundary}
use Rattle.educe_attrs_values.specs.Sources.{inside}
use Rattle.educe_attrs_values.specs.Words.{text_of, path_of}
use Rattle.educe_attrs_values.proofs.Boundaries.{metas_within, pair_placed, path_within, name_boundary, meta_boundary}
use Rattle.educe_attrs_values.proofs.Reported.{value_message, value_placed}
use Rattle.educe_attrs_rows.specs.declared.param.Param.TheVariants.{Rank}
use Rattle.educe_attrs_rows.specs.declared.row.Equals.{Equals}
use Rattle.educe_attrs_rows.specs.declared.row.Equals.TheVariants as equals
use Rattle.educe_attrs_rows.specs.declared.row.Row.{Row}
use Rattle.educe_attrs_rows.specs.declared.values.Rank.{Rank as Ranked}
use Rattle.educe_attrs_rows.specs.declared.values.Values.{Values}
use Rattle.educe_attrs_rows.specs.Among.{IsAmong}
use Rattle.educe_attrs_rows.specs.Causes.{IsGiven, Lists, Says, IsListCause, IsMetaCause, IsOwnCause, IsCause}
use Rattle.educe_attrs_rows.specs.Settings.{values_at, kind_of, Behind, behind, kept, shown_name, with_shown_or_kept, shown_or_kept, default_value}
use Rattle.educe_attrs_rows.proofs.Among.{among_all}
use Rattle.educe_attrs_rows.proofs.Lines.{usage_kept}

-- ---- messages

list_message : (meta : Meta) (e : EduceError) → IsListCause meta e → HasMessage e
list_message (said.Word path) e cause = absurd cause
list_message (said.List path tokens place) e cause = record { kind = cause.1; words = (lawful_metas.reported (inside tokens.tokens) e cause.0).words }
list_message (said.NameValue path value place) e cause = absurd cause
list_message (said.Doc t) e cause = absurd cause
list_message (said.Unread path tokens place) e cause = absurd cause

-- the causes of a meta have messages
meta_message : (row : Row) (name : MetaPath) (meta : Meta) (e : EduceError) → IsMetaCause row name meta e → HasMessage e
meta_message row name meta e (IsMetaCause.place empty) = record { kind = λ same. cc; words = refl }
meta_message row name meta e (IsMetaCause.format some form) =
    record { kind = λ same. cc; words = usage_kept (encode_utf8_all (text_of name)) row (text_of name ∷ []) (omega arith) }
meta_message row name meta e (IsMetaCause.no_value some has is) =
    record { kind = λ same. cc; words = usage_kept (encode_utf8_all (text_of name)) row (text_of name ∷ []) (omega arith) }
meta_message row name meta e (IsMetaCause.reset params later path p some lists reset path_is param_is) = record { kind = λ same. cc; words = refl }
meta_message row name meta e (IsMetaCause.param params m path p some lists a path_is param_is cause) = value_message (kind_of row p) path m e cause
meta_message row name meta e (IsMetaCause.equals b some has is cause) = value_message b.kind name meta e cause
meta_message row name meta e (IsMetaCause.list some cause) = list_message meta e cause

pub own_message : (row : Row) (meta : Meta) (e : EduceError) → IsOwnCause row meta e → HasMessage e
own_message row meta e cause = meta_message row cause.0 meta e cause.2

pub cause_words : (row : Row) (meta : Meta) (e : EduceError) → IsCause row meta e → HasWords e.kind e.words
cause_words row meta e (IsCause.own cause) = (own_message row meta e cause).words
cause_words row meta e IsCause.memory = refl

-- ---- values behind `=`

-- A value behind `=` may set the name, the expression and whether the field is ignored: this part of the values is none of these.
pub record IsOther {X : Type 0} (part : Values → X) : Type 0 where
  pub name : (values : Values) (x : Option IdentOrBool) → part (record values { name = x }) ≡ part values
  pub ignore : (values : Values) (b : Option Bool) → part (record values { ignore = b }) ≡ part values
  pub expression : (values : Values) (x : Option Expr) → part (record values { expression = x }) ≡ part values

module _ {X : Type 0} (part : Values → X) (other : IsOther part) where
  abbrev Leaves : Behind → Type 0
  Leaves b = (v : ValueOf b.kind) (values : Values) → part (b.says v values) ≡ part values

  shown_leaves : (v : IdentOrBool) (values : Values) → part (with_shown_or_kept v values) ≡ part values
  shown_leaves (shown.Ident ident) values = other.name values (Some (shown.Ident ident))
  shown_leaves (shown.Bool b) values = other.ignore values (Some (not b))

  -- a value behind `=` leaves this part of the values
  pub behind_leaves : (q : Equals) (b : Behind) → behind q ≡ Some b → Leaves b
  behind_leaves equals.Nothing b is = absurd (cc)
  behind_leaves equals.Truth b is = subst Leaves (same_Some kept b is) (λ v values. other.ignore values (Some (not v)))
  behind_leaves equals.Ident b is = subst Leaves (same_Some shown_name b is) (λ v values. other.name values (Some (shown.Ident v)))
  behind_leaves equals.Name b is = subst Leaves (same_Some shown_or_kept b is) shown_leaves
  behind_leaves equals.Expr b is = subst Leaves (same_Some default_value b is) (λ v values. other.expression values (Some v))

-- the rank is such a part
rank_other : IsOther (λ (values : Values). values.rank)
rank_other = record { name = λ values x. refl; ignore = λ values b. refl; expression = λ values x. refl }

-- ---- places

module _ (tokens : List Token) where
  -- the metas in the bracket pair of a meta stand where it does
  params_placed : (meta : Meta) → IsMetaPlaced tokens meta → (params : List Meta) → Lists meta params → AreMetasPlaced tokens params
  params_placed (said.Word path) placed params lists = absurd lists
  params_placed (said.List path group place) placed params lists = metas_within tokens group.tokens placed.1 params lists
  params_placed (said.NameValue path value place) placed params lists = absurd lists
  params_placed (said.Doc t) placed params lists = absurd lists
  params_placed (said.Unread path group place) placed params lists = absurd lists

  list_placed : (meta : Meta) → IsMetaPlaced tokens meta → (e : EduceError) → IsListCause meta e → IsBoundary tokens e.span.start
  list_placed (said.Word path) placed e cause = absurd cause
  list_placed (said.List path group place) placed e cause = pair_placed tokens group.tokens placed.1 e cause.0
  list_placed (said.NameValue path value place) placed e cause = absurd cause
  list_placed (said.Doc t) placed e cause = absurd cause
  list_placed (said.Unread path group place) placed e cause = absurd cause

  module _ (row : Row) (meta : Meta) (placed : IsMetaPlaced tokens meta) where
    cause_placed : (name : MetaPath) → path_of meta ≡ Some name → (e : EduceError) → IsMetaCause row name meta e → IsBoundary tokens e.span.start
    cause_placed name is e (IsMetaCause.place empty) = name_boundary tokens meta placed name is
    cause_placed name is e (IsMetaCause.format some form) = name_boundary tokens meta placed name is
    cause_placed name is e (IsMetaCause.no_value some has none) = name_boundary tokens meta placed name is
    cause_placed name is e (IsMetaCause.reset params later path p some lists reset path_is param_is) =
        let among : IsAmong later params = record { front = reset.front ++ reset.earlier ∷ reset.between; back = reset.rest; is = reset.is } in
        name_boundary tokens later (among_all (IsMetaPlaced tokens) later params (params_placed meta placed params lists) among) path path_is
    cause_placed name is e (IsMetaCause.param params m path p some lists among path_is param_is cause) =
        let m_placed = among_all (IsMetaPlaced tokens) m params (params_placed meta placed params lists) among in
        value_placed tokens (kind_of row p) path m (path_within tokens m m_placed path path_is) m_placed e cause
    cause_placed name is e (IsMetaCause.equals b some has behind_is cause) = value_placed tokens b.kind name meta (path_within tokens meta placed name is) placed e cause
    cause_placed name is e (IsMetaCause.list some cause) = list_placed meta placed e cause

    -- where a meta stands among tokens, its error starts at a boundary of them
    pub own_placed : (e : EduceError) → IsOwnCause row meta e → IsBoundary tokens e.span.start
    own_placed e cause = cause_placed cause.0 cause.1 e cause.2

  -- a rank, if there is one, starts at a boundary
  abbrev RankPlaced : Option Ranked → Type 0
  RankPlaced o = IfSome o (λ (r : Ranked). IsBoundary tokens r.span.start)

  given_placed : (row : Row) (params : List Meta) → AreMetasPlaced tokens params → (o : Option Ranked) → IsGiven row Rank params o → RankPlaced o
  given_placed row params placed None gives = tt
  given_placed row params placed (Some r) gives =
      subst (λ (r : Ranked). IsBoundary tokens r.span.start) (sym gives.3.is) (meta_boundary tokens gives.0 (among_all (IsMetaPlaced tokens) gives.0 params placed gives.1))

  -- the rank that a meta gives, if there is one, starts at a boundary
  pub rank_placed : (row : Row) (meta : Meta) → IsMetaPlaced tokens meta → (values : Values) → Says row meta values → RankPlaced values.rank
  rank_placed row _ placed _ (Says.bare path flag) = tt
  rank_placed row _ placed _ (Says.equals path x place b v is holds) = subst RankPlaced (sym (behind_leaves (λ (values : Values). values.rank) rank_other row.equals b is v (values_at place))) tt
  rank_placed row _ placed _ (Says.params path group place found values whole given span_is) =
      given_placed row found (metas_within tokens group.tokens placed.1 found whole) values.rank (given.gives Rank)
