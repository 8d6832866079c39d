-- What the `repr` lists hold is one list of metas.
use Rattle.std.proofs.Common.{◌≡◌, Bool, true, false, List, [], ◌∷◌, ◌++◌, codes, refl, sym, ap, subst, ◌∙◌, append_assoc, append-nil, inl, inr}
use Rattle.educe_tokens.specs.declared.token.Token.{Token}
use Rattle.educe_syntax.specs.Attribute.{Attribute}
use Rattle.educe_syntax.specs.Laws.{lawful_metas}
use Rattle.educe_syntax.specs.Meta.{Meta}
use Rattle.educe_syntax.specs.Meta.TheVariants as said
use Rattle.educe_attrs_values.specs.Sources.{inside}
use Rattle.educe_bound_traits.specs.OneWord.{is_one_word}
use Rattle.educe_attrs_generated.specs.Represented.{HoldsMetas, HoldsIf, Represents, AreHeld}

-- a bracket pair holds one list
one_inside : (tokens : List Token) (a b : List Meta) → HoldsMetas tokens a → HoldsMetas tokens b → a ≡ b
one_inside tokens a b (inl first) (inl second) = lawful_metas.one_reading (inside tokens) a b first second
one_inside tokens a b (inl first) (inr second) = absurd (second.0 a first)
one_inside tokens a b (inr first) (inl second) = absurd (first.0 b second)
one_inside tokens a b (inr first) (inr second) = first.1 ∙ sym second.1

-- a list with a test of its path holds one list of metas
one_if : (test : Bool) (tokens : List Token) (a b : List Meta) → HoldsIf test tokens a → HoldsIf test tokens b → a ≡ b
one_if true tokens a b first second = one_inside tokens a b first second
one_if false tokens a b first second = first ∙ sym second

-- an attribute holds one list of metas
one_represented : (meta : Meta) (a b : List Meta) → Represents meta a → Represents meta b → a ≡ b
one_represented (said.Word path) a b first second = first ∙ sym second
one_represented (said.List path tokens place) a b first second = one_if (is_one_word (codes "repr") path.written.tokens) tokens.tokens a b first second
one_represented (said.NameValue path value place) a b first second = first ∙ sym second
one_represented (said.Doc t) a b first second = first ∙ sym second
one_represented (said.Unread path tokens place) a b first second = first ∙ sym second

-- attributes hold one list
pub one_held : (attributes : List Attribute) (a b : List Meta) → AreHeld attributes a → AreHeld attributes b → a ≡ b
one_held _ _ _ AreHeld.none_left AreHeld.none_left = refl
one_held _ _ _ (AreHeld.one_more x more own rest is held) (AreHeld.one_more _ _ others behind are after) =
    ap (λ front. front ++ rest) (one_represented x.meta own others is are) ∙ ap (λ back. others ++ back) (one_held more rest behind held after)

-- one attribute more holds its own metas behind the others
pub AreHeld-append : (attributes : List Attribute) (a : Attribute) (held own : List Meta) → AreHeld attributes held → Represents a.meta own → AreHeld (attributes ++ a ∷ []) (held ++ own)
AreHeld-append _ a _ own AreHeld.none_left is = subst (AreHeld (a ∷ [])) (append-nil own) (AreHeld.one_more a [] own [] is AreHeld.none_left)
AreHeld-append _ a _ own (AreHeld.one_more x more front held first rest) is =
    subst (AreHeld (x ∷ (more ++ a ∷ []))) (sym (append_assoc front held own)) (AreHeld.one_more x (more ++ a ∷ []) front (held ++ own) first (AreHeld-append more a held own rest is))
