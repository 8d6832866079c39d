-- The fields of patterns, as a loop over the fields and their settings makes them.
use Rattle.std.proofs.Common.{◌≡◌, ℕ, ◌+◌, ◌<◌, List, [], ◌∷◌, ◌++◌, take, length, get_or, subst, arith}
use Rattle.std.proofs.lemmas.List.{take_more, length-take-le}
use Rattle.educe_syntax.specs.Field.{Field}
use Rattle.educe_attrs.specs.FieldSettings.{FieldSettings}
use Rattle.educe_body_forms.specs.declared.pattern.PatternField.{PatternField}
use Rattle.educe_meaning.specs.Arms.{ArePatternFields, IsPatternField}

-- one more field on all three sides
fields_push : (prefix : List ℕ) (place : ℕ) (fs : List Field) (all : List FieldSettings) (xs : List PatternField) (f : Field) (s : FieldSettings) (x : PatternField)
    → ArePatternFields prefix place fs all xs → length all ≡ length fs → IsPatternField prefix (place + length fs) f s x → ArePatternFields prefix place (fs ++ f ∷ []) (all ++ s ∷ []) (xs ++ x ∷ [])
fields_push prefix place [] [] [] f s x are same one = (subst (λ at. IsPatternField prefix at f s x) (omega arith) one, tt)
fields_push prefix place [] (b ∷ all) xs f s x are same one = absurd (omega (arith, same))
fields_push prefix place [] [] (y ∷ xs) f s x are same one = absurd are
fields_push prefix place (a ∷ fs) [] xs f s x are same one = absurd are
fields_push prefix place (a ∷ fs) (b ∷ all) [] f s x are same one = absurd are
fields_push prefix place (a ∷ fs) (b ∷ all) (y ∷ xs) f s x are same one =
    (are.0, fields_push prefix (place + 1) fs all xs f s x are.1 (omega (arith, same)) (subst (λ at. IsPatternField prefix at f s x) (omega arith) one))

-- a loop over the fields and their settings that pushes the fields of the pattern
pub fields_more : (prefix : List ℕ) (fields : List Field) (settings : List FieldSettings) (i : ℕ) (d f : Field) (e s : FieldSettings) (old new : List PatternField) (x : PatternField)
    → i < length fields → i < length settings → f ≡ get_or fields i d → s ≡ get_or settings i e → ArePatternFields prefix 0 (take i fields) (take i settings) old
    → new ≡ old ++ x ∷ [] → IsPatternField prefix i f s x → ArePatternFields prefix 0 (take (i + 1) fields) (take (i + 1) settings) new
fields_more prefix fields settings i d f e s old new x less within item setting are pushed one =
    let passed : length (take i fields) ≡ i = length-take-le i fields (omega (arith, less)) in
    let beside : length (take i settings) ≡ i = length-take-le i settings (omega (arith, within)) in
    rw (take_more fields i d less, take_more settings i e within, pushed, ← item, ← setting)
    (fields_push prefix 0 (take i fields) (take i settings) old f s x are (omega (arith, passed, beside)) (subst (λ at. IsPatternField prefix at f s x) (omega (arith, passed)) one))
