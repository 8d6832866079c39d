-- A place in a part is a place in the input.
use Rattle.std.proofs.Common.{◌≡◌, ℕ, ◌+◌, ◌<◌, List, [], ◌∷◌, ◌++◌, length, get_or, inl, inr, refl, sym, ap, subst, ◌∙◌, arith, length-append, append-nil, append_assoc}
use Rattle.std.proofs.lemmas.Bool.{cases_lt}
use Rattle.std.proofs.lemmas.List.{get_or_append_left, get_or-append-add}
use Rattle.std.specs.Prelude.{IsCharBoundary}
use Rattle.std.specs.List.{AllByRecursion}
use Rattle.educe_core_commands.specs.Parts.{Part, HasPart, AreParts, IsInParts, mark}
use Rattle.educe_core_commands.specs.PartLaws.{IsPlacedIn}

-- a boundary of a text that an ASCII character or nothing follows is one of the whole
boundary_within : (front text back : List ℕ) (place : ℕ) → get_or back 0 0 < 128 → IsCharBoundary text place → IsCharBoundary (front ++ (text ++ back)) (length front + place)
boundary_within front text back place ascii is =
    let sizes : length (front ++ (text ++ back)) ≡ length front + (length text + length back) = length-append front (text ++ back) ∙ ap (λ n. length front + n) (length-append text back) in (
      omega (arith, sizes, is.0),
      λ within high. elim (cases_lt place (length text)) [
        | inl inner ↦
            let same : get_or (front ++ (text ++ back)) (length front + place) 0 ≡ get_or text place 0 = get_or-append-add front (text ++ back) place 0 ∙ get_or_append_left text back 0 place inner in
            omega (arith, same, is.1 inner (omega (arith, same, high)))
        | inr outer ↦
            let at : place ≡ length text + 0 = omega (arith, is.0) in
            let same : get_or (front ++ (text ++ back)) (length front + place) 0 ≡ get_or back 0 0 =
            get_or-append-add front (text ++ back) place 0 ∙ ap (λ n. get_or (text ++ back) n 0) at ∙ get_or-append-add text back 0 0 in
            absurd (omega (arith, same, high, ascii))
      ],
    )

-- what begins with the parts begins with a mark, or is empty
begins_ascii : (all names : List (List ℕ)) (start : ℕ) (bytes : List ℕ) (parts : List Part) → AreParts all names start bytes parts → get_or bytes 0 0 < 128
begins_ascii all [] start bytes [] none = subst (λ l. get_or l 0 0 < 128) (sym none) (omega arith)
begins_ascii all [] start bytes (part ∷ parts) are = absurd are
begins_ascii all (name ∷ names) start bytes [] are = absurd are
begins_ascii all (name ∷ names) start bytes (part ∷ parts) (behind, is, later) = elim is.has [
  | inl own ↦ subst (λ l. get_or l 0 0 < 128) (sym own.0) (omega arith)
  | inr alone ↦ subst (λ l. get_or l 0 0 < 128) (sym alone.0) (omega arith)
]

-- the input is what is in front of the part, the part, and what is behind it
split_at : (name : List ℕ) (start : ℕ) (front bytes : List ℕ) (part : Part) (behind : List ℕ) → length front ≡ start → HasPart name start bytes part behind
    → (before : List ℕ) × (front ++ bytes ≡ before ++ (part.text ++ behind)) × (length before ≡ part.start)
split_at name start front bytes part behind size (inl own) =
    let lead : List ℕ = front ++ (mark name ++ (10 ∷ [])) in
    let sizes : length lead ≡ length front + (length (mark name) + 1) = length-append front (mark name ++ (10 ∷ [])) ∙ ap (λ n. length front + n) (length-append (mark name) (10 ∷ [])) in (
      lead,
      ap (λ l. front ++ l) (own.0 ∙ sym (append_assoc (mark name) (10 ∷ []) (part.text ++ behind))) ∙ sym (append_assoc front (mark name ++ (10 ∷ [])) (part.text ++ behind)),
      omega (arith, sizes, size, own.1),
    )
split_at name start front bytes part behind size (inr alone) =
    let lead : List ℕ = front ++ mark name in
    let text : part.text ≡ [] = ap (λ (p : Part). p.text) alone.1 in
    let at : part.start ≡ start + length (mark name) = ap (λ (p : Part). p.start) alone.1 in (
      lead,
      ap (λ l. front ++ l) alone.0 ∙ sym (append-nil lead) ∙ ap (λ l. lead ++ l) (sym (ap (λ l. l ++ behind) text ∙ alone.2)),
      omega (arith, length-append front (mark name), size, at),
    )

-- each part that is behind the front is in the input
each_placed : (all names : List (List ℕ)) (start : ℕ) (front bytes input : List ℕ) (parts : List Part) → length front ≡ start → input ≡ front ++ bytes → AreParts all names start bytes parts
    → AllByRecursion (IsPlacedIn input) parts
each_placed all [] start front bytes input [] size is are = tt
each_placed all [] start front bytes input (part ∷ parts) size is are = absurd are
each_placed all (name ∷ names) start front bytes input [] size is are = absurd are
each_placed all (name ∷ names) start front bytes input (part ∷ parts) size is (behind, own, later) =
    let found : (before : List ℕ) × (front ++ bytes ≡ before ++ (part.text ++ behind)) × (length before ≡ part.start) = split_at name start front bytes part behind size own.has in
    let whole : input ≡ found.0 ++ (part.text ++ behind) = is ∙ found.1 in
    let next : List ℕ = found.0 ++ part.text in (
      λ place boundary. subst (λ l. IsCharBoundary l (part.start + place)) (sym whole)
          (subst (λ n. IsCharBoundary (found.0 ++ (part.text ++ behind)) (n + place)) found.2 (boundary_within found.0 part.text behind place (begins_ascii all names _ behind parts later) boundary)),
      each_placed all names (part.start + length part.text) next behind input parts (omega (arith, length-append found.0 part.text, found.2)) (whole ∙ sym (append_assoc found.0 part.text behind)) later,
    )

pub placed : (names : List (List ℕ)) (input : List ℕ) (parts : List Part) → IsInParts names input parts → AllByRecursion (IsPlacedIn input) parts
placed names input parts are = each_placed names names 0 [] input input parts refl refl are
