-- An input has at most one division into parts.
use Rattle.std.proofs.Common.{◌≡◌, ◌≢◌, ◌⊎◌, ℕ, ◌+◌, ◌-◌, ◌<◌, ◌≤◌, List, [], ◌∷◌, ◌++◌, length, get_or, inl, inr, refl, sym, ap, subst, ◌∙◌, arith, length-append, append-nil}
use Rattle.std.proofs.lemmas.Bool.{cases_lt}
use Rattle.std.proofs.lemmas.List.{append_cancel_left, get_or_append_left}
use Rattle.std.specs.List.{AllByRecursion}
use Rattle.educe_core_commands.specs.Parts.{Part, HasPart, IsPart, AreParts, IsInParts, IsUnmarked, HasLine, BeginsLine, EndsLine, AreOnOneLine, mark}
use Rattle.educe_core_commands.proofs.Cut.{cut, empty_is, last_is, each_at}

-- what holds of each name of a command holds of these
abbrev IsTail : List (List ℕ) → List (List ℕ) → Type 1
IsTail all names = (P : List ℕ → Type 0) → AllByRecursion P all → AllByRecursion P names

-- the mark of a name without a line feed has none
mark_on_one_line : (name : List ℕ) → AllByRecursion (λ c. c ≢ 10) name → AllByRecursion (λ c. c ≢ 10) (mark name)
mark_on_one_line name all = (λ is. cc, (λ is. cc, (λ is. cc, (λ is. cc, all))))

-- a line that begins with the front of another line
ends_with : (d e tail c : List ℕ) → tail ≡ e ++ c → EndsLine tail → EndsLine e
ends_with d [] tail c is ends = inl refl
ends_with d (x ∷ e) tail c is (inl none) = absurd (let h : [] ≡ x ∷ (e ++ c) = sym none ∙ is in cc)
ends_with d (x ∷ e) tail c is (inr (behind, more)) =
    let h : 10 ∷ behind ≡ x ∷ (e ++ c) = sym more ∙ is in
    let same : x ≡ 10 = cc in
    inr (e, ap (λ y. y ∷ e) same)

-- a text that reaches beyond the next mark has that mark as a line
beyond : (s t d b c name tail : List ℕ) → t ≡ s ++ d → 0 < length d → d ++ c ≡ mark name ++ tail → BeginsLine s → BeginsLine t ⊎ (c ≡ [])
    → EndsLine tail → AllByRecursion (λ x. x ≢ 10) name → HasLine t (mark name)
beyond s t d b c name tail is some rest begins (inr none) ends single =
    record { front = s; back = tail; is = is ∙ ap (λ r. s ++ r) (sym (append-nil d) ∙ ap (λ r. d ++ r) (sym none) ∙ rest); begins = begins; ends = ends }
beyond s t d b c name tail is some rest begins (inl (inl none)) ends single = absurd (omega (arith, sym (ap length is) ∙ ap length none, length-append s d))
beyond s t d b c name tail is some rest begins (inl (inr (before, last))) ends single =
    elim (cases_lt (length d) (length (mark name))) [
      | inl short ↦
          let found : (f : List ℕ) × (mark name ≡ d ++ f) × (c ≡ f ++ tail) = cut d (mark name) c tail rest (omega arith) in
          let at : length d - 1 < length d = omega arith in
          let feed : get_or d (length d - 1) 0 ≡ 10 = last_is s d before 10 some (sym is ∙ last) in
          let here : get_or (mark name) (length d - 1) 0 ≡ 10 = ap (λ l. get_or l (length d - 1) 0) found.1 ∙ get_or_append_left d found.0 0 (length d - 1) at ∙ feed in
          absurd (each_at (λ x. x ≢ 10) (mark name) (length d - 1) (mark_on_one_line name single) (omega arith) here)
      | inr long ↦
          let found : (e : List ℕ) × (d ≡ mark name ++ e) × (tail ≡ e ++ c) = cut (mark name) d tail c (sym rest) long in
          record { front = s; back = found.0; is = is ∙ ap (λ r. s ++ r) found.1; begins = begins; ends = ends_with d found.0 tail c found.2 ends }
    ]

-- what is behind the mark of a part ends that line
mark_ends : (all : List (List ℕ)) (name : List ℕ) (start : ℕ) (bytes : List ℕ) (part : Part) (behind : List ℕ) → IsPart all name start bytes part behind
    → (tail : List ℕ) × (bytes ≡ mark name ++ tail) × EndsLine tail
mark_ends all name start bytes part behind is = elim is.has [
  | inl own ↦ (10 ∷ (part.text ++ behind), own.0, inr (part.text ++ behind, refl))
  | inr alone ↦ ([], alone.0 ∙ sym (append-nil (mark name)), inl refl)
]

-- of two texts in front of one rest of parts the longer one is the shorter one
not_longer : (all names : List (List ℕ)) (start : ℕ) (s t b c : List ℕ) (parts : List Part) → AreOnOneLine names → IsTail all names
    → AreParts all names start b parts → s ++ b ≡ t ++ c → length s ≤ length t → BeginsLine s ⊎ (b ≡ []) → BeginsLine t ⊎ (c ≡ []) → IsUnmarked all t → s ≡ t
not_longer all [] start s t b c [] single within none same le begins begins_too unmarked =
    let found : (d : List ℕ) × (t ≡ s ++ d) × (b ≡ d ++ c) = cut s t b c same le in
    let empty : found.0 ≡ [] = empty_is found.0 (omega (arith, sym (ap length found.2) ∙ ap length none, length-append found.0 c)) in
    sym (found.1 ∙ ap (λ d. s ++ d) empty ∙ append-nil s)
not_longer all [] start s t b c (part ∷ parts) single within are same le begins begins_too unmarked = absurd are
not_longer all (name ∷ names) start s t b c [] single within are same le begins begins_too unmarked = absurd are
not_longer all (name ∷ names) start s t b c (part ∷ parts) single within (behind, is, later) same le begins begins_too unmarked =
    let found : (d : List ℕ) × (t ≡ s ++ d) × (b ≡ d ++ c) = cut s t b c same le in
    let marked : (tail : List ℕ) × (b ≡ mark name ++ tail) × EndsLine tail = mark_ends all name start b part behind is in
    elim (cases_lt 0 (length found.0)) [
      | inl some ↦
          let front : BeginsLine s = elim begins [ inl line ↦ line | inr none ↦ absurd (omega (arith, sym (ap length found.2) ∙ ap length none, length-append found.0 c)) ] in
          absurd ((within _ unmarked).0 (beyond s t found.0 b c name marked.0 found.1 some (sym found.2 ∙ marked.1) front begins_too marked.2 single.0))
      | inr none ↦ sym (found.1 ∙ ap (λ d. s ++ d) (empty_is found.0 (omega arith)) ∙ append-nil s)
    ]

-- two texts in front of rests of parts are one
text_once : (all names : List (List ℕ)) (start also : ℕ) (s t b c : List ℕ) (parts others : List Part) → AreOnOneLine names → IsTail all names → AreParts all names start b parts
    → AreParts all names also c others → s ++ b ≡ t ++ c → BeginsLine s ⊎ (b ≡ []) → BeginsLine t ⊎ (c ≡ []) → IsUnmarked all s → IsUnmarked all t → s ≡ t
text_once all names start also s t b c parts others single within are are_too same begins begins_too unmarked unmarked_too =
    elim (cases_lt (length t) (length s)) [
      | inl more ↦ sym (not_longer all names also t s c b others single within are_too (sym same) (omega arith) begins_too begins unmarked)
      | inr less ↦ not_longer all names start s t b c parts single within are same less begins begins_too unmarked_too
    ]

-- a mark alone is no mark above a text
not_alone : {X : Type 0} (name bytes text behind : List ℕ) → bytes ≡ mark name ++ (10 ∷ (text ++ behind)) → bytes ≡ mark name → X
not_alone name bytes text behind above alone =
    absurd (omega (arith, sym (ap length above) ∙ ap length alone, length-append (mark name) (10 ∷ (text ++ behind))))

-- parts with one start and one text are one
same_part : (p q : Part) → p.start ≡ q.start → p.text ≡ q.text → p ≡ q
same_part p q start text =
    let first : p ≡ record { start = q.start; text = p.text } = ap (λ n. record { start = n; text = p.text }) start in
    first ∙ ap (λ t. record { start = q.start; text = t }) text

-- the first parts of two divisions are one, and so is what is behind them
part_once : (all : List (List ℕ)) (name : List ℕ) (names : List (List ℕ)) (start : ℕ) (bytes : List ℕ) (p q : Part) (b c : List ℕ) (parts others : List Part) → AreOnOneLine names
    → IsTail all names → IsPart all name start bytes p b → IsPart all name start bytes q c → AreParts all names (p.start + length p.text) b parts → AreParts all names (q.start + length q.text) c others
    → (p ≡ q) × (b ≡ c)
part_once all name names start bytes p q b c parts others single within is also are are_too = both is.has also.has
  where
    both : HasPart name start bytes p b → HasPart name start bytes q c → (p ≡ q) × (b ≡ c)
    both (inl own) (inl own_too) =
        let rests : 10 ∷ (p.text ++ b) ≡ 10 ∷ (q.text ++ c) = append_cancel_left (mark name) _ _ (sym own.0 ∙ own_too.0) in
        let rest : p.text ++ b ≡ q.text ++ c = cc in
        let text : p.text ≡ q.text = text_once all names _ _ p.text q.text b c parts others single within are are_too rest is.ends also.ends is.unmarked also.unmarked in
        (same_part p q (omega (arith, own.1, own_too.1)) text, append_cancel_left p.text b c (rest ∙ ap (λ t. t ++ c) (sym text)))
    both (inl own) (inr alone) = not_alone name bytes p.text b own.0 alone.0
    both (inr alone) (inl own) = not_alone name bytes q.text c own.0 alone.0
    both (inr alone) (inr alone_too) = (alone.1 ∙ sym alone_too.1, alone.2 ∙ sym alone_too.2)

-- two divisions are one
parts_once : (all names : List (List ℕ)) (start also : ℕ) (bytes : List ℕ) (parts others : List Part) → AreOnOneLine names → IsTail all names → start ≡ also → AreParts all names start bytes parts
    → AreParts all names also bytes others → parts ≡ others
parts_once all [] start also bytes [] [] single within same are are_too = refl
parts_once all [] start also bytes [] (q ∷ others) single within same are are_too = absurd are_too
parts_once all [] start also bytes (p ∷ parts) others single within same are are_too = absurd are
parts_once all (name ∷ names) start also bytes [] others single within same are are_too = absurd are
parts_once all (name ∷ names) start also bytes (p ∷ parts) [] single within same are are_too = absurd are_too
parts_once all (name ∷ names) start also bytes (p ∷ parts) (q ∷ others) single within same (b, is, later) (c, is_too, later_too) =
    let tail : IsTail all names = λ P each. (within P each).1 in
    let once : (p ≡ q) × (b ≡ c) = part_once all name names start bytes p q b c parts others single.1 tail is (subst (λ n. IsPart all name n bytes q c) (sym same) is_too) later later_too in
    let rest : parts ≡ others = parts_once all names (p.start + length p.text) (q.start + length q.text) b parts others single.1 tail (ap (λ (x : Part). x.start + length x.text) once.0) later
    (subst (λ l. AreParts all names (q.start + length q.text) l others) (sym once.1) later_too) in
    cc

pub one_division : (names : List (List ℕ)) (input : List ℕ) (parts others : List Part) → AreOnOneLine names → IsInParts names input parts → IsInParts names input others → parts ≡ others
one_division names input parts others single are are_too = parts_once names names 0 0 input parts others single (λ P each. each) refl are are_too
