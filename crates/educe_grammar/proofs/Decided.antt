-- A list of tokens has a reading by a rule, or there is a cause why it is rejected.
use Rattle.std.proofs.Common.{◌≡◌, ◌≢◌, ◌⊎◌, inl, inr, ℕ, ◌-◌, List, [], ◌∷◌, ◌++◌, length, true, refl, sym, ap, ◌∙◌, subst, Some, Ok, Err, codes, arith, append-nil, length-append, slice_get}
use Rattle.std.specs.Str.{bytes_eq}
use Rattle.std.proofs.lemmas.Bool.{cases_Bool}
use Rattle.std.proofs.lemmas.Bool.Decides.{not_from_Decides}
use Rattle.std.proofs.lemmas.Slice.Eq.{bytes_eq-Decides}
use Rattle.educe_tokens.specs.TokenKind.{TokenKind}
use Rattle.educe_tokens.specs.TokenKind.TheVariants as kind
use Rattle.educe_tokens.specs.Causes.{HasCause}
use Rattle.educe_tokens.specs.Refusals.{too_deep_at}
use Rattle.educe_tokens.specs.declared.error.Kind.TheVariants.{Alloc}
use Rattle.educe_tokens.specs.declared.token.Token.{Token}
use Rattle.educe_tokens.proofs.Lists.{cons_parts, nil_not_cons}
use Rattle.educe_tree.specs.declared.attr.Attribute.{Attribute}
use Rattle.educe_tree.specs.declared.derive.DeriveInput.{DeriveInput}
use Rattle.educe_grammar.specs.declared.parse_error.ParseError.{ParseError}
use Rattle.educe_grammar.specs.declared.parse_error.ParseError.TheVariants.{Memory, Syntax, TooDeep}
use Rattle.educe_grammar.specs.Causes.{IsDecidedWithin}
use Rattle.educe_grammar.specs.Definitions.{definition}
use Rattle.educe_grammar.specs.Naming.{duplicate_of}
use Rattle.educe_grammar.specs.Parsed.{depth_limit, IsWhole, HasNoReading, IsCauseWithin, place_at, stop_of, refusal_of}
use Rattle.educe_grammar.specs.Reads.{Reads, read}
use Rattle.educe_grammar.specs.Refusal.{IsDefinition, IsUnion, IsUnionWord, IsRefusalOf, union_of}
use Rattle.educe_grammar.specs.Rules.{Rule}
use Rattle.educe_grammar.specs.Steps.{Tokens, Outcome}
use Rattle.educe_grammar.proofs.Deep.{read_place}
use Rattle.educe_grammar.proofs.Failing.{ok_fails}
use Rattle.educe_grammar.proofs.NeedsNone.{read_needs_none}
use Rattle.educe_grammar.proofs.Opening.{is_ready}
use Rattle.educe_grammar.proofs.ReadsAgain.{ReadsAgain, definition_again}
use Rattle.educe_grammar.proofs.Ready.{definition_ready}
use Rattle.educe_grammar.proofs.Repeats.{names_decided}
use Rattle.educe_grammar.proofs.Sound.{reads_sound}
use Rattle.educe_grammar.proofs.Steps.{ok_pair}
use Rattle.educe_grammar.proofs.Unions.{head, union_read, union_found}

-- ---- where a program stops

-- where a program stops since it nests too deep, it fails so
pub deep_stop : {A : Type 0} (outcome : Outcome A) (left : ℕ) → stop_of outcome ≡ Some (TooDeep left) → outcome ≡ Err (TooDeep left)
deep_stop (Ok (x, [])) left stop = absurd (cc)
deep_stop (Ok (x, t ∷ rest)) left stop = absurd (cc)
deep_stop (Err e) left stop = let same : e ≡ TooDeep left = cc in ap Err same

-- the token behind the front
token_at : (front rest : Tokens) (t : Token) → slice_get (front ++ t ∷ rest) (length front) ≡ Some t
token_at [] rest t = refl
token_at (u ∷ front) rest t = token_at front rest t

-- the place of the token at which so many are left
place_of_token : (front rest : Tokens) (t : Token) → place_at (front ++ t ∷ rest) (length (t ∷ rest)) ≡ t.span
place_of_token front rest t =
    let n : length (front ++ t ∷ rest) - length (t ∷ rest) ≡ length front = omega (arith, length-append front (t ∷ rest)) in
    rw (n, token_at front rest t) refl

-- ---- rules

module _ {A : Type 0} (g : Rule A) (again : ReadsAgain g) (budget : ℕ) where
  -- a value that the program reads from the whole list is its value
  pub whole_if_read : (tokens : Tokens) (x : A) → read budget g tokens ≡ Ok (x, []) → Reads budget g tokens x
  whole_if_read tokens x is = let t = reads_sound budget g tokens [] x is in subst (λ ts. Reads budget g ts x) (sym (t.whole ∙ append-nil t.front)) t.is_in

  -- where the program stops, the whole list has no value
  pub stops : (tokens : Tokens) (error : ParseError) → stop_of (read budget g tokens) ≡ Some error → HasNoReading budget g tokens
  stops tokens error stop x whole = let none : stop_of {A = A} (Ok (x, [])) ≡ Some error = ap stop_of (sym (again budget tokens x whole)) ∙ stop in cc

  module _ (ready : is_ready g ≡ true) where
    -- what the program stops at is a cause
    pub stop_cause : (tokens : Tokens) (error : ParseError) → stop_of (read budget g tokens) ≡ Some error → IsCauseWithin budget g tokens (refusal_of tokens error)
    stop_cause tokens Memory stop = IsCauseWithin.memory
    stop_cause tokens (Syntax left) stop = IsCauseWithin.syntax left (stops tokens (Syntax left) stop) stop
    stop_cause tokens (TooDeep left) stop =
        let place = read_place budget g ready tokens left (deep_stop (read budget g tokens) left stop) in
        let left_is : left ≡ length (place.place ∷ place.rest) = omega (arith, place.left_is) in
        let same : place_at tokens left ≡ place.place.span = (λ i. place_at (place.whole i) (left_is i)) ∙ place_of_token place.front place.rest place.place in
        subst (λ span. IsCauseWithin budget g tokens (too_deep_at span)) (sym same)
        (IsCauseWithin.too_deep place.front place.rest place.place (stops tokens (TooDeep left) stop) (stop ∙ ap (λ n. Some (TooDeep n)) left_is) place.whole place.many)

    -- a rejection that is not out of memory
    stopped : (tokens : Tokens) (error : ParseError) → stop_of (read budget g tokens) ≡ Some error → (refusal_of tokens error).kind ≢ Alloc → HasCause (IsCauseWithin budget g tokens)
    stopped tokens error stop reported = record { error = refusal_of tokens error; is_told = reported; stands = stop_cause tokens error stop }

    -- the whole list has a value, or a cause, by the outcome of the program
    decided_by : (tokens : Tokens) (outcome : Outcome A) → read budget g tokens ≡ outcome → IsDecidedWithin budget g tokens
    decided_by tokens (Ok (x, [])) is = inl (x, whole_if_read tokens x is)
    decided_by tokens (Ok (x, t ∷ rest)) is = inr (stopped tokens (Syntax (length (t ∷ rest))) (ap stop_of is) (λ same. cc))
    decided_by tokens (Err Memory) is = absurd (read_needs_none budget g tokens is)
    decided_by tokens (Err (Syntax left)) is = inr (stopped tokens (Syntax left) (ap stop_of is) (λ same. cc))
    decided_by tokens (Err (TooDeep left)) is = inr (stopped tokens (TooDeep left) (ap stop_of is) (λ same. cc))

    -- A whole list has a value, or there is a cause why it is rejected, which is not out of memory.
    pub decided : (tokens : Tokens) → IsDecidedWithin budget g tokens
    decided tokens = decided_by tokens (read budget g tokens) refl

-- ---- unions

-- a token of a kind is the word `union`, or it is not
word_of_kind : (k : TokenKind) (text : List _) → ((k ≡ kind.Ident) × (text ≡ codes "union")) ⊎ ((k ≡ kind.Ident) × (text ≡ codes "union") → ⊥)
word_of_kind kind.Ident text =
    let decides = bytes_eq-Decides text (codes "union") in
    elim (cases_Bool (bytes_eq text (codes "union"))) [
      | inl same ↦ inl (refl, decides.0 same)
      | inr other ↦ inr (λ is. not_from_Decides (bytes_eq text (codes "union")) decides other is.1)
    ]
word_of_kind kind.Lifetime text = inr (λ is. cc)
word_of_kind (kind.Literal l) text = inr (λ is. cc)
word_of_kind (kind.Punct c joint) text = inr (λ is. cc)
word_of_kind (kind.Start b) text = inr (λ is. cc)
word_of_kind (kind.Stop b) text = inr (λ is. cc)
word_of_kind kind.Doc text = inr (λ is. cc)

-- the tokens begin as a union, or they don't
abbrev UnionDecided : Tokens → Type 0
UnionDecided tokens = ((word : Token) × IsUnion tokens word) ⊎ ((word : Token) → IsUnion tokens word → ⊥)

-- by what the program of attributes and a visibility does
union_by : (tokens : Tokens) (outcome : Outcome (List Attribute × Unit {0})) → read depth_limit head tokens ≡ outcome → UnionDecided tokens
union_by tokens (Ok (x, [])) is = inr (λ word union. nil_not_cons word union.rest (ok_pair (sym is ∙ union_read tokens word union)).1)
union_by tokens (Ok (x, t ∷ rest)) is =
    elim (word_of_kind t.kind t.spelling) [
      | inl word_is ↦ inl (t, union_found tokens rest t x is word_is)
      | inr never ↦ inr (λ word union.
          let same = cons_parts t word rest union.rest (ok_pair (sym is ∙ union_read tokens word union)).1 in
          never (subst IsUnionWord (sym same.0) union.word_is))
    ]
union_by tokens (Err e) is = inr (λ word union. ok_fails (union.read, word ∷ union.rest) e (sym (union_read tokens word union) ∙ is))

-- ---- definitions

-- by the names of the definition that the tokens are
by_names : (tokens : Tokens) (d : DeriveInput) → IsWhole definition tokens d → ((d : DeriveInput) × IsDefinition tokens d) ⊎ HasCause (IsRefusalOf tokens)
by_names tokens d whole =
    elim (names_decided d) [
      | inl apart ↦ inl (d, record { whole = whole; apart = apart })
      | inr twice ↦ inr (record { error = duplicate_of twice.0; is_told = (λ same. cc); stands = IsRefusalOf.repeated d twice.0 whole twice.1 })
    ]

-- A list of tokens is a definition whose names are apart, or there is a cause why it is rejected, which is not out of memory.
pub definition_decided : (tokens : Tokens) → ((d : DeriveInput) × IsDefinition tokens d) ⊎ HasCause (IsRefusalOf tokens)
definition_decided tokens =
    elim (union_by tokens (read depth_limit head tokens) refl) [
      | inl union ↦ inr (record { error = union_of union.0; is_told = (λ same. cc); stands = IsRefusalOf.union union.0 union.1 })
      | inr never ↦ elim (decided definition definition_again depth_limit definition_ready tokens) [
        | inl found ↦ by_names tokens found.0 found.1
        | inr cause ↦ inr (record { error = cause.error; is_told = cause.is_told; stands = IsRefusalOf.grammar never cause.stands })
      ]
    ]
