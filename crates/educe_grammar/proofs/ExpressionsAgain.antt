-- Links and expressions are read, whatever follows that may.
use Rattle.std.proofs.Common.{◌≡◌, ℕ, ◌≤◌, ◌==◌, Bool, true, false, not, ◌&&◌, List, [], ◌∷◌, ◌++◌, drop, Option, Some, None, refl, ap, sym, subst, ◌∙◌, inl, inr}
use Rattle.std.specs.Prelude.{if◌then◌else◌}
use Rattle.std.proofs.lemmas.Bool.{false≢true, false_from_ne_true, both_ways, and_parts, eqb-true, not-true}
use Rattle.educe_tokens.specs.TokenKind.{TokenKind}
use Rattle.educe_tokens.specs.TokenKind.TheVariants as kind
use Rattle.educe_tokens.specs.Bracket.TheVariants.{Round}
use Rattle.educe_grammar.specs.declared.ending.Ending.{Ending}
use Rattle.educe_grammar.specs.declared.ending.Ending.TheVariants.{Closed, Arguments, Name}
use Rattle.educe_grammar.specs.declared.ending.Link.{Link}
use Rattle.educe_grammar.specs.declared.ending.Link.TheVariants.{Cast, Binary}
use Rattle.educe_grammar.specs.declared.operator.Operator.{Operator}
use Rattle.educe_grammar.specs.declared.operator.Operator.TheVariants.{Compares, Less, ShiftsLeft, Calculates}
use Rattle.educe_grammar.specs.declared.terminal.Keyword.TheVariants as keyword
use Rattle.educe_grammar.specs.declared.terminal.Terminal.TheVariants.{Sign}
use Rattle.educe_grammar.specs.Terminals.{accepts}
use Rattle.educe_grammar.specs.Steps.{Tokens}
use Rattle.educe_grammar.specs.Operators.{pair_of, single_of, pair_operator, single_operator, of_length, longer_of, operator_at}
use Rattle.educe_grammar.specs.Ahead.{is_sign, is_joint, begins_pair, begins_lone, opens, Ahead, one, start, lone, pair, begins, sees, sees_any}
use Rattle.educe_grammar.specs.Rules.{Rule, exprs, made, checked, chain, binary}
use Rattle.educe_grammar.specs.Reading.{Parts, Parses}
use Rattle.educe_grammar.specs.Running.{Readers}
use Rattle.educe_grammar.specs.Combining.{at, at_sign, skipping, word}
use Rattle.educe_grammar.specs.Types.{plain_type}
use Rattle.educe_grammar.specs.Expressions.{unary, at_link, link, begins_with_less, may_stand_before, casts_end, compares_once, links_fit, expression}
use Rattle.educe_grammar.proofs.TokenKinds.{sign_token}
use Rattle.educe_grammar.proofs.Apart.{all_apart, all_apart_sound}
use Rattle.educe_grammar.proofs.Looks.{anything}
use Rattle.educe_grammar.proofs.Computed.{computed}
use Rattle.educe_grammar.proofs.Again.{operator_stays, Behind, Again, again_both, again_made, again_checked, again_written, again_binary}
use Rattle.educe_grammar.proofs.LoopsAgain.{ChainFits, again_chain}
use Rattle.educe_grammar.proofs.Ends.{Ends, behind_expression}
use Rattle.educe_grammar.proofs.Deciding.{Seen, Follows, seen_left, seen_right, seen_at}
use Rattle.educe_grammar.proofs.Known.{Known, firsts, begins as begins_as, begins_not, begins_before, not_empty, again_choice, again_skip}
use Rattle.educe_grammar.proofs.TypesAgain.{ends_before, again_plain_type}
use Rattle.educe_grammar.proofs.OperandsAgain.{behind_operand, again_unary}

-- ---- operators

-- an operator, and how many tokens it takes
abbrev Found : Type 0
Found = Option (Operator × ℕ)

-- equal where an operator is there
some_same : {x y : Operator × ℕ} → ◌≡◌ {A = Found} (Some x) (Some y) → x ≡ y
some_same h = cc

-- `-` before `>` is no longer operator
arrow_of : (k l : TokenKind) → is_joint 45 k ≡ true → is_sign 62 l ≡ true → longer_of (pair_operator k l) (single_operator k) ≡ Some (Calculates, 1)
arrow_of (kind.Punct c true) (kind.Punct d joint) first second =
    let is_c : c ≡ 45 = eqb-true c 45 (and_parts (c == 45) true first).0 in
    let is_d : d ≡ 62 = eqb-true d 62 second in
    ap (λ e. longer_of (pair_of e d) (single_of e)) is_c ∙ ap (λ e. longer_of (pair_of 45 e) (single_of 45)) is_d
arrow_of (kind.Punct c false) l first second = absurd (false≢true (and_false (c == 45) first))
  where
    and_false : (b : Bool) → (b && false) ≡ true → false ≡ true
    and_false true h = h
    and_false false h = h
arrow_of k l first second = absurd (cc)

-- the operator begins with `<`
abbrev IsLess : Operator → Type 0
IsLess o = begins_with_less (Binary o) ≡ true

-- `<` begins so
lone_less : (o : Operator) (n : ℕ) → ◌≡◌ {A = Found} (Some (Less, 1)) (Some (o, n)) → IsLess o
lone_less o n h = subst IsLess (ap (λ (p : Operator × ℕ). p.0) (some_same h)) refl

-- a `<` alone is `<`
less_alone : (k : TokenKind) (o : Operator) (n : ℕ) → is_sign 60 k ≡ true → of_length 1 (single_operator k) ≡ Some (o, n) → IsLess o
less_alone (kind.Punct c joint) o n first h = lone_less o n (let is_c : c ≡ 60 = eqb-true c 60 first in sym (ap (λ e. of_length 1 (single_of e)) is_c) ∙ h)
less_alone k o n first h = absurd (cc)

-- a `<` that isn't half of `<=` is `<` or begins `<<`
less_of : (k l : TokenKind) (o : Operator) (n : ℕ) → is_sign 60 k ≡ true → (is_joint 60 k && is_sign 61 l) ≡ false → longer_of (pair_operator k l) (single_operator k) ≡ Some (o, n)
    → IsLess o
less_of (kind.Punct c true) (kind.Punct d joint) o n first second h =
    let is_c : c ≡ 60 = eqb-true c 60 first in
    let is_d : (d == 61) ≡ false = sym (ap (λ b. (b && true) && (d == 61)) first) ∙ second in
    go (d == 61) (d == 60) is_d (sym (ap (λ e. longer_of (pair_of e d) (single_of e)) is_c) ∙ h)
  where
    go : (a b : Bool) → a ≡ false → longer_of (if a then Some Compares else if b then Some ShiftsLeft else None) (Some Less) ≡ Some (o, n) → IsLess o
    go true b e h = absurd (cc)
    go false true e h = subst IsLess (ap (λ (p : Operator × ℕ). p.0) (some_same h)) refl
    go false false e h = lone_less o n h
less_of (kind.Punct c true) l o n first second h = less_alone (kind.Punct c true) o n first h
less_of (kind.Punct c false) l o n first second h = less_alone (kind.Punct c false) o n first h
less_of k l o n first second h = absurd (cc)

-- what stands behind a link
abbrev LinkEnd : Behind Link
LinkEnd (Cast ending) rest = Ends ending rest
LinkEnd (Binary o) rest = sees_any behind_operand rest ≡ true

-- What a link may begin with: with `<` only where its operator does.
record Linking (y : Link) (ts : Tokens) : Type 0 where
  arrow : begins_pair 45 62 ts ≡ false
  colons : begins_pair 58 58 ts ≡ false
  round : sees (opens Round) ts ≡ false
  less : begins_with_less y ≡ false → begins_lone 60 61 ts ≡ false

-- such a link may follow a cast, where the cast allows it
link_ends : (ending : Ending) (y : Link) (ts : Tokens) → Linking y ts → may_stand_before (Cast ending) y ≡ true → Ends ending ts
unfolding sees_any
link_ends Closed y ts l may = rw (l.arrow) refl
link_ends Arguments y ts l may = rw (l.arrow, l.colons) refl
link_ends Name y ts l may = rw (l.arrow, l.colons, l.less (not-true (begins_with_less y) may), l.round) refl

-- no operator stands at `->`, where what follows it doesn't begin with `>`
no_arrow : (ts : Tokens) (o : Operator) (n : ℕ) → operator_at ts ≡ Some (o, n) → sees (accepts (Sign 62)) (drop n ts) ≡ false → begins_pair 45 62 ts ≡ false
unfolding operator_at begins_pair sees accepts
no_arrow [] o n h behind = refl
no_arrow (t ∷ []) o n h behind = refl
no_arrow (t ∷ u ∷ ts) o n h behind = false_from_ne_true (is_joint 45 t.kind && is_sign 62 u.kind) (λ joint.
    let w = and_parts (is_joint 45 t.kind) (is_sign 62 u.kind) joint in
    let one : 1 ≡ n = ap (λ (p : Operator × ℕ). p.1) (some_same (sym (arrow_of t.kind u.kind w.0 w.1) ∙ h)) in
    both_ways (sees (accepts (Sign 62)) (u ∷ ts)) (ap (λ m. sees (accepts (Sign 62)) (drop m (t ∷ u ∷ ts))) one ∙ behind) (sign_token 62 u.kind u.spelling w.1))

-- an operator that doesn't begin with `<` stands at no `<`
no_less : (ts : Tokens) (o : Operator) (n : ℕ) → operator_at ts ≡ Some (o, n) → begins_with_less (Binary o) ≡ false → begins_lone 60 61 ts ≡ false
unfolding operator_at begins_lone begins_pair
no_less [] o n h other = refl
no_less (t ∷ []) o n h other = false_from_ne_true (is_sign 60 t.kind && true) (λ is.
    both_ways (begins_with_less (Binary o)) other (less_alone t.kind o n (and_parts (is_sign 60 t.kind) true is).0 h))
no_less (t ∷ u ∷ ts) o n h other = false_from_ne_true (is_sign 60 t.kind && not (is_joint 60 t.kind && is_sign 61 u.kind)) (λ is.
    let w = and_parts (is_sign 60 t.kind) (not (is_joint 60 t.kind && is_sign 61 u.kind)) is in
    both_ways (begins_with_less (Binary o)) other (less_of t.kind u.kind o n w.0 (not-true (is_joint 60 t.kind && is_sign 61 u.kind) w.1) h))

module _ {readers : Readers} {parts : Parts} {limit : ℕ} (known : Known readers parts limit) where
  -- what a link begins with
  linking : (budget : ℕ) (front ts : Tokens) (y : Link) → Parses parts budget link front y → Linking y (front ++ ts)
  unfolding link Parses computed
  linking budget front ts y (inl p) = record {
    arrow = apart (pair 45 62) refl;
    colons = apart (pair 58 58) refl;
    round = apart (start Round) refl;
    less = λ other. apart (lone 60 61) refl;
  }
    where
      cast : Rule Link
      cast = made (λ t. Cast t.1) (skipping (word keyword.As) plain_type)

      apart : (a : Ahead) → all_apart (firsts cast anything) (at a) ≡ true → begins a (front ++ ts) ≡ false
      apart a h = sym (seen_at a (front ++ ts)) ∙ begins_not known cast (at a) budget front ts y h p
  linking budget front ts y (inr p) =
      let o : Operator = p.0.0 in
      let n = p.2.0 in
      let stays = operator_stays front ts o n p.2.1 (λ none. not_empty known unary budget refl p.0.1 (subst (λ us. Parses parts budget unary us p.0.1) none p.2.2)) in
      let no_greater : sees (accepts (Sign 62)) (drop n (front ++ ts)) ≡ false =
      ap (sees (accepts (Sign 62))) stays.1 ∙ sym (seen_at (one (Sign 62)) (drop n front ++ ts)) ∙ begins_not known unary (at_sign 62) budget (drop n front) ts p.0.1 refl p.2.2 in record {
        arrow = no_arrow (front ++ ts) o n stays.0 no_greater;
        colons = sym (seen_at (pair 58 58) (front ++ ts)) ∙ begins_not known (binary unary) (at (pair 58 58)) budget front ts p.0 refl p.2;
        round = sym (seen_at (start Round) (front ++ ts)) ∙ begins_not known (binary unary) (at (start Round)) budget front ts p.0 refl p.2;
        less = λ other. no_less (front ++ ts) o n stays.0 (sym (ap begins_with_less p.1) ∙ other);
      }

  -- what may stand behind each link
  links_end : (budget : ℕ) (xs : List Link) (rest : Tokens) → casts_end xs ≡ true → sees_any behind_expression rest ≡ true
      → ChainFits (Parses parts budget link) at_link LinkEnd xs rest
  unfolding ChainFits casts_end computed
  links_end budget [] rest h s = all_apart_sound behind_expression at_link rest refl s
  links_end budget (Cast ending ∷ []) rest h s = (all_apart_sound behind_expression at_link rest refl s, ends_before behind_expression ending rest refl s)
  links_end budget (Binary o ∷ []) rest h s = (all_apart_sound behind_expression at_link rest refl s, seen_right at_link behind_expression rest s)
  links_end budget (Cast ending ∷ y ∷ more) rest h s =
      let w = and_parts (may_stand_before (Cast ending) y) (casts_end (y ∷ more)) h in
      ((λ front ts p. link_ends ending y (front ++ ts) (linking budget front ts y p) w.0), links_end budget (y ∷ more) rest w.1 s)
  links_end budget (Binary o ∷ y ∷ more) rest h s =
      ((λ front ts p. seen_left at_link behind_expression (front ++ ts) (begins_as known link at_link budget front ts y refl p)), links_end budget (y ∷ more) rest h s)

  -- a link is read
  again_link : (budget : ℕ) → budget ≤ limit → Again readers parts budget link LinkEnd
  unfolding link computed
  again_link budget room = again_choice known budget refl refl
      (again_made readers parts budget (again_skip known false budget room refl (again_plain_type known budget room)))
      (again_made readers parts budget (again_binary readers parts budget (again_unary known budget room) (not_empty known unary budget refl) (λ front rest o x p s. s)))

  -- an expression is read, with what stands behind it
  pub again_expression : (budget : ℕ) → budget ≤ limit → Again readers parts budget expression (Follows exprs)
  unfolding expression computed
  again_expression budget room = again_made readers parts budget (again_written readers parts budget (again_made readers parts budget
      (again_both readers parts budget {F = Seen behind_expression} (again_unary known budget room)
      (again_checked readers parts budget {F = Seen behind_expression}
      (again_chain readers parts budget (again_link budget room) (λ front rest x p e. begins_as known link at_link budget front rest x refl p))
      (λ front rest xs p t s. links_end budget xs rest (and_parts (compares_once true xs) (casts_end xs) t).1 s))
      (λ front rest x y p s. (begins_before known (checked links_fit (chain at_link link)) behind_expression behind_operand budget front rest y refl p s, s))))
      (λ front rest x w p e s. s))
