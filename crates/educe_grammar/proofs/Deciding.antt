-- Where a program decides well by its look-ahead: what is by the rule is read, whatever of some beginnings follows.
use Rattle.std.proofs.Common.{◌≡◌, ℕ, ◌-◌, ◌<◌, ◌≤◌, Bool, true, false, ◌&&◌, ◌||◌, List, [], ◌∷◌, ◌++◌, map, refl, sym, ◌∙◌, ⊎_elim, arith, IsTrue}
use Rattle.std.specs.List.{list_any}
use Rattle.std.proofs.lemmas.List.Folds.{list_any-append}
use Rattle.std.proofs.lemmas.Bool.{false≢true, false_from_ne_true, both_ways, and_parts, and_from, and_right, or_cases, or_left, or_right}
use Rattle.educe_tokens.specs.Bracket.{Bracket}
use Rattle.educe_tokens.specs.declared.token.Token.{Token}
use Rattle.educe_grammar.specs.declared.terminal.Terminal.{Terminal}
use Rattle.educe_grammar.specs.declared.terminal.Terminal.TheVariants.{Sign}
use Rattle.educe_grammar.specs.Terminals.{set_of, token_in, accepts}
use Rattle.educe_grammar.specs.Steps.{Tokens}
use Rattle.educe_grammar.specs.Ahead.{is_sign, is_joint, begins_pair, sees, closes, at_end, Ahead, one, stop, pair, finish, begins, behind, meets, Look, sees_any}
use Rattle.educe_grammar.specs.Reading.{Parts, Parses}
use Rattle.educe_grammar.specs.Running.{Readers}
use Rattle.educe_grammar.specs.Rules.{Rule, token, documentation, empty, both, made, checked, either, prefer, operator, lone, binary, nest, angles, under, arrow, list, many, chain, path, sliced, written, part, Part, TreeOf, types, plains, exprs, trees}
use Rattle.educe_grammar.specs.Combining.{at, at_sign, at_colons}
use Rattle.educe_grammar.specs.Types.{behind_type}
use Rattle.educe_grammar.specs.declared.ending.Ending.TheVariants.{Name}
use Rattle.educe_grammar.proofs.TokenKinds.{sign_token}
use Rattle.educe_grammar.proofs.Apart.{all_apart, all_within, all_apart_sound, all_within_sound}
use Rattle.educe_grammar.proofs.Looks.{anything, anything_seen}
use Rattle.educe_grammar.proofs.Fronts.{Table, Obeys, fronts, fronts_seen}
use Rattle.educe_grammar.proofs.Again.{Behind, Again, again_weaker, again_token, again_documentation, again_empty, again_both, again_made, again_checked, again_either, again_prefer, again_operator, again_lone, again_binary, again_nest, again_angles, again_under, again_arrow, again_sliced, again_written}
use Rattle.educe_grammar.proofs.LoopsAgain.{OfLast, ListFits, ChainFits, PathFits, again_list, again_many, again_chain, again_path}
use Rattle.educe_grammar.proofs.Ends.{going_on, Ends, ends_name, behind_expression}

-- ---- what stands behind the parts

-- one of the beginnings stands behind
abbrev pub Seen : Look → {A : Type 0} → Behind A
Seen look x rest = sees_any look rest ≡ true

-- what may stand behind each part
abbrev pub Follows : (p : Part) → Behind (TreeOf p)
Follows types x rest = sees_any behind_type rest ≡ true
Follows plains x rest = Ends x.1 rest
Follows exprs x rest = sees_any behind_expression rest ≡ true
Follows trees x rest = Unit {0}

-- the parts are read with this budget
abbrev pub Knows : Readers → Parts → ℕ → Type 0
Knows readers parts budget = (p : Part) → Again readers parts budget (part p) (Follows p)

-- the part may stand before each of these
abbrev pub may_end : Part → Look → Bool
may_end types l = all_within l behind_type
may_end plains l = all_apart l (going_on Name)
may_end exprs l = all_within l behind_expression
may_end trees l = true

-- ---- the test

-- what stands behind an item of a list
abbrev pub behind_item : Terminal → Look → Look
behind_item separator l = (one separator ∷ []) ∷ l

-- The first n tokens are looked at.
module _ (n : ℕ) (table : Table) where
  -- what the rule reads isn't empty
  abbrev pub is_filled : {A : Type 0} → Rule A → Bool
  is_filled g = all_apart (fronts n table g (at finish)) (at finish)

  -- what stands behind an item of a path
  abbrev pub behind_segment : {A : Type 0} → Rule A → Look → Look
  behind_segment g l = map (λ way. pair 58 58 ∷ way) (fronts n table g anything) ++ l

  -- Whether each look-ahead of the rule decides, where one of these stands behind. The truth value says whether a part may
  -- stand here itself, and not only inside of brackets or behind an opener.
  unfoldable pub decides : Bool → {A : Type 0} → Rule A → Look → Bool
  decides direct (token asked) l = true
  decides direct documentation l = true
  decides direct (empty x) l = true
  decides direct (both g h) l = decides direct g (fronts n table h l) && decides direct h l
  decides direct (made f g) l = decides direct g l
  decides direct (checked test g) l = decides direct g l
  decides direct (either look g h) l =
      (decides direct g l && decides direct h l) && (all_within (fronts n table g l) look && all_apart (fronts n table h l) look)
  decides direct (prefer asked g h) l = (decides direct g l && decides direct h l) && (all_within (fronts n table g l) (at (one asked)) && is_filled h)
  decides direct (operator c d) l = true
  decides direct (lone c d g) l = decides direct g l && (all_apart l (at_sign d) || is_filled g)
  decides direct (binary g) l = decides direct g l && is_filled g
  decides direct (nest b g) l = decides true g (at (stop b))
  decides direct (angles g) l = decides true g (at_sign 62)
  decides direct (under asked g) l = decides true g l
  decides direct (arrow g) l = decides true g l
  decides direct (list separator closing g) l =
      (decides direct g (behind_item separator l) && all_within l closing)
      && (all_apart l (at (one separator)) && all_apart (fronts n table g (behind_item separator l)) closing)
  decides direct (many look g) l = (decides direct g (look ++ l) && all_apart l look) && (all_within (fronts n table g anything) look && is_filled g)
  decides direct (chain look g) l = (decides direct g (look ++ l) && all_apart l look) && all_within (fronts n table g anything) look
  decides direct (path g) l = decides direct g (behind_segment g l) && all_apart l at_colons
  decides direct (sliced g) l = decides direct g l
  decides direct (written g) l = decides direct g l
  decides direct (part p) l = direct && may_end p l

-- ---- small steps

-- one beginning is seen where the list begins so
pub seen_one : (b : Bool) → ((b && true) || false) ≡ b
seen_one true = refl
seen_one false = refl

-- what is seen of one beginning
pub seen_at : (a : Ahead) (ts : Tokens) → sees_any (at a) ts ≡ begins a ts
unfolding sees_any
seen_at a ts = seen_one (begins a ts)

-- no such pair is seen
pub no_pair : (c d : ℕ) (ts : Tokens) → sees_any (at (pair c d)) ts ≡ false → begins_pair c d ts ≡ false
unfolding sees_any
no_pair c d ts h = sym (seen_one (begins_pair c d ts)) ∙ h

-- no such token is seen
pub no_token : (asked : Terminal) (ts : Tokens) → sees_any (at (one asked)) ts ≡ false → sees (accepts asked) ts ≡ false
unfolding sees_any
no_token asked ts h = sym (seen_one (sees (accepts asked) ts)) ∙ h

-- such a token is seen
pub one_token : (asked : Terminal) (ts : Tokens) → sees_any (at (one asked)) ts ≡ true → sees (accepts asked) ts ≡ true
unfolding sees_any
one_token asked ts h = sym (seen_one (sees (accepts asked) ts)) ∙ h

-- a token that passes is seen
pub one_seen : (asked : Terminal) (t : Token) (ts : Tokens) → IsTrue (accepts asked t) → sees_any (at (one asked)) (t ∷ ts) ≡ true
unfolding sees_any sees
one_seen asked t ts h = seen_one (accepts asked t) ∙ h

-- a closing bracket is seen
pub stop_seen : (b : Bracket) (t : Token) (ts : Tokens) → IsTrue (closes b t) → sees_any (at (stop b)) (t ∷ ts) ≡ true
unfolding sees_any sees
stop_seen b t ts h = seen_one (closes b t) ∙ h

-- the end is seen
pub finish_seen : sees_any (at finish) [] ≡ true
unfolding sees_any at_end
finish_seen = refl

-- one of two lists of beginnings is seen
pub seen_left : (l m : Look) (ts : Tokens) → sees_any l ts ≡ true → sees_any (l ++ m) ts ≡ true
unfolding sees_any
seen_left l m ts h = list_any-append (λ way. meets way ts) l m ∙ or_left _ _ h

-- or one of the others
pub seen_right : (l m : Look) (ts : Tokens) → sees_any m ts ≡ true → sees_any (l ++ m) ts ≡ true
unfolding sees_any
seen_right l m ts h = list_any-append (λ way. meets way ts) l m ∙ or_right (list_any (λ way. meets way ts) l) _ h

-- a pair, and behind it one of these
pub pair_then : (l : Look) (t u : Token) (ts : Tokens) → begins_pair 58 58 (t ∷ u ∷ ts) ≡ true → sees_any l ts ≡ true → sees_any (map (λ way. pair 58 58 ∷ way) l) (t ∷ u ∷ ts) ≡ true
unfolding sees_any behind
pair_then [] t u ts first h = h
pair_then (way ∷ l) t u ts first h = ⊎_elim
    (λ here. or_left (begins_pair 58 58 (t ∷ u ∷ ts) && meets way ts) _ (and_from (begins_pair 58 58 (t ∷ u ∷ ts)) (meets way ts) first here))
    (λ there. or_right (begins_pair 58 58 (t ∷ u ∷ ts) && meets way ts) _ (pair_then l t u ts first there))
    (or_cases (meets way ts) (list_any (λ way. meets way ts) l) h)

-- another sign behind it makes no operator
pub no_second : (c d : ℕ) (t : Token) (ts : Tokens) → sees (accepts (Sign d)) ts ≡ false → begins_pair c d (t ∷ ts) ≡ false
unfolding begins_pair sees accepts
no_second c d t [] h = refl
no_second c d t (u ∷ ts) h = and_right (is_joint c t.kind) (is_sign d u.kind) (false_from_ne_true (is_sign d u.kind) (λ other.
    both_ways (token_in (set_of (Sign d)) u.kind u.spelling) h (sign_token d u.kind u.spelling other)))

-- the parts of a test of four
two_and_two : (a b c d : Bool) → ((a && b) && (c && d)) ≡ true → (a ≡ true) × (b ≡ true) × (c ≡ true) × (d ≡ true)
two_and_two true true c d h = let w = and_parts c d h in (refl, refl, w.0, w.1)
two_and_two true false c d h = absurd (false≢true h)
two_and_two false b c d h = absurd (false≢true h)

-- the parts of a test of three
two_and_one : (a b c : Bool) → ((a && b) && c) ≡ true → (a ≡ true) × (b ≡ true) × (c ≡ true)
two_and_one true b c h = let w = and_parts b c h in (refl, w.0, w.1)
two_and_one false b c h = absurd (false≢true h)

-- the budget leaves room for what a part may stand in
abbrev pub Room : ℕ → Bool → ℕ → Type 0
Room limit true budget = budget < limit
Room limit false budget = budget ≤ limit

-- inside of a bracket there is room for a part
room_inside : (limit : ℕ) (direct : Bool) (budget : ℕ) → Room limit direct budget → 0 < budget → Room limit true (budget - 1)
room_inside limit true budget room some = omega arith
room_inside limit false budget room some = omega arith

-- where a part may stand itself there is room for it
room_direct : (limit : ℕ) (direct : Bool) (budget : ℕ) → direct ≡ true → Room limit direct budget → budget < limit
room_direct limit true budget h room = room
room_direct limit false budget h room = absurd (false≢true h)

-- ---- what the test says

module _ (n : ℕ) (table : Table) (readers : Readers) (parts : Parts) (limit : ℕ) (known : (budget : ℕ) → budget < limit → Knows readers parts budget)
    (obeys : Obeys parts table) where
  -- what a rule reads begins as its beginnings say
  seen : {A : Type 0} (g : Rule A) (budget : ℕ) (front rest : Tokens) (x : A) (l : Look) → Parses parts budget g front x → sees_any l rest ≡ true → sees_any (fronts n table g l) (front ++ rest) ≡ true
  seen g budget front rest x l p s = fronts_seen parts n table obeys g budget front rest x l p s

  -- what fills the rule isn't empty
  pub filled : {A : Type 0} (g : Rule A) (budget : ℕ) → is_filled n table g ≡ true → (x : A) → Parses parts budget g [] x → ⊥
  filled g budget h x p =
      both_ways (sees_any (at finish) []) (all_apart_sound (fronts n table g (at finish)) (at finish) [] h (seen g budget [] [] x (at finish) p finish_seen)) finish_seen

  -- a part may end before these
  part_ends : (p : Part) (l : Look) (x : TreeOf p) (rest : Tokens) → may_end p l ≡ true → sees_any l rest ≡ true → Follows p x rest
  part_ends types l x rest h s = all_within_sound l behind_type rest h s
  part_ends plains l x rest h s = ends_name x.1 rest (all_apart_sound l (going_on Name) rest h s)
  part_ends exprs l x rest h s = all_within_sound l behind_expression rest h s
  part_ends trees l x rest h s = tt

  -- the last of a list stands before what follows the list
  last_seen : {A : Type 0} (l : Look) (xs : List A) (rest : Tokens) → sees_any l rest ≡ true → OfLast (λ x. sees_any l rest ≡ true) xs
  unfolding OfLast
  last_seen l [] rest h = tt
  last_seen l (x ∷ []) rest h = h
  last_seen l (x ∷ y ∷ more) rest h = last_seen l (y ∷ more) rest h

  -- what may stand behind the items of a list
  pub list_fits : {A : Type 0} (g : Rule A) (budget : ℕ) (separator : Terminal) (closing l : Look)
      → all_within l closing ≡ true → all_apart l (at (one separator)) ≡ true → all_apart (fronts n table g (behind_item separator l)) closing ≡ true
      → ListFits (Parses parts budget g) (accepts separator) closing (Seen (behind_item separator l)) (Seen l)
  list_fits g budget separator closing l within apart begins = record {
    begins = λ front rest x p s. all_apart_sound (fronts n table g (behind_item separator l)) closing (front ++ rest) begins (seen g budget front rest x (behind_item separator l) p s);
    separator = λ front rest x t p s. seen_left (at (one separator)) l (t ∷ rest) (one_seen separator t rest s);
    stops = λ xs rest s. all_within_sound l closing rest within s;
    ends = λ xs rest s. no_token separator rest (all_apart_sound l (at (one separator)) rest apart s);
    last = λ xs rest s. last_seen (behind_item separator l) xs rest (seen_right (at (one separator)) l rest s);
  }

  -- what may stand behind the items of a chain
  chain_fits : {A : Type 0} (g : Rule A) (budget : ℕ) (look l : Look) (xs : List A) (rest : Tokens) → all_apart l look ≡ true → all_within (fronts n table g anything) look ≡ true
      → sees_any l rest ≡ true → ChainFits (Parses parts budget g) look (Seen (look ++ l)) xs rest
  unfolding ChainFits
  chain_fits g budget look l [] rest apart begins s = all_apart_sound l look rest apart s
  chain_fits g budget look l (x ∷ []) rest apart begins s = (all_apart_sound l look rest apart s, seen_right look l rest s)
  chain_fits g budget look l (x ∷ y ∷ more) rest apart begins s = (
    (λ front ts p. seen_left look l (front ++ ts) (all_within_sound (fronts n table g anything) look (front ++ ts) begins (seen g budget front ts y anything p (anything_seen ts)))),
    chain_fits g budget look l (y ∷ more) rest apart begins s,
  )

  -- each item begins as the look-ahead says
  chain_begins : {A : Type 0} (g : Rule A) (budget : ℕ) (look : Look) (front rest : Tokens) (x : A) → all_within (fronts n table g anything) look ≡ true
      → Parses parts budget g front x → sees_any look (front ++ rest) ≡ true
  chain_begins g budget look front rest x begins p = all_within_sound (fronts n table g anything) look (front ++ rest) begins (seen g budget front rest x anything p (anything_seen rest))

  -- what may stand behind the items of a path
  path_fits : {A : Type 0} (g : Rule A) (budget : ℕ) (l : Look) (xs : List A) (rest : Tokens) → all_apart l at_colons ≡ true → sees_any l rest ≡ true
      → PathFits (Parses parts budget g) (Seen (behind_segment n table g l)) xs rest
  unfolding PathFits
  path_fits g budget l [] rest apart s = tt
  path_fits g budget l (x ∷ []) rest apart s = (
    no_pair 58 58 rest (all_apart_sound l at_colons rest apart s),
    seen_right (map (λ way. pair 58 58 ∷ way) (fronts n table g anything)) l rest s,
  )
  path_fits g budget l (x ∷ y ∷ more) rest apart s = (
    (λ first second front ts p colons. seen_left (map (λ way. pair 58 58 ∷ way) (fronts n table g anything)) l (first ∷ second ∷ front ++ ts)
        (pair_then (fronts n table g anything) first second (front ++ ts) colons (seen g budget front ts y anything p (anything_seen ts)))),
    path_fits g budget l (y ∷ more) rest apart s,
  )

  -- What is by a rule that decides is read, whatever of the beginnings follows.
  pub decides_again : {A : Type 0} (g : Rule A) (direct : Bool) (l : Look) (budget : ℕ) → Room limit direct budget → decides n table direct g l ≡ true
      → Again readers parts budget g (Seen l)
  unfolding decides
  decides_again (token asked) direct l budget room h = again_token readers parts budget asked
  decides_again documentation direct l budget room h = again_documentation readers parts budget
  decides_again (empty x) direct l budget room h = again_empty readers parts budget x
  decides_again (both g k) direct l budget room h =
      let w = and_parts _ _ h in
      again_both readers parts budget (decides_again g direct (fronts n table k l) budget room w.0) (decides_again k direct l budget room w.1)
      (λ front rest x y p s. (seen k budget front rest y l p s, s))
  decides_again (made f g) direct l budget room h = again_made readers parts budget (decides_again g direct l budget room h)
  decides_again (checked test g) direct l budget room h = again_checked readers parts budget (decides_again g direct l budget room h) (λ front rest x p t s. s)
  decides_again (either look g k) direct l budget room h =
      let w = two_and_two _ _ _ _ h in
      again_either readers parts budget (decides_again g direct l budget room w.0) (decides_again k direct l budget room w.1)
      (λ front rest x p s. all_within_sound (fronts n table g l) look (front ++ rest) w.2 (seen g budget front rest x l p s))
      (λ front rest x p s. all_apart_sound (fronts n table k l) look (front ++ rest) w.3 (seen k budget front rest x l p s))
  decides_again (prefer asked g k) direct l budget room h =
      let w = two_and_two _ _ _ _ h in
      again_prefer readers parts budget (decides_again g direct l budget room w.0) (decides_again k direct l budget room w.1)
      (λ front rest x p s. one_token asked (front ++ rest) (all_within_sound (fronts n table g l) (at (one asked)) (front ++ rest) w.2 (seen g budget front rest x l p s)))
      (filled k budget w.3)
  decides_again (operator c d) direct l budget room h = again_operator readers parts budget c d
  decides_again (lone c d g) direct l budget room h =
      let w = and_parts _ _ h in
      again_lone readers parts budget (decides_again g direct l budget room w.0) (λ rest x first p s. ⊎_elim
      (λ apart. no_second c d first rest (no_token (Sign d) rest (all_apart_sound l (at_sign d) rest apart s)))
      (λ full. absurd (filled g budget full x p))
      (or_cases _ _ w.1))
  decides_again (binary g) direct l budget room h =
      let w = and_parts _ _ h in
      again_binary readers parts budget (decides_again g direct l budget room w.0) (filled g budget w.1) (λ front rest o x p s. s)
  decides_again (nest b g) direct l budget room h =
      again_nest readers parts budget (λ some. decides_again g true (at (stop b)) (budget - 1) (room_inside limit direct budget room some) h)
      (λ front rest x t p c. stop_seen b t rest c)
  decides_again (angles g) direct l budget room h =
      again_angles readers parts budget (λ some. decides_again g true (at_sign 62) (budget - 1) (room_inside limit direct budget room some) h)
      (λ front rest x t p c. one_seen (Sign 62) t rest c)
  decides_again (under asked g) direct l budget room h = again_under readers parts budget (λ some. decides_again g true l (budget - 1) (room_inside limit direct budget room some) h)
  decides_again (arrow g) direct l budget room h = again_arrow readers parts budget (λ some. decides_again g true l (budget - 1) (room_inside limit direct budget room some) h)
  decides_again (list separator closing g) direct l budget room h =
      let w = two_and_two _ _ _ _ h in
      again_list readers parts budget (decides_again g direct (behind_item separator l) budget room w.0) (list_fits g budget separator closing l w.1 w.2 w.3)
  decides_again (many look g) direct l budget room h =
      let w = two_and_two _ _ _ _ h in
      again_weaker readers parts budget
      (again_many readers parts budget (decides_again g direct (look ++ l) budget room w.0) (λ front rest x p s. chain_begins g budget look front rest x w.2 p) (filled g budget w.3))
      (λ front rest xs p s. chain_fits g budget look l xs rest w.1 w.2 s)
  decides_again (chain look g) direct l budget room h =
      let w = two_and_one _ _ _ h in
      again_weaker readers parts budget
      (again_chain readers parts budget (decides_again g direct (look ++ l) budget room w.0) (λ front rest x p s. chain_begins g budget look front rest x w.2 p))
      (λ front rest xs p s. chain_fits g budget look l xs rest w.1 w.2 s)
  decides_again (path g) direct l budget room h =
      let w = and_parts _ _ h in
      again_weaker readers parts budget (again_path readers parts budget (decides_again g direct (behind_segment n table g l) budget room w.0))
      (λ front rest xs p s. path_fits g budget l xs rest w.1 s)
  decides_again (sliced g) direct l budget room h = again_sliced readers parts budget (decides_again g direct l budget room h) (λ front rest x p s. s)
  decides_again (written g) direct l budget room h = again_written readers parts budget (decides_again g direct l budget room h) (λ front rest x w p e s. s)
  decides_again (part p) direct l budget room h =
      let w = and_parts _ _ h in
      again_weaker readers parts budget (known budget (room_direct limit direct budget w.0 room) p) (λ front rest x r s. part_ends p l x rest w.1 s)
