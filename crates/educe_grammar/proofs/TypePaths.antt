-- Paths in types are read, whatever follows that may.
use Rattle.std.proofs.Common.{◌≡◌, ◌≢◌, ℕ, ◌-◌, ◌≤◌, Bool, true, false, List, [], ◌∷◌, ◌++◌, map, Option, Some, None, refl, ap, sym, subst, ◌∙◌, inl, inr, cond, arith}
use Rattle.std.proofs.lemmas.Bool.{and_parts, and_from, or_left}
use Rattle.educe_tokens.specs.Bracket.TheVariants.{Round}
use Rattle.educe_tokens.specs.declared.token.Token.{Token}
use Rattle.educe_tree.specs.declared.path.Path.{Path}
use Rattle.educe_tree.specs.declared.ty.Ty.{Ty}
use Rattle.educe_grammar.specs.declared.ending.Ending.{Ending}
use Rattle.educe_grammar.specs.declared.ending.Ending.TheVariants.{Closed, Arguments, Name}
use Rattle.educe_grammar.specs.declared.terminal.Terminal.TheVariants as terminal
use Rattle.educe_grammar.specs.Steps.{Tokens}
use Rattle.educe_grammar.specs.Ahead.{one, start, lone, pair, Look, begins_pair, sees_any, behind}
use Rattle.educe_grammar.specs.Rules.{Typed, arrow, part, types, plains, made}
use Rattle.educe_grammar.specs.Reading.{Parts, Linked, Parses}
use Rattle.educe_grammar.specs.Running.{Readers}
use Rattle.educe_grammar.specs.Terminals.{accepts}
use Rattle.educe_grammar.specs.Names.{segment_name}
use Rattle.educe_grammar.specs.Combining.{at, at_arrow, at_colons, in_round, skipping, flag, colons}
use Rattle.educe_grammar.specs.Types.{no_args, angle_read, angle_args, at_angle_args, ArgsRead, SegmentRead, returned, round_read, round_args, type_args, type_segment, may_follow, last_ending, type_segments, path_ending, type_path, are_self}
use Rattle.educe_grammar.proofs.Apart.{apart, within, ways_apart, way_within, all_apart, all_within, all_apart_sound}
use Rattle.educe_grammar.proofs.Sets.{are_disjoint, is_within}
use Rattle.educe_grammar.proofs.Again.{Behind, Again, again_weaker, again_both, again_made, again_checked, again_either, again_empty, again_arrow}
use Rattle.educe_grammar.proofs.LoopsAgain.{sees_hit, PathFits, again_path}
use Rattle.educe_grammar.proofs.Computed.{computed}
use Rattle.educe_grammar.proofs.Deciding.{seen_one}
use Rattle.educe_grammar.proofs.Known.{Known, Maybe, behind_empty, again_optional, whatever, always, outside, begins, begins_not}
use Rattle.educe_grammar.proofs.Ends.{going_on, Ends, unseen, ends_name}

-- what standing behind a segment that is read so would be read on by that segment
abbrev pub segment_going_on : Ending → Bool → Look
segment_going_on ending false = going_on ending
segment_going_on Closed true = at_arrow
segment_going_on Arguments true = at_arrow
segment_going_on Name true = (lone 60 61 ∷ []) ∷ (pair 58 58 ∷ lone 60 61 ∷ []) ∷ (start Round ∷ []) ∷ []

-- nothing like that stands there
abbrev pub SegmentEnds : Ending → Bool → Tokens → Type 0
SegmentEnds ending more rest = sees_any (segment_going_on ending more) rest ≡ false

-- what may stand behind the arguments of a segment
abbrev pub ArgsEnd : Behind ArgsRead
ArgsEnd a rest = SegmentEnds a.1 a.2 rest

-- what may stand behind a segment
abbrev pub SegmentEnd : Behind SegmentRead
SegmentEnd s rest = SegmentEnds s.1 s.2 rest

-- what goes on no type that ends so goes on no segment
segment_ends : (ending : Ending) (more : Bool) (ts : Tokens) → Ends ending ts → SegmentEnds ending more ts
unfolding all_within way_within within is_within
segment_ends ending false ts h = h
segment_ends Closed true ts h = h
segment_ends Arguments true ts h = unseen at_arrow (going_on Arguments) ts refl h
segment_ends Name true ts h = unseen (segment_going_on Name true) (going_on Name) ts refl h

-- `::` and a name goes on no segment behind which another may stand
segment_before : (ending : Ending) (ts : Tokens) → sees_any ((pair 58 58 ∷ one terminal.PathSegment ∷ []) ∷ []) ts ≡ true → SegmentEnds ending true ts
unfolding all_apart ways_apart apart are_disjoint
segment_before Closed ts h = all_apart_sound ((pair 58 58 ∷ one terminal.PathSegment ∷ []) ∷ []) at_arrow ts refl h
segment_before Arguments ts h = all_apart_sound ((pair 58 58 ∷ one terminal.PathSegment ∷ []) ∷ []) at_arrow ts refl h
segment_before Name ts h = all_apart_sound ((pair 58 58 ∷ one terminal.PathSegment ∷ []) ∷ []) (segment_going_on Name true) ts refl h

-- `::` goes on a type that ends with a path
no_colons : (ending : Ending) (ts : Tokens) → ending ≢ Closed → Ends ending ts → sees_any at_colons ts ≡ false
unfolding all_within way_within within
no_colons Closed ts some h = absurd (some refl)
no_colons Arguments ts some h = unseen at_colons (going_on Arguments) ts refl h
no_colons Name ts some h = unseen at_colons (going_on Name) ts refl h

-- no `::` is seen
no_pair : (ts : Tokens) → sees_any at_colons ts ≡ false → begins_pair 58 58 ts ≡ false
unfolding sees_any
no_pair ts h = sym (seen_one (begins_pair 58 58 ts)) ∙ h

-- round arguments with a result end with a path
returned_ends : (inputs : List Ty) (output : Ty) (ending : Ending) → (returned inputs output ending).1 ≢ Closed
returned_ends inputs output Closed e = cc
returned_ends inputs output Arguments e = cc
returned_ends inputs output Name e = cc

-- round arguments end with a path
round_ends : (inputs : List Ty) (output : Option Typed) → (round_read (inputs, output)).1 ≢ Closed
round_ends inputs None e = cc
round_ends inputs (Some output) e = returned_ends inputs output.0 output.1 e

module _ (parts : Parts) (budget : ℕ) where
  -- what is read of a segment ends with a path
  args_end : (front : Tokens) (a : ArgsRead) → Parses parts budget type_args front a → a.1 ≢ Closed
  unfolding Parses type_args
  args_end front a (inl h) closed = absurd (let e = ap (λ (b : ArgsRead). b.1) h.1 in let k : Arguments ≡ Closed = sym e ∙ closed in cc)
  args_end front a (inr (inl h)) closed = round_ends h.0.0 h.0.1 (sym (ap (λ (b : ArgsRead). b.1) h.1) ∙ closed)
  args_end front a (inr (inr h)) closed = absurd (let e = ap (λ (b : ArgsRead). b.1) h.1 in let k : Name ≡ Closed = sym e ∙ closed in cc)

  -- a segment ends with a path
  segment_end : (front : Tokens) (s : SegmentRead) → Parses parts budget type_segment front s → s.1 ≢ Closed
  unfolding Parses type_segment
  segment_end front s h closed = args_end h.2.1 h.0.1 h.2.4 (sym (ap (λ (t : SegmentRead). t.1) h.1) ∙ closed)

  -- `::` and what reads as a segment is `::` and a name
  colons_before : (front ts : Tokens) (s : SegmentRead) (first second : Token) → Parses parts budget type_segment front s → begins_pair 58 58 (first ∷ second ∷ front ++ ts) ≡ true
      → sees_any ((pair 58 58 ∷ one terminal.PathSegment ∷ []) ∷ []) (first ∷ second ∷ front ++ ts) ≡ true
  unfolding Parses type_segment segment_name sees_any behind
  colons_before front ts s first second h colons =
      let name = h.2.3 in
      let start : front ≡ name.0.token ∷ h.2.1 = h.2.2 ∙ ap (λ us. us ++ h.2.1) name.2 in
      subst (λ us. sees_any ((pair 58 58 ∷ one terminal.PathSegment ∷ []) ∷ []) (first ∷ second ∷ us ++ ts) ≡ true) (sym start)
      (or_left _ _ (and_from _ _ (pair_before first second front (name.0.token ∷ h.2.1) ts start colons) (and_from _ _ (sees_hit (accepts terminal.PathSegment) name.0.token (h.2.1 ++ ts) name.0.passes) refl)))
    where
      pair_before : (first second : Token) (front other ts : Tokens) → front ≡ other → begins_pair 58 58 (first ∷ second ∷ front ++ ts) ≡ true
          → begins_pair 58 58 (first ∷ second ∷ other ++ ts) ≡ true
      pair_before first second front other ts same h = subst (λ us. begins_pair 58 58 (first ∷ second ∷ us ++ ts) ≡ true) same h

  -- the segments that tokens are
  abbrev Segments : Tokens → List SegmentRead → Type 0
  Segments tokens xs = Linked (Parses parts budget type_segment) tokens xs

  -- what may stand behind each of them
  abbrev Fits : List SegmentRead → Tokens → Type 0
  Fits xs rest = PathFits (Parses parts budget type_segment) SegmentEnd xs rest

  -- one more segment before others
  fit_before : {ts : Tokens} {xs : List SegmentRead} (x : SegmentRead) (rest : Tokens) → Segments ts xs → x.2 ≡ true → Fits xs rest → Fits (x ∷ xs) rest
  unfolding PathFits
  fit_before x rest (Linked.last ts r) may f =
      ((λ first second front us k colons. subst (λ b. SegmentEnds x.1 b (first ∷ second ∷ front ++ us)) (sym may) (segment_before x.1 _ (colons_before front us _ first second k colons))), f)
  fit_before x rest (Linked.more front back t u r joint others) may f =
      ((λ first second front us k colons. subst (λ b. SegmentEnds x.1 b (first ∷ second ∷ front ++ us)) (sym may) (segment_before x.1 _ (colons_before front us _ first second k colons))), f)

  -- behind the first another may stand, and behind the others too
  may_before : {ts : Tokens} {xs : List SegmentRead} (x : SegmentRead) → Segments ts xs → may_follow (x ∷ xs) ≡ true → (x.2 ≡ true) × (may_follow xs ≡ true)
  unfolding may_follow
  may_before x (Linked.last ts r) h = and_parts _ _ h
  may_before x (Linked.more front back t u r joint others) h = and_parts _ _ h

  -- the last of more is the last of the others
  ending_before : {ts : Tokens} {xs : List SegmentRead} (x : SegmentRead) → Segments ts xs → last_ending (x ∷ xs) ≡ last_ending xs
  unfolding last_ending
  ending_before x (Linked.last ts r) = refl
  ending_before x (Linked.more front back t u r joint others) = refl

  -- what may stand behind each segment of a path
  segments_fit : {ts : Tokens} {xs : List SegmentRead} (rest : Tokens) → Segments ts xs → may_follow xs ≡ true → Ends (last_ending xs) rest → Fits xs rest
  unfolding PathFits last_ending
  segments_fit rest (Linked.last {x = x} ts r) may e = (no_pair rest (no_colons x.1 rest (segment_end ts x r) e), segment_ends x.1 x.2 rest e)
  segments_fit rest (Linked.more {x = x} front back t u r joint others) may e =
      let m = may_before x others may in
      fit_before x rest others m.0 (segments_fit rest others m.1 (subst (λ ending. Ends ending rest) (ending_before x others) e))

-- what may stand behind the segments of a path
abbrev pub SegmentsEnd : Behind (List SegmentRead)
SegmentsEnd xs rest = Ends (last_ending xs) rest

-- what may stand behind a path
abbrev pub PathEnd : Behind (Path × Ending)
PathEnd p rest = Ends p.1 rest

-- a path without its leading `::`
ends_path : (leading : Bool) (xs : List SegmentRead) (rest : Tokens) → Ends (path_ending leading xs) rest → Ends (last_ending xs) rest
ends_path leading xs rest h = go (are_self leading (map (λ s. s.0) xs)) h
  where
    go : (b : Bool) → Ends (cond b Name (last_ending xs)) rest → Ends (last_ending xs) rest
    go true h = ends_name (last_ending xs) rest h
    go false h = h

-- what may stand behind round arguments
abbrev pub RoundEnds : Behind (List Ty × Option Typed)
RoundEnds p rest = Maybe at_arrow (λ (output : Typed). Ends output.1) p.1 rest

-- what goes on no round arguments as they are read goes on none as they are
round_fits : (inputs : List Ty) (output : Option Typed) (rest : Tokens) → ArgsEnd (round_read (inputs, output)) rest → RoundEnds (inputs, output) rest
round_fits inputs None rest h = h
round_fits inputs (Some output) rest h = returned_fits output.1 h
  where
    returned_fits : (ending : Ending) → ArgsEnd (returned inputs output.0 ending) rest → Ends ending rest
    returned_fits Closed h = h
    returned_fits Arguments h = h
    returned_fits Name h = h

-- behind no arguments stand none
none_ends : (rest : Tokens) → SegmentEnds Name true rest → (sees_any at_angle_args rest ≡ false) × (sees_any (at (start Round)) rest ≡ false)
unfolding all_within way_within within is_within
none_ends rest h = (unseen at_angle_args (segment_going_on Name true) rest refl h, unseen (at (start Round)) (segment_going_on Name true) rest refl h)

module _ {readers : Readers} {parts : Parts} {limit : ℕ} (known : Known readers parts limit) (budget : ℕ) (room : budget ≤ limit) where
  -- round arguments are read
  again_round_args : Again readers parts budget round_args RoundEnds
  unfolding round_args computed
  again_round_args = again_both readers parts budget (always known (in_round (part types)) budget room refl)
      (again_optional readers parts budget (again_arrow readers parts budget (λ some. known.reads (budget - 1) (omega arith) plains))
      (λ front rest x p. begins known (arrow (part plains)) at_arrow budget front rest x refl p))
      (λ front rest x y p f. (tt, f))

  -- the arguments of a segment are read
  again_type_args : Again readers parts budget type_args ArgsEnd
  unfolding type_args Parses computed
  again_type_args = again_either readers parts budget
      (again_made readers parts budget (whatever known (skipping (flag at_colons colons) angle_args) budget room refl))
      (again_either readers parts budget
      (again_made readers parts budget (again_weaker readers parts budget again_round_args (λ front rest p h f. round_fits p.0 p.1 rest f)))
      (again_empty readers parts budget no_args)
      (λ front rest x p f. begins known (made round_read round_args) (at (start Round)) budget front rest x refl p)
      (λ front rest x p f. behind_empty readers parts budget ArgsEnd no_args (at (start Round)) front rest x p f (λ e. (none_ends rest e).1)))
      (λ front rest x p f. begins known (made angle_read (skipping (flag at_colons colons) angle_args)) at_angle_args budget front rest x refl p)
      (λ front rest x p f. elim p [
        | inl p ↦ begins_not known (made round_read round_args) at_angle_args budget front rest x refl p
        | inr p ↦ behind_empty readers parts budget ArgsEnd no_args at_angle_args front rest x p f (λ e. (none_ends rest e).0)
      ])

  -- a segment is read
  pub again_type_segment : Again readers parts budget type_segment SegmentEnd
  unfolding type_segment computed
  again_type_segment = again_made readers parts budget
      (again_both readers parts budget (always known segment_name budget room refl) again_type_args (λ front rest x y p f. (tt, f)))

  -- the segments of a path are read
  pub again_type_segments : Again readers parts budget type_segments SegmentsEnd
  unfolding type_segments Parses
  again_type_segments = again_checked readers parts budget (again_path readers parts budget again_type_segment) (λ front rest xs p t f. segments_fit parts budget rest p t f)

  -- a path is read, where nothing that goes on it follows
  pub again_type_path : Again readers parts budget type_path PathEnd
  unfolding type_path computed
  again_type_path = again_checked readers parts budget
      (again_made readers parts budget
      (again_both readers parts budget {F = λ p rest. Ends (path_ending p.0 p.1) rest} (outside known (flag at_colons colons) (at (one terminal.PathSegment)) budget room refl) again_type_segments
      (λ front rest x y p f. (begins known type_segments (at (one terminal.PathSegment)) budget front rest y refl p, ends_path x y rest f))))
      (λ front rest x p t f. f)
