-- What is known of the parts, and what follows for the rules that hold them.
use Rattle.std.proofs.Common.{◌≡◌, ℕ, ◌<◌, ◌≤◌, Bool, true, false, [], ◌++◌, Option, Some, None, ap, subst, ◌∙◌}
use Rattle.educe_grammar.specs.Steps.{Tokens}
use Rattle.educe_grammar.specs.Ahead.{Look, sees_any}
use Rattle.educe_grammar.specs.Reading.{Parts, Parses}
use Rattle.educe_grammar.specs.Running.{Readers}
use Rattle.educe_grammar.specs.Rules.{Rule, empty, both, either}
use Rattle.educe_grammar.specs.Combining.{optional, skipping}
use Rattle.educe_grammar.proofs.Apart.{all_apart, all_within, all_apart_sound, all_within_sound}
use Rattle.educe_grammar.proofs.Looks.{anything, anything_seen}
use Rattle.educe_grammar.proofs.Fronts.{Obeys, fronts, fronts_seen}
use Rattle.educe_grammar.proofs.PartFronts.{part_fronts}
use Rattle.educe_grammar.proofs.Again.{Behind, Again, again_weaker, again_made, again_empty, again_both, again_either}
use Rattle.educe_grammar.proofs.Deciding.{Seen, Knows, Room, is_filled, decides, decides_again, filled}

-- the beginnings of a rule, of which two tokens are looked at
abbrev pub firsts : {A : Type 0} → Rule A → Look → Look
firsts g l = fronts 2 (part_fronts 2) g l

-- the rule decides; inside of brackets or behind an opener it may hold parts itself
abbrev pub Decides : {A : Type 0} → Rule A → Look → Type 0
Decides g l = decides 2 (part_fronts 2) false g l ≡ true

-- the rule decides, and may hold parts itself
abbrev pub DecidesInside : {A : Type 0} → Rule A → Look → Type 0
DecidesInside g l = decides 2 (part_fronts 2) true g l ≡ true

-- The parts are read with each budget below the limit, and begin as their rules do.
pub record Known (readers : Readers) (parts : Parts) (limit : ℕ) : Type 0 where
  pub reads : (budget : ℕ) → budget < limit → Knows readers parts budget
  pub begins : Obeys parts (part_fronts 2)

-- anything may stand behind
abbrev pub Always : {A : Type 0} → Behind A
Always x rest = Unit {0}

-- what may stand behind a value that may be left out
abbrev pub Maybe : Look → {A : Type 0} → Behind A → Behind (Option A)
Maybe look G None rest = sees_any look rest ≡ false
Maybe look G (Some x) rest = G x rest

module _ (readers : Readers) (parts : Parts) (budget : ℕ) where
  -- where nothing was read, what is seen stands behind
  pub behind_empty : {A : Type 0} (F : Behind A) (a : A) (look : Look) {b : Bool} (front rest : Tokens) (x : A) → Parses parts budget (empty a) front x → F x rest
      → (F a rest → sees_any look rest ≡ b) → sees_any look (front ++ rest) ≡ b
  unfolding Parses
  behind_empty F a look front rest x p f goes = ap (λ ts. sees_any look (ts ++ rest)) p.0 ∙ goes (subst (λ z. F z rest) p.1 f)

  -- a rule that may be left out
  pub again_optional : {A : Type 0} {look : Look} {g : Rule A} {G : Behind A} → Again readers parts budget g G
      → ((front rest : Tokens) (x : A) → Parses parts budget g front x → sees_any look (front ++ rest) ≡ true)
      → Again readers parts budget (optional look g) (Maybe look G)
  unfolding Parses
  again_optional {look = look} {G = G} ag hit = again_either readers parts budget (again_made readers parts budget ag) (again_empty readers parts budget None)
      (λ front rest y p f. hit front rest p.0 p.2)
      (λ front rest y p f. behind_empty (Maybe look G) None look front rest y p f (λ h. h))

module _ {readers : Readers} {parts : Parts} {limit : ℕ} (known : Known readers parts limit) where
  -- a rule that decides before these
  pub looked : (direct : Bool) {A : Type 0} (g : Rule A) (l : Look) (budget : ℕ) → Room limit direct budget → decides 2 (part_fronts 2) direct g l ≡ true
      → Again readers parts budget g (Seen l)
  looked direct g l budget room h = decides_again 2 (part_fronts 2) readers parts limit known.reads known.begins g direct l budget room h

  -- a rule that holds parts inside of brackets or behind an opener
  pub outside : {A : Type 0} (g : Rule A) (l : Look) (budget : ℕ) → budget ≤ limit → Decides g l → Again readers parts budget g (Seen l)
  outside g l budget room h = looked false g l budget room h

  -- a rule that stands inside of brackets or behind an opener
  pub inside : {A : Type 0} (g : Rule A) (l : Look) (budget : ℕ) → budget < limit → DecidesInside g l → Again readers parts budget g (Seen l)
  inside g l budget room h = looked true g l budget room h

  -- a rule behind which anything may stand
  pub whatever : {A : Type 0} (g : Rule A) {F : Behind A} (budget : ℕ) → budget ≤ limit → Decides g anything → Again readers parts budget g F
  whatever g budget room h = again_weaker readers parts budget (outside g anything budget room h) (λ front rest x p f. anything_seen rest)

  -- a rule behind which anything may stand, where nothing is asked of what follows
  pub always : {A : Type 0} (g : Rule A) (budget : ℕ) → budget ≤ limit → Decides g anything → Again readers parts budget g Always
  always g budget room h = whatever g budget room h

  -- what the rule reads, and one of these behind it, begins as one of those
  pub begins_before : {A : Type 0} (g : Rule A) (l look : Look) (budget : ℕ) (front rest : Tokens) (x : A) → all_within (firsts g l) look ≡ true
      → Parses parts budget g front x → sees_any l rest ≡ true → sees_any look (front ++ rest) ≡ true
  begins_before g l look budget front rest x h p s =
      all_within_sound (firsts g l) look (front ++ rest) h (fronts_seen parts 2 (part_fronts 2) known.begins g budget front rest x l p s)

  -- or as none of those
  pub begins_apart : {A : Type 0} (g : Rule A) (l look : Look) (budget : ℕ) (front rest : Tokens) (x : A) → all_apart (firsts g l) look ≡ true
      → Parses parts budget g front x → sees_any l rest ≡ true → sees_any look (front ++ rest) ≡ false
  begins_apart g l look budget front rest x h p s =
      all_apart_sound (firsts g l) look (front ++ rest) h (fronts_seen parts 2 (part_fronts 2) known.begins g budget front rest x l p s)

  -- what the rule reads begins as one of those
  pub begins : {A : Type 0} (g : Rule A) (look : Look) (budget : ℕ) (front rest : Tokens) (x : A) → all_within (firsts g anything) look ≡ true
      → Parses parts budget g front x → sees_any look (front ++ rest) ≡ true
  begins g look budget front rest x h p = begins_before g anything look budget front rest x h p (anything_seen rest)

  -- or as none of those
  pub begins_not : {A : Type 0} (g : Rule A) (look : Look) (budget : ℕ) (front rest : Tokens) (x : A) → all_apart (firsts g anything) look ≡ true
      → Parses parts budget g front x → sees_any look (front ++ rest) ≡ false
  begins_not g look budget front rest x h p = begins_apart g anything look budget front rest x h p (anything_seen rest)

  -- what the rule reads isn't empty
  pub not_empty : {A : Type 0} (g : Rule A) (budget : ℕ) → is_filled 2 (part_fronts 2) g ≡ true → (x : A) → Parses parts budget g [] x → ⊥
  not_empty g budget h x p = filled 2 (part_fronts 2) readers parts limit known.reads known.begins g budget h x p

  -- ---- rules of which a part decides

  -- one of two, which begin apart
  pub again_choice : {A : Type 0} {look : Look} {g h : Rule A} {F : Behind A} (budget : ℕ) → all_within (firsts g anything) look ≡ true → all_apart (firsts h anything) look ≡ true
      → Again readers parts budget g F → Again readers parts budget h F → Again readers parts budget (either look g h) F
  again_choice {look = look} {g = g} {h = h} budget first second ag ah = again_either readers parts budget ag ah
      (λ front rest x p f. begins g look budget front rest x first p)
      (λ front rest x p f. begins_not h look budget front rest x second p)

  -- one of two, which begin apart before these
  pub again_choice_before : {A : Type 0} {look : Look} {g h : Rule A} (l : Look) (budget : ℕ) → all_within (firsts g l) look ≡ true → all_apart (firsts h l) look ≡ true
      → Again readers parts budget g (Seen l) → Again readers parts budget h (Seen l) → Again readers parts budget (either look g h) (Seen l)
  again_choice_before {look = look} {g = g} {h = h} l budget first second ag ah = again_either readers parts budget ag ah
      (λ front rest x p s. begins_before g l look budget front rest x first p s)
      (λ front rest x p s. begins_apart h l look budget front rest x second p s)

  -- a rule that decides, and then another
  pub again_then : (direct : Bool) {A B : Type 0} {g : Rule A} {h : Rule B} {H : Behind B} (budget : ℕ) → Room limit direct budget
      → decides 2 (part_fronts 2) direct g (firsts h anything) ≡ true → Again readers parts budget h H → Again readers parts budget (both g h) (λ p. H p.1)
  again_then direct {g = g} {h = h} budget room first ah = again_both readers parts budget (looked direct g (firsts h anything) budget room first) ah
      (λ front rest x y p f. (fronts_seen parts 2 (part_fronts 2) known.begins h budget front rest y anything p (anything_seen rest), f))

  -- a rule that decides, and then another, with the value of the other
  pub again_skip : (direct : Bool) {A B : Type 0} {g : Rule A} {h : Rule B} {H : Behind B} (budget : ℕ) → Room limit direct budget
      → decides 2 (part_fronts 2) direct g (firsts h anything) ≡ true → Again readers parts budget h H → Again readers parts budget (skipping g h) H
  again_skip direct budget room first ah = again_made readers parts budget (again_then direct budget room first ah)

  -- a rule that decides, and then another, before these beginnings
  pub again_then_before : (direct : Bool) {A B : Type 0} {g : Rule A} {h : Rule B} (l : Look) (budget : ℕ) → Room limit direct budget
      → decides 2 (part_fronts 2) direct g (firsts h l) ≡ true → Again readers parts budget h (Seen l) → Again readers parts budget (both g h) (Seen l)
  again_then_before direct {g = g} {h = h} l budget room first ah = again_both readers parts budget (looked direct g (firsts h l) budget room first) ah
      (λ front rest x y p s. (fronts_seen parts 2 (part_fronts 2) known.begins h budget front rest y l p s, s))

  -- a rule, and then another that decides
  pub again_before : (direct : Bool) {A B : Type 0} {g : Rule A} {h : Rule B} {G : Behind A} (l : Look) (budget : ℕ) → Room limit direct budget
      → decides 2 (part_fronts 2) direct h l ≡ true → Again readers parts budget g G
      → ((x : A) (rest : Tokens) → sees_any (firsts h l) rest ≡ true → G x rest) → Again readers parts budget (both g h) (Seen l)
  again_before direct {h = h} l budget room second ag goes = again_both readers parts budget ag (looked direct h l budget room second)
      (λ front rest x y p s. (goes x (front ++ rest) (fronts_seen parts 2 (part_fronts 2) known.begins h budget front rest y l p s), s))
