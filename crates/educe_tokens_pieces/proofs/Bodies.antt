-- What ends as a literal between quotes is its parts and the mark at the end, and gives their value.
use Rattle.std.proofs.Common.{◌≡◌, ℕ, ◌+◌, ◌*◌, ◌≤◌, Bool, true, false, cond, ◌&&◌, ◌||◌, not, List, [], ◌∷◌, ◌++◌, length, refl, sym, ap, ◌∙◌, subst, ⊎_elim, arith, append_assoc}
use Rattle.std.specs.Prelude.{◌==◌, nat_le}
use Rattle.std.specs.Char.{digit_value}
use Rattle.std.specs.List.{list_all, flat_map, filter}
use Rattle.std.proofs.lemmas.Bool.{false≢true, cond_both, and_parts, and_from, or_cases, or_left, or_right, not-true, not_from_false, ltb-true, le-leb, eqb-true, eq-eqb, cond-true, cond-false}
use Rattle.educe_tokens_pieces.specs.declared.quotes.Quote.{Quote}
use Rattle.educe_tokens_pieces.specs.declared.quotes.Quote.TheVariants.{Str, ByteStr, CStr, Char, Byte}
use Rattle.educe_tokens_pieces.specs.declared.quotes.Within.{Within}
use Rattle.educe_tokens_pieces.specs.declared.quotes.Within.TheVariants.{Open, Return, High, Low, Brace, Code, Close}
use Rattle.educe_tokens_pieces.specs.declared.quotes.Within.TheVariants as places
use Rattle.educe_tokens_pieces.specs.declared.quotes.Next.TheVariants.{Go, End, Stop}
use Rattle.educe_tokens_pieces.specs.Chars.{begins, is_empty}
use Rattle.educe_tokens_pieces.specs.Quotes.{Part, Plain, Escape, Hex, Unicode, Break, ReturnBreak, spelled, closing, is_single, is_bytes, top_digit, is_hex, is_scalar, is_code, is_plain, may_hold, has_count, IsBody, is_break, is_space, part_value, values, value_of}
use Rattle.educe_tokens_pieces.specs.Machine.{behind_part, is_space_character, open_step, step, gives, ends, given}
use Rattle.educe_tokens_pieces.proofs.Classes.{at_equal}
use Rattle.educe_tokens_pieces.proofs.Ends.{rest_ends}
use Rattle.educe_tokens_pieces.proofs.Steps.{open_cases, escape_cases, code_cases}
use Rattle.educe_tokens_pieces.proofs.Parts.{rest_given, Reads, one, value_from, value-digit, value-mark, count-digit, count-mark, after, part_reads}
use Rattle.educe_tokens_pieces.proofs.Lists.{nil_from_empty}

-- the text ends there as a literal, and gives this
abbrev pub Accepts : Within → List ℕ → List ℕ → Type 0
Accepts w s v = (ends w s ≡ true) × (given w s ≡ v)

-- a front that is read, before what is accepted
accepts_more : (w m : Within) (s v t u : List ℕ) → Reads w s v m t → Accepts m t u → Accepts w s (v ++ u)
accepts_more w m s v t u a b = (a.to_end ∙ b.0, a.value ∙ ap (λ x. v ++ x) b.1)

-- the mark at the end, alone
accepts_end : (w : Within) (c : ℕ) → step w c ≡ End → Accepts w (c ∷ []) []
accepts_end w c e = (ap (λ x. rest_ends x []) e, ap (λ x. rest_given (gives w c) x []) e)

-- the mark at the end ends a literal of any number of parts
open_ends : (q : Quote) → is_single q ≡ false → open_step q (closing q) ≡ End
open_ends Str e = refl
open_ends ByteStr e = refl
open_ends CStr e = refl
open_ends Char e = absurd (false≢true (sym e))
open_ends Byte e = absurd (false≢true (sym e))

-- it is no space
closing_no_space : (q : Quote) → is_space_character (closing q) ≡ false
closing_no_space Str = refl
closing_no_space ByteStr = refl
closing_no_space CStr = refl
closing_no_space Char = refl
closing_no_space Byte = refl

-- before a part: whether a `\` at the end of a line is all that stands before it, but for spaces
abbrev before : Bool → Quote → Within
before behind_break q = cond behind_break (places.Break q) (Open q)

-- the closing quote ends a string from either state before a part
before_ends : (q : Quote) (b : Bool) → is_single q ≡ false → step (before b q) (closing q) ≡ End
before_ends q true e = cond-false (is_space_character (closing q)) (Go (places.Break q)) (open_step q (closing q)) (closing_no_space q) ∙ open_ends q e
before_ends q false e = open_ends q e

-- a space behind a `\` at the end of a line gives nothing
space_reads : (q : Quote) (p : Part) (cs : List ℕ) → is_space p ≡ true → Reads (places.Break q) (spelled p ++ cs) [] (places.Break q) cs
space_reads q (Plain c) cs h =
    one (places.Break q) (places.Break q) c [] cs (cond-true (is_space_character c) (Go (places.Break q)) (open_step q c) h)
    (cond-true (is_space_character c || ((c == closing q) || (c == 92))) [] (c ∷ []) (or_left _ _ h))
space_reads q (Escape c) cs h = absurd (false≢true h)
space_reads q (Hex high low) cs h = absurd (false≢true h)
space_reads q (Unicode digits) cs h = absurd (false≢true h)
space_reads q Break cs h = absurd (false≢true h)
space_reads q ReturnBreak cs h = absurd (false≢true h)

-- any other part is read as ever
break_as_open : (q : Quote) (p : Part) (cs v : List ℕ) → is_space p ≡ false → Accepts (Open q) (spelled p ++ cs) v → Accepts (places.Break q) (spelled p ++ cs) v
break_as_open q (Plain c) cs v h a =
    let same : step (places.Break q) c ≡ open_step q c = cond-false (is_space_character c) (Go (places.Break q)) (open_step q c) h in
    let gift : gives (places.Break q) c ≡ gives (Open q) c = ap (λ b. cond (b || ((c == closing q) || (c == 92))) [] (c ∷ [])) h in
    (ap (λ x. rest_ends x cs) same ∙ a.0, (λ i. rest_given (gift i) (same i) cs) ∙ a.1)
break_as_open q (Escape c) cs v h a = a
break_as_open q (Hex high low) cs v h a = a
break_as_open q (Unicode digits) cs v h a = a
break_as_open q Break cs v h a = a
break_as_open q ReturnBreak cs v h a = a

-- any number of parts
parts_accepted : (q : Quote) → is_single q ≡ false → (ps : List Part) (b : Bool) → list_all (may_hold q) ps ≡ true → Accepts (before b q) (flat_map spelled ps ++ closing q ∷ []) (values b ps)
parts_accepted q e [] b h = accepts_end (before b q) (closing q) (before_ends q b e)
parts_accepted q e (p ∷ ps) b h =
    let each = and_parts (may_hold q p) _ h in
    let rest : List ℕ = flat_map spelled ps ++ closing q ∷ [] in
    let whole : (spelled p ++ flat_map spelled ps) ++ closing q ∷ [] ≡ spelled p ++ rest = append_assoc (spelled p) (flat_map spelled ps) (closing q ∷ []) in
    let place : after q p ≡ before (is_break p) q = ap (λ w. cond (is_break p) (places.Break q) w) (cond-false (is_single q) (Close q) (Open q) e) in
    let later : Accepts (after q p) rest (values (is_break p) ps) = subst (λ w. Accepts w rest (values (is_break p) ps)) (sym place) (parts_accepted q e ps (is_break p) each.1) in
    let here : Accepts (Open q) (spelled p ++ rest) (part_value p ++ values (is_break p) ps) = accepts_more (Open q) (after q p) (spelled p ++ rest) (part_value p) rest (values (is_break p) ps) (part_reads q p rest each.0) later in
    subst (λ t. Accepts (before b q) t (values b (p ∷ ps))) (sym whole)
    (elim b as (λ x. Accepts (before x q) (spelled p ++ rest) (values x (p ∷ ps))) [
      | false ↦ here
      | true ↦ cond_both (is_space p) (values true ps) (part_value p ++ values (is_break p) ps) (λ v. Accepts (places.Break q) (spelled p ++ rest) v)
          (λ s. accepts_more (places.Break q) (places.Break q) (spelled p ++ rest) [] rest (values true ps) (space_reads q p rest s) (parts_accepted q e ps true each.1))
          (λ s. break_as_open q p rest (part_value p ++ values (is_break p) ps) s here)
    ])

-- a single character or byte holds no end of a line
single_no_break : (q : Quote) (p : Part) → is_single q ≡ true → may_hold q p ≡ true → is_break p ≡ false
single_no_break q (Plain c) e h = refl
single_no_break q (Escape c) e h = refl
single_no_break q (Hex high low) e h = refl
single_no_break q (Unicode digits) e h = refl
single_no_break q Break e h = absurd (false≢true (sym (not-true _ h) ∙ e))
single_no_break q ReturnBreak e h = absurd (false≢true (sym (not-true _ h) ∙ e))

-- one part
single_accepted : (q : Quote) → is_single q ≡ true → (ps : List Part) → list_all (may_hold q) ps ≡ true → (length ps == 1) ≡ true → Accepts (Open q) (flat_map spelled ps ++ closing q ∷ []) (value_of ps)
single_accepted q e [] h count = absurd (false≢true count)
single_accepted q e (p ∷ []) h count =
    let holds = (and_parts (may_hold q p) _ h).0 in
    let whole : (spelled p ++ []) ++ closing q ∷ [] ≡ spelled p ++ closing q ∷ [] = append_assoc (spelled p) [] (closing q ∷ []) in
    let no_break = single_no_break q p e holds in
    let place : after q p ≡ Close q = cond-false (is_break p) (places.Break q) (behind_part q) no_break ∙ cond-true (is_single q) (Close q) (Open q) e in
    let last : Accepts (Close q) (closing q ∷ []) [] = accepts_end (Close q) (closing q) (cond-true (closing q == closing q) End Stop (eq-eqb (closing q) (closing q) refl)) in
    subst (λ t. Accepts (Open q) t (part_value p ++ [])) (sym whole)
    (accepts_more (Open q) (after q p) (spelled p ++ closing q ∷ []) (part_value p) (closing q ∷ []) [] (part_reads q p (closing q ∷ []) holds)
    (subst (λ w. Accepts w (closing q ∷ []) []) (sym place) last))
single_accepted q e (p ∷ r ∷ ps) h count = let two = eqb-true _ 1 count in absurd (omega (arith, two))

-- what consists of parts ends as a literal, and gives their value
pub body_ends : (q : Quote) (text : List ℕ) (parts : List Part) → IsBody q text parts → (ends (Open q) text ≡ true) × (given (Open q) text ≡ value_of parts)
body_ends q text parts b =
    let Goal : List ℕ → Type 0 = λ t. Accepts (Open q) t (value_of parts) in
    subst Goal (sym b.is)
    (cond_both (is_single q) true false (λ _. Goal (flat_map spelled parts ++ closing q ∷ []))
    (λ e. single_accepted q e parts b.hold (ap (λ x. not x || (length parts == 1)) (sym e) ∙ b.count))
    (λ e. parts_accepted q e parts false b.hold))

-- a text has one value only
pub one_value : (q : Quote) (text : List ℕ) (a b : List Part) → IsBody q text a → IsBody q text b → value_of a ≡ value_of b
one_value q text a b x y = sym (body_ends q text a x).1 ∙ (body_ends q text b y).1

-- the text is some parts and the mark at the end
abbrev Body : Quote → List ℕ → Type 0
Body q text = (parts : List Part) × IsBody q text parts

-- parts up to the closing quote, where a single character or byte already has its part
record Rest (q : Quote) (text : List ℕ) : Type 0 where
  pub parts : List Part
  pub hold : list_all (may_hold q) parts ≡ true
  pub done : is_single q ≡ true → parts ≡ []
  pub is : text ≡ flat_map spelled parts ++ closing q ∷ []

-- a part before the rest
add : (q : Quote) (p : Part) (cs : List ℕ) → may_hold q p ≡ true → Rest q cs → Body q (spelled p ++ cs)
add q p cs h r = (
  p ∷ r.parts,
  record {
    hold = and_from _ _ h r.hold;
    count = cond_both (is_single q) true false (λ _. has_count q (p ∷ r.parts) ≡ true)
        (λ e. or_right (not (is_single q)) _ (ap (λ ps. length (p ∷ ps) == 1) (r.done e)))
        (λ e. or_left (not (is_single q)) _ (not_from_false _ e));
    is = ap (λ t. spelled p ++ t) r.is ∙ sym (append_assoc (spelled p) (flat_map spelled r.parts) (closing q ∷ []));
  },
)

-- a literal of any number of parts goes on with such a one
rest_from_body : (q : Quote) (text : List ℕ) → is_single q ≡ false → Body q text → Rest q text
rest_from_body q text e b = record { parts = b.0; hold = b.1.hold; done = λ s. absurd (false≢true (sym e ∙ s)); is = b.1.is }

-- of digits and `_`, and the brace behind them: what stands behind n digits of the value v
record Digits (q : Quote) (n v : ℕ) (text : List ℕ) : Type 0 where
  pub digits : List ℕ
  pub behind : List ℕ
  pub is : text ≡ digits ++ 125 ∷ behind
  pub marks : list_all (λ c. is_hex c || (c == 95)) digits ≡ true
  pub few : n ≤ 6 → n + length (filter is_hex digits) ≤ 6
  pub first : n ≡ 0 → begins is_hex digits ≡ true
  pub scalar : is_scalar (value_from v digits) ≡ true
  pub rest : Rest q behind

-- what the text ahead is in each state, with what stands behind
abbrev Ahead : Within → List ℕ → Type 0
Ahead (Open q) cs = Body q cs
Ahead (places.Break q) cs = is_single q ≡ false → Rest q cs
Ahead (places.Escape q) cs = Body q (92 ∷ cs)
Ahead (Return q) cs = is_single q ≡ false → Body q (92 ∷ 13 ∷ cs)
Ahead (High q) cs = Body q (92 ∷ 120 ∷ cs)
Ahead (Low q v) cs = (h : ℕ) → (is_hex h && nat_le (digit_value h) (top_digit q)) ≡ true → Body q (92 ∷ 120 ∷ h ∷ cs)
Ahead (Brace q) cs = not (is_bytes q) ≡ true → Body q (92 ∷ 117 ∷ cs)
Ahead (Code q n v) cs = Digits q n v cs
Ahead (Close q) cs = is_single q ≡ true → Rest q cs

-- the text ahead of every state in which it ends the literal
abbrev AllAhead : List ℕ → Type 0
AllAhead cs = (w : Within) → ends w cs ≡ true → Ahead w cs

-- behind a part
rest_ahead : (q : Quote) (cs : List ℕ) → AllAhead cs → ends (behind_part q) cs ≡ true → Rest q cs
rest_ahead q cs ih =
    cond_both (is_single q) (Close q) (Open q) (λ w. ends w cs ≡ true → Rest q cs)
    (λ e k. ih (Close q) k e) (λ e k. rest_from_body q cs e (ih (Open q) k))

-- the mark at the end alone
only_closing : (q : Quote) (c : ℕ) (cs : List ℕ) → (c == closing q) ≡ true → is_empty cs ≡ true → c ∷ cs ≡ closing q ∷ []
only_closing q c cs e k = λ i. eqb-true c (closing q) e i ∷ nil_from_empty cs k i

-- before a part
open_ahead : (q : Quote) (c : ℕ) (cs : List ℕ) → AllAhead cs → rest_ends (open_step q c) cs ≡ true → Body q (c ∷ cs)
open_ahead q c cs ih =
    open_cases (λ x. rest_ends x cs ≡ true → Body q (c ∷ cs)) q c
    (λ e f k. ([], record { hold = refl; count = or_left (not (is_single q)) _ f; is = only_closing q c cs e k }))
    (λ e k. at_equal (λ x. Body q (x ∷ cs)) c 92 (ih (places.Escape q) k) e)
    (λ e k. add q (Plain c) cs e (rest_ahead q cs ih k))
    (λ k. absurd (false≢true k))

-- a fact at each of the four spaces
at_space : (P : ℕ → Type 0) (c : ℕ) → is_space_character c ≡ true → P 32 → P 9 → P 10 → P 13 → P c
at_space P c h space tab feed return =
    ⊎_elim (λ h. ⊎_elim (λ h. ⊎_elim (at_equal P c 32 space) (at_equal P c 9 tab) (or_cases _ _ h)) (at_equal P c 10 feed) (or_cases _ _ h)) (at_equal P c 13 return) (or_cases _ _ h)

-- a space stands for itself in a literal of any number of parts
space_plain : (q : Quote) (c : ℕ) → is_single q ≡ false → is_space_character c ≡ true → is_plain q c ≡ true
space_plain Str c e h = at_space (λ x. is_plain Str x ≡ true) c h refl refl refl refl
space_plain ByteStr c e h = at_space (λ x. is_plain ByteStr x ≡ true) c h refl refl refl refl
space_plain CStr c e h = at_space (λ x. is_plain CStr x ≡ true) c h refl refl refl refl
space_plain Char c e h = absurd (false≢true (sym e))
space_plain Byte c e h = absurd (false≢true (sym e))

-- behind a `\` at the end of a line
break_ahead : (q : Quote) (c : ℕ) (cs : List ℕ) → AllAhead cs → rest_ends (step (places.Break q) c) cs ≡ true → is_single q ≡ false → Rest q (c ∷ cs)
break_ahead q c cs ih =
    cond_both (is_space_character c) (Go (places.Break q)) (open_step q c) (λ x. rest_ends x cs ≡ true → is_single q ≡ false → Rest q (c ∷ cs))
    (λ h k e. rest_from_body q (c ∷ cs) e (add q (Plain c) cs (space_plain q c e h) (ih (places.Break q) k e)))
    (λ h k e. rest_from_body q (c ∷ cs) e (open_ahead q c cs ih k))

-- behind a `\`
escape_ahead : (q : Quote) (c : ℕ) (cs : List ℕ) → AllAhead cs → rest_ends (step (places.Escape q) c) cs ≡ true → Body q (92 ∷ c ∷ cs)
escape_ahead q c cs ih =
    escape_cases (λ x. rest_ends x cs ≡ true → Body q (92 ∷ c ∷ cs)) q c
    (λ e k. add q (Escape c) cs e (rest_ahead q cs ih k))
    (λ e k. at_equal (λ x. Body q (92 ∷ x ∷ cs)) c 120 (ih (High q) k) e)
    (λ e text k. at_equal (λ x. Body q (92 ∷ x ∷ cs)) c 117 (ih (Brace q) k text) e)
    (λ e many k. at_equal (λ x. Body q (92 ∷ x ∷ cs)) c 10 (add q Break cs many (ih (places.Break q) k (not-true _ many))) e)
    (λ e many k. at_equal (λ x. Body q (92 ∷ x ∷ cs)) c 13 (ih (Return q) k (not-true _ many)) e)
    (λ k. absurd (false≢true k))

-- behind `\u{` and digits
code_ahead : (q : Quote) (n v c : ℕ) (cs : List ℕ) → AllAhead cs → rest_ends (step (Code q n v) c) cs ≡ true → Digits q n v (c ∷ cs)
code_ahead q n v c cs ih =
    code_cases (λ x. rest_ends x cs ≡ true → Digits q n v (c ∷ cs)) q n v c
    (λ e some scalar k. let more = ltb-true 0 n some in record {
      digits = [];
      behind = cs;
      is = ap (λ x. x ∷ cs) (eqb-true c 125 e);
      marks = refl;
      few = λ h. omega arith;
      first = λ z. absurd (omega (arith, z, more));
      scalar = scalar;
      rest = rest_ahead q cs ih k;
    })
    (λ e some k. let more = ltb-true 0 n some in let d : Digits q n v cs = ih (Code q n v) k in record {
      digits = c ∷ d.digits;
      behind = d.behind;
      is = ap (λ t. c ∷ t) d.is;
      marks = and_from _ _ (or_right _ _ e) d.marks;
      few = λ h. omega (arith, count-mark c d.digits e, d.few h);
      first = λ z. absurd (omega (arith, z, more));
      scalar = ap is_scalar (value-mark v c d.digits e) ∙ d.scalar;
      rest = d.rest;
    })
    (λ e some k. let more = ltb-true n 6 some in let d : Digits q (n + 1) (v * 16 + digit_value c) cs = ih (Code q (n + 1) (v * 16 + digit_value c)) k in record {
      digits = c ∷ d.digits;
      behind = d.behind;
      is = ap (λ t. c ∷ t) d.is;
      marks = and_from _ _ (or_left _ _ e) d.marks;
      few = λ h. omega (arith, count-digit c d.digits e, d.few (omega arith));
      first = λ z. e;
      scalar = ap is_scalar (value-digit v c d.digits e) ∙ d.scalar;
      rest = d.rest;
    })
    (λ k. absurd (false≢true k))

-- digits behind `{`
code_from : (digits : List ℕ) → begins is_hex digits ≡ true → list_all (λ c. is_hex c || (c == 95)) digits ≡ true → length (filter is_hex digits) ≤ 6 → is_code digits ≡ true
code_from [] first marks few = absurd (false≢true first)
code_from (d ∷ ds) first marks few = and_from _ _ first (and_from _ _ (and_parts (is_hex d || (d == 95)) _ marks).1 (le-leb _ _ few))

-- behind `\u{`
unicode_ahead : (q : Quote) (cs : List ℕ) → not (is_bytes q) ≡ true → Digits q 0 0 cs → Body q (92 ∷ 117 ∷ 123 ∷ cs)
unicode_ahead q cs text d =
    let few = d.few (omega arith) in
    let code = code_from d.digits (d.first refl) d.marks (omega (arith, few)) in
    let whole : (d.digits ++ 125 ∷ []) ++ d.behind ≡ cs = append_assoc d.digits (125 ∷ []) d.behind ∙ sym d.is in
    subst (λ t. Body q (92 ∷ 117 ∷ 123 ∷ t)) whole (add q (Unicode d.digits) d.behind (and_from _ _ text (and_from _ _ code d.scalar)) d.rest)

-- what ends as a literal is what the place says
ahead : (cs : List ℕ) → AllAhead cs
ahead [] w h = absurd (false≢true h)
ahead (c ∷ cs) (Open q) h = open_ahead q c cs (ahead cs) h
ahead (c ∷ cs) (places.Break q) h = break_ahead q c cs (ahead cs) h
ahead (c ∷ cs) (places.Escape q) h = escape_ahead q c cs (ahead cs) h
ahead (c ∷ cs) (Return q) h =
    cond_both (c == 10) (Go (places.Break q)) Stop (λ x. rest_ends x cs ≡ true → Ahead (Return q) (c ∷ cs))
    (λ e k. λ many. at_equal (λ x. Body q (92 ∷ 13 ∷ x ∷ cs)) c 10 (add q ReturnBreak cs (not_from_false _ many) (ahead cs (places.Break q) k many)) e)
    (λ e k. absurd (false≢true k)) h
ahead (c ∷ cs) (High q) h =
    cond_both (is_hex c && nat_le (digit_value c) (top_digit q)) (Go (Low q (digit_value c))) Stop (λ x. rest_ends x cs ≡ true → Body q (92 ∷ 120 ∷ c ∷ cs))
    (λ e k. ahead cs (Low q (digit_value c)) k c e) (λ e k. absurd (false≢true k)) h
ahead (c ∷ cs) (Low q v) h =
    cond_both (is_hex c) (Go (behind_part q)) Stop (λ x. rest_ends x cs ≡ true → Ahead (Low q v) (c ∷ cs))
    (λ e k. λ d o. add q (Hex d c) cs (and_from _ _ o e) (rest_ahead q cs (ahead cs) k)) (λ e k. absurd (false≢true k)) h
ahead (c ∷ cs) (Brace q) h =
    cond_both (c == 123) (Go (Code q 0 0)) Stop (λ x. rest_ends x cs ≡ true → Ahead (Brace q) (c ∷ cs))
    (λ e k. λ text. at_equal (λ x. Body q (92 ∷ 117 ∷ x ∷ cs)) c 123 (unicode_ahead q cs text (ahead cs (Code q 0 0) k)) e) (λ e k. absurd (false≢true k)) h
ahead (c ∷ cs) (Code q n v) h = code_ahead q n v c cs (ahead cs) h
ahead (c ∷ cs) (Close q) h =
    cond_both (c == closing q) End Stop (λ x. rest_ends x cs ≡ true → Ahead (Close q) (c ∷ cs))
    (λ e k. λ _. record { parts = []; hold = refl; done = λ _. refl; is = only_closing q c cs e k }) (λ e k. absurd (false≢true k)) h

-- what ends as a literal is some parts and the mark at the end
pub ends_body : (q : Quote) (text : List ℕ) → ends (Open q) text ≡ true → (parts : List Part) × IsBody q text parts
ends_body q text h = ahead text (Open q) h
