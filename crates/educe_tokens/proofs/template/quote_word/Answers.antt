use Rattle.std.proofs.Common.{◌∙◌, sym, ap, subst, true, false, OnOk, chars, List, ℕ, IsTrue, [], ◌∷◌, get_or, ◌&&◌}
use Rattle.std.specs.Prelude.{slice_range}
use Rattle.std.proofs.lemmas.Result.{on_ok_weaker}
use Rattle.educe_tokens_pieces.specs.declared.kind.TokenKind.{TokenKind}
use Rattle.educe_tokens_pieces.specs.declared.kind.TokenKind.TheVariants.{Punct}
use Rattle.educe_tokens_pieces.specs.Chars.{is_punct, is_only}
use Rattle.educe_tokens_pieces.specs.Pieces.{spells}
use Rattle.educe_tokens.specs.Lexes.{Lexeme}
use Rattle.educe_tokens.specs.Appends.{Appends}
use Rattle.educe_tokens.proofs.Appending.{Appends-append}
use Rattle.educe_tokens.proofs.Quoting.{named, marked, paired}
use Rattle.educe_tokens.proofs.template.quote_word.Goals as goal

pub push_text-requires : goal.push_text-requires
push_text-requires c =
    (named _ _ c.as_bytes.ensures.value c.requires c.in-len1-up.len_at_least (sym c.is_name_start.ensures ∙ c.if-is_name_start.true)).spelled

pub push_text-requires-in-len1 : goal.push_text-requires-in-len1
push_text-requires-in-len1 c =
    let word = marked _ _ c.as_bytes.ensures.value c.requires c.in-len1.len_at_least c.in-len1.len_below (sym c.is_name_start.ensures ∙ c.if-is_name_start.false) in
    let Spells : TokenKind → Type 0 = λ kind. IsTrue (spells kind (chars c.args.word.now)) in
    subst Spells (sym c.mark_kind.ensures) word.spelled

pub push_text-requires-in-len2 : goal.push_text-requires-in-len2
push_text-requires-in-len2 c =
    let word = paired _ _ c.as_bytes.ensures.value c.requires c.in-len2.len_at_least c.in-len2.len_below (sym c.is_name_start.ensures ∙ c.if-is_name_start.false) in
    let first = get_or c.as_bytes.result.now 0 0 in
    let Spells : List ℕ → Type 0 = λ text. IsTrue (is_punct first && is_only first (chars text)) in
    subst Spells (sym c.range.ensures.value) word.front

pub push_text-requires-in-len2-2 : goal.push_text-requires-in-len2-2
push_text-requires-in-len2-2 c =
    let word = paired _ _ c.as_bytes.ensures.value c.requires c.in-len2.len_at_least c.in-len2.len_below (sym c.is_name_start.ensures ∙ c.if-is_name_start.false) in
    let second = get_or c.as_bytes.result.now 1 0 in
    let Spells : List ℕ → Type 0 = λ text. IsTrue (is_punct second && is_only second (chars text)) in
    subst Spells (sym c.range_from.ensures.value) word.back

pub returns-in-len1-up-clause-ok : goal.returns-in-len1-up-clause-ok
returns-in-len1-up-clause-ok c =
    let word = named _ _ c.as_bytes.ensures.value c.requires c.in-len1-up.len_at_least (sym c.is_name_start.ensures ∙ c.if-is_name_start.true) in
    let Grows : List Lexeme → Type 0 = λ found. OnOk c.push_text.result (Appends found c.args.tokens.now c.push_text.new.tokens) in
    subst Grows (sym word.same) c.push_text.ensures.ok

pub returns-in-len1-clause-ok : goal.returns-in-len1-clause-ok
returns-in-len1-clause-ok c =
    let word = marked _ _ c.as_bytes.ensures.value c.requires c.in-len1.len_at_least c.in-len1.len_below (sym c.is_name_start.ensures ∙ c.if-is_name_start.false) in
    let Grows : List Lexeme → Type 0 = λ found. OnOk c.push_text-in-len1.result (Appends found c.args.tokens.now c.push_text-in-len1.new.tokens) in
    subst Grows (ap (λ kind. record { kind = kind; spelling = chars c.args.word.now } ∷ []) c.mark_kind.ensures ∙ sym word.same) c.push_text-in-len1.ensures.ok

pub returns-in_ok-push_text-in-len2-clause-ok :
    goal.returns-in_ok-push_text-in-len2-clause-ok
returns-in_ok-push_text-in-len2-clause-ok c =
    let word = paired _ _ c.as_bytes.ensures.value c.requires c.in-len2.len_at_least c.in-len2.len_below (sym c.is_name_start.ensures ∙ c.if-is_name_start.false) in
    let Grows : List Lexeme → Type 0 = λ found. OnOk c.push_text-in-len2-2.result (Appends found c.args.tokens.now c.push_text-in-len2-2.new.tokens) in
    let first = get_or c.as_bytes.result.now 0 0 in
    let second = get_or c.as_bytes.result.now 1 0 in
    let lexemes : List ℕ → List ℕ → List Lexeme = λ front back. record { kind = Punct first true; spelling = chars front } ∷ record { kind = Punct second false; spelling = chars back } ∷ [] in
    let same = ap (λ front. lexemes front c.range_from.result.now) c.range.ensures.value ∙ ap (λ back. lexemes (slice_range c.args.word.now 0 1) back) c.range_from.ensures.value ∙ sym word.same in
    subst Grows same (on_ok_weaker _ (λ back. Appends-append c.in_ok-push_text-in-len2.ensures.ok back) c.push_text-in-len2-2.ensures.ok)
