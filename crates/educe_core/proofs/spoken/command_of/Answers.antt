use Rattle.std.proofs.Common.{◌≡◌, ◌≢◌, [], ◌∷◌, map, string_bytes, length, sym, ap, subst, ◌∙◌, arith}
use Rattle.std.proofs.lemmas.List.{length-map}
use Rattle.educe_core.specs.Spoken.{IsSpokenBy}
use Rattle.educe_core.proofs.Single.{only_one, only_two, too_few_or_many}
use Rattle.educe_core.proofs.spoken.command_of.Goals as goal

pub returns-in-len1 : goal.returns-in-len1
returns-in-len1 c =
    let one : c.args.words.now ≡ c.word-item.result ∷ [] = only_one c.args.words.now c.word-item.result (omega (arith, c.in-len1.len_at_least, c.in-len1.len_below)) c.word-item.is in
    let all : map string_bytes c.args.words.now ≡ c.as_str.result.now ∷ [] = ap (map string_bytes) one ∙ ap (λ w. w ∷ []) (sym c.as_str.ensures.value) in
    subst (λ ws. IsSpokenBy ws c.command_of_one.result) (sym all) c.command_of_one.ensures

pub returns-in-len2 : goal.returns-in-len2
returns-in-len2 c =
    let word = c.word-item-then-words-lt3.result in
    let number = c.number-item.result in
    let two : c.args.words.now ≡ word ∷ number ∷ [] =
    only_two c.args.words.now word number (omega (arith, c.in-len2.len_at_least, c.in-len2.len_below)) c.word-item-then-words-lt3.is c.number-item.is in
    let all : map string_bytes c.args.words.now ≡ c.as_str-in-len2.result.now ∷ c.as_str-in-len2-2.result.now ∷ [] =
    ap (map string_bytes) two ∙ ap (λ w. w ∷ string_bytes number ∷ []) (sym c.as_str-in-len2.ensures.value) ∙ ap (λ n. c.as_str-in-len2.result.now ∷ n ∷ []) (sym c.as_str-in-len2-2.ensures.value) in
    subst (λ ws. IsSpokenBy ws c.command_of_two.result) (sym all) c.command_of_two.ensures

pub returns-in_default : goal.returns-in_default
returns-in_default c = λ command is.
    too_few_or_many _ command (λ one. omega (arith, c.in_default.len_below, length-map c.args.words.now string_bytes)) (λ two. omega (arith, c.in_default.len_below, length-map c.args.words.now string_bytes)) is
