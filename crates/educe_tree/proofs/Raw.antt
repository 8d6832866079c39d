-- Names without a leading `r#`.
use Rattle.std.proofs.Common.{◌≡◌, ◌≢◌, ℕ, Bool, true, false, ◌&&◌, ◌==◌, List, [], ◌∷◌, ◌++◌, Option, Some, None, refl, sym, ap, ◌∙◌, arith, chars, codes, IsUtf8, encode_utf8_all, Bor}
use Rattle.std.specs.Prelude.{if◌then◌else◌, MatchOption, unwrap_or}
use Rattle.std.specs.Str.Pattern.{FindsTextPrefix, StripsPrefix}
use Rattle.std.proofs.lemmas.Bool.{and_parts, eqb-true}
use Rattle.std.proofs.lemmas.Str.{chars_past_char, IsUtf8-past_char, encodes-chars, encode_ascii}
use Rattle.educe_tree.specs.Names.{unraw}

-- behind `r#` stands the name
raw_name : (bytes rest text : List ℕ) → IsUtf8 bytes → chars bytes ≡ text → bytes ≡ 114 ∷ 35 ∷ rest → (chars rest ≡ unraw text) × (rest ≡ encode_utf8_all (unraw text))
raw_name bytes rest text utf8 is raw =
    let first = raw ∙ sym (ap (λ c. c ++ 35 ∷ rest) (encode_ascii 114 (omega arith))) in
    let second = sym (ap (λ c. c ++ rest) (encode_ascii 35 (omega arith))) in
    let utf8_behind : IsUtf8 (35 ∷ rest) = IsUtf8-past_char bytes (35 ∷ rest) 114 utf8 first in
    let utf8_rest : IsUtf8 rest = IsUtf8-past_char (35 ∷ rest) rest 35 utf8_behind second in
    let spelled : text ≡ 114 ∷ 35 ∷ chars rest =
    sym is ∙ chars_past_char bytes (35 ∷ rest) 114 utf8 first ∙ ap (λ cs. 114 ∷ cs) (chars_past_char (35 ∷ rest) rest 35 utf8_behind second) in
    let same : chars rest ≡ unraw text = sym (ap unraw spelled) in
    (same, sym (encodes-chars rest utf8_rest) ∙ ap encode_utf8_all same)

-- where no `r#` stands the text is the name
plain_name : (bytes text : List ℕ) → bytes ≡ encode_utf8_all text → ((rest : List ℕ) → bytes ≢ 114 ∷ 35 ∷ rest) → unraw text ≡ text
plain_name bytes [] encoded plain = refl
plain_name bytes (c ∷ []) encoded plain = refl
plain_name bytes (c ∷ d ∷ cs) encoded plain = chosen ((c == 114) && (d == 35)) refl
  where
    chosen : (raw : Bool) → ((c == 114) && (d == 35)) ≡ raw → (if raw then cs else c ∷ d ∷ cs) ≡ c ∷ d ∷ cs
    chosen false is = refl
    chosen true is =
        let first : c ≡ 114 = eqb-true c 114 (and_parts (c == 114) (d == 35) is).0 in
        let second : d ≡ 35 = eqb-true d 35 (and_parts (c == 114) (d == 35) is).1 in
        absurd (plain (encode_utf8_all cs) (
        encoded ∙ (λ i. encode_utf8_all (first i ∷ second i ∷ cs)) ∙ (λ i. encode_ascii 114 (omega arith) i ++ (encode_ascii 35 (omega arith) i ++ encode_utf8_all cs))
        ))

-- what is left behind `r#`, or else the text, is the name
pub stripped : (bytes : Bor (List ℕ)) (text : List ℕ) (found : Option (Bor (List ℕ))) → IsUtf8 bytes.now → chars bytes.now ≡ text → bytes.now ≡ encode_utf8_all text
    → MatchOption found (FindsTextPrefix (codes "r#") bytes.now None) (λ x. StripsPrefix (FindsTextPrefix (codes "r#")) bytes.now x.now)
    → (chars (unwrap_or found bytes).now ≡ unraw text) × ((unwrap_or found bytes).now ≡ encode_utf8_all (unraw text))
stripped bytes text None utf8 is encoded cases =
    let plain = sym (plain_name bytes.now text encoded cases) in
    (is ∙ plain, encoded ∙ ap encode_utf8_all plain)
stripped bytes text (Some name) utf8 is encoded cases =
    raw_name bytes.now name.now text utf8 is (cases.1.1 ∙ ap (λ (rest : List ℕ). 114 ∷ 35 ∷ rest) (sym cases.2))
