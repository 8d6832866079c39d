-- What a text has behind a push.
use Rattle.std.proofs.Common.{◌≡◌, ℕ, Bool, true, false, cond, List, [], ◌∷◌, ◌++◌, sym, ap, ◌∙◌, append-nil, IsUtf8, chars, arith}
use Rattle.std.proofs.lemmas.Str.{chars-append, chars-IsAscii}
use Rattle.std.proofs.lemmas.Str.Ascii.{IsAscii-nil, IsAscii-cons}
use Rattle.std.specs.Str.{IsAscii}

-- the space is ASCII
ascii_space : IsAscii (32 ∷ [])
ascii_space = IsAscii-cons 32 [] (omega arith) IsAscii-nil

-- behind a token that is not joint, a space is put
pub put_space : (joint : Bool) (old mid : List ℕ) → IsUtf8 old → joint ≡ false → mid ≡ old ++ (32 ∷ []) → chars mid ≡ chars old ++ cond joint [] (32 ∷ [])
put_space joint old mid u off e =
    rw off (ap chars e ∙ chars-append old (32 ∷ []) u ∙ ap (λ cs. chars old ++ cs) (chars-IsAscii (32 ∷ []) ascii_space))

-- behind a joint token, nothing is put
pub put_nothing : (joint : Bool) (old mid : List ℕ) → joint ≡ true → mid ≡ old → chars mid ≡ chars old ++ cond joint [] (32 ∷ [])
put_nothing joint old mid on e = rw on (ap chars e ∙ sym (append-nil (chars old)))

-- then the spelling is put
pub put_text : (mid new s spelling front : List ℕ) → IsUtf8 mid → new ≡ mid ++ s → chars s ≡ spelling → chars mid ≡ front → chars new ≡ front ++ spelling
put_text mid new s spelling front u e h f = ap chars e ∙ chars-append mid s u ∙ (λ i. f i ++ h i)
