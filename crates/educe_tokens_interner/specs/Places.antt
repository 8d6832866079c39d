-- How an interner finds the numbers of its lists: through a map from keys to places.
use Rattle.std.specs.Prelude.{◌≡◌, ℕ, ◌+◌, List, [], ◌∷◌, map, Option, Some, None, cond}
use Rattle.std.specs.Str.{bytes_eq}
use Rattle.std.specs.BTreeMap.{BTreeMap, get}
use Rattle.std.specs.declared.vec.Vec.{Vec}
use Rattle.std.specs.declared.alloc.Global.{Global}
use Rattle.educe_tokens.specs.declared.token.Token.{Token}
use Rattle.educe_tokens_interner.specs.Keys.{tokens_key, key_cmp}

-- The first place of a key in the list, where the first item has this place.
abbrev pub place_from : ℕ → List (List ℕ) → List ℕ → Option ℕ
place_from n [] key = None
place_from n (k ∷ ks) key = cond (bytes_eq k key) (Some n) (place_from (n + 1) ks key)

-- The map has the place of each list at its key, and no others.
abbrev pub Numbers : BTreeMap (Vec ℕ Global) ℕ → List (List Token) → Type 0
Numbers numbers lists = (key : Vec ℕ Global) → get key_cmp numbers key ≡ place_from 0 (map tokens_key lists) key.items
