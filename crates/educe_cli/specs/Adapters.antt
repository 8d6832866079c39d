-- What an adapter says of the bytes of its reader or writer.
use Rattle.std.specs.Prelude.{◌≡◌, ℕ, ◌-◌, List, length, take, Option, None, option_map}

-- Where the bytes of this value are not modelled, those of no value of its type are.
abbrev pub IsSteady : {T : Type 0} → (T → Option (List ℕ)) → T → Type 0
IsSteady {T} told value = told value ≡ None → (other : T) → told other ≡ None

-- The bytes without the last ones, of which there are so many.
abbrev pub all_but : ℕ → Option (List ℕ) → Option (List ℕ)
all_but count told = option_map (λ bytes. take (length bytes - count) bytes) told
