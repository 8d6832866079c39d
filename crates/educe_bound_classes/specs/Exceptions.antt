-- The types that a trait treats specially (documentation of `educe`, Bounds).
use Rattle.std.specs.Prelude.{ℕ, Bool, true, false, List, [], ◌∷◌, ◌++◌, codes}

-- Names of types, and whether shared references ask for nothing.
pub record Exceptions : Type 0 where
  -- The types for which nothing is asked.
  pub unconditional : List (List ℕ)
  -- The types that forward to their arguments what is asked.
  pub forwarding : List (List ℕ)
  -- Nothing is asked for `&T`, whatever `T` is.
  pub shared_references : Bool

-- The types for which `Clone` and `Copy` ask nothing: their values share or point to what they hold.
abbrev pub sharing : List (List ℕ)
sharing = codes "Arc" ∷ codes "Rc" ∷ codes "Weak" ∷ codes "NonNull" ∷ codes "Cow" ∷ codes "Discriminant" ∷ []

-- The types that forward for `Clone` and `Debug`.
abbrev pub held : List (List ℕ)
held =
    codes "Option" ∷ codes "Result" ∷ codes "Box" ∷ codes "Vec" ∷ codes "VecDeque" ∷ codes "LinkedList" ∷ codes "BTreeMap" ∷ codes "BTreeSet" ∷ codes "BinaryHeap"
    ∷ codes "HashMap" ∷ codes "HashSet" ∷ codes "RefCell" ∷ codes "Wrapping" ∷ codes "Reverse" ∷ codes "Saturating" ∷ []

-- The types that forward for comparisons.
abbrev pub compared : List (List ℕ)
compared =
    codes "Option" ∷ codes "Result" ∷ codes "Box" ∷ codes "Vec" ∷ codes "VecDeque" ∷ codes "LinkedList" ∷ codes "BTreeMap" ∷ codes "BTreeSet"
    ∷ codes "Arc" ∷ codes "Rc" ∷ codes "RefCell" ∷ codes "Wrapping" ∷ codes "Reverse" ∷ codes "Saturating" ∷ []

-- The exceptions of `Clone`.
abbrev pub clone_exceptions : Exceptions
clone_exceptions = record { unconditional = sharing; forwarding = held; shared_references = true }

-- The exceptions of `Copy`.
abbrev pub copy_exceptions : Exceptions
copy_exceptions = record {
  unconditional = sharing;
  forwarding = codes "Option" ∷ codes "Result" ∷ codes "Wrapping" ∷ codes "Reverse" ∷ codes "Saturating" ∷ [];
  shared_references = true;
}

-- The exceptions of `Debug`.
abbrev pub debug_exceptions : Exceptions
debug_exceptions = record {
  unconditional = codes "Weak" ∷ codes "NonNull" ∷ codes "AtomicPtr" ∷ codes "Discriminant" ∷ [];
  forwarding = held ++ codes "Arc" ∷ codes "Rc" ∷ codes "Mutex" ∷ codes "RwLock" ∷ [];
  shared_references = false;
}

-- The exceptions of `PartialEq` and `Eq`.
abbrev pub equality_exceptions : Exceptions
equality_exceptions = record { unconditional = codes "NonNull" ∷ codes "Discriminant" ∷ []; forwarding = compared; shared_references = false }

-- The exceptions of `PartialOrd` and `Ord`.
abbrev pub order_exceptions : Exceptions
order_exceptions = record { unconditional = codes "NonNull" ∷ []; forwarding = compared; shared_references = false }

-- The exceptions of `Hash`.
abbrev pub hash_exceptions : Exceptions
hash_exceptions = record {
  unconditional = codes "NonNull" ∷ codes "Discriminant" ∷ [];
  forwarding =
      codes "Option" ∷ codes "Result" ∷ codes "Box" ∷ codes "Vec" ∷ codes "VecDeque" ∷ codes "LinkedList" ∷ codes "BTreeMap" ∷ codes "BTreeSet"
      ∷ codes "Arc" ∷ codes "Rc" ∷ codes "Wrapping" ∷ codes "Reverse" ∷ codes "Saturating" ∷ [];
  shared_references = false;
}

-- The exceptions of `Default`.
abbrev pub default_exceptions : Exceptions
default_exceptions = record {
  unconditional =
      codes "Option" ∷ codes "Vec" ∷ codes "VecDeque" ∷ codes "LinkedList" ∷ codes "HashMap" ∷ codes "HashSet" ∷ codes "BTreeMap" ∷ codes "BTreeSet" ∷ codes "Weak" ∷ [];
  forwarding =
      codes "Box" ∷ codes "Arc" ∷ codes "Rc" ∷ codes "Cell" ∷ codes "RefCell" ∷ codes "Mutex" ∷ codes "RwLock" ∷ codes "Wrapping" ∷ codes "Reverse" ∷ codes "Saturating" ∷ [];
  shared_references = false;
}
