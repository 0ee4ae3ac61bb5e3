-- The entries of a cut where one of them may stand beside the map. Source: this project's own.
use Rattle.std.specs.Prelude.{◌≡◌, ℕ, List, [], ◌∷◌, Option, Some}
use Rattle.std.specs.Option.{option_map_or}
use Rattle.rato_reduce.specs.private.CutKey.{CutKey, key_of}

-- what `Entries` are: a list of keys with their coefficients
pub record EntryList : Type 0 where
  pub entries : List (CutKey × ℕ)

-- the only entry, if there is one, and else those of the map
abbrev pub only_or : Option (CutKey × ℕ) → List (CutKey × ℕ) → List (CutKey × ℕ)
only_or one entries = option_map_or (λ e. e ∷ []) one entries

abbrev pub entry_list : Option (CutKey × ℕ) → List (CutKey × ℕ) → EntryList
entry_list one entries = record { entries = only_or one entries }

-- of an entry of one bit the bit is another
pub record IsOtherBit (places : List ℕ) (rank by c : ℕ) (old new : Option (CutKey × ℕ)) : Type 0 where
  pub key : CutKey
  pub old_is : old ≡ Some (key, c)
  pub bits : key.bits ≡ rank ∷ []
  pub new_is : new ≡ Some (key_of places (by ∷ []), c)

-- of the only entry, which is of one bit, the bit is another
pub record IsExchanged (places : List ℕ) (rank by c : ℕ) (old new : List (CutKey × ℕ)) : Type 0 where
  pub key : CutKey
  pub old_is : old ≡ (key, c) ∷ []
  pub bits : key.bits ≡ rank ∷ []
  pub new_is : new ≡ (key_of places (by ∷ []), c) ∷ []
