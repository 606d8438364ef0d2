-- Slices of records converted (document 02, No. 8), as relations, over any conversion of one record: Goes says which record one goes to, and
-- `size` and `other` how many bytes both have. `Rattle.records.proofs.Agreement` joins them to the computation. Assumes nothing.
use Rattle.std.specs.Prelude.{◌≡◌, List, [], ◌++◌, ℕ, zero, suc, ◌*◌, ◌≤◌, ◌<◌, length}

-- what a conversion answers: "all records convert", to these bytes, or the index of "the first record that cannot go", from 0, or the number
-- with which none is read
pub data Answer (A : Type 0) : Type 0 where
  converted : A → Answer A
  stays : ℕ → Answer A
  not_read : ℕ → Answer A

module _ (Goes : List ℕ → List ℕ → Type 0) (size other : ℕ) where
  -- every record of a slice goes, in order
  pub data AllGo : List ℕ → List ℕ → Type 0 where
    none : AllGo [] []
    one : {a b from to : List ℕ} → Goes a b → AllGo from to → AllGo (a ++ from) (b ++ to)

  -- the records before this one go, and it does not
  pub data FirstStays : List ℕ → ℕ → Type 0 where
    this : {a : List ℕ} (from : List ℕ) → length a ≡ size → ((b : List ℕ) → Goes a b → ⊥) → FirstStays (a ++ from) zero
    a_later : {a b from : List ℕ} {i : ℕ} → Goes a b → FirstStays from i → FirstStays (a ++ from) (suc i)

  -- what a slice of records answers, where the other buffer has `room` bytes
  pub data Means (from : List ℕ) (room : ℕ) : Answer (List ℕ) → Type 0 where
    -- "all records convert"
    accepts : {to : List ℕ} → AllGo from to → length to ≤ room → Means from room (converted to)
    -- "a length that is no multiple of the record gives 16"
    uneven : ((k : ℕ) → length from ≡ k * size → ⊥) → Means from room (not_read 16)
    -- "then too little room 14"
    too_little_room : (k : ℕ) → length from ≡ k * size → room < k * other → Means from room (not_read 14)
    -- "then the first record that cannot go 11 with its index"
    refuses : {i : ℕ} (k : ℕ) → length from ≡ k * size → k * other ≤ room → FirstStays from i → Means from room (stays i)
