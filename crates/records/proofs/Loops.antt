-- What the loops over records find, over any conversion of one record. Assumes nothing.
use mathlib.Core.Path.{◌≡◌, refl, sym, ap}
use mathlib.Core.Bool.{true, false}
use mathlib.Core.List.{List, [], ◌∷◌, ◌++◌, append_assoc, append-nil}
use Rattle.std.specs.Prelude.{Option, None, Some}
use Prim.Native.Nat.{ℕ, zero, suc, ◌+◌, ◌-◌, ◌*◌, ◌≤◌, ◌<◌}
use native.Mathlib.Omega.{arith}
use lib.ListN.{length, get_or, take, drop, length-append, drop_of_length-le}
use lib.Seq.{take-suc, take-length, drop-cons, drop-drop}
use borrow.Rule.Slice.PartMut.{put_mid}
use Rattle.std.proofs.Math.Nat.{mul-zero, mul-suc}
use Rattle.std.specs.Option.{is_some}
use Rattle.text.proofs.Bools.{both_ways}
use Rattle.text.proofs.Logic.{none_some}
use Rattle.records.specs.Slices.{converted}
use Rattle.records.specs.Answer.{left}
use Rattle.records.proofs.Parts.{front}
use Rattle.records.specs.Helpers.{the_bytes, joined, or_later, first_that_stays_from}

-- bytes that are put behind the first p of a buffer
put_behind : (early b before : List ℕ) (p n : ℕ) → length early ≡ p → length b ≡ n → put_mid p (p + n - p) (early ++ drop p before) b ≡ (early ++ b) ++ drop (p + n) before
put_behind early b before p n e l =
    let f = front p early (drop p before) e in
    let k : p + (p + n - p) ≡ p + n = omega arith in
    rw (f.0, f.1, drop-drop (p + n - p) p before, k) (sym (append_assoc early b (drop (p + n) before)))

module _ (convert : List ℕ → Option (List ℕ)) where
  -- ---- the first that stays

  on_some : (i : ℕ) (later : Option ℕ) (b : Option (List ℕ)) → is_some b ≡ true → or_later b i later ≡ later
  unfolding or_later
  on_some i later (Some b) e = refl
  on_some i later None e = both_ways false refl e

  on_none : (i : ℕ) (later : Option ℕ) (b : Option (List ℕ)) → is_some b ≡ false → or_later b i later ≡ Some i
  unfolding or_later
  on_none i later (Some b) e = both_ways true e refl
  on_none i later None e = refl

  pub goes_on : (records : List (List ℕ)) (i : ℕ) → i < length records → is_some (convert (get_or records i [])) ≡ true
      → first_that_stays_from convert i (drop i records) ≡ first_that_stays_from convert (suc i) (drop (suc i) records)
  unfolding first_that_stays_from
  goes_on records i h e = rw (drop-cons records i [] h) (on_some i (first_that_stays_from convert (suc i) (drop (suc i) records)) (convert (get_or records i [])) e)

  pub found : (records : List (List ℕ)) (i : ℕ) → i < length records → is_some (convert (get_or records i [])) ≡ false
      → first_that_stays_from convert i (drop i records) ≡ Some i
  unfolding first_that_stays_from
  found records i h e = rw (drop-cons records i [] h) (on_none i (first_that_stays_from convert (suc i) (drop (suc i) records)) (convert (get_or records i [])) e)

  pub ended : (records : List (List ℕ)) (i : ℕ) → length records ≤ i → first_that_stays_from convert i (drop i records) ≡ None
  unfolding first_that_stays_from
  ended records i h = rw (drop_of_length-le records h) refl

  one_goes : (i : ℕ) (later : Option ℕ) (b : Option (List ℕ)) → or_later b i later ≡ None → (is_some b ≡ true) × (later ≡ None)
  unfolding or_later
  one_goes i later (Some b) e = (refl, e)
  one_goes i later None e = none_some (sym e)

  -- where none stays, each goes
  pub each_goes : (i : ℕ) (records : List (List ℕ)) → first_that_stays_from convert i records ≡ None → (j : ℕ) → j < length records
      → is_some (convert (get_or records j [])) ≡ true
  unfolding first_that_stays_from
  each_goes i [] e j h = absurd (omega arith)
  each_goes i (r ∷ records) e zero h = (one_goes i (first_that_stays_from convert (suc i) records) (convert r) e).0
  each_goes i (r ∷ records) e (suc j) h = each_goes (suc i) records (one_goes i (first_that_stays_from convert (suc i) records) (convert r) e).1 j (omega (arith, h))

  -- ---- bytes that are stored

  joined_append : (early later : List (List ℕ)) → joined convert (early ++ later) ≡ joined convert early ++ joined convert later
  unfolding joined
  joined_append [] later = refl
  joined_append (r ∷ early) later = rw (joined_append early later) (sym (append_assoc (the_bytes (convert r)) (joined convert early) (joined convert later)))

  -- one record more
  one_more : (records : List (List ℕ)) (i : ℕ) {b : List ℕ} → i < length records → Some b ≡ convert (get_or records i [])
      → joined convert (take (suc i) records) ≡ joined convert (take i records) ++ b
  unfolding joined the_bytes
  one_more records i {b} h e =
      rw (take-suc records i [] h, joined_append (take i records) (get_or records i [] ∷ []), ← e) (ap (λ (r : List ℕ). joined convert (take i records) ++ r) (append-nil b))

  module _ (n : ℕ) where
    -- the first i records are stored, n bytes each, and the rest is as it was
    pub record Stored (i : ℕ) (records : List (List ℕ)) (before after : List ℕ) : Type 0 where
      in_front : after ≡ joined convert records ++ drop (n * i) before
      their_length : length (joined convert records) ≡ n * i

    pub begun : (before : List ℕ) → Stored 0 [] before before
    unfolding joined
    begun before = record { in_front = rw (mul-zero n) refl; their_length = sym (mul-zero n) }

    pub stored : (records : List (List ℕ)) (i : ℕ) {b before after : List ℕ} → i < length records → Some b ≡ convert (get_or records i []) → length b ≡ n
        → Stored i (take i records) before after
        → Stored (suc i) (take (suc i) records) before (put_mid (n * i) (n * i + n - n * i) after b)
    stored records i {b} {before} {after} h e l s =
        let early : List ℕ = joined convert (take i records) in
        let more : joined convert (take (suc i) records) ≡ early ++ b = one_more records i h e in
        let next : n * suc i ≡ n * i + n = mul-suc n i in
        record {
          in_front = rw (s.in_front, more, next) (put_behind early b before (n * i) n s.their_length l);
          their_length = rw (more, length-append early b, next) (omega (arith, s.their_length, l));
        }

    pub all_stored : (records : List (List ℕ)) (i : ℕ) (before after : List ℕ) → length records ≤ i → i ≤ length records → Stored i (take i records) before after
        → after ≡ left (converted (joined convert records)) before
    all_stored records i before after h k s =
        let e : i ≡ length records = omega arith in
        let front : after ≡ joined convert (take i records) ++ drop (length (joined convert (take i records))) before = rw (s.their_length) (s.in_front) in
        rw (e, take-length records) at front
