-- What the loops find is what a slice of records answers. Assumes nothing.
use mathlib.Core.Path.{◌≡◌, refl, sym, ap, ◌∙◌}
use mathlib.Core.Bool.{true, false}
use mathlib.Core.List.{List, [], ◌∷◌, ◌++◌}
use Rattle.std.specs.Prelude.{Option, None, Some}
use Prim.Native.Nat.{ℕ, suc, ◌+◌, ◌*◌, ◌/◌, ◌%◌, ◌≤◌, ◌<◌}
use native.Mathlib.Omega.{arith}
use lib.Dec.{eqb}
use lib.ListN.{length}
use borrow.Author.Tests.{le-leb, lt-leb}
use Rattle.std.specs.Simd.{first_chunks}
use Rattle.text.proofs.Logic.{none_some}
use Rattle.records.specs.Slices.{Answer, converted, stays, not_read}
use Rattle.records.specs.Answer.{behind, on_record, convert_all, in_room, conversion, left, new_record}
use Rattle.records.specs.Read.{bare, Answers}
use Rattle.records.specs.Helpers.{the_bytes, joined, or_later, first_that_stays_from}

-- an old record always goes
pub none_stays : (i : ℕ) (records : List (List ℕ)) → first_that_stays_from new_record i records ≡ None
unfolding first_that_stays_from or_later
none_stays i [] = refl
none_stays i (r ∷ records) = none_stays (suc i) records

module _ (convert : List ℕ → Option (List ℕ)) where
  one_converted : (i : ℕ) (later : Option ℕ) (a : Answer (List ℕ)) (to : List ℕ) (b : Option (List ℕ)) → or_later b i later ≡ None → (later ≡ None → a ≡ converted to)
      → on_record b a ≡ converted (the_bytes b ++ to)
  unfolding or_later on_record behind the_bytes
  one_converted i later a to (Some b) e f = rw (f e) refl
  one_converted i later a to None e f = none_some (sym e)

  -- none stays: all are converted
  pub all_go : (i : ℕ) (records : List (List ℕ)) → first_that_stays_from convert i records ≡ None → convert_all convert records ≡ converted (joined convert records)
  unfolding first_that_stays_from convert_all joined
  all_go i [] e = refl
  all_go i (r ∷ records) e =
      one_converted i (first_that_stays_from convert (suc i) records) (convert_all convert records) (joined convert records) (convert r) e (all_go (suc i) records)

  -- the record of number j, counted from i, is the first that stays
  record OneStays (i j : ℕ) (a : Answer (List ℕ)) : Type 0 where
    index : ℕ
    counted : j ≡ i + index
    answer : a ≡ stays index

  one_stays : (i j : ℕ) (later : Option ℕ) (a : Answer (List ℕ)) (b : Option (List ℕ)) → or_later b i later ≡ Some j → (later ≡ Some j → OneStays (suc i) j a)
      → OneStays i j (on_record b a)
  unfolding or_later on_record behind
  one_stays i j later a (Some b) e f = let s = f e in record { index = suc s.index; counted = omega (arith, s.counted); answer = rw (s.answer) refl }
  one_stays i j later a None e f = let q : i ≡ j = cc in record { index = 0; counted = omega arith; answer = refl }

  first_stays : (i j : ℕ) (records : List (List ℕ)) → first_that_stays_from convert i records ≡ Some j → OneStays i j (convert_all convert records)
  unfolding first_that_stays_from convert_all
  first_stays i j [] e = none_some e
  first_stays i j (r ∷ records) e =
      one_stays i j (first_that_stays_from convert (suc i) records) (convert_all convert records) (convert r) e (first_stays (suc i) j records)

  -- ---- a call

  module _ (size other : ℕ) (from before : List ℕ) where
    told : (a : Answer (List ℕ)) (r : Answer (Unit {0})) (after : List ℕ) → conversion convert size other from (length before) ≡ a → r ≡ bare a → after ≡ left a before
        → Answers (conversion convert size other from (length before)) r before after
    told a r after e p q = record { says = rw e p; leaves = rw e q }

    -- some bytes are left over, or none
    module _ (rest : ℕ) (behind_all : rest ≡ length from % size) where
      pub uneven : eqb rest 0 ≡ false → Answers (conversion convert size other from (length before)) (not_read 16) before before
      unfolding conversion
      uneven e = told (not_read 16) (not_read 16) before (rw (← behind_all, e) refl) refl refl

      module _ (records : List (List ℕ)) (cut : records ≡ first_chunks size (length from / size) from) (many : length records ≡ length from / size) (none_left : eqb rest 0 ≡ true) where
        pub too_little_room : length before < length records * other → Answers (conversion convert size other from (length before)) (not_read 14) before before
        unfolding conversion in_room
        too_little_room h =
            told (not_read 14) (not_read 14) before (rw (← behind_all, none_left, ← many, lt-leb (length records * other) (length before) h) refl) refl refl

        module _ (room : length records * other ≤ length before) where
          in_all : conversion convert size other from (length before) ≡ convert_all convert records
          unfolding conversion in_room
          in_all = rw (← behind_all, none_left, ← cut, ← many, le-leb (length records * other) (length before) room) refl

          pub refused : (i : ℕ) → first_that_stays_from convert 0 records ≡ Some i → Answers (conversion convert size other from (length before)) (stays i) before before
          refused i e =
              let s = first_stays 0 i records e in
              let q : s.index ≡ i = omega (arith, s.counted) in
              told (stays i) (stays i) before (in_all ∙ s.answer ∙ ap stays q) refl refl

          pub accepted : (after : List ℕ) → first_that_stays_from convert 0 records ≡ None → after ≡ left (converted (joined convert records)) before
              → Answers (conversion convert size other from (length before)) (converted tt) before after
          accepted after e q = told (converted (joined convert records)) (converted tt) after (in_all ∙ all_go 0 records e) refl q
