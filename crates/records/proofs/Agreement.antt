-- What slices of records answer, computed and as a relation (`agrees`), over any conversion of one record for which both agree. Assumes nothing.
use mathlib.Core.Path.{◌≡◌, refl, sym, ap, ◌∙◌}
use mathlib.Core.Bool.{true, false}
use mathlib.Core.Logic.{◌↔◌}
use mathlib.Core.List.{List, [], ◌∷◌, ◌++◌}
use Rattle.std.specs.Prelude.{Option, None, Some}
use Rattle.std.specs.Simd.{first_chunks}
use Prim.Native.Nat.{ℕ, zero, suc, ◌+◌, ◌*◌, ◌/◌, ◌%◌, ◌≤◌, ◌<◌}
use native.Mathlib.Nat.{zero-mul}
use native.Mathlib.Omega.{arith}
use Rattle.std.proofs.Math.Nat.{suc-mul, mul-mod_left, mul-div_cancel, mul_comm, div-add-mod}
use lib.Dec.{eqb, leb, lit<}
use lib.ListN.{length, get_or, take, drop, length-append, length-drop, take-append-drop}
use lib.Seq.{length-take-le}
use borrow.Author.Tests.{eqb-true, le-leb, lt-leb, leb-true, leb-false}
use Rattle.text.proofs.Bools.{by_test, both_ways}
use Rattle.text.proofs.Logic.{none_some}
use Rattle.little_endian.specs.Bytes.{Bytes}
use Rattle.little_endian.proofs.Undo.{of_items, append, take_bytes, drop_bytes}
use Rattle.records.specs.Slices.{Answer, converted, stays, not_read, AllGo, none, one, FirstStays, this, a_later, Means, accepts, uneven, too_little_room, refuses}
use Rattle.records.specs.Records.{Converts, ConvertsBack}
use Rattle.records.specs.Answer.{behind, on_record, convert_all, in_room, conversion, new_record, old_record, month_day_nanos, day_times}
use Rattle.records.proofs.Parts.{front}
use Rattle.records.proofs.Single.{new, old, sizes}

module _
    (Goes : List ℕ → List ℕ → Type 0) (convert : List ℕ → Option (List ℕ)) (size other : ℕ) (some : 0 < size)
    (exact : (a b : List ℕ) → Bytes a → length a ≡ size → Goes a b ↔ (convert a ≡ Some b))
    (sized : (a b : List ℕ) → Goes a b → ((length a ≡ size) × Bytes a) × ((length b ≡ other) × Bytes b))
  where
    -- ---- an answer is meant

    data Judged (from : List ℕ) : Answer (List ℕ) → Type 0 where
      all : {to : List ℕ} → AllGo Goes size other from to → Judged from (converted to)
      stopped : {i : ℕ} → FirstStays Goes size other from i → Judged from (stays i)

    one_more : (a rest : List ℕ) {w : Answer (List ℕ)} (o : Option (List ℕ)) → Bytes a → length a ≡ size → convert a ≡ o → Judged rest w → Judged (a ++ rest) (on_record o w)
    unfolding on_record behind
    one_more a rest (Some b) h l e (all g) = all (one ((exact a b h l).1 e) g)
    one_more a rest (Some b) h l e (stopped f) = stopped (a_later ((exact a b h l).1 e) f)
    one_more a rest None h l e j = stopped (this rest l (λ b g. none_some (sym e ∙ (exact a b h l).0 g)))

    -- k records' bytes, of which the first are taken off
    judged : (k : ℕ) (from : List ℕ) → Bytes from → length from ≡ k * size → Judged from (convert_all convert (first_chunks size k from))
    unfolding convert_all
    judged zero [] h e = all none
    judged zero (b ∷ from) h e = absurd (omega (arith, e, zero-mul size))
    judged (suc k) from h e =
        let long : length from ≡ k * size + size = e ∙ suc-mul k size in
        let rest : length (drop size from) ≡ k * size = omega (arith, length-drop size from, long) in
        let all_of : Judged (take size from ++ drop size from) (convert_all convert (first_chunks size (suc k) from)) =
        one_more (take size from) (drop size from) (convert (take size from)) (take_bytes size from h) (length-take-le size from (omega (arith, long))) refl
        (judged k (drop size from) (drop_bytes size from h) rest) in
        rw (take-append-drop size from) at all_of

    -- ---- what goes, counted

    -- one record in front of k more
    first_off : (k : ℕ) (a rest : List ℕ) → length a ≡ size → convert_all convert (first_chunks size (suc k) (a ++ rest)) ≡ on_record (convert a) (convert_all convert (first_chunks size k rest))
    unfolding convert_all
    first_off k a rest l = rw ((front size a rest l).0, (front size a rest l).1) refl

    pub record Gone (from to : List ℕ) : Type 0 where
      pub count : ℕ
      pub from_long : length from ≡ count * size
      pub to_long : length to ≡ count * other
      pub answer : convert_all convert (first_chunks size count from) ≡ converted to
      pub are_bytes : Bytes from × Bytes to

    pub gone : {from to : List ℕ} → AllGo Goes size other from to → Gone from to
    unfolding convert_all on_record behind
    gone none = record { count = 0; from_long = sym (zero-mul size); to_long = sym (zero-mul other); answer = refl; are_bytes = (tt, tt) }
    gone (one {a} {b} {from} {to} g more) =
        let s = sized a b g in
        let r = gone more in
        record {
          count = suc r.count;
          from_long = omega (arith, length-append a from, s.0.0, r.from_long, suc-mul r.count size);
          to_long = omega (arith, length-append b to, s.1.0, r.to_long, suc-mul r.count other);
          answer = first_off r.count a from s.0.0 ∙ rw ((exact a b s.0.1 s.0.0).0 g, r.answer) refl;
          are_bytes = (append a from s.0.1 r.are_bytes.0, append b to s.1.1 r.are_bytes.1);
        }

    -- k records that stop at number i
    stops : (k : ℕ) {from : List ℕ} {i : ℕ} → FirstStays Goes size other from i → Bytes from → length from ≡ k * size → convert_all convert (first_chunks size k from) ≡ stays i
    unfolding on_record behind
    stops zero (this {a} from l none_goes) h e = absurd (omega (arith, length-append a from, l, e, some, zero-mul size))
    stops (suc k) (this {a} from l none_goes) h e =
        let bytes : Bytes a = rw ((front size a from l).0) at (take_bytes size (a ++ from) h) in
        first_off k a from l ∙ by bytes (convert a) refl
      where
        by : Bytes a → (o : Option (List ℕ)) → convert a ≡ o → on_record (convert a) (convert_all convert (first_chunks size k from)) ≡ stays 0
        by bytes (Some b) q = absurd (none_goes b ((exact a b bytes l).1 q))
        by bytes None q = rw q refl
    stops zero (a_later {a} {b} {from} g f) h e = absurd (omega (arith, length-append a from, (sized a b g).0.0, e, some, zero-mul size))
    stops (suc k) (a_later {a} {b} {from} g f) h e =
        let s = sized a b g in
        let rest : length from ≡ k * size = omega (arith, length-append a from, s.0.0, e, suc-mul k size) in
        let bytes : Bytes from = rw ((front size a from s.0.0).1) at (drop_bytes size (a ++ from) h) in
        first_off k a from s.0.0 ∙ rw ((exact a b s.0.1 s.0.0).0 g, stops k f bytes rest) refl

    -- ---- a call

    module _ (from : List ℕ) (room : ℕ) where
      module _ (k : ℕ) (e : length from ≡ k * size) where
        its_count : length from / size ≡ k
        its_count = rw e (mul-div_cancel k some)

        even : eqb (length from % size) 0 ≡ true
        even = rw (e, mul-mod_left k size) refl

        -- k records, with room for all of them or not
        pub with_room : k * other ≤ room → conversion convert size other from room ≡ convert_all convert (first_chunks size k from)
        unfolding conversion in_room
        with_room l = rw (even, its_count, le-leb (k * other) room l) refl

        no_room : room < k * other → conversion convert size other from room ≡ not_read 14
        unfolding conversion in_room
        no_room l = rw (even, its_count, lt-leb (k * other) room l) refl

        means_judged : k * other ≤ room → {w : Answer (List ℕ)} → Judged from w → Means Goes size other from room w
        means_judged l (all g) =
            let r = gone g in
            let same : r.count ≡ k = sym (rw (r.from_long) (mul-div_cancel r.count some)) ∙ its_count in
            accepts g (omega (arith, l, r.to_long, ap (λ (n : ℕ). n * other) same))
        means_judged l (stopped f) = refuses k e l f

      in_records : length from % size ≡ 0 → length from ≡ length from / size * size
      in_records e = omega (arith, div-add-mod (length from) size, mul_comm size (length from / size), e)

      odd : eqb (length from % size) 0 ≡ false → conversion convert size other from room ≡ not_read 16
      unfolding conversion
      odd e = rw e refl

      meant : Bytes from → Means Goes size other from room (conversion convert size other from room)
      meant h =
          let k : ℕ = length from / size in
          by_test (eqb (length from % size) 0)
          (λ e.
          let long : length from ≡ k * size = in_records (eqb-true (length from % size) 0 e) in
          by_test (leb (k * other) room)
          (λ f. let l : k * other ≤ room = leb-true (k * other) room f in rw (with_room k long l) (means_judged k long l (judged k from h long)))
          (λ f. let l : room < k * other = leb-false (k * other) room f in rw (no_room k long l) (too_little_room k long l)))
          (λ e. rw (odd e) (uneven (λ k q. both_ways (eqb (length from % size) 0) e (even k q))))

      computed : Bytes from → {w : Answer (List ℕ)} → Means Goes size other from room w → conversion convert size other from room ≡ w
      computed h (accepts g l) = let r = gone g in with_room r.count r.from_long (omega (arith, l, r.to_long)) ∙ r.answer
      computed h (uneven no_count) =
          by_test (eqb (length from % size) 0)
          (λ e. absurd (no_count (length from / size) (in_records (eqb-true (length from % size) 0 e))))
          (λ e. odd e)
      computed h (too_little_room k e l) = no_room k e l
      computed h (refuses k e l f) = with_room k e l ∙ stops k f h e

      -- bytes are answered w, where there is so much room, exactly when w is what is computed
      pub agrees : Bytes from → (w : Answer (List ℕ)) → Means Goes size other from room w ↔ (conversion convert size other from room ≡ w)
      agrees h w = (computed h, λ e. rw (← e) (meant h))

-- ---- the two conversions

-- old to new
pub to_new : (from : List ℕ) (room : ℕ) → Bytes from → (w : Answer (List ℕ)) → Means Converts 8 16 from room w ↔ (month_day_nanos from room ≡ w)
to_new = agrees Converts new_record 8 16 (lit< tt) new (λ a b g. sizes g)

-- new to old
pub to_old : (from : List ℕ) (room : ℕ) → Bytes from → (w : Answer (List ℕ)) → Means ConvertsBack 16 8 from room w ↔ (day_times from room ≡ w)
to_old = agrees ConvertsBack old_record 16 8 (lit< tt) (λ a b. old b a) (λ a b g. let s = sizes g in (s.1, s.0))

-- so whatever bytes are read, what is computed is meant
pub new_meant : (from : List ℕ) (room : ℕ) → ((i : ℕ) → get_or from i 0 < 256) → Means Converts 8 16 from room (month_day_nanos from room)
new_meant from room h = (to_new from room (of_items from h) (month_day_nanos from room)).1 refl

pub old_meant : (from : List ℕ) (room : ℕ) → ((i : ℕ) → get_or from i 0 < 256) → Means ConvertsBack 16 8 from room (day_times from room)
old_meant from room h = (to_old from room (of_items from h) (day_times from room)).1 refl
