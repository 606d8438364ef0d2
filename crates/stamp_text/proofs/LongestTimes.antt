-- The longest time that a text begins with: the relation has what the computation finds, and no other. Assumes nothing.
use mathlib.Core.Path.{◌≡◌, refl, sym, ap, ◌∙◌, subst}
use mathlib.Core.Bool.{true, false, not}
use mathlib.Core.Logic.{inr, ⊎_elim}
use mathlib.Core.List.{List, [], ◌∷◌, ◌++◌, append_assoc, nil≢cons}
use Rattle.std.specs.Prelude.{cond, Option, None, Some}
use Prim.Native.Nat.{ℕ, suc}
use native.Mathlib.Omega.{arith}
use lib.Dec.{eqb}
use lib.ListN.{length, get_or, take, drop, length-append, take-append-drop}
use lib.Seq.{take-append_seam, drop-append_seam, get_or-drop}
use borrow.Author.Tests.{ne_eqb, eqb-true, eqb-false, not-true}
use Rattle.text.specs.Digits.{is_digit, digits, value, run, two_digits, two_at}
use Rattle.text.proofs.Bools.{and_left, by_test, fails, within_under, within_over}
use Rattle.text.proofs.DigitLists.{all_digits, two_value}
use Rattle.text.proofs.Logic.{both, none_some}
use Rattle.text.proofs.Places.{inside, not_sign, six, eight}
use Rattle.text.proofs.Runs.{run_all, run_digits}
use Rattle.text.proofs.TwoDigits.{all_five}
use Rattle.clock.specs.Clock.{Clock, clock, in_range, nanos_of, held, held_clock}
use Rattle.clock.specs.Grammar.{Figures, no_fraction, fraction, no_digits}
use Rattle.clock.proofs.Figures.{by_fields, two_figures, size_of}
use Rattle.offset.specs.declared.Offset.{Offset}
use Rattle.offset.specs.Grammar.{Ending, none_given, capital_z, small_z, in_figures}
use Rattle.offset.proofs.Agreement.{front}
use Rattle.stamp_text.specs.Grammar.{PartialTime, colons, basic, Apart}
use Rattle.stamp_text.specs.Answer.{has_colons, is_basic, Timed, timed_at, timed, with_fraction, after_seconds, time_of}
use Rattle.stamp_text.specs.Meaning.{LongestTime, whole, parted, compact}

-- the fields of a time, in range
abbrev pub Ok : Clock → Type 0
Ok c = in_range c.hour c.minute c.second ≡ true

abbrev time_is : Clock → List ℕ → Option Timed
time_is c r = Some (record { time = held_clock c; tail = r })

-- that time, if its fields are in range
abbrev pub if_ok : Clock → List ℕ → Option Timed
if_ok c r = cond (in_range c.hour c.minute c.second) (time_is c r) None

-- ---- what follows, as the relation has it and as the computation tests it

one_no : (r : List ℕ) → no_digits (take 1 r) ≡ true → is_digit (get_or r 0 0) ≡ false
unfolding no_digits
one_no [] e = refl
one_no (b ∷ r) e = not-true (is_digit b) (and_left (not (is_digit b)) true e)

two_no : (r : List ℕ) → no_digits (take 2 r) ≡ true → (is_digit (get_or r 0 0) ≡ false) × (is_digit (get_or r 1 0) ≡ false)
unfolding no_digits
two_no [] e = (refl, refl)
two_no (b ∷ r) e =
    let p = both (not (is_digit b)) (no_digits (take 1 r)) e in
    (not-true (is_digit b) p.0, one_no r p.1)

no_one : (r : List ℕ) → is_digit (get_or r 0 0) ≡ false → no_digits (take 1 r) ≡ true
unfolding no_digits
no_one [] e = refl
no_one (b ∷ r) e = rw e

no_two : (r : List ℕ) → is_digit (get_or r 0 0) ≡ false → is_digit (get_or r 1 0) ≡ false → no_digits (take 2 r) ≡ true
unfolding no_digits
no_two [] p q = refl
no_two (b ∷ r) p q = rw (p, no_one r q)

no_point : (r : List ℕ) → ((q : List ℕ) → r ≡ 0x2E ∷ q → ⊥) → eqb (get_or r 0 0) 0x2E ≡ false
no_point [] h = refl
no_point (b ∷ r) h = fails (eqb b 0x2E) (λ e. ap (λ (x : ℕ). x ∷ r) (eqb-true b 0x2E e)) (h r)

-- behind a run of digits stands no digit
run_stops : (t : List ℕ) → is_digit (get_or (drop (run t) t) 0 0) ≡ false
unfolding run
run_stops [] = refl
run_stops (b ∷ t) = by_test (is_digit b) (λ e. rw e (run_stops t)) (λ e. rw (e, e))

-- two texts that are one have one first byte
first : {a b : ℕ} {s t : List ℕ} → a ∷ s ≡ b ∷ t → a ≡ b
first e = cc

-- ---- a longest time is computed

module _ (a b c d g i : ℕ) (fa : is_digit a ≡ true) (fb : is_digit b ≡ true) (fc : is_digit c ≡ true) (fd : is_digit d ≡ true) (fg : is_digit g ≡ true) (fi : is_digit i ≡ true) where
  abbrev hms : List ℕ → Clock
  hms f = clock (value 0 (a ∷ b ∷ [])) (value 0 (c ∷ d ∷ [])) (value 0 (g ∷ i ∷ [])) f

  -- the same in what the digits are worth
  worth_ok : in_range (two_at (a ∷ b ∷ []) 0) (two_at (c ∷ d ∷ []) 0) (two_at (g ∷ i ∷ []) 0) ≡ true → (f : List ℕ) → Ok (hms f)
  worth_ok ok f = rw (two_value a b, two_value c d, two_value g i) ok

  worth_held : (f : List ℕ) → held (two_at (a ∷ b ∷ []) 0) (two_at (c ∷ d ∷ []) 0) (two_at (g ∷ i ∷ []) 0) (nanos_of f) ≡ held_clock (hms f)
  worth_held f = rw (two_value a b, two_value c d, two_value g i)

  whole_read : (r : List ℕ) → ((q : List ℕ) → r ≡ 0x2E ∷ q → ⊥) → time_of (a ∷ b ∷ 0x3A ∷ c ∷ d ∷ 0x3A ∷ g ∷ i ∷ r) ≡ if_ok (hms []) r
  unfolding time_of
  whole_read r n =
      rw (two_value a b, two_value c d, two_value g i, fa, fb, fc, fd, fg, fi, no_point r n)

  parted_read : (k : ℕ) (f r : List ℕ) → is_digit k ≡ true → digits f ≡ true → no_digits (take 1 r) ≡ true → time_of (a ∷ b ∷ 0x3A ∷ c ∷ d ∷ 0x3A ∷ g ∷ i ∷ 0x2E ∷ ((k ∷ f) ++ r)) ≡ if_ok (hms (k ∷ f)) r
  unfolding time_of
  parted_read k f r p q n =
      rw (
        two_value a b,
        two_value c d,
        two_value g i,
        fa,
        fb,
        fc,
        fd,
        fg,
        fi,
        run_all (k ∷ f) r (all_digits k f p q) (one_no r n),
        ne_eqb (length (k ∷ f)) 0 (λ z. omega arith),
        take-append_seam (k ∷ f) r,
        drop-append_seam (k ∷ f) r,
      )

  compact_read : (r : List ℕ) → no_digits (take 2 r) ≡ true → time_of (a ∷ b ∷ c ∷ d ∷ g ∷ i ∷ r) ≡ if_ok (hms []) r
  unfolding time_of
  compact_read r n =
      let y = two_no r n in
      rw (two_value a b, two_value c d, two_value g i, not_sign c 0x3A fc (inr (omega arith)), fa, fb, fc, fd, fg, fi, y.0, y.1)

-- by what stands behind the seconds
module _ {h m s : List ℕ} (p : Figures 2 h) (q : Figures 2 m) (u : Figures 2 s) where
  abbrev its : List ℕ → Clock
  its f = clock (value 0 h) (value 0 m) (value 0 s) f

  whole_lem : (r : List ℕ) → ((q : List ℕ) → r ≡ 0x2E ∷ q → ⊥) → time_of (h ++ (0x3A ∷ (m ++ (0x3A ∷ (s ++ r))))) ≡ if_ok (its []) r
  whole_lem r n =
      by_fields (λ h m s. time_of (h ++ (0x3A ∷ (m ++ (0x3A ∷ (s ++ r))))) ≡ if_ok (clock (value 0 h) (value 0 m) (value 0 s) []) r)
      (λ a b c d g i fa fb fc fd fg fi. whole_read a b c d g i fa fb fc fd fg fi r n) h m s p q u

  parted_lem : (k : ℕ) (f r : List ℕ) → is_digit k ≡ true → digits f ≡ true → no_digits (take 1 r) ≡ true → time_of (h ++ (0x3A ∷ (m ++ (0x3A ∷ (s ++ (0x2E ∷ k ∷ (f ++ r))))))) ≡ if_ok (its (k ∷ f)) r
  parted_lem k f r v w n =
      by_fields (λ h m s. time_of (h ++ (0x3A ∷ (m ++ (0x3A ∷ (s ++ (0x2E ∷ k ∷ (f ++ r))))))) ≡ if_ok (clock (value 0 h) (value 0 m) (value 0 s) (k ∷ f)) r)
      (λ a b c d g i fa fb fc fd fg fi. parted_read a b c d g i fa fb fc fd fg fi k f r v w n) h m s p q u

  compact_lem : (r : List ℕ) → no_digits (take 2 r) ≡ true → time_of (h ++ (m ++ (s ++ r))) ≡ if_ok (its []) r
  compact_lem r n =
      by_fields (λ h m s. time_of (h ++ (m ++ (s ++ r))) ≡ if_ok (clock (value 0 h) (value 0 m) (value 0 s) []) r)
      (λ a b c d g i fa fb fc fd fg fi. compact_read a b c d g i fa fb fc fd fg fi r n) h m s p q u

pub time_read : {t r : List ℕ} {c : Clock} → LongestTime t c r → time_of t ≡ time_is c r
time_read (whole h m s r p q u ok n) = rw ok at (whole_lem p q u r n)
time_read (parted h m s k f r p q u v w ok n) = rw ok at (parted_lem p q u k f r v w n)
time_read (compact h m s r p q u ok n) = rw ok at (compact_lem p q u r n)

-- ---- a computed time is a longest one

pub record TimeIs (t : List ℕ) (x : Timed) : Type 0 where
  pub fields : Clock
  pub time : LongestTime t fields x.tail
  pub held_as : x.time ≡ held_clock fields

-- the fields are in range where there is a time with them
in_range_lem : (h m s n : ℕ) (e : List ℕ) (x : Timed) → timed_at h m s n e ≡ Some x → (in_range h m s ≡ true) × (x ≡ record { time = held h m s n; tail = e })
in_range_lem h m s n e x p =
    by_test (in_range h m s)
    (λ ok. let q : Some (record { time = held h m s n; tail = e }) ≡ Some x = rw ok at p in (ok, cc))
    (λ no. none_some (rw no at p))

module _ (a b c d g i : ℕ) (fa : is_digit a ≡ true) (fb : is_digit b ≡ true) (fc : is_digit c ≡ true) (fd : is_digit d ≡ true) (fg : is_digit g ≡ true) (fi : is_digit i ≡ true) where
  abbrev H : ℕ
  H = two_at (a ∷ b ∷ []) 0

  abbrev M : ℕ
  M = two_at (c ∷ d ∷ []) 0

  abbrev S : ℕ
  S = two_at (g ∷ i ∷ []) 0

  whole_sound : (r : List ℕ) (x : Timed) → ((q : List ℕ) → r ≡ 0x2E ∷ q → ⊥) → timed H M S [] r ≡ Some x → TimeIs (a ∷ b ∷ 0x3A ∷ c ∷ d ∷ 0x3A ∷ g ∷ i ∷ r) x
  whole_sound r x n e =
      let y = in_range_lem H M S (nanos_of []) r x e in
      rw y.1 (record {
        fields = hms a b c d g i fa fb fc fd fg fi [];
        time = whole (a ∷ b ∷ []) (c ∷ d ∷ []) (g ∷ i ∷ []) r (two_figures a b fa fb) (two_figures c d fc fd) (two_figures g i fg fi) (worth_ok a b c d g i fa fb fc fd fg fi y.0 []) n;
        held_as = worth_held a b c d g i fa fb fc fd fg fi [];
      })

  -- behind a point
  parted_sound : (u : List ℕ) (x : Timed) → with_fraction H M S (run u) u ≡ Some x → TimeIs (a ∷ b ∷ 0x3A ∷ c ∷ d ∷ 0x3A ∷ g ∷ i ∷ 0x2E ∷ u) x
  unfolding run
  parted_sound [] x e = none_some e
  parted_sound (k ∷ u) x e =
      by_test (is_digit k)
      (λ p.
      let f : List ℕ = take (run u) u in
      let r : List ℕ = drop (run u) u in
      let y = in_range_lem H M S (nanos_of (k ∷ f)) r x (rw (p, ne_eqb (suc (run u)) 0 (λ z. omega arith)) at e) in
      let w : k ∷ u ≡ k ∷ (f ++ r) = ap (λ (v : List ℕ). k ∷ v) (sym (take-append-drop (run u) u)) in
      rw y.1 (record {
        fields = hms a b c d g i fa fb fc fd fg fi (k ∷ f);
        time = subst (λ (v : List ℕ). LongestTime (a ∷ b ∷ 0x3A ∷ c ∷ d ∷ 0x3A ∷ g ∷ i ∷ 0x2E ∷ v) (hms a b c d g i fa fb fc fd fg fi (k ∷ f)) r) (sym w)
            (parted (a ∷ b ∷ []) (c ∷ d ∷ []) (g ∷ i ∷ []) k f r (two_figures a b fa fb) (two_figures c d fc fd) (two_figures g i fg fi) p (run_digits u) (worth_ok a b c d g i fa fb fc fd fg fi y.0 (k ∷ f)) (no_one r (run_stops u)));
        held_as = worth_held a b c d g i fa fb fc fd fg fi (k ∷ f);
      }))
      (λ p. none_some (rw p at e))

  colons_sound : (r : List ℕ) (x : Timed) → after_seconds H M S r ≡ Some x → TimeIs (a ∷ b ∷ 0x3A ∷ c ∷ d ∷ 0x3A ∷ g ∷ i ∷ r) x
  colons_sound [] x e = whole_sound [] x (λ q z. nil≢cons z) e
  colons_sound (k ∷ r) x e =
      by_test (eqb k 0x2E)
      (λ p. rw (eqb-true k 0x2E p) (parted_sound r x (rw p at e)))
      (λ p. whole_sound (k ∷ r) x (λ q z. eqb-false k 0x2E p (first z)) (rw p at e))

  compact_sound : (r : List ℕ) (x : Timed) → no_digits (take 2 r) ≡ true → timed H M S [] r ≡ Some x → TimeIs (a ∷ b ∷ c ∷ d ∷ g ∷ i ∷ r) x
  compact_sound r x n e =
      let y = in_range_lem H M S (nanos_of []) r x e in
      rw y.1 (record {
        fields = hms a b c d g i fa fb fc fd fg fi [];
        time = compact (a ∷ b ∷ []) (c ∷ d ∷ []) (g ∷ i ∷ []) r (two_figures a b fa fb) (two_figures c d fc fd) (two_figures g i fg fi) (worth_ok a b c d g i fa fb fc fd fg fi y.0 []) n;
        held_as = worth_held a b c d g i fa fb fc fd fg fi [];
      })

pub time_sound : (t : List ℕ) (x : Timed) → time_of t ≡ Some x → TimeIs t x
unfolding time_of
time_sound t x e =
    by_test (has_colons t)
    (λ p.
    let q = all_five (two_digits t 0) (eqb (get_or t 2 0) 0x3A) (two_digits t 3) (eqb (get_or t 5 0) 0x3A) (two_digits t 6) p in
    let h = both (is_digit (get_or t 0 0)) (is_digit (get_or t 1 0)) q.0 in
    let m = both (is_digit (get_or t 3 0)) (is_digit (get_or t 4 0)) q.2 in
    let n = both (is_digit (get_or t 6 0)) (is_digit (get_or t 7 0)) q.4 in
    subst (λ (v : List ℕ). TimeIs v x)
    (sym (rw (eqb-true (get_or t 2 0) 0x3A q.1, eqb-true (get_or t 5 0) 0x3A q.3) at (eight t (inside t 7 n.1))))
    (colons_sound (get_or t 0 0) (get_or t 1 0) (get_or t 3 0) (get_or t 4 0) (get_or t 6 0) (get_or t 7 0) h.0 h.1 m.0 m.1 n.0 n.1 (drop 8 t) x (rw p at e)))
    (λ p.
    by_test (is_basic t)
    (λ q.
    let r = all_five (two_digits t 0) (two_digits t 2) (two_digits t 4) (not (is_digit (get_or t 6 0))) (not (is_digit (get_or t 7 0))) q in
    let h = both (is_digit (get_or t 0 0)) (is_digit (get_or t 1 0)) r.0 in
    let m = both (is_digit (get_or t 2 0)) (is_digit (get_or t 3 0)) r.1 in
    let n = both (is_digit (get_or t 4 0)) (is_digit (get_or t 5 0)) r.2 in
    let k = no_two (drop 6 t) (rw (get_or-drop 6 t 0 0) (not-true (is_digit (get_or t 6 0)) r.3)) (rw (get_or-drop 6 t 1 0) (not-true (is_digit (get_or t 7 0)) r.4)) in
    subst (λ (v : List ℕ). TimeIs v x) (sym (six t (inside t 5 n.1)))
    (compact_sound (get_or t 0 0) (get_or t 1 0) (get_or t 2 0) (get_or t 3 0) (get_or t 4 0) (get_or t 5 0) h.0 h.1 m.0 m.1 n.0 n.1 (drop 6 t) x k (rw (p, q) at e)))
    (λ q. none_some (rw (p, q) at e)))

-- ---- the longest time and the time of the grammar

-- hhmmss is six bytes, and a time with colons is longer
pub six_bytes : {h m s : List ℕ} → Figures 2 h → Figures 2 m → Figures 2 s → length (h ++ (m ++ s)) ≡ 6
six_bytes {h} {m} {s} p q u = omega (arith, length-append h (m ++ s), length-append m s, size_of p, size_of q, size_of u)

pub eight_bytes : {h m s : List ℕ} → Figures 2 h → Figures 2 m → Figures 2 s → (x : List ℕ) → length (h ++ (0x3A ∷ (m ++ (0x3A ∷ (s ++ x))))) ≡ 6 → ⊥
eight_bytes {h} {m} {s} p q u x z =
    omega (arith, length-append h (0x3A ∷ (m ++ (0x3A ∷ (s ++ x)))), length-append m (0x3A ∷ (s ++ x)), length-append s x, size_of p, size_of q, size_of u)

-- what may end a stamp does not go on with its time
no_point_ends : {e : List ℕ} {o : Offset} → Ending e o → (q : List ℕ) → e ≡ 0x2E ∷ q → ⊥
no_point_ends none_given q z = nil≢cons z
no_point_ends capital_z q z = let w : ◌≡◌ {A = ℕ} 0x5A 0x2E = first z in omega arith
no_point_ends small_z q z = let w : ◌≡◌ {A = ℕ} 0x7A 0x2E = first z in omega arith
no_point_ends (in_figures n) q z =
    let f = front n in
    let w : f.first ≡ 0x2E = first (sym f.begins ∙ z) in
    ⊎_elim (λ l. omega arith) (λ l. omega arith) f.other

no_digit_ends : {e : List ℕ} {o : Offset} → Ending e o → no_digits (take 1 e) ≡ true
unfolding no_digits
no_digit_ends none_given = refl
no_digit_ends capital_z = refl
no_digit_ends small_z = refl
no_digit_ends (in_figures n) =
    let f = front n in
    rw (f.begins, ⊎_elim (λ l. within_under 0x30 f.first 0x39 (omega arith)) (λ l. within_over 0x30 f.first 0x39 l) f.other)

-- a time of the grammar before an ending is computed, whatever its fields
pub before_ending : {b e : List ℕ} {c : Clock} {o : Offset} → PartialTime b c → Ending e o → Apart b e → time_of (b ++ e) ≡ if_ok c e
before_ending {e = e} (colons h m s x f p q u no_fraction) n a =
    subst (λ (t : List ℕ). time_of t ≡ if_ok (clock (value 0 h) (value 0 m) (value 0 s) []) e) (simp (append_assoc)) (whole_lem p q u e (no_point_ends n))
before_ending {e = e} (colons h m s x y p q u (fraction {b} {f} v w)) n a =
    subst (λ (t : List ℕ). time_of t ≡ if_ok (clock (value 0 h) (value 0 m) (value 0 s) (b ∷ f)) e) (simp (append_assoc)) (parted_lem p q u b f e v w (no_digit_ends n))
before_ending {e = e} (basic h m s p q u) n a =
    subst (λ (t : List ℕ). time_of t ≡ if_ok (clock (value 0 h) (value 0 m) (value 0 s) []) e) (simp (append_assoc)) (compact_lem p q u e (a (six_bytes p q u)))

-- a longest time is a time of the grammar, in range, and what follows it
pub record Parted (t : List ℕ) (c : Clock) (r : List ℕ) : Type 0 where
  pub bytes : List ℕ
  pub time : PartialTime bytes c
  pub text : t ≡ bytes ++ r
  pub ok : Ok c
  pub apart : Apart bytes r

pub of_grammar : {t r : List ℕ} {c : Clock} → LongestTime t c r → Parted t c r
of_grammar (whole h m s r p q u ok n) =
    record { bytes = _; time = colons h m s [] [] p q u no_fraction; text = simp append_assoc; ok = ok; apart = (λ z. absurd (eight_bytes p q u [] z)) }
of_grammar (parted h m s k f r p q u v w ok n) =
    record { bytes = _; time = colons h m s (0x2E ∷ k ∷ f) (k ∷ f) p q u (fraction v w); text = simp append_assoc; ok = ok; apart = (λ z. absurd (eight_bytes p q u (0x2E ∷ k ∷ f) z)) }
of_grammar (compact h m s r p q u ok n) =
    record { bytes = _; time = basic h m s p q u; text = simp append_assoc; ok = ok; apart = (λ z. n) }
