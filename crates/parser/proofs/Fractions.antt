-- What follows the seconds, from byte 19 on, and the time as it is made of its fields. Assumes nothing.
use Rattle.std.proofs.Common.{◌≡◌, ℕ, ◌+◌, ◌<◌, true, cond, ◌&&◌, eqb, ltb, List, get_or, take, drop, Option, None, Some, refl, sym, ap, ◌∙◌, arith, lt-ltb, eq-eqb, ne_eqb}
use lib.Dec.{lit<}
use lib.Seq.{drop-drop}
use Rattle.text.specs.Digits.{digit_of, run}
use Rattle.text.proofs.Bools.{by_test}
use Rattle.text.proofs.TwoDigits.{sign_test}
use Rattle.clock.specs.Clock.{in_range, nanos_of, held}
use Rattle.clock.specs.declared.NaiveTime.{NaiveTime}
use Rattle.stamp_text.specs.Answer.{Timed, after_seconds, timed_at}

-- ---- a time and the bytes after it

abbrev pub with_tail : List ℕ → Option NaiveTime → Option Timed
with_tail t None = None
with_tail t (Some x) = Some (record { time = x; tail = t })

pub timed_at_lem :
    (h m s n : ℕ) (t : List ℕ) → n < 1000000000 → {o : Option NaiveTime} →
    o ≡ cond (in_range h m s && ltb n 1000000000) (Some (held h m s n)) None → with_tail t o ≡ timed_at h m s n t
timed_at_lem h m s n t l q = rw (q, lt-ltb n 1000000000 l) (by_test (in_range h m s) (λ e. rw e) (λ e. rw e))

-- ---- d is byte 19, less 48; a point is 254

pub fraction :
    (s : List ℕ) {d : ℕ} → get_or s 19 0 < 256 → d ≡ digit_of (get_or s 19 0) → d ≡ 254 → (h m x : ℕ) {n k : ℕ} →
    k ≡ run (drop 20 s) → (k ≡ 0 → ⊥) →
    n ≡ nanos_of (take (run (drop 20 s)) (drop 20 s)) → timed_at h m x n (drop (20 + k) s) ≡ after_seconds h m x (drop 19 s)
fraction s {d} fits e p h m x {n} {k} q z v =
    let w : drop (20 + k) s ≡ drop (run (drop 20 s)) (drop 20 s) = ap (λ (i : ℕ). drop (20 + i) s) q ∙ sym (drop-drop (run (drop 20 s)) 20 s) in
    let point : eqb (get_or (drop 19 s) 0 0) 0x2E ≡ true = sym (sign_test 19 s 0 254 0x2E fits (lit< tt) refl e) ∙ eq-eqb d 254 p in
    rw (point, drop-drop 1 19 s, ne_eqb (run (drop 20 s)) 0 (λ o. z (omega (arith, q, o))), v, w)
