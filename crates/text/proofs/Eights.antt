-- Eight digits at once: the tests of the code are those of the definition, and a run goes on behind them. Assumes nothing.
use Rattle.std.proofs.Common.{◌≡◌, ℕ, ◌+◌, ◌<◌, ◌≤◌, Bool, true, ◌&&◌, leb, ltb, List, length, get_or, take, drop, sym, ap, ◌∙◌, arith, ltb-true, ltb-false, leb-true, length-take, length-drop, take-append-drop, drop-drop}
use Rattle.std.proofs.Math.Bool.{and_assoc, and-true}
use Rattle.text.specs.Digits.{is_digit, digit_of, digits, run}
use Rattle.text.proofs.Bools.{and_left, and_right, by_test}
use Rattle.text.proofs.DigitLaws.{is_digit_lem, no_digit}
use Rattle.text.proofs.Places.{eight}
use Rattle.text.proofs.Runs.{run_past}

-- d is the byte b less 48
pub digit_test : (b : ℕ) {d : ℕ} → b < 256 → d ≡ digit_of b → ltb d 10 ≡ is_digit b
digit_test b {d} f e =
    by_test (ltb d 10)
    (λ t. rw (t, is_digit_lem b d f e (ltb-true d 10 t)))
    (λ t. rw (t, no_digit b d f e (ltb-false d 10 t)))

nest : (a b c d e f g h : Bool) → a && b && c && d && e && f && g && h ≡ a && (b && (c && (d && (e && (f && (g && (h && true)))))))
nest a b c d e f g h = simp (and_assoc, and-true)

pub eight_tests : (t : List ℕ) → 8 ≤ length t → is_digit (get_or t 0 0) && is_digit (get_or t 1 0) && is_digit (get_or t 2 0) && is_digit (get_or t 3 0) && is_digit (get_or t 4 0) && is_digit (get_or t 5 0) && is_digit (get_or t 6 0) && is_digit (get_or t 7 0) ≡ digits (take 8 t)
unfolding digits
eight_tests t h =
    nest (d 0) (d 1) (d 2) (d 3) (d 4) (d 5) (d 6) (d 7) ∙
    ap (λ (r : List ℕ). digits (take 8 r)) (sym (eight t (omega arith)))
  where
    d : ℕ → Bool
    d i = is_digit (get_or t i 0)

-- eight digits from place i on
module _ (s : List ℕ) (i : ℕ) (e : leb 8 (length (drop i s)) && digits (take 8 (drop i s)) ≡ true) where
  long : 8 ≤ length (drop i s)
  long = leb-true 8 (length (drop i s)) (and_left (leb 8 (length (drop i s))) (digits (take 8 (drop i s))) e)

  pub inside_eight : i + 8 ≤ length s
  inside_eight = omega (arith, long, length-drop i s)

  pub run_eight : run (drop i s) ≡ 8 + run (drop (i + 8) s)
  run_eight =
      let t = drop i s in
      let q = run_past (take 8 t) (drop 8 t) (and_right (leb 8 (length t)) (digits (take 8 t)) e) in
      omega (arith, rw (take-append-drop 8 t, drop-drop 8 i s) at q, length-take 8 t, long)
