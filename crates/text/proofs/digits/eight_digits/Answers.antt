-- `text::digits::eight_digits` meets its contract, a test for each byte. Assumes nothing.
use Rattle.std.proofs.Common.{ℕ, ◌<◌, get_or, length, le-leb}
use Rattle.text.proofs.Eights.{digit_test, eight_tests}
use Rattle.text.proofs.digits.eight_digits.Goals as goal

pub returns : goal.returns
returns c =
    let s = c.args.s.now in
    let long = c.in-len8-up.len_at_least in
    let fits : (i : ℕ) → get_or s i 0 < 256 = λ i. (c.type_inv.s i).fits in
    rw (le-leb 8 (length s) long, digit_test (get_or s 0 0) (fits 0) c.digit.ensures, digit_test (get_or s 1 0) (fits 1) c.digit-2.ensures, digit_test (get_or s 2 0) (fits 2) c.digit-3.ensures, digit_test (get_or s 3 0) (fits 3) c.digit-4.ensures, digit_test (get_or s 4 0) (fits 4) c.digit-5.ensures, digit_test (get_or s 5 0) (fits 5) c.digit-6.ensures, digit_test (get_or s 6 0) (fits 6) c.digit-7.ensures, digit_test (get_or s 7 0) (fits 7) c.digit-8.ensures) (eight_tests s long)
