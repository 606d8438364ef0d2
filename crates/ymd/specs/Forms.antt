-- The dates that are no stamps, computed: what the signed form writes, and the day of an unsigned form of at most 10 bytes.
-- `Rattle.date.proofs.Agreement` joins them to the grammar of dates. Assumes nothing.
use Rattle.std.specs.Prelude.{Bool, true, false, cond, ◌&&◌, List, [], ◌∷◌, ℕ, suc, ◌+◌, ◌*◌, eqb, leb, ltb, length, get_or, take, drop, ℤ, pos, negsuc, Option, None, Some}
use Rattle.calendar.specs.Calendar.{civil}
use Rattle.number.specs.Decimal.{integer}
use Rattle.text.specs.Digits.{is_digit, worth, two_digits, two_at}
use Rattle.clock.specs.Grammar.{no_digits}
use Rattle.ymd.specs.declared.Ymd.{Ymd}

-- ---- the signed form

-- how many bytes stand before the first hyphen
unfoldable pub to_hyphen : List ℕ → ℕ
to_hyphen [] = 0
to_hyphen (b ∷ t) = cond (eqb b 0x2D) 0 (suc (to_hyphen t))

-- three integers, if each was read
abbrev pub numbers : Option ℤ → Option ℤ → Option ℤ → Option Ymd
numbers None m d = None
numbers (Some y) None d = None
numbers (Some y) (Some m) None = None
numbers (Some y) (Some (negsuc m)) (Some d) = None
numbers (Some y) (Some (pos m)) (Some (negsuc d)) = None
numbers (Some y) (Some (pos m)) (Some (pos d)) = Some (record { year = y; month = m; day = d })

-- a month and a day, parted by the first hyphen, before which n bytes stand
abbrev pub month_day : Option ℤ → ℕ → List ℕ → Option Ymd
month_day y n t = cond (ltb n (length t)) (numbers y (integer false 32 (take n t)) (integer false 32 (drop (n + 1) t))) None

-- a sign and a year of at least four bytes, up to the first hyphen after the sign, before which n bytes stand
abbrev pub signed_year : ℕ → List ℕ → Option Ymd
signed_year n t =
    cond (leb 4 n && ltb (n + 1) (length t)) (month_day (integer true 32 (take (n + 1) t)) (to_hyphen (drop (n + 2) t)) (drop (n + 2) t)) None

-- what the signed form writes: the Rust's `parse_extended_ymd`
unfoldable pub extended_ymd : List ℕ → Option Ymd
extended_ymd t = signed_year (to_hyphen (drop 1 t)) t

-- ---- the unsigned forms of at most 10 bytes

abbrev pub four_digits : List ℕ → Bool
four_digits t = two_digits t 0 && two_digits t 2

abbrev pub four_at : List ℕ → ℕ
four_at t = two_at t 0 * 100 + two_at t 2

-- yyyymmdd, and nothing after it
abbrev pub compact_day : List ℕ → Option ℤ
compact_day t =
    cond (eqb (length t) 8 && (four_digits t && (two_digits t 4 && two_digits t 6))) (civil (pos (four_at t)) (two_at t 4) (two_at t 6)) None

-- one or two digits that a text begins with, and no digit after them
abbrev pub last_day : ℤ → ℕ → List ℕ → Option ℤ
last_day y m t =
    cond (two_digits t 0 && no_digits (drop 2 t)) (civil y m (two_at t 0))
    (cond (is_digit (get_or t 0 0) && no_digits (drop 1 t)) (civil y m (worth (get_or t 0 0))) None)

-- yyyy-m-d with one or two digits for month and day
abbrev pub hyphen_day : List ℕ → Option ℤ
hyphen_day t =
    cond (four_digits t && (two_digits t 5 && eqb (get_or t 7 0) 0x2D)) (last_day (pos (four_at t)) (two_at t 5) (drop 8 t))
    (cond (four_digits t && (is_digit (get_or t 5 0) && eqb (get_or t 6 0) 0x2D)) (last_day (pos (four_at t)) (worth (get_or t 5 0)) (drop 7 t)) None)

unfoldable pub short_day : List ℕ → Option ℤ
short_day t = cond (eqb (get_or t 4 0) 0x2D) (hyphen_day t) (compact_day t)
