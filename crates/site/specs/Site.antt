-- The site stamp (document 01, added to what the Rust reads): yyyy-mm-ddThh:mm:ssZ with capital letters, and perhaps a point and 1 to 9
-- digits behind the seconds; second 60 only as 23:59:60 on 30 June or 31 December (document 02, No. 5). Its value is the plain reader's, with
-- a mark of second 60 (No. 7); 12 is refused after the plain reader's own refusals. `Rattle.site.proofs.SiteAgrees` and `Refusals` join the
-- relations to the computation. Assumes nothing.
use Rattle.std.specs.Prelude.{◌≡◌, Bool, true, cond, not, ◌&&◌, ◌||◌, List, [], ◌∷◌, ◌++◌, ℕ, ◌-◌, ◌≤◌, eqb, leb, length, get_or, drop, ℤ, pos, Some}
use Rattle.calendar.specs.Calendar.{civil}
use Rattle.number.specs.Widths.{in_signed}
use Rattle.refusal.specs.Outcome.{Outcome, accepted, refused, and_then}
use Rattle.text.specs.Digits.{value, two_digits, two_at}
use Rattle.clock.specs.Clock.{Clock, clock, in_range, since_midnight}
use Rattle.clock.specs.Grammar.{Figures, Secfrac}
use Rattle.stamp_text.specs.Grammar.{Ymd, FullDate}
use Rattle.stamp_text.specs.Answer.{has_colons, datetime, in_nanos}
use Rattle.datetime.specs.Moment.{Moment, instant_at, instant}
use Rattle.stamp_text.specs.Meaning.{Reads, Refuses}
use Rattle.site.specs.declared.Marked.{Marked}

-- the date, hour and minute that may have a second 60. RFC 3339, section 5.7: time-second may be 60 at the end of a month in which a leap
-- second occurs, to date June (XXXX-06-30T23:59:60Z) or December (XXXX-12-31T23:59:60Z). Its appendix D lists those from 1972 to 1998 and
-- prefers these two months to March and September. Document 02, No. 5: these two days, in any year, and no others
pub data LeapSecond : Ymd → ℕ → ℕ → Type 0 where
  june : (y : ℕ) → LeapSecond (record { year = y; month = 6; day = 30 }) 23 59
  december : (y : ℕ) → LeapSecond (record { year = y; month = 12; day = 31 }) 23 59

-- a text and the date and the time that it writes
pub data SiteStamp : List ℕ → Ymd → Clock → Type 0 where
  site : (a h m s x f : List ℕ) {d : Ymd} → FullDate a d → Figures 2 h → Figures 2 m → Figures 2 s → Secfrac x f → length f ≤ 9
      → (value 0 s ≡ 60 → LeapSecond d (value 0 h) (value 0 m))
      → SiteStamp (a ++ (0x54 ∷ ((h ++ (0x3A ∷ (m ++ (0x3A ∷ (s ++ x))))) ++ (0x5A ∷ [])))) d (clock (value 0 h) (value 0 m) (value 0 s) f)

-- nanoseconds and the mark
abbrev pub marked : ℤ → Bool → Marked
marked z l = record { nanos = z; leap = l }

-- a text and what it is read as: the nanoseconds, and the mark, set where the second is 60
pub data SiteReads : List ℕ → Marked → Type 0 where
  site_reads : {t : List ℕ} {d : Ymd} {c : Clock} (z : ℤ) → SiteStamp t d c → civil (pos d.year) d.month d.day ≡ Some z
      → in_range c.hour c.minute c.second ≡ true → in_signed 63 (instant_at z (since_midnight c)) ≡ true
      → SiteReads t (marked (instant_at z (since_midnight c)) (eqb c.second 60))

-- a text and the number of its refusal: the plain reader's, and 12 where the plain reader reads the text but it is no site stamp
pub data SiteRefuses : List ℕ → ℕ → Type 0 where
  as_plain : {t : List ℕ} {n : ℕ} → Refuses t n → SiteRefuses t n
  no_site : {t : List ℕ} (z : ℤ) → Reads t z → ((d : Ymd) (c : Clock) → SiteStamp t d c → ⊥) → SiteRefuses t 12

-- ---- the computation

-- month and day of a text that begins with a date: 30 June or 31 December
unfoldable pub is_leap_day : List ℕ → Bool
is_leap_day t =
    two_digits t 5 &&
    (two_digits t 8 && ((eqb (two_at t 5) 6 && eqb (two_at t 8) 30) || (eqb (two_at t 5) 12 && eqb (two_at t 8) 31)))

-- second 60 only as 23:59:60 on such a day
abbrev pub is_leap : Bool → ℕ → ℕ → ℕ → Bool
is_leap day h m s = not (eqb s 60) || (eqb h 23 && (eqb m 59 && day))

-- a text that the plain reader accepts is a site stamp: T at byte 10, colons, at most 30 bytes (20, a point and 9 digits), Z at the end
unfoldable pub is_site : List ℕ → Bool
is_site t =
    eqb (get_or t 10 0) 0x54 &&
    (has_colons (drop 11 t) &&
    (leb (length t) 30 &&
    (eqb (get_or t (length t - 1) 0) 0x5A && is_leap (is_leap_day t) (two_at (drop 11 t) 0) (two_at (drop 11 t) 3) (two_at (drop 11 t) 6))))

-- 12: the plain stamp reader accepts the text, with the value z, but it is no site stamp; the mark is that of its time
abbrev pub if_site : List ℕ → Bool → ℤ → Outcome Marked
if_site t l z = cond (is_site t) (accepted (marked z l)) (refused 12)

abbrev pub on_moment : List ℕ → Moment → Outcome Marked
on_moment t m = and_then (in_nanos (instant m)) (if_site t m.time.leap)

abbrev pub site_marked : List ℕ → Outcome Marked
site_marked t = and_then (datetime t) (on_moment t)
