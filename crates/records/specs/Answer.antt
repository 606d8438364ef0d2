-- What slices of records are converted to, computed. Assumes nothing.
use Rattle.std.specs.Prelude.{Bool, cond, ◌&&◌, List, [], ◌∷◌, ◌++◌, ℕ, suc, ◌*◌, ◌/◌, ◌%◌, eqb, leb, pos, nat_abs, ◌*ℤ◌, length, take, drop, Option, None, Some}
use Rattle.std.specs.Int.Signed.{quot_z}
use Rattle.std.specs.Simd.{first_chunks}
use Rattle.number.specs.Widths.{in_signed}
use Rattle.little_endian.specs.Bytes.{number, bytes_of}
use Rattle.rule.specs.Contribution.{Counts, counts}
use Rattle.rule.specs.Meaning.{DayTime, day_time_of}
use Rattle.records.specs.Slices.{Answer, converted, stays, not_read}

-- ---- one record

-- what a day-time record's 8 bytes hold, and back
abbrev pub day_time_in : List ℕ → DayTime
day_time_in r = day_time_of (number 4 (take 4 r)) (number 4 (drop 4 r))

abbrev pub day_time_bytes : DayTime → List ℕ
day_time_bytes x = bytes_of 4 x.days ++ bytes_of 4 x.millis

-- what a month-day-nano record's 16 bytes hold, and back
abbrev pub month_day_nano_in : List ℕ → Counts
month_day_nano_in r = counts (number 4 (take 4 r)) (number 4 (take 4 (drop 4 r))) (number 8 (drop 8 r))

abbrev pub month_day_nano_bytes : Counts → List ℕ
month_day_nano_bytes c = bytes_of 4 c.months ++ (bytes_of 4 c.days ++ bytes_of 8 c.nanos)

-- "months 0, its days, and its milliseconds times 1,000,000"
unfoldable pub to_month_day_nano : DayTime → Counts
to_month_day_nano x = counts (pos 0) x.days (x.millis *ℤ pos 1_000_000)

-- "months 0, nanoseconds a multiple of 1,000,000, and milliseconds that fit"
unfoldable pub goes : Counts → Bool
goes c = eqb (nat_abs c.months) 0 && (eqb (nat_abs c.nanos % 1_000_000) 0 && in_signed 31 (quot_z c.nanos (pos 1_000_000)))

unfoldable pub to_day_time : Counts → Option DayTime
to_day_time c = cond (goes c) (Some (day_time_of c.days (quot_z c.nanos (pos 1_000_000)))) None

-- the bytes of the other record, if there is one
unfoldable pub bytes_if : Option DayTime → Option (List ℕ)
bytes_if None = None
bytes_if (Some x) = Some (day_time_bytes x)

abbrev pub new_record : List ℕ → Option (List ℕ)
new_record r = Some (month_day_nano_bytes (to_month_day_nano (day_time_in r)))

abbrev pub old_record : List ℕ → Option (List ℕ)
old_record r = bytes_if (to_day_time (month_day_nano_in r))

-- ---- slices of them

-- bytes in front of the later records' bytes; a later record's index is one more
unfoldable pub behind : List ℕ → Answer (List ℕ) → Answer (List ℕ)
behind b (converted to) = converted (b ++ to)
behind b (stays i) = stays (suc i)
behind b (not_read n) = not_read n

-- a record's bytes in front of what the later ones answer; one that stays whatever they are
unfoldable pub on_record : Option (List ℕ) → Answer (List ℕ) → Answer (List ℕ)
on_record (Some b) later = behind b later
on_record None later = stays 0

-- the records, each converted
unfoldable pub convert_all : (List ℕ → Option (List ℕ)) → List (List ℕ) → Answer (List ℕ)
convert_all convert [] = converted []
convert_all convert (r ∷ records) = on_record (convert r) (convert_all convert records)

-- k records of `size` bytes, each converted to `other` bytes where there is room for all
unfoldable pub in_room : (List ℕ → Option (List ℕ)) → ℕ → ℕ → ℕ → ℕ → List ℕ → Answer (List ℕ)
in_room convert size other k room from = cond (leb (k * other) room) (convert_all convert (first_chunks size k from)) (not_read 14)

unfoldable pub conversion : (List ℕ → Option (List ℕ)) → ℕ → ℕ → List ℕ → ℕ → Answer (List ℕ)
conversion convert size other from room =
    cond (eqb (length from % size) 0) (in_room convert size other (length from / size) room from) (not_read 16)

-- old to new, and new to old, into a buffer with room for so many bytes
abbrev pub month_day_nanos : List ℕ → ℕ → Answer (List ℕ)
month_day_nanos from room = conversion new_record 8 16 from room

abbrev pub day_times : List ℕ → ℕ → Answer (List ℕ)
day_times from room = conversion old_record 16 8 from room

-- the other buffer after the call: "all records convert or nothing is written, and output past the last record is unchanged"
abbrev pub left : Answer (List ℕ) → List ℕ → List ℕ
left (converted bytes) before = bytes ++ drop (length bytes) before
left (stays i) before = before
left (not_read n) before = before
