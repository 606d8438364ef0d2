-- The text of components: the computed one (`joins`), of every list that is drawn (`joined`), and no text has two lists (`one_list`), since it has one
-- division. Assumes nothing.
use mathlib.Core.Path.{◌≡◌, refl, sym, ap, ◌∙◌}
use mathlib.Core.Bool.{true, false}
use mathlib.Core.List.{List, [], ◌∷◌, ◌++◌}
use Rattle.std.specs.Prelude.{Some}
use Prim.Native.Nat.{ℕ, suc, ◌+◌, ◌^◌, ◌≤◌, ◌<◌}
use native.Mathlib.Omega.{arith}
use lib.ListN.{length}
use lib.IntN.{pos}
use borrow.Author.Tests.{lt-ltb}
use Rattle.text.specs.Digits.{is_digit, digits, value}
use Rattle.text.proofs.Bools.{within_yes}
use Rattle.white.specs.WhiteSpace.{white}
use Rattle.number.specs.Decimal.{one_or_more}
use Rattle.unit.specs.Units.{spellings, same, one_of, find, low, kelvin, lower, unit_of, present, is_unit, units}
use Rattle.unit.specs.declared.IntervalUnit.{IntervalUnit}
use Rattle.unit.specs.declared.IntervalUnit.TheVariants.{Century, Decade, Year, Month, Week, Day, Hour, Minute, Second, Millisecond, Microsecond, Nanosecond}
use Rattle.amount.specs.Grammar.{valued, no_sign, Whole, whole_fits, Amount, whole}
use Rattle.component.specs.Grammar.{Component as Divided, component as divided, Complete, glued as glued_amount, Divides, last, more as one_before}
use Rattle.component.proofs.Agreement.{unique}
use Rattle.keypad.specs.Texts.{word, Component, component, Glued, glued, Joined, one, more}
use Rattle.keypad.specs.Answer.{glue, join}
use Rattle.keypad.proofs.Takes.{all_there}
use Rattle.keypad.proofs.Drawn.{Drawn, drawn_none, drawn_one, Among, nothing, among}

-- ---- the computed text

join_more : (c : Component) (l : List Component) → 0 < length l → join (c ∷ l) ≡ glue c ++ (0x20 ∷ join l)
unfolding join
join_more c [] h = absurd (omega arith)
join_more c (e ∷ l) h = refl

pub some_components : {t : List ℕ} {l : List Component} → Joined t l → 0 < length l
some_components (one g) = omega arith
some_components (more g j) = omega arith

glues : {t : List ℕ} {c : Component} → Glued t c → t ≡ glue c
unfolding glue
glues (glued h) = refl

pub joins : {t : List ℕ} {l : List Component} → Joined t l → t ≡ join l
unfolding join
joins (one g) = glues g
joins (more {t} {r} {c} {l} g j) = rw (join_more c l (some_components j), ← glues g, ← joins j) refl

pub joined : {c : ℕ} {l : List IntervalUnit} {m : List Component} → Drawn (suc c) l m → Joined (join m) m
unfolding join glue
joined (drawn_one h t drawn_none) = one (glued (omega arith))
joined (drawn_one h t (drawn_one i s q)) = more (glued (omega arith)) (joined (drawn_one i s q))

-- the components have a digit and a unit each
pub all_among : {t : List ℕ} {l : List Component} → Joined t l → Among units l
all_among (one (glued {u = u} h)) = among h (all_there u) nothing
all_among (more (glued {u = u} h) j) = among h (all_there u) (all_among j)

-- ---- the division of a text

-- a word spells its unit
pub word_unit : (u : IntervalUnit) → unit_of (word u) ≡ Some u
unfolding word spellings same one_of find low kelvin lower unit_of
word_unit Century = refl
word_unit Decade = refl
word_unit Year = refl
word_unit Month = refl
word_unit Week = refl
word_unit Day = refl
word_unit Hour = refl
word_unit Minute = refl
word_unit Second = refl
word_unit Millisecond = refl
word_unit Microsecond = refl
word_unit Nanosecond = refl

digit_worth : (d : ℕ) → value 0 ((0x30 + d) ∷ []) ≡ d
unfolding value
digit_worth d = omega arith

-- a digit is an amount
pub amount : (n d : ℕ) → d ≤ 9 → Amount n ((0x30 + d) ∷ []) (valued (pos d) (pos 0))
unfolding digits whole_fits
amount n d h =
    let b : is_digit (0x30 + d) ≡ true = within_yes 0x30 (0x30 + d) 0x39 (omega arith) (omega arith) in
    let w : Whole false ((0x30 + d) ∷ []) = record { written = one_or_more (rw (b) refl) refl; fitting = lt-ltb (value 0 ((0x30 + d) ∷ [])) (2 ^ 63) (omega (arith, digit_worth d)) } in
    let a : Amount n ((0x30 + d) ∷ []) (valued (pos (value 0 ((0x30 + d) ∷ []))) (pos 0)) = whole no_sign w in
    rw (digit_worth d) at a

-- the components as those of a division
unfoldable pub pieces : List Component → List Divided
pieces [] = []
pieces (c ∷ l) = divided ((0x30 + c.digit) ∷ []) false (Some (word c.unit)) ∷ pieces l

complete : {t : List ℕ} {c : Component} (n : ℕ) → Glued t c → Complete n t (divided ((0x30 + c.digit) ∷ []) false (Some (word c.unit)))
unfolding present is_unit
complete n (glued {d} {u} h) = glued_amount (amount n d h) (rw (word_unit u) refl)

pub divides : {t : List ℕ} {l : List Component} (n : ℕ) → Joined t l → Divides n t (pieces l)
unfolding pieces
divides n (one g) = last (complete n g)
divides n (more g j) = one_before (complete n g) (white 0x20 refl) (divides n j)

-- so no text has two lists of components
some_is : {A : Type 0} {a b : A} → Some a ≡ Some b → a ≡ b
some_is e = cc

pub head_is : {A : Type 0} {a b : A} {l m : List A} → a ∷ l ≡ b ∷ m → a ≡ b
head_is e = cc

pub tail_is : {A : Type 0} {a b : A} {l m : List A} → a ∷ l ≡ b ∷ m → l ≡ m
tail_is e = cc

same_pieces : (l m : List Component) → pieces l ≡ pieces m → l ≡ m
unfolding pieces
same_pieces [] [] e = refl
same_pieces [] (c ∷ m) e = cc
same_pieces (c ∷ l) [] e = cc
same_pieces (c ∷ l) (k ∷ m) e =
    let p : divided ((0x30 + c.digit) ∷ []) false (Some (word c.unit)) ≡ divided ((0x30 + k.digit) ∷ []) false (Some (word k.unit)) = head_is e in
    let a : (0x30 + c.digit) ∷ [] ≡ (0x30 + k.digit) ∷ [] = ap (λ (r : Divided). r.amount) p in
    let d : c.digit ≡ k.digit = omega (arith, head_is a) in
    let w : Some (word c.unit) ≡ Some (word k.unit) = ap (λ (r : Divided). r.unit) p in
    let u : c.unit ≡ k.unit = some_is (sym (word_unit c.unit) ∙ rw (some_is w) (word_unit k.unit)) in
    let r : component c.digit c.unit ≡ component k.digit k.unit = rw (d, u) refl in
    rw (r, same_pieces l m (tail_is e)) refl

pub one_list : {t : List ℕ} {l m : List Component} → Joined t l → Joined t m → l ≡ m
one_list {l = l} {m = m} j k = same_pieces l m (unique (divides 0 j) (divides 0 k))
