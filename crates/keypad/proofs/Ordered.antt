-- Of two texts at most one is before the other. Assumes nothing.
use mathlib.Core.Path.{◌≡◌, refl, sym, ◌∙◌}
use mathlib.Core.List.{List}
use Prim.Native.Nat.{ℕ}
use native.Mathlib.Omega.{arith}
use lib.ListN.{length}
use Rattle.keypad.specs.Texts.{Component}
use Rattle.keypad.specs.Order.{Sooner, by_digit, by_unit, FromLeft, by_this, by_next, Earlier, fewer, as_many, Before, before}
use Rattle.keypad.proofs.Joins.{head_is, tail_is, one_list}

not_both : {c e : Component} → Sooner c e → Sooner e c → ⊥
not_both (by_digit h) (by_digit l) = omega arith
not_both (by_digit h) (by_unit e l) = omega (arith, e)
not_both (by_unit e h) (by_digit l) = omega (arith, e)
not_both (by_unit e h) (by_unit d l) = omega arith

never : {c e : Component} → Sooner c e → c ≡ e → ⊥
never s q = let t = rw (q) at s in not_both t t

-- of two lists, since the lists of both are the same
not_both_ways : {l m a b : List Component} → FromLeft l m → FromLeft a b → m ≡ a → l ≡ b → ⊥
not_both_ways (by_this s h) (by_this r k) p q = not_both s (rw (head_is p, head_is q) r)
not_both_ways (by_this s h) (by_next g) p q = never s (head_is q ∙ sym (head_is p))
not_both_ways (by_next f) (by_this r k) p q = never r (sym (head_is p) ∙ head_is q)
not_both_ways (by_next f) (by_next g) p q = not_both_ways f g (tail_is p) (tail_is q)

same_number : {l m : List Component} → FromLeft l m → length l ≡ length m
same_number (by_this s e) = omega (arith, e)
same_number (by_next f) = omega (arith, same_number f)

not_earlier : {l m : List Component} → Earlier l m → Earlier m l → ⊥
not_earlier (fewer h) (fewer k) = omega arith
not_earlier (fewer h) (as_many f) = omega (arith, same_number f)
not_earlier (as_many f) (fewer h) = omega (arith, same_number f)
not_earlier (as_many f) (as_many g) = not_both_ways f g refl refl

pub not_before : {t s : List ℕ} → Before t s → Before s t → ⊥
not_before (before {l} {m} j k h) (before {l = a} {m = b} p q i) =
    not_earlier h (rw (one_list k p, one_list j q) i)
