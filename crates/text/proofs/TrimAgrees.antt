-- The trimmed text by its definition is the one that is computed. Assumes nothing.
use Rattle.std.proofs.Common.{◌≡◌, ℕ, ◌-◌, true, false, ◌↔◌, List, [], ◌∷◌, ◌++◌, length, get_or, sym, refl, ap, ◌∙◌, subst, sub-one, arith}
use Rattle.text.specs.Trim.{blank, blanks, Trimmed, between, trim_start, before, trim_end, trimmed}
use Rattle.text.proofs.Bools.{and_left, and_right, by_test}
use Rattle.text.proofs.TrimLaws.{start_kept, end_kept}

-- ---- blanks around a text are trimmed off

start_blanks : (l t : List ℕ) → blanks l ≡ true → trim_start (l ++ t) ≡ trim_start t
unfolding blanks trim_start
start_blanks [] t e = refl
start_blanks (b ∷ l) t e = rw (and_left (blank b) (blanks l) e) (start_blanks l t (and_right (blank b) (blanks l) e))

start_all : (r : List ℕ) → blanks r ≡ true → trim_start r ≡ []
unfolding blanks trim_start
start_all [] e = refl
start_all (b ∷ r) e = rw (and_left (blank b) (blanks r) e) (start_all r (and_right (blank b) (blanks r) e))

end_blanks : (r : List ℕ) → blanks r ≡ true → trim_end r ≡ []
unfolding blanks trim_end
end_blanks [] e = refl
end_blanks (b ∷ r) e = rw (end_blanks r (and_right (blank b) (blanks r) e), and_left (blank b) (blanks r) e)

end_append : (m r : List ℕ) → blanks r ≡ true → trim_end (m ++ r) ≡ trim_end m
unfolding trim_end
end_append [] r e = end_blanks r e
end_append (b ∷ m) r e = ap (before b) (end_append m r e)

kept : (m r : List ℕ) → blanks r ≡ true → blank (get_or m 0 0) ≡ false → blank (get_or m (length m - 1) 0) ≡ false → trimmed (m ++ r) ≡ m
unfolding blanks
kept [] r e f g = ap trim_end (start_all r e) ∙ end_blanks [] refl
kept (b ∷ m) r e f g =
    ap trim_end (start_kept ((b ∷ m) ++ r) f) ∙ end_append (b ∷ m) r e ∙ end_kept (b ∷ m) (omega arith) g

complete : {t m : List ℕ} → Trimmed t m → trimmed t ≡ m
complete (between l m r e f g h) = ap trim_end (start_blanks l (m ++ r) e) ∙ kept m r f g h

-- ---- what is trimmed off are blanks

record Front (t : List ℕ) : Type 0 where
  off : List ℕ
  all : blanks off ≡ true
  whole : t ≡ off ++ trim_start t
  tight : blank (get_or (trim_start t) 0 0) ≡ false

front : (t : List ℕ) → Front t
unfolding blanks trim_start
front [] = record { off = []; all = refl; whole = refl; tight = refl }
front (b ∷ t) =
    let x = front t in
    by_test (blank b)
    (λ e. record { off = b ∷ x.off; all = rw e x.all; whole = rw e (ap (λ (l : List ℕ). b ∷ l) x.whole); tight = rw e x.tight })
    (λ e. record { off = []; all = refl; whole = rw e; tight = rw e e })

record Back (t : List ℕ) : Type 0 where
  off : List ℕ
  all : blanks off ≡ true
  whole : t ≡ trim_end t ++ off
  tight : blank (get_or (trim_end t) (length (trim_end t) - 1) 0) ≡ false

-- one byte more, where x is what is left of t without its blanks r
back_more : (b : ℕ) (t x r : List ℕ) → trim_end t ≡ x → blanks r ≡ true → t ≡ x ++ r → blank (get_or x (length x - 1) 0) ≡ false → Back (b ∷ t)
unfolding blanks trim_end
back_more b t [] r e a w h =
    by_test (blank b)
    (λ f. record { off = b ∷ t; all = rw f (rw (sym w) at a); whole = rw (e, f); tight = rw (e, f) })
    (λ f. record { off = r; all = a; whole = rw (e, f) (ap (λ (l : List ℕ). b ∷ l) w); tight = rw (e, f) f })
back_more b t (c ∷ x) r e a w h =
    record { off = r; all = a; whole = rw e (ap (λ (l : List ℕ). b ∷ l) w); tight = rw (e, sub-one) (rw sub-one at h) }

back : (t : List ℕ) → Back t
unfolding blanks trim_end
back [] = record { off = []; all = refl; whole = refl; tight = refl }
back (b ∷ t) = let x = back t in back_more b t (trim_end t) x.off refl x.all x.whole x.tight

-- the first byte stands if it is no blank
first : (b : ℕ) (x : List ℕ) → blank b ≡ false → blank (get_or (before b x) 0 0) ≡ false
first b [] e = rw e e
first b (c ∷ x) e = e

first_kept : (t : List ℕ) → blank (get_or t 0 0) ≡ false → blank (get_or (trim_end t) 0 0) ≡ false
unfolding trim_end
first_kept [] e = refl
first_kept (b ∷ t) e = first b (trim_end t) e

sound : (t : List ℕ) → Trimmed t (trimmed t)
sound t =
    let x = front t in
    let y = back (trim_start t) in
    subst (λ (u : List ℕ). Trimmed u (trimmed t)) (sym (x.whole ∙ ap (λ (u : List ℕ). x.off ++ u) y.whole))
    (between x.off (trimmed t) y.off x.all y.all (first_kept (trim_start t) x.tight) y.tight)

-- a text has one trimmed text, the computed one
pub agrees : (t m : List ℕ) → Trimmed t m ↔ (trimmed t ≡ m)
agrees t m = (complete, (λ e. subst (Trimmed t) e (sound t)))
