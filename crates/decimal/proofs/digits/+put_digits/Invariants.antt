use Rattle.decimal.proofs.digits.+put_digits.Given as goal

-- the number falls at each call
abbrev pub decreases-put_digits : goal.decreases-put_digits
decreases-put_digits l = l.n
