use Rattle.std.proofs.Common.{rules}
use Rattle.decimal.proofs.Recursion.{one_put, more_put}
use Rattle.decimal.proofs.digits.+put_digits.Goals as goal

pub returns-then-n-lt10 : goal.returns-then-n-lt10
returns-then-n-lt10 t c = one_put c.if-n-lt10.true (search rules) c.put.ensures

pub returns : goal.returns
returns t c = more_put c.if-n-lt10.false (search rules) c.put_digits-end.ensures c.put-2.ensures
