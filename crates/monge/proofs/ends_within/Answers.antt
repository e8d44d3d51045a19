-- `ends_within` compares with the limit less the count, so that no sum is formed.
use Prim.Native.Nat.{◌+◌, ◌-◌}
use native.Mathlib.Omega.{arith}
use Rattle.monge.proofs.RowLaws.{leb_same}
use Rattle.monge.proofs.ends_within.Goals as goal

pub returns-then-count-limit : goal.returns-then-count-limit
returns-then-count-limit c = let a = c.args in leb_same a.first (a.limit - a.count) (a.first + a.count) a.limit (λ h. omega arith) (λ h. omega arith)

pub returns-else-count-limit : goal.returns-else-count-limit
returns-else-count-limit c = let a = c.args in leb_same a.count a.limit (a.first + a.count) a.limit (λ h. omega arith) (λ h. omega arith)
