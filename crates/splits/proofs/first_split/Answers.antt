-- `first_split` returns where a size begins: `first_split_lem` computes it for each size that the list has.
use mathlib.Core.Path.{sym}
use Prim.Native.Nat.{ℕ, zero, suc, ◌-◌, ◌*◌, ◌≤◌}
use native.Mathlib.Nat.{mul-le-mul}
use native.Mathlib.Omega.{arith}
use borrow.Author.Tests.{le-leb, lt-leb}
use Rattle.definitions.specs.Limits.{max_size}
use Rattle.definitions.specs.Lists.{within}
use Rattle.splits.specs.Table.{first_split}
use Rattle.splits.proofs.Halving.{counted, first_split_lem}
use Rattle.splits.proofs.first_split.Goals as goal

square : (k : ℕ) → k ≤ k * k
square zero = omega arith
square (suc k) = let h : suc k * 1 ≤ suc k * suc k = mul-le-mul (omega arith) (omega arith) in omega arith

pub returns-then-m-lt1 : goal.returns-then-m-lt1
unfolding first_split within
returns-then-m-lt1 c = simp (lt-leb 1 _ c.if-m-lt1.true, counted)

pub returns-then-m-gt-ROW_PLACES : goal.returns-then-m-gt-ROW_PLACES
unfolding first_split within
returns-then-m-gt-ROW_PLACES c = simp (le-leb 1 _ c.if-m-lt1.false, lt-leb _ max_size c.if-m-gt-ROW_PLACES.true, counted)

pub overflow_mul-result : goal.overflow_mul-result
overflow_mul-result c = let k = c.args.m - 1 in omega (arith, mul-le-mul {n₁ = k} {m₁ = k} {n₂ = max_size - 1} {m₂ = max_size - 1} (omega arith) (omega arith))

pub overflow_sub-result : goal.overflow_sub-result
overflow_sub-result c = square _

pub returns : goal.returns
returns c = sym (first_split_lem _ c.if-m-lt1.false c.if-m-gt-ROW_PLACES.false)
