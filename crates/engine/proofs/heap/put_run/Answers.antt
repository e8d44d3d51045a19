-- `put_run` writes the columns, and answers the lesser of their least sum and the other one.
use native.Mathlib.Omega.{arith}
use Rattle.std.proofs.Common.{◌≡◌, ℕ, min, cond, ltb, rules}
use Rattle.std.proofs.lemmas.Bool.{cond_below, cond_above}
use Rattle.engine.proofs.heap.put_run.Goals as goal

lesser_is : (s b r : ℕ) → r ≡ min s b → r ≡ cond (ltb b s) b s
lesser_is s b r e = grind (arith, e, cond_below, cond_above)

pub put_columns-requires : goal.put_columns-requires
put_columns-requires c = let p = c.requires in record { fits = p.fits; inside = p.inside }

pub interval-requires : goal.interval-requires
interval-requires c = omega (arith, c.requires.fits.0, c.put_columns.ensures.outside.long)

pub returns : goal.returns
returns c =
    let m = rw c.interval.ensures.best_sum_is at c.min.ensures in
    record { put = c.put_columns.ensures; small = search rules; least = lesser_is _ _ _ m }
