-- `put_runs`: the runs before the column that is looked at are written.
use mathlib.Core.Path.{◌≡◌, ◌∙◌}
use Prim.Native.Nat.{◌+◌, ◌-◌}
use native.Mathlib.Nat.{le_refl}
use native.Mathlib.Omega.{arith}
use Rattle.engine.specs.Heap.RowRuns.{runs_begin, runs_next, runs_done, run_some, some_run, stretch_fits, last_run}
use Rattle.engine.proofs.heap.put_runs.Goals as goal

pub loop-k-init : goal.loop-k-init
loop-k-init c =
    let p = c.requires.fits in
    runs_begin _ _ _ _ _ _ _ _ _ p.some p.at_first p.number_is (omega (arith, p.number_is, some_run _ _ c.args.block.now.labels.now _ _ _ p.some p.at_first))

pub overflow_add-last : goal.overflow_add-last
overflow_add-last c = omega (arith, c.requires.fits.places)

pub overflow_sub-last : goal.overflow_sub-last
overflow_sub-last c = let p = c.requires.fits in omega (arith, p.number_is, some_run _ _ c.args.block.now.labels.now _ _ _ p.some p.at_first)

pub path_turn-stop-requires : goal.path_turn-stop-requires
path_turn-stop-requires c = let p = c.requires.fits in (p.reads.row_in_lem, omega (arith, c.loop-k.invariant.inside), c.requires.inside)

pub put_run-sum-requires : goal.put_run-sum-requires
put_run-sum-requires c =
    let p = c.requires in
    let i = c.loop-k.invariant in
    let run = c.path_turn-stop.ensures in record { fits = (omega (arith, i.outside.long, i.high, p.fits.room), run_some _ _ _ _ _ _ i.path i.inside run, stretch_fits _ _ _ _ _ p.fits.reads _ _ run.high run.before); inside = omega (arith, run.high, p.inside) }

pub path_turn-c-requires : goal.path_turn-c-requires
path_turn-c-requires c = let p = c.requires.fits in (p.reads.row_in_lem, c.path_turn-stop.ensures.high, c.requires.inside)

pub loop-k-preserved : goal.loop-k-preserved
loop-k-preserved c =
    let p = c.requires.fits in
    runs_next _ _ _ _ _ _ _ _ _ p.number_is _ _ _ _ c.loop-k.invariant _ _ _ _ (omega (arith, c.loop-k-test.true)) c.path_turn-stop.ensures c.path_turn-c.ensures c.put_run-sum.ensures

pub put_run-requires : goal.put_run-requires
put_run-requires c =
    let p = c.requires in
    let z : c.loop-k.k ≡ c.args.place + c.args.number - 1 = omega (arith, c.loop-k.invariant.high, c.loop-k-test.false) in
    let i = rw z at c.loop-k.invariant in
    let run = last_run _ _ _ _ _ _ _ _ _ p.fits.number_is _ _ _ _ i (omega (arith, i.high)) p.fits.at_last in
    record { fits = (omega (arith, i.outside.long, i.high, p.fits.room), i.inside, stretch_fits _ _ _ _ _ p.fits.reads _ _ (le_refl _) run.1); inside = p.inside }

pub shape_of-heap : goal.shape_of-heap
shape_of-heap c = c.put_run.ensures.put.outside.long ∙ c.loop-k.invariant.outside.long

pub returns : goal.returns
returns c =
    let p = c.requires.fits in
    let z : c.loop-k.k ≡ c.args.place + c.args.number - 1 = omega (arith, c.loop-k.invariant.high, c.loop-k-test.false) in
    let i = rw z at c.loop-k.invariant in
    runs_done _ _ _ _ _ _ _ _ _ p.number_is _ _ _ _ i _ _ (omega (arith, i.high)) p.at_last c.put_run.ensures
