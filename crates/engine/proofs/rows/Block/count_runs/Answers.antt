-- `count_runs`: so many runs lie before the column that is looked at.
use Prim.Native.Nat.{◌<◌}
use native.Mathlib.Omega.{arith}
use Rattle.engine.specs.Heap.RowRuns.{run_some, count_begins, count_next, count_done}
use Rattle.engine.proofs.rows.Block.count_runs.Goals as goal

pub loop-c-init : goal.loop-c-init
loop-c-init c = let p = c.requires in (omega arith, count_begins _ _ _ _ _ (omega (arith, p.1)) p.3)

pub path_turn-stop-requires : goal.path_turn-stop-requires
path_turn-stop-requires c = let p = c.requires in (p.0, omega (arith, c.loop-c-test.true), p.2)

pub path_turn-c-requires : goal.path_turn-c-requires
path_turn-c-requires c = let p = c.requires in (p.0, c.path_turn-stop.ensures.high, p.2)

pub overflow_add-n : goal.overflow_add-n
overflow_add-n c = let i = c.loop-c.invariant in omega (arith, i.0, i.1.high, c.requires.2, c.args.self.now.indexed.inside)

pub loop-c-smaller : goal.loop-c-smaller
loop-c-smaller c = let further : c.loop-c.c < c.path_turn-c.result = let i = c.loop-c.invariant in omega (arith, run_some _ _ _ _ _ _ (i.1.path c.loop-c-test.true) c.loop-c-test.true c.path_turn-stop.ensures, c.path_turn-c.ensures.low) in
    omega (arith, further, c.path_turn-c.ensures.high, c.loop-c-test.true)

pub loop-c-preserved : goal.loop-c-preserved
loop-c-preserved c = let further : c.loop-c.c < c.path_turn-c.result = let i = c.loop-c.invariant in omega (arith, run_some _ _ _ _ _ _ (i.1.path c.loop-c-test.true) c.loop-c-test.true c.path_turn-stop.ensures, c.path_turn-c.ensures.low) in
    let i = c.loop-c.invariant in
    (omega (arith, i.0, further), count_next _ _ _ _ _ _ _ _ _ c.loop-c-test.true i.1 c.path_turn-stop.ensures c.path_turn-c.ensures)

pub returns : goal.returns
returns c = count_done _ _ _ _ _ _ _ c.loop-c-test.false c.loop-c.invariant.1
