-- `run_session`: a refusal, or the calls on the loaded rectangle.
use Rattle.std.proofs.Common.{sym, arith}
use Rattle.judgements.proofs.OneAfterAnother.{not_none}
use Rattle.rectangles.specs.RectangleRows.{length_grid}
use Rattle.engine.specs.Session.Judged.{accepted}
use Rattle.engine.specs.Session.Plain.{plain_session}
use Rattle.engine.specs.Session.Whole.{session_refused, lent_long, lent_serves, session_done}
use Rattle.engine.proofs.session.run_session.Goals as goal

pub returns-in-Err : goal.returns-in-Err
returns-in-Err c =
    let x = session_refused _ _ _ _ _ _ _ _ c.in-Err.ensures (not_none _) in
    record { served = rw c.refused_session.ensures x; plain = rw c.refused_session.ensures (plain_session _ _ _ _ _ _ _ _ _ _ x) }

pub slice_bounds-rectangle-end : goal.slice_bounds-rectangle-end
slice_bounds-rectangle-end c =
    let s = (accepted _ _ _ _ _ _ _ c.in_default.ensures).sides_fit in
    rw c.load-rectangle.ensures (omega (arith, length_grid c.args.lengths.now, s.rows_few))

pub slice_bounds-serve-end : goal.slice_bounds-serve-end
slice_bounds-serve-end c = rw c.load-rectangle.ensures (sym (lent_long _ _ _ _ _ _ _ (accepted _ _ _ _ _ _ _ c.in_default.ensures)))

pub serve-requires : goal.serve-requires
serve-requires c = lent_serves _ _ _ _ _ _ _ (accepted _ _ _ _ _ _ _ c.in_default.ensures) _ c.load-rectangle.ensures

pub returns : goal.returns
returns c =
    let passed = c.in_default.ensures in
    let x = session_done _ _ _ _ _ _ _ (accepted _ _ _ _ _ _ _ passed) passed _ c.load-rectangle.ensures _ _ _ c.serve.ensures in
    record { served = x; plain = plain_session _ _ _ _ _ _ _ _ _ _ x }
