-- `State::run_calls`: after k calls the words hold the model of the first k calls.
use Rattle.std.proofs.Common.{arith}
use Rattle.engine.proofs.SessionChain.{kept_none, kept_lent, kept_more, kept_small, ran}
use Rattle.engine.proofs.session.State.run_calls.Goals as goal

pub loop-k-init : goal.loop-k-init
loop-k-init c = let f = c.requires.fresh in rw f.1 (kept_none _ _ _ _ _ _ f.0)

pub call_at-called-requires : goal.call_at-called-requires
call_at-called-requires c = record { kept = (_, kept_lent _ _ _ _ _ _ _ _ _ _ _ c.loop-k.invariant); room = (omega arith, omega arith) }

pub overflow_add-inserted : goal.overflow_add-inserted
overflow_add-inserted c =
    let few = kept_small _ _ _ _ _ _ _ _ _ _ _ (kept_more _ _ _ _ _ _ _ _ _ _ _ c.loop-k.invariant _ _ _ c.call_at-called.ensures.promised (omega arith)) in
    omega (arith, few)

pub overflow_add-removed : goal.overflow_add-removed
overflow_add-removed c =
    let few = kept_small _ _ _ _ _ _ _ _ _ _ _ (kept_more _ _ _ _ _ _ _ _ _ _ _ c.loop-k.invariant _ _ _ c.call_at-called.ensures.promised (omega arith)) in
    omega (arith, few)

pub loop-k-preserved : goal.loop-k-preserved
loop-k-preserved c =
    let e = c.call_at-called.ensures in
    rw (e.written, e.floor) (kept_more _ _ _ _ _ _ _ _ _ _ _ c.loop-k.invariant _ _ _ e.promised (omega arith))

pub returns : goal.returns
returns c = ran _ _ _ _ _ _ _ _ _ _ _ _ (omega arith) c.loop-k.invariant
