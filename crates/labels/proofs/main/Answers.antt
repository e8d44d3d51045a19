-- `labels::main` writes no more than its buffer holds: no listing is longer.
use Rattle.std.proofs.Common.{sym, arith}
use Rattle.std.proofs.lemmas.List.{length-take-le}
use Rattle.answer.specs.Listed.{written_fits}
use Rattle.labels.proofs.main.Goals as goal

pub slice_bounds-out-end : goal.slice_bounds-out-end
slice_bounds-out-end c =
    let fits = written_fits _ _ _ _ c.list_input-written.ensures.listed in
    omega (arith, c.list_input-written.auto.out)

pub slice_bounds-write_all-end : goal.slice_bounds-write_all-end
slice_bounds-write_all-end c =
    let fits = written_fits _ _ _ _ c.list_input-written.ensures.listed in
    sym (length-take-le _ _ (omega (arith, c.list_input-written.auto.out)))
