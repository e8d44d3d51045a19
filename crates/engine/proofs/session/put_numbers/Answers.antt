-- `put_numbers`: the numbers are copied over those from a place on.
use Rattle.std.proofs.Common.{refl}
use Rattle.engine.specs.Session.Fronts.{copied_sets}
use Rattle.engine.proofs.session.put_numbers.Goals as goal

pub returns : goal.returns
returns c = copied_sets _ _ _ _ _ c.copy_from_slice.ensures.after refl c.requires
