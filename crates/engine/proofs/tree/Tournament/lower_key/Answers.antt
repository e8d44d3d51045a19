-- `Tournament::lower_key`: the lesser of the two keys is x, or the one that stands there.
use mathlib.Core.Path.{◌≡◌}
use Prim.Native.Nat.{min}
use native.Mathlib.Omega.{arith}
use Rattle.engine.specs.Tree.TreeWords.{key_at}
use Rattle.engine.specs.Tree.Climb.{key_stays}
use Rattle.engine.proofs.tree.Tournament.lower_key.Goals as goal

pub returns-then-x-self : goal.returns-then-x-self
returns-then-x-self c =
    let a = c.args in
    let e : min (key_at a.self.now.keys a.b) a.x ≡ a.x = omega (arith, c.if-x-self.true) in
    rw e c.decrease_key.ensures

pub returns-else-x-self : goal.returns-else-x-self
returns-else-x-self c =
    let a = c.args in
    let e : min (key_at a.self.now.keys a.b) a.x ≡ key_at a.self.now.keys a.b = omega (arith, c.if-x-self.false) in
    rw e (key_stays a.b a.self.now.keys)
