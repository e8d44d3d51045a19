-- `Tournament::decrease_key` meets its contract. The invariant: as after the leaf's store, every word is right but perhaps the one at t, and
-- that one once x is let in.
use native.Mathlib.Omega.{arith}
use borrow.Author.Rules.{rules}
use Rattle.engine.specs.Tree.Climb.{decrease_start, decrease_on, decrease_done}
use Rattle.engine.proofs.tree.Tournament.decrease_key.Goals as goal

pub loop-t-preserved : goal.loop-t-preserved
loop-t-preserved c =
    let l = c.loop-t in
    (search rules, omega arith, λ before d. decrease_on _ _ _ _ _ (l.invariant.2 before d) (omega arith) (omega arith) c.if-x-self.true)

pub returns-else-x-self : goal.returns-else-x-self
returns-else-x-self c =
    let a = c.args in
    let p = c.requires in
    decrease_done _ _ _ _ _ (c.loop-t.invariant.2 a.self.now.keys (decrease_start _ _ a.self.now.keys (search rules) p.0 p.1)) (λ _. c.if-x-self.false)

pub returns-after-loop-t : goal.returns-after-loop-t
returns-after-loop-t c =
    let a = c.args in
    let p = c.requires in
    decrease_done _ _ _ _ _ (c.loop-t.invariant.2 a.self.now.keys (decrease_start _ _ a.self.now.keys (search rules) p.0 p.1)) (λ m. absurd (omega arith))
