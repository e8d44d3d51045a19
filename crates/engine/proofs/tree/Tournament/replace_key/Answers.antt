-- `Tournament::replace_key` meets its contract. The invariant: as after the leaf's store, every word is right but perhaps the one above t.
use mathlib.Core.Path.{◌≡◌, sym, ap, ◌∙◌}
use Prim.Native.Nat.{◌+◌, ◌/◌, ◌≤◌, min}
use native.Mathlib.Omega.{arith}
use borrow.Author.Rules.{rules}
use lib.ListN.{length-set}
use lib.Seq.{get_or-set_same}
use Rattle.engine.specs.Tree.Pairs.{sibling, pair, sibling_xor}
use Rattle.engine.specs.Tree.TreeWords.{levels, leaves, at}
use Rattle.engine.specs.Tree.Climb.{climb_start, climb_on, climb_done, level_above, level_on}
use Rattle.engine.proofs.tree.Tournament.replace_key.Goals.{then-other-lesser, else-other-lesser}
use Rattle.engine.proofs.tree.Tournament.replace_key.Goals as goal

pub loop-init : goal.loop-init
loop-init c = (search rules, search rules, omega arith, get_or-set_same c.args.self.now.keys (leaves + c.args.b) c.args.x 0 (omega arith), λ before k. k)

pub offset_bounds-self-t-in-loop : goal.offset_bounds-self-t-in-loop
offset_bounds-self-t-in-loop c =
    let l = c.loop in
    omega (arith, sibling_xor l.t, level_above l.counter l.t (omega arith) l.invariant.2)

pub bounds-self-t-in-loop : goal.bounds-self-t-in-loop
bounds-self-t-in-loop c =
    let l = c.loop in
    omega (arith, sibling_xor l.t, l.invariant.1, level_above l.counter l.t (omega arith) l.invariant.2)

pub loop-preserved : goal.loop-preserved
loop-preserved c =
    let l = c.loop in
    let k = l.invariant.2 in
    let m : 2 ≤ l.t = level_above l.counter l.t (omega arith) k in
    let other = ap (at l.self.keys) (sibling_xor l.t) in
    let e : c.if-other-lesser.lesser ≡ min (at l.self.keys l.t) (at l.self.keys (sibling l.t)) = elim c.if-other-lesser.branch [ then-other-lesser w ↦ omega (arith, other) | else-other-lesser w ↦ omega (arith, other) ] in (
      omega arith,
      simp length-set l.invariant.1,
      level_on l.counter l.t (omega arith) k,
      get_or-set_same l.self.keys (l.t / 2) c.if-other-lesser.lesser 0 (omega arith),
      λ before d. climb_on _ _ _ _ _ _ (l.invariant.4 before d) (omega arith) (omega arith) (λ _. e ∙ sym (pair l.self.keys l.t)),
    )

pub returns : goal.returns
returns c =
    let a = c.args in
    let l = c.loop in
    let k : l.counter ≡ levels = omega arith in
    let m = rw k at l.invariant.2 in
    climb_done _ _ _ _ _ (l.invariant.4 a.self.now.keys (climb_start _ _ a.self.now.keys (search rules) c.requires)) (λ _ n _. absurd (omega arith))
