-- `judge_vertices`: the list is sound exactly if what the loop has not passed is.
use mathlib.Core.Path.{◌≡◌, sym, ◌∙◌}
use mathlib.Core.Bool.{Bool, true, false, not, cond, ◌&&◌}
use Rattle.std.specs.List.{list_any}
use mathlib.Core.Logic.{◌≢◌}
use mathlib.Core.List.{List}
use Prim.Native.Nat.{ℕ, ◌<◌, ◌+◌, ◌-◌}
use borrow.Author.Rules.{rules}
use lib.Dec.{eqb}
use lib.ListN.{length, get_or, take, drop, drop_of_length-le}
use Rattle.definitions.specs.declared.Cause.{Cause}
use Rattle.definitions.specs.Causes.{number_of}
use Rattle.definitions.specs.Lists.{every, mem, different, within}
use Rattle.definitions.specs.Judgement.{judge_vertices}
use Rattle.definitions.proofs.Laws.CauseLaws.{test_holds}
use Rattle.judgements.proofs.OneAfterAnother.{not_none}
use Rattle.judgements.proofs.VertexTests.{every_next, different_next, rest_part, and_inner, any_mem}
use Rattle.judgements.proofs.judge_vertices.Invariants.{sound}
use Rattle.judgements.proofs.judge_vertices.Goals.{then-is_within, else-is_within}
use Rattle.judgements.proofs.judge_vertices.Goals as goal

sound_next : (n : ℕ) (vs : List ℕ) (i : ℕ) → i < length vs
    → sound n (drop i vs) ≡ ((within n (get_or vs i 0) && not (mem (get_or vs i 0) (drop (i + 1) vs))) && sound n (drop (i + 1) vs))
sound_next n vs i l =
    rw (every_next (within n) vs i l, different_next vs i l)
    (and_inner (within n (get_or vs i 0)) (every (within n) (drop (i + 1) vs)) (not (mem (get_or vs i 0) (drop (i + 1) vs))) (different (drop (i + 1) vs)))

away : (b s : Bool) (r : ℕ) → r ≡ cond b 0 5 → r ≢ 0 → r ≡ cond (b && s) 0 5
away true s r h z = absurd (z h)
away false s r h z = h

module _ (n : ℕ) (vs : List ℕ) (i : ℕ) (b : Bool) (l : i < length vs)
    (t : b ≡ (within n (get_or vs i 0) && not (list_any (λ y. eqb y (get_or vs i 0)) (take (length vs - (i + 1)) (drop (i + 1) vs))))) where
  next : sound n (drop i vs) ≡ (b && sound n (drop (i + 1) vs))
  next = rw (sound_next n vs i l, t, rest_part vs (i + 1), any_mem (get_or vs i 0) (drop (i + 1) vs))

  turned_away : sound n vs ≡ sound n (drop i vs) → (e : Cause) → number_of e ≡ cond b 0 5 → number_of e ≡ judge_vertices n vs
  unfolding judge_vertices
  turned_away h e k = rw (h, next) (away b (sound n (drop (i + 1) vs)) (number_of e) k (not_none e))

pub returns-in_err-require : goal.returns-in_err-require
returns-in_err-require c =
    let vs = c.args.vertices.now in
    let i = c.loop-i.i in
    let t : c.if-is_within.require ≡ (within c.args.n (get_or vs i 0) && not (list_any (λ y. eqb y (get_or vs i 0)) (take (length vs - (i + 1)) (drop (i + 1) vs)))) = search rules in
    search (rules, turned_away _ vs i _ c.loop-i-test.true t c.loop-i.invariant)

pub loop-i-preserved : goal.loop-i-preserved
loop-i-preserved c =
    let vs = c.args.vertices.now in
    let i = c.loop-i.i in
    let t : c.if-is_within.require ≡ (within c.args.n (get_or vs i 0) && not (list_any (λ y. eqb y (get_or vs i 0)) (take (length vs - (i + 1)) (drop (i + 1) vs)))) = search rules in
    c.loop-i.invariant ∙ next _ vs i _ c.loop-i-test.true t ∙ rw (test_holds _ 4 (sym c.in_ok-require.ensures))

pub returns : goal.returns
unfolding judge_vertices every different
returns c = rw (c.loop-i.invariant, drop_of_length-le _ c.loop-i-test.false)
